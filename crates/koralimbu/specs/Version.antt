-- The library's version, which a program that links it compares with that of its header.
--   major, minor, patch   its parts; docs/CHANGES.md says what each version changed
--   version               the three as one number, so that a later version has a larger one
-- Assumes nothing.
use Rattle.std.specs.Prelude.{ℕ, ◌+◌, ◌*◌}

abbrev pub major : ℕ
major = 0

abbrev pub minor : ℕ
minor = 8

abbrev pub patch : ℕ
patch = 0

abbrev pub version : ℕ
version = major * 1000000 + minor * 1000 + patch
