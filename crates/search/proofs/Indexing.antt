-- What the sets of a basis tell.
--   in_holder        each vector that changes a column is in its set
-- Assumes nothing.
use mathlib.Core.Path.{◌≡◌, ◌∙◌, ap₂}
use mathlib.Core.Bool.{true, ◌&&◌}
use Prim.Native.Nat.{ℕ, ◌<◌}
use borrow.Author.Tests.{lt-ltb}
use lib.ListN.{get_or}
use Rattle.search.specs.declared.given.Search.{Search}
use Rattle.search.specs.Searches.{basis_of}
use Rattle.search.specs.Sets.{has, touches}

pub in_holder : (S : Search) (j : ℕ) → j < S.basis.columns → (s : ℕ) → s < S.basis.vectors → touches (basis_of S) s j ≡ true
    → has (get_or S.holders.now j 0) s ≡ true
in_holder S j h s k e = S.indexed.holder j h s ∙ ap₂ ◌&&◌ (lt-ltb s S.basis.vectors k) e
