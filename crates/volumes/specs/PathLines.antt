-- Document 02, (iii): the rows that volumes add. "Path 1 less path k equals 0 is added, after all rows so far and in text order, as an equal row like
-- any other for each later path. An interval on both paths cancels and leaves no term."
--   without q p          the indices of the path p that are not on the path q
--   terms_of c p         a term with the coefficient c for each index of the path p
--   path_terms first p   path 1 less path k: what is on the one of them alone
--   path_line first p    the row of a later path, as a line; its terms need not rise
--   volume_lines v       the rows of a volume, one for each later path
--   swept_lines vs       those of all volumes, in text order
-- Assumes nothing.
use Rattle.std.specs.Prelude.{cond, List, [], ◌∷◌, ◌++◌, map, ℤ, pos, negsuc}
use Rattle.problem.specs.declared.Kind.TheVariants.{Equal}
use Rattle.sections.specs.Sections.{Line}
use Rattle.sections.specs.declared.Term.{Term}
use Rattle.volumes.specs.Volumes.{SweepPath, Volume, is_on}

-- "An interval on both paths cancels and leaves no term."
unfoldable pub without : SweepPath → SweepPath → SweepPath
without q [] = []
without q (j ∷ p) = cond (is_on j q) (without q p) (j ∷ without q p)

unfoldable pub terms_of : ℤ → SweepPath → List Term
terms_of c [] = []
terms_of c (j ∷ p) = record { index = j; coefficient = c } ∷ terms_of c p

-- "Path 1 less path k": 1 for path 1, −1 for path k
abbrev pub path_terms : SweepPath → SweepPath → List Term
path_terms first p = terms_of (pos 1) (without p first) ++ terms_of (negsuc 0) (without first p)

-- "equals 0 .. as an equal row like any other"
abbrev pub path_line : SweepPath → SweepPath → Line
path_line first p = record { row = record { kind = Equal; right = pos 0 }; terms = path_terms first p }

-- "for each later path"
abbrev pub volume_lines : Volume → List Line
volume_lines [] = []
volume_lines (first ∷ ps) = map (path_line first) ps

-- "in text order"
unfoldable pub swept_lines : List Volume → List Line
swept_lines [] = []
swept_lines (v ∷ vs) = volume_lines v ++ swept_lines vs
