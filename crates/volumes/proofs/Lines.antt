-- Laws of the lines that volumes add.
--   swept_slacks, -rights, no_column_lem   a path's line is an equal row with the number 0: it has no y, and its right side is 0
--   term_row n l                  the row of a line without a y: its terms alone; swept-table, those of the lines that volumes add
-- Assumes nothing.
use mathlib.Core.Path.{◌≡◌, refl, ap, ◌∙◌}
use mathlib.Core.List.{List, [], ◌∷◌, ◌++◌, map, append-nil}
use Prim.Native.Nat.{ℕ, ◌+◌}
use lib.IntN.{ℤ, pos}
use lib.ListN.{length}
use Rattle.whole.specs.Lists.{zeros}
use Rattle.sections.specs.Sections.{Line}
use Rattle.sections.specs.StatedColumns.{right_of, slack_columns, placed, coefficient_rows}
use Rattle.sections.specs.declared.Interval.{Interval}
use Rattle.sections.proofs.Storage.{slacks_two}
use Rattle.volumes.specs.Volumes.{SweepPath, Volume}
use Rattle.volumes.specs.PathLines.{path_line, swept_lines}

-- ---- the lines that volumes add
later_slacks : (first : SweepPath) (ps : List SweepPath) (ls : List Line) → slack_columns (map (path_line first) ps ++ ls) ≡ slack_columns ls
unfolding slack_columns
later_slacks first [] ls = refl
later_slacks first (p ∷ ps) ls = later_slacks first ps ls

pub swept_slacks : (vs : List Volume) → slack_columns (swept_lines vs) ≡ []
unfolding slack_columns swept_lines
swept_slacks [] = refl
swept_slacks ([] ∷ vs) = swept_slacks vs
swept_slacks ((first ∷ ps) ∷ vs) = later_slacks first ps (swept_lines vs) ∙ swept_slacks vs

pub no_column_lem : (ls : List Line) (vs : List Volume) → slack_columns (ls ++ swept_lines vs) ≡ slack_columns ls
no_column_lem ls vs =
    slacks_two ls (swept_lines vs) ∙ ap (λ (y : List Interval). slack_columns ls ++ y) (swept_slacks vs) ∙ append-nil (slack_columns ls)

later_rights : (first : SweepPath) (ps : List SweepPath) (ls : List Line) → map right_of ls ≡ zeros (length ls)
    → map right_of (map (path_line first) ps ++ ls) ≡ zeros (length (map (path_line first) ps ++ ls))
later_rights first [] ls h = h
later_rights first (p ∷ ps) ls h = ap (λ (u : List ℤ). pos 0 ∷ u) (later_rights first ps ls h)

pub swept_rights : (vs : List Volume) → map right_of (swept_lines vs) ≡ zeros (length (swept_lines vs))
unfolding swept_lines
swept_rights [] = refl
swept_rights ([] ∷ vs) = swept_rights vs
swept_rights ((first ∷ ps) ∷ vs) = later_rights first ps (swept_lines vs) (swept_rights vs)

abbrev pub term_row : ℕ → Line → List ℤ
term_row n l = placed l.terms (zeros n)

-- the next y is column c, and stays so
later_table : (n : ℕ) (first : SweepPath) (ps : List SweepPath) (ls : List Line)
    → ((c : ℕ) → coefficient_rows n c ls ≡ map (term_row n) ls)
    → (c : ℕ) → coefficient_rows n c (map (path_line first) ps ++ ls) ≡ map (term_row n) (map (path_line first) ps ++ ls)
unfolding coefficient_rows
later_table n first [] ls h c = h c
later_table n first (p ∷ ps) ls h c = ap (λ (T : List (List ℤ)). term_row n (path_line first p) ∷ T) (later_table n first ps ls h (c + 0))

pub swept_table : (n : ℕ) (vs : List Volume) (c : ℕ) → coefficient_rows n c (swept_lines vs) ≡ map (term_row n) (swept_lines vs)
unfolding swept_lines coefficient_rows
swept_table n [] c = refl
swept_table n ([] ∷ vs) c = swept_table n vs c
swept_table n ((first ∷ ps) ∷ vs) c = later_table n first ps (swept_lines vs) (swept_table n vs) c
