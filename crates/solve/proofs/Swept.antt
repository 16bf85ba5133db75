-- Document 02, (iii): "A list satisfies the enlarged problem exactly when it satisfies the old one and all paths of each volume have equal sums."
--   deck_proper         the volumes of a text that is read have proper paths
--   rows_cut            the rows of lines, put end to end and cut
--   lines_satisfied     a list satisfies lines and those of volumes exactly when it satisfies these lines and sweeps the volumes
--   volumes_satisfied   the theorem
-- Assumes nothing.
use Rattle.std.specs.Prelude.{Ok}
use mathlib.Core.Path.{◌≡◌, sym, ◌∙◌, ap, ap₂, subst}
use mathlib.Core.Logic.{◌↔◌}
use mathlib.Core.List.{List, [], ◌∷◌, ◌++◌, map}
use Prim.Native.Nat.{ℕ, ◌+◌, ◌≤◌}
use native.Mathlib.Omega.{arith}
use lib.IntN.{ℤ}
use lib.ListN.{length, length-append, length-map}
use Rattle.whole.specs.Lists.{zeros}
use Rattle.lattice.specs.Rows.{chop, flat}
use Rattle.lattice.specs.Span.{All, Len}
use Rattle.lattice.specs.Sums.{Satisfies}
use Rattle.lattice.proofs.FlatLaws.{length_chop, chop_flat}
use Rattle.problem.specs.Kinds.{slack_count}
use Rattle.lattice.proofs.SumLaws.{satisfies_append, satisfies_zeros}
use Rattle.engine.specs.Demand.{SatisfiesRows}
use Rattle.sections.specs.Sections.{Line}
use Rattle.sections.specs.StatedColumns.{slack_columns, coefficient_rows, right_of}
use Rattle.sections.specs.declared.Interval.{Interval}
use Rattle.sections.proofs.Storage.{map_two, length_row, length_rows, rows_two}
use Rattle.volumes.specs.Volumes.{Volume}
use Rattle.volumes.specs.PathLines.{swept_lines}
use Rattle.volumes.specs.Sweeping.{Sweeps}
use Rattle.volumes.proofs.Lines.{swept_rights, no_column_lem, term_row, swept_table}
use Rattle.volumes.proofs.Reading.{AllProper, section_proper}
use Rattle.volumes.proofs.Sums.{swept_zero}
use Rattle.deck.specs.Posing.{Deck, read_deck, all_lines, columns_of, count_of, posed}
use Rattle.deck.proofs.Whole.{deck_parts, in_limits}
use Rattle.deck.proofs.Older.{lines_alone}
use Rattle.solve.specs.Swept.{unswept, VolumesSatisfied}

-- ---- what was read
deck_proper : (s : List ℕ) (d : Deck) (at : ℕ) → read_deck s ≡ Ok (d, at) → AllProper (length d.intervals) d.volumes
deck_proper s d at h =
    let p = deck_parts s d at (in_limits s d at h) in
    section_proper s (length d.intervals) (length d.lines) p.second p.third d.volumes p.volumes

-- ---- lines, in n columns of which the next y is column c
abbrev Lines : (n c : ℕ) → List Line → List ℤ → Type 0
Lines n c ls x = Satisfies n (chop (length ls) n (flat (coefficient_rows n c ls))) (map right_of ls) x

rows_wide : (n c : ℕ) (ls : List Line) → All (Len n) (coefficient_rows n c ls)
unfolding coefficient_rows
rows_wide n c [] = tt
rows_wide n c (l ∷ ls) = (length_row n c l, rows_wide n (c + slack_count l.row.kind) ls)

-- its rows put end to end and cut are its rows
rows_cut : (n c : ℕ) (ls : List Line) → chop (length ls) n (flat (coefficient_rows n c ls)) ≡ coefficient_rows n c ls
rows_cut n c ls =
    ap (λ (k : ℕ). chop k n (flat (coefficient_rows n c ls))) (sym (length_rows n c ls)) ∙ chop_flat n (coefficient_rows n c ls) (rows_wide n c ls)

lines_satisfied : (n c k : ℕ) (ls : List Line) (vs : List Volume) (x : List ℤ) → k ≤ n → AllProper k vs
    → Lines n c (ls ++ swept_lines vs) x ↔ (Lines n c ls x × Sweeps x vs)
lines_satisfied n c k ls vs x h w =
    let A : List (List ℤ) = chop (length ls) n (flat (coefficient_rows n c ls)) in
    let B : List (List ℤ) = map (term_row n) (swept_lines vs) in
    let b : List ℤ = map right_of ls in
    let table : chop (length (ls ++ swept_lines vs)) n (flat (coefficient_rows n c (ls ++ swept_lines vs))) ≡ A ++ B =
    rows_cut n c (ls ++ swept_lines vs) ∙ rows_two n c ls (swept_lines vs)
    ∙ ap₂ (λ (T U : List (List ℤ)). T ++ U) (sym (rows_cut n c ls)) (swept_table n vs (c + length (slack_columns ls))) in
    let rights : map right_of (ls ++ swept_lines vs) ≡ b ++ zeros (length B) =
    map_two right_of ls (swept_lines vs)
    ∙ ap (λ (u : List ℤ). b ++ u) (swept_rights vs ∙ ap zeros (sym (length-map (swept_lines vs) (term_row n)))) in
    let long = length-map ls right_of ∙ sym (length_chop (length ls) n (flat (coefficient_rows n c ls))) in
    let both = satisfies_append n A B b (zeros (length B)) x long in
    let zero = swept_zero n k h x vs w in
    let parts : Satisfies n (A ++ B) (b ++ zeros (length B)) x ↔ (Satisfies n A b x × Sweeps x vs) = (
      (λ s. ((both.0 s).0, zero.0 ((satisfies_zeros n B x s.wide).0 (both.0 s).1))),
      (λ s. both.1 (s.0, (satisfies_zeros n B x s.0.wide).1 (zero.1 s.1))),
    ) in
    subst (λ (S : Type 0). S ↔ (Satisfies n A b x × Sweeps x vs))
    (sym (ap₂ (λ (T : List (List ℤ)) (r : List ℤ). Satisfies n T r x) table rights)) parts

-- ---- the theorem
same_columns : (d : Deck) → columns_of d ≡ columns_of (unswept d)
same_columns d = ap (λ (u : List Interval). d.intervals ++ u) (no_column_lem d.lines d.volumes ∙ sym (no_column_lem d.lines []))

rows_satisfied : (s : List ℕ) (d : Deck) (at limit : ℕ) → read_deck s ≡ Ok (d, at)
    → (x : List ℤ) → SatisfiesRows (posed limit d) x ↔ (SatisfiesRows (posed limit (unswept d)) x × Sweeps x d.volumes)
unfolding posed
rows_satisfied s d at limit h x =
    let is = d.intervals in
    let ls = d.lines in
    let vs = d.volumes in
    let n : ℕ = length (is ++ slack_columns ls) in
    let c : ℕ = length is in
    let count : count_of d ≡ n = ap (λ (u : List Interval). length (is ++ u)) (no_column_lem ls vs) in
    let old : count_of (unswept d) ≡ n = ap (λ (u : List Interval). length (is ++ u)) (no_column_lem ls []) in
    let wide : c ≤ n = omega (arith, length-append is (slack_columns ls)) in
    subst (λ (S : Type 0). S ↔ (SatisfiesRows (posed limit (unswept d)) x × Sweeps x vs))
    (ap (λ (k : ℕ). Lines k c (all_lines d) x) (sym count))
    (subst (λ (S : Type 0). Lines n c (all_lines d) x ↔ (S × Sweeps x vs))
    (ap₂ (λ (k : ℕ) (ms : List Line). Lines k c ms x) (sym old) (sym (lines_alone is ls)))
    (lines_satisfied n c c ls vs x wide (deck_proper s d at h)))

pub volumes_satisfied : VolumesSatisfied
volumes_satisfied s d at limit h = record { columns = same_columns d; rows = rows_satisfied s d at limit h }
