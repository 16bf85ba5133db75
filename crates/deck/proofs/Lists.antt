-- Laws of the lists that leave the reader's tables.
--   compacted                   rows as narrow as the problem, of the widest rows; length_compacted, how many numbers they have
--   map_padded                  one number of each column, of a table of columns
--   entry_padded                a number of a list at the front of a buffer
--   entry_front                 a number of the first of two lists of columns
-- Assumes nothing.
use mathlib.Core.Path.{◌≡◌, refl, sym, ap, ap₂, ◌∙◌}
use mathlib.Core.List.{List, [], ◌∷◌, ◌++◌, map}
use Prim.Native.Nat.{ℕ, zero, suc, ◌+◌, ◌-◌, ◌*◌, ◌≤◌, ◌<◌}
use native.Mathlib.Omega.{arith}
use lib.IntN.{ℤ, pos}
use lib.ListN.{length, take, set, length-append, length-map, replicate}
use lib.Seq.{take_at}
use Rattle.whole.specs.Lists.{zeros, entry}
use Rattle.whole.proofs.Lists.{take_zeros, entry_zeros}
use Rattle.problem.specs.Kinds.{Slack, none, slack, slack_of, slack_count}
use Rattle.sections.specs.Sections.{deck_columns, Line}
use Rattle.sections.specs.StatedColumns.{placed, with_slack, coefficient_row, coefficient_rows, padded, padded_by, no_interval}
use Rattle.sections.specs.declared.Interval.{Interval}
use Rattle.sections.specs.declared.Term.{Term}
use Rattle.sections.proofs.Storage.{map_two, length_row, length_rows}
use Rattle.lattice.specs.Rows.{flat}

-- ---- a row's coefficients: the first n numbers of a wider row are the row of n
take_set : (n : ℕ) (u : List ℤ) (i : ℕ) (x : ℤ) → take n (set u i x) ≡ set (take n u) i x
take_set zero u i x = refl
take_set (suc n) [] i x = refl
take_set (suc n) (y ∷ u) zero x = refl
take_set (suc n) (y ∷ u) (suc i) x = ap (λ (v : List ℤ). y ∷ v) (take_set n u i x)

take_placed : (n : ℕ) (ts : List Term) (u : List ℤ) → take n (placed ts u) ≡ placed ts (take n u)
unfolding placed
take_placed n [] u = refl
take_placed n (t ∷ ts) u =
    take_placed n ts (set u (t.index - 1) t.coefficient) ∙ ap (placed ts) (take_set n u (t.index - 1) t.coefficient)

take_with_slack : (n : ℕ) (y : Slack) (c : ℕ) (u : List ℤ) → take n (with_slack y c u) ≡ with_slack y c (take n u)
take_with_slack n none c u = refl
take_with_slack n (slack k lo) c u = take_set n u c k

take_row : (n k c : ℕ) (l : Line) → n ≤ k → take n (coefficient_row k c l) ≡ coefficient_row n c l
take_row n k c l h =
    take_with_slack n (slack_of l.row.kind) c (placed l.terms (zeros k)) ∙
    ap (with_slack (slack_of l.row.kind) c) (take_placed n l.terms (zeros k) ∙ ap (placed l.terms) (take_zeros n k h))

-- ---- from the widest rows to rows of n
take_rows : (n k c : ℕ) (ls : List Line) → n ≤ k → map (take n) (coefficient_rows k c ls) ≡ coefficient_rows n c ls
unfolding coefficient_rows
take_rows n k c [] h = refl
take_rows n k c (l ∷ ls) h =
    ap₂ ◌∷◌ (take_row n k c l h) (take_rows n k (c + slack_count l.row.kind) ls h)

pub compacted : (n c m : ℕ) (ls : List Line) (z : List (List ℤ)) → n ≤ deck_columns → m ≡ length ls
    → flat (map (take n) (take m (coefficient_rows deck_columns c ls ++ z))) ≡ flat (coefficient_rows n c ls)
compacted n c m ls z h e =
    let l : length (coefficient_rows deck_columns c ls) ≡ m = length_rows deck_columns c ls ∙ sym e in
    ap (λ (T : List (List ℤ)). flat (map (take n) T)) (take_at (coefficient_rows deck_columns c ls) z m l)
    ∙ ap flat (take_rows n deck_columns c ls h)

pub length_compacted : (n c : ℕ) (ls : List Line) → length (flat (coefficient_rows n c ls)) ≡ length ls * n
unfolding coefficient_rows
length_compacted n c [] = omega arith
length_compacted n c (l ∷ ls) =
    let e = length_compacted n (c + slack_count l.row.kind) ls in
    length-append (coefficient_row n c l) (flat (coefficient_rows n (c + slack_count l.row.kind) ls))
    ∙ (rw (length_row n c l, e) (omega arith))

-- ---- one number of each column
pub map_padded : (f : Interval → ℤ) (size : ℕ) (is : List Interval) → f no_interval ≡ pos 0
    → map f (padded_by no_interval size is) ≡ padded size (map f is)
map_padded f size is z =
    map_two f is (replicate (size - length is) no_interval)
    ∙ ap (λ (u : List ℤ). map f is ++ u) (blanks (size - length is) ∙ ap zeros (ap (λ (k : ℕ). size - k) (sym (length-map is f))))
  where
    blanks : (k : ℕ) → map f (replicate k no_interval) ≡ zeros k
    blanks zero = refl
    blanks (suc k) = ap₂ ◌∷◌ z (blanks k)

-- ---- a list at the front
entry_zeros_behind : (u : List ℤ) (n j : ℕ) → entry j (u ++ zeros n) ≡ entry j u
entry_zeros_behind [] n j = entry_zeros j n
entry_zeros_behind (x ∷ u) n zero = refl
entry_zeros_behind (x ∷ u) n (suc j) = entry_zeros_behind u n j

pub entry_padded : (size j : ℕ) (u : List ℤ) → entry j (padded size u) ≡ entry j u
entry_padded size j u = entry_zeros_behind u (size - length u) j

pub entry_front : (f : Interval → ℤ) (u v : List Interval) (j : ℕ) → j < length u → entry j (map f (u ++ v)) ≡ entry j (map f u)
entry_front f [] v j h = absurd (omega (arith, h))
entry_front f (i ∷ u) v zero h = refl
entry_front f (i ∷ u) v (suc j) h = entry_front f u v j (omega (arith, h))
