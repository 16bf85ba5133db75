-- Laws of what the right side answers.
--   righted_over, -none, -late, -found   a number beyond ±M in the first half; the first m numbers not all 0; one in the second half; none
--   righted_starts                       where a starting list is found, it is the left list's numbers from m on
--   solution-.., start-..                what an answer says of the mark, and of the buffer of the starting list
--   list-.., found_is                    the list (−b, then zeros) that the right side starts with
-- Assumes nothing.
use mathlib.Core.Path.{◌≡◌, refl, sym, ◌∙◌, ap, ap₂, subst}
use mathlib.Core.Bool.{Bool, true, false, cond, ◌||◌}
use mathlib.Core.List.{List, ◌++◌}
use Prim.Native.Nat.{ℕ, ◌+◌, ◌-◌}
use native.Mathlib.Omega.{arith}
use lib.IntN.{ℤ, pos}
use lib.ListN.{length, take, drop, length-append, length-replicate}
use Rattle.whole.specs.Lists.{zeros}
use Rattle.whole.proofs.Lists.{drop_zeros}
use Rattle.lattice.specs.Rows.{neg, all_zero, chop}
use Rattle.lattice.proofs.RowLaws.{length_neg}
use Rattle.problem.specs.declared.Problem.{Problem}
use Rattle.tableau.specs.Elimination.{Left}
use Rattle.tableau.specs.RightSide as RightSide
use Rattle.tableau.specs.RightSide.{none, some, Solved, sweep, leading, remaining, basis, right_side, left_of, list_left}
use Rattle.rightside.specs.Solutions.{answer_of, solution_of, start_of, start_after, Righted, righted}
use Rattle.tableau.specs.Within.{Within}
use Rattle.tableau.proofs.Within.{within_append, within_neg, within_zeros}
use Rattle.rightside.specs.Sweeps.{Findable, found_of}
use Rattle.std.specs.Prelude.{Result, Ok, Err, IsErrAnd}
use Rattle.problem.specs.declared.Refusal.{Refusal}
use Rattle.problem.specs.declared.Refusal.TheVariants.{Elimination, NoWholeNumbers}

-- a list is found, or there is a refusal
refused : {A : Type 0} (a : A) (why : Refusal) → Ok a ≡ Err why → ⊥
refused a why e = let z : ◌≡◌ {A = ℕ} 0 1 = cc in omega arith

apart : {A : Type 0} → ◌≡◌ {A = Result A Refusal} (Err Elimination) (Err NoWholeNumbers) → ⊥
apart e = let z : ◌≡◌ {A = ℕ} 0 1 = cc in omega arith

abbrev pub Told : Type 0
Told = Result (Unit {0}) Refusal

abbrev pub told : Told → List ℤ → Righted
told r u = record { answer = r; list = u }

-- an error that is handed on by `?`
pub handed : {A : Type 0} {why : Refusal} (r : Result A Refusal) → IsErrAnd r (λ (e : Refusal). e ≡ why) → r ≡ Err why
handed (Ok a) h = absurd h
handed (Err e) h = ap Err h

module _ (m : ℕ) (T : List (List ℤ)) (v : List ℤ) where
  abbrev first : Left
  first = sweep (leading m T) v

  abbrev second : Left
  second = sweep (remaining m T) first.row

  -- by what the test of the first m numbers says, and the marks of the two halves
  abbrev by : Bool → Bool → Bool → Solved
  by z o p =
      cond z (record { form = T; found = some (drop m second.row) (basis m T); over = false || (o || p) })
      (record { form = T; found = none; over = false || o })

  is_by : right_side m T false v ≡ by (all_zero (take m first.row)) first.over second.over
  unfolding right_side
  is_by = refl

  abbrev all : Bool → Bool → Bool → Righted
  all z o p = record {
    answer = solution_of (by z o p) tt;
    list = cond (by z o p).over (zeros (length v)) (left_of (by z o p).found first.row second.row);
  }

  is_all : righted m T v ≡ all (all_zero (take m first.row)) first.over second.over
  unfolding right_side list_left
  is_all = refl

  pub righted_over : {u : List ℤ} → first.over ≡ true → u ≡ zeros (length v) → told (Err Elimination) u ≡ righted m T v
  righted_over e l =
      let z : Bool = all_zero (take m first.row) in
      ap (told (Err Elimination)) l ∙ sym (is_all ∙ ap (λ (o : Bool). all z o second.over) e ∙ go z)
    where
      go : (z : Bool) → all z true second.over ≡ told (Err Elimination) (zeros (length v))
      go true = refl
      go false = refl

  pub righted_none : {u : List ℤ} → first.over ≡ false → all_zero (take m first.row) ≡ false → u ≡ first.row
      → told (Err NoWholeNumbers) u ≡ righted m T v
  righted_none e z l = ap (told (Err NoWholeNumbers)) l ∙ sym (is_all ∙ ap₂ (λ (a o : Bool). all a o second.over) z e)

  -- the first m numbers are 0
  module _ (e : first.over ≡ false) (z : all_zero (take m first.row) ≡ true) where
    is_late : {p : Bool} → second.over ≡ p → righted m T v ≡ all true false p
    is_late f = is_all ∙ ap₂ (λ (a o : Bool). all a o second.over) z e ∙ ap (all true false) f

    pub righted_late : {u : List ℤ} → second.over ≡ true → u ≡ zeros (length v) → told (Err Elimination) u ≡ righted m T v
    righted_late f l = ap (told (Err Elimination)) l ∙ sym (is_late f)

    pub righted_found : {u : List ℤ} → second.over ≡ false → u ≡ second.row → told (Ok tt) u ≡ righted m T v
    righted_found f l = ap (told (Ok tt)) l ∙ sym (is_late f)

  starts_by : (z o p : Bool) (u : List ℤ) → told (Ok tt) u ≡ all z o p → (by z o p).found ≡ some (drop m u) (basis m T)
  starts_by true true p u e = absurd (refused tt Elimination (ap (λ (x : Righted). x.answer) e))
  starts_by true false true u e = absurd (refused tt Elimination (ap (λ (x : Righted). x.answer) e))
  starts_by true false false u e = ap (λ (x : Righted). some (drop m x.list) (basis m T)) (sym e)
  starts_by false true p u e = absurd (refused tt Elimination (ap (λ (x : Righted). x.answer) e))
  starts_by false false p u e = absurd (refused tt NoWholeNumbers (ap (λ (x : Righted). x.answer) e))

  pub righted_starts : {u : List ℤ} → told (Ok tt) u ≡ righted m T v → (right_side m T false v).found ≡ some (drop m u) (basis m T)
  righted_starts {u} e =
      ap (λ (x : Solved). x.found) is_by
      ∙ starts_by (all_zero (take m first.row)) first.over second.over u (e ∙ is_all)

-- ---- what an answer says of the solution
pub solution_found : {A : Type 0} (x : Solved) (a : A) → Ok a ≡ solution_of x a → x.over ≡ false
solution_found x a e = go x.over x.found e
  where
    go : (o : Bool) (f : RightSide.Found) → Ok a ≡ cond o (Err Elimination) (answer_of f a) → o ≡ false
    go true f e = absurd (refused a Elimination e)
    go false f e = refl

pub solution_over : {A : Type 0} (x : Solved) (a : A) → Err Elimination ≡ solution_of x a → x.over ≡ true
solution_over x a e = go x.over x.found e
  where
    go : (o : Bool) (f : RightSide.Found) → Err Elimination ≡ cond o (Err Elimination) (answer_of f a) → o ≡ true
    go true f e = refl
    go false none e = absurd (apart e)
    go false (some v N) e = absurd (refused a Elimination (sym e))

pub solution_kept : {A : Type 0} (x : Solved) (a : A) (why : Refusal) → (why ≡ Elimination → ⊥) → Err why ≡ solution_of x a → x.over ≡ false
solution_kept x a why n e = go x.over x.found e
  where
    go : (o : Bool) (f : RightSide.Found) → Err why ≡ cond o (Err Elimination) (answer_of f a) → o ≡ false
    go true f e = absurd (n cc)
    go false f e = refl

-- beside the solution another value may be answered
pub solution_err : {A B : Type 0} (x : Solved) (a : A) (b : B) (why : Refusal) → Err why ≡ solution_of x a → Err why ≡ solution_of x b
solution_err x a b why e = go x.over x.found e
  where
    go : (o : Bool) (f : RightSide.Found) → Err why ≡ cond o (Err Elimination) (answer_of f a) → Err why ≡ cond o (Err Elimination) (answer_of f b)
    go true f e = ap Err cc
    go false none e = ap Err cc
    go false (some v N) e = absurd (refused a why (sym e))

pub solution_ok : {A B : Type 0} (x : Solved) (a : A) (b : B) → Ok a ≡ solution_of x a → Ok b ≡ solution_of x b
solution_ok x a b e = go x.over x.found e
  where
    go : (o : Bool) (f : RightSide.Found) → Ok a ≡ cond o (Err Elimination) (answer_of f a) → Ok b ≡ cond o (Err Elimination) (answer_of f b)
    go true f e = absurd (refused a Elimination e)
    go false none e = absurd (refused a NoWholeNumbers e)
    go false (some v N) e = refl

-- a refusal leaves the buffer of the starting list
pub start_refused : {A : Type 0} (x : Solved) (a : A) (why : Refusal) (s : List ℤ) → Err why ≡ solution_of x a → start_after x s ≡ s
start_refused x a why s e = go x.over x.found e
  where
    go : (o : Bool) (f : RightSide.Found) → Err why ≡ cond o (Err Elimination) (answer_of f a) → cond o s (start_of f s) ≡ s
    go true f e = refl
    go false none e = refl
    go false (some v N) e = absurd (refused a why (sym e))

pub start_found : {A : Type 0} (x : Solved) (a : A) (s v : List ℤ) (N : List (List ℤ)) → Ok a ≡ solution_of x a → x.found ≡ some v N
    → start_after x s ≡ v
start_found x a s v N e f = ap₂ (λ (o : Bool) (g : RightSide.Found). cond o s (start_of g s)) (solution_found x a e) f

-- ---- the list (−b, then zeros)
module _ {p : Problem} {v t b s : List ℤ} (h : Findable p v t b s) where
  module _ {u : List ℤ} (e : u ≡ neg b ++ drop (length b) v) where
    list_is : u ≡ neg b ++ zeros p.columns
    list_is =
        e
        ∙ ap₂ (λ (i : ℕ) (l : List ℤ). neg b ++ drop i l) h.right h.zero
        ∙ ap (λ (l : List ℤ). neg b ++ l) (drop_zeros p.rows (p.rows + p.columns) ∙ ap zeros less)
      where
        less : p.rows + p.columns - p.rows ≡ p.columns
        less = omega arith

    pub list_wide : length u ≡ p.rows + p.columns
    list_wide =
        ap length list_is
        ∙ length-append (neg b) (zeros p.columns)
        ∙ ap₂ ◌+◌ (length_neg b ∙ h.right) (length-replicate p.columns (pos 0))

    pub list_small : Within u
    list_small = subst Within (sym list_is) (within_append (neg b) (zeros p.columns) (within_neg b h.small) (within_zeros p.columns))

    pub found_is : right_side p.rows (chop p.columns (length u) t) false u ≡ found_of p t b
    found_is = ap₂ (λ (i : ℕ) (l : List ℤ). right_side p.rows (chop p.columns i t) false l) list_wide list_is
