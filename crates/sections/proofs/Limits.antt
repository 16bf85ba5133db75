-- The intervals that a text states lie within the limits.
--   Limited ..           what the limits say of the four numbers of an interval
--   At j is, Within is   they say it at the place j, and at each place, also past the last one, where all numbers are 0
--   section_within       so it is for a section that was read
--   pair_rule            the ranges that a text's two goals are read in are cause 5's test of them
-- Assumes nothing.
use mathlib.Core.Path.{◌≡◌, refl, sym, ◌∙◌, subst}
use mathlib.Core.Bool.{Bool, true, false, cond, ◌&&◌, ◌||◌, and-true, and-false, and_comm}
use mathlib.Core.List.{List, [], ◌∷◌, ◌++◌, map}
use Prim.Native.Nat.{ℕ, zero, suc, ◌≤◌}
use native.Mathlib.Omega.{arith}
use lib.Dec.{leb-zero, leb-suc-zero, eqb-suc-zero}
use lib.IntN.{ℤ, pos, negsuc, nat_abs, neg_ℤ}
use lib.Signed.{le_z}
use Rattle.whole.specs.Lists.{entry}
use Rattle.whole.specs.Tests.{is_zero, in_range}
use Rattle.whole.proofs.Tests.{all_true, range_small}
use Rattle.problem.specs.Limits.{max_bound, max_goal}
use Rattle.problem.specs.Checks.{goal_inside, both_or_none, goal_fits}
use Rattle.problem.specs.declared.Refusal.TheVariants.{Size, Bound, Goal}
use Rattle.std.proofs.Common.{Ok, Err}
use Rattle.sections.specs.Rules.{Outcome, then, within}
use Rattle.sections.specs.Sections.{deck_columns, spanning, upper_from, top_goal, top_high, high_from, interval, intervals, PairRule}
use Rattle.sections.specs.Sections.{interval_section}
use Rattle.sections.specs.StatedColumns.{lower_of, upper_of, low_of, high_of}
use Rattle.sections.specs.declared.Interval.{Interval}
use Rattle.sections.proofs.Numbers.{same_ok, ok_not_no, then_ok, within_in, abs_within}

pub record Limited (lower upper low high : ℤ) : Type 0 where
  pub lower_small : nat_abs lower ≤ max_bound
  pub upper_small : nat_abs upper ≤ max_bound
  pub low_small : nat_abs low ≤ max_goal
  pub high_small : nat_abs high ≤ max_goal
  pub goals_fit_lem : goal_fits lower low high ≡ true

abbrev pub At : ℕ → List Interval → Type 0
At j is = Limited (entry j (map lower_of is)) (entry j (map upper_of is)) (entry j (map low_of is)) (entry j (map high_of is))

pub record Within (is : List Interval) : Type 0 where
  pub each : (j : ℕ) → At j is

-- ---- the two goals: "A pair that breaks the rule is refused as 5 is now"
pub pair_rule : PairRule
pair_rule lower = by (le_z (pos 1) lower)
  where
    by : (t : Bool) (low high : ℤ) → in_range (pos 0) (cond t (pos max_goal) (pos 0)) low && in_range low (top_high low) high
        ≡ goal_inside low && (goal_inside high && (both_or_none low high && (le_z low high && (is_zero low || t))))
    by t (negsuc k) high = refl
    by t (pos k) (negsuc n) = simp and-false
    by true (pos zero) (pos zero) = refl
    by false (pos zero) (pos zero) = refl
    by t (pos zero) (pos (suc n)) = simp (leb-suc-zero, eqb-suc-zero, and-false)
    by t (pos (suc k)) (pos zero) = simp (leb-suc-zero, eqb-suc-zero, and-false)
    by true (pos (suc k)) (pos (suc n)) = simp (leb-zero, eqb-suc-zero, and-true, and_comm)
    by false (pos (suc k)) (pos (suc n)) = simp (leb-suc-zero, eqb-suc-zero, and-false)

goals_small : (lower low high : ℤ) → goal_fits lower low high ≡ true → (nat_abs low ≤ max_goal) × (nat_abs high ≤ max_goal)
goals_small lower low high e =
    let r = all_true (goal_inside low) (goal_inside high) _ e in
    (range_small max_goal low r.0, range_small max_goal high r.1)

-- ---- an interval
numbers_limited : (s : List ℕ) (t₀ t₁ t₂ t₃ t₄ : ℕ) (lower upper low high : ℤ) → spanning s max_bound Bound t₀ ≡ Ok (lower, t₁)
    → upper_from s lower t₁ ≡ Ok (upper, t₂) → within s (pos 0) (top_goal lower) Goal t₂ ≡ Ok (low, t₃) → high_from s low t₃ ≡ Ok (high, t₄)
    → Limited lower upper low high
numbers_limited s t₀ t₁ t₂ t₃ t₄ lower upper low high a b c d =
    let p = within_in (neg_ℤ (pos max_bound)) (pos max_bound) Bound lower t₁ s t₀ a in
    let q = within_in lower (pos max_bound) Bound upper t₂ s t₁ b in
    let r = within_in (pos 0) (top_goal lower) Goal low t₃ s t₂ c in
    let w = within_in low (top_high low) Goal high t₄ s t₃ d in
    let small : nat_abs lower ≤ max_bound = abs_within (neg_ℤ (pos max_bound)) max_bound lower (omega arith) p.0 p.1 in
    let fit : goal_fits lower low high ≡ true = sym (pair_rule lower low high) ∙ (rw (r.0, r.1, w.0, w.1)) in
    record {
      lower_small = small;
      upper_small = abs_within lower max_bound upper small q.0 q.1;
      low_small = (goals_small lower low high fit).0;
      high_small = (goals_small lower low high fit).1;
      goals_fit_lem = fit;
    }

interval_limited : (s : List ℕ) (at e : ℕ) (i : Interval) → interval s at ≡ Ok (i, e) → Limited i.lower i.upper i.low i.high
interval_limited s at e i h =
    let a = then_ok (spanning s max_bound Bound at) after_lower i e h in
    let b = then_ok (upper_from s a.what a.at) (after_upper a.what) i e a.second in
    let c = then_ok (within s (pos 0) (top_goal a.what) Goal b.at) (after_low a.what b.what) i e b.second in
    let d = then_ok (high_from s c.what c.at) (after_high a.what b.what c.what) i e c.second in
    made a.what b.what c.what d.what d.at
    (numbers_limited s at a.at b.at c.at d.at a.what b.what c.what d.what a.first b.first c.first d.first)
    d.second
  where
    after_high : (lower upper low high : ℤ) → ℕ → Outcome Interval
    after_high lower upper low high p = Ok (record { lower = lower; upper = upper; low = low; high = high }, p)

    after_low : (lower upper low : ℤ) → ℕ → Outcome Interval
    after_low lower upper low p = then (high_from s low p) (λ high q. after_high lower upper low high q)

    after_upper : (lower upper : ℤ) → ℕ → Outcome Interval
    after_upper lower upper p = then (within s (pos 0) (top_goal lower) Goal p) (λ low q. after_low lower upper low q)

    after_lower : (lower : ℤ) → ℕ → Outcome Interval
    after_lower lower p = then (upper_from s lower p) (λ upper q. after_upper lower upper q)

    made : (lower upper low high : ℤ) (p : ℕ) → Limited lower upper low high → after_high lower upper low high p ≡ Ok (i, e)
        → Limited i.lower i.upper i.low i.high
    made lower upper low high p l k = subst (λ (x : Interval). Limited x.lower x.upper x.low x.high) (same_ok k) l

-- ---- so many of them
nothing : Limited (pos 0) (pos 0) (pos 0) (pos 0)
nothing = record { lower_small = omega arith; upper_small = omega arith; low_small = omega arith; high_small = omega arith; goals_fit_lem = refl }

more : (done : List Interval) (i : Interval) → ((j : ℕ) → At j done) → Limited i.lower i.upper i.low i.high
    → (j : ℕ) → At j (done ++ (i ∷ []))
more [] i w o zero = o
more [] i w o (suc j) = nothing
more (d ∷ done) i w o zero = w 0
more (d ∷ done) i w o (suc j) = more done i (λ n. w (suc n)) o j

-- what the intervals behind the next one come to is told by `rest`
next_within : (s : List ℕ) (k : ℕ) (done : List Interval) (at e : ℕ) (is : List Interval) (o : Outcome Interval) → interval s at ≡ o → Within done
    → (rest : (i : Interval) (p : ℕ) → Within (done ++ (i ∷ [])) → intervals s k (done ++ (i ∷ [])) p ≡ Ok (is, e) → Within is)
    → then o (λ i p. intervals s k (done ++ (i ∷ [])) p) ≡ Ok (is, e) → Within is
next_within s k done at e is (Ok (i, p)) f w rest h =
    rest i p (record { each = more done i w.each (interval_limited s at p i f) }) h
next_within s k done at e is (Err why) f w rest h = absurd (ok_not_no h)

intervals_within : (s : List ℕ) (k : ℕ) (done : List Interval) (at e : ℕ) (is : List Interval) → Within done → intervals s k done at ≡ Ok (is, e)
    → Within is
unfolding intervals
intervals_within s zero done at e is w h = subst Within (same_ok h) w
intervals_within s (suc k) done at e is w h =
    next_within s k done at e is (interval s at) refl w (λ i p v f. intervals_within s k (done ++ (i ∷ [])) p e is v f) h

pub section_within : (s : List ℕ) (at e : ℕ) (is : List Interval) → interval_section s at ≡ Ok (is, e) → Within is
section_within s at e is h = go (within s (pos 1) (pos deck_columns) Size at) h
  where
    go : (o : Outcome ℤ) → then o (λ n p. intervals s (nat_abs n) [] p) ≡ Ok (is, e) → Within is
    go (Ok (n, p)) f = intervals_within s (nat_abs n) [] p e is (record { each = λ j. nothing }) f
    go (Err why) f = absurd (ok_not_no f)
