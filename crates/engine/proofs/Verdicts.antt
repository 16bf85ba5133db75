-- What the verdicts of a whole assignment and of Continue mean.
--   verdict_within                     with a verdict the checks have passed
--   assign_verdict, continue_verdict   what they say of the values left, of every problem and all lent buffers
-- Assumes nothing.
use mathlib.Core.Path.{◌≡◌, refl, sym, subst}
use mathlib.Core.Bool.{Bool, true, false, cond, true≢false}
use mathlib.Core.List.{List}
use lib.IntN.{ℤ}
use Rattle.problem.specs.Answers.{is_verdict}
use Rattle.problem.specs.Checks.{Posed, first_cause}
use Rattle.problem.specs.declared.Refusal.{Refusal}
use Rattle.problem.specs.declared.Refusal.TheVariants.{Elimination, NoWholeNumbers, Standing}
use Rattle.problem.specs.Checks.{Check}
use Rattle.std.specs.Prelude.{Ok, Err}
use Rattle.std.specs.Prelude.{Err}
use Rattle.tableau.specs.RightSide.{Found, none, some}
use Rattle.settling.specs.Seating.{Seated, seat}
use Rattle.settling.specs.Verdicts.{Means}
use Rattle.whole.proofs.Never.{never}
use Rattle.settling.proofs.Verdicts.{settle_means}
use Rattle.engine.specs.Assign.{Buffers, Done, columns, lent_of, refused, over_limit, settle_on, on_check, on_seated, on_found}
use Rattle.engine.specs.Assign.{solved, assign_fit, assign, stands, formed, continue_fit, continue}
use Rattle.engine.specs.Demand.{WithinLimits}
use Rattle.engine.specs.Outcomes.{basis_left, VerdictMeans}
use Rattle.engine.proofs.Assigning.{found_basis}

pub verdict_within : (P : Posed) (B : Buffers) (d : Done) → is_verdict (on_check (first_cause P (lent_of B)) B d).answer ≡ true → WithinLimits P B
verdict_within P B d = go (first_cause P (lent_of B)) refl
  where
    go : (c : Check) → first_cause P (lent_of B) ≡ c → is_verdict (on_check c B d).answer ≡ true → WithinLimits P B
    go (Ok u) h e = record { passed = h }
    go (Err why) h e = absurd (true≢false (sym e))

module _ (P : Posed) where
  -- over the basis N
  abbrev MeansOver : List (List ℤ) → Done → Type 0
  MeansOver N d = Means P.problem.limit (columns P) N d.answer d.values

  -- a refusal is no verdict
  no_verdict : (N : List (List ℤ)) (why : Refusal) (v : List ℤ) → Means P.problem.limit (columns P) N (Err why) v
  no_verdict N why v = record { fitted = λ k e. never (cc); outside = λ k e. never (cc); spent = λ k e. never (cc) }

  means_on : (T N : List (List ℤ)) (v : List ℤ) → MeansOver N (settle_on P T N v)
  unfolding settle_on
  means_on T N v = settle_means (columns P) N P.problem.limit v

  module _ (B : Buffers) where
    means_checked : (c : Check) (d : Done) → VerdictMeans P d → VerdictMeans P (on_check c B d)
    means_checked (Ok u) d h = h
    means_checked (Err why) d h = no_verdict (basis_left P) why B.values

    means_limited : (t : Bool) (d : Done) → VerdictMeans P d → VerdictMeans P (cond t (over_limit B) d)
    means_limited true d h = no_verdict (basis_left P) Elimination B.values
    means_limited false d h = h

    means_standing : (t : Bool) (d : Done) → VerdictMeans P d → VerdictMeans P (cond t d (refused Standing B.tableau B))
    means_standing true d h = h
    means_standing false d h = no_verdict (basis_left P) Standing B.values

    -- ---- whole assignments
    module _ (T : List (List ℤ)) where
      means_seated : (N : List (List ℤ)) (z : Seated) → MeansOver N (on_seated P T N B z)
      means_seated N (Err why) = no_verdict N why B.values
      means_seated N (Ok v) = means_on T N v

      means_found : (f : Found) → (solved P).found ≡ f → VerdictMeans P (on_found P T B f)
      means_found none e = no_verdict (basis_left P) NoWholeNumbers B.values
      means_found (some s N) e =
          subst (λ (K : List (List ℤ)). MeansOver K (on_found P T B (some s N))) (found_basis P s N e) (means_seated N (seat (columns P) N s))

pub assign_verdict : (P : Posed) (B : Buffers) → VerdictMeans P (assign P B)
unfolding assign
assign_verdict P B =
    means_checked P B (first_cause P (lent_of B)) (assign_fit P B)
    (means_limited P B (solved P).over (on_found P (solved P).form B (solved P).found) (means_found P B (solved P).form (solved P).found refl))

-- ---- Continue
pub continue_verdict : (P : Posed) (B : Buffers) → VerdictMeans P (continue P B)
unfolding continue
continue_verdict P B =
    means_checked P B (first_cause P (lent_of B)) (continue_fit P B)
    (means_standing P B (stands P B.values) (cond (formed P).over (over_limit B) settles)
    (means_limited P B (formed P).over settles (means_on P (formed P).table (basis_left P) B.values)))
  where
    settles : Done
    settles = settle_on P (formed P).table (basis_left P) B.values
