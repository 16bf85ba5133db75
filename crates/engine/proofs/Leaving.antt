-- How large the numbers are that a whole assignment leaves with a verdict.
--   Leaves P d        at most 48 columns, each value within ±M, each stride at most M, and no more steps than the limit
--   basis_within      no number of a basis lies beyond ±M, where none of its table does
--   assign_leaves     so a whole assignment does
-- Assumes nothing.
use mathlib.Core.Path.{◌≡◌, refl, sym, subst}
use mathlib.Core.Bool.{Bool, true, false, cond}
use mathlib.Core.List.{List, [], ◌∷◌, map}
use Prim.Native.Nat.{ℕ, ◌≤◌}
use native.Mathlib.Omega.{arith}
use lib.Dec.{ltb}
use lib.IntN.{ℤ}
use lib.ListN.{drop, get_or}
use Rattle.whole.proofs.Never.{untrue}
use Rattle.lattice.specs.Rows.{lead}
use Rattle.lattice.specs.Span.{All}
use Rattle.problem.specs.Limits.{M, max_columns}
use Rattle.problem.specs.Answers.{no_steps, answer_counts, is_verdict}
use Rattle.problem.specs.Checks.{Posed, first_cause}
use Rattle.problem.proofs.CheckLaws.{Fits, Passes, passes, fits}
use Rattle.problem.specs.Checks.{Check}
use Rattle.std.specs.Prelude.{Ok, Err}
use Rattle.tableau.specs.RightSide.{remaining, basis, Found, none, some}
use Rattle.tableau.proofs.Theorems.{solve_tells}
use Rattle.tableau.specs.Within.{Within}
use Rattle.tableau.proofs.Within.{within_drop}
use Rattle.settling.specs.Seating.{Seated, seat}
use Rattle.settling.specs.Settle.{settle}
use Rattle.settling.proofs.Settlings.{Values}
use Rattle.settling.proofs.Leaving.{seat_values, settle_values, total, settle_steps, strides_small}
use Rattle.engine.specs.Assign.{Buffers, Done, n, m, matrix, columns, lent_of, over_limit, settle_on, on_check, on_seated, on_found}
use Rattle.engine.specs.Assign.{solved, formed, assign_fit, assign}
use Rattle.engine.proofs.Readiness.{fit_column}
use Rattle.engine.proofs.Forming.{form_within, start_small}
use Rattle.engine.proofs.Assigning.{within_sized, found_basis, solved_kept}

pub record Leaves (P : Posed) (d : Done) : Type 0 where
  pub few : n P ≤ max_columns
  pub values : Values (n P) d.values
  pub strides : (j : ℕ) → get_or d.strides j 0 ≤ M
  pub steps : total (answer_counts d.answer) ≤ P.problem.limit

basis_within : (k : ℕ) (T : List (List ℤ)) → All Within T → All Within (basis k T)
unfolding remaining
basis_within k [] a = tt
basis_within k (r ∷ T) a = go (ltb (lead r) k) (basis_within k T a.1)
  where
    go : (t : Bool) → All Within (basis k T) → All Within (map (drop k) (cond t (remaining k T) (r ∷ remaining k T)))
    go true b = b
    go false b = (within_drop k r a.0, b)

module _ (P : Posed) (B : Buffers) (h : first_cause P (lent_of B) ≡ Ok tt) where
  abbrev q : Passes P (lent_of B)
  q = passes P (lent_of B) h

  abbrev f : Fits P (lent_of B)
  f = fits P (lent_of B) q

  start_values : (s : List ℤ) (N : List (List ℤ)) → (solved P).over ≡ false → (solved P).found ≡ some s N → Values (n P) s
  start_values s N o e = record {
    long = (rw e at (solve_tells (n P) (matrix P) P.rights (within_sized P B (record { passed = h })))).long;
    small = start_small P (lent_of B) q s N o e;
  }

  found_within : (s : List ℤ) (N : List (List ℤ)) → (solved P).over ≡ false → (solved P).found ≡ some s N → All Within N
  found_within s N o e =
      subst (All Within) (sym (found_basis P s N e))
      (basis_within (m P) (formed P).table (form_within P (lent_of B) q (solved_kept P o)))

  settled_leaves : (T N : List (List ℤ)) (v : List ℤ) → Values (n P) v → All Within N → Leaves P (settle_on P T N v)
  unfolding settle_on settle
  settled_leaves T N v a w = record {
    few = f.few_columns;
    values = settle_values (columns P) N (fit_column P (lent_of B) f) P.problem.limit no_steps v a;
    strides = strides_small (n P) N w;
    steps = settle_steps (columns P) N P.problem.limit P.problem.limit no_steps v (omega arith);
  }

  seated_leaves : (T N : List (List ℤ)) (s : List ℤ) (z : Seated) → Values (n P) s → All Within N → seat (columns P) N s ≡ z
      → is_verdict (on_seated P T N B z).answer ≡ true → Leaves P (on_seated P T N B z)
  seated_leaves T N s (Err why) a w e v = untrue v
  seated_leaves T N s (Ok u) a w e v = settled_leaves T N u (seat_values (columns P) (n P) N s u a e) w

  found_leaves : (T : List (List ℤ)) (x : Found) → (solved P).over ≡ false → (solved P).found ≡ x → is_verdict (on_found P T B x).answer ≡ true
      → Leaves P (on_found P T B x)
  found_leaves T none o e v = untrue v
  found_leaves T (some s N) o e v = seated_leaves T N s (seat (columns P) N s) (start_values s N o e) (found_within s N o e) refl v

  fit_leaves : is_verdict (assign_fit P B).answer ≡ true → Leaves P (assign_fit P B)
  fit_leaves = go (solved P).over refl
    where
      go : (t : Bool) → (solved P).over ≡ t → is_verdict (cond t (over_limit B) (on_found P (solved P).form B (solved P).found)).answer ≡ true
          → Leaves P (cond t (over_limit B) (on_found P (solved P).form B (solved P).found))
      go true o v = untrue v
      go false o v = found_leaves (solved P).form (solved P).found o refl v

pub assign_leaves : (P : Posed) (B : Buffers) → is_verdict (assign P B).answer ≡ true → Leaves P (assign P B)
unfolding assign
assign_leaves P B = go (first_cause P (lent_of B)) refl
  where
    go : (c : Check) → first_cause P (lent_of B) ≡ c → is_verdict (on_check c B (assign_fit P B)).answer ≡ true
        → Leaves P (on_check c B (assign_fit P B))
    go (Ok u) h v = fit_leaves P B h v
    go (Err why) h v = untrue v
