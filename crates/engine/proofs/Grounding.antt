-- What Continue and the preview start from, by what is found.
--   by_rounds, by_ground  what f makes of a refusal and the tableau left, or a where nothing is refused
--   ground_failed, -off, -over, -clear   what is found: by the checks, of a list that does not stand, past the limit, and with nothing refused
--   Clear P v L t u       nothing is refused, and u is the form's table; clear, where that is found
--   ground_told, clear_told   what a call is told of it, which has taken the lengths m of its lists; where nothing is refused, all is clear
--   unpacked              with a refusal nothing is said of the table of columns
--   clear_rounds, -passes, -fits, -laid, -small   what that gives
--   continue_ground       a Continue is made of what is found
-- Assumes nothing.
use mathlib.Core.Path.{◌≡◌, refl, sym, ◌∙◌, ap}
use mathlib.Core.Bool.{Bool, true, false, not, cond}
use mathlib.Core.List.{List}
use Prim.Native.Nat.{ℕ, ◌≤◌}
use borrow.Author.Tests.{not-true}
use lib.IntN.{ℤ, nat_abs}
use lib.ListN.{length}
use Rattle.whole.specs.Lists.{entry, zeros}
use Rattle.whole.proofs.Never.{never}
use Rattle.whole.proofs.Tests.{both_true}
use Rattle.lattice.specs.Rows.{flat}
use Rattle.problem.specs.Limits.{M, any_beyond}
use Rattle.problem.specs.Checks.{Posed, Check, first_cause}
use Rattle.problem.proofs.CheckLaws.{Passes, passes, Fits, fits}
use Rattle.problem.specs.declared.Lent.{Lent}
use Rattle.problem.specs.declared.Refusal.{Refusal}
use Rattle.problem.specs.declared.Refusal.TheVariants.{Elimination, Standing}
use Rattle.std.specs.Prelude.{Result, Ok, Err}
use Rattle.tableau.specs.RightSide.{basis}
use Rattle.tableau.proofs.Within.{within_entry}
use Rattle.engine.specs.Assign.{Buffers, Done, m, lent_of, rounds_of, refused, over_limit, settle_on, on_check, stands, formed, continue}
use Rattle.settling.specs.declared.Column.{Column}
use Rattle.engine.specs.Ground.{Grounded, grounded, on_first, laid_ground, Packs}
use Rattle.engine.proofs.Forming.{Laid}

abbrev told_rounds : ℕ → Result ℕ Refusal
told_rounds k = Ok k

same_told : {j k : ℕ} → told_rounds j ≡ told_rounds k → j ≡ k
same_told {j} {k} e = cc

module _ {A : Type 0} (f : Refusal → List ℤ → A) (a : A) where
  abbrev pub by_rounds : Result ℕ Refusal → List ℤ → A
  by_rounds (Ok k) t = a
  by_rounds (Err why) t = f why t

  abbrev pub by_ground : Grounded → A
  by_ground g = by_rounds g.rounds g.tableau

-- ---- what is found
module _ (P : Posed) (v : List ℤ) (L : Lent) (t : List ℤ) where
  pub ground_failed : {why : Refusal} → first_cause P L ≡ Err why → grounded (Err why) t ≡ laid_ground P v L t
  unfolding laid_ground
  ground_failed e = rw e refl

  pub ground_off : first_cause P L ≡ Ok tt → stands P v ≡ false → grounded (Err Standing) t ≡ laid_ground P v L t
  unfolding laid_ground
  ground_off e s = rw (e, s) refl

  pub ground_over : first_cause P L ≡ Ok tt → stands P v ≡ true → (formed P).over ≡ true
      → grounded (Err Elimination) (zeros (length t)) ≡ laid_ground P v L t
  unfolding laid_ground
  ground_over e s o = rw (e, s, o) refl

  pub ground_clear : first_cause P L ≡ Ok tt → stands P v ≡ true → (formed P).over ≡ false
      → grounded (Ok (rounds_of P)) (flat (formed P).table) ≡ laid_ground P v L t
  unfolding laid_ground
  ground_clear e s o = rw (e, s, o) refl

  -- ---- nothing is refused
  pub record Clear (u : List ℤ) : Type 0 where
    pub passed : first_cause P L ≡ Ok tt
    pub standing : stands P v ≡ true
    pub kept : (formed P).over ≡ false
    pub is : u ≡ flat (formed P).table

  pub clear : {k : ℕ} {u : List ℤ} → grounded (Ok k) u ≡ laid_ground P v L t → Clear u
  unfolding laid_ground
  clear {k} {u} e = go (first_cause P L) refl (stands P v) refl (formed P).over refl e
    where
      T : List ℤ
      T = flat (formed P).table

      refused_not : {why : Refusal} → told_rounds k ≡ Err why → Clear u
      refused_not {why} e = never (cc)

      go : (c : Check) → first_cause P L ≡ c → (s : Bool) → stands P v ≡ s → (o : Bool) → (formed P).over ≡ o
          → grounded (Ok k) u
          ≡ on_first c t (cond s (cond o (grounded (Err Elimination) (zeros (length t))) (grounded (Ok (rounds_of P)) T))
          (grounded (Err Standing) t))
          → Clear u
      go (Err why) g s h o k e = refused_not (ap (λ (x : Grounded). x.rounds) e)
      go (Ok u) g false h o k e = refused_not (ap (λ (x : Grounded). x.rounds) e)
      go (Ok u) g true h true k e = refused_not (ap (λ (x : Grounded). x.rounds) e)
      go (Ok u) g true h false k e = record { passed = g; standing = h; kept = k; is = ap (λ (x : Grounded). x.tableau) e }

  module _ {u : List ℤ} (c : Clear u) where
    pub clear_rounds : {k : ℕ} → grounded (Ok k) u ≡ laid_ground P v L t → k ≡ rounds_of P
    clear_rounds e = same_told (ap (λ (x : Grounded). x.rounds) (e ∙ sym (ground_clear c.passed c.standing c.kept)))

    abbrev pub clear_passes : Passes P L
    clear_passes = passes P L c.passed

    abbrev pub clear_fits : Fits P L
    clear_fits = fits P L clear_passes

    abbrev pub clear_laid : Laid P L clear_passes u
    clear_laid = record { is = c.is; kept = c.kept }

    pub clear_small : (j : ℕ) → nat_abs (entry j v) ≤ M
    clear_small j = within_entry v j (not-true _ (both_true (not (any_beyond v)) _ c.standing).0)

-- ---- what a call is told, which has taken the lengths of its lists
pub ground_told : (P : Posed) (v : List ℤ) (L m : Lent) (t : List ℤ) (r z : Result ℕ Refusal) (u : List ℤ) → m ≡ L
    → grounded r u ≡ laid_ground P v m t → r ≡ z → grounded z u ≡ laid_ground P v L t
ground_told P v L m t r z u g h e = ap (λ (x : Result ℕ Refusal). grounded x u) (sym e) ∙ h ∙ ap (λ (k : Lent). laid_ground P v k t) g

pub clear_told : (P : Posed) (v : List ℤ) (L m : Lent) (t : List ℤ) (r : Result ℕ Refusal) (k : ℕ) (u : List ℤ) → m ≡ L
    → grounded r u ≡ laid_ground P v m t → r ≡ Ok k → Clear P v L t u
clear_told P v L m t r k u g h e = clear P v L t (ground_told P v L m t r (Ok k) u g h e)

pub unpacked : {r : Result ℕ Refusal} {why : Refusal} → r ≡ Err why → (P : Posed) (l : List Column) → Packs r P l
unpacked {r} {why} e P l = record { is = λ k h. never (cc) }

-- ---- what is made of it
module _ (P : Posed) (B : Buffers) where
  abbrev d : Done
  d = settle_on P (formed P).table (basis (m P) (formed P).table) B.values

  by_cases :
      (c : Check) (s o : Bool) (k : ℕ) (u : List ℤ)
      → on_check c B (cond s (cond o (over_limit B) d) (refused Standing B.tableau B))
      ≡ by_ground (λ why t. refused why t B) d (on_first c B.tableau
      (cond s (cond o (grounded (Err Elimination) (zeros (length B.tableau))) (grounded (Ok k) u))
      (grounded (Err Standing) B.tableau)))
  by_cases (Err why) s o k u = refl
  by_cases (Ok z) false o k u = refl
  by_cases (Ok z) true true k u = refl
  by_cases (Ok z) true false k u = refl

  pub continue_ground : continue P B ≡ by_ground (λ why t. refused why t B) d (laid_ground P B.values (lent_of B) B.tableau)
  unfolding continue laid_ground
  continue_ground = by_cases (first_cause P (lent_of B)) (stands P B.values) (formed P).over (rounds_of P) (flat (formed P).table)
