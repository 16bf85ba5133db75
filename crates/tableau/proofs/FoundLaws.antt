-- Laws of what is found: it determines the set that it tells, and is determined by it.
--   tells_same     what tells a set tells each set with the same lists
--   tells_none     it is "none" exactly when the set is empty
--   tells_unique   two sets of lists of n numbers are the same exactly when the same is found for them
-- Assumes nothing.
use mathlib.Core.Path.{◌≡◌, refl, sym, ap₂, subst}
use mathlib.Core.Logic.Iff
use mathlib.Core.Logic.{◌↔◌}
use mathlib.Core.List.{List}
use Prim.Native.Nat.{ℕ}
use lib.IntN.{ℤ}
use lib.ListN.{length}
use Rattle.lattice.specs.Coset.{Describes}
use Rattle.lattice.proofs.Coset.{coset_self, describes_unique}
use Rattle.tableau.specs.RightSide.{Found, none, some}
use Rattle.tableau.specs.Generators.{Tells}

pub tells_same : (n : ℕ) (Q R : List ℤ → Type 0) (a : Found) → ((x : List ℤ) → length x ≡ n → Q x ↔ R x) → Tells n Q a → Tells n R a
tells_same n Q R none f p = λ x l r. p x l ((f x l).1 r)
tells_same n Q R (some s N) f p = record {
  form = p.form;
  wide = p.wide;
  hermite = p.hermite;
  is = p.is;
  long = p.long;
  reduced = p.reduced;
  set = λ x l. Iff.trans (Iff.symm (f x l)) (p.set x l);
}

-- the starting list is one of the lists
start_in : {n : ℕ} {Q : List ℤ → Type 0} {s : List ℤ} {N : List (List ℤ)} → Describes n Q s N → Q s
start_in {s = s} {N = N} p = (p.set s p.long).1 (coset_self N s)

pub tells_none : (n : ℕ) (Q : List ℤ → Type 0) (a : Found) → ((x : List ℤ) → Q x → length x ≡ n) → Tells n Q a
    → (a ≡ none) ↔ ((x : List ℤ) → Q x → ⊥)
tells_none n Q a ql p = ((λ e x q. subst (Tells n Q) e p x (ql x q) q), to a p)
  where
    to : (a : Found) → Tells n Q a → ((x : List ℤ) → Q x → ⊥) → a ≡ none
    to none p f = refl
    to (some s N) p f = absurd (f s (start_in p))

pub tells_unique : (n : ℕ) (Q R : List ℤ → Type 0) (a b : Found) → ((x : List ℤ) → Q x → length x ≡ n) → ((x : List ℤ) → R x → length x ≡ n)
    → Tells n Q a → Tells n R b → ((x : List ℤ) → Q x ↔ R x) ↔ (a ≡ b)
tells_unique n Q R a b ql rl p q = (to a b p q, λ e. from a p (subst (Tells n R) (sym e) q))
  where
    to : (a b : Found) → Tells n Q a → Tells n R b → ((x : List ℤ) → Q x ↔ R x) → a ≡ b
    to none none p q f = refl
    to none (some s N) p q f = absurd (p s q.long ((f s).1 (start_in q)))
    to (some s N) none p q f = absurd (q s p.long ((f s).0 (start_in p)))
    to (some s N) (some t M) p q f =
        let u : (s ≡ t) × (N ≡ M) = describes_unique p q (λ x l. f x) in
        ap₂ some u.0 u.1

    from : (a : Found) → Tells n Q a → Tells n R a → (x : List ℤ) → Q x ↔ R x
    from none p q x = ((λ y. absurd (p x (ql x y) y)), (λ y. absurd (q x (rl x y) y)))
    from (some s N) p q x = ((λ y. (q.set x (ql x y)).1 ((p.set x (ql x y)).0 y)), (λ y. (p.set x (rl x y)).1 ((q.set x (rl x y)).0 y)))
