-- Lists of the joined columns, filled number by number.
--   SharedFields          each number of a shared column is what its list's rule makes of the two columns' numbers; its ideal goes by
--                         the first's mark
--   shared_field          so it is
--   unshared_alone, unshared_shared   the columns that are not shared, by the first partner
--   map_set, map_behind   the numbers of columns with one of them changed, and with one more behind
--   at_place              the number at a column's place, with anything behind the columns' numbers
--   put_shared, put_behind   the number of a shared column set at its place, and of an unshared one behind
--   absorb_into_lem       so a list of the joined columns is filled, where the first's numbers stand before and anything behind
--   absorb_ideals_into    and so their ideals, with the marks
-- Assumes nothing.
use mathlib.Core.Path.{◌≡◌, refl, sym, ◌∙◌, ap, ap₂}
use mathlib.Core.Bool.{cond}
use mathlib.Core.List.{List, [], ◌∷◌, ◌++◌, map, append-nil}
use Prim.Native.Nat.{ℕ, zero, suc, ◌<◌}
use native.Mathlib.Omega.{arith}
use lib.IntN.{ℤ, pos}
use lib.ListN.{length, get_or, set, length-append, length-set, length-map, get_or-map, get_or-append}
use lib.Seq.{set_at, set-append_left}
use Rattle.std.specs.Prelude.{Option, Some, None, is_none}
use Rattle.std.proofs.lemmas.List.Sums.{sum_by-cons}
use Rattle.whole.specs.Lists.{entry}
use Rattle.whole.specs.Tests.{is_zero}
use Rattle.pairing.specs.Parts.{PartColumn, no_column, at}
use Rattle.pairing.specs.Pairs.{larger, smaller}
use Rattle.pairing.proofs.Partners.{Ready, ready_set, ready_append}
use Rattle.joined.specs.Columns.{goal_of, set_first, shared, absorb, places_from, unshared}
use Rattle.joined.specs.Filling.{absorb_into, absorb_ideals}

abbrev given : PartColumn → ℤ
given c = c.given

abbrev ideal : PartColumn → ℤ
ideal c = c.ideal

-- ---- a shared column
pub record SharedFields : Type 0 where
  pub lower : (c d : PartColumn) → (shared c d).lower ≡ larger c.lower d.lower
  pub upper : (c d : PartColumn) → (shared c d).upper ≡ smaller c.upper d.upper
  pub low : (c d : PartColumn) → (shared c d).low ≡ goal_of smaller c.low d.low
  pub high : (c d : PartColumn) → (shared c d).high ≡ goal_of larger c.high d.high
  pub given : (c d : PartColumn) → (shared c d).given ≡ set_first c.given d.given
  pub ideal : (c d : PartColumn) → (shared c d).ideal ≡ cond (is_zero c.given) d.ideal c.ideal

pub shared_field : SharedFields
shared_field = record {
  lower = λ c d. refl;
  upper = λ c d. refl;
  low = λ c d. refl;
  high = λ c d. refl;
  given = λ c d. refl;
  ideal = λ c d. refl;
}

-- ---- the columns that are not shared
pub unshared_alone : (R : List (Option ℕ)) → unshared (None ∷ R) ≡ suc (unshared R)
unshared_alone R = omega (arith, sum_by-cons (λ (p : Option ℕ). cond (is_none p) 1 0) None R)

pub unshared_shared : (i : ℕ) (R : List (Option ℕ)) → unshared (Some i ∷ R) ≡ unshared R
unshared_shared i R = omega (arith, sum_by-cons (λ (p : Option ℕ). cond (is_none p) 1 0) (Some i) R)

-- ---- the numbers of columns, by any f
module _ (f : PartColumn → ℤ) where
  pub map_set : (L : List PartColumn) (i : ℕ) (d : PartColumn) → map f (set L i d) ≡ set (map f L) i (f d)
  map_set [] i d = refl
  map_set (c ∷ L) zero d = refl
  map_set (c ∷ L) (suc i) d = ap (λ (l : List ℤ). f c ∷ l) (map_set L i d)

  pub map_behind : (L : List PartColumn) (c : PartColumn) (u : List ℤ) → map f (L ++ (c ∷ [])) ++ u ≡ map f L ++ (f c ∷ u)
  map_behind [] c u = refl
  map_behind (d ∷ L) c u = ap (λ (l : List ℤ). f d ∷ l) (map_behind L c u)

  pub at_place : (L : List PartColumn) (i : ℕ) (u : List ℤ) → f no_column ≡ pos 0 → i < length L → entry i (map f L ++ u) ≡ f (at L i)
  at_place L i u n h =
      get_or-append (map f L) u (pos 0) i (omega (arith, length-map L f))
      ∙ ap (λ (z : ℤ). get_or (map f L) i z) (sym n)
      ∙ get_or-map f L i no_column

  pub put_shared : (L : List PartColumn) (i : ℕ) (d : PartColumn) (u : List ℤ) (z : ℤ) → i < length L → z ≡ f d
      → set (map f L ++ u) i z ≡ map f (set L i d) ++ u
  put_shared L i d u z h e =
      set-append_left (map f L) u i z (omega (arith, length-map L f))
      ∙ ap (λ (l : List ℤ). l ++ u) (ap (set (map f L) i) e ∙ sym (map_set L i d))

  pub put_behind : (L : List PartColumn) (k : ℕ) (c : PartColumn) (y : ℤ) (u : List ℤ) → k ≡ length L
      → set (map f L ++ (y ∷ u)) k (f c) ≡ map f (L ++ (c ∷ [])) ++ u
  put_behind L k c y u e = set_at (map f L) y u (f c) k (length-map L f ∙ sym e) ∙ sym (map_behind L c u)

-- ---- the joined columns
-- h is the number of a column that a list is for, and f what a shared column takes of two
module _ (f : ℤ → ℤ → ℤ) (h : PartColumn → ℤ) (none : h no_column ≡ pos 0) (both : (c d : PartColumn) → h (shared c d) ≡ f (h c) (h d)) where
  step_shared : (L : List PartColumn) (i : ℕ) (c : PartColumn) (u : List ℤ) → i < length L
      → set (map h L ++ u) i (f (entry i (map h L ++ u)) (h c)) ≡ map h (set L i (shared (at L i) c)) ++ u
  step_shared L i c u w =
      put_shared h L i (shared (at L i) c) u _ w
      (ap (λ (z : ℤ). f z (h c)) (at_place h L i u none w) ∙ sym (both (at L i) c))

  pub absorb_into_lem : (k : ℕ) (L : List PartColumn) (R : List (Option ℕ)) (C : List PartColumn) (u : List ℤ)
      → k ≡ length L → length R ≡ length C → unshared R ≡ length u → Ready L R C
      → absorb_into f (map h L ++ u) R (places_from k R) (map h C) ≡ map h (absorb L R C)
  unfolding absorb_into absorb places_from
  absorb_into_lem k L [] [] [] e l n w = append-nil (map h L)
  absorb_into_lem k L [] [] (y ∷ u) e l n w = absurd (omega arith)
  absorb_into_lem k L [] (c ∷ C) u e l n w = absurd (omega arith)
  absorb_into_lem k L (q ∷ R) [] u e l n w = absurd (omega arith)
  absorb_into_lem k L (None ∷ R) (c ∷ C) [] e l n w = absurd (omega (arith, unshared_alone R))
  absorb_into_lem k L (None ∷ R) (c ∷ C) (y ∷ u) e l n w =
      ap (λ (z : List ℤ). absorb_into f z R (places_from (suc k) R) (map h C)) (put_behind h L k c y u e)
      ∙ absorb_into_lem (suc k) (L ++ (c ∷ [])) R C u (omega (arith, length-append L (c ∷ []))) (omega arith) (omega (arith, unshared_alone R))
      (ready_append L R C (c ∷ []) w)
  absorb_into_lem k L (Some i ∷ R) (c ∷ C) u e l n w =
      ap (λ (z : List ℤ). absorb_into f z R (places_from k R) (map h C)) (step_shared L i c u w.0)
      ∙ absorb_into_lem k (set L i (shared (at L i) c)) R C u (e ∙ sym (length-set L i (shared (at L i) c))) (omega arith)
      (sym (unshared_shared i R) ∙ n)
      (ready_set L R C i (shared (at L i) c) w.2 w.3)

step_ideal : (L : List PartColumn) (i : ℕ) (c : PartColumn) (u v : List ℤ) → i < length L
    → set (map ideal L ++ v) i (cond (is_zero (entry i (map given L ++ u))) c.ideal (entry i (map ideal L ++ v)))
    ≡ map ideal (set L i (shared (at L i) c)) ++ v
step_ideal L i c u v h =
    put_shared ideal L i (shared (at L i) c) v _ h
    (ap₂ (λ (g a : ℤ). cond (is_zero g) c.ideal a) (at_place given L i u refl h) (at_place ideal L i v refl h)
    ∙ sym (shared_field.ideal (at L i) c))

pub absorb_ideals_into : (k : ℕ) (L : List PartColumn) (R : List (Option ℕ)) (C : List PartColumn) (u v : List ℤ)
    → k ≡ length L → length R ≡ length C → unshared R ≡ length u → unshared R ≡ length v → Ready L R C
    → absorb_ideals (map (λ c. c.given) L ++ u) (map (λ c. c.ideal) L ++ v) R (places_from k R) (map (λ c. c.given) C) (map (λ c. c.ideal) C)
    ≡ map (λ c. c.ideal) (absorb L R C)
unfolding absorb_ideals absorb places_from
absorb_ideals_into k L [] [] u [] e l n m h = append-nil (map ideal L)
absorb_ideals_into k L [] [] u (y ∷ v) e l n m h = absurd (omega arith)
absorb_ideals_into k L [] (c ∷ C) u v e l n m h = absurd (omega arith)
absorb_ideals_into k L (q ∷ R) [] u v e l n m h = absurd (omega arith)
absorb_ideals_into k L (None ∷ R) (c ∷ C) [] v e l n m h = absurd (omega (arith, unshared_alone R))
absorb_ideals_into k L (None ∷ R) (c ∷ C) (y ∷ u) [] e l n m h = absurd (omega (arith, unshared_alone R))
absorb_ideals_into k L (None ∷ R) (c ∷ C) (y ∷ u) (z ∷ v) e l n m h =
    ap₂ (λ (g a : List ℤ). absorb_ideals g a R (places_from (suc k) R) (map given C) (map ideal C)) (put_behind given L k c y u e)
    (put_behind ideal L k c z v e)
    ∙ absorb_ideals_into (suc k) (L ++ (c ∷ [])) R C u v (omega (arith, length-append L (c ∷ []))) (omega arith) (omega (arith, unshared_alone R))
    (omega (arith, unshared_alone R))
    (ready_append L R C (c ∷ []) h)
absorb_ideals_into k L (Some i ∷ R) (c ∷ C) u v e l n m h =
    ap₂ (λ (g a : List ℤ). absorb_ideals g a R (places_from k R) (map given C) (map ideal C))
    (step_shared set_first given refl shared_field.given L i c u h.0)
    (step_ideal L i c u v h.0)
    ∙ absorb_ideals_into k (set L i (shared (at L i) c)) R C u v (e ∙ sym (length-set L i (shared (at L i) c))) (omega arith)
    (sym (unshared_shared i R) ∙ n)
    (sym (unshared_shared i R) ∙ m)
    (ready_set L R C i (shared (at L i) c) h.2 h.3)
