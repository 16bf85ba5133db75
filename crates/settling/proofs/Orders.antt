-- Strict weak orders, and that fractions are in one.
--   Weak Proper lt      lt is a strict weak order: never both ways, and "not below" goes on through a proper element
--   self                nothing is below itself
--   under_past          what is below y, where z is not below y, is below z
--   alike               elements that do not differ compare alike
--   back                the order read from the other side is one too; so `past_under` what y is not below, where y is below z, is below z
--   Strict In lt        lt is such an order of those that are In; `strict` as a strict weak order is of proper elements
--   skip                what y is not below, where y is below z, is below z
--   Total In lt         of two that differ one is below
--   Determinate q       the fraction q is not 0/0
--   below_weak          `below`, by cross products, is such an order, in which those are proper
--   weak_by             so is "larger" of those that have a fraction with a bottom above 0
-- Assumes nothing.
use mathlib.Core.Path.{◌≡◌, refl, sym, ◌∙◌}
use mathlib.Core.Bool.{Bool, true, false, true≢false}
use Prim.Native.Nat.{ℕ, zero, suc, ◌+◌, ◌*◌, ◌<◌, ◌≤◌}
use native.Mathlib.Nat.{mul-le-mul_right, le_of_mul-le-mul_right}
use native.Mathlib.Omega.{arith}
use borrow.Author.Tests.{le-ltb, ltb-true, ltb-false}
use Rattle.settling.specs.declared.Measure.{Measure}
use Rattle.settling.specs.Measures.{below}

pub record Weak {A : Type 0} (Proper : A → Type 0) (lt : A → A → Bool) : Type 0 where
  pub asym : (x y : A) → lt x y ≡ true → lt y x ≡ false
  pub past : (x y z : A) → Proper y → lt x y ≡ false → lt y z ≡ false → lt x z ≡ false

module _ {A : Type 0} {Proper : A → Type 0} {lt : A → A → Bool} (w : Weak Proper lt) where
  pub self : (x : A) → lt x x ≡ false
  self x = go (lt x x) refl
    where
      go : (t : Bool) → lt x x ≡ t → lt x x ≡ false
      go true e = w.asym x x e
      go false e = e

  pub under_past : (x y z : A) → Proper z → lt x y ≡ true → lt z y ≡ false → lt x z ≡ true
  under_past x y z p e f = go (lt x z) refl
    where
      go : (t : Bool) → lt x z ≡ t → lt x z ≡ true
      go true g = g
      go false g = absurd (true≢false (sym e ∙ w.past x z y p g f))

  pub alike : (x y z : A) → Proper x → Proper y → lt x y ≡ false → lt y x ≡ false → lt x z ≡ lt y z
  alike x y z p q e f = go (lt x z) (lt y z) refl refl
    where
      go : (a b : Bool) → lt x z ≡ a → lt y z ≡ b → lt x z ≡ lt y z
      go true true g h = g ∙ sym h
      go true false g h = absurd (true≢false (sym g ∙ w.past x y z q e h))
      go false true g h = absurd (true≢false (sym h ∙ w.past y x z p f g))
      go false false g h = g ∙ sym h

module _ {A : Type 0} {Proper : A → Type 0} {lt : A → A → Bool} (w : Weak Proper lt) where
  pub back : Weak Proper (λ x y. lt y x)
  back = record { asym = λ x y e. w.asym y x e; past = λ x y z p e f. w.past z y x p f e }

  pub past_under : (x y z : A) → Proper x → lt y x ≡ false → lt y z ≡ true → lt x z ≡ true
  past_under x y z p e f = under_past back z y x p f e

-- ---- the order of some elements
pub record Strict {A : Type 0} (In : A → Type 0) (lt : A → A → Bool) : Type 0 where
  pub asym : (x y : A) → lt x y ≡ true → lt y x ≡ false
  pub past : (x y z : A) → In x → In y → In z → lt x y ≡ false → lt y z ≡ false → lt x z ≡ false

pub record Total {A : Type 0} (In : A → Type 0) (lt : A → A → Bool) : Type 0 where
  pub order : Strict In lt
  pub same : (x y : A) → In x → In y → lt x y ≡ false → lt y x ≡ false → x ≡ y

module _ {A : Type 0} {In : A → Type 0} {lt : A → A → Bool} where
  pub strict : Weak In lt → Strict In lt
  strict w = record { asym = w.asym; past = λ x y z p q r. w.past x y z q }

  pub skip : Strict In lt → (x y z : A) → In x → In y → In z → lt y x ≡ false → lt y z ≡ true → lt x z ≡ true
  skip s x y z p q r e f = go (lt x z) refl
    where
      go : (b : Bool) → lt x z ≡ b → lt x z ≡ true
      go true g = g
      go false g = absurd (true≢false (sym f ∙ s.past y x z q p r e g))

-- ---- fractions
abbrev pub Determinate : Measure → Type 0
Determinate q = 0 < q.top + q.bottom

-- a/b at least c/d, c/d at least e/f: a/b is at least e/f
products : (a b c d e f : ℕ) → 0 < c + d → c * b ≤ a * d → e * d ≤ c * f → e * b ≤ a * f
products a zero c zero e f h x y = omega arith
products a (suc b) zero zero e f h x y = absurd (omega arith)
products a (suc b) (suc c) zero e f h x y = absurd (omega arith)
products a b c (suc d) e f h x y =
    let z : e * b * suc d ≤ a * f * suc d = omega (arith, mul-le-mul_right f x, mul-le-mul_right b y) in
    le_of_mul-le-mul_right z (omega arith)

pub below_weak : Weak Determinate below
below_weak = record {
  asym = λ x y e. le-ltb (y.top * x.bottom) (x.top * y.bottom) (omega (arith, ltb-true (x.top * y.bottom) (y.top * x.bottom) e));
  past = λ x y z h e f.
      le-ltb (x.top * z.bottom) (z.top * x.bottom)
      (products x.top x.bottom y.top y.bottom z.top z.bottom h
      (ltb-false (x.top * y.bottom) (y.top * x.bottom) e) (ltb-false (y.top * z.bottom) (z.top * y.bottom) f));
}

pub weak_by : {A : Type 0} {In : A → Type 0} (f : A → Measure) → ((x : A) → In x → 0 < (f x).bottom) → Weak In (λ x y. below (f y) (f x))
weak_by f p = record {
  asym = λ x y e. below_weak.asym (f y) (f x) e;
  past = λ x y z i e g. below_weak.past (f z) (f y) (f x) (omega (arith, p y i)) g e;
}
