-- Laws of whole numbers: their arithmetic, by way of natural numbers, and quotients by a number above 0.
--   rep x                    x as a difference of two natural numbers
--   diff, diff_rel           the rules that turn sums, products, equations and orders of differences into statements on naturals, which
--                            `omega` proves. So an identity, or a linear fact with its hypotheses as arrows, is one line:
--                            law x y = rw (rep x, rep y) (simp diff-rel (omega arith))
--   add_none                 a multiple of 0 adds nothing
--   nat_abs_zero, is_zero_true a number of magnitude 0, and the test for it
--   positive-.., above-..    what "above 0" says
--   multiple-..              multiples of a number above 0: which is 0, which two are the same
--   floor_quotient_low, -high what the floor quotient leaves lies in 0 to p − 1
--   floor_quotient_left      and has a magnitude below p
--   floor_by_machine         the floor quotient is the machine's, which cuts towards 0, less 1 where the remainder is below 0
-- Assumes nothing.
use mathlib.Core.Path.{◌≡◌, refl, ◌∙◌, ap}
use mathlib.Core.Logic.{◌↔◌}
use mathlib.Core.Bool.{Bool, true, false, not, cond}
use Prim.Native.Nat.{ℕ, zero, suc, ◌+◌, ◌*◌, ◌-◌, ◌<◌, ◌≤◌, ◌/◌, ◌%◌}
use native.Mathlib.Nat.{div-add-mod', div-eq_of_lt-le, mod-lt}
use native.Mathlib.Omega.{arith}
use borrow.Author.Tests.{eqb-true, le-ltb}
use lib.Dec.{T, ltb, ltb→lt, nltb→le, leb→le, le→leb, lt→ltb}
use lib.IntN.{ℤ, pos, negsuc, neg_ℤ, nat_abs, sub_ℕ, ◌+ℤ◌, ◌-ℤ◌, ◌*ℤ◌}
use lib.Signed.{◌≤ℤ◌, ◌<ℤ◌, lt_z, quot_z, rem_z}
use Rattle.whole.specs.Tests.{is_zero, Positive, positive}
use Rattle.whole.specs.Quotient.{floor_quotient}

-- ---- the parts of a number above and below 0, shut
pub plus_part : ℤ → ℕ
plus_part (pos n) = n
plus_part (negsuc n) = 0

pub minus_part : ℤ → ℕ
minus_part (pos n) = 0
minus_part (negsuc n) = suc n

parts_equal : (x y : ℤ) → plus_part x + minus_part y ≡ plus_part y + minus_part x → x ≡ y
unfolding plus_part minus_part
parts_equal (pos a) (pos b) h = ap pos (omega arith)
parts_equal (pos a) (negsuc b) h = absurd (omega arith)
parts_equal (negsuc a) (pos b) h = absurd (omega arith)
parts_equal (negsuc a) (negsuc b) h = ap negsuc (omega arith)

-- ---- a difference
infixl 60 ◌⊖◌
pub ◌⊖◌ : ℕ → ℕ → ℤ
a ⊖ b = sub_ℕ a b

cond_ind : (c : Bool) (x y : ℤ) (Q : ℤ → Type 0) → (T c → Q x) → (T (not c) → Q y) → Q (cond c x y)
cond_ind true x y Q f g = f tt
cond_ind false x y Q f g = g tt

parts : (a b : ℕ) → plus_part (a ⊖ b) + b ≡ a + minus_part (a ⊖ b)
unfolding ◌⊖◌ plus_part minus_part
parts a b = cond_ind (ltb a b) (negsuc (b - suc a)) (pos (a - b)) (λ z. plus_part z + b ≡ a + minus_part z)
    (λ t. omega (arith, ltb→lt a b t)) (λ t. omega (arith, nltb→le a b t))

pub rep : (x : ℤ) → x ≡ plus_part x ⊖ minus_part x
rep x = parts_equal x (plus_part x ⊖ minus_part x) (omega (arith, parts (plus_part x) (minus_part x)))

pub ⊖_pos : (n : ℕ) → pos n ≡ n ⊖ 0
unfolding plus_part minus_part
⊖_pos n = rep (pos n)

pub ⊖_negsuc : (n : ℕ) → negsuc n ≡ 0 ⊖ suc n
unfolding plus_part minus_part
⊖_negsuc n = rep (negsuc n)

-- ---- the operations on differences
parts_neg : (x : ℤ) → plus_part (neg_ℤ x) + plus_part x ≡ minus_part (neg_ℤ x) + minus_part x
unfolding plus_part minus_part
parts_neg (pos zero) = refl
parts_neg (pos (suc n)) = omega arith
parts_neg (negsuc n) = omega arith

parts_sub : (a b : ℕ) → plus_part (sub_ℕ a b) + b ≡ a + minus_part (sub_ℕ a b)
unfolding ◌⊖◌
parts_sub a b = parts a b

parts_add : (x y : ℤ) → plus_part (x +ℤ y) + (minus_part x + minus_part y) ≡ minus_part (x +ℤ y) + (plus_part x + plus_part y)
unfolding plus_part minus_part
parts_add (pos a) (pos b) = omega arith
parts_add (pos a) (negsuc b) = omega (arith, parts_sub a (suc b))
parts_add (negsuc a) (pos b) = omega (arith, parts_sub b (suc a))
parts_add (negsuc a) (negsuc b) = omega arith

parts_neg_pos : (n : ℕ) → plus_part (neg_ℤ (pos n)) + n ≡ minus_part (neg_ℤ (pos n))
unfolding plus_part minus_part
parts_neg_pos zero = refl
parts_neg_pos (suc n) = omega arith

parts_mul : (x y : ℤ)
    → plus_part (x *ℤ y) + (plus_part x * minus_part y + minus_part x * plus_part y)
    ≡ minus_part (x *ℤ y) + (plus_part x * plus_part y + minus_part x * minus_part y)
unfolding plus_part minus_part
parts_mul (pos a) (pos b) = omega arith
parts_mul (pos a) (negsuc b) = omega (arith, parts_neg_pos (a * suc b))
parts_mul (negsuc a) (pos b) = omega (arith, parts_neg_pos (suc a * b))
parts_mul (negsuc a) (negsuc b) = omega arith

pub ⊖_neg : (a b : ℕ) → neg_ℤ (a ⊖ b) ≡ b ⊖ a
⊖_neg a b = parts_equal _ _ (omega (arith, parts a b, parts b a, parts_neg (a ⊖ b)))

pub ⊖_add : (a b c d : ℕ) → (a ⊖ b) +ℤ (c ⊖ d) ≡ (a + c) ⊖ (b + d)
⊖_add a b c d = parts_equal _ _ (omega (arith, parts a b, parts c d, parts (a + c) (b + d), parts_add (a ⊖ b) (c ⊖ d)))

-- if p − q ≡ a − b and r − s ≡ c − d, so are the products
mul_parts : (p q r s a b c d : ℕ) → p + b ≡ a + q → r + d ≡ c + s → p * r + q * s + (a * d + b * c) ≡ a * c + b * d + (p * s + q * r)
mul_parts p q r s a b c d h k =
    omega (arith, ap (λ (t : ℕ). t * r) h, ap (λ (t : ℕ). t * s) h, ap (λ (t : ℕ). a * t) k, ap (λ (t : ℕ). b * t) k)

pub ⊖_mul : (a b c d : ℕ) → (a ⊖ b) *ℤ (c ⊖ d) ≡ (a * c + b * d) ⊖ (a * d + b * c)
⊖_mul a b c d =
    parts_equal _ _
    (omega (
      arith,
      parts_mul (a ⊖ b) (c ⊖ d),
      parts (a * c + b * d) (a * d + b * c),
      mul_parts _ _ _ _ a b c d (parts a b) (parts c d),
    ))

-- ---- equations and orders of differences
pub ⊖_path : (a b c d : ℕ) → (a ⊖ b ≡ c ⊖ d) ↔ (a + d ≡ c + b)
⊖_path a b c d = (
  (λ h. omega (arith, parts a b, parts c d, ap plus_part h, ap minus_part h)),
  (λ h. parts_equal _ _ (omega (arith, parts a b, parts c d))),
)

parts_le : (x y : ℤ) → (x ≤ℤ y) ↔ (plus_part x + minus_part y ≤ plus_part y + minus_part x)
unfolding plus_part minus_part
parts_le (pos a) (pos b) = ((λ h. omega (arith, leb→le a b h.le)), (λ h. record { le = le→leb a b (omega arith) }))
parts_le (pos a) (negsuc b) = ((λ h. absurd h.le), (λ h. absurd (omega arith)))
parts_le (negsuc a) (pos b) = ((λ h. omega arith), (λ h. record { le = tt }))
parts_le (negsuc a) (negsuc b) = ((λ h. omega (arith, leb→le b a h.le)), (λ h. record { le = le→leb b a (omega arith) }))

parts_lt : (x y : ℤ) → (x <ℤ y) ↔ (plus_part x + minus_part y < plus_part y + minus_part x)
unfolding plus_part minus_part
parts_lt (pos a) (pos b) = ((λ h. omega (arith, ltb→lt a b h.lt)), (λ h. record { lt = lt→ltb a b (omega arith) }))
parts_lt (pos a) (negsuc b) = ((λ h. absurd h.lt), (λ h. absurd (omega arith)))
parts_lt (negsuc a) (pos b) = ((λ h. omega arith), (λ h. record { lt = tt }))
parts_lt (negsuc a) (negsuc b) = ((λ h. omega (arith, ltb→lt b a h.lt)), (λ h. record { lt = lt→ltb b a (omega arith) }))

pub ⊖_le : (a b c d : ℕ) → ((a ⊖ b) ≤ℤ (c ⊖ d)) ↔ (a + d ≤ c + b)
⊖_le a b c d = (
  (λ h. omega (arith, parts a b, parts c d, (parts_le (a ⊖ b) (c ⊖ d)).0 h)),
  (λ h. (parts_le _ _).1 (omega (arith, parts a b, parts c d))),
)

pub ⊖_lt : (a b c d : ℕ) → ((a ⊖ b) <ℤ (c ⊖ d)) ↔ (a + d < c + b)
⊖_lt a b c d = (
  (λ h. omega (arith, parts a b, parts c d, (parts_lt (a ⊖ b) (c ⊖ d)).0 h)),
  (λ h. (parts_lt _ _).1 (omega (arith, parts a b, parts c d))),
)

pub ruleset diff = (⊖_add, ⊖_neg, ⊖_mul, ⊖_pos, ⊖_negsuc)

pub ruleset diff_rel = (diff, ⊖_le, ⊖_lt, ⊖_path)

-- x + c 0 = x
pub add_none : (c x y : ℤ) → y ≡ pos 0 → x +ℤ c *ℤ y ≡ x
add_none c x y e = ap (λ (t : ℤ). x +ℤ c *ℤ t) e ∙ rw (rep c, rep x) (simp diff_rel (omega arith))

-- ---- tests
pub nat_abs_zero : (x : ℤ) → nat_abs x ≡ 0 → x ≡ pos 0
nat_abs_zero (pos n) e = ap pos e
nat_abs_zero (negsuc n) e = absurd (omega arith)

pub is_zero_true : (x : ℤ) → is_zero x ≡ true → x ≡ pos 0
is_zero_true x t = nat_abs_zero x (eqb-true (nat_abs x) 0 t)

pub positive_of : (n : ℕ) → 0 < n → Positive (pos n)
positive_of zero h = absurd (omega arith)
positive_of (suc k) h = positive k

pub positive_above : {p : ℤ} → Positive p → pos 0 <ℤ p
positive_above (positive k) = simp diff_rel (omega arith)

pub above_positive : (p : ℤ) → pos 0 <ℤ p → Positive p
above_positive (pos zero) h = absurd h.lt
above_positive (pos (suc k)) h = positive k
above_positive (negsuc n) h = absurd h.lt

pub positive_nonzero : {p : ℤ} → Positive p → p ≡ pos 0 → ⊥
positive_nonzero (positive k) = simp diff_rel (omega arith)

-- 0 + c p = 0
pub multiple_zero : {p : ℤ} (c : ℤ) → Positive p → pos 0 +ℤ c *ℤ p ≡ pos 0 → c ≡ pos 0
multiple_zero (pos n) (positive k) = simp diff_rel (omega arith)
multiple_zero (negsuc n) (positive k) = simp diff_rel (omega arith)

-- two numbers in 0 to p − 1 that differ by a multiple of p
pub multiple_small : {p : ℤ} (x y c : ℤ) → Positive p → pos 0 ≤ℤ x → x <ℤ p → pos 0 ≤ℤ y → y <ℤ p → x +ℤ negsuc 0 *ℤ y +ℤ c *ℤ p ≡ pos 0
    → (c ≡ pos 0) × (x ≡ y)
multiple_small x y (pos zero) (positive k) = rw (rep x, rep y) (simp diff_rel (omega arith))
multiple_small x y (pos (suc n)) (positive k) = rw (rep x, rep y) (simp diff_rel (omega arith))
multiple_small x y (negsuc n) (positive k) = rw (rep x, rep y) (simp diff_rel (omega arith))

-- each of two is a multiple of the other
pub multiple_both : {p q : ℤ} (c d : ℤ) → Positive p → Positive q → p +ℤ c *ℤ q ≡ pos 0 → q +ℤ d *ℤ p ≡ pos 0 → p ≡ q
multiple_both (pos n) d (positive a) (positive b) = simp diff_rel (omega arith)
multiple_both (negsuc n) (pos m) (positive a) (positive b) = simp diff_rel (omega arith)
multiple_both (negsuc n) (negsuc m) (positive a) (positive b) = simp diff_rel (omega arith)

pub multiple_self : {p : ℤ} (c : ℤ) → Positive p → p +ℤ c *ℤ p ≡ pos 0 → c ≡ negsuc 0
multiple_self (pos n) (positive k) = simp diff_rel (omega arith)
multiple_self (negsuc zero) (positive k) = λ _. refl
multiple_self (negsuc (suc n)) (positive k) = simp diff_rel (omega arith)

-- ---- quotients
-- below 0, over variables: at constructors the sum would compute
floor_below : (a d m k : ℕ) (x q p : ℤ) → x ≡ 0 ⊖ suc a → q ≡ 0 ⊖ suc d → p ≡ suc k ⊖ 0 → d * suc k + m ≡ a → m < suc k
    → (pos 0 ≤ℤ (x +ℤ neg_ℤ q *ℤ p)) × ((x +ℤ neg_ℤ q *ℤ p) <ℤ p)
floor_below a d m k x q p ex eq ep e l = rw (ex, eq, ep) (simp diff_rel (omega arith))

floor_both : {p : ℤ} (x : ℤ) → Positive p → (pos 0 ≤ℤ (x +ℤ neg_ℤ (floor_quotient x p) *ℤ p)) × ((x +ℤ neg_ℤ (floor_quotient x p) *ℤ p) <ℤ p)
floor_both (pos a) (positive k) = simp diff_rel (omega (arith, div-add-mod' a (suc k), mod-lt a {m = suc k} (omega arith)))
floor_both (negsuc a) (positive k) =
    floor_below a (a / suc k) (a % suc k) k _ _ _ (⊖_negsuc a) (⊖_negsuc _) (⊖_pos _) (div-add-mod' a (suc k)) (mod-lt a {m = suc k} (omega arith))

pub floor_quotient_low : {p : ℤ} (x : ℤ) → Positive p → pos 0 ≤ℤ (x +ℤ neg_ℤ (floor_quotient x p) *ℤ p)
floor_quotient_low x h = (floor_both x h).0

pub floor_quotient_high : {p : ℤ} (x : ℤ) → Positive p → (x +ℤ neg_ℤ (floor_quotient x p) *ℤ p) <ℤ p
floor_quotient_high x h = (floor_both x h).1

nat_abs_below : (x : ℤ) (m : ℕ) → pos 0 ≤ℤ x → x <ℤ pos m → nat_abs x < m
nat_abs_below (pos n) m = simp diff_rel (omega arith)
nat_abs_below (negsuc n) m = λ h _. absurd h.le

pub floor_quotient_left : {p : ℤ} (x : ℤ) → Positive p → nat_abs (x +ℤ neg_ℤ (floor_quotient x p) *ℤ p) < nat_abs p
floor_quotient_left x (positive k) = nat_abs_below _ (suc k) (floor_quotient_low x (positive k)) (floor_quotient_high x (positive k))

-- −(a + 1) = −(t (k + 1) + r): with no remainder a / (k + 1) is t − 1, and else it is t
machine_below : (a k t r : ℕ) → t * suc k + r ≡ suc a → r < suc k
    → negsuc (a / suc k) ≡ cond (lt_z (neg_ℤ (pos r)) (pos 0)) (neg_ℤ (pos t) -ℤ pos 1) (neg_ℤ (pos t))
machine_below a k zero zero e l = absurd (omega arith)
machine_below a k (suc t) zero e l = ap negsuc (div-eq_of_lt-le (suc k) (omega arith) (omega arith))
machine_below a k zero (suc r) e l = ap negsuc (div-eq_of_lt-le (suc k) (omega arith) (omega arith))
machine_below a k (suc t) (suc r) e l = ap negsuc (div-eq_of_lt-le (suc k) (omega arith) (omega arith))

pub floor_by_machine : {p : ℤ} (e : ℤ) → Positive p
    → floor_quotient e p ≡ cond (lt_z (rem_z e p) (pos 0)) (quot_z e p -ℤ pos 1) (quot_z e p)
floor_by_machine (pos a) (positive k) = rw (le-ltb (a % suc k) 0 (omega arith))
floor_by_machine (negsuc a) (positive k) =
    machine_below a k (suc a / suc k) (suc a % suc k) (div-add-mod' (suc a) (suc k)) (mod-lt (suc a) {m = suc k} (omega arith))
