-- Laws of `divisor` and of what divides magnitudes.
--   divisor_zero, -step   its two clauses, with the count of calls out of sight
--   divisor_greatest      it is the greatest common divisor
--   divisor_most          it is no larger than a number that neither of the two is above
--   dvd_abs_add, -mul     what divides two magnitudes divides that of the sum; what divides one divides those of its multiples
-- Assumes nothing.
use mathlib.Core.Path.{◌≡◌, refl}
use mathlib.Core.Bool.{Bool, true, false}
use Prim.Native.Nat.{ℕ, zero, suc, ◌+◌, ◌-◌, ◌%◌, ◌<◌, ◌≤◌, ◌∣◌}
use native.Mathlib.Nat.{mod-lt, zero-lt-suc, dvd_refl, dvd-zero, dvd-add, dvd-sub, dvd-mod_iff, dvd-mul_left_of_dvd}
use native.Mathlib.Omega.{arith}
use borrow.Author.Tests.{ltb-true, ltb-false}
use lib.Dec.{ltb}
use lib.IntN.{ℤ, pos, negsuc, nat_abs, sub_ℕ, ◌+ℤ◌, ◌*ℤ◌}
use Rattle.whole.specs.Divisor.{divisor_by, divisor, Greatest, DivisorGreatest}
use Rattle.whole.proofs.Signed.{sub_ge, sub_lt, abs_mul}

-- more calls than the second number change nothing
enough : (n m a b : ℕ) → b < n → b < m → divisor_by n a b ≡ divisor_by m a b
unfolding divisor_by
enough zero m a b h k = absurd (omega arith)
enough (suc n) zero a b h k = absurd (omega arith)
enough (suc n) (suc m) a zero h k = refl
enough (suc n) (suc m) a (suc b) h k =
    let r : a % suc b < suc b = mod-lt a (zero-lt-suc b) in
    enough n m (suc b) (a % suc b) (omega arith) (omega arith)

pub divisor_zero : (a : ℕ) → divisor a 0 ≡ a
unfolding divisor divisor_by
divisor_zero a = refl

pub divisor_step : (a b : ℕ) → 0 < b → divisor a b ≡ divisor b (a % b)
unfolding divisor divisor_by
divisor_step a zero h = absurd (omega arith)
divisor_step a (suc b) h =
    enough (suc b) (suc (a % suc b)) (suc b) (a % suc b) (mod-lt a (zero-lt-suc b)) (omega arith)

-- ---- the greatest common divisor
-- what divides the second number divides the first exactly when it divides the remainder
greatest_by : (n a b : ℕ) → b < n → Greatest a b (divisor_by n a b)
unfolding divisor_by
greatest_by zero a b h = absurd (omega arith)
greatest_by (suc n) a zero h = record { first = dvd_refl a; second = dvd-zero a; greatest = λ c k l. k }
greatest_by (suc n) a (suc b) h =
    let r : a % suc b < suc b = mod-lt a (zero-lt-suc b) in
    let d : ℕ = divisor_by n (suc b) (a % suc b) in
    let g : Greatest (suc b) (a % suc b) d = greatest_by n (suc b) (a % suc b) (omega arith) in
    record {
      first = (dvd-mod_iff d {m = a} {n = suc b} g.first).0 g.second;
      second = g.first;
      greatest = λ c k l. g.greatest c l ((dvd-mod_iff c {m = a} {n = suc b} l).1 k);
    }

pub divisor_greatest : DivisorGreatest
unfolding divisor
divisor_greatest a b = greatest_by (suc b) a b (omega arith)

-- ---- magnitudes
dvd_sub_abs : (c a b : ℕ) (t : Bool) → ltb a b ≡ t → c ∣ a → c ∣ b → c ∣ nat_abs (sub_ℕ a b)
dvd_sub_abs c a b true e h k =
    let l : a < b = ltb-true a b e in
    let f : suc (b - suc a) ≡ b - a = omega arith in
    rw (sub_lt a b l, f) (dvd-sub c {m = b} {n = a} k h)
dvd_sub_abs c a b false e h k = rw (sub_ge a b (ltb-false a b e)) (dvd-sub c {m = a} {n = b} h k)

pub dvd_abs_add : (c : ℕ) (x y : ℤ) → c ∣ nat_abs x → c ∣ nat_abs y → c ∣ nat_abs (x +ℤ y)
dvd_abs_add c (pos a) (pos b) h k = dvd-add c {b = a} {c = b} h k
dvd_abs_add c (pos a) (negsuc b) h k = dvd_sub_abs c a (suc b) (ltb a (suc b)) refl h k
dvd_abs_add c (negsuc a) (pos b) h k = dvd_sub_abs c b (suc a) (ltb b (suc a)) refl k h
dvd_abs_add c (negsuc a) (negsuc b) h k =
    let e : suc (suc (a + b)) ≡ suc a + suc b = omega arith in rw e (dvd-add c {b = suc a} {c = suc b} h k)

pub dvd_abs_mul : (c : ℕ) (k x : ℤ) → c ∣ nat_abs x → c ∣ nat_abs (k *ℤ x)
dvd_abs_mul c k x h = rw (abs_mul k x) (dvd-mul_left_of_dvd c {b = nat_abs x} h (nat_abs k))

-- ---- it is no larger than the two numbers
by_most : (f k a b : ℕ) → a ≤ k → b ≤ k → divisor_by f a b ≤ k
unfolding divisor_by
by_most zero k a b h l = h
by_most (suc f) k a zero h l = h
by_most (suc f) k a (suc b) h l =
    let r : a % suc b < suc b = mod-lt a (zero-lt-suc b) in
    by_most f k (suc b) (a % suc b) l (omega arith)

pub divisor_most : (k a b : ℕ) → a ≤ k → b ≤ k → divisor a b ≤ k
unfolding divisor
divisor_most k a b h l = by_most (suc b) k a b h l
