-- Laws of `natural` and `integer`.
--   tenth_less                        a number of two digits or more has a smaller tenth
--   natural_small, -more              its clauses, with the room for digits out of sight
--   length_natural, length_integer    a number below a power of ten has no more digits than the power says
--   integer_low                       with a sign
--   natural_steps                     what writing the digits of a number one by one needs
--   length_more, wrote_small, -more   written: one digit, and the last digit behind those of the tenth
-- Assumes nothing.
use mathlib.Core.Path.{◌≡◌, refl, ap}
use mathlib.Core.Bool.{Bool, true, false, cond}
use mathlib.Core.List.{List, [], ◌∷◌, ◌++◌}
use Prim.Native.Nat.{ℕ, zero, suc, ◌+◌, ◌/◌, ◌%◌, ◌^◌, ◌≤◌, ◌<◌}
use native.Mathlib.Omega.{arith}
use native.Mathlib.Nat.{pow-suc, div-lt_iff_lt-mul}
use borrow.Author.Tests.{lt-ltb, le-ltb, ltb-true, ltb-false}
use lib.Dec.{ltb, lit<}
use Rattle.std.specs.Prelude.{◌<ℤ◌}
use Rattle.std.proofs.lemmas.Int.{ints}
use lib.IntN.{ℤ, pos, negsuc, nat_abs}
use lib.ListN.{length, set, length-append}
use lib.Signed.{lt_z}
use Rattle.text.specs.Overwriting.{Wrote}
use Rattle.text.specs.Decimals.{decimal, natural, integer}
use Rattle.text.proofs.Copying.{written_one, wrote_then, wrote_length}

pub tenth_less : (n : ℕ) → 10 ≤ n → n / 10 < n
tenth_less n h = (div-lt_iff_lt-mul {k = 10} {x = n} {y = n} (lit< tt)).1 (omega arith)

-- more room for digits than the number changes nothing
enough : (k j n : ℕ) → n < k → n < j → decimal k n ≡ decimal j n
unfolding decimal
enough zero j n h l = absurd (omega arith)
enough (suc k) zero n h l = absurd (omega arith)
enough (suc k) (suc j) n h l = by (ltb n 10) refl (enough k j (n / 10))
  where
    by : (t : Bool) → ltb n 10 ≡ t → (n / 10 < k → n / 10 < j → decimal k (n / 10) ≡ decimal j (n / 10))
        → cond t ((48 + n) ∷ []) (decimal k (n / 10) ++ ((48 + n % 10) ∷ [])) ≡ cond t ((48 + n) ∷ []) (decimal j (n / 10) ++ ((48 + n % 10) ∷ []))
    by true e f = refl
    by false e f =
        let t = tenth_less n (ltb-false n 10 e) in
        ap (λ (d : List ℕ). d ++ ((48 + n % 10) ∷ [])) (f (omega arith) (omega arith))

pub natural_small : (n : ℕ) → n < 10 → natural n ≡ (48 + n) ∷ []
unfolding decimal
natural_small n h = rw (lt-ltb n 10 h)

pub natural_more : (n : ℕ) → 10 ≤ n → natural n ≡ natural (n / 10) ++ ((48 + n % 10) ∷ [])
unfolding decimal
natural_more n h =
    let t = tenth_less n h in
    rw (le-ltb n 10 h) (ap (λ (d : List ℕ). d ++ ((48 + n % 10) ∷ [])) (enough n (suc (n / 10)) (n / 10) t (omega arith)))

-- a number below a power of ten has no more digits than the power says
pub length_natural : (k n : ℕ) → n < 10 ^ suc k → length (natural n) ≤ suc k
length_natural zero n h = let p : n < 10 = h in rw (natural_small n p) (omega arith)
length_natural (suc k) n h = by (ltb n 10) refl (length_natural k (n / 10))
  where
    by : (t : Bool) → ltb n 10 ≡ t → (n / 10 < 10 ^ suc k → length (natural (n / 10)) ≤ suc k) → length (natural n) ≤ suc (suc k)
    by true e f = rw (natural_small n (ltb-true n 10 e)) (omega arith)
    by false e f =
        let p = pow-suc 10 (suc k) in
        let u : n / 10 < 10 ^ suc k = (div-lt_iff_lt-mul {k = 10} {x = n} {y = 10 ^ suc k} (lit< tt)).1 (omega arith) in
        rw (natural_more n (ltb-false n 10 e), length-append (natural (n / 10)) ((48 + n % 10) ∷ []))
        (omega (arith, f u))

-- ---- with a sign
pub integer_low : (v : ℤ) → lt_z v (pos 0) ≡ true → integer v ≡ 45 ∷ natural (nat_abs v)
integer_low (pos n) h = absurd (omega (arith, ltb-true n 0 h))
integer_low (negsuc n) h = refl

pub length_integer : (k : ℕ) (v : ℤ) → nat_abs v < 10 ^ suc k → length (integer v) ≤ suc (suc k)
length_integer k (pos n) h = omega (arith, length_natural k n h)
length_integer k (negsuc n) h = omega (arith, length_natural k (suc n) h)

-- ---- written: one digit, and the last digit behind those of the tenth
pub length_more : (n : ℕ) → 10 ≤ n → length (natural n) ≡ length (natural (n / 10)) + 1
length_more n h = rw (natural_more n h) (length-append (natural (n / 10)) ((48 + n % 10) ∷ []))

pub wrote_small : (o : List ℕ) (at n d : ℕ) → n < 10 → d ≡ 48 + n → at + length (natural n) ≤ length o → Wrote o at (natural n) (at + 1) (set o at d)
wrote_small o at n d h e l =
    let w = natural_small n h in
    let k : at < length o = omega (arith, ap length w) in
    rw (w, e) (record { next = refl; text = written_one o at (48 + n) k })

pub wrote_more : (o p : List ℕ) (at e n d : ℕ) → 10 ≤ n → d ≡ 48 + n % 10 → at + length (natural n) ≤ length o → Wrote o at (natural (n / 10)) e p
    → Wrote o at (natural n) (e + 1) (set p e d)
wrote_more o p at e n d h q l a =
    let m = length_more n h in
    let k = wrote_length a (omega arith) in
    let b : Wrote p e ((48 + n % 10) ∷ []) (e + 1) (set p e d) =
    rw q (record { next = refl; text = written_one p e (48 + n % 10) (omega (arith, a.next)) }) in
    rw (natural_more n h) (wrote_then a b (omega arith))

-- a minus, and the digits behind it
pub wrote_low : (o p q : List ℕ) (at e r : ℕ) (v : ℤ) → v <ℤ pos 0 → Wrote o at (45 ∷ []) e p → Wrote p e (natural (nat_abs v)) r q
    → at + length (integer v) ≤ length o → Wrote o at (integer v) r q
wrote_low o p q at e r (pos n) h a b l = absurd (omega (arith, ints, h))
wrote_low o p q at e r (negsuc n) h a b l = wrote_then a b (omega arith)

pub ruleset natural_steps = (tenth_less, length_more, natural_small, wrote_small, wrote_more)
