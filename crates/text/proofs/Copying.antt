-- Laws of `overwritten` for any element, and of `Wrote`.
--   length_written                  a list that fits leaves the buffer as long as it was
--   written_none, -one              no element, and one
--   written_then                    two lists, one after the other
--   wrote_none, -length, -then      the same of words, each with the place after it
--   room_first, -next, wrote_both   two words in a buffer that has room for both
-- Assumes nothing.
use mathlib.Core.Path.{◌≡◌, sym, ap, ◌∙◌}
use mathlib.Core.List.{List, [], ◌∷◌, ◌++◌, append_assoc}
use Prim.Native.Nat.{ℕ, ◌+◌, ◌≤◌, ◌<◌}
use native.Mathlib.Numerals.{add-one}
use native.Mathlib.Omega.{arith}
use lib.ListN.{length, take, drop, set, length-append, length-drop, take-append-drop}
use lib.Seq.{set_split, take_at, drop_at, drop-drop, length-take-le}
use Rattle.text.specs.Overwriting.{overwritten, Wrote}

module _ {A : Type 0} where
  pub length_written : (o : List A) (at : ℕ) (w : List A) → at + length w ≤ length o → length (overwritten o at w) ≡ length o
  length_written o at w h = simp (length-append, length-take-le at o (omega arith), length-drop) (omega arith)

  pub written_none : (o : List A) (at : ℕ) → o ≡ overwritten o at []
  written_none o at = let z : at + 0 ≡ at = omega arith in rw z (sym (take-append-drop at o))

  -- one element
  pub written_one : (o : List A) (at : ℕ) (x : A) → at < length o → set o at x ≡ overwritten o at (x ∷ [])
  written_one o at x h = set_split o at x h ∙ ap (λ (k : ℕ). take at o ++ (x ∷ drop k o)) (sym (add-one at))

  -- two lists, one after the other
  pub written_then : (o : List A) (at : ℕ) (v w : List A) → at + length v + length w ≤ length o
      → overwritten (overwritten o at v) (at + length v) w ≡ overwritten o at (v ++ w)
  written_then o at v w h =
      let l : length (take at o) ≡ at = length-take-le at o (omega arith) in
      let s : length (take at o ++ v) ≡ at + length v = length-append (take at o) v ∙ ap (λ (k : ℕ). k + length v) l in
      let a : overwritten o at v ≡ (take at o ++ v) ++ drop (at + length v) o = sym (append_assoc (take at o) v (drop (at + length v) o)) in
      let t : take (at + length v) (overwritten o at v) ≡ take at o ++ v =
      ap (take (at + length v)) a ∙ take_at (take at o ++ v) (drop (at + length v) o) (at + length v) s in
      let e : at + length v + length w ≡ at + length (v ++ w) = rw (length-append v w) (omega arith) in
      let d : drop (at + length v + length w) (overwritten o at v) ≡ drop (at + length (v ++ w)) o =
      sym (drop-drop (length w) (at + length v) (overwritten o at v)) ∙
      ap (drop (length w)) (ap (drop (at + length v)) a ∙ drop_at (take at o ++ v) (drop (at + length v) o) (at + length v) s) ∙
      drop-drop (length w) (at + length v) o ∙ ap (λ (k : ℕ). drop k o) e in
      rw (t, d) (simp append_assoc)

-- ---- words, each with the place after it
pub wrote_none : (o : List ℕ) (at : ℕ) → Wrote o at [] at o
wrote_none o at = let z : at + 0 ≡ at = omega arith in record { next = sym z; text = written_none o at }

pub wrote_length : {o p : List ℕ} {at r : ℕ} {w : List ℕ} → Wrote o at w r p → at + length w ≤ length o → length p ≡ length o
wrote_length {o} {p} {at} {r} {w} a h = ap length a.text ∙ length_written o at w h

pub wrote_then : {o p q : List ℕ} {at r e : ℕ} {v w : List ℕ} → Wrote o at v r p → Wrote p r w e q → at + length v + length w ≤ length o
    → Wrote o at (v ++ w) e q
wrote_then {o} {p} {q} {at} {r} {e} {v} {w} a b h = record {
  next = rw (length-append v w) (omega (arith, a.next, b.next));
  text = b.text ∙ (rw (a.text, a.next) (written_then o at v w h));
}

-- two words in a buffer that has room for both: room for the first, then for the second, and then both are overwritten
pub room_first : (n at : ℕ) (v w : List ℕ) → at + length (v ++ w) ≤ n → at + length v ≤ n
room_first n at v w h = omega (arith, length-append v w)

pub room_next : {o p : List ℕ} {at r : ℕ} (v w : List ℕ) → Wrote o at v r p → at + length (v ++ w) ≤ length o → r + length w ≤ length p
room_next {o} {p} {at} {r} v w a h =
    let s = length-append v w in
    let l : length p ≡ length o = wrote_length a (omega arith) in
    omega (arith, a.next)

pub wrote_both : {o p q : List ℕ} {at r e : ℕ} (v w : List ℕ) → Wrote o at v r p → Wrote p r w e q → at + length (v ++ w) ≤ length o
    → Wrote o at (v ++ w) e q
wrote_both v w a b h = wrote_then a b (omega (arith, length-append v w))
