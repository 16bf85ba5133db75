-- Laws of the listing: how long its lines are, its columns one at a time, and what the call leaves.
--   length_line, -verdict, -refusal, abs_fits   a line is short, where its numbers are of 64 bits
--   wrote_field, -three, -four          the pieces of a line, one after the other
--   refusal_other                      the line of a refusal that is not NONE
--   lines_more, -end, length_more      the columns' lines, one at a time
--   listing_is, -lines, -length, length_listed   the whole listing: the first line, and then those of the columns that are listed
--   write_uneven, -short, -done        what the call leaves
-- Assumes nothing.
-- ---- lengths: a number of 64 bits has at most 20 digits
use mathlib.Core.Path.{◌≡◌, refl, sym, ap, ◌∙◌}
use mathlib.Core.List.{List, [], ◌∷◌, ◌++◌, append-nil}
use Prim.Native.Nat.{ℕ, ◌+◌, ◌≤◌, ◌<◌, ◌^◌}
use native.Mathlib.Numerals.{add-one}
use native.Mathlib.Omega.{arith}
use borrow.Author.Tests.{eq-eqb, ne_eqb, le-leb, lt-leb}
use lib.IntN.{ℤ, pos, negsuc, nat_abs}
use lib.ListN.{length, take, drop, get_or, length-append, drop_of_length-le}
use lib.Seq.{drop-cons, take-length, take_all, take_at}
use mir.Syntax.{w64}
use mir.Val.{SFits}
use Rattle.text.specs.Overwriting.{Wrote}
use Rattle.text.proofs.Copying.{room_next, wrote_both}
use Rattle.std.specs.Prelude.{Ok, Err}
use Rattle.problem.specs.Answers.{Answer, refusal_number}
use Rattle.problem.specs.declared.Counts.{Counts}
use Rattle.problem.specs.declared.Refusal.{Refusal}
use Rattle.problem.specs.declared.Refusal.TheVariants.{NoWholeNumbers}
use Rattle.problem.specs.declared.Verdict.TheVariants.{Fitted, Outside, Spent}
use Rattle.report.specs.Listing.{field, verdict, line, lines_from, numbered, refusal}
use Rattle.report.specs.Listing.{headline, listing, lines_of, placed_in, listing_done, write_listing}
use Rattle.report.specs.declared.WriteError.TheVariants.{Uneven, NoRoom}
use Rattle.report.proofs.Lengths.{line_most, verdict_most, refusal_most, refusal_short}

pub length_line : (c : ℕ) (v : ℤ) (d : ℕ) → c < 2 ^ 64 → nat_abs v < 2 ^ 64 → d < 2 ^ 64 → length (line c v d) ≤ 64
length_line c v d p q r = line_most 19 19 19 c v d (omega arith) (omega arith) (omega arith)

pub abs_fits : (v : ℤ) → SFits w64 v → nat_abs v < 2 ^ 64
abs_fits (pos n) f = omega (arith, f.sfits)
abs_fits (negsuc n) f = omega (arith, f.sfits)

pub length_verdict : (w : List ℕ) (k : Counts) → length w ≤ 7 → k.bounds < 2 ^ 64 → k.goals < 2 ^ 64 → length (verdict w k) ≤ 64
length_verdict w k h p q = omega (arith, verdict_most 19 w k (omega arith) (omega arith))

pub length_refusal : (why : Refusal) → length (refusal (refusal_number why)) ≤ 64
length_refusal why = omega (arith, refusal_most 1 (refusal_number why) (refusal_short why))

-- ---- the pieces of a line, one after the other
pub wrote_field : {o p q : List ℕ} {at r e : ℕ} (w : List ℕ) → Wrote o at (32 ∷ []) r p → Wrote p r w e q → at + length (field w) ≤ length o
    → Wrote o at (field w) e q
wrote_field w a b h = wrote_both (32 ∷ []) w a b h

pub wrote_three : {o p q s : List ℕ} {at b c e : ℕ} (v w x : List ℕ) → Wrote o at v b p → Wrote p b w c q → Wrote q c x e s
    → at + length (v ++ (w ++ x)) ≤ length o → Wrote o at (v ++ (w ++ x)) e s
wrote_three v w x f g h room = wrote_both v (w ++ x) f (wrote_both w x g h (room_next v (w ++ x) f room)) room

pub wrote_four : {o p q s t : List ℕ} {at b c d e : ℕ} (v w x y : List ℕ) → Wrote o at v b p → Wrote p b w c q → Wrote q c x d s → Wrote s d y e t
    → at + length (v ++ (w ++ (x ++ y))) ≤ length o → Wrote o at (v ++ (w ++ (x ++ y))) e t
wrote_four v w x y f g h k room = wrote_both v (w ++ (x ++ y)) f (wrote_three w x y g h k (room_next v (w ++ (x ++ y)) f room)) room

-- ---- the line of a refusal
pub refusal_other : (why : Refusal) → ¬ (why ≡ NoWholeNumbers) → refusal (refusal_number why) ≡ numbered (refusal_number why)
refusal_other NoWholeNumbers h = absurd (h refl)
refusal_other _ h = refl

-- ---- the columns' lines, one at a time
module _ (v : List ℤ) (d : List ℕ) (i : ℕ) where
  pub lines_more : length v ≡ length d → i < length v
      → lines_from i (drop i v) (drop i d) ≡ line (i + 1) (get_or v i (pos 0)) (get_or d i 0) ++ lines_from (i + 1) (drop (i + 1) v) (drop (i + 1) d)
  unfolding lines_from
  lines_more e h = let k : i < length d = omega arith in rw (drop-cons v i (pos 0) h, drop-cons d i 0 k, add-one i)

  pub length_more : length v ≡ length d → i < length v
      → length (lines_from i (drop i v) (drop i d))
      ≡ length (line (i + 1) (get_or v i (pos 0)) (get_or d i 0)) + length (lines_from (i + 1) (drop (i + 1) v) (drop (i + 1) d))
  length_more e h = ap length (lines_more e h) ∙
      length-append (line (i + 1) (get_or v i (pos 0)) (get_or d i 0)) (lines_from (i + 1) (drop (i + 1) v) (drop (i + 1) d))

  pub lines_end : length v ≤ i → lines_from i (drop i v) (drop i d) ≡ []
  unfolding lines_from
  lines_end h = rw (drop_of_length-le v h)

-- ---- the whole listing
-- what a buffer holds in front, once a word is written there
pub front : {o p : List ℕ} {r : ℕ} (w : List ℕ) → Wrote o 0 w r p → take r p ≡ w
front {o} w a = rw (a.next, a.text) (take_at w (drop (0 + length w) o) (0 + length w) (omega arith))

listing_is : (a : Answer) (v : List ℤ) (d : List ℕ) → lines_of a (length d) ≡ lines_of a (length v)
    → listing a v d ≡ headline a ++ lines_from 0 (take (lines_of a (length v)) v) (take (lines_of a (length v)) d)
unfolding listing lines_from
listing_is (Ok (Fitted k)) v d h = rw (take-length v, take_all (length v) d (omega arith))
listing_is (Ok (Outside k)) v d h = rw (take-length v, take_all (length v) d (omega arith))
listing_is (Ok (Spent k)) v d h = rw (take-length v, take_all (length v) d (omega arith))
listing_is (Err why) v d h = sym (append-nil (refusal (refusal_number why)))

module _ (o : List ℕ) (a : Answer) (v : List ℤ) (d : List ℕ) where
  pub write_uneven : (lines_of a (length d) ≡ lines_of a (length v) → ⊥) → write_listing o a v d ≡ listing_done (Err Uneven) o
  unfolding write_listing
  write_uneven h = rw (ne_eqb (lines_of a (length d)) (lines_of a (length v)) h)

  -- n columns are listed
  module _ (n : ℕ) (p : n ≡ lines_of a (length v)) (q : lines_of a (length d) ≡ n) where
    -- the first line, and then the columns'
    abbrev pub pieces : List ℕ
    pieces = headline a ++ lines_from 0 (take n v) (take n d)

    pub write_is : write_listing o a v d ≡ placed_in o pieces
    unfolding write_listing
    write_is = rw (eq-eqb (lines_of a (length d)) (lines_of a (length v)) (q ∙ p), listing_is a v d (q ∙ p), ← p)

    pub write_short : length o < length pieces → write_listing o a v d ≡ listing_done (Err NoRoom) o
    write_short l = rw (write_is, lt-leb (length pieces) (length o) l)

    pub write_done : {t u : List ℕ} {e r : ℕ} → length pieces ≤ length o → Wrote o 0 (headline a) e t
        → Wrote t e (lines_from 0 (take n v) (take n d)) r u → write_listing o a v d ≡ listing_done (Ok r) u
    write_done l f g =
        let w = wrote_both (headline a) (lines_from 0 (take n v) (take n d)) f g (omega (arith, l)) in
        let z : 0 + length pieces ≡ length pieces = omega arith in
        rw (write_is, le-leb (length pieces) (length o) l, w.next, w.text, z)
