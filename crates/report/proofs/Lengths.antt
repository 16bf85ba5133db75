-- How long a listing is, by how many digits its numbers have: suc i, suc j and suc k digits in a column's line, suc b in a count of steps.
--   line_most, verdict_most, refusal_most   a column's line, the first line with a verdict, and the line of a refusal
--   lines_most     the lines of the columns after the first `at`
--   listing_most   the whole listing
-- Assumes nothing.
use mathlib.Core.Bool.{Bool, true, false, cond}
use mathlib.Core.List.{List, [], ◌∷◌, ◌++◌}
use Prim.Native.Nat.{ℕ, suc, ◌+◌, ◌*◌, ◌≤◌, ◌<◌, ◌^◌}
use native.Mathlib.Omega.{arith}
use lib.Dec.{eqb}
use lib.IntN.{ℤ, nat_abs}
use lib.ListN.{length, get_or, length-append}
use Rattle.whole.specs.Lists.{entry}
use Rattle.std.specs.Prelude.{Ok, Err}
use Rattle.problem.specs.Answers.{Answer, refusal_number, answer_counts}
use Rattle.problem.specs.declared.Counts.{Counts}
use Rattle.problem.specs.declared.Refusal.{Refusal}
use Rattle.problem.specs.declared.Refusal.TheVariants.{Size, NoWholeNumbers}
use Rattle.problem.specs.declared.Verdict.TheVariants.{Fitted, Outside, Spent}
use Rattle.report.specs.Listing.{FITTED, OUTSIDE, SPENT, NONE, line_end, verdict, line, lines_from, numbered, refusal, listing}
use Rattle.text.proofs.Digits.{length_natural, length_integer}

-- ---- one line
pub line_most : (i j k c : ℕ) (v : ℤ) (d : ℕ) → c < 10 ^ suc i → nat_abs v < 10 ^ suc j → d < 10 ^ suc k → length (line c v d) ≤ i + j + k + 7
line_most i j k c v d p q r = simp length-append (omega (arith, length_natural i c p, length_integer j v q, length_natural k d r))

pub verdict_most : (b : ℕ) (w : List ℕ) (n : Counts) → n.bounds < 10 ^ suc b → n.goals < 10 ^ suc b → length (verdict w n) ≤ length w + (2 * b + 5)
verdict_most b w n p q = simp length-append (omega (arith, length_natural b n.bounds p, length_natural b n.goals q))

pub refusal_most : (i k : ℕ) → k < 10 ^ suc i → length (refusal k) ≤ i + 10
refusal_most i k h = by (eqb k (refusal_number NoWholeNumbers))
  where
    by : (t : Bool) → length (cond t (NONE ++ line_end) (numbered k)) ≤ i + 10
    by true = omega arith
    by false = simp length-append (omega (arith, length_natural i k h))

-- ---- the columns' lines
pub lines_most : (i j k at : ℕ) (v : List ℤ) (d : List ℕ)
    → at + length v < 10 ^ suc i → ((x : ℕ) → nat_abs (entry x v) < 10 ^ suc j) → ((x : ℕ) → get_or d x 0 < 10 ^ suc k)
    → length (lines_from at v d) ≤ length v * (i + j + k + 7)
unfolding lines_from
lines_most i j k at [] d p q r = omega arith
lines_most i j k at (y ∷ v) [] p q r = omega arith
lines_most i j k at (y ∷ v) (e ∷ d) p q r =
    let a : length (line (at + 1) y e) ≤ i + j + k + 7 = line_most i j k (at + 1) y e (omega arith) (q 0) (r 0) in
    let b : length (lines_from (at + 1) v d) ≤ length v * (i + j + k + 7) =
    lines_most i j k (at + 1) v d (omega arith) (λ x. q (suc x)) (λ x. r (suc x)) in
    omega (arith, a, b, length-append (line (at + 1) y e) (lines_from (at + 1) v d))

-- ---- the whole
pub refusal_short : (why : Refusal) → refusal_number why < 100
refusal_short Size = omega arith
refusal_short _ = omega arith

module _ (b i j k : ℕ) (v : List ℤ) (d : List ℕ)
    (p : length v < 10 ^ suc i) (q : (x : ℕ) → nat_abs (entry x v) < 10 ^ suc j) (r : (x : ℕ) → get_or d x 0 < 10 ^ suc k) where
  behind : (w : List ℕ) (n : Counts) → length w ≤ 7 → n.bounds < 10 ^ suc b → n.goals < 10 ^ suc b
      → length (verdict w n ++ lines_from 0 v d) ≤ 2 * b + 12 + length v * (i + j + k + 7)
  behind w n l g h =
      omega (arith, l, length-append (verdict w n) (lines_from 0 v d), verdict_most b w n g h, lines_most i j k 0 v d (omega arith) q r)

  pub listing_most : (a : Answer) → (answer_counts a).bounds < 10 ^ suc b → (answer_counts a).goals < 10 ^ suc b
      → length (listing a v d) ≤ 2 * b + 12 + length v * (i + j + k + 7)
  unfolding listing
  listing_most (Ok (Fitted n)) g h = behind FITTED n (omega arith) g h
  listing_most (Ok (Outside n)) g h = behind OUTSIDE n (omega arith) g h
  listing_most (Ok (Spent n)) g h = behind SPENT n (omega arith) g h
  listing_most (Err why) g h = omega (arith, refusal_most 1 (refusal_number why) (refusal_short why))
