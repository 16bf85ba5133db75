-- Document 02, (vii), of the rounds that a call returns.
--   NoRounds P B       "A refusal returns 0 rounds.": a whole assignment, a Continue and a preview of P with the buffers B do
--   RoundsRefused      so it is of every problem and all lent buffers
--   AllRounds P B      "The rounds are counted and returned": without a refusal they are those of the problem's tableau
--   RoundsReturned     so it is of every problem and all lent buffers
--   ceiling P          31 × n
--   FewRounds P B      "so at most 31 × n in all": with a refusal and without
--   RoundsCeiling      so it is of every problem and all lent buffers
-- The theorems are `rounds_refused`, `rounds_returned` and `rounds_ceiling`, in proofs/Ceilings.
-- Assumes nothing.
use Rattle.std.specs.Prelude.{◌≡◌, true, false, List, ℕ, ◌*◌, ◌≤◌, ℤ, Err}
use Rattle.problem.specs.Answers.{is_verdict}
use Rattle.problem.specs.Checks.{Posed}
use Rattle.problem.specs.declared.Refusal.{Refusal}
use Rattle.engine.specs.Assign.{Buffers, n, rounds_of, assign, continue}
use Rattle.engine.specs.Preview.{preview}

-- ---- with a refusal
pub record NoRounds (P : Posed) (B : Buffers) : Type 0 where
  pub assigns : is_verdict (assign P B).answer ≡ false → (assign P B).rounds ≡ 0
  pub continues : is_verdict (continue P B).answer ≡ false → (continue P B).rounds ≡ 0
  pub previews : (v : List ℤ) (why : Refusal) → (preview P v B).seen ≡ Err why → (preview P v B).rounds ≡ 0

abbrev pub RoundsRefused : Type 0
RoundsRefused = (P : Posed) (B : Buffers) → NoRounds P B

-- ---- without one
pub record AllRounds (P : Posed) (B : Buffers) : Type 0 where
  pub assigns : is_verdict (assign P B).answer ≡ true → (assign P B).rounds ≡ rounds_of P
  pub continues : is_verdict (continue P B).answer ≡ true → (continue P B).rounds ≡ rounds_of P
  pub previews : (v : List ℤ) → ((why : Refusal) → (preview P v B).seen ≡ Err why → ⊥) → (preview P v B).rounds ≡ rounds_of P

abbrev pub RoundsReturned : Type 0
RoundsReturned = (P : Posed) (B : Buffers) → AllRounds P B

-- ---- in any case
abbrev pub ceiling : Posed → ℕ
ceiling P = 31 * n P

pub record FewRounds (P : Posed) (B : Buffers) : Type 0 where
  pub assigns : (assign P B).rounds ≤ ceiling P
  pub continues : (continue P B).rounds ≤ ceiling P
  pub previews : (v : List ℤ) → (preview P v B).rounds ≤ ceiling P

abbrev pub RoundsCeiling : Type 0
RoundsCeiling = (P : Posed) (B : Buffers) → FewRounds P B
