-- How a text is walked: from a position on.
--   stretch t s      how many bytes open the text s that part numbers, where t is true, or how many others; `belongs` tests a byte
--   gap s, run s     both of them
--   worth_of w       what bytes are worth if all are digits
--   plain_worth w    what they are worth if they are a number with no sign
--   next_at s at     the first token at or after a position, and where it ends; next_from takes the place after the gap.
--                    The laws tokens_found and tokens_end of proofs/Scanning say that it is the head of `tokens (drop at s)`, and that the rest
--                    stands after it
-- Assumes nothing.
use Rattle.std.specs.Prelude.{Bool, true, false, cond, not, List, [], ◌∷◌, ℕ, suc, ◌+◌, ltb, length, take, drop, Option, Some, None}
use Rattle.text.specs.Tokens.{Token, is_blank, all_digits, value, is_plain, token_of}

abbrev pub belongs : Bool → ℕ → Bool
belongs true b = is_blank b
belongs false b = not (is_blank b)

unfoldable pub stretch : Bool → List ℕ → ℕ
stretch t [] = 0
stretch t (b ∷ s) = cond (belongs t b) (suc (stretch t s)) 0

abbrev pub gap : List ℕ → ℕ
gap s = stretch true s

abbrev pub run : List ℕ → ℕ
run s = stretch false s

abbrev pub worth_of : List ℕ → Option ℕ
worth_of w = cond (all_digits w) (Some (value 0 w)) None

abbrev pub plain_worth : List ℕ → Option ℕ
plain_worth w = cond (is_plain w) (Some (value 0 w)) None

-- the run that starts at a, where the text goes on
abbrev pub next_from : List ℕ → ℕ → Option (Token × ℕ)
next_from s a = cond (ltb a (length s)) (Some (token_of (take (run (drop a s)) (drop a s)), a + run (drop a s))) None

abbrev pub next_at : List ℕ → ℕ → Option (Token × ℕ)
next_at s at = next_from s (at + gap (drop at s))
