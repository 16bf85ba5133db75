-- Document 01, "Continue, text, listing": the numbers of a text. "The text is numbers (optional minus, 1 to 10 digits, no needless zero in front, no
-- −0) parted by runs of byte 32 or 10, which may also open and close it."
--   is_blank b    a byte that parts numbers
--   runs s        the runs of other bytes, in order; `opens` tests whether one goes on, and `join` puts a byte in front
--   is_digit, all_digits, value     a digit, digits alone, and what digits are worth after others
--   max_digits, no_needless_zero, is_plain   "1 to 10 digits, no needless zero in front"
--   Token         a run that is a number, or None for one that is none
--   token_of w    what a run is: `after_minus` or `unsigned`
--   tokens s      what the runs of a text are, in order
-- A text is the list of its bytes.
-- Assumes nothing.
use Rattle.std.specs.Prelude.{Bool, true, false, cond, not, ◌&&◌, ◌||◌, List, [], ◌∷◌, map, ℕ, ◌+◌, ◌-◌, ◌*◌, leb, eqb, ℤ, pos, neg_ℤ, length, Option}
use Rattle.std.specs.Prelude.{Some, None}

-- "byte 32 or 10"
abbrev pub is_blank : ℕ → Bool
is_blank b = eqb b 32 || eqb b 10

-- whether a text goes on with a byte of a run
abbrev pub opens : List ℕ → Bool
opens [] = false
opens (b ∷ s) = not (is_blank b)

-- byte b put in front: it lengthens the first run, or is a run of its own
abbrev pub join : Bool → ℕ → List (List ℕ) → List (List ℕ)
join true b [] = (b ∷ []) ∷ []
join true b (r ∷ rs) = (b ∷ r) ∷ rs
join false b rs = (b ∷ []) ∷ rs

unfoldable pub runs : List ℕ → List (List ℕ)
runs [] = []
runs (b ∷ s) = cond (is_blank b) (runs s) (join (opens s) b (runs s))

-- bytes 48 to 57
abbrev pub is_digit : ℕ → Bool
is_digit b = leb 48 b && leb b 57

unfoldable pub all_digits : List ℕ → Bool
all_digits [] = true
all_digits (b ∷ w) = is_digit b && all_digits w

-- the value of digits after those worth a
unfoldable pub value : ℕ → List ℕ → ℕ
value a [] = a
value a (b ∷ w) = value (a * 10 + (b - 48)) w

-- "1 to 10 digits"
abbrev pub max_digits : ℕ
max_digits = 10

-- at least one digit, and "no needless zero in front": the one digit 0 may stand alone
abbrev pub no_needless_zero : List ℕ → Bool
no_needless_zero [] = false
no_needless_zero (b ∷ w) = not (eqb b 48) || eqb (length w) 0

abbrev pub is_plain : List ℕ → Bool
is_plain w = leb (length w) max_digits && (no_needless_zero w && all_digits w)

abbrev pub Token : Type 0
Token = Option ℤ

abbrev pub unsigned : List ℕ → Token
unsigned w = cond (is_plain w) (Some (pos (value 0 w))) None

-- after a minus: "no −0"
abbrev pub after_minus : List ℕ → Token
after_minus w = cond (is_plain w && not (eqb (value 0 w) 0)) (Some (neg_ℤ (pos (value 0 w)))) None

-- "optional minus", byte 45
abbrev pub token_of : List ℕ → Token
token_of [] = None
token_of (b ∷ w) = cond (eqb b 45) (after_minus w) (unsigned (b ∷ w))

abbrev pub tokens : List ℕ → List Token
tokens s = map token_of (runs s)
