-- Document 01, "Continue, text, listing": numbers read one after the other. "The first place that breaks its rule decides the refusal; a run of other
-- bytes that is no such number, a missing number or one too many is 11 there."
--   Outcome A               something read, with the place after it in the text; or the refusal
--   then                    one after the other: the first refusal decides
--   inside lo hi why v e    the number v, with the place e after it, which is lo to hi or else refused
--   number s at             the next number of the text s at or after a place; on_number is that of a token
--   within s lo hi why at   the next number, which is lo to hi or else refused
--   no_less s lo why at     the next number, which is lo or more or else refused
--   nonzero why             what was read is not 0 or else refused
--   closed s a at           no number or other run is left; on_end is that of a token
-- Assumes nothing.
use Rattle.std.specs.Prelude.{cond, List, ℕ, ℤ, Option, Some, None, Result, Ok, Err}
use Rattle.std.specs.Int.Signed.{le_z}
use Rattle.whole.specs.Tests.{is_zero, in_range}
use Rattle.text.specs.Positions.{next_at}
use Rattle.text.specs.Tokens.{Token}
use Rattle.problem.specs.declared.Refusal.{Refusal}
use Rattle.problem.specs.declared.Refusal.TheVariants.{Layout}

abbrev pub Outcome : Type 0 → Type 0
Outcome A = Result (A × ℕ) Refusal

abbrev pub then : {A B : Type 0} → Outcome A → (A → ℕ → Outcome B) → Outcome B
then (Ok (a, at)) f = f a at
then (Err why) f = Err why

abbrev pub inside : ℤ → ℤ → Refusal → ℤ → ℕ → Outcome ℤ
inside lo hi why v e = cond (in_range lo hi v) (Ok (v, e)) (Err why)

abbrev pub on_number : Option (Token × ℕ) → Outcome ℤ
on_number (Some (Some v, e)) = Ok (v, e)
on_number (Some (None, e)) = Err Layout
on_number None = Err Layout

abbrev pub number : List ℕ → ℕ → Outcome ℤ
number s at = on_number (next_at s at)

abbrev pub within : List ℕ → ℤ → ℤ → Refusal → ℕ → Outcome ℤ
within s lo hi why at = then (number s at) (λ v e. inside lo hi why v e)

abbrev pub no_less : List ℕ → ℤ → Refusal → ℕ → Outcome ℤ
no_less s lo why at = then (number s at) (λ v e. cond (le_z lo v) (Ok (v, e)) (Err why))

abbrev pub nonzero : Refusal → Outcome ℤ → Outcome ℤ
nonzero why o = then o (λ v at. cond (is_zero v) (Err why) (Ok (v, at)))

abbrev pub on_end : {A : Type 0} → A → ℕ → Option (Token × ℕ) → Outcome A
on_end a at (Some x) = Err Layout
on_end a at None = Ok (a, at)

abbrev pub closed : {A : Type 0} → List ℕ → A → ℕ → Outcome A
closed s a at = on_end a at (next_at s at)
