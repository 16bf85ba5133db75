-- Document 01, "Seating", its own term: each basis vector is added so often that its lead column comes nearest to its ideal.
--   ideal_at, gap_at C v c   the ideal of column c, and that less the present value
--   seat_one C r v    the values v after the addition for the vector r
--   Seated            the seated list; or refusal 9, "a value beyond ±M after a seating addition"
--   seat C N v        "For N1 to Nr in order"
--   outcome r v       what is seated by a call that returns r and leaves the values v: these, or a refusal
--   leaves z v        what the call returns, and what the lent list v then holds, for the outcome z: the seated list, or the list as it was
-- Seating reads the columns' wishes and not their goals, so that a wish may come from elsewhere too.
-- Assumes nothing.
use Rattle.std.specs.Prelude.{cond, List, [], ◌∷◌, ℕ, ℤ, ◌-ℤ◌, Result, Ok, Err}
use Rattle.whole.specs.Lists.{entry}
use Rattle.whole.specs.Quotient.{nearest_quotient}
use Rattle.lattice.specs.Rows.{plus, lead}
use Rattle.problem.specs.Limits.{any_beyond}
use Rattle.problem.specs.declared.Refusal.{Refusal}
use Rattle.problem.specs.declared.Refusal.TheVariants.{Seating}
use Rattle.settling.specs.Columns.{Columns}
use Rattle.goals.specs.Wishes.{ideal}

abbrev pub ideal_at : Columns → List ℤ → ℕ → ℤ
ideal_at C v c = ideal (C.column c).lower (C.column c).upper (C.column c).wish (entry c v)

-- "let d be the ideal of c less the present value there"
abbrev pub gap_at : Columns → List ℤ → ℕ → ℤ
gap_at C v c = ideal_at C v c -ℤ entry c v

-- "with lead column c and lead p: .. add floor((2d + p) / 2p) times the vector"
unfoldable pub seat_one : Columns → List ℤ → List ℤ → List ℤ
seat_one C r v = plus (nearest_quotient (gap_at C v (lead r)) (entry (lead r) r)) r v

abbrev pub Seated : Type 0
Seated = Result (List ℤ) Refusal

unfoldable pub seat : Columns → List (List ℤ) → List ℤ → Seated
seat C [] v = Ok v
seat C (r ∷ N) v = cond (any_beyond (seat_one C r v)) (Err Seating) (seat C N (seat_one C r v))

abbrev pub outcome : Result Unit Refusal → List ℤ → Seated
outcome (Ok done) v = Ok v
outcome (Err why) v = Err why

abbrev pub leaves : Seated → List ℤ → Result Unit Refusal × List ℤ
leaves (Ok u) v = (Ok tt, u)
leaves (Err why) v = (Err why, v)
