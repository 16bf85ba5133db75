-- Document 01, "Moves and settling": settling under a limit, its own term.
--   Settled            the verdict with the step counts of the two parts, and the values; `ended` makes one
--   at_rest, counted   the verdict where no move improves; the counts with one more step of a part
--   on_step s z f      z where no move improves, else what f makes of the step's move
--   settle limit ..    steps while some move improves and the limit is not reached; "The limit covers both parts together."
--   settle_from g ..   with g steps left, after the steps counted
-- "FITTED: all in bounds and no move improves. OUTSIDE: some column out of bounds and no move improves. SPENT: limit reached and some move still
-- improves."
-- Assumes nothing.
use Rattle.std.specs.Prelude.{List, ℕ, zero, suc, ℤ, Option, Some, None}
use Rattle.problem.specs.Answers.{no_steps}
use Rattle.problem.specs.declared.Counts.{Counts}
use Rattle.problem.specs.declared.Verdict.{Verdict}
use Rattle.problem.specs.declared.Verdict.TheVariants.{Fitted, Outside, Spent}
use Rattle.settling.specs.declared.Move.{Move}
use Rattle.settling.specs.declared.Part.{Part}
use Rattle.settling.specs.declared.Part.TheVariants.{Bounds, Goals}
use Rattle.settling.specs.declared.Step.{Step}
use Rattle.settling.specs.Columns.{Columns}
use Rattle.settling.specs.Moves.{moved}
use Rattle.settling.specs.Steps.{part_of, next_step}

pub record Settled : Type 0 where
  pub verdict : Verdict
  pub values : List ℤ

abbrev pub ended : Verdict → List ℤ → Settled
ended a v = record { verdict = a; values = v }

abbrev pub at_rest : Part → Counts → Verdict
at_rest Goals k = Fitted k
at_rest Bounds k = Outside k

abbrev pub counted : Part → Counts → Counts
counted Bounds k = record { bounds = suc k.bounds; goals = k.goals }
counted Goals k = record { bounds = k.bounds; goals = suc k.goals }

abbrev pub on_step : Option Step → Settled → (Move → Settled) → Settled
on_step None z f = z
on_step (Some s) z f = f s.o

-- "Then the ranking is made anew"
unfoldable pub settle_from : ℕ → Columns → List (List ℤ) → Counts → List ℤ → Settled
settle_from zero C N k v = on_step (next_step C N v) (ended (at_rest (part_of C v) k) v) (λ o. ended (Spent k) v)
settle_from (suc g) C N k v =
    on_step (next_step C N v) (ended (at_rest (part_of C v) k) v) (λ o. settle_from g C N (counted (part_of C v) k) (moved N o v))

unfoldable pub settle : ℕ → Columns → List (List ℤ) → List ℤ → Settled
settle limit C N v = settle_from limit C N no_steps v
