-- Reports of C's calls, computed by the checker: the rounds stand last in each, and with a refusal there are none to tell.
--   fitted    FITTED after 4 and 1 steps and 7 rounds
--   refused   a refusal
--   rest      no move improves, after 5 rounds
--   next      the move +N1 −N3 for the second column in the goals part, after 6 rounds
-- Assumes nothing.
use mathlib.Core.Path.{◌≡◌, refl}
use mathlib.Core.List.{[], ◌∷◌}
use Rattle.std.specs.Prelude.{Ok, Err, Some, None}
use lib.IntN.{pos, negsuc}
use Rattle.problem.specs.declared.Refusal.TheVariants.{Seating}
use Rattle.problem.specs.declared.Verdict.TheVariants.{Fitted}
use Rattle.settling.specs.declared.Part.TheVariants.{Goals}
use Rattle.koralimbu.specs.Calls.{report_of}
use Rattle.koralimbu.specs.Previews.{step_of}

fitted : report_of (Ok (Fitted (record { bounds = 4; goals = 1 }))) 7 ≡ 1 ∷ 4 ∷ 1 ∷ 7 ∷ []
fitted = refl

refused : report_of (Err Seating) 0 ≡ 0 ∷ 0 ∷ 0 ∷ 0 ∷ []
refused = refl

rest : step_of (Ok None) 5 ≡ 0 ∷ 0 ∷ 0 ∷ 0 ∷ 0 ∷ 0 ∷ 5 ∷ []
rest = refl

next :
    step_of (Ok (Some (record { part = Goals; column = 1; o = record { s = 0; a = pos 1; t = 2; b = negsuc 0 } }))) 6
    ≡ 2 ∷ 2 ∷ 1 ∷ 1 ∷ 3 ∷ 2 ∷ 6 ∷ []
next = refl
