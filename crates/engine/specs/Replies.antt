-- What a call returns beside its buffers, and the buffers as they are lent.
--   Buffers, Assigned, Sight   the lent buffers; what a call returns that is not turned back, and a preview (declared in src/)
--   held b         what the lent buffers b hold; left b, what they hold when the call ends
--   done_by r B    what a call does that returns r and leaves B in its buffers. Document 02, (vii): "A refusal returns 0 rounds."
--   shown_by r B   the same of a preview
-- Assumes nothing.
use denote.MutBor.{MutBor}
use Rattle.std.specs.Prelude.{List, ℕ, ℤ, Result, Ok, Err}
use Rattle.problem.specs.declared.Refusal.{Refusal}
use Rattle.engine.specs.Assign.{Buffers, buffers, Done, done}
use Rattle.engine.specs.Preview.{Shown, shown}
use Rattle.engine.specs.declared.Buffers as Lent
use Rattle.engine.specs.declared.Assigned.{Assigned}
use Rattle.engine.specs.declared.preview.Sight.{Sight}

abbrev pub held : Lent.Buffers → Buffers
held b = buffers b.tableau.now b.values.now b.strides.now

abbrev pub left : MutBor (List ℤ) × (MutBor (List ℤ) × (MutBor (List ℕ) × Unit {0})) → Buffers
left b = buffers b.0.now b.1.0.now b.1.1.0.now

abbrev pub done_by : Result Assigned Refusal → Buffers → Done
done_by (Ok x) B = done (Ok x.verdict) x.rounds B.tableau B.values B.strides
done_by (Err why) B = done (Err why) 0 B.tableau B.values B.strides

abbrev pub shown_by : Result Sight Refusal → Buffers → Shown
shown_by (Ok x) B = shown (Ok x.next) x.rounds B.tableau B.values B.strides
shown_by (Err why) B = shown (Err why) 0 B.tableau B.values B.strides
