-- `tableau::gathering::bring` meets its contract: the first row and row j change their numbers from column c on. Assumes nothing.
use native.Mathlib.Omega.{arith}
use Rattle.tableau.proofs.Lifting.{swapped}
use Rattle.tableau.proofs.gathering.bring.Goals as goal

pub returns : goal.returns
returns c =
    let r = c.requires in
    swapped _ _ _ _ _ _ _ _ r.c_le_w.0 (omega arith) r.c_le_w.1 r.zero_to.0 r.zero_to.1
    c.split_at_mut-top.ensures.front c.split_at_mut-top.ensures.back c.swap_with_slice.ensures.after c.swap_with_slice.ensures.other_after
