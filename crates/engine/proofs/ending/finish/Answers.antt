-- `engine::ending::finish` meets its contract: what is copied is the seated list, and it is settled. Assumes nothing.
use Rattle.std.proofs.Common.{subst, sym, List, ℤ}
use Rattle.settling.specs.Columns.{columns_in}
use Rattle.settling.specs.Ready.{Ready}
use Rattle.settling.specs.Seating.{seat}
use Rattle.settling.specs.Views.{vectors}
use Rattle.engine.proofs.Finishing.{leaves_seated, seated_ready}
use Rattle.engine.proofs.ending.finish.Goals as goal

pub settle_on-requires : goal.settle_on-requires
settle_on-requires c = (
  subst (λ (u : List ℤ). Ready c.args.basis u c.args.columns.now) (sym c.copy_from_slice.ensures.after)
      (seated_ready c.requires.seatable.ready c.seat.new.values
      (leaves_seated (seat (columns_in c.args.basis.columns c.args.columns.now) (vectors c.args.basis) c.args.start.now) c.args.start.now
      c.seat.new.values c.seat.result c.in_ok-seat.was c.seat.ensures)),
  c.requires.strides,
)
