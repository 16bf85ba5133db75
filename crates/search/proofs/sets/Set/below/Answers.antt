-- `search::sets::Set::below` meets its contract: all digits of the word are 1, and it has n. Assumes nothing.
use mathlib.Core.Path.{◌∙◌, ap}
use Prim.Native.Nat.{ℕ, ◌-◌}
use lib.Pow.{pow_pos}
use Rattle.search.specs.Sets.{has}
use Rattle.search.proofs.Setting.{below_has}
use Rattle.search.proofs.Finding.{shifted}
use Rattle.search.proofs.sets.Set.below.Goals as goal

pub overflow_shl-result : goal.overflow_shl-result
overflow_shl-result c = c.requires

pub overflow_sub-result : goal.overflow_sub-result
overflow_sub-result c = rw (shifted c.args.n c.requires) (pow_pos c.args.n)

pub returns : goal.returns
returns c = λ s. ap (λ (w : ℕ). has (w - 1) s) (shifted c.args.n c.requires) ∙ below_has c.args.n s
