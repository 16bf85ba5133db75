-- `search::sets::Set::only` meets its contract: the word has one digit. Assumes nothing.
use mathlib.Core.Path.{◌∙◌, ap}
use Prim.Native.Nat.{ℕ}
use Rattle.search.specs.Sets.{has}
use Rattle.search.proofs.Setting.{only_has}
use Rattle.search.proofs.Finding.{shifted}
use Rattle.search.proofs.sets.Set.only.Goals as goal

pub overflow_shl-result : goal.overflow_shl-result
overflow_shl-result c = c.requires

pub returns : goal.returns
returns c = λ s. ap (λ (w : ℕ). has w s) (shifted c.args.n c.requires) ∙ only_has c.args.n s
