-- `rightside::turn_over` meets its contract: from the left, each right side's negative is stored. Assumes nothing.
use mathlib.Core.Path.{◌≡◌, sym, ◌∙◌, ap, ap₂}
use mathlib.Core.List.{List, ◌++◌}
use Prim.Native.Nat.{ℕ, ◌≤◌}
use native.Mathlib.Omega.{arith}
use lib.IntN.{ℤ, pos, neg_ℤ}
use lib.ListN.{length, take, drop, length-append, length-drop, get_or-append}
use lib.Seq.{take_at}
use Rattle.whole.specs.Lists.{entry}
use Rattle.whole.proofs.Signed.{abs_neg}
use Rattle.whole.proofs.Writing.{starts, goes_on}
use Rattle.lattice.specs.Rows.{neg}
use Rattle.lattice.proofs.RowLaws.{length_neg, entry_neg}
use Rattle.tableau.proofs.Machine.{read, turned, turned_fits}
use Rattle.tableau.proofs.Within.{within_entry}
use Rattle.rightside.proofs.turn_over.Goals as goal

wide : (b v : List ℤ) → length b ≤ length v → length (neg b ++ drop (length b) v) ≡ length v
wide b v h = omega (arith, length-append (neg b) (drop (length b) v), length_neg b, length-drop (length b) v)

pub loop-i-init : goal.loop-i-init
loop-i-init c = starts (sym (wide c.args.rights.now c.args.v.now c.requires.0))

pub overflow_sub-v : goal.overflow_sub-v
overflow_sub-v c =
    let x = entry c.loop-i.i c.args.rights.now in
    let s = within_entry c.args.rights.now c.loop-i.i c.requires.1 in
    rw (read x s) (turned_fits x s)

pub loop-i-preserved : goal.loop-i-preserved
loop-i-preserved c =
    let b = c.args.rights.now in
    let v = c.args.v.now in
    let i = c.loop-i.i in
    let s = within_entry b i c.requires.1 in
    goes_on c.loop-i.invariant (omega (arith, wide b v c.requires.0, c.requires.0))
    (rw (read (entry i b) s, turned, read (neg_ℤ (entry i b)) (omega (arith, abs_neg (entry i b), s)))
    (sym (get_or-append (neg b) (drop (length b) v) (pos 0) i (omega (arith, length_neg b)) ∙ entry_neg i b)))

pub returns : goal.returns
returns c =
    let b : List ℤ = c.args.rights.now in
    let v : List ℤ = c.args.v.now in
    let e : c.loop-i.i ≡ length b = omega arith in
    c.loop-i.invariant.is
    ∙ ap₂ (λ (i k : ℕ). take i (neg b ++ drop (length b) v) ++ drop k v) e e
    ∙ ap (λ (x : List ℤ). x ++ drop (length b) v) (take_at (neg b) (drop (length b) v) (length b) (length_neg b))
