-- What the steps keep: rows within ±M, where they mark no number beyond ±M.
--   flat_all, all_flat   rows within ±M, and the list of them
--   each_all, signed_all, round_all, gather_all   each row's step, a sign, a round and gathering keep rows within ±M
--   eliminate_all        so does the whole elimination
-- Assumes nothing.
use mathlib.Core.Path.{◌≡◌, refl}
use mathlib.Core.Bool.{false}
use mathlib.Core.List.{List, [], ◌∷◌}
use Prim.Native.Nat.{ℕ, zero, suc}
use lib.IntN.{ℤ, pos, negsuc}
use lib.ListN.{get_or, set}
use Rattle.whole.specs.Lists.{entry}
use Rattle.whole.proofs.Tests.{neither}
use Rattle.lattice.specs.Rows.{flat}
use Rattle.lattice.specs.Span.{All}
use Rattle.lattice.proofs.Span.{all_append}
use Rattle.problem.specs.Limits.{any_beyond}
use Rattle.tableau.specs.Within.{Within}
use Rattle.tableau.specs.Elimination.{clear_by, eliminate_by, gather_by, pass_column_by, pass_columns_by, round_by}
use Rattle.tableau.specs.Elimination.{Left, each, reduced, Choice, none, at, choose, Gathered, exchange, signed, round, gather}
use Rattle.tableau.specs.Elimination.{Passed, pass_column, pass_columns, eliminate}
use Rattle.tableau.proofs.Within.{within_append, within_left, within_right, within_neg}
use Rattle.tableau.specs.declared.rows.Way.TheVariants.{Below, Above}
use Rattle.tableau.proofs.Walking.{Step, stepping}

pub flat_all : (T : List (List ℤ)) → All Within T → Within (flat T)
unfolding any_beyond
flat_all [] a = refl
flat_all (r ∷ T) a = within_append r (flat T) a.0 (flat_all T a.1)

pub all_flat : (T : List (List ℤ)) → Within (flat T) → All Within T
all_flat [] h = tt
all_flat (r ∷ T) h = (within_left r (flat T) h, all_flat T (within_right r (flat T) h))

pub each_all : {f : List ℤ → Left} (B : List (List ℤ)) → Step f → All Within B → (each f B).over ≡ false → All Within (each f B).table
unfolding each
each_all {f} [] s a e = tt
each_all {f} (r ∷ B) s a e =
    let d : ((f r).over ≡ false) × ((each f B).over ≡ false) = neither (f r).over (each f B).over e in
    (s.holds r a.0 d.0, each_all B s a.1 d.1)

row_all : (B : List (List ℤ)) (j : ℕ) (b : List ℤ) → Within b → All Within B → Within (get_or B j b)
row_all [] j b h a = h
row_all (r ∷ B) zero b h a = a.0
row_all (r ∷ B) (suc j) b h a = row_all B j b h a.1

set_all : (B : List (List ℤ)) (j : ℕ) (b : List ℤ) → Within b → All Within B → All Within (set B j b)
set_all [] j b h a = tt
set_all (r ∷ B) zero b h a = (h, a.1)
set_all (r ∷ B) (suc j) b h a = (a.0, set_all B j b h a.1)

exchange_all : (z : Choice) (b : List ℤ) (B : List (List ℤ)) → All Within (b ∷ B) → All Within ((exchange z b B).0 ∷ (exchange z b B).1)
unfolding exchange
exchange_all none b B a = a
exchange_all (at zero p) b B a = a
exchange_all (at (suc j) p) b B a = (row_all B j b a.0 a.1, set_all B j b a.0 a.1)

pub signed_all : (z : ℤ) (r : List ℤ) → Within r → Within (signed z r)
signed_all (pos n) r h = h
signed_all (negsuc n) r h = within_neg r h

pub round_all : (c : ℕ) (b : List ℤ) (B : List (List ℤ)) → All Within (b ∷ B) → (round c b B).over ≡ false
    → All Within ((round c b B).pivot ∷ (round c b B).below)
unfolding round_by clear_by
round_all c b B a e =
    let z : Choice = choose c (b ∷ B) in
    let x : List ℤ × List (List ℤ) = exchange z b B in
    let h : All Within (x.0 ∷ x.1) = exchange_all z b B a in
    (signed_all (entry c x.0) x.0 h.0, each_all x.1 (stepping Below c (signed (entry c x.0) x.0)) h.1 e)

pub gather_all : (f c : ℕ) (z : Choice) (b : List ℤ) (B : List (List ℤ)) → All Within (b ∷ B) → (gather f c z b B).over ≡ false
    → All Within ((gather f c z b B).pivot ∷ (gather f c z b B).below)
unfolding gather_by
gather_all zero c z b B a e = a
gather_all (suc f) c none b B a e = a
gather_all (suc f) c (at j p) b B a e =
    let x : Gathered = round c b B in
    let y : Gathered = gather f c (choose c x.below) x.pivot x.below in
    let d : (x.over ≡ false) × (y.over ≡ false) = neither x.over y.over e in
    gather_all f c (choose c x.below) x.pivot x.below (round_all c b B a d.0) d.1

-- ---- columns
column_all : (c : ℕ) (A B : List (List ℤ)) (z : Choice) → All Within A → All Within B → (pass_column c A B z).over ≡ false
    → All Within (pass_column c A B z).above × All Within (pass_column c A B z).below
unfolding pass_column_by
column_all c A B none a b e = (a, b)
column_all c A [] (at j p) a b e = (a, tt)
column_all c A (r ∷ B) (at j p) a b e =
    let g : Gathered = gather p c (at j p) r B in
    let d : (g.over ≡ false) × ((each (reduced c g.pivot) A).over ≡ false) = neither g.over (each (reduced c g.pivot) A).over e in
    let h : All Within (g.pivot ∷ g.below) = gather_all p c (at j p) r B b d.0 in
    let k : All Within (each (reduced c g.pivot) A).table = each_all A (stepping Above c g.pivot) a d.1 in
    ((all_append Within (each (reduced c g.pivot) A).table (g.pivot ∷ [])).1 (k, (h.0, tt)), h.1)

columns_all : (d c : ℕ) (A B : List (List ℤ)) → All Within A → All Within B → (pass_columns d c A B).over ≡ false
    → All Within (pass_columns d c A B).table
unfolding pass_columns_by
columns_all zero c A B a b e = (all_append Within A B).1 (a, b)
columns_all (suc d) c A B a b e =
    let x : Passed = pass_column c A B (choose c B) in
    let h : (x.over ≡ false) × ((pass_columns d (suc c) x.above x.below).over ≡ false) =
    neither x.over (pass_columns d (suc c) x.above x.below).over e in
    let s : All Within x.above × All Within x.below = column_all c A B (choose c B) a b h.0 in
    columns_all d (suc c) x.above x.below s.0 s.1 h.1

pub eliminate_all : (w : ℕ) (T : List (List ℤ)) → All Within T → (eliminate w T).over ≡ false → All Within (eliminate w T).table
unfolding eliminate_by
eliminate_all w T a e = columns_all w 0 [] T tt a e
