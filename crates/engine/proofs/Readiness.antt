-- A problem that passes the checks is ready for seating and settling over the basis that lies in its tableau.
--   view_lies      the basis lies in the tableau, and no number of it lies beyond ±M
--   tail           a part of a list from a place on, as it is lent
--   Taken P t N    N is the basis that lies in the tableau t of the problem P
--   table P        its columns, packed; table_columns, and read back; fit_column, each of them fits
--   packable, packs   the lists of a call can be packed, and then are the table
--   ready          so it is, with a list of values within ±M; seatable, with a basis whose leads are above 0 and rise
-- Assumes nothing.
use mathlib.Core.Path.{◌≡◌, refl, sym, ◌∙◌, ap, subst}
use mathlib.Core.List.{[], List}
use Prim.Native.Nat.{ℕ, suc, ◌+◌, ◌*◌, ◌-◌, ◌<◌, ◌≤◌}
use native.Mathlib.Nat.{mul-le-mul_right}
use native.Mathlib.Omega.{arith}
use borrow.Author.Tests.{lt-ltb}
use lib.IntN.{ℤ, pos, nat_abs}
use lib.ListN.{length, take, drop, length-drop}
use lib.Seq.{get_or-drop, take_all}
use Rattle.whole.specs.Lists.{entry}
use Rattle.problem.specs.Limits.{M}
use Rattle.problem.specs.Checks.{Posed}
use Rattle.problem.proofs.CheckLaws.{Fits}
use Rattle.problem.specs.declared.Problem.{Problem}
use Rattle.problem.specs.declared.Lent.{Lent}
use Rattle.settling.specs.Columns.{Columns, listed, columns_in, packed}
use Rattle.settling.specs.Packing.{Packable}
use Rattle.settling.specs.Views.{vectors}
use Rattle.settling.specs.Laid.{Laid}
use Rattle.settling.specs.Ready.{FitColumn, Ready}
use Rattle.settling.proofs.Packing.{packed_length, packed_columns}
use Rattle.engine.specs.Assign.{n, m, columns}
use Rattle.engine.specs.BasisPlace.{width, basis_of, Parted}
use Rattle.engine.proofs.BasisLaws.{basis_start}
use Rattle.settling.specs.declared.Basis.{Basis}
use Rattle.settling.specs.declared.Column.{Column}
use Rattle.problem.specs.declared.Lists.{Lists}
use Rattle.problem.specs.Checks.{posed}
use Rattle.lattice.specs.Span.{All}
use Rattle.lattice.specs.Hermite.{Led, Rising}
use Rattle.settling.specs.Seats.{PositiveLead, Seatable}
use Rattle.settling.specs.Moves.{vector}
use Rattle.settling.proofs.Views.{rows_length}
use Rattle.lattice.proofs.Span.{all_at}
use Rattle.whole.proofs.Integers.{positive_above}

-- a number of vector s, counted from row h on, lies in the table
inside : (k h w m s j : ℕ) → h + suc s ≤ k → m + suc j ≤ w → h * w + m + (s * w + j) < k * w
inside k h w m s j a b =
    let p : (h + suc s) * w ≤ k * w = mul-le-mul_right w a in
    omega (arith, p)

pub view_lies : (p : Problem) (h : ℕ) (t : List ℤ) → Parted p t → Laid p.columns (p.columns - h) (width p) (drop (basis_start p h) t)
view_lies p h t a = record {
  lies = λ s j x y. go s j x y;
  small = λ i. subst (λ (z : ℤ). nat_abs z ≤ M) (sym (get_or-drop (basis_start p h) t i (pos 0))) (a.small (basis_start p h + i));
}
  where
    go : (s j : ℕ) → s < p.columns - h → j < p.columns → s * width p + j < length (drop (basis_start p h) t)
    go s j x y =
        let e : basis_start p h ≡ h * width p + p.rows = rw (lt-ltb h p.columns (omega arith)) refl in
        let i : h * width p + p.rows + (s * width p + j) < p.columns * width p = inside p.columns h (width p) p.rows s j (omega arith)
        (omega arith) in
        omega (arith, a.long, length-drop (basis_start p h) t, e, i)

-- from a place on
pub tail : (t : List ℤ) (a : ℕ) → take (length t - a) (drop a t) ≡ drop a t
tail t a = take_all (length t - a) (drop a t) (omega (arith, length-drop a t))

-- ---- the basis as the code takes it from the tableau t
pub record Taken (P : Posed) (t : List ℤ) (N : Basis) : Type 0 where
  pub is : vectors N ≡ basis_of P.problem t
  pub columns : N.columns ≡ n P
  pub few : N.vectors ≤ n P

-- ---- the table of a problem's columns
abbrev pub table : Posed → List Column
table P = packed (columns P)

pub table_columns : (P : Posed) (L : Lent) → Fits P L → columns_in (n P) (table P) ≡ columns P
table_columns P L f =
    packed_columns (n P) P.lower P.upper P.low P.high P.given P.ideals f.lower_long f.upper_long
    f.low_long f.high_long f.given_long f.ideals_long

-- the lists that a call is lent
module _ (p : Problem) (l : Lists) (L : Lent) (f : Fits (posed p l) L) where
  pub packable : (t : List Column) → length t ≡ p.columns → Packable t l
  packable t e = record {
    room = e ∙ sym f.lower_long;
    upper_long = f.upper_long ∙ sym f.lower_long;
    low_long = f.low_long ∙ sym f.lower_long;
    high_long = f.high_long ∙ sym f.lower_long;
    given_long = f.given_long ∙ sym f.lower_long;
    ideals_long = f.ideals_long ∙ sym f.lower_long;
    low_small = f.low_small;
    high_small = f.high_small;
  }

  pub packs :
      packed (listed (length l.lower.now) l.lower.now l.upper.now l.low.now l.high.now l.given.now l.ideals.now) ≡ table (posed p l)
  packs = ap (λ (k : ℕ). packed (listed k l.lower.now l.upper.now l.low.now l.high.now l.given.now l.ideals.now)) f.lower_long

pub fit_column : (P : Posed) (L : Lent) → Fits P L → (j : ℕ) → FitColumn ((columns P).column j)
fit_column P L f j = record {
  lower = f.lower_small j;
  upper = f.upper_small j;
  low = f.low_small j;
  high = f.high_small j;
  above = f.goal_above j;
}

module _ (P : Posed) (L : Lent) (f : Fits P L) (N : Basis) (t : List ℤ) (b : Taken P t N) where
  pub ready : (v : List ℤ) (c : List Column) → length v ≡ n P → ((j : ℕ) → nat_abs (entry j v) ≤ M) → c ≡ table P → Ready N v c
  ready v c e a g = record {
    few = omega (arith, b.columns, f.few_columns);
    few_vectors = omega (arith, b.few, f.few_columns);
    values_long = e ∙ sym b.columns;
    values_small = a;
    table_long = ap length g ∙ packed_length (columns P).column (n P) 0 ∙ sym b.columns;
    columns = λ j. subst (λ (C : Columns). FitColumn (C.column j)) (sym (read_back c g)) (fit_column P L f j);
  }
    where
      read_back : (c : List Column) → c ≡ table P → columns_in (n P) c ≡ columns P
      read_back c g = ap (columns_in (n P)) g ∙ table_columns P L f

  pub seatable : All (Led (n P)) (basis_of P.problem t) → Rising 0 (basis_of P.problem t) → (s : List ℤ) (c : List Column) → length s ≡ n P
      → ((j : ℕ) → nat_abs (entry j s) ≤ M) → c ≡ table P → Seatable N s c
  seatable led rises s c e a g = record {
    ready = ready s c e a g;
    led = λ k l. leads k l;
    rises = rw b.is rises;
  }
    where
      leads : (k : ℕ) → k < N.vectors → PositiveLead (vector (vectors N) k)
      leads k l =
          let h : length (basis_of P.problem t) ≡ N.vectors = ap length (sym b.is) ∙ rows_length N.vectors N.columns N.stride N.numbers.now in
          let d : Led (n P) (vector (basis_of P.problem t) k) = all_at (Led (n P)) (basis_of P.problem t) k [] (omega (arith, h)) led in
          rw b.is (record { inside = omega (arith, d.wide, d.inside); above = positive_above d.above })
