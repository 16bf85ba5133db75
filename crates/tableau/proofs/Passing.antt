-- Laws of passing the columns of a table.
--   columns-..     one column of several, by what is found there
--   tail_of, room_of   the rows that are not done are a tail, and lie behind the others
--   rows_of, pivot_of   what gathering leaves of them: a pivot, and lower rows with 0 there
--   passed_over, passed_stops   what passing a column with a choice answers and leaves
--   passed_on, -above, -below   the table stands at the next column, with one row more done
--   skipped_on     and so it does past a column with no choice
--   starts, starts_all   the first column
--   picked_of      a choice in the tail
--   none_below     no row is left where all are done
--   ends_columns, -rows   no column or no row left
-- Assumes nothing.
use mathlib.Core.Path.{◌≡◌, refl, sym, ◌∙◌, ap, ap₂, subst}
use mathlib.Core.Bool.{Bool, true, false, ◌||◌}
use mathlib.Core.List.{List, [], ◌∷◌, ◌++◌, append-nil, append_assoc}
use Prim.Native.Nat.{ℕ, zero, suc, ◌+◌, ◌*◌, ◌-◌, ◌<◌, ◌≤◌}
use native.Mathlib.Nat.{le_refl, zero-mul}
use native.Mathlib.Numerals.{add-one}
use native.Mathlib.Omega.{arith}
use lib.IntN.{ℤ, pos}
use lib.ListN.{length, take, drop, length-append, length-drop}
use lib.Seq.{length-take-le}
use Rattle.whole.specs.Lists.{entry}
use Rattle.whole.specs.Quotient.{nearest_quotient}
use Rattle.lattice.specs.Rows.{ZeroTo, flat, chop}
use Rattle.lattice.proofs.RowLaws.{ZeroTo_next, ZeroTo_plus, ZeroTo_neg}
use Rattle.lattice.specs.Span.{All, Len}
use Rattle.lattice.proofs.Span.{all_both, all_append, steps_count, steps_length, steps_all}
use Rattle.lattice.proofs.FlatLaws.{flat_append, flat_chop, chop_next, chop_rows, chop_take, chop_split, length_chop, front_rows, front_rest}
use Rattle.tableau.specs.Elimination.{eliminate_by, pass_column_by, pass_columns_by}
use Rattle.tableau.specs.Elimination.{Run, each, reduced, Choice, none, at, choose, Gathered, Passed, pass_column, pass_columns, eliminate}
use Rattle.tableau.specs.Gathering.{Alone}
use Rattle.tableau.proofs.GatherLaws.{nearest_shrinks, Stands, choose_stands, gather_steps, gather_alone, gathering_first}
use Rattle.tableau.specs.Within.{Within}
use Rattle.whole.proofs.Tests.{neither}
use Rattle.tableau.proofs.Within.{within_append, within_take, within_drop}
use Rattle.tableau.specs.RowSteps.{StopsRun, each_of, Pivot}
use Rattle.tableau.specs.Tails.{Tail, Picked, gathering_of}
use Rattle.tableau.specs.ColumnPass.{Standing, above_of, below_of, passed_of, rejoined}
use Rattle.std.specs.Prelude.{Result, Ok, Err}
use Rattle.tableau.specs.declared.Beyond.{Beyond}
use Rattle.tableau.specs.declared.rows.Way.TheVariants.{Above}
use Rattle.tableau.proofs.Walking.{stepping, each_wide, each_count}
use Rattle.tableau.proofs.Staying.{flat_all, all_flat, each_all, gather_all}

-- ---- the columns of the definition
after : ℕ → ℕ → Passed → Run
after d c x = let y : Run = pass_columns d c x.above x.below in record { table = y.table; over = x.over || y.over }

next_column : (d c : ℕ) (A B : List (List ℤ)) → 0 < d → pass_columns d c A B ≡ after (d - 1) (c + 1) (pass_column c A B (choose c B))
unfolding pass_columns_by after
next_column zero c A B h = absurd (omega arith)
next_column (suc d) c A B h = let e : suc d - 1 ≡ d = omega arith in rw (e, add-one)

module _ (d c : ℕ) (A B : List (List ℤ)) where
  abbrev found : Passed
  found = pass_column c A B (choose c B)

  pub columns_over : 0 < d → found.over ≡ true → (pass_columns d c A B).over ≡ true
  unfolding after
  columns_over h e =
      ap (λ (y : Run). y.over) (next_column d c A B h)
      ∙ ap (λ (b : Bool). b || (pass_columns (d - 1) (c + 1) found.above found.below).over) e

  pub columns_on : 0 < d → found.over ≡ false → pass_columns d c A B ≡ pass_columns (d - 1) (c + 1) found.above found.below
  unfolding after
  columns_on h e =
      next_column d c A B h
      ∙ ap (λ (b : Bool). after (d - 1) (c + 1) (record { above = found.above; below = found.below; over = b })) e

  pub columns_skip : 0 < d → choose c B ≡ none → pass_columns d c A B ≡ pass_columns (d - 1) (c + 1) A B
  unfolding pass_column_by after
  columns_skip h e = next_column d c A B h ∙ ap (λ (z : Choice). after (d - 1) (c + 1) (pass_column c A B z)) e

columns_end : (d c : ℕ) (A B : List (List ℤ)) → d ≡ 0 → pass_columns d c A B ≡ record { table = A ++ B; over = false }
unfolding pass_columns_by
columns_end d c A B e = rw e

columns_none : (d c : ℕ) (A : List (List ℤ)) → pass_columns d c A [] ≡ record { table = A ++ []; over = false }
unfolding pass_columns_by pass_column_by choose
columns_none zero c A = refl
columns_none (suc d) c A = columns_none d (suc c) A

-- ---- the rows that are not done
split : (n k w : ℕ) → k ≤ n → n * w ≡ k * w + (n - k) * w
split n k w h = let e : n ≡ k + (n - k) = omega arith in ap (λ (x : ℕ). x * w) e ∙ omega arith

pub tail_of : {n w c k : ℕ} {t : List ℤ} → Standing n w c k t → c < w → Tail (n - k) w c (drop (k * w) t)
tail_of {n} {w} {c} {k} {t} h l = record {
  wide = omega (arith, length-drop (k * w) t, h.wide, split n k w h.most);
  column = l;
  small = within_drop (k * w) t h.small;
  front = h.front;
}

pub room_of : {n w c k : ℕ} {t : List ℤ} → Standing n w c k t → k * w ≤ length t
room_of {n} {w} {c} {k} {t} h = omega (arith, h.wide, split n k w h.most)

-- ---- what gathering leaves
pub record Gathering (k w c : ℕ) (G : Gathered) : Type 0 where
  pub wide : All (Len w) (G.pivot ∷ G.below)
  pub front : All (ZeroTo c) (G.pivot ∷ G.below)
  pub alone : Alone c G.pivot G.below
  pub count : length G.below ≡ k - 1
  pub small : G.over ≡ false → All Within (G.pivot ∷ G.below)

gathered : {k w c j : ℕ} {t : List ℤ} → Tail k w c t → Picked k w c t j → Gathering k w c (gathering_of k w c t)
gathered {k} {w} {c} {j} {t} h g =
    let b : List ℤ = take w t in
    let B : List (List ℤ) = chop (k - 1) w (drop w t) in
    let p : ℕ = g.size in
    let e : chop k w t ≡ b ∷ B = chop_next k w t g.some in
    subst (Gathering k w c) (sym (gathering_first g.is)) (record {
      wide = steps_length w (gather_steps nearest_quotient p c (at j p) b B) g.is.wide;
      front =
          steps_all (ZeroTo c) (ZeroTo_neg c) (ZeroTo_plus c) (gather_steps nearest_quotient p c (at j p) b B) (subst (All (ZeroTo c)) e h.front);
      alone = gather_alone nearest_shrinks g.is p j p (omega arith);
      count = omega (arith, steps_count (gather_steps nearest_quotient p c (at j p) b B), length_chop (k - 1) w (drop w t));
      small = gather_all p c (at j p) b B (subst (All Within) e (all_flat (chop k w t) (rw (flat_chop k w t h.wide) h.small)));
    })

pub pivot_of : {k w c : ℕ} {G : Gathered} → Gathering k w c G → G.over ≡ false → Pivot (length G.pivot) c G.pivot
pivot_of h o = record { wide = refl; small = (h.small o).0; front = h.front.0; lead = h.alone.lead }

-- ---- a column with a choice
module _ {n w c k j : ℕ} {t : List ℤ} (h : Standing n w c k t) (l : c < w) (g : Picked (n - k) w c (drop (k * w) t) j) where
  abbrev G : Gathered
  G = gathering_of (n - k) w c (drop (k * w) t)

  abbrev A : Run
  A = each (reduced c G.pivot) (above_of w k t)

  pub rows_of : Gathering (n - k) w c G
  rows_of = gathered (tail_of h l) g

  passed_is : passed_of n w c k t ≡ record { above = A.table ++ (G.pivot ∷ []); below = G.below; over = G.over || A.over }
  unfolding pass_column_by
  passed_is =
      let b : List ℤ = take w (drop (k * w) t) in
      let B : List (List ℤ) = chop (n - k - 1) w (drop w (drop (k * w) t)) in
      ap (λ (T : List (List ℤ)). pass_column c (above_of w k t) T (choose c T)) (chop_next (n - k) w (drop (k * w) t) g.some)
      ∙ ap (pass_column c (above_of w k t) (b ∷ B)) g.is.choice
      ∙ ap (λ (y : Gathered).
      let a : Run = each (reduced c y.pivot) (above_of w k t) in
      record { above = a.table ++ (y.pivot ∷ []); below = y.below; over = y.over || a.over })
      (sym (gathering_first g.is))

  pub passed_over : G.over ≡ true → (passed_of n w c k t).over ≡ true
  passed_over e = ap (λ (x : Passed). x.over) passed_is ∙ ap (λ (b : Bool). b || A.over) e

  table_is : flat (rejoined (passed_of n w c k t)).table ≡ flat A.table ++ flat (G.pivot ∷ G.below)
  table_is =
      ap (λ (x : Passed). flat (x.above ++ x.below)) passed_is
      ∙ ap flat (append_assoc A.table (G.pivot ∷ []) G.below)
      ∙ flat_append A.table (G.pivot ∷ G.below)

  over_is : G.over ≡ false → (passed_of n w c k t).over ≡ A.over
  over_is o = ap (λ (x : Passed). x.over) passed_is ∙ ap (λ (b : Bool). b || A.over) o

  -- the rows above, as the code takes them
  above_is : {p : List ℤ} → p ≡ G.pivot → each_of Above c p k (take (k * w) t) ≡ A
  above_is {p} e =
      ap (λ (r : List ℤ). each_of Above c r k (take (k * w) t)) e
      ∙ ap (each (reduced c G.pivot))
      (ap (λ (m : ℕ). chop k m (take (k * w) t)) rows_of.wide.0 ∙ chop_take k w (k * w) t (le_refl (k * w)))

  pub passed_stops : (p v u : List ℤ) (r : Result (Unit {0}) Beyond) → G.over ≡ false → p ≡ G.pivot → u ≡ flat (G.pivot ∷ G.below)
      → StopsRun (each_of Above c p k (take (k * w) t)) r v → StopsRun (rejoined (passed_of n w c k t)) r (v ++ u)
  passed_stops p v u (Ok a) o e f s = (
    over_is o ∙ ap (λ (x : Run). x.over) (sym (above_is e)) ∙ s.0,
    ap₂ (λ (x y : List ℤ). x ++ y) (s.1 ∙ ap (λ (x : Run). flat x.table) (above_is e)) f ∙ sym table_is,
  )
  passed_stops p v u (Err a) o e f s = over_is o ∙ ap (λ (x : Run). x.over) (sym (above_is e)) ∙ s

  -- ---- the table then
  module _ {u : List ℤ} (o : (passed_of n w c k t).over ≡ false) (s : u ≡ flat (rejoined (passed_of n w c k t)).table) (m : length u ≡ length t) where
    both : (G.over ≡ false) × (A.over ≡ false)
    both = neither G.over A.over (sym (ap (λ (x : Passed). x.over) passed_is) ∙ o)

    abbrev X : List (List ℤ)
    X = A.table ++ (G.pivot ∷ [])

    above_list : flat (above_of w k t) ≡ take (k * w) t
    above_list =
        ap flat (sym (chop_take k w (k * w) t (le_refl (k * w)))) ∙ flat_chop k w (take (k * w) t) (length-take-le (k * w) t (room_of h))

    x_wide : All (Len w) X
    x_wide =
        (all_append (Len w) A.table (G.pivot ∷ [])).1 (
          each_wide w (above_of w k t) (stepping Above c G.pivot)
              (subst (All (Len w)) (chop_take k w (k * w) t (le_refl (k * w)))
              (chop_rows k w (take (k * w) t) (length-take-le (k * w) t (room_of h)))),
          (rows_of.wide.0, tt),
        )

    x_count : length X ≡ k + 1
    x_count = length-append A.table (G.pivot ∷ []) ∙ ap (λ (i : ℕ). i + 1) (each_count (reduced c G.pivot) (above_of w k t) ∙ length_chop k w t)

    list_is : u ≡ flat X ++ flat G.below
    list_is = s ∙ ap (λ (x : Passed). flat (x.above ++ x.below)) passed_is ∙ flat_append X G.below

    some : k + 1 ≤ n
    some = omega (arith, g.some)

    below_count : length G.below ≡ n - (k + 1)
    below_count = rows_of.count ∙ omega arith

    x_small : All Within X
    x_small =
        (all_append Within A.table (G.pivot ∷ [])).1 (
          each_all (above_of w k t) (stepping Above c G.pivot)
              (all_flat (above_of w k t) (rw (above_list) (within_take (k * w) t h.small))) both.1,
          ((rows_of.small both.0).0, tt),
        )

    pub passed_above : above_of w (k + 1) u ≡ (passed_of n w c k t).above
    passed_above =
        ap (chop (k + 1) w) list_is ∙ front_rows (k + 1) w X (flat G.below) x_wide x_count ∙ ap (λ (x : Passed). x.above) (sym passed_is)

    below_here : below_of n w (k + 1) u ≡ G.below
    below_here =
        ap (chop (n - (k + 1)) w) (ap (drop ((k + 1) * w)) list_is ∙ front_rest (k + 1) w X (flat G.below) x_wide x_count)
        ∙ ap (λ (v : List ℤ). chop (n - (k + 1)) w v) (sym (append-nil (flat G.below)))
        ∙ front_rows (n - (k + 1)) w G.below [] rows_of.wide.1 below_count

    pub passed_below : below_of n w (k + 1) u ≡ (passed_of n w c k t).below
    passed_below = below_here ∙ ap (λ (x : Passed). x.below) (sym passed_is)

    pub passed_on : Standing n w (c + 1) (k + 1) u
    passed_on = record {
      wide = m ∙ h.wide;
      most = some;
      small =
          subst Within (sym list_is)
          (within_append (flat X) (flat G.below) (flat_all X x_small) (flat_all G.below (rows_of.small both.0).1));
      front =
          subst (All (ZeroTo (c + 1))) (sym below_here)
          (rw (add-one)
          (all_both (ZeroTo c) (λ (r : List ℤ). entry c r ≡ pos 0) (ZeroTo (suc c)) (ZeroTo_next c) G.below
          rows_of.front.1 rows_of.alone.lower));
    }

-- ---- a column with no choice
pub skipped_on : {n w c k : ℕ} {t : List ℤ} → Standing n w c k t → choose c (below_of n w k t) ≡ none → Standing n w (c + 1) k t
skipped_on {n} {w} {c} {k} {t} h e =
    let B : List (List ℤ) = below_of n w k t in
    record {
      wide = h.wide;
      most = h.most;
      small = h.small;
      front =
          rw (add-one)
          (all_both (ZeroTo c) (λ (r : List ℤ). entry c r ≡ pos 0) (ZeroTo (suc c)) (ZeroTo_next c) B h.front
          (subst (Stands c B) e (choose_stands c B)));
    }

-- ---- all columns
pub starts : {n w : ℕ} {t : List ℤ} → length t ≡ n * w → Within t → Standing n w 0 0 t
starts {n} {w} {t} l s = record { wide = l; most = omega arith; small = s; front = none_yet (below_of n w 0 t) }
  where
    none_yet : (T : List (List ℤ)) → All (ZeroTo 0) T
    none_yet [] = tt
    none_yet (r ∷ T) = (tt, none_yet T)

pub starts_all : (n w : ℕ) (t : List ℤ) → pass_columns (w - 0) 0 (above_of w 0 t) (below_of n w 0 t) ≡ eliminate w (chop n w t)
unfolding eliminate_by
starts_all n w t =
    let a : w - 0 ≡ w = omega arith in
    let b : n - 0 ≡ n = omega arith in
    rw (a, b, zero-mul)

pub picked_of : {k w c j p : ℕ} {t : List ℤ} → Tail k w c t → 0 < k → choose c (chop k w t) ≡ at j p → Picked k w c t j
picked_of {k} {w} {c} {j} {p} {t} h s e =
    let n : chop k w t ≡ take w t ∷ chop (k - 1) w (drop w t) = chop_next k w t s in
    record {
      some = s;
      size = p;
      is = record {
        within = h.column;
        wide = subst (All (Len w)) n (chop_rows k w t h.wide);
        choice = ap (choose c) (sym n) ∙ e;
      };
    }

whole : {n w c k : ℕ} {t : List ℤ} → Standing n w c k t → flat (above_of w k t ++ below_of n w k t) ≡ t
whole {n} {w} {c} {k} {t} h =
    let e : k + (n - k) ≡ n = omega (arith, h.most) in
    ap flat (sym (chop_split k (n - k) w t) ∙ ap (λ (m : ℕ). chop m w t) e) ∙ flat_chop n w t h.wide

pub none_below : {n k : ℕ} (w : ℕ) (t : List ℤ) → k ≡ n → below_of n w k t ≡ []
none_below {n} {k} w t e = let z : n - k ≡ 0 = omega arith in rw z

-- where the columns left change nothing more
module _ {n w c k : ℕ} {t : List ℤ} {E : Run} (d : ℕ) (h : Standing n w c k t) (r : pass_columns d c (above_of w k t) (below_of n w k t) ≡ E) where
  stop : pass_columns d c (above_of w k t) (below_of n w k t) ≡ record { table = above_of w k t ++ below_of n w k t; over = false }
      → (E.over ≡ false) × (t ≡ flat E.table)
  stop e = (ap (λ (x : Run). x.over) (sym r ∙ e), sym (whole h) ∙ ap (λ (x : Run). flat x.table) (sym e ∙ r))

  pub ends_columns : d ≡ 0 → (E.over ≡ false) × (t ≡ flat E.table)
  ends_columns e = stop (columns_end d c (above_of w k t) (below_of n w k t) e)

  pub ends_rows : k ≡ n → (E.over ≡ false) × (t ≡ flat E.table)
  ends_rows e = stop (rw (none_below w t e) (columns_none d c (above_of w k t)))
