-- The joined problem passes causes 1 to 5 itself: it is ready for a call as it stands.
--   Spans k x                x lies in −k to k
--   span_all, all_span_lem   a list's numbers lie in a range, by the test over the list and member by member
--   BoundsFit, GoalsFit c   the bounds, and the goals, of the column c fit
--   shared_bounds            a shared column's bounds fit, where they leave something
--   shared_goals             and its goals: a goal on either side brings a lower bound of 1 or more, and low stays at most high
--   absorb_all               what two columns hand on to the one they become holds of all joined columns
--   joined_passes            the joined problem, of parts that pass and partners that are ready, where its sizes fit
-- Assumes nothing.
use mathlib.Core.Path.{◌≡◌, refl, sym, ◌∙◌, ap, ap₂, subst}
use mathlib.Core.Bool.{Bool, true, false, not, cond, ◌&&◌, ◌||◌}
use mathlib.Core.List.{List, [], ◌∷◌, ◌++◌, map}
use Prim.Native.Nat.{ℕ, ◌+◌, ◌*◌, ◌<◌}
use native.Mathlib.Omega.{arith}
use borrow.Author.Tests.{eq-eqb, not-true}
use lib.Dec.{eqb}
use lib.IntN.{ℤ, pos}
use lib.ListN.{length, set, length-append, length-map, get_or-map}
use lib.Signed.{le_z}
use Rattle.std.specs.Prelude.{Option, Some, None}
use Rattle.whole.specs.Lists.{entry, zeros}
use Rattle.whole.specs.Tests.{is_zero, spans}
use Rattle.whole.proofs.Tests.{both_true, all_true}
use Rattle.whole.proofs.Counted.{every_at, every_all}
use Rattle.lattice.specs.Rows.{flat}
use Rattle.lattice.specs.Span.{All}
use Rattle.lattice.proofs.Span.{all_append, all_end, all_at}
use Rattle.lattice.proofs.FlatLaws.{length_flat}
use Rattle.problem.specs.Limits.{max_columns, max_rows, max_coefficient, max_right, max_bound}
use Rattle.problem.specs.Checks.{sizes_fit, all_span, bound_fits, bounds_fit, goal_inside, both_or_none, goal_fits, goals_fit}
use Rattle.pairing.specs.Parts.{Part, PartColumn, no_column, column_in, columns, at, sized, matrix}
use Rattle.pairing.specs.Pairs.{larger, smaller}
use Rattle.pairing.proofs.Orders.{le_trans, larger_is, smaller_is, le_larger, smaller_le}
use Rattle.pairing.proofs.Partners.{length_columns, at_columns, Leaves, Ready, ready_set, ready_append, Partners}
use Rattle.joined.specs.Columns.{goal_of, shared, absorb, places, unshared, joined_count, joined_columns}
use Rattle.joined.specs.Joined.{padded, spread_from, spread, joined_matrix, joined}
use Rattle.joined.proofs.Passing.{PartPasses, part_fits, room_right}
use Rattle.joined.proofs.Every.{all_places, all_set, all_zeros, all_chop, all_flat}
use Rattle.joined.proofs.Shares.{joined_wide, joined_rows, joined_long}

-- ---- rows
abbrev Spans : ℕ → ℤ → Type 0
Spans k x = spans k x ≡ true

span_all : (k : ℕ) (l : List ℤ) → all_span k l ≡ true → All (Spans k) l
span_all k l e = all_places (Spans k) l (pos 0) (λ j h. every_at (length l) (λ i. spans k (entry i l)) j e h)

all_span_lem : (k : ℕ) (l : List ℤ) → All (Spans k) l → all_span k l ≡ true
all_span_lem k l e = every_all (length l) (λ i. spans k (entry i l)) (λ j h. all_at (Spans k) l j (pos 0) h e)

-- a row spread over zeros has no other numbers
spread_all : (Q : ℤ → Type 0) (r : List ℤ) (S : List ℕ) (a : List ℤ) → All Q r → All Q a → All Q (spread_from r S a)
unfolding spread_from
spread_all Q r [] a e f = e
spread_all Q r (i ∷ S) [] e f = e
spread_all Q r (i ∷ S) (x ∷ a) e f = spread_all Q (set r i x) S a (all_set Q r i x e f.0) f.1

padded_rows : (Q : ℤ → Type 0) (k : ℕ) (A : List (List ℤ)) → Q (pos 0) → All (All Q) A → All (All Q) (map (padded k) A)
padded_rows Q k [] z e = tt
padded_rows Q k (a ∷ A) z e = ((all_append Q a (zeros k)).1 (e.0, all_zeros Q k z), padded_rows Q k A z e.1)

spread_rows : (Q : ℤ → Type 0) (n : ℕ) (S : List ℕ) (A : List (List ℤ)) → Q (pos 0) → All (All Q) A → All (All Q) (map (spread n S) A)
spread_rows Q n S [] z e = tt
spread_rows Q n S (a ∷ A) z e = (spread_all Q (zeros n) S a (all_zeros Q n z) e.0, spread_rows Q n S A z e.1)

-- ---- a shared column
abbrev BoundsFit : PartColumn → Type 0
BoundsFit c = bound_fits c.lower c.upper ≡ true

abbrev GoalsFit : PartColumn → Type 0
GoalsFit c = goal_fits c.lower c.low c.high ≡ true

shared_bounds : (c d : PartColumn) → Leaves c d → BoundsFit c → BoundsFit d → BoundsFit (shared c d)
shared_bounds c d e f g =
    let a = all_true (spans max_bound c.lower) (spans max_bound c.upper) (le_z c.lower c.upper) f in
    let b = all_true (spans max_bound d.lower) (spans max_bound d.upper) (le_z d.lower d.upper) g in
    ap₂ ◌&&◌ (larger_is (Spans max_bound) c.lower d.lower a.0 b.0)
    (ap₂ ◌&&◌ (smaller_is (Spans max_bound) c.upper d.upper a.1 b.1) e)

abbrev Inside : ℤ → Type 0
Inside x = goal_inside x ≡ true

record GoalFacts (lower low high : ℤ) : Type 0 where
  low_in : Inside low
  high_in : Inside high
  paired : both_or_none low high ≡ true
  ordered : le_z low high ≡ true
  above : is_zero low || le_z (pos 1) lower ≡ true

goal_facts : (lower low high : ℤ) → goal_fits lower low high ≡ true → GoalFacts lower low high
goal_facts lower low high e =
    let rest : Bool = le_z low high && (is_zero low || le_z (pos 1) lower) in
    let a = all_true (goal_inside low) (goal_inside high) (both_or_none low high && rest) e in
    let b = all_true (both_or_none low high) (le_z low high) (is_zero low || le_z (pos 1) lower) a.2 in
    record { low_in = a.0; high_in = a.1; paired = b.0; ordered = b.1; above = b.2 }

facts_goal : (lower low high : ℤ) → GoalFacts lower low high → goal_fits lower low high ≡ true
facts_goal lower low high f = ap₂ ◌&&◌ f.low_in (ap₂ ◌&&◌ f.high_in (ap₂ ◌&&◌ f.paired (ap₂ ◌&&◌ f.ordered f.above)))

-- a higher lower bound does no harm
raised : (a b low high : ℤ) → le_z a b ≡ true → goal_fits a low high ≡ true → goal_fits b low high ≡ true
raised a b low high h e =
    let f : GoalFacts a low high = goal_facts a low high e in
    facts_goal b low high (record {
      low_in = f.low_in;
      high_in = f.high_in;
      paired = f.paired;
      ordered = f.ordered;
      above = go (is_zero low) f.above;
    })
  where
    go : (t : Bool) → t || le_z (pos 1) a ≡ true → t || le_z (pos 1) b ≡ true
    go true k = refl
    go false k = le_trans (pos 1) a b k h

-- without a low goal there is no high one, and the other way round
alike : (t u : Bool) → cond t u (not u) ≡ true → u ≡ t
alike true u e = e
alike false u e = not-true u e

two_goals : (a b l m g h : ℤ) → goal_fits a l g ≡ true → goal_fits b m h ≡ true → is_zero l ≡ false → is_zero m ≡ false
    → goal_fits (larger a b) (smaller l m) (larger g h) ≡ true
two_goals a b l m g h e k zl zm =
    let x : GoalFacts a l g = goal_facts a l g e in
    let y : GoalFacts b m h = goal_facts b m h k in
    let low : is_zero (smaller l m) ≡ false = smaller_is (λ (z : ℤ). is_zero z ≡ false) l m zl zm in
    let high : is_zero (larger g h) ≡ false =
    larger_is (λ (z : ℤ). is_zero z ≡ false) g h (alike (is_zero l) (is_zero g) x.paired ∙ zl) (alike (is_zero m) (is_zero h) y.paired ∙ zm) in
    let one : le_z (pos 1) a ≡ true = rw zl at x.above in
    facts_goal (larger a b) (smaller l m) (larger g h) (record {
      low_in = smaller_is Inside l m x.low_in y.low_in;
      high_in = larger_is Inside g h x.high_in y.high_in;
      paired = rw (low, high);
      ordered = le_trans (smaller l m) l (larger g h) (smaller_le l m).0 (le_trans l g (larger g h) x.ordered (le_larger g h).0);
      above = rw low (le_trans (pos 1) a (larger a b) one (le_larger a b).0);
    })

shared_goals : (c d : PartColumn) → Leaves c d → GoalsFit c → GoalsFit d → GoalsFit (shared c d)
shared_goals c d e f g =
    subst (λ (u : Bool). Fit (goal_of smaller c.low d.low) (cond u d.high (cond (is_zero d.high) c.high (larger c.high d.high))))
    (sym (no_high c f))
    (subst (λ (u : Bool). Fit (goal_of smaller c.low d.low) (cond (is_zero c.low) d.high (cond u c.high (larger c.high d.high))))
    (sym (no_high d g)) (go (is_zero c.low) (is_zero d.low) refl refl))
  where
    Fit : ℤ → ℤ → Type 0
    Fit low high = goal_fits (larger c.lower d.lower) low high ≡ true

    no_high : (k : PartColumn) → GoalsFit k → is_zero k.high ≡ is_zero k.low
    no_high k h = alike (is_zero k.low) (is_zero k.high) (goal_facts k.lower k.low k.high h).paired

    go : (s t : Bool) → is_zero c.low ≡ s → is_zero d.low ≡ t
        → Fit (cond s d.low (cond t c.low (smaller c.low d.low))) (cond s d.high (cond t c.high (larger c.high d.high)))
    go true t x y = raised d.lower (larger c.lower d.lower) d.low d.high (le_larger c.lower d.lower).1 g
    go false true x y = raised c.lower (larger c.lower d.lower) c.low c.high (le_larger c.lower d.lower).0 f
    go false false x y = two_goals c.lower d.lower c.low d.low c.high d.high f g x y

-- ---- all columns
absorb_all : (Q : PartColumn → Type 0) → ((c d : PartColumn) → Leaves c d → Q c → Q d → Q (shared c d))
    → (L : List PartColumn) (R : List (Option ℕ)) (C : List PartColumn) → Ready L R C → All Q L → All Q C → All Q (absorb L R C)
unfolding absorb
absorb_all Q f L [] C r e g = e
absorb_all Q f L (p ∷ R) [] r e g = e
absorb_all Q f L (None ∷ R) (c ∷ C) r e g =
    absorb_all Q f (L ++ (c ∷ [])) R C (ready_append L R C (c ∷ []) r) (all_end Q L c e g.0) g.1
absorb_all Q f L (Some i ∷ R) (c ∷ C) r e g =
    absorb_all Q f (set L i (shared (at L i) c)) R C (ready_set L R C i (shared (at L i) c) r.2 r.3)
    (all_set Q L i (shared (at L i) c) e (f (at L i) c r.1 (all_at Q L i no_column r.0 e) g.0)) g.1

part_all : (P : Part) (Q : PartColumn → Type 0) → ((j : ℕ) → j < P.columns → Q (column_in P.lists j)) → All Q (columns P)
part_all P Q f =
    all_places Q (columns P) no_column (λ j h. let k : j < P.columns = omega (arith, h, length_columns P) in rw (at_columns P j k) (f j k))

part_bounds : (P : Part) → PartPasses P → All BoundsFit (columns P)
part_bounds P p =
    part_all P BoundsFit (λ j h. every_at (length P.lists.lower) (λ j. bound_fits (entry j P.lists.lower) (entry j P.lists.upper)) j
    p.bounds (omega (arith, h, (part_fits P p).lower_long)))

part_goals : (P : Part) → PartPasses P → All GoalsFit (columns P)
part_goals P p =
    part_all P GoalsFit (λ j h. every_at (length P.lists.lower)
    (λ j. goal_fits (entry j P.lists.lower) (entry j P.lists.low) (entry j P.lists.high)) j p.goals
    (omega (arith, h, (part_fits P p).lower_long)))

-- the tests over the lists of columns
module _ (C : List PartColumn) where
  long : length (map (λ (c : PartColumn). c.lower) C) ≡ length C
  long = length-map C (λ c. c.lower)

  bounds_listed : All BoundsFit C → bounds_fit (map (λ c. c.lower) C) (map (λ c. c.upper) C) ≡ true
  bounds_listed e =
      every_all (length (map (λ c. c.lower) C)) (λ j. bound_fits (entry j (map (λ c. c.lower) C)) (entry j (map (λ c. c.upper) C)))
      (λ j h.
      rw (get_or-map (λ (c : PartColumn). c.lower) C j no_column, get_or-map (λ (c : PartColumn). c.upper) C j no_column)
      (all_at BoundsFit C j no_column (omega (arith, h, long)) e))

  goals_listed : All GoalsFit C → goals_fit (map (λ c. c.lower) C) (map (λ c. c.low) C) (map (λ c. c.high) C) ≡ true
  goals_listed e =
      every_all (length (map (λ c. c.lower) C))
      (λ j. goal_fits (entry j (map (λ c. c.lower) C)) (entry j (map (λ c. c.low) C)) (entry j (map (λ c. c.high) C)))
      (λ j h.
      rw (
        get_or-map (λ (c : PartColumn). c.lower) C j no_column,
        get_or-map (λ (c : PartColumn). c.low) C j no_column,
        get_or-map (λ (c : PartColumn). c.high) C j no_column,
      )
      (all_at GoalsFit C j no_column (omega (arith, h, long)) e))

-- ---- the joined problem
module _ (P Q : Part) (R : List (Option ℕ)) (p : PartPasses P) (q : PartPasses Q) (r : Partners P Q R) where
  row_facts : (X : Part) → PartPasses X → (all_span max_coefficient X.lists.coefficients ≡ true) × (all_span max_right X.lists.rights ≡ true)
  row_facts X f = both_true (all_span max_coefficient X.lists.coefficients) (all_span max_right X.lists.rights) f.rows

  small_rows : (X : Part) → PartPasses X → All (All (Spans max_coefficient)) (matrix X)
  small_rows X f =
      all_chop (Spans max_coefficient) X.rows X.columns X.lists.coefficients
      (span_all max_coefficient X.lists.coefficients (row_facts X f).0)

  small_joined : all_span max_coefficient (flat (joined_matrix P Q R)) ≡ true
  small_joined =
      all_span_lem max_coefficient (flat (joined_matrix P Q R))
      (all_flat (Spans max_coefficient) (joined_matrix P Q R)
      ((all_append (All (Spans max_coefficient)) (map (padded (unshared R)) (matrix P)) (map (spread (joined_count P R) (places P R)) (matrix Q))).1 (
        padded_rows (Spans max_coefficient) (unshared R) (matrix P) refl (small_rows P p),
        spread_rows (Spans max_coefficient) (joined_count P R) (places P R) (matrix Q) refl (small_rows Q q),
      )))

  small_rights : all_span max_right (P.lists.rights ++ Q.lists.rights) ≡ true
  small_rights =
      all_span_lem max_right (P.lists.rights ++ Q.lists.rights)
      ((all_append (Spans max_right) P.lists.rights Q.lists.rights).1
      (span_all max_right P.lists.rights (row_facts P p).1, span_all max_right Q.lists.rights (row_facts Q q).1))

  listed_long : (f : PartColumn → ℤ) → eqb (length (map f (joined_columns P Q R))) (joined_count P R) ≡ true
  listed_long f = eq-eqb _ _ (length-map (joined_columns P Q R) f ∙ joined_long P Q R p q r)

  pub joined_passes : sizes_fit max_columns max_rows (sized (joined_count P R) (P.rows + Q.rows) 0) ≡ true → PartPasses (joined P Q R)
  unfolding joined
  joined_passes e = record {
    sizes = e;
    row_lengths = ap₂ ◌&&◌
        (eq-eqb _ _
        (length_flat (joined_count P R) (joined_matrix P Q R) (joined_wide P Q R p q r)
        ∙ ap (λ (m : ℕ). m * joined_count P R) (joined_rows P Q R p q r)))
        (eq-eqb _ _ (length-append P.lists.rights Q.lists.rights ∙ ap₂ ◌+◌ (part_fits P p).rights_long (part_fits Q q).rights_long));
    column_lengths = ap₂ ◌&&◌ (listed_long (λ c. c.lower))
        (ap₂ ◌&&◌ (listed_long (λ c. c.upper)) (ap₂ ◌&&◌ (listed_long (λ c. c.low)) (listed_long (λ c. c.high))));
    ideal_lengths = ap₂ ◌&&◌ (listed_long (λ c. c.given)) (listed_long (λ c. c.ideal));
    lent = room_right (sized (joined_count P R) (P.rows + Q.rows) 0);
    rows = ap₂ ◌&&◌ small_joined small_rights;
    bounds = bounds_listed (joined_columns P Q R)
        (absorb_all BoundsFit shared_bounds (columns P) R (columns Q) r.ready (part_bounds P p) (part_bounds Q q));
    goals = goals_listed (joined_columns P Q R)
        (absorb_all GoalsFit shared_goals (columns P) R (columns Q) r.ready (part_goals P p) (part_goals Q q));
    limit = refl;
  }
