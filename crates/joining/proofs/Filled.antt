-- What the eight lists hold once they are filled.
--   lists_long      the lengths of lists that fit n columns and m rows, in numbers
--   room_behind     how much room a list of the joined columns has behind the first's numbers
--   lists_filled    the lists, filled with the partners that the pairs leave, are those of the joined problem
-- Assumes nothing.
use mathlib.Core.Path.{◌≡◌, refl, ◌∙◌, ap}
use mathlib.Core.Bool.{true}
use mathlib.Core.List.{List, ◌++◌, map}
use Prim.Native.Nat.{ℕ, ◌+◌, ◌*◌, ◌-◌}
use native.Mathlib.Omega.{arith}
use borrow.Author.Tests.{eqb-true}
use lib.Dec.{eqb}
use lib.IntN.{ℤ, pos}
use lib.ListN.{length, drop, length-drop}
use Rattle.whole.specs.Lists.{entry}
use Rattle.lattice.specs.Rows.{flat}
use Rattle.whole.proofs.Tests.{both_true, all_true}
use Rattle.problem.specs.Checks.{row_lengths_fit, column_lengths_fit, ideal_lengths_fit}
use Rattle.problem.specs.declared.Problem.{Problem}
use Rattle.problem.proofs.CheckLaws.{column_lengths}
use Rattle.pairing.specs.Pairs.{larger, smaller}
use Rattle.pairing.specs.Parts.{Lists, Part, PartColumn, no_column, column_in, lists, sized, columns, matrix, lists_fit}
use Rattle.joined.specs.Columns.{goal_of, set_first, shared, places, unshared, joined_count, joined_columns}
use Rattle.joined.specs.Joined.{padded, spread, joined_matrix, joined}
use Rattle.joined.specs.Filling.{absorb_into, absorb_ideals}
use Rattle.joined.proofs.Passing.{PartFits, part_fits}
use Rattle.joined.proofs.Filling.{shared_field}
use Rattle.joined.proofs.JoinedLists.{numbers_of, list_joined, ideals_joined}
use Rattle.joining.specs.Filled.{Long, behind, filling}
use Rattle.joining.specs.Join.{partners}
use Rattle.joining.proofs.Made.{Makes}

-- ---- how long the lent lists are
pub lists_long : (n m : ℕ) (l : Lists) → lists_fit (sized n m 0) l ≡ true → Long n m l
lists_long n m l e =
    let p : Problem = sized n m 0 in
    let t =
    all_true (row_lengths_fit p l.coefficients l.rights) (column_lengths_fit p l.lower l.upper l.low l.high)
    (ideal_lengths_fit p l.given l.ideals) e in
    let r = both_true (eqb (length l.coefficients) (m * n)) (eqb (length l.rights) m) t.0 in
    let c = column_lengths p l.lower l.upper l.low l.high t.1 in
    let i = both_true (eqb (length l.given) n) (eqb (length l.ideals) n) t.2 in
    record {
      coefficients = eqb-true _ _ r.0;
      rights = eqb-true _ _ r.1;
      lower = c.0;
      upper = c.1;
      low = c.2;
      high = c.3;
      given = eqb-true _ _ i.0;
      ideals = eqb-true _ _ i.1;
    }

pub room_behind : (l u : List ℤ) (n k : ℕ) → length l ≡ n → length u ≡ n + k → length (drop (length l) u) ≡ k
room_behind l u n k e f = length-drop (length l) u ∙ omega arith

module _ (P Q : Part) (ps : List ℕ) (B : Lists) (k : Makes P Q ps B) where
  f : PartFits P
  f = part_fits P k.first

  g : PartFits Q
  g = part_fits Q k.second

  lent : Long (joined_count P (partners P Q ps)) (P.rows + Q.rows) B
  lent = lists_long (joined_count P (partners P Q ps)) (P.rows + Q.rows) B k.lent

  -- each list of the columns: h is the number of a column that the list g is for, and c what a shared column takes of two
  filled : (c : ℤ → ℤ → ℤ) (h : PartColumn → ℤ) (g : Lists → List ℤ) → h no_column ≡ pos 0 → ((d e : PartColumn) → h (shared d e) ≡ c (h d) (h e))
      → ((l : Lists) (j : ℕ) → h (column_in l j) ≡ entry j (g l)) → length (g P.lists) ≡ P.columns → length (g Q.lists) ≡ Q.columns
      → length (g B) ≡ joined_count P (partners P Q ps)
      → absorb_into c (g P.lists ++ behind P B g) (partners P Q ps) (places P (partners P Q ps)) (g Q.lists)
      ≡ map h (joined_columns P Q (partners P Q ps))
  filled c h g z both at l m e =
      list_joined P Q (partners P Q ps) k.ready c h z both _ _ _ (numbers_of h g z at P l) (numbers_of h g z at Q m)
      (room_behind (g P.lists) (g B) P.columns (unshared (partners P Q ps)) l e)

  abbrev marks_of : (X : Part) → PartFits X → map (λ c. c.given) (columns X) ≡ X.lists.given
  marks_of X h = numbers_of (λ c. c.given) (λ l. l.given) refl (λ l j. refl) X h.given_long

  abbrev ideals_of_lem : (X : Part) → PartFits X → map (λ c. c.ideal) (columns X) ≡ X.lists.ideals
  ideals_of_lem X h = numbers_of (λ c. c.ideal) (λ l. l.ideals) refl (λ l j. refl) X h.ideals_long

  filled_ideals : absorb_ideals (P.lists.given ++ behind P B (λ l. l.given)) (P.lists.ideals ++ behind P B (λ l. l.ideals)) (partners P Q ps)
      (places P (partners P Q ps)) Q.lists.given Q.lists.ideals
      ≡ map (λ c. c.ideal) (joined_columns P Q (partners P Q ps))
  filled_ideals =
      ideals_joined P Q (partners P Q ps) k.ready _ _ _ _ _ _ (marks_of P f) (ideals_of_lem P f) (marks_of Q g) (ideals_of_lem Q g)
      (room_behind P.lists.given B.given P.columns (unshared (partners P Q ps)) f.given_long lent.given)
      (room_behind P.lists.ideals B.ideals P.columns (unshared (partners P Q ps)) f.ideals_long lent.ideals)

  -- the rows, as the code pads them
  rows_filled : flat (map (padded (joined_count P (partners P Q ps) - P.columns)) (matrix P)
      ++ map (spread (joined_count P (partners P Q ps)) (places P (partners P Q ps))) (matrix Q))
      ≡ flat (joined_matrix P Q (partners P Q ps))
  rows_filled =
      let e : joined_count P (partners P Q ps) - P.columns ≡ unshared (partners P Q ps) = omega arith in
      ap (λ (x : ℕ). flat (map (padded x) (matrix P) ++ map (spread (joined_count P (partners P Q ps)) (places P (partners P Q ps))) (matrix Q))) e

  pub lists_filled : filling P Q B (joined_count P (partners P Q ps)) (partners P Q ps) (places P (partners P Q ps))
      ≡ (joined P Q (partners P Q ps)).lists
  unfolding joined
  lists_filled =
      λ i. lists (rows_filled i) (P.lists.rights ++ Q.lists.rights)
      (filled larger (λ c. c.lower) (λ l. l.lower) refl shared_field.lower (λ l j. refl) f.lower_long g.lower_long lent.lower i)
      (filled smaller (λ c. c.upper) (λ l. l.upper) refl shared_field.upper (λ l j. refl) f.upper_long g.upper_long lent.upper i)
      (filled (goal_of smaller) (λ c. c.low) (λ l. l.low) refl shared_field.low (λ l j. refl) f.low_long g.low_long lent.low i)
      (filled (goal_of larger) (λ c. c.high) (λ l. l.high) refl shared_field.high (λ l j. refl) f.high_long g.high_long lent.high i)
      (filled set_first (λ c. c.given) (λ l. l.given) refl shared_field.given (λ l j. refl) f.given_long g.given_long lent.given i)
      (filled_ideals i)
