-- A whole text: what its sections left in the tables is the deck that they state, and what the call then leaves.
--   made                                         a deck of its sections
--   deck_volumes, deck_closed                    a deck whose third section is refused, or whose sections are read
--   Parts, deck_parts                            the sections of a deck that is read; in-limits: its text is not too long; deck-within: its intervals
--                                                lie within the limits
--   filled_tables                                the tables that the sections filled hold the deck
--   first, second, third, volumes_refused, closing, stored   a whole text by what its sections answered and left
--   read_short, -long, -is, -not, accepting      the call by what it meets
--   Largest, sizes                               the lengths that fit
--   Holds, holds                                 lent lists that an accepted text's tables went out into
--   filling                                      they state what the deck states, and so do the ideals
--   small                                        the intervals of a deck in the tables lie within the limits
-- Assumes nothing.
use mathlib.Core.Path.{◌≡◌, refl, sym, ap, ◌∙◌, subst}
use mathlib.Core.Bool.{Bool, true, false, cond}
use mathlib.Core.List.{List, [], ◌++◌, map, append_assoc}
use Prim.Native.Nat.{ℕ, ◌+◌, ◌-◌, ◌≤◌, ◌<◌}
use native.Mathlib.Omega.{arith}
use borrow.Author.Tests.{eqb-true, lt-ltb, le-ltb}
use lib.Dec.{eqb, ltb}
use lib.IntN.{ℤ, pos}
use lib.ListN.{length, take, replicate, length-append, length-map, length-replicate, replicate-append-replicate}
use Rattle.std.proofs.Common.{Ok, Err}
use Rattle.whole.specs.Lists.{zeros}
use Rattle.whole.proofs.Tests.{both_true}
use Rattle.lattice.specs.Rows.{flat}
use Rattle.text.specs.Overwriting.{overwritten}
use Rattle.text.specs.Positions.{next_at}
use Rattle.problem.specs.declared.Refusal.{Refusal}
use Rattle.problem.specs.declared.Refusal.TheVariants.{Length, Layout}
use Rattle.neighbours.specs.Neighbours.{Stated, stated_by, given_of, ideals_of}
use Rattle.neighbours.specs.Beside.{SmallColumns}
use Rattle.sections.specs.Rules.{Outcome, then, closed}
use Rattle.sections.specs.Sections.{deck_columns, deck_rows, coefficient_count, max_text, Line, interval_section, row_section}
use Rattle.sections.specs.StatedColumns.{lower_of, upper_of, low_of, high_of, right_of, slack_columns, coefficient_rows}
use Rattle.sections.specs.StatedColumns.{padded, padded_by, no_interval, blank_tables}
use Rattle.sections.specs.SectionsRead.{cursor, WasRead, with_rows, intervals_left, rows_left}
use Rattle.sections.specs.declared.Interval.{Interval}
use Rattle.sections.specs.declared.Cursor.{Cursor}
use Rattle.sections.specs.declared.Tables.{Tables}
use Rattle.deck.specs.Posing.{Deck, deck, read_deck, columns_of, all_lines, count_of, coefficients_of, lowers, uppers, lows, highs, stated, posed}
use Rattle.deck.specs.Reader.{DeckBuffers, deck_buffers, read_done, lengths_fit, shape_of, filled, turned_back, accepted, read}
use Rattle.deck.specs.declared.Shape.{Shape}
use Rattle.deck.specs.ReaderTables.{DeckStored, tables_of}
use Rattle.sections.proofs.Numbers.{ok_not_no, then_ok, closed_ok}
use Rattle.sections.proofs.Limits.{Within, section_within}
use Rattle.sections.proofs.Storage.{map_two, rows_two, padded_none, padded_written, length_rows, few_cells, left_found, left_refused}
use Rattle.volumes.specs.Volumes.{Volume, volume_section}
use Rattle.volumes.specs.PathLines.{swept_lines}
use Rattle.volumes.specs.VolumesRead.{volumes_left}
use Rattle.volumes.proofs.Lines.{swept_rights, no_column_lem}
use Rattle.deck.proofs.Lists.{compacted, length_compacted, map_padded}
use Rattle.deck.proofs.Handing.{stated_padded, small_columns, given_padded, ideals_padded}

-- ---- a deck is its sections, one after the other
abbrev pub made : List Interval → List Line → List Volume → Deck
made is ls vs = record { intervals = is; lines = ls; volumes = vs }

module _ (s : List ℕ) where
  abbrev after_volumes : List Interval → List Line → Outcome (List Volume) → Outcome Deck
  after_volumes is ls o = then o (λ vs at. closed s (made is ls vs) at)

  abbrev after_rows : List Interval → Outcome (List Line) → Outcome Deck
  after_rows is o = then o (λ ls at. after_volumes is ls (volume_section s (length is) (length ls) at))

  abbrev after_intervals : Outcome (List Interval) → Outcome Deck
  after_intervals o = then o (λ is at. after_rows is (row_section s (length is) at))

  deck_volumes : (is : List Interval) (ls : List Line) (p q : ℕ) (why : Refusal) → interval_section s 0 ≡ Ok (is, p)
      → row_section s (length is) p ≡ Ok (ls, q) → volume_section s (length is) (length ls) q ≡ Err why → deck s ≡ Err why
  deck_volumes is ls p q why e f g = ap after_intervals e ∙ ap (after_rows is) f ∙ ap (after_volumes is ls) g

  pub deck_closed : (is : List Interval) (ls : List Line) (vs : List Volume) (p q r : ℕ) → interval_section s 0 ≡ Ok (is, p)
      → row_section s (length is) p ≡ Ok (ls, q) → volume_section s (length is) (length ls) q ≡ Ok (vs, r) → deck s ≡ closed s (made is ls vs) r
  deck_closed is ls vs p q r e f g = ap after_intervals e ∙ ap (after_rows is) f ∙ ap (after_volumes is ls) g

  -- the sections of a deck that was read, with the places where they end
  pub record Parts (d : Deck) : Type 0 where
    pub first : ℕ
    pub second : ℕ
    pub third : ℕ
    pub intervals : interval_section s 0 ≡ Ok (d.intervals, first)
    pub rows : row_section s (length d.intervals) first ≡ Ok (d.lines, second)
    pub volumes : volume_section s (length d.intervals) (length d.lines) second ≡ Ok (d.volumes, third)

  pub deck_parts : (d : Deck) (e : ℕ) → deck s ≡ Ok (d, e) → Parts d
  deck_parts d e h =
      let a = then_ok (interval_section s 0) _ d e h in
      let is = a.what in
      let b = then_ok (row_section s (length is) a.at) _ d e a.second in
      let ls = b.what in
      let c = then_ok (volume_section s (length is) (length ls) b.at) (λ vs at. closed s (made is ls vs) at) d e b.second in
      subst Parts {x = made is ls c.what} (closed_ok (made is ls c.what) d c.at e (next_at s c.at) c.second).0
      (record { first = a.at; second = b.at; third = c.at; intervals = a.first; rows = b.first; volumes = c.first })

  -- a text that is read is not too long
  pub in_limits : (d : Deck) (e : ℕ) → read_deck s ≡ Ok (d, e) → deck s ≡ Ok (d, e)
  unfolding read_deck
  in_limits d e h = go (ltb max_text (length s)) h
    where
      go : (t : Bool) → cond t (Err Layout) (deck s) ≡ Ok (d, e) → deck s ≡ Ok (d, e)
      go true f = absurd (ok_not_no f)
      go false f = f

  -- the intervals of a deck that was read lie within the limits
  pub deck_within : (d : Deck) (e : ℕ) → deck s ≡ Ok (d, e) → Within d.intervals
  deck_within d e h = let p = deck_parts d e h in section_within s 0 p.first d.intervals p.intervals

-- ---- the rows of volumes behind the others
-- their right sides are the 0 that is there
padded_zeros : (size k : ℕ) (u : List ℤ) → length u + k ≤ size → padded size (u ++ zeros k) ≡ padded size u
padded_zeros size k u h =
    let l : length (u ++ zeros k) ≡ length u + k = length-append u (zeros k) ∙ ap (λ (j : ℕ). length u + j) (length-replicate k (pos 0)) in
    let z : k + (size - length (u ++ zeros k)) ≡ size - length u = omega arith in
    append_assoc u (zeros k) (zeros (size - length (u ++ zeros k)))
    ∙ ap (λ (x : List ℤ). u ++ x) (replicate-append-replicate k (size - length (u ++ zeros k)) (pos 0) ∙ ap zeros z)

same_rights : (ls : List Line) (vs : List Volume) → length ls + length (swept_lines vs) ≤ deck_rows
    → padded deck_rows (map right_of ls) ≡ padded deck_rows (map right_of (ls ++ swept_lines vs))
same_rights ls vs h =
    sym (ap (padded deck_rows) (map_two right_of ls (swept_lines vs) ∙ ap (λ (x : List ℤ). map right_of ls ++ x) (swept_rights vs))
    ∙ padded_zeros deck_rows (length (swept_lines vs)) (map right_of ls) (omega (arith, length-map ls right_of)))

-- ---- the tables that the sections filled, one after the other
module _ (is : List Interval) (ls : List Line) (vs : List Volume) where
  pub filled_tables : (T U : Tables) (t : List (List ℤ)) (n : ℕ) → T.columns ≡ padded_by no_interval deck_columns is
      → T.rights ≡ blank_tables.rights → T.rows ≡ blank_tables.rows → n ≡ length is
      → n + length (slack_columns ls) ≤ deck_columns → length ls + length (swept_lines vs) ≤ deck_rows
      → U ≡ with_rows n ls T → t ≡ overwritten U.rows (length ls) (coefficient_rows deck_columns (n + length (slack_columns ls)) (swept_lines vs))
      → record { columns = U.columns; rights = U.rights; rows = t } ≡ tables_of (made is ls vs)
  unfolding blank_tables
  filled_tables T U t n k b r e few some u v =
      let ys = slack_columns ls in
      let d = made is ls vs in
      let x = coefficient_rows deck_columns n ls in
      let y = coefficient_rows deck_columns (n + length ys) (swept_lines vs) in
      let lx = length_rows deck_columns n ls in
      let ly = length_rows deck_columns (n + length ys) (swept_lines vs) in
      let lr = length-map ls right_of in
      let z : List ℤ = zeros deck_columns in
      let pc : U.columns ≡ padded_by no_interval deck_columns (columns_of d) =
      ap (λ (V : Tables). V.columns) u
      ∙ (rw k (padded_written no_interval deck_columns n is ys (sym e) few))
      ∙ ap (λ (w : List Interval). padded_by no_interval deck_columns (is ++ w)) (sym (no_column_lem ls vs)) in
      let pr : U.rights ≡ padded deck_rows (map right_of (all_lines d)) =
      ap (λ (V : Tables). V.rights) u
      ∙ (rw (b, padded_none (pos 0) deck_rows) (padded_written (pos 0) deck_rows 0 [] (map right_of ls) refl (omega arith)))
      ∙ same_rights ls vs some in
      let pu : U.rows ≡ padded_by z deck_rows x =
      ap (λ (V : Tables). V.rows) u ∙ (rw (r, padded_none z deck_rows) (padded_written z deck_rows 0 [] x refl (omega arith))) in
      let pt : t ≡ padded_by z deck_rows (coefficient_rows deck_columns (length is) (all_lines d)) =
      v ∙ (rw pu (padded_written z deck_rows (length ls) x y lx (omega arith)))
      ∙ ap (padded_by z deck_rows) (sym (rows_two deck_columns n ls (swept_lines vs))
      ∙ ap (λ (j : ℕ). coefficient_rows deck_columns j (ls ++ swept_lines vs)) e) in
      λ i. record { columns = pc i; rights = pr i; rows = pt i }

module _ (s : List ℕ) (p : Cursor) (T : Tables) (i : intervals_left (interval_section s 0) ≡ (Ok p, T.columns)) where
  pub first : WasRead (interval_section s 0)
      (λ is e. (p ≡ cursor e (length is) (length is) 0) × (T.columns ≡ padded_by no_interval deck_columns is))
  first = left_found _ _ _ (interval_section s 0) p T.columns i

  abbrev pub is : List Interval
  is = first.what

  count : p.intervals ≡ length is
  count = ap (λ (x : Cursor). x.intervals) first.rest.0

  is_read : interval_section s 0 ≡ Ok (is, p.at)
  is_read = first.read ∙ ap (λ (e : ℕ). Ok (is, e)) (sym (ap (λ (x : Cursor). x.at) first.rest.0))

  module _ (q : Cursor) (U : Tables) (w : rows_left p.intervals T (row_section s p.intervals p.at) ≡ (Ok q, U)) where
    pub second : WasRead (row_section s p.intervals p.at)
        (λ ls e. (q ≡ cursor e p.intervals (p.intervals + length (slack_columns ls)) (length ls)) × (U ≡ with_rows p.intervals ls T))
    second = left_found _ _ _ (row_section s p.intervals p.at) q U w

    abbrev pub ls : List Line
    ls = second.what

    ls_read : row_section s (length is) p.at ≡ Ok (ls, q.at)
    ls_read =
        ap (λ (n : ℕ). row_section s n p.at) (sym count) ∙ second.read ∙ ap (λ (e : ℕ). Ok (ls, e)) (sym (ap (λ (x : Cursor). x.at) second.rest.0))

    same_count : q.intervals ≡ length is
    same_count = ap (λ (x : Cursor). x.intervals) second.rest.0 ∙ count

    same_rows : q.rows ≡ length ls
    same_rows = ap (λ (x : Cursor). x.rows) second.rest.0

    pub volumes_refused : (why : Refusal) (t : List (List ℤ)) → volumes_left q U.rows (volume_section s q.intervals q.rows q.at) ≡ (Err why, t)
        → deck s ≡ Err why
    volumes_refused why t h =
        deck_volumes s is ls p.at q.at why is_read ls_read
        ((λ j. volume_section s (sym same_count j) (sym same_rows j) q.at)
        ∙ left_refused _ _ _ (volume_section s q.intervals q.rows q.at) why t h)

    module _ (c : Cursor) (t : List (List ℤ)) (v : volumes_left q U.rows (volume_section s q.intervals q.rows q.at) ≡ (Ok c, t)) where
      pub third : WasRead (volume_section s q.intervals q.rows q.at)
          (λ vs e. (c ≡ cursor e q.intervals q.columns (q.rows + length (swept_lines vs)))
          × (t ≡ overwritten U.rows q.rows (coefficient_rows deck_columns q.columns (swept_lines vs))))
      third = left_found _ _ _ (volume_section s q.intervals q.rows q.at) c t v

      abbrev pub vs : List Volume
      vs = third.what

      abbrev pub whole : Deck
      whole = made is ls vs

      pub closing : deck s ≡ closed s whole c.at
      closing =
          deck_closed s is ls vs p.at q.at c.at is_read ls_read
          ((λ j. volume_section s (sym same_count j) (sym same_rows j) q.at) ∙ third.read
          ∙ ap (λ (e : ℕ). Ok (vs, e)) (sym (ap (λ (x : Cursor). x.at) third.rest.0)))

      pub stored : T.rights ≡ blank_tables.rights → T.rows ≡ blank_tables.rows → c.columns ≤ deck_columns → c.rows ≤ deck_rows
          → DeckStored c (record { columns = U.columns; rights = U.rights; rows = t }) whole c.at
      stored b r few some =
          let ms : List Line = swept_lines vs in
          let z = no_column_lem ls vs in
          let qc = ap (λ (x : Cursor). x.columns) second.rest.0 in
          let cc = ap (λ (x : Cursor). x.columns) third.rest.0 in
          let cr = ap (λ (x : Cursor). x.rows) third.rest.0 in
          record {
            at = refl;
            columns = omega (arith, cc, qc, count, length-append is (slack_columns (ls ++ ms)), ap length z);
            rows = omega (arith, cr, same_rows, length-append ls ms);
            intervals = ap (λ (x : Cursor). x.intervals) third.rest.0 ∙ same_count;
            few = few;
            few_rows = some;
            tables = filled_tables is ls vs T U t p.intervals first.rest.1 b r count (omega (arith, cc, qc))
                (omega (arith, cr, same_rows)) second.rest.1
                (third.rest.1 ∙ (λ j. overwritten U.rows (same_rows j) (coefficient_rows deck_columns (qc j) ms)));
          }

-- ---- the call
module _ (s : List ℕ) (B : DeckBuffers) where
  pub read_short : lengths_fit B ≡ false → read s B ≡ turned_back Length B
  unfolding read
  read_short h = rw h

  pub read_long : lengths_fit B ≡ true → max_text < length s → read s B ≡ turned_back Layout B
  unfolding read read_deck
  read_long h l = rw (h, lt-ltb max_text (length s) l)

  pub read_is : (d : Deck) (at : ℕ) → lengths_fit B ≡ true → length s ≤ max_text → deck s ≡ Ok (d, at) → read s B ≡ accepted d
  unfolding read read_deck
  read_is d at h l e = rw (h, le-ltb max_text (length s) l) (rw e)

  pub read_not : (why : Refusal) → lengths_fit B ≡ true → length s ≤ max_text → deck s ≡ Err why → read s B ≡ turned_back why B
  unfolding read read_deck
  read_not why h l e = rw (h, le-ltb max_text (length s) l) (rw e)

  -- what was read, told with the lists that it fills
  pub accepting : (d : Deck) (at : ℕ) (S : Shape) (C : DeckBuffers) → lengths_fit B ≡ true → length s ≤ max_text → deck s ≡ Ok (d, at)
      → S ≡ shape_of d → C ≡ filled (posed 0 d) → read_done (Ok S) C ≡ read s B
  accepting d at S C h l e q f = (λ i. read_done (Ok (q i)) (f i)) ∙ sym (read_is d at h l e)

-- the lengths that fit
pub record Largest (B : DeckBuffers) : Type 0 where
  pub coefficients : length B.coefficients ≡ coefficient_count
  pub rights : length B.rights ≡ deck_rows
  pub lower : length B.lower ≡ deck_columns
  pub upper : length B.upper ≡ deck_columns
  pub low : length B.low ≡ deck_columns
  pub high : length B.high ≡ deck_columns
  pub given : length B.given ≡ deck_columns
  pub ideals : length B.ideals ≡ deck_columns

pub sizes : (B : DeckBuffers) → lengths_fit B ≡ true → Largest B
sizes B h =
    let a = both_true (eqb (length B.coefficients) (coefficient_count)) _ h in
    let b = both_true (eqb (length B.rights) deck_rows) _ a.1 in
    let c = both_true (eqb (length B.lower) deck_columns) _ b.1 in
    let d = both_true (eqb (length B.upper) deck_columns) _ c.1 in
    let g = both_true (eqb (length B.low) deck_columns) _ d.1 in
    let i = both_true (eqb (length B.high) deck_columns) _ g.1 in
    let x = both_true (eqb (length B.given) deck_columns) _ i.1 in
    record {
      coefficients = eqb-true (length B.coefficients) (coefficient_count) a.0;
      rights = eqb-true (length B.rights) deck_rows b.0;
      lower = eqb-true (length B.lower) deck_columns c.0;
      upper = eqb-true (length B.upper) deck_columns d.0;
      low = eqb-true (length B.low) deck_columns g.0;
      high = eqb-true (length B.high) deck_columns i.0;
      given = eqb-true (length B.given) deck_columns x.0;
      ideals = eqb-true (length B.ideals) deck_columns x.1;
    }

-- the coefficients: cleared, and then the first n of each row
cleared : (o u w : List ℤ) → o ≡ replicate coefficient_count (pos 0) → u ≡ overwritten o 0 w → length w ≤ coefficient_count
    → u ≡ padded coefficient_count w
cleared o u w e f h =
    f ∙ (rw (e, padded_none (pos 0) coefficient_count) (padded_written (pos 0) coefficient_count 0 [] w refl (omega arith)))

-- lent lists that a deck's tables went out into
pub record Holds (d : Deck) (c b l u g h : List ℤ) : Type 0 where
  pub coefficients : c ≡ padded coefficient_count (coefficients_of d)
  pub rights : b ≡ padded deck_rows (map right_of (all_lines d))
  pub lower : l ≡ padded deck_columns (lowers d)
  pub upper : u ≡ padded deck_columns (uppers d)
  pub low : g ≡ padded deck_columns (lows d)
  pub high : h ≡ padded deck_columns (highs d)

module _ (d : Deck) (few : count_of d ≤ deck_columns) (some : length (all_lines d) ≤ deck_rows) where
  -- the tables went out into lent lists of the largest size
  pub holds : (T : Tables) (o c' b' l' u' g' h' : List ℤ) → T ≡ tables_of d → o ≡ replicate coefficient_count (pos 0)
      → c' ≡ overwritten o 0 (flat (map (take (count_of d)) (take (length (all_lines d)) T.rows))) → b' ≡ T.rights
      → l' ≡ map lower_of T.columns → u' ≡ map upper_of T.columns → g' ≡ map low_of T.columns → h' ≡ map high_of T.columns
      → Holds d c' b' l' u' g' h'
  holds T o c' b' l' u' g' h' e eo ec eb el eu eg eh =
      let k = ap (λ (V : Tables). V.columns) e in
      let i : ℕ = length d.intervals in
      let w : flat (map (take (count_of d)) (take (length (all_lines d)) T.rows)) ≡ coefficients_of d =
      ap (λ (V : Tables). flat (map (take (count_of d)) (take (length (all_lines d)) V.rows))) e
      ∙ compacted (count_of d) i (length (all_lines d)) (all_lines d) _ few refl in
      let n = length_compacted (count_of d) i (all_lines d) in
      let m = few_cells (count_of d) (length (all_lines d)) few some in
      record {
        coefficients = cleared o c' (coefficients_of d) eo (ec ∙ ap (overwritten o 0) w) (omega arith);
        rights = eb ∙ ap (λ (V : Tables). V.rights) e;
        lower = el ∙ ap (map lower_of) k ∙ map_padded lower_of deck_columns (columns_of d) refl;
        upper = eu ∙ ap (map upper_of) k ∙ map_padded upper_of deck_columns (columns_of d) refl;
        low = eg ∙ ap (map low_of) k ∙ map_padded low_of deck_columns (columns_of d) refl;
        high = eh ∙ ap (map high_of) k ∙ map_padded high_of deck_columns (columns_of d) refl;
      }

  -- they state what the deck states, and so do the ideals
  module _ (c' b' l' u' g' h' : List ℤ) (q : Holds d c' b' l' u' g' h') where
    states : stated_by (count_of d) (length (all_lines d)) (length d.intervals) c' l' u' g' h' ≡ stated d
    states =
        (λ i. stated_by (count_of d) (length (all_lines d)) (length d.intervals) (q.coefficients i) (q.lower i) (q.upper i) (q.low i) (q.high i))
        ∙ stated_padded (count_of d) (length (all_lines d)) (length d.intervals) coefficient_count deck_columns (coefficients_of d) (lowers d)
        (uppers d) (lows d) (highs d)

    pub filling : (a' x' : List ℤ)
        → a' ≡ given_of (stated_by (count_of d) (length (all_lines d)) (length d.intervals) c' l' u' g' h') deck_columns
        → x' ≡ ideals_of (stated_by (count_of d) (length (all_lines d)) (length d.intervals) c' l' u' g' h') deck_columns
        → deck_buffers c' b' l' u' g' h' a' x' ≡ filled (posed 0 d)
    unfolding posed
    filling a' x' ea ex =
        let front : length d.intervals ≤ count_of d = omega (arith, length-append d.intervals (slack_columns (all_lines d))) in
        let pa = ea ∙ ap (λ (S : Stated). given_of S deck_columns) states ∙ given_padded (stated d) (count_of d) front few in
        let px = ex ∙ ap (λ (S : Stated). ideals_of S deck_columns) states ∙ ideals_padded (stated d) (count_of d) front few in
        λ i. deck_buffers (q.coefficients i) (q.rights i) (q.lower i) (q.upper i) (q.low i) (q.high i) (pa i) (px i)

-- the intervals of a deck in the tables lie within the limits
pub small : (T : Tables) (d : Deck) → T ≡ tables_of d → Within d.intervals
    → SmallColumns (length d.intervals) (map lower_of T.columns) (map upper_of T.columns) (map low_of T.columns) (map high_of T.columns)
small T d e w =
    let k = ap (λ (V : Tables). V.columns) e in
    let s = small_columns deck_columns d w in
    rw (
      k,
      map_padded lower_of deck_columns (columns_of d) refl,
      map_padded upper_of deck_columns (columns_of d) refl,
      map_padded low_of deck_columns (columns_of d) refl,
      map_padded high_of deck_columns (columns_of d) refl,
    ) s
