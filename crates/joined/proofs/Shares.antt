-- Document 02, (vi): "A list satisfies the joined rows and bounds exactly when its two shares satisfy their own."
--   joined_wide, joined_rows, joined_long   the joined rows' lengths, how many there are, and how many columns
--   column_joined                           what the joined lists say of a column
--   joined_shares                           the sentence, of parts that pass and partners that are ready
-- Assumes nothing.
use mathlib.Core.Path.{◌≡◌, sym, ◌∙◌, ap, ap₂, subst}
use mathlib.Core.Logic.{◌↔◌}
use mathlib.Core.List.{List, ◌++◌, map}
use Prim.Native.Nat.{ℕ, ◌+◌}
use native.Mathlib.Omega.{arith}
use lib.IntN.{ℤ}
use lib.ListN.{length, length-append, length-map, get_or-map}
use lib.Seq.{length-take-le, ext_get_or}
use Rattle.std.specs.Prelude.{Option}
use Rattle.lattice.specs.Rows.{chop, flat}
use Rattle.lattice.specs.Span.{All, Len}
use Rattle.lattice.specs.Sums.{sums, Satisfies}
use Rattle.lattice.proofs.Span.{all_append}
use Rattle.lattice.proofs.FlatLaws.{chop_flat, chop_rows, length_chop}
use Rattle.lattice.proofs.SumLaws.{satisfies_append}
use Rattle.pairing.specs.Parts.{Part, PartColumn, no_column, column_in, columns, at, matrix, Fulfils}
use Rattle.pairing.proofs.Partners.{length_columns, at_columns, Partners}
use Rattle.joined.specs.Columns.{places, unshared, joined_count, joined_columns}
use Rattle.joined.specs.Joined.{padded, spread, joined_matrix, joined, first_share, second_share}
use Rattle.joined.proofs.Passing.{PartPasses, part_fits}
use Rattle.joined.proofs.JoinedColumns.{Inside, absorb_inside, length_absorb, inside_part, inside_take}
use Rattle.joined.proofs.SpreadRows.{joined_free, places_below, sums_padded, sums_spread, padded_wide, spread_wide}

module _ (P Q : Part) (R : List (Option ℕ)) (p : PartPasses P) (q : PartPasses Q) (r : Partners P Q R) where
  -- ---- the joined problem's rows and columns, read back from its lists
  firsts : List (List ℤ)
  firsts = map (padded (unshared R)) (matrix P)

  seconds : List (List ℤ)
  seconds = map (spread (joined_count P R) (places P R)) (matrix Q)

  long_pairs : length R ≡ length (columns Q)
  long_pairs = r.long ∙ sym (length_columns Q)

  first_wide : All (Len P.columns) (matrix P)
  first_wide = chop_rows P.rows P.columns P.lists.coefficients (part_fits P p).coefficients_long

  second_wide : All (Len Q.columns) (matrix Q)
  second_wide = chop_rows Q.rows Q.columns Q.lists.coefficients (part_fits Q q).coefficients_long

  pub joined_wide : All (Len (joined_count P R)) (joined_matrix P Q R)
  unfolding firsts seconds
  joined_wide =
      (all_append (Len (joined_count P R)) firsts seconds).1
      (padded_wide P.columns (unshared R) (matrix P) first_wide, spread_wide (joined_count P R) (places P R) (matrix Q))

  first_rows : length firsts ≡ P.rows
  unfolding firsts
  first_rows = length-map (matrix P) (padded (unshared R)) ∙ length_chop P.rows P.columns P.lists.coefficients

  pub joined_rows : length (joined_matrix P Q R) ≡ P.rows + Q.rows
  unfolding firsts seconds
  joined_rows =
      length-append firsts seconds
      ∙ ap₂ ◌+◌ first_rows
      (length-map (matrix Q) (spread (joined_count P R) (places P R)) ∙ length_chop Q.rows Q.columns Q.lists.coefficients)

  joined_matrix_lem : matrix (joined P Q R) ≡ joined_matrix P Q R
  unfolding joined
  joined_matrix_lem =
      ap (λ (k : ℕ). chop k (joined_count P R) (flat (joined_matrix P Q R))) (sym joined_rows)
      ∙ chop_flat (joined_count P R) (joined_matrix P Q R) joined_wide

  pub joined_long : length (joined_columns P Q R) ≡ joined_count P R
  joined_long = length_absorb (columns P) R (columns Q) long_pairs ∙ ap (λ (n : ℕ). n + unshared R) (length_columns P)

  pub column_joined : (j : ℕ) → column_in (joined P Q R).lists j ≡ at (joined_columns P Q R) j
  unfolding joined
  column_joined j =
      let C : List PartColumn = joined_columns P Q R in
      rw (
        get_or-map (λ (c : PartColumn). c.lower) C j no_column,
        get_or-map (λ (c : PartColumn). c.upper) C j no_column,
        get_or-map (λ (c : PartColumn). c.low) C j no_column,
        get_or-map (λ (c : PartColumn). c.high) C j no_column,
        get_or-map (λ (c : PartColumn). c.given) C j no_column,
        get_or-map (λ (c : PartColumn). c.ideal) C j no_column,
      )

  columns_joined : columns (joined P Q R) ≡ joined_columns P Q R
  unfolding joined
  columns_joined =
      ext_get_or no_column (columns (joined P Q R)) (joined_columns P Q R)
      (length_columns (joined P Q R) ∙ sym joined_long)
      (λ j h. at_columns (joined P Q R) j (omega (arith, h, length_columns (joined P Q R))) ∙ column_joined j)

  -- ---- the shares
  module _ (x : List ℤ) (l : length x ≡ joined_count P R) where
    rows_both : Satisfies (joined_count P R) (joined_matrix P Q R) (P.lists.rights ++ Q.lists.rights) x
        ↔ (Satisfies (joined_count P R) firsts P.lists.rights x × Satisfies (joined_count P R) seconds Q.lists.rights x)
    unfolding firsts seconds
    rows_both =
        satisfies_append (joined_count P R) firsts seconds P.lists.rights Q.lists.rights x ((part_fits P p).rights_long ∙ sym first_rows)

    sums_first : sums firsts x ≡ sums (matrix P) (first_share P x)
    unfolding firsts
    sums_first = sums_padded P.columns (unshared R) (matrix P) x first_wide

    sums_second : sums seconds x ≡ sums (matrix Q) (second_share (places P R) x)
    unfolding seconds
    sums_second =
        sums_spread (joined_count P R) Q.columns (places P R) (matrix Q) x (places_below P Q R r).1 (joined_free P Q R r) second_wide

    bounds_both : Inside (joined_columns P Q R) x ↔ (Inside (columns P) x × Inside (columns Q) (second_share (places P R) x))
    bounds_both = absorb_inside x P.columns (columns P) R (columns Q) (sym (length_columns P)) long_pairs r.ready

    pub joined_shares : Fulfils (joined P Q R) x ↔ (Fulfils P (first_share P x) × Fulfils Q (second_share (places P R) x))
    unfolding joined
    joined_shares = (
      (λ f.
          let s = rows_both.0 (record { wide = l; keeps = ap (λ (A : List (List ℤ)). sums A x) (sym joined_matrix_lem) ∙ f.rows.keeps }) in
          let b = bounds_both.0 (subst (λ (C : List PartColumn). Inside C x) columns_joined ((inside_part (joined P Q R) x).0 f.bounds)) in (
            record {
              rows = record { wide = length-take-le P.columns x (omega (arith, l)); keeps = sym sums_first ∙ s.0.keeps };
              bounds = (inside_part P (first_share P x)).1 ((inside_take (columns P) P.columns x (omega (arith, length_columns P))).1 b.0);
            },
            record {
              rows = record { wide = length-map (places P R) _ ∙ (places_below P Q R r).1; keeps = sym sums_second ∙ s.1.keeps };
              bounds = (inside_part Q (second_share (places P R) x)).1 b.1;
            },
          )),
      (λ h. record {
        rows = record {
          wide = l;
          keeps = ap (λ (A : List (List ℤ)). sums A x) joined_matrix_lem
              ∙ (rows_both.1 (
                record { wide = l; keeps = sums_first ∙ h.0.rows.keeps },
                record { wide = l; keeps = sums_second ∙ h.1.rows.keeps },
              )).keeps;
        };
        bounds = (inside_part (joined P Q R) x).1
            (subst (λ (C : List PartColumn). Inside C x) (sym columns_joined)
            (bounds_both.1 (
              (inside_take (columns P) P.columns x (omega (arith, length_columns P))).0 ((inside_part P (first_share P x)).0 h.0.bounds),
              (inside_part Q (second_share (places P R) x)).0 h.1.bounds,
            )));
      }),
    )
