-- A table of columns, packed and read back.
--   packed_length    how many columns it has
--   packed_get       and which
--   packed_more      with column j stored a table has the first j + 1
--   packed_all       a table with each of the columns is theirs
--   packed_columns   the table of n columns of lists is read back as those columns
-- Assumes nothing.
use mathlib.Core.Path.{◌≡◌, refl, sym, ◌∙◌, ap}
use mathlib.Core.Logic.{⊎_elim}
use mathlib.Core.List.{List}
use Prim.Native.Nat.{ℕ, zero, suc, ◌+◌, ◌<◌, ◌≤◌}
use native.Mathlib.Omega.{arith}
use borrow.Author.Count.{below_more}
use lib.IntN.{ℤ, pos}
use lib.ListN.{length, set, get_or, get_or-eq_default}
use lib.Seq.{ext_get_or, get_or-set_same, get_or-set_other}
use Rattle.whole.specs.Lists.{entry}
use Rattle.goals.specs.Wishes.{wish_of}
use Rattle.settling.specs.declared.Column.{Column}
use Rattle.settling.specs.Columns.{blank_column, column_at, columns_in, column_of, listed, packed_from, packed}
use Rattle.settling.proofs.Fronts.{lt_or_ge}

pub packed_length : (f : ℕ → Column) (k j : ℕ) → length (packed_from f k j) ≡ k
unfolding packed_from
packed_length f zero j = refl
packed_length f (suc k) j = ap suc (packed_length f k (suc j))

pub packed_get : (f : ℕ → Column) (k s j : ℕ) (d : Column) → j < k → get_or (packed_from f k s) j d ≡ f (s + j)
unfolding packed_from
packed_get f zero s j d h = absurd (omega arith)
packed_get f (suc k) s zero d h = ap f (omega arith)
packed_get f (suc k) s (suc j) d h = packed_get f k (suc s) j d (omega arith) ∙ ap f (omega arith)

pub packed_all : (f : ℕ → Column) (n : ℕ) (t : List Column) → length t ≡ n → ((x : ℕ) → x < n → column_at t x ≡ f x) → t ≡ packed_from f n 0
packed_all f n t h e =
    ext_get_or blank_column t (packed_from f n 0) (h ∙ sym (packed_length f n 0))
    (λ x m. e x (omega arith) ∙ sym (packed_get f n 0 x blank_column (omega arith) ∙ ap f (omega arith)))

pub packed_more : (f : ℕ → Column) (t : List Column) (j : ℕ) (c : Column) → j < length t → c ≡ f j → ((x : ℕ) → x < j → column_at t x ≡ f x)
    → (x : ℕ) → x < j + 1 → column_at (set t j c) x ≡ f x
packed_more f t j c h e g =
    below_more (λ x. column_at (set t j c) x ≡ f x) j (λ x m. get_or-set_other t j x c blank_column (λ p. omega arith) ∙ g x m)
    (get_or-set_same t j c blank_column h ∙ e)

pub packed_columns : (n : ℕ) (lo hi gs hs ms xs : List ℤ) → length lo ≡ n → length hi ≡ n → length gs ≡ n → length hs ≡ n → length ms ≡ n
    → length xs ≡ n → columns_in n (packed (listed n lo hi gs hs ms xs)) ≡ listed n lo hi gs hs ms xs
packed_columns n lo hi gs hs ms xs a b d g p q = (λ i. record { count = n; column = λ j. at j i })
  where
    f : ℕ → Column
    f j = column_of (entry j lo) (entry j hi) (entry j gs) (entry j hs) (wish_of (entry j ms) (entry j xs))

    none : (l : List ℤ) (j : ℕ) → length l ≡ n → n ≤ j → entry j l ≡ pos 0
    none l j e h = get_or-eq_default l (pos 0) {n = j} (omega (arith, e, h))

    at : (j : ℕ) → column_at (packed_from f n 0) j ≡ f j
    at j =
        ⊎_elim (λ h. packed_get f n 0 j blank_column h ∙ ap f (omega arith))
        (λ h. get_or-eq_default (packed_from f n 0) blank_column {n = j} (omega (arith, packed_length f n 0, h))
        ∙ sym (λ i. column_of (none lo j a h i) (none hi j b h i) (none gs j d h i) (none hs j g h i) (wish_of (none ms j p h i) (none xs j q h i))))
        (lt_or_ge j n)
