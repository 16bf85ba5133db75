-- Laws of a lone entry, the only one other than 0 in its column.
--   lone_stops   once its row is at the top, gathering is done
--   lone_round   with one round
-- Assumes nothing.
use mathlib.Core.Path.{◌≡◌, refl, sym, ◌∙◌, ap, ap₂, subst}
use mathlib.Core.Bool.{false, ◌||◌}
use Rattle.std.specs.Prelude.{Ok}
use mathlib.Core.List.{List, [], ◌∷◌, ◌++◌}
use Prim.Native.Nat.{ℕ, zero, suc, ◌+◌, ◌*◌, ◌-◌, ◌<◌}
use native.Mathlib.Omega.{arith}
use borrow.Author.Tests.{eq-eqb}
use lib.IntN.{ℤ, nat_abs}
use lib.ListN.{get_or, set, take, drop}
use Rattle.whole.specs.Lists.{entry}
use Rattle.lattice.specs.Rows.{chop}
use Rattle.lattice.specs.Span.{All}
use Rattle.lattice.proofs.FlatLaws.{flat_chop, chop_next, chop_row}
use Rattle.tableau.specs.Elimination.{clear_by, lowered_by}
use Rattle.tableau.specs.Elimination.{Left, kept, lowered, Run, each, Choice, none, at, prefer, choose, Gathered, exchange}
use Rattle.tableau.proofs.GatherLaws.{chosen_stands}
use Rattle.tableau.specs.Choices.{counted, nonzeros}
use Rattle.tableau.specs.Tails.{Tail, Picked, lower_first, lifted_row, Lifted, Gathers, round_of, gathering_of, gathering_rounds_of}
use Rattle.tableau.proofs.Rounds.{swapped, chosen_low, round_is, below_wide}
use Rattle.tableau.proofs.Turns.{finished, finished_rounds}

-- ---- rows with 0 at c
Idle : ℕ → List ℤ → Type 0
Idle c s = nat_abs (entry c s) ≡ 0

no_others : (c : ℕ) (B : List (List ℤ)) → nonzeros c B ≡ 0 → All (Idle c) B
unfolding nonzeros Idle
no_others c [] e = tt
no_others c (s ∷ B) e = (uncounted (nat_abs (entry c s)) (omega arith), no_others c B (omega arith))
  where
    uncounted : (k : ℕ) → counted k ≡ 0 → k ≡ 0
    uncounted zero e = refl
    uncounted (suc k) e = absurd (omega arith)

each_keeps : (c : ℕ) (r : List ℤ) (B : List (List ℤ)) → All (Idle c) B → each (lowered c r) B ≡ record { table = B; over = false }
unfolding each lowered_by Idle
each_keeps c r [] a = refl
each_keeps c r (s ∷ B) a =
    ap₂ (λ (x : Left) (y : Run). record { table = x.row ∷ y.table; over = x.over || y.over }) (keeps a.0) (each_keeps c r B a.1)
  where
    keeps : nat_abs (entry c s) ≡ 0 → lowered c r s ≡ kept s
    keeps e = rw (eq-eqb (nat_abs (entry c s)) 0 e)

choose_idle : (c : ℕ) (B : List (List ℤ)) → All (Idle c) B → choose c B ≡ none
unfolding choose Idle
choose_idle c [] a = refl
choose_idle c (s ∷ B) a = ap₂ prefer a.0 (choose_idle c B a.1)

-- ---- an exchange
exchange_count : (c : ℕ) (z : Choice) (b : List ℤ) (B : List (List ℤ)) → nonzeros c ((exchange z b B).0 ∷ (exchange z b B).1) ≡ nonzeros c (b ∷ B)
unfolding exchange nonzeros
exchange_count c none b B = refl
exchange_count c (at zero p) b B = refl
exchange_count c (at (suc j) p) b B = go B j
  where
    go : (B : List (List ℤ)) (j : ℕ)
        → counted (nat_abs (entry c (get_or B j b))) + nonzeros c (set B j b) ≡ counted (nat_abs (entry c b)) + nonzeros c B
    go [] j = refl
    go (s ∷ B) zero = omega arith
    go (s ∷ B) (suc j) = omega (arith, go B j)

-- ---- the row at the top
module _ {k w c j : ℕ} {t p u : List ℤ} (h : Tail k w c t) (g : Picked k w c t j) (l : Lifted c j w t p u) (n : nonzeros c (chop k w t) ≡ 1) where
  abbrev row : List ℤ
  row = take w (drop (j * w) t)

  abbrev others : List (List ℤ)
  others = chop (k - 1) w (drop w (lower_first w j t))

  row_size : nat_abs (entry c row) ≡ g.size
  row_size =
      ap (λ (r : List ℤ). nat_abs (entry c r))
      (sym (chop_row k w j t [] (chosen_low h g)) ∙ ap (λ (T : List (List ℤ)). get_or T j []) (chop_next k w t g.some))
      ∙ (chosen_stands g.is).2 []

  all_count : nonzeros c (row ∷ others) ≡ 1
  all_count =
      ap (λ (x : List ℤ × List (List ℤ)). nonzeros c (x.0 ∷ x.1)) (sym (swapped k w j g.size t h.wide (chosen_low h g)))
      ∙ exchange_count c (at j g.size) (take w t) (chop (k - 1) w (drop w t))
      ∙ ap (nonzeros c) (sym (chop_next k w t g.some))
      ∙ n

  idle : All (Idle c) others
  unfolding nonzeros
  idle = no_others c others (omega (arith, all_count, up (nat_abs (entry c row)) (omega (arith, row_size, (chosen_stands g.is).0))))
    where
      up : (m : ℕ) → 0 < m → counted m ≡ 1
      up zero q = absurd (omega arith)
      up (suc m) q = refl

  round_here : round_of k w c t ≡ record { pivot = lifted_row w c j t; below = others; over = false }
  unfolding clear_by
  round_here =
      round_is h g
      ∙ ap (λ (y : Run). record { pivot = lifted_row w c j t; below = y.table; over = y.over }) (each_keeps c (lifted_row w c j t) others idle)

  none_below : choose c (round_of k w c t).below ≡ none
  none_below = ap (λ (y : Gathered). choose c y.below) round_here ∙ choose_idle c others idle

  pub lone_round : gathering_rounds_of k w c t ≡ 1
  lone_round = finished_rounds h g none_below

  pub lone_stops : Gathers {A = ℕ} (gathering_of k w c t) (Ok 1) u p
  lone_stops =
      subst (λ (y : Gathered). Gathers {A = ℕ} y (Ok 1) u p)
      (sym (finished h g none_below ∙ round_here)) (
        refl,
        (l.tail ∙ ap₂ (λ (x y : List ℤ). x ++ y) l.pivot (sym (flat_chop (k - 1) w (drop w (lower_first w j t)) (below_wide h g))), l.pivot),
      )
