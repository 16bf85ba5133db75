-- Laws of gathering: it is made of elementary row steps, it ends, and what it leaves.
--   each_steps           where f only takes multiples of r away, `each f` is row steps
--   round_steps, gather_steps   so are a round and gathering
--   Stands c B z         z tells of the rows B: they have nothing but 0 at c, or row j has the magnitude p there, above 0
--   choose_stands        what `choose` chooses does
--   round_lead           after a round the pivot's entry is p
--   round_rest           what holds of 0 and of all that the quotient leaves by p holds of the magnitudes below the pivot
--   round_next           where the quotient leaves less than p, the next round's choice is none, or a smaller one
--   gather_alone         p rounds or more leave that: gathering ends
--   gather_fuel          more rounds than p change nothing, not the mark either
-- and with the nearest quotient:
--   floor_shrinks, nearest_shrinks   the rounded-down quotient leaves less than p, and so does the nearest
--   round_half           the next round's choice is at most half of p
--   gathering_first      it is what `pass_column` calls
--   gathering_round      it is one round, and the whole from there while a lower entry is not 0: one turn of a loop
-- Assumes nothing.
use mathlib.Core.Path.{◌≡◌, refl, sym, ◌∙◌, ap, ap₂, subst}
use mathlib.Core.Bool.{Bool, true, false, cond, or-false}
use mathlib.Core.List.{List, [], ◌∷◌, ◌++◌, append-nil}
use Prim.Native.Nat.{ℕ, zero, suc, ◌*◌, ◌<◌, ◌≤◌}
use native.Mathlib.Omega.{arith}
use borrow.Author.Tests.{lt-leb}
use lib.Dec.{leb}
use lib.IntN.{ℤ, pos, negsuc, neg_ℤ, nat_abs, ◌+ℤ◌, ◌*ℤ◌}
use lib.ListN.{length, get_or, set}
use Rattle.whole.specs.Lists.{entry}
use Rattle.whole.specs.Tests.{is_zero}
use Rattle.whole.specs.Quotient.{floor_quotient, nearest_quotient}
use Rattle.whole.proofs.Integers.{is_zero_true, positive_of, floor_quotient_left, nat_abs_zero}
use Rattle.whole.proofs.Nearest.{nearest_half, nearest_left_lem}
use Rattle.lattice.proofs.RowLaws.{entry_plus, entry_neg}
use Rattle.lattice.specs.Span.{All, Len, ◌~◌, same, ◌then◌, under, swap, sign, add}
use Rattle.lattice.proofs.Span.{all_at, steps_length}
use Rattle.tableau.specs.Elimination.{Left, subtract, kept, lowered_by, each, Choice, none, at, prefer, choose}
use Rattle.tableau.specs.Elimination.{Gathered, exchange, signed, clear_by, round_by, round, onward, gather_by, gather}
use Rattle.tableau.specs.Gathering.{Alone, Chosen, Shrinks, gathering, magnitude}

-- ---- row steps
pub each_steps : (r : List ℤ) (f : List ℤ → Left) → ((s : List ℤ) (B : List (List ℤ)) → (r ∷ s ∷ B) ~ (r ∷ (f s).row ∷ B)) → (A B : List (List ℤ))
    → (r ∷ (A ++ B)) ~ (r ∷ ((each f A).table ++ B))
unfolding each
each_steps r f step [] B = same
each_steps r f step (s ∷ A) B = step s (A ++ B) then swap r (f s).row then under (f s).row (each_steps r f step A B) then swap (f s).row r

exchange_rows : (b : List ℤ) (B : List (List ℤ)) (j : ℕ) → (b ∷ B) ~ (get_or B j b ∷ set B j b)
exchange_rows b [] j = same
exchange_rows b (s ∷ B) zero = swap b s
exchange_rows b (s ∷ B) (suc j) = swap b s then under s (exchange_rows b B j) then swap s (get_or B j b)

exchange_steps : (z : Choice) (b : List ℤ) (B : List (List ℤ)) → (b ∷ B) ~ ((exchange z b B).0 ∷ (exchange z b B).1)
unfolding exchange
exchange_steps none b B = same
exchange_steps (at zero p) b B = same
exchange_steps (at (suc j) p) b B = exchange_rows b B j

signed_steps : (z : ℤ) (r : List ℤ) (B : List (List ℤ)) → (r ∷ B) ~ (signed z r ∷ B)
signed_steps (pos n) r B = same
signed_steps (negsuc n) r B = sign r

-- ---- what is said of any quotient
module _ (quotient : ℤ → ℤ → ℤ) where
  lowered_steps : (c : ℕ) (r s : List ℤ) (B : List (List ℤ)) → (r ∷ s ∷ B) ~ (r ∷ (lowered_by quotient c r s).row ∷ B)
  unfolding lowered_by
  lowered_steps c r s B = go (is_zero (entry c s))
    where
      q : ℤ
      q = quotient (entry c s) (entry c r)

      go : (t : Bool) → (r ∷ s ∷ B) ~ (r ∷ (cond t (kept s) (subtract q r s)).row ∷ B)
      go true = same
      go false = add (neg_ℤ q) r s

  clear_steps : (c : ℕ) (r : List ℤ) (B : List (List ℤ)) → (r ∷ B) ~ ((clear_by quotient c r B).pivot ∷ (clear_by quotient c r B).below)
  unfolding clear_by
  clear_steps c r B = simp append-nil at (each_steps r (lowered_by quotient c r) (lowered_steps c r) B [])

  pub round_steps : (c : ℕ) (b : List ℤ) (B : List (List ℤ)) → (b ∷ B) ~ ((round_by quotient c b B).pivot ∷ (round_by quotient c b B).below)
  unfolding round_by
  round_steps c b B =
      let x : List ℤ × List (List ℤ) = exchange (choose c (b ∷ B)) b B in
      exchange_steps (choose c (b ∷ B)) b B
      then signed_steps (entry c x.0) x.0 x.1
      then clear_steps c (signed (entry c x.0) x.0) x.1

  pub gather_steps : (f c : ℕ) (z : Choice) (b : List ℤ) (B : List (List ℤ))
      → (b ∷ B) ~ ((gather_by quotient f c z b B).pivot ∷ (gather_by quotient f c z b B).below)
  unfolding gather_by
  gather_steps zero c z b B = same
  gather_steps (suc f) c none b B = same
  gather_steps (suc f) c (at j p) b B =
      let x : Gathered = round_by quotient c b B in
      round_steps c b B then gather_steps f c (choose c x.below) x.pivot x.below

-- ---- the choice
abbrev pub Stands : ℕ → List (List ℤ) → Choice → Type 0
Stands c B none = All (λ (s : List ℤ). entry c s ≡ pos 0) B
Stands c B (at j p) = (0 < p) × (j < length B) × ((d : List ℤ) → nat_abs (entry c (get_or B j d)) ≡ p)

prefer_stands : (c k : ℕ) (r : List ℤ) (B : List (List ℤ)) (z : Choice) → nat_abs (entry c r) ≡ k → Stands c B z → Stands c (r ∷ B) (prefer k z)
prefer_stands c zero r B none a s = (nat_abs_zero (entry c r) a, s)
prefer_stands c zero r B (at j p) a s = (s.0, omega (arith, s.1), s.2)
prefer_stands c (suc k) r B none a s = (omega arith, omega arith, λ d. a)
prefer_stands c (suc k) r B (at j p) a s = go (leb (suc k) p)
  where
    go : (t : Bool) → Stands c (r ∷ B) (cond t (at 0 (suc k)) (at (suc j) p))
    go true = (omega arith, omega arith, λ d. a)
    go false = (s.0, omega (arith, s.1), s.2)

pub choose_stands : (c : ℕ) (B : List (List ℤ)) → Stands c B (choose c B)
unfolding choose
choose_stands c [] = tt
choose_stands c (r ∷ B) = prefer_stands c (nat_abs (entry c r)) r B (choose c B) refl (choose_stands c B)

-- a smaller magnitude below stays the choice
prefer_below : (k j p : ℕ) → p < k → prefer k (at j p) ≡ at (suc j) p
prefer_below zero j p h = refl
prefer_below (suc k) j p h = rw (lt-leb (suc k) p h)

-- ---- a round
signed_entry : (c : ℕ) (r : List ℤ) (p : ℕ) → nat_abs (entry c r) ≡ p → entry c (signed (entry c r) r) ≡ pos p
signed_entry c r p a = go (entry c r) refl a
  where
    go : (z : ℤ) → entry c r ≡ z → nat_abs z ≡ p → entry c (signed z r) ≡ pos p
    go (pos n) e a = e ∙ ap pos a
    go (negsuc n) e a = entry_neg c r ∙ ap neg_ℤ e ∙ ap pos a

exchange_entry : (c : ℕ) (b : List ℤ) (B : List (List ℤ)) (j p : ℕ) → Stands c (b ∷ B) (at j p) → nat_abs (entry c (exchange (at j p) b B).0) ≡ p
unfolding exchange
exchange_entry c b B zero p s = s.2 b
exchange_entry c b B (suc j) p s = s.2 b

-- what holds of 0, and of what the quotient leaves of each entry by p
record Rests (quotient : ℤ → ℤ → ℤ) (p : ℕ) (F : ℕ → Type 0) : Type 0 where
  zeros : F 0
  others : (x : ℤ) → F (nat_abs (x +ℤ neg_ℤ (quotient x (pos p)) *ℤ pos p))

module _ (quotient : ℤ → ℤ → ℤ) (F : ℕ → Type 0) where
  lowered_rest : (c p : ℕ) (r s : List ℤ) → Rests quotient p F → entry c r ≡ pos p → c < length s
      → F (nat_abs (entry c (lowered_by quotient c r s).row))
  unfolding lowered_by
  lowered_rest c p r s f e h = go (is_zero (entry c s)) (is_zero_true (entry c s))
    where
      q : ℤ
      q = quotient (entry c s) (entry c r)

      go : (t : Bool) → (t ≡ true → entry c s ≡ pos 0) → F (nat_abs (entry c (cond t (kept s) (subtract q r s)).row))
      go true g = rw (g refl) f.zeros
      go false g = rw (entry_plus c (neg_ℤ q) r s h, e) (f.others (entry c s))

  each_rest : (n c p : ℕ) (r : List ℤ) (B : List (List ℤ)) → Rests quotient p F → entry c r ≡ pos p → c < n → All (Len n) B
      → All (λ (s : List ℤ). F (nat_abs (entry c s))) (each (lowered_by quotient c r) B).table
  unfolding each
  each_rest n c p r [] f e h a = tt
  each_rest n c p r (s ∷ B) f e h a = (lowered_rest c p r s f e (omega (arith, a.0)), each_rest n c p r B f e h a.1)

module _ {n c : ℕ} {b : List ℤ} {B : List (List ℤ)} {j p : ℕ} (h : Chosen n c b B j p) where
  pub chosen_stands : Stands c (b ∷ B) (at j p)
  chosen_stands = subst (Stands c (b ∷ B)) h.choice (choose_stands c (b ∷ B))

  module _ (quotient : ℤ → ℤ → ℤ) where
    pub round_lead : entry c (round_by quotient c b B).pivot ≡ pos p
    unfolding round_by clear_by
    round_lead =
        signed_entry c (exchange (choose c (b ∷ B)) b B).0 p
        (ap (λ (z : Choice). nat_abs (entry c (exchange z b B).0)) h.choice ∙ exchange_entry c b B j p chosen_stands)

    round_rest : (F : ℕ → Type 0) → Rests quotient p F → All (λ (s : List ℤ). F (nat_abs (entry c s))) (round_by quotient c b B).below
    unfolding round_by clear_by
    round_rest F f =
        each_rest quotient F n c p (round_by quotient c b B).pivot (exchange (choose c (b ∷ B)) b B).1 f round_lead h.within
        (steps_length n (exchange_steps (choose c (b ∷ B)) b B) h.wide).1

    -- the same of the choice in the lower rows
    choice_rest : (F : ℕ → Type 0) → Rests quotient p F → F (magnitude (choose c (round_by quotient c b B).below))
    choice_rest F f = go (choose c C) (choose_stands c C)
      where
        C : List (List ℤ)
        C = (round_by quotient c b B).below

        go : (z : Choice) → Stands c C z → F (magnitude z)
        go none s = f.zeros
        go (at i k) s = subst F (s.2 []) (all_at (λ (s : List ℤ). F (nat_abs (entry c s))) C i [] s.1 (round_rest F f))

  -- what holds of the choice in the lower rows: there is none, or a smaller one, which is that of all rows too
  pub round_next : {quotient : ℤ → ℤ → ℤ} → Shrinks quotient → (P : Choice → Type 0) → (Stands c (round_by quotient c b B).below none → P none)
      → ((i k : ℕ) → k < p → Chosen n c (round_by quotient c b B).pivot (round_by quotient c b B).below (suc i) k → P (at i k))
      → P (choose c (round_by quotient c b B).below)
  unfolding choose
  round_next {quotient} S P end more = go (choose c C) refl (choose_stands c C)
    where
      C : List (List ℤ)
      C = (round_by quotient c b B).below

      smaller : magnitude (choose c C) < p
      smaller =
          choice_rest quotient (λ (k : ℕ). k < p)
          (record { zeros = chosen_stands.0; others = λ x. S.left x (positive_of p chosen_stands.0) })

      go : (z : Choice) → choose c C ≡ z → Stands c C z → P z
      go none e s = end s
      go (at i k) e s =
          let l : k < p = subst (λ (z : Choice). magnitude z < p) e smaller in
          more i k l (record {
            within = h.within;
            wide = steps_length n (round_steps quotient c b B) h.wide;
            choice = ap₂ (λ (x : ℤ) (y : Choice). prefer (nat_abs x) y) (round_lead quotient) e ∙ prefer_below p i k l;
          })

-- ---- the rounds end
gather_none : (quotient : ℤ → ℤ → ℤ) (f c : ℕ) (b : List ℤ) (B : List (List ℤ))
    → gather_by quotient f c none b B ≡ record { pivot = b; below = B; over = false }
unfolding gather_by
gather_none quotient zero c b B = refl
gather_none quotient (suc f) c b B = refl

module _ {quotient : ℤ → ℤ → ℤ} (S : Shrinks quotient) where
  pub gather_alone : {n c : ℕ} {b : List ℤ} {B : List (List ℤ)} {j p : ℕ} → Chosen n c b B j p → (f i k : ℕ) → p ≤ f
      → Alone c (gather_by quotient f c (at i k) b B).pivot (gather_by quotient f c (at i k) b B).below
  unfolding gather_by
  gather_alone h zero i k l = absurd (omega (arith, (chosen_stands h).0))
  gather_alone {c = c} {b = b} {B = B} {p = p} h (suc f) i k l =
      let r : List ℤ = (round_by quotient c b B).pivot in
      let C : List (List ℤ) = (round_by quotient c b B).below in
      round_next h S (λ (z : Choice). Alone c (gather_by quotient f c z r C).pivot (gather_by quotient f c z r C).below)
      (λ s. subst (λ (g : Gathered). Alone c g.pivot g.below) (sym (gather_none quotient f c r C)) (record {
        lead = rw (round_lead h quotient) (positive_of p (chosen_stands h).0);
        lower = s;
      }))
      (λ i' k' l' h'. gather_alone {b = r} {B = C} h' f i' k' (omega arith))

  -- ---- the count of rounds does not matter
  pub gather_fuel : {n c : ℕ} {b : List ℤ} {B : List (List ℤ)} {j p : ℕ} → Chosen n c b B j p → (f g i k i' k' : ℕ) → p ≤ f → p ≤ g
      → gather_by quotient f c (at i k) b B ≡ gather_by quotient g c (at i' k') b B
  unfolding gather_by
  gather_fuel h zero g i k i' k' l l' = absurd (omega (arith, (chosen_stands h).0))
  gather_fuel h (suc f) zero i k i' k' l l' = absurd (omega (arith, (chosen_stands h).0))
  gather_fuel {c = c} {b = b} {B = B} h (suc f) (suc g) i k i' k' l l' =
      let r : List ℤ = (round_by quotient c b B).pivot in
      let C : List (List ℤ) = (round_by quotient c b B).below in
      ap (onward (round_by quotient c b B).over)
      (round_next h S (λ (z : Choice). gather_by quotient f c z r C ≡ gather_by quotient g c z r C)
      (λ s. gather_none quotient f c r C ∙ sym (gather_none quotient g c r C))
      (λ i'' k'' l'' h''. gather_fuel {b = r} {B = C} h'' f g i'' k'' i'' k'' (omega arith) (omega arith)))

-- ---- with the nearest quotient
pub floor_shrinks : Shrinks floor_quotient
floor_shrinks = record { left = λ x h. floor_quotient_left x h }

pub nearest_shrinks : Shrinks nearest_quotient
nearest_shrinks = record { left = λ x h. nearest_left_lem x h }

pub round_half : {n c : ℕ} {b : List ℤ} {B : List (List ℤ)} {j p : ℕ} → Chosen n c b B j p → 2 * magnitude (choose c (round c b B).below) ≤ p
round_half {p = p} h =
    choice_rest h nearest_quotient (λ (k : ℕ). 2 * k ≤ p)
    (record { zeros = omega arith; others = λ x. nearest_half x (positive_of p (chosen_stands h).0) })

pub gathering_first : {n c : ℕ} {b : List ℤ} {B : List (List ℤ)} {j p : ℕ} → Chosen n c b B j p → gathering c b B ≡ gather p c (at j p) b B
unfolding gathering
gathering_first {c = c} {b = b} {B = B} h = ap (λ (z : Choice). gather (magnitude z) c z b B) h.choice

-- what follows on the round x, where z is the choice in its lower rows
abbrev pub following : ℕ → Choice → Gathered → Gathered
following c none x = x
following c (at j p) x = onward x.over (gathering c x.pivot x.below)

pub gathering_round : {n c : ℕ} {b : List ℤ} {B : List (List ℤ)} {j p : ℕ} → Chosen n c b B j p
    → gathering c b B ≡ following c (choose c (round c b B).below) (round c b B)
unfolding gather_by
gathering_round {c = c} {b = b} {B = B} {j = j} {p = p} h = gathering_first h ∙ go p refl
  where
    x : Gathered
    x = round c b B

    go : (f : ℕ) → p ≡ f → gather f c (at j p) b B ≡ following c (choose c x.below) x
    go zero q = absurd (omega (arith, (chosen_stands h).0))
    go (suc f) q =
        round_next h nearest_shrinks (λ (z : Choice). onward x.over (gather f c z x.pivot x.below) ≡ following c z x)
        (λ s.
        ap (onward x.over) (gather_none nearest_quotient f c x.pivot x.below)
        ∙ ap (λ (o : Bool). record { pivot = x.pivot; below = x.below; over = o }) (or-false x.over))
        (λ i k l h'.
        ap (onward x.over) (gather_fuel nearest_shrinks h' f k i k (suc i) k (omega arith) (omega arith) ∙ sym (gathering_first h')))
