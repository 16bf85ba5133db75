-- The numbers of the listed moves rise in their order, so that the least number that improves is the step of document 01.
--   mark_small         a mark is 0 or 1
--   value_is, -one     the value of a sign is +1 or −1, and so of magnitude 1; by_value, either is that of a sign
--   single_is, pair_is   the number of a single, and of a pair
--   number_single      that of a single lies below first_pair
--   number_pair        that of a pair does not
--   number_small, number_listed   both lie below span, for vectors below max_columns, and so for listed moves
--   sign_mark          a sign is that of its mark
--   least_step         the number of an improving move, or of none, that dominates all moves is the step of document 01
-- Assumes nothing.
use mathlib.Core.Path.{◌≡◌, refl, sym, ◌∙◌, ap, subst}
use mathlib.Core.Logic.{inl, inr, ⊎_elim}
use mathlib.Core.Bool.{Bool, true, false, cond, true≢false}
use mathlib.Core.List.{List, [], ◌∷◌, ◌++◌}
use Prim.Native.Nat.{ℕ, zero, suc, ◌+◌, ◌-◌, ◌*◌, ◌/◌, ◌%◌, ◌<◌, ◌≤◌}
use native.Mathlib.Omega.{arith}
use borrow.Author.Tests.{lt-ltb, le-ltb}
use lib.IntN.{ℤ, pos, nat_abs}
use lib.ListN.{length, get_or}
use lib.Signed.{lt_z}
use Rattle.std.specs.Prelude.{Option, Some, None}
use Rattle.whole.specs.Tests.{is_zero}
use Rattle.problem.specs.Limits.{max_columns}
use Rattle.settling.specs.declared.Move.{Move}
use Rattle.settling.specs.declared.Step.{Step}
use Rattle.settling.specs.Moves.{single, pair, sign_pairs, singles, pairs_with, pairs, moves}
use Rattle.settling.specs.Steps.{step, first_move, first_column}
use Rattle.settling.specs.Verdicts.{Listed}
use Rattle.search.specs.Numbers.{IsSign, first_pair, span, mark, number_of, number_at}
use Rattle.search.specs.Numbers.{sign_of, move_of, step_in, DominatedBy, ImprovingNumber, ImprovingOrNone}
use Rattle.search.specs.declared.seen.Sign.{Sign}
use Rattle.search.specs.declared.seen.Sign.TheVariants.{Plus, Minus}
use Rattle.search.specs.Progress.{value}
use Rattle.search.proofs.Listings.{Single, Double, listed_cases}

-- ---- the number of a move
pub mark_small : (a : ℤ) → mark a ≤ 1
mark_small a = go (lt_z a (pos 0))
  where
    go : (t : Bool) → cond t 1 0 ≤ 1
    go true = omega arith
    go false = omega arith

pub value_is : (x : Sign) → IsSign (value x)
value_is Plus = inl refl
value_is Minus = inr refl

pub value_one : (x : Sign) → nat_abs (value x) ≡ 1
value_one Plus = refl
value_one Minus = refl

-- what holds of either value holds of a sign
pub by_value : (P : ℤ → Type 0) → ((x : Sign) → P (value x)) → (a : ℤ) → IsSign a → P a
by_value P f a (inl e) = subst P (sym e) (f Plus)
by_value P f a (inr e) = subst P (sym e) (f Minus)

pub single_is : (s : ℕ) (a : ℤ) → number_of (single s a) ≡ 2 * s + mark a
unfolding number_of
single_is s a = refl

pub pair_is : (s : ℕ) (a : ℤ) (t : ℕ) (b : ℤ) → IsSign b
    → number_of (pair s a t b) ≡ first_pair + (4 * (max_columns * s + t) + (2 * mark a + mark b))
unfolding number_of
pair_is s a t b (inl e) = rw e
pair_is s a t b (inr e) = rw e

pub number_single : (s : ℕ) (a : ℤ) → s < max_columns → number_of (single s a) < first_pair
number_single s a h = omega (arith, single_is s a, mark_small a)

pub number_pair : (s : ℕ) (a : ℤ) (t : ℕ) (b : ℤ) → IsSign b → first_pair ≤ number_of (pair s a t b)
number_pair s a t b g = omega (arith, pair_is s a t b g)

pub number_small : (o : Move) → o.s < max_columns → o.t < max_columns → number_of o < span
unfolding number_of
number_small o h k = go (is_zero o.b)
  where
    go : (t : Bool) → cond t (2 * o.s + mark o.a) (first_pair + (4 * (max_columns * o.s + o.t) + (2 * mark o.a + mark o.b))) < span
    go true = omega (arith, mark_small o.a)
    go false = omega (arith, mark_small o.a, mark_small o.b)

pub number_listed : (r : ℕ) (o : Move) → r ≤ max_columns → Listed o (moves r) → number_of o < span
number_listed r o h l = ⊎_elim one two (listed_cases r o l)
  where
    one : Single r o → number_of o < span
    one c = rw c.is (number_small (single c.s c.a) (omega arith) (omega arith))

    two : Double r o → number_of o < span
    two c = rw c.is (number_small (pair c.s c.a c.t c.b) (omega arith) (omega arith))

-- ---- the listed moves rise
-- the numbers of R rise from lo, and lie below hi
abbrev Rising : ℕ → ℕ → List Move → Type 0
Rising lo hi [] = lo ≤ hi
Rising lo hi (o ∷ R) = (lo ≤ number_of o) × Rising (suc (number_of o)) hi R

rising_from : (k lo hi : ℕ) (R : List Move) → k ≤ lo → Rising lo hi R → Rising k hi R
rising_from k lo hi [] h r = omega arith
rising_from k lo hi (o ∷ R) h r = (omega (arith, r.0), r.1)

rising_then : (lo m k hi : ℕ) (R S : List Move) → Rising lo m R → m ≤ k → Rising k hi S → Rising lo hi (R ++ S)
rising_then lo m k hi [] S r h q = rising_from lo k hi S (omega arith) q
rising_then lo m k hi (o ∷ R) S r h q = (r.0, rising_then (suc (number_of o)) m k hi R S r.1 h q)

rising_least : (lo hi : ℕ) (R : List Move) (o : Move) → Rising lo hi R → Listed o R → lo ≤ number_of o
rising_least lo hi [] o r l = absurd l
rising_least lo hi (u ∷ R) o r (inl e) = omega (arith, r.0, ap number_of e)
rising_least lo hi (u ∷ R) o r (inr l) = omega (arith, r.0, rising_least (suc (number_of u)) hi R o r.1 l)

singles_rise : (k s e : ℕ) → s + k ≡ e → Rising (2 * s) (2 * e) (singles k s)
unfolding singles number_of
singles_rise zero s e h = omega arith
singles_rise (suc k) s e h = (
  omega arith,
  (
    omega arith,
    rising_from (suc (2 * s + 1)) (2 * suc s) (2 * e) (singles k (suc s)) (omega arith)
        (singles_rise k (suc s) e (omega arith)),
  ),
)

-- where the pairs of s and t begin
abbrev pairs_from : ℕ → ℕ → ℕ
pairs_from s t = first_pair + 4 * (max_columns * s + t)

signs_rise : (s t : ℕ) → Rising (pairs_from s t) (pairs_from s (suc t)) (sign_pairs s t)
unfolding number_of
signs_rise s t = (omega arith, (omega arith, (omega arith, (omega arith, omega arith))))

with_rise : (k s t e : ℕ) → t + k ≡ e → Rising (pairs_from s t) (pairs_from s e) (pairs_with k s t)
unfolding pairs_with
with_rise zero s t e h = omega arith
with_rise (suc k) s t e h =
    rising_then (pairs_from s t) (pairs_from s (suc t)) (pairs_from s (suc t)) (pairs_from s e) (sign_pairs s t) (pairs_with k s (suc t))
    (signs_rise s t) (omega arith) (with_rise k s (suc t) e (omega arith))

pairs_rise : (k s e : ℕ) → s + k ≡ e → e ≤ max_columns → Rising (pairs_from s 0) (pairs_from e 0) (pairs k s)
unfolding pairs
pairs_rise zero s e h g = omega arith
pairs_rise (suc k) s e h g =
    rising_from (pairs_from s 0) (pairs_from s (suc s)) (pairs_from e 0) (pairs_with k s (suc s) ++ pairs k (suc s)) (omega arith)
    (rising_then (pairs_from s (suc s)) (pairs_from s e) (pairs_from (suc s) 0) (pairs_from e 0) (pairs_with k s (suc s)) (pairs k (suc s))
    (with_rise k s (suc s) e (omega arith)) (omega arith) (pairs_rise k (suc s) e (omega arith) g))

moves_rise : (r : ℕ) → r ≤ max_columns → Rising 0 (pairs_from r 0) (moves r)
unfolding moves
moves_rise r h =
    rising_then 0 (2 * r) first_pair (pairs_from r 0) (singles r 0) (pairs r 0)
    (singles_rise r 0 r (omega arith)) (omega arith) (pairs_rise r 0 r (omega arith) h)

-- ---- at a place
module _ (r : ℕ) (h : r ≤ max_columns) (o : Move) (l : Listed o (moves r)) where
  at_below : (x : ℕ) → number_at x o < (x + 1) * span
  at_below x = omega (arith, number_listed r o h l)

  -- ---- back from the number
  at_place : (x : ℕ) → number_at x o / span ≡ x
  at_place x = let n = number_listed r o h l in omega arith

  at_number : (x : ℕ) → number_at x o % span ≡ number_of o
  at_number x = let n = number_listed r o h l in omega arith

pub sign_mark : (a : ℤ) → IsSign a → sign_of (mark a) ≡ a
sign_mark a (inl e) = rw e
sign_mark a (inr e) = rw e

move_single : (s : ℕ) (a : ℤ) → s < max_columns → IsSign a → move_of (number_of (single s a)) ≡ single s a
unfolding move_of
move_single s a h g =
    rw (lt-ltb (number_of (single s a)) first_pair (number_single s a h))
    (λ i. single (half i) ((ap sign_of odd ∙ sign_mark a g) i))
  where
    half : number_of (single s a) / 2 ≡ s
    half = let e = single_is s a in let m = mark_small a in omega arith

    odd : number_of (single s a) % 2 ≡ mark a
    odd = let e = single_is s a in let m = mark_small a in omega arith

module _ (s : ℕ) (a : ℤ) (t : ℕ) (b : ℤ) (h : t < max_columns) (f : IsSign a) (g : IsSign b) where
  from_first : number_of (pair s a t b) - first_pair ≡ 4 * (max_columns * s + t) + (2 * mark a + mark b)
  from_first = omega (arith, pair_is s a t b g)

  move_pair : move_of (number_of (pair s a t b)) ≡ pair s a t b
  unfolding move_of
  move_pair =
      rw (le-ltb (number_of (pair s a t b)) first_pair (number_pair s a t b g), from_first)
      (λ i. pair (first i) ((ap sign_of of_a ∙ sign_mark a f) i) (second i) ((ap sign_of of_b ∙ sign_mark b g) i))
    where
      d : ℕ
      d = 4 * (max_columns * s + t) + (2 * mark a + mark b)

      first : d / 4 / max_columns ≡ s
      first = let m = mark_small a in let n = mark_small b in omega arith

      second : d / 4 % max_columns ≡ t
      second = let m = mark_small a in let n = mark_small b in omega arith

      of_a : d / 2 % 2 ≡ mark a
      of_a = let m = mark_small a in let n = mark_small b in omega arith

      of_b : d % 2 ≡ mark b
      of_b = let m = mark_small a in let n = mark_small b in omega arith

move_number : (r : ℕ) (o : Move) → r ≤ max_columns → Listed o (moves r) → move_of (number_of o) ≡ o
move_number r o h l = ⊎_elim one two (listed_cases r o l)
  where
    one : Single r o → move_of (number_of o) ≡ o
    one c = rw c.is (move_single c.s c.a (omega arith) c.sign)

    two : Double r o → move_of (number_of o) ≡ o
    two c = rw c.is (move_pair c.s c.a c.t c.b (omega arith) c.sign_a c.sign_b)

-- ---- the first move of a list, and the first column
no_move : (good : Move → Bool) (i : ℕ) (R : List Move) → ((o : Move) → Listed o R → good o ≡ true → ⊥) → first_move good i R ≡ None
unfolding first_move
no_move good i [] h = refl
no_move good i (o ∷ R) h = go (good o) refl (no_move good i R (λ u l. h u (inr l)))
  where
    go : (t : Bool) → good o ≡ t → first_move good i R ≡ None → cond t (Some (step i o)) (first_move good i R) ≡ None
    go true e k = absurd (h o (inl refl) e)
    go false e k = k

least_move :
    (good : Move → Bool) (i : ℕ) (o : Move) (lo hi : ℕ) (R : List Move) → Rising lo hi R → Listed o R → good o ≡ true
    → ((u : Move) → Listed u R → good u ≡ true → number_of o ≤ number_of u) → first_move good i R ≡ Some (step i o)
unfolding first_move
least_move good i o lo hi [] r l e h = absurd l
least_move good i o lo hi (u ∷ R) r l e h =
    go (good u) refl l (λ k. least_move good i o (suc (number_of u)) hi R r.1 k e (λ v m. h v (inr m)))
  where
    go :
        (t : Bool) → good u ≡ t → Listed o (u ∷ R) → (Listed o R → first_move good i R ≡ Some (step i o))
        → cond t (Some (step i u)) (first_move good i R) ≡ Some (step i o)
    go true g (inl d) k = ap (λ (m : Move). Some (step i m)) (sym d)
    go true g (inr m) k = absurd (omega (arith, h u (inl refl) g, rising_least (suc (number_of u)) hi R o r.1 m))
    go false g (inl d) k = absurd (true≢false (sym e ∙ ap good d ∙ g))
    go false g (inr m) k = k m

no_column_lem : (f : ℕ → Option Step) (L : List ℕ) → ((x : ℕ) → x < length L → f (get_or L x 0) ≡ None) → first_column f L ≡ None
unfolding first_column
no_column_lem f [] h = refl
no_column_lem f (i ∷ L) h = rw (h 0 (omega arith)) (no_column_lem f L (λ x l. h (suc x) (omega arith)))

column_at_lem :
    (f : ℕ → Option Step) (L : List ℕ) (k i : ℕ) (o : Move) → k < length L → ((x : ℕ) → x < k → f (get_or L x 0) ≡ None)
    → f (get_or L k 0) ≡ Some (step i o) → first_column f L ≡ Some (step i o)
unfolding first_column
column_at_lem f [] k i o l h e = absurd (omega arith)
column_at_lem f (j ∷ L) zero i o l h e = rw e
column_at_lem f (j ∷ L) (suc k) i o l h e = rw (h 0 (omega arith)) (column_at_lem f L k i o (omega arith) (λ x m. h (suc x) (omega arith)) e)

-- ---- the step
module _
    (imp : Move → ℕ → Bool) (L : List ℕ) (r z : ℕ) (small : r ≤ max_columns) (dominated : (o : Move) → Listed o (moves r) → DominatedBy imp L z o)
  where
    -- a place whose numbers are all below z has no improving move
    before : (x : ℕ) → x < length L → (x + 1) * span ≤ z → first_move (λ o. imp o (get_or L x 0)) (get_or L x 0) (moves r) ≡ None
    before x h k =
        no_move (λ o. imp o (get_or L x 0)) (get_or L x 0) (moves r)
        (λ o l e. omega (arith, (dominated o l).each x h e, at_below r small o l x))

    behind : z ≡ length L * span → step_in L z ≡ first_column (λ i. first_move (λ o. imp o i) i (moves r)) L
    unfolding step_in
    behind e =
        let k : length L ≤ z / span = omega arith in
        rw (le-ltb (z / span) (length L) k) (sym (no_column_lem (λ i. first_move (λ o. imp o i) i (moves r)) L (λ x h. before x h (omega arith))))

    inside : ImprovingNumber imp L r z → step_in L z ≡ first_column (λ i. first_move (λ o. imp o i) i (moves r)) L
    unfolding step_in
    inside t =
        found ∙ sym (column_at_lem (λ i. first_move (λ o. imp o i) i (moves r)) L t.place (get_or L t.place 0) t.move t.inside
        (λ x h. before x (omega (arith, t.inside)) (omega (arith, t.is))) here)
      where
        place : z / span ≡ t.place
        place = ap (λ (n : ℕ). n / span) t.is ∙ at_place r small t.move t.listed t.place

        move : move_of (z % span) ≡ t.move
        move =
            ap (λ (n : ℕ). move_of (n % span)) t.is ∙ ap move_of (at_number r small t.move t.listed t.place)
            ∙ move_number r t.move small t.listed

        found : step_in L z ≡ Some (step (get_or L t.place 0) t.move)
        found = rw (place, move, lt-ltb t.place (length L) t.inside)

        here : first_move (λ o. imp o (get_or L t.place 0)) (get_or L t.place 0) (moves r) ≡ Some (step (get_or L t.place 0) t.move)
        here =
            least_move (λ o. imp o (get_or L t.place 0)) (get_or L t.place 0) t.move 0 (pairs_from r 0) (moves r) (moves_rise r small)
            t.listed t.good (λ u l e. omega (arith, t.is, (dominated u l).each t.place t.inside e))

    pub least_step : ImprovingOrNone imp L r z → step_in L z ≡ first_column (λ i. first_move (λ o. imp o i) i (moves r)) L
    least_step s = ⊎_elim behind inside s
