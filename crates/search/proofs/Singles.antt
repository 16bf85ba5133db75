-- The vectors of a place, tried alone.
--   plus_minus            the two signs differ
--   noted_set             the notes name columns still, plus_noted where one column is noted; both_stored both one after the other
--   BothBlocked h l s     vector s is blocked with both signs
--   Singling h f l w      of the vectors of the set f those of w are left, and the others are blocked
--   single_in, -few, -numbered   the vector that is met: it is one of the basis, and has a number
--   single_failed         a vector that fails alone is no better than anything
--   singling_starts, -more, -ends   before the first vector, after one that fails with both signs, and after the last
--   singling_found        a vector that improves alone ends it
-- Assumes nothing.
use mathlib.Core.Path.{◌≡◌, refl, sym, ◌∙◌, ap, ap₂, subst}
use mathlib.Core.Logic.{inr, ⊎_elim}
use mathlib.Core.Bool.{Bool, true, false, ◌&&◌}
use mathlib.Core.List.{List}
use Prim.Native.Nat.{ℕ, ◌+◌, ◌*◌, ◌<◌, ◌≤◌}
use native.Mathlib.Nat.{eq-or-lt_of_le}
use native.Mathlib.Omega.{arith}
use borrow.Author.Tests.{eqb-true, eqb-false}
use lib.Dec.{eqb}
use lib.ListN.{get_or, set, length-set}
use lib.Seq.{get_or-set_same, get_or-set_other, set-set}
use Rattle.whole.specs.Tests.{every}
use Rattle.problem.specs.Limits.{max_columns}
use Rattle.settling.specs.declared.Measure.{Measure}
use Rattle.settling.specs.declared.Move.{Move}
use Rattle.settling.specs.Moves.{changes}
use Rattle.settling.specs.Steps.{improves}
use Rattle.search.specs.declared.seen.Note.{Note}
use Rattle.search.specs.declared.seen.Place.{Place}
use Rattle.search.specs.declared.seen.Sign.{Sign}
use Rattle.search.specs.declared.seen.Sign.TheVariants.{Plus, Minus}
use Rattle.search.specs.Notes.{noted, blocking_at, Noted}
use Rattle.search.specs.Numbers.{number_at}
use Rattle.search.specs.Progress.{Dominated, Incumbent, Still, Unseen, Blocked, Tried, Found, alone, value}
use Rattle.search.specs.Searches.{basis_of, passing}
use Rattle.search.specs.Sets.{has, touches, Taken}
use Rattle.search.proofs.Alone.{digit, alone_listed, alone_number, alone_changes, here_measure}
use Rattle.search.proofs.Dominance.{zero_still, still_dominated, fails_dominated}
use Rattle.search.proofs.Numbering.{number_single}
use Rattle.search.proofs.Partners.{two_signs}
use Rattle.search.proofs.Setting.{taken_least, Walk, walk_starts, walk_first, walk_on, walk_end}

pub plus_minus : Plus ≡ Minus → ⊥
plus_minus e = cc

-- ---- a note that is stored
abbrev pub note : ℕ → ℕ → Note
note f g = record { plus = f; minus = g }

abbrev blank : Note
blank = note 0 0

pub noted_set : (n : ℕ) (l : List Note) (s f g : ℕ) → s < max_columns → f < n → g < n → Noted n l → Noted n (set l s (note f g))
noted_set n l s f g h k m w = record { long = length-set l s (note f g) ∙ w.long; each = λ p d x. go p d x (eqb d s) refl }
  where
    stored : (x : Sign) → noted (note f g) x < n
    stored = two_signs (λ x. noted (note f g) x < n) k m

    go : 0 < n → (d : ℕ) (x : Sign) (t : Bool) → eqb d s ≡ t → blocking_at (set l s (note f g)) d x < n
    go p d x true e =
        subst (λ (i : Note). noted i x < n)
        (sym (ap (λ (i : ℕ). get_or (set l s (note f g)) i blank) (eqb-true d s e) ∙ get_or-set_same l s (note f g) blank (omega (arith, w.long))))
        (stored x)
    go p d x false e =
        subst (λ (i : Note). noted i x < n) (sym (get_or-set_other l s d (note f g) blank (eqb-false d s e))) (w.each p d x)

-- the column of one sign is noted, and then that of the other
abbrev pub plus_set : List Note → ℕ → ℕ → List Note
plus_set l s f = set l s (note f (get_or l s (note 0 0)).minus)

module _ (n : ℕ) (l : List Note) (s f : ℕ) (h : s < max_columns) (k : f < n) (w : Noted n l) where
  pub plus_noted : Noted n (plus_set l s f)
  plus_noted = noted_set n l s f (get_or l s blank).minus h k (w.each (omega arith) s Minus) w

  pub both_stored : (g : ℕ) → set (plus_set l s f) s (note (get_or (plus_set l s f) s (note 0 0)).plus g) ≡ set l s (note f g)
  both_stored g =
      ap (λ (p : Note). set (plus_set l s f) s (note p.plus g))
      (get_or-set_same l s (note f (get_or l s blank).minus) blank (omega (arith, w.long)))
      ∙ set-set l s (note f (get_or l s blank).minus) (note f g)

-- ---- the vectors that are left
pub record BothBlocked (h : Place) (l : List Note) (s : ℕ) : Type 0 where
  pub each : (x : Sign) → Blocked h l s x

pub record Singling (h : Place) (f : ℕ) (l : List Note) (w : ℕ) : Type 0 where
  pub noted : Noted h.search.now.basis.columns l
  pub walk : Walk (λ t. has f t ≡ true) (λ t. has f t ≡ true) (BothBlocked h l) w

module _ (h : Place) where
  fails_noted : (l : List Note) (s : ℕ) (x : Sign) (c : ℕ) → blocking_at l s x ≡ c → c < h.search.now.basis.columns
      → passing h.search.now (alone s x) h.q c ≡ false → Blocked h l s x
  fails_noted l s x c e i k = record { inside = omega arith; fails = ap (passing h.search.now (alone s x) h.q) e ∙ k }

  pub singling_starts : (w : ℕ) (l : List Note) → Noted h.search.now.basis.columns l → Singling h w l w
  singling_starts w l n = record { noted = n; walk = walk_starts w }

  pub singling_more : {f w s v : ℕ} (c d : ℕ) {l : List Note} → Singling h f l w → Taken w s v → s < max_columns
      → c < h.search.now.basis.columns → passing h.search.now (alone s Plus) h.q c ≡ false
      → d < h.search.now.basis.columns → passing h.search.now (alone s Minus) h.q d ≡ false
      → Singling h f (set l s (note c d)) v
  singling_more {f} {w} {s} {v} c d {l} g p few i j k m =
      record {
        noted = noted_set _ l s c d few i k g.noted;
        walk = walk_on g.walk p (λ t q. go t q (eqb t s) refl) (λ _. both);
      }
    where
      last : List Note
      last = set l s (note c d)

      here : get_or last s blank ≡ note c d
      here = get_or-set_same l s (note c d) blank (omega (arith, g.noted.long))

      both : BothBlocked h last s
      both = record {
        each = two_signs (Blocked h last s)
            (fails_noted last s Plus c (ap (λ (n : Note). n.plus) here) i j) (fails_noted last s Minus d (ap (λ (n : Note). n.minus) here) k m);
      }

      go : (t : ℕ) → BothBlocked h l t → (o : Bool) → eqb t s ≡ o → BothBlocked h last t
      go t q true o = subst (BothBlocked h last) (sym (eqb-true t s o)) both
      go t q false o = record {
        each = λ x. fails_noted last t x (blocking_at l t x)
            (ap (λ (n : Note). noted n x) (get_or-set_other l s t (note c d) blank (eqb-false t s o))) (q.each x).inside (q.each x).fails;
      }

-- ---- what they are
module _ (h : Place) {f : ℕ} (n : Unseen h.search.now f h.at) where
  still : (s : ℕ) (x : Sign) → has f s ≡ true → Still h.search.now (alone s x) h.at
  still s x e = zero_still h.search.now (alone s x) h.at (n.zero_before s e) (n.zero_before s e)

  pub single_failed : (s : ℕ) (x : Sign) (c r : ℕ) → has f s ≡ true → c < h.search.now.basis.columns → passing h.search.now (alone s x) h.q c ≡ false
      → Dominated h.search.now r (alone s x)
  single_failed s x c r e k q =
      fails_dominated h.search.now (alone s x) h.at r c h.here.inside (still s x e) k
      (ap (λ (p : Measure). passing h.search.now (alone s x) p c) (here_measure h) ∙ q)

  blocked_dominated : (l : List Note) (s : ℕ) (x : Sign) (r : ℕ) → has f s ≡ true → BothBlocked h l s → Dominated h.search.now r (alone s x)
  blocked_dominated l s x r e q = single_failed s x (blocking_at l s x) r e (q.each x).inside (q.each x).fails

  pub singling_ends : {l : List Note} {w : ℕ} → w ≡ 0 → Singling h f l w → Tried h f l
  singling_ends {l} e g =
      record {
        long = g.noted.long;
        decided = λ z s k x. blocked_dominated l s x z k (done s k);
        blocked = λ s k. (done s k).each;
      }
    where
      done : (s : ℕ) → has f s ≡ true → BothBlocked h l s
      done = walk_end g.walk e

  -- ---- the vector that is met
  module _ {l : List Note} {w s v : ℕ} (g : Singling h f l w) (p : Taken w s v) where
    pub single_in : s < h.search.now.basis.vectors
    single_in = n.inside s (walk_first g.walk p)

    pub single_few : s < max_columns
    single_few = omega (arith, single_in, h.search.now.ready.few_vectors)

    pub single_numbered : (x : Sign) (o : Move) → o ≡ alone s x → (h.at ≤ max_columns) × (o.s < max_columns) × (o.t < max_columns)
    single_numbered x o e =
        rw e (omega (arith, h.here.inside, h.search.now.ranked.few), single_few, single_few)

  -- ---- the first one improves with the sign x, and fails with the one before
  module _
      (touch : (s : ℕ) → has f s ≡ true → touches (basis_of h.search.now) s h.column ≡ true)
      {l : List Note} {w s v : ℕ} (x : Sign) (g : Singling h f l w) (p : Taken w s v)
    where
      in_set : has f s ≡ true
      in_set = walk_first g.walk p

      improving : every h.search.now.basis.columns (passing h.search.now (alone s x) h.q) ≡ true → Incumbent h.search.now (number_at h.at (alone s x))
      unfolding improves
      improving a = inr record {
        place = h.at;
        move = alone s x;
        inside = h.here.inside;
        listed = alone_listed h.search.now.basis.vectors s x (n.inside s in_set);
        good = ap₂ ◌&&◌
            (ap (changes (basis_of h.search.now) (alone s x)) (sym h.here.column)
            ∙ alone_changes (basis_of h.search.now) s x h.column (touch s in_set))
            (ap (λ (q : Measure). every h.search.now.basis.columns (passing h.search.now (alone s x) q)) (here_measure h) ∙ a);
        is = refl;
      }

      pub singling_found :
          (x ≡ Minus → (r : ℕ) → Dominated h.search.now r (alone s Plus))
          → every h.search.now.basis.columns (passing h.search.now (alone s x) h.q) ≡ true
          → Found h f (number_at h.at (alone s x))
      singling_found before a =
          record {
            early = omega (arith, number_single s (value x) (single_few g p));
            late = omega arith;
            incumbent = improving a;
            decided = λ t o j. ⊎_elim (λ d. left t o j (taken_least p t d)) (blocked_dominated l t j r o) (g.walk.left t o);
          }
        where
          r : ℕ
          r = number_at h.at (alone s x)

          later : (t : ℕ) → has f t ≡ true → (j : Sign) → 2 * s + digit x ≤ 2 * t + digit j → Dominated h.search.now r (alone t j)
          later t o j d =
              still_dominated h.search.now (alone t j) h.at r (still t j o) (omega (arith, alone_number h.at s x, alone_number h.at t j))

          small : (j : Sign) → digit j ≤ 1
          small = two_signs (λ j. digit j ≤ 1) (omega arith) (omega arith)

          same : (t : ℕ) → has f t ≡ true → (j : Sign) → s ≡ t → Dominated h.search.now r (alone t j)
          same t o Plus d = by x refl
            where
              by : (y : Sign) → x ≡ y → Dominated h.search.now r (alone t Plus)
              by Plus e = later t o Plus (omega (arith, ap digit e))
              by Minus e = subst (λ (t : ℕ). Dominated h.search.now r (alone t Plus)) d (before e r)
          same t o Minus d = later t o Minus (omega (arith, small x))

          left : (t : ℕ) → has f t ≡ true → (j : Sign) → s ≤ t → Dominated h.search.now r (alone t j)
          left t o j d = ⊎_elim (same t o j) (λ c. later t o j (omega (arith, small x))) (eq-or-lt_of_le d)
