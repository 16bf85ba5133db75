-- The pairs of one vector at a place.
--   two_signs            what holds for both signs
--   WithDominated s x z t   the pairs of vector s with mark x and of vector t are no better than z
--   Other h s t      vector t is not s and not seen before this place; `other_of` those of a set of such vectors
--   paired_with          a pair with it may be tried
--   with_both            both its pairs have been tried
--   with_less            they stay no better as the incumbent sinks
--   partners_others      the vectors of a set that change the column noted are others too
--   partners_all         with the rest of the set no pair is better
-- Assumes nothing.
use mathlib.Core.Path.{◌≡◌, refl, sym, ◌∙◌, ap, ap₂, subst}
use mathlib.Core.Bool.{Bool, true, false, ◌&&◌, true≢false}
use mathlib.Core.List.{List}
use Prim.Native.Nat.{ℕ, ◌<◌}
use lib.ListN.{get_or}
use Rattle.whole.proofs.Tests.{both_true}
use Rattle.settling.specs.declared.Move.{Move}
use Rattle.search.specs.declared.given.Search.{Search}
use Rattle.search.specs.declared.seen.Lead.{Lead}
use Rattle.search.specs.declared.seen.Note.{Note}
use Rattle.search.specs.declared.seen.Place.{Place}
use Rattle.search.specs.declared.seen.Sign.{Sign}
use Rattle.search.specs.declared.seen.Sign.TheVariants.{Plus, Minus}
use Rattle.search.specs.Notes.{blocking_at}
use Rattle.search.specs.Progress.{ZeroBefore, Dominated, NoWorse, Led, Others, Paired, both}
use Rattle.search.specs.Searches.{basis_of}
use Rattle.search.specs.Sets.{has, touches}
use Rattle.search.proofs.Indexing.{in_holder}
use Rattle.search.proofs.Pairing.{no_worse_dominated, pruned}

pub two_signs : (P : Sign → Type 0) → P Plus → P Minus → (y : Sign) → P y
two_signs P f g Plus = f
two_signs P f g Minus = g

-- ---- with one vector
pub record WithDominated (S : Search) (s : ℕ) (x : Sign) (z t : ℕ) : Type 0 where
  pub each : (y : Sign) → Dominated S z (both s x t y)

pub record Other (h : Place) (s t : ℕ) : Type 0 where
  pub inside : t < h.search.now.basis.vectors
  pub zero_before : ZeroBefore h.search.now t h.at
  pub apart : t ≡ s → ⊥

pub other_of : {h : Place} {s w : ℕ} → Others h s w → (t : ℕ) → has w t ≡ true → Other h s t
other_of {w = w} o t e = record {
  inside = o.unseen.inside t e;
  zero_before = o.unseen.zero_before t e;
  apart = λ d. true≢false (sym e ∙ ap (has w) d ∙ o.apart);
}

pub paired_with : {h : Place} (s : ℕ) (x : Sign) (t : ℕ) (y : Sign) (o : Move) → o ≡ both s x t y → s < h.search.now.basis.vectors
    → ZeroBefore h.search.now s h.at → Other h s t → Paired h o
paired_with s x t y o e i f r = record {
  s = s;
  x = x;
  t = t;
  y = y;
  is = e;
  s_inside = i;
  t_inside = r.inside;
  apart = r.apart;
  s_zero = f;
  t_zero = r.zero_before;
}

module _ {S : Search} (s : ℕ) (x : Sign) where
  pub with_both : (t y r : ℕ) (o u : Move) → o ≡ both s x t Plus → u ≡ both s x t Minus → Dominated S y o → NoWorse S y r
      → Dominated S r u → WithDominated S s x r t
  with_both t y r o u d e p k q = record {
    each = two_signs (λ m. Dominated S r (both s x t m))
        (subst (Dominated S r) d (no_worse_dominated k o p)) (subst (Dominated S r) e q);
  }

  pub with_less : (t z y : ℕ) → NoWorse S z y → WithDominated S s x z t → WithDominated S s x y t
  with_less t z y k f = record { each = λ m. no_worse_dominated k (both s x t m) (f.each m) }

-- ---- the vectors of a set, of which w has those that change the column noted
module _
    {h : Place} {notes : List Note} {lead : Lead} {left : ℕ} (w : ℕ) (led : Led h notes lead) (others : Others h lead.s left)
    (meets : (t : ℕ) → has w t ≡ has (get_or h.search.now.holders.now (blocking_at notes lead.s lead.sign) 0) t && has left t)
  where
    abbrev c : ℕ
    c = blocking_at notes lead.s lead.sign

    abbrev H : List ℕ
    H = h.search.now.holders.now

    among : (t : ℕ) → has w t ≡ true → has left t ≡ true
    among t e = (both_true (has (get_or H c 0) t) (has left t) (sym (meets t) ∙ e)).1

    pub partners_others : Others h lead.s w
    partners_others = record {
      unseen = record {
        inside = λ t e. others.unseen.inside t (among t e);
        zero_before = λ t e. others.unseen.zero_before t (among t e);
      };
      apart = meets lead.s ∙ none (has (get_or H c 0) lead.s) (has left lead.s) others.apart;
    }
      where
        none : (p q : Bool) → q ≡ false → p && q ≡ false
        none true q e = e
        none false q e = refl

    pub partners_all : (z : ℕ) → ((t : ℕ) → has w t ≡ true → (y : Sign) → Dominated h.search.now z (both lead.s lead.sign t y))
        → (t : ℕ) → has left t ≡ true → (y : Sign) → Dominated h.search.now z (both lead.s lead.sign t y)
    partners_all z f t e y = go (touches (basis_of h.search.now) t c) refl
      where
        inside : touches (basis_of h.search.now) t c ≡ true → has w t ≡ true
        inside k = meets t ∙ ap₂ ◌&&◌ (in_holder h.search.now c led.blocked.inside t (others.unseen.inside t e) k) e

        go : (k : Bool) → touches (basis_of h.search.now) t c ≡ k → Dominated h.search.now z (both lead.s lead.sign t y)
        go true k = f t (inside k) y
        go false k = pruned h notes lead.s lead.sign t y z led.zero_before (others.unseen.zero_before t e) led.blocked k
