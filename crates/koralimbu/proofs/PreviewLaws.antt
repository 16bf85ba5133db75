-- What the proofs of the preview's call share.
--   small_step             what a preview shows fits the report
--   is_seen, is_unseen     what is returned and left after a preview, and where the report has a wrong length and nothing was done
-- Assumes nothing.
use Rattle.std.proofs.Common.{◌≡◌, List, ℕ, ℤ, length, Result, Ok, Some, sym, ap, ◌∙◌}
use borrow.Author.Tests.{eq-eqb, ne_eqb}
use Rattle.problem.specs.Answers.{refusal_number}
use Rattle.problem.specs.Checks.{Posed}
use Rattle.problem.specs.declared.Refusal.{Refusal}
use Rattle.problem.specs.declared.Refusal.TheVariants.{Length}
use Rattle.engine.specs.Assign.{Buffers}
use Rattle.engine.specs.Preview.{Shown, preview}
use Rattle.engine.specs.Replies.{shown_by}
use Rattle.engine.specs.declared.preview.Next.{Next}
use Rattle.engine.specs.declared.preview.Sight.{Sight}
use Rattle.engine.proofs.Previews.{preview_small}
use Rattle.koralimbu.specs.Calls.{returned}
use Rattle.koralimbu.specs.Previews.{preview_length, preview_told, preview_called, SmallStep}

module _ (P : Posed) (v : List ℤ) (B : Buffers) where
  module _ (x : Result Sight Refusal) (C : Buffers) (e : shown_by x C ≡ preview P v B) where
    seen_is : (s : Sight) (k : Next) → x ≡ Ok s → s.next ≡ Some k → (preview P v B).seen ≡ Ok (Some k)
    seen_is s k p q =
        sym (ap (λ (z : Shown). z.seen) e) ∙ ap (λ (y : Result Sight Refusal). (shown_by y C).seen) p ∙ cc

    pub small_step : SmallStep x
    small_step = record {
      column = λ s k p q. (preview_small P v B k.part k.column k.o (seen_is s k p q)).0;
      first = λ s k p q. (preview_small P v B k.part k.column k.o (seen_is s k p q)).1.s;
      second = λ s k p q. (preview_small P v B k.part k.column k.o (seen_is s k p q)).1.t;
    }

    pub is_seen : (r : List ℕ) (n : ℕ) (p : List ℕ) → length r ≡ preview_length → returned n C p ≡ preview_told (shown_by x C)
        → returned n C p ≡ preview_called P v B r
    unfolding preview_called
    is_seen r n p l t = t ∙ ap preview_told e ∙ rw (eq-eqb (length r) preview_length l)

  pub is_unseen : (r : List ℕ) (n : ℕ) → (length r ≡ preview_length → ⊥) → n ≡ refusal_number Length → returned n B r ≡ preview_called P v B r
  unfolding preview_called
  is_unseen r n l e = rw (e, ne_eqb (length r) preview_length l)
