-- What a call for C comes to by the length of the report.
--   is_told     what is returned and left after a whole assignment or a Continue, and the report of its answer
--   is_untold   what is returned and left where the report has a wrong length and nothing was done
-- Assumes nothing.
use Rattle.std.proofs.Common.{◌≡◌, List, ℕ, length, Result, ap, ◌∙◌}
use borrow.Author.Tests.{eq-eqb, ne_eqb}
use Rattle.problem.specs.Answers.{refusal_number}
use Rattle.problem.specs.Checks.{Posed}
use Rattle.problem.specs.declared.Refusal.{Refusal}
use Rattle.problem.specs.declared.Refusal.TheVariants.{Length}
use Rattle.engine.specs.Assign.{Buffers, Done}
use Rattle.engine.specs.Replies.{done_by}
use Rattle.engine.specs.declared.Assigned.{Assigned}
use Rattle.koralimbu.specs.Calls.{report_length, returned, told, called}

module _ (f : Posed → Buffers → Done) (P : Posed) (B : Buffers) (r : List ℕ) where
  pub is_told : (x : Result Assigned Refusal) (n : ℕ) (C : Buffers) (p : List ℕ) → length r ≡ report_length → done_by x C ≡ f P B
      → returned n C p ≡ told (done_by x C) → returned n C p ≡ called f P B r
  unfolding called
  is_told x n C p l e t = t ∙ ap told e ∙ rw (eq-eqb (length r) report_length l)

  pub is_untold : (n : ℕ) → (length r ≡ report_length → ⊥) → n ≡ refusal_number Length → returned n B r ≡ called f P B r
  unfolding called
  is_untold n l e = rw (e, ne_eqb (length r) report_length l)
