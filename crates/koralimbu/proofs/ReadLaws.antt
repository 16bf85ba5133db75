-- What the proofs of the reader's call share.
--   is_read     what is returned and left after the reader, with the sizes of what it returns
--   is_unread   what is returned and left where the sizes have a wrong length and nothing was done
-- Assumes nothing.
use Rattle.std.proofs.Common.{◌≡◌, List, ℕ, length, ap, ◌∙◌}
use borrow.Author.Tests.{eq-eqb, ne_eqb}
use Rattle.problem.specs.Answers.{refusal_number}
use Rattle.problem.specs.declared.Refusal.TheVariants.{Length}
use Rattle.deck.specs.Reader.{DeckBuffers, Reading, read_done, read}
use Rattle.koralimbu.specs.Reads.{sizes_length, read_returned, read_told, read_called}

module _ (s : List ℕ) (B : DeckBuffers) (z : List ℕ) where
  pub is_read : (x : Reading) (n : ℕ) (C : DeckBuffers) (p : List ℕ) → length z ≡ sizes_length → read_done x C ≡ read s B
      → read_returned n C p ≡ read_told (read_done x C) → read_returned n C p ≡ read_called s B z
  unfolding read_called
  is_read x n C p l e t = t ∙ ap read_told e ∙ rw (eq-eqb (length z) sizes_length l)

  pub is_unread : (n : ℕ) → (length z ≡ sizes_length → ⊥) → n ≡ refusal_number Length → read_returned n B z ≡ read_called s B z
  unfolding read_called
  is_unread n l e = rw (e, ne_eqb (length z) sizes_length l)
