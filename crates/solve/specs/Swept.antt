-- Document 02, (iii): "A list satisfies the enlarged problem exactly when it satisfies the old one and all paths of each volume have equal sums."
--   unswept d          the deck d without its volumes: "the old one"
--   Enlarged limit d   the volumes of d add no column, and the sentence holds of the rows of the two problems
--   VolumesSatisfied   so it is for every text that is read, with whatever step limit
-- The theorem is `volumes_satisfied`, in proofs/Swept.
-- Assumes nothing.
use Rattle.std.specs.Prelude.{◌≡◌, ◌↔◌, List, [], ℕ, ℤ, Ok}
use Rattle.engine.specs.Demand.{SatisfiesRows}
use Rattle.volumes.specs.Sweeping.{Sweeps}
use Rattle.deck.specs.Posing.{Deck, read_deck, columns_of, posed}

abbrev pub unswept : Deck → Deck
unswept d = record { intervals = d.intervals; lines = d.lines; volumes = [] }

pub record Enlarged (limit : ℕ) (d : Deck) : Type 0 where
  -- with the same bounds and goals
  pub columns : columns_of d ≡ columns_of (unswept d)
  pub rows : (x : List ℤ) → SatisfiesRows (posed limit d) x ↔ (SatisfiesRows (posed limit (unswept d)) x × Sweeps x d.volumes)

abbrev pub VolumesSatisfied : Type 0
VolumesSatisfied = (s : List ℕ) (d : Deck) (at limit : ℕ) → read_deck s ≡ Ok (d, at) → Enlarged limit d
