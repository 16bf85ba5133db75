-- Cases of the section of volumes that the checker computes, of a text with four intervals and one row.
--   forty_eight, many   48 or the largest number in front of a text, as `digit` and `minus_one` put one digit or −1 there
--   reads s             what the section s gives
--   rows_of vs          the coefficients of the rows that the volumes vs add
--   VolumeCases         the cases, one to a field; volume-cases, they hold
-- Assumes nothing.
use mathlib.Core.Path.{◌≡◌, refl}
use mathlib.Core.List.{List, [], ◌∷◌}
use Prim.Native.Nat.{ℕ}
use lib.IntN.{ℤ, pos, negsuc}
use Rattle.text.specs.Tokens.{all_digits, value}
use Rattle.text.specs.Positions.{stretch}
use Rattle.problem.specs.declared.Refusal.TheVariants.{Size, Layout, Volume as WrongVolume}
use Rattle.std.proofs.Common.{Ok, Err}
use Rattle.sections.specs.Rules.{Outcome}
use Rattle.sections.specs.StatedColumns.{placed, coefficient_rows}
use Rattle.sections.proofs.Cases.{digit, minus_one}
use Rattle.volumes.specs.Volumes.{Volume, is_on, indices, paths, volumes, volume_section}
use Rattle.volumes.specs.PathLines.{without, terms_of, swept_lines}

abbrev forty_eight : List ℕ → List ℕ
forty_eight s = 52 ∷ digit 8 s

abbrev many : List ℕ → List ℕ
many s = 57 ∷ 57 ∷ 57 ∷ 57 ∷ 57 ∷ 57 ∷ 57 ∷ 57 ∷ 57 ∷ digit 9 s

abbrev reads : List ℕ → Outcome (List Volume)
reads s = volume_section s 4 1 0

abbrev rows_of : List Volume → List (List ℤ)
rows_of vs = coefficient_rows 4 4 (swept_lines vs)

-- the paths 1, 3, 2 and 4, 3, indices "in any order"
abbrev shared : List Volume
shared = ((1 ∷ 3 ∷ 2 ∷ []) ∷ (4 ∷ 3 ∷ []) ∷ []) ∷ []

-- a volume of three paths with the first twice, and a volume of one path
abbrev alike : List Volume
alike = ((1 ∷ []) ∷ (3 ∷ []) ∷ (1 ∷ []) ∷ []) ∷ ((4 ∷ []) ∷ []) ∷ []

pub record VolumeCases : Type 0 where
  -- "Older texts gain a closing 0."
  closing : reads (digit 0 []) ≡ Ok ([], 1)
  missing : reads [] ≡ Err Layout
  -- "Path 1 less path k equals 0 .. An interval on both paths cancels and leaves no term."
  two_paths : reads (digit 1 (digit 2 (digit 3 (digit 1 (digit 3 (digit 2 (digit 2 (digit 4 (digit 3 []))))))))) ≡ Ok (shared, 17)
  their_row : rows_of shared ≡ (pos 1 ∷ pos 1 ∷ pos 0 ∷ negsuc 0 ∷ []) ∷ []
  -- "for each later path", "in text order": equal paths make a row of zeros, one path makes none
  three_paths : reads (digit 2 (digit 3 (digit 1 (digit 1 (digit 1 (digit 3 (digit 1 (digit 1 (digit 1 (digit 1 (digit 4 [])))))))))))
      ≡ Ok (alike, 21)
  two_rows : rows_of alike ≡ (pos 1 ∷ pos 0 ∷ negsuc 0 ∷ pos 0 ∷ []) ∷ (pos 0 ∷ pos 0 ∷ pos 0 ∷ pos 0 ∷ []) ∷ []
  -- 13
  negative : reads (minus_one []) ≡ Err WrongVolume
  no_path : reads (digit 1 (digit 0 [])) ≡ Err WrongVolume
  no_interval : reads (digit 1 (digit 2 (digit 0 []))) ≡ Err WrongVolume
  index_below : reads (digit 1 (digit 2 (digit 1 (digit 0 [])))) ≡ Err WrongVolume
  index_above : reads (digit 1 (digit 2 (digit 1 (digit 5 [])))) ≡ Err WrongVolume
  index_twice : reads (digit 1 (digit 2 (digit 3 (digit 1 (digit 2 (digit 1 [])))))) ≡ Err WrongVolume
  -- an index may come again on another path
  index_again : reads (digit 1 (digit 2 (digit 1 (digit 1 (digit 1 (digit 1 [])))))) ≡ Ok (((1 ∷ []) ∷ (1 ∷ []) ∷ []) ∷ [], 11)
  -- "a count of paths that makes a 49th row is 1", before a path is read: with one row there, 48 paths make 48 rows, with two 49
  row_48 : reads (digit 1 (forty_eight (digit 0 []))) ≡ Err WrongVolume
  row_49 : volume_section (digit 1 (forty_eight (digit 0 []))) 4 2 0 ≡ Err Size
  -- the rows of volumes before count too
  row_later : reads (digit 2 (digit 2 (digit 1 (digit 1 (digit 1 (digit 2 (forty_eight []))))))) ≡ Err Size
  -- a count that is only too large: the text ends
  many_volumes : reads (many []) ≡ Err Layout
  many_intervals : reads (digit 1 (digit 1 (many (digit 1 [])))) ≡ Err Layout

pub volume_cases : VolumeCases
unfolding all_digits value stretch placed coefficient_rows is_on indices paths volumes without terms_of swept_lines
volume_cases = record {
  closing = refl;
  missing = refl;
  two_paths = refl;
  their_row = refl;
  three_paths = refl;
  two_rows = refl;
  negative = refl;
  no_path = refl;
  no_interval = refl;
  index_below = refl;
  index_above = refl;
  index_twice = refl;
  index_again = refl;
  row_48 = refl;
  row_49 = refl;
  row_later = refl;
  many_volumes = refl;
  many_intervals = refl;
}
