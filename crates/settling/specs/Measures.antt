-- Document 01, "Moves and settling": how far a column is from what is wanted of it.
--   Measure              a fraction of natural numbers (declared in src/)
--   fraction a b         the measure a/b
--   below p q            p is the smaller one, "compared exactly by cross products"; larger p q, the other one
--   Cell                 a column's bounds and goals, and its value (declared in src/)
--   distance c           "how far it lies outside its bounds"
--   ratio low high v     document 02, (v): "The ratio is the larger of 1000v/low and high/1000v."
--   Part                 the bounds part and the goals part (declared in src/)
--   measure part c       the distance in the bounds part, the ratio in the goals part
-- Assumes nothing.
use Rattle.std.specs.Prelude.{Bool, cond, ℕ, ◌*◌, ltb, nat_abs, ◌-ℤ◌}
use Rattle.std.specs.Int.Signed.{lt_z}
use Rattle.settling.specs.declared.Cell.{Cell}
use Rattle.settling.specs.declared.Measure.{Measure}
use Rattle.settling.specs.declared.Part.{Part}
use Rattle.settling.specs.declared.Part.TheVariants.{Bounds, Goals}

abbrev pub fraction : ℕ → ℕ → Measure
fraction a b = record { top = a; bottom = b }

abbrev pub below : Measure → Measure → Bool
below p q = ltb (p.top * q.bottom) (q.top * p.bottom)

abbrev pub larger : Measure → Measure → Measure
larger p q = cond (below p q) q p

abbrev pub distance : Cell → ℕ
distance c =
    cond (lt_z c.value c.lower) (nat_abs (c.lower -ℤ c.value)) (cond (lt_z c.upper c.value) (nat_abs (c.value -ℤ c.upper)) 0)

abbrev pub ratio : ℕ → ℕ → ℕ → Measure
ratio low high v = larger (fraction (1000 * v) low) (fraction high (1000 * v))

unfoldable pub measure : Part → Cell → Measure
measure Bounds c = fraction (distance c) 1
measure Goals c = ratio (nat_abs c.low) (nat_abs c.high) (nat_abs c.value)
