-- Rounding to n significant bits in a fixed unit, where the rounded value is a whole number. Definitions only. Assumes nothing.
use Rattle.std.specs.Prelude.{ℕ, ◌*◌, ◌^◌}
use Rattle.std.specs.Float.Ieee.Order.{drop}
use Rattle.rounding.specs.Grid.{Rule, nearest}

-- N / d counted in some unit. Of its whole part n binary digits are kept and `drop n N d` are dropped (the number of digits of N / d, less n).
-- What is kept is the nearest multiple of 2 ^ drop.
unfoldable pub kept : Rule → (n N d : ℕ) → ℕ
unfolding nearest
kept rule n N d = nearest rule N (d * 2 ^ drop n N d)

-- The rounded value, in the unit. Where N / d is below 2 ^ (n - 1) units and not whole the unit is too coarse for n bits.
unfoldable pub rn : Rule → (n N d : ℕ) → ℕ
unfolding kept
rn rule n N d = kept rule n N d * 2 ^ drop n N d
