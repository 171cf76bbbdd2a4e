-- The unit in the last place of a fraction to n bits, as source documents 000 and 003 have it: ulp(v) = 2 ^ (e - n + 1) where 2 ^ e ≤ v < 2 ^ (e + 1). Definitions only. Assumes nothing.
use Rattle.std.specs.Prelude.{ℕ, ◌+◌, ◌-◌, ◌*◌, ◌^◌, ℤ, pos, ◌-ℤ◌}
use Rattle.std.specs.Float.Ieee.{size, minus}
use Rattle.std.specs.Float.Ieee.Order.{drop}
use Rattle.rounding.specs.Fraction.{Fraction, over, power, times, distance, Below, AtMost}

-- 2 ^ e ≤ v < 2 ^ (e + 1), of the size of v
pub record InBinade (e : ℤ) (v : Fraction) : Type 0 where
  pub from : AtMost (power e) v
  pub to : Below v (times (over 2 0) (power e))

-- The e with 2 ^ e ≤ v < 2 ^ (e + 1), of a positive v: in the unit 2 ^ - t, in which v is at least 1, e + t digits follow its leading one.
unfoldable pub binade_of : Fraction → ℤ
binade_of v = let t = 1 + size v.den in minus (drop 1 (v.num * 2 ^ t) v.den) t

-- ulp(v) = 2 ^ (e - n + 1) for that e, with n > 0; of a negative v it is that of its size, as the sign is not looked at
unfoldable pub ulp : (n : ℕ) → Fraction → Fraction
unfolding binade_of
ulp n v = power (binade_of v -ℤ pos (n - 1))

-- y is less than 3/2 units in the last place of v from v
abbrev pub WithinThreeHalves : (n : ℕ) → (y v : Fraction) → Type 0
WithinThreeHalves n y v = Below (distance y v) (times (over 3 1) (ulp n v))
