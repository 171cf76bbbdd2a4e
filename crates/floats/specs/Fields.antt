-- A format's floats by their bit patterns: sign, biased exponent and trailing significand, the classes that they tell, and the float of a sign, an exponent and a significand. Definitions only. Assumes nothing.
use Rattle.std.specs.Prelude.{Bool, true, false, not, ◌&&◌, cond, ℕ, suc, ◌+◌, ◌-◌, ◌*◌, ◌/◌, ◌%◌, ◌^◌, ◌≤◌, ◌<◌, eqb, leb, ℤ, pos, Float}
use Rattle.std.specs.Float.Ieee
use Rattle.std.specs.Float.{nan, inf, fin, Format}
use Rattle.std.specs.Float.Ieee.{prec, emax, low, hid, ones, top, minus, to_bits}

-- ---- the fields of a pattern b: the sign, the biased exponent, and the trailing significand, which is the digits below the leading one
abbrev pub sign_of : Format → ℕ → Bool
sign_of f b = leb (top f) b

abbrev pub biased_exponent : Format → ℕ → ℕ
biased_exponent f b = b % top f / hid f

abbrev pub trailing_significand : Format → ℕ → ℕ
trailing_significand f b = b % hid f

-- the pattern of a sign above the other bits
abbrev pub sign_above : Format → Bool → ℕ → ℕ
sign_above f true b = top f + b
sign_above f false b = b

-- zero with a sign
abbrev pub zero_of : Bool → Float
zero_of s = fin s 0 (pos 0)

-- whether a float has a minus, as IEEE 754-2019 has it, zeros and infinities included; the one NaN has no sign
abbrev pub is_sign_minus : Float → Bool
is_sign_minus nan = false
is_sign_minus (inf s) = s
is_sign_minus (fin s m e) = s

-- floats are compared bit for bit
abbrev pub same_float : Format → Float → Float → Bool
same_float f x y = eqb (to_bits f x) (to_bits f y)

-- ---- the classes
-- infinite or NaN
abbrev pub infinite_or_na_n : Format → ℕ → Bool
infinite_or_na_n f b = eqb (biased_exponent f b) (ones f)

-- zero, of either sign
abbrev pub zero_bits : Format → ℕ → Bool
zero_bits f b = eqb (biased_exponent f b) 0 && eqb (trailing_significand f b) 0

-- subnormal, zero not being one
abbrev pub subnormal : Format → ℕ → Bool
subnormal f b = eqb (biased_exponent f b) 0 && not (eqb (trailing_significand f b) 0)

-- normal: none of these
pub record Normal (f : Format) (b : ℕ) : Type 0 where
  pub from : 1 ≤ biased_exponent f b
  pub to : biased_exponent f b < ones f

-- a normal number is significand / hid * 2 ^ exponent, with the sign: the significand is that of x in [1, 2)
abbrev pub significand_of : Format → ℕ → ℕ
significand_of f b = hid f + trailing_significand f b

abbrev pub exponent_of : Format → ℕ → ℤ
exponent_of f b = minus (biased_exponent f b) (emax f)

-- ---- the float of a sign, an exponent k and a significand m: m * 2 ^ k times the format's smallest positive value
abbrev pub float_of : Format → Bool → (k m : ℕ) → Float
float_of f s k m = Ieee.round f s (m * 2 ^ k) (2 ^ low f)

-- m has all digits of the format, or is the power of two above them, and the biased exponent of infinities is not reached
pub record Normalized (f : Format) (k m : ℕ) : Type 0 where
  pub least : hid f ≤ m
  pub most : m ≤ 2 ^ prec f
  pub few : k * hid f + m < ones f * hid f

-- ---- m / 2 ^ q as a float, m having n digits or being 2 ^ n, which are no more than the format has
pub record Narrow (f : Format) (n m q : ℕ) : Type 0 where
  pub some : 0 < n
  pub short : n ≤ prec f
  pub least : 2 ^ (n - 1) ≤ m
  pub most : m ≤ 2 ^ n
  pub deep : n ≤ suc q
  pub shallow : q ≤ emax f + n - 2

-- ---- the size in units of 2 ^ d times the smallest positive value: of zero, or of a number that is whole in them (`units_value`)
abbrev pub units_of : Format → (d b : ℕ) → ℕ
units_of f d b = cond (eqb (b % top f) 0) 0 (significand_of f b * 2 ^ (biased_exponent f b - suc d))

-- a product of l / 2 ^ E and X / hid is whole in the unit 2 ^ - (E + prec - 1): that is 2 ^ unit_at times the smallest positive value
abbrev pub unit_at : Format → (E : ℕ) → ℕ
unit_at f E = emax f - 1 - E

-- what code asks to count it: it is finite, by its exponent whole in the unit, or zero, and its size below 2 ^ w
pub record WholeInUnits (f : Format) (w d b : ℕ) : Type 0 where
  pub finite : biased_exponent f b < ones f
  pub from : 0 < b % top f → suc d ≤ biased_exponent f b
  pub to : biased_exponent f b + prec f ≤ suc (w + d)
