-- Signed whole numbers by sign and size, and RN of them. Definitions only. Assumes nothing.
use Rattle.std.specs.Prelude.{Bool, true, false, ℕ, ℤ, pos, negsuc, neg_ℤ, nat_abs}
use Rattle.rounding.specs.declared.Rounded.{Rounded}
use Rattle.rounding.specs.Direction.{signed_direction}
use Rattle.rounding.specs.Grid.{Rule}
use Rattle.rounding.specs.Round.{rounded}

-- whether a whole number is below zero
abbrev pub negative : ℤ → Bool
negative (pos m) = false
negative (negsuc m) = true

-- m with a sign
abbrev pub signed_of : Bool → ℕ → ℤ
signed_of true m = neg_ℤ (pos m)
signed_of false m = pos m

-- a rounded size with a sign, by which a negative number's direction is mirrored
abbrev pub with_sign : Bool → Rounded ℕ → Rounded ℤ
with_sign s r = record { significand = signed_of s r.significand; exponent = r.exponent; direction = signed_direction s r.direction }

-- RN of a whole number: the size is rounded, the sign stays
unfoldable pub rounded_signed : Rule → (n : ℕ) → ℤ → Rounded ℤ
unfolding rounded
rounded_signed rule n z = with_sign (negative z) (rounded rule n (nat_abs z) 1)
