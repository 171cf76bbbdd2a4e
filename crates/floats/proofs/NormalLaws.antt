-- Laws: a fraction that rounds, with exponents unbounded, to a normal number of a format is rounded to it by the format; and what it rounds to goes along with powers of two. Assumes nothing.
use Rattle.std.specs.Prelude.{◌≡◌, Bool, false, ℕ, ◌-◌, ◌*◌, ◌^◌, ◌≤◌, ◌<◌, ℤ, pos, ◌+ℤ◌}
use Rattle.std.proofs.Common.{sym, ap, mul-pos, arith, pow_pos}
use Rattle.std.proofs.Math.Nat.{eq_of_mul-eq-mul_right}
use Rattle.std.specs.Float.Ieee
use Rattle.std.specs.Float.{Format}
use Rattle.std.specs.Float.Ieee.{prec, emax, low, hid, up, down}
use Rattle.std.specs.Float.Ieee.Exact.{HasValue}
use Rattle.std.specs.Float.Ieee.Fits.{down_pos}
use Rattle.rounding.specs.Grid.{to_even}
use Rattle.rounding.specs.Round.{HasBits}
use Rattle.rounding.specs.Fraction.{Fraction, RN}
use Rattle.rounding.proofs.FractionLaws.{RN_some, Scaled, RN_scaled, same_scaled}
use Rattle.rounding.proofs.Ieee.{revalue, rounded_is_ieee}
use Rattle.floats.proofs.Powers.{powers_add, in_smallest}
use Rattle.floats.proofs.Pattern.{digits_some}

-- S / hid * 2 ^ z
abbrev pub number_at : Format → (S : ℕ) → ℤ → Fraction
number_at f S z = record { minus = false; num = S * up z; den = hid f * down z }

-- RN of x to the format's precision, ties to even and exponents unbounded, is S / hid * 2 ^ z in size
abbrev pub RoundsAt : Format → Fraction → (S : ℕ) → ℤ → Type 0
RoundsAt f x S z = let r = RN to_even (prec f) x in r.num * (hid f * down z) ≡ S * up z * r.den

module _ (f : Format) where
  pub number_some : (z : ℤ) → 0 < hid f * down z
  number_some z = mul-pos (pow_pos (prec f - 1)) (down_pos z)

  -- 2 ^ w times as much rounds to 2 ^ w times as much
  pub rounds_along : (x y : Fraction) → 0 < x.num → 0 < x.den → 0 < y.den → (w z : ℤ) → Scaled w x y → (S : ℕ) → RoundsAt f x S z → RoundsAt f y S (w +ℤ z)
  rounds_along x y X D Y w z along S is =
      same_scaled w (RN to_even (prec f) x) (number_at f S z) (RN to_even (prec f) y) (number_at f S (w +ℤ z)) (RN_some to_even (prec f) x) (number_some z)
      (RN_scaled to_even (prec f) (digits_some f) x y X D Y w along) (omega (arith, ap (λ (t : ℕ). t * (S * hid f)) (powers_add w z))) is

  -- a number of the format's digits at an exponent of its normal numbers, j above the least, is what the format rounds to
  pub rounds_normal : (s : Bool) (x : Fraction) → 0 < x.num → 0 < x.den → (S : ℕ) (z : ℤ) (j : ℕ) → HasBits (prec f) S → z +ℤ pos (emax f - 1) ≡ pos j → j ≤ 2 * emax f - 1 → RoundsAt f x S z
      → HasValue (Ieee.round f s x.num x.den) s (S * up z) (hid f * down z)
  rounds_normal s x X D S z j bits at few is =
      let r = RN to_even (prec f) x in
      let unit = in_smallest f S z j at in
      revalue (Ieee.round f s x.num x.den) s (S * 2 ^ j) (2 ^ low f) (S * up z) (hid f * down z) (pow_pos (low f)) (sym unit)
      (rounded_is_ieee f s x.num x.den S j X D bits few
      (eq_of_mul-eq-mul_right (hid f * down z) (number_some z) (r.num * 2 ^ low f) (S * 2 ^ j * r.den) (omega (arith, ap (λ (t : ℕ). t * 2 ^ low f) is, ap (λ (t : ℕ). t * r.den) unit))))
