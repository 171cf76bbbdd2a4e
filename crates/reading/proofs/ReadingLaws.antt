-- A significand with a sign and an exponent put on, as a float: exact, a normal number, and what rounds to it with exponents unbounded is rounded to it. Of a reading's product it is said in `Demand2.antt`, of its quotient in `QuotientTells.antt`. Assumes nothing.
use Rattle.std.specs.Prelude.{◌≡◌, Bool, false, ℕ, suc, ◌-◌, ◌*◌, ◌^◌, ◌≤◌, ◌<◌, ℤ, pos, ◌+ℤ◌, Float}
use Rattle.std.proofs.Common.{sym, subst, mul-pos, arith, pow_pos}
use Rattle.std.specs.Float.Ieee
use Rattle.std.specs.Float.{Format}
use Rattle.std.specs.Float.Ieee.{prec, emax, low, hid, ones, up, down, to_bits}
use Rattle.std.specs.Float.Ieee.Exact.{HasValue}
use Rattle.std.specs.Float.Ieee.Fits.{down_pos, round-fits}
use Rattle.std.specs.Float.Ieee.Scale.{round_same}
use Rattle.rounding.specs.Round.{HasBits}
use Rattle.rounding.specs.Fraction.{Fraction}
use Rattle.rounding.proofs.Ieee.{revalue, value_unique}
use Rattle.floats.specs.Fields.{Normal, float_of, Normalized}
use Rattle.floats.proofs.Powers.{in_smallest}
use Rattle.floats.proofs.Pattern.{float_value, float_normal, normalized}
use Rattle.floats.proofs.NormalLaws.{RoundsAt, number_some, rounds_normal}
use Rattle.reading.specs.Reading.{exponent_out, number_of}
use Rattle.reading.proofs.Exponents.{let_through, from_least}

-- ---- a significand S with a sign and an exponent of the format's normal numbers, p being the biased exponent
module _ (f : Format) (s : Bool) (S : ℕ) (e : ℤ) (bits : HasBits (prec f) S) (p : ℕ) (at : e +ℤ pos (emax f) ≡ pos p) (lo : 1 ≤ p) (hi : p ≤ 2 * emax f) where
  abbrev a : ℕ
  a = S * up e

  abbrev c : ℕ
  c = hid f * down e

  abbrev j : ℕ
  j = p - 1

  in_units : a * 2 ^ low f ≡ S * 2 ^ j * c
  in_units = in_smallest f S e j (from_least f e p at lo)

  pub number_normalized : Normalized f j S
  number_normalized = let free : suc j < ones f = omega arith in normalized f j S bits free

  -- what the code puts together
  pub number_is : float_of f s j S ≡ number_of f s S e
  unfolding number_of
  number_is = round_same f s (S * 2 ^ j) (2 ^ low f) a c (pow_pos (low f)) (mul-pos (pow_pos (prec f - 1)) (down_pos e)) (sym in_units)

  -- its value is exact
  pub number_value : HasValue (number_of f s S e) s a c
  number_value = subst (λ (y : Float). HasValue y s a c) number_is (revalue (float_of f s j S) s (S * 2 ^ j) (2 ^ low f) a c (pow_pos (low f)) (sym in_units) (float_value f s j S number_normalized))

  -- and it is a normal number
  pub number_normal : Normal f (to_bits f (number_of f s S e))
  number_normal = subst (λ (y : Float). Normal f (to_bits f y)) number_is (float_normal f s j S number_normalized)

-- ---- a fraction that rounds to such a number, exponents unbounded, is rounded to it
pub number_rounds : (f : Format) (s : Bool) (q : Fraction) → 0 < q.num → 0 < q.den → (S : ℕ) (e : ℤ) → HasBits (prec f) S → exponent_out f e ≡ false → RoundsAt f q S e → Ieee.round f s q.num q.den ≡ number_of f s S e
unfolding number_of
number_rounds f s q N D S e bits in_e is =
    let t = let_through f e in_e in
    value_unique f (Ieee.round f s q.num q.den) (number_of f s S e) s (S * up e) (hid f * down e) (number_some f e) (round-fits f s q.num q.den) (round-fits f s (S * up e) (hid f * down e))
    (rounds_normal f s q N D S e (t.0 - 1) bits (from_least f e t.0 t.1 t.2) (omega (arith, t.3)) is)
    (number_value f s S e bits t.0 t.1 t.2 t.3)
