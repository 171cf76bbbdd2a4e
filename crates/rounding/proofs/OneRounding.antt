-- One rounding of an operation with a fraction C of which only a number h near it is at hand: the error, in units in the last place of what is exact. Assumes nothing.
use Rattle.std.proofs.Common.{ap, mul-le-mul_right, mul-pos, arith}
use Rattle.std.specs.Prelude.{false, ℕ, ◌*◌, ◌^◌, ◌≤◌, ◌<◌}
use Rattle.rounding.specs.Apart.{apart}
use Rattle.rounding.proofs.ApartLaws.{apart_mul}
use Rattle.rounding.specs.Grid.{Rule}
use Rattle.rounding.specs.Fraction.{Fraction, over, times, ratio, distance, RN, AtMost, Positive}
use Rattle.rounding.proofs.FractionLaws.{InUnits, over_in_units, times_positive, ratio_positive, distance_in_units, times_in_units, units_at_most, at_most_units}
use Rattle.rounding.specs.Ulp.{WithinThreeHalves}
use Rattle.rounding.proofs.UlpLaws.{ulp_near}

module _ (n : ℕ) (C h : Fraction) (c : Positive C) (k : Positive h) (close : AtMost (distance h C) (over 1 n)) where
  abbrev T : ℕ
  T = h.den * C.den

  -- |h - C| ≤ 2 ^ - n in whole numbers
  apart_most : apart (h.num * C.den) (C.num * h.den) * 2 ^ n ≤ T
  apart_most =
      let some = mul-pos k.some c.some in
      let a : InUnits T false (h.num * C.den) h = record { unit = some; some = k.some; sign = k.sign; count = omega arith } in
      let b : InUnits T false (C.num * h.den) C = record { unit = some; some = c.some; sign = c.sign; count = omega arith } in
      omega (arith, at_most_units T (2 ^ n) (apart (h.num * C.den) (C.num * h.den)) 1 (distance h C) (over 1 n) (distance_in_units T (h.num * C.den) (C.num * h.den) h C a b) (over_in_units 1 n) close)

  -- ---- times x, where C is at least 1
  module _ (x : Fraction) (p : Positive x) (one : AtMost (over 1 0) C) where
    -- h * x is off by at most C * x / 2 ^ n: |h * x - C * x| = x * |h - C|
    times_near : AtMost (distance (times h x) (times C x)) (times (over 1 n) (times C x))
    times_near =
        let S = T * x.den in
        let some : 0 < S = mul-pos (mul-pos k.some c.some) p.some in
        let A = h.num * C.den * x.num in
        let B = C.num * h.den * x.num in
        let a : InUnits S false A (times h x) = record { unit = some; some = mul-pos k.some p.some; sign = (times_positive h x k p).sign; count = omega arith } in
        let b : InUnits S false B (times C x) = record { unit = some; some = mul-pos c.some p.some; sign = (times_positive C x c p).sign; count = omega arith } in
        let far : apart A B * 2 ^ n ≤ T * x.num = omega (arith, mul-le-mul_right x.num apart_most, ap (λ (z : ℕ). z * 2 ^ n) (apart_mul (h.num * C.den) (C.num * h.den) x.num)) in
        units_at_most S (2 ^ n * S) (apart A B) (1 * B) (distance (times h x) (times C x)) (times (over 1 n) (times C x))
        (distance_in_units S A B (times h x) (times C x) a b) (times_in_units (2 ^ n) S 1 B false (over 1 n) (times C x) (over_in_units 1 n) b)
        (omega (arith, mul-le-mul_right S far, mul-le-mul_right (h.den * x.num * S) one))

    -- |RN(h * x) - C * x| < 3/2 ulp(C * x)
    pub times_error : (rule : Rule) → 0 < n → WithinThreeHalves n (RN rule n (times h x)) (times C x)
    times_error rule P = ulp_near rule n P (times C x) (times_positive C x c p) (times h x) (times_positive h x k p) times_near

  -- ---- x divided by it, where h is at least 1
  module _ (x : Fraction) (p : Positive x) (one : AtMost (over 1 0) h) where
    -- x / h is off by at most x / C / 2 ^ n: |x / h - x / C| = x / C * |h - C| / h
    ratio_near : AtMost (distance (ratio x h) (ratio x C)) (times (over 1 n) (ratio x C))
    ratio_near =
        let S = x.den * (h.num * C.num) in
        let some : 0 < S = mul-pos p.some (mul-pos k.above c.above) in
        let A = C.num * h.den * x.num in
        let B = h.num * C.den * x.num in
        let a : InUnits S false A (ratio x h) = record { unit = some; some = mul-pos p.some k.above; sign = (ratio_positive x h p k).sign; count = omega arith } in
        let b : InUnits S false B (ratio x C) = record { unit = some; some = mul-pos p.some c.above; sign = (ratio_positive x C p c).sign; count = omega arith } in
        let far : apart A B * 2 ^ n ≤ T * x.num = omega (arith, mul-le-mul_right x.num apart_most, apart_mul (h.num * C.den) (C.num * h.den) x.num, ap (λ (z : ℕ). z * 2 ^ n) (apart_mul (h.num * C.den) (C.num * h.den) x.num)) in
        units_at_most S (2 ^ n * S) (apart A B) (1 * B) (distance (ratio x h) (ratio x C)) (times (over 1 n) (ratio x C))
        (distance_in_units S A B (ratio x h) (ratio x C) a b) (times_in_units (2 ^ n) S 1 B false (over 1 n) (ratio x C) (over_in_units 1 n) b)
        (omega (arith, mul-le-mul_right S far, mul-le-mul_right (C.den * x.num * S) one))

    -- |RN(x / h) - x / C| < 3/2 ulp(x / C)
    pub ratio_error : (rule : Rule) → 0 < n → WithinThreeHalves n (RN rule n (ratio x h)) (ratio x C)
    ratio_error rule P = ulp_near rule n P (ratio x C) (ratio_positive x C p c) (ratio x h) (ratio_positive x h p k) ratio_near
