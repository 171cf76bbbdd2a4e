-- The two steps of the product: the fused sum is at least 1 and near C * x, and the product is a significand of n bits in binade 0 or 1. Assumes nothing.
use Rattle.std.specs.Prelude.{◌≡◌, Bool, ℕ, zero, suc, ◌+◌, ◌-◌, ◌*◌, ◌^◌, ◌≤◌, ◌<◌, ℤ, pos, nat_abs, ◌+ℤ◌}
use Rattle.std.proofs.Math.Path.{refl, ap}
use Rattle.std.proofs.Common.{sym, ◌∙◌, subst, mul-pos, mul-le-mul_left, le_trans, le_of_eq, le_of_lt, le_of_suc-le-suc, lt_of_not-le, not-le_of_lt, mul-lt-mul_of_pos_right, arith, pow_mono}
use Rattle.std.proofs.Math.Bool.{true, false}
use Rattle.std.proofs.Math.Nat.{mul-le-mul_right, mul-le-mul, lt_of_mul-lt-mul_right, mul-lt-mul_of_pos_left, eq_of_mul-eq-mul_right, pow-succ'}
use Rattle.std.proofs.Math.Dec.{ltb}
use Rattle.std.proofs.Math.Pow.{pow-add, pow_pos}
use Rattle.std.specs.Float.Ieee.{minus}
use borrow.Author.Tests.{ltb-true, le-ltb}
use Rattle.rounding.specs.declared.Rounded.{Rounded}
use Rattle.rounding.proofs.Digits.{pow_half}
use Rattle.rounding.specs.Unit.{rn}
use Rattle.rounding.proofs.UnitLaws.{rn_error, rn_le, rn_ge, rn_below}
use Rattle.rounding.specs.Round.{rounded, rounded_in, HasBits}
use Rattle.rounding.proofs.RoundLaws.{rounded_at, rounded_bits, rounded_in_exponent, minus_shift, minus_le}
use Rattle.rounding.specs.Fraction.{Fraction, times, RN, Same}
use Rattle.rounding.proofs.FractionLaws.{InUnits, sum_sign, sum_size, over_in_units, units_finer, RN_in_units, times_in_units, plus_in_units, units_same}
use Rattle.factor.specs.declared.Parts.{Parts}
use Rattle.factor.specs.Context.{Context, Fine}
use Rattle.factor.specs.Parts.{parts_at}
use Rattle.factor.specs.UnitParts.{UnitParts, step, plus_or_minus, unit_parts}
use Rattle.factor.specs.Ends.{End}
use Rattle.rounding.specs.Signed.{negative}
use Rattle.factor.proofs.PartsLaws.{width_is, step_is, bottom_is, high_from_lem, low_most, width_le, worth_near, units_of_parts, high_kept, low_kept}
use Rattle.product.specs.declared.Product.{Product}
use Rattle.product.specs.Product.{argument, high, low, first, fused, second, rounded_product, product, value_of}
use Rattle.product.specs.Units.{first_units, fused_units, second_units, units}

-- ---- of two numbers with significands of n bits the one with the larger exponent is larger
module _ (n : ℕ) (P : 0 < n) where
  pub exponent_order : (s j t k : ℕ) → s < 2 ^ n → 2 ^ (n - 1) ≤ t → j < k → s * 2 ^ j < t * 2 ^ k
  exponent_order s j t k h l jk =
      let e : 2 * 2 ^ j ≤ 2 ^ k = le_trans (le_of_eq (sym (pow-succ' 2 j))) (pow_mono {i = suc j} {j = k} jk) in
      omega (arith, mul-lt-mul_of_pos_right h (pow_pos j), ap (λ (z : ℕ). z * 2 ^ j) (pow_half n P), mul-le-mul l e)

  pub exponent_le : (s j t k : ℕ) → s < 2 ^ n → 2 ^ (n - 1) ≤ t → t * 2 ^ k ≤ s * 2 ^ j → k ≤ j
  exponent_le s j t k h l e = le_of_suc-le-suc (lt_of_not-le (λ (g : suc j ≤ k). not-le_of_lt (exponent_order s j t k h l g) e))

-- ---- a product as a whole number of the unit
pub value_in_units : (K : Context) (v : Product) → InUnits (2 ^ (K.E + (K.n - 1))) false (units K v) (value_of K.n v)
value_in_units K v =
    let n = K.n in
    let E = K.E in
    let s = v.significand in
    let k = units_finer (2 ^ (n - 1)) (2 ^ E) (pow_pos E) false (s * 2 ^ v.binade) (value_of n v) (over_in_units (s * 2 ^ v.binade) (n - 1)) in
    subst (λ (z : ℕ). InUnits (2 ^ (E + (n - 1))) false z (value_of n v)) (omega (arith, ap (λ (z : ℕ). s * z) (pow-add 2 E v.binade)))
    (subst (λ (z : ℕ). InUnits z false (s * 2 ^ v.binade * 2 ^ E) (value_of n v)) (omega (arith, pow-add 2 E (n - 1))) k)

-- v is N of that unit, from 1 to below 4, with a significand of n bits
pub record IsProduct (K : Context) (N : ℕ) (v : Product) : Type 0 where
  pub bits : HasBits K.n v.significand
  pub binade : v.binade ≤ 1
  pub value : units K v ≡ N

module _ (K : Context) (P : 0 < K.n) (N : ℕ) where
  open K use {rule, n, E}

  -- N has just one such form
  pub product_only : (u v : Product) → IsProduct K N u → IsProduct K N v → u ≡ v
  product_only u v p q =
      let e : units K u ≡ units K v = p.value ∙ sym q.value in
      let l = exponent_le n P u.significand (E + u.binade) v.significand (E + v.binade) p.bits.most q.bits.least (le_of_eq (sym e)) in
      let g = exponent_le n P v.significand (E + v.binade) u.significand (E + u.binade) q.bits.most p.bits.least (le_of_eq e) in
      let b : u.binade ≡ v.binade = omega arith in
      let s : u.significand ≡ v.significand = eq_of_mul-eq-mul_right (2 ^ (E + v.binade)) (pow_pos (E + v.binade)) u.significand v.significand (ap (λ (z : ℕ). u.significand * 2 ^ (E + z)) (sym b) ∙ e) in
      λ i. record { significand = s i; binade = b i }

  -- at least 1, it rounds to no less
  pub rn_from : 2 ^ (n - 1) * 2 ^ E ≤ N → 2 ^ (n - 1) * 2 ^ E ≤ rn rule n N 1
  rn_from from = rn_ge rule n P N 1 (2 ^ (n - 1)) E (omega arith) (omega (arith, pow_half n P)) (omega (arith, from))

  -- and the exponent of a significand of n bits tells it
  module _ (from : 2 ^ (n - 1) * 2 ^ E ≤ N) (s i : ℕ) (bits : HasBits n s) (v : s * 2 ^ i ≡ N) where
    pub exponent_from : E ≤ i
    exponent_from = exponent_le n P s i (2 ^ (n - 1)) E bits.most (le_of_eq refl) (le_trans from (le_of_eq (sym v)))

    pub is_product : N ≤ (2 ^ n - 1) * 2 ^ suc E → IsProduct K N (record { significand = s; binade = i - E })
    is_product to =
        let lo = exponent_from in
        let hi : i ≤ suc E = exponent_le n P (2 ^ n - 1) (suc E) s i (omega (arith, pow_pos n)) bits.least (le_trans (le_of_eq v) to) in
        record { bits = bits; binade = omega arith; value = ap (λ (z : ℕ). s * 2 ^ z) (omega arith) ∙ v }

-- ---- RN(y) as a product, y being N of the unit and at least 1
module _ (K : Context) (P : 0 < K.n) (N : ℕ) (y : Fraction) (counts : InUnits (2 ^ (K.E + (K.n - 1))) false N y) (from : 2 ^ (K.n - 1) * 2 ^ K.E ≤ N) where
  open K use {rule, n, E}

  abbrev T : ℕ
  T = E + (n - 1)

  pub num_some : 0 < y.num
  num_some = go y.num y.den counts.count counts.some
    where
      go : (a d : ℕ) → a * 2 ^ (E + (n - 1)) ≡ N * d → 0 < d → 0 < a
      go zero d e D = absurd (omega (arith, mul-pos (le_trans (mul-pos (pow_pos (n - 1)) (pow_pos E)) from) D))
      go (suc a) d e D = omega arith

  abbrev r : Rounded ℕ
  r = rounded rule n y.num y.den

  r_at : r ≡ rounded_in rule n T N 1
  r_at = rounded_at rule n P y.num y.den T N 1 counts.some (omega arith) (omega (arith, counts.count)) (omega (arith, from, mul-le-mul_left (2 ^ (n - 1)) (pow_pos E), pow_half n P))

  module _ (to : rn rule n N 1 ≤ (2 ^ n - 1) * 2 ^ suc E) where
    pub rounded_product_is : IsProduct K (rn rule n N 1) (rounded_product K y)
    unfolding rounded_product
    rounded_product_is = of (rounded_in_exponent rule n P T N 1)
      where
        bits : HasBits n r.significand
        bits = rounded_bits rule n P y.num y.den num_some counts.some

        of : (i : ℕ) × ((rounded_in rule n T N 1).exponent ≡ minus i T) × ((rounded_in rule n T N 1).significand * 2 ^ i ≡ rn rule n N 1)
            → IsProduct K (rn rule n N 1) (record { significand = r.significand; binade = nat_abs (r.exponent +ℤ pos (n - 1)) })
        of (i, e, v) =
            let v' : r.significand * 2 ^ i ≡ rn rule n N 1 = ap (λ (z : Rounded ℕ). z.significand * 2 ^ i) r_at ∙ v in
            let lo = exponent_from K P (rn rule n N 1) (rn_from K P N from) r.significand i bits v' in
            let b : nat_abs (r.exponent +ℤ pos (n - 1)) ≡ i - E = ap nat_abs (ap (λ (z : ℤ). z +ℤ pos (n - 1)) (ap (λ (z : Rounded ℕ). z.exponent) r_at ∙ e) ∙ minus_shift i E (n - 1) ∙ minus_le i E lo) in
            subst (λ (z : ℕ). IsProduct K (rn rule n N 1) (record { significand = r.significand; binade = z })) (sym b) (is_product K P (rn rule n N 1) (rn_from K P N from) r.significand i bits v' to)

    -- it is RN(y)
    pub rounded_product_value : Same (RN rule n y) (value_of n (rounded_product K y))
    rounded_product_value =
        let v = rounded_product K y in
        units_same (2 ^ T) false (units K v) (RN rule n y) (value_of n v) (subst (λ (z : ℕ). InUnits (2 ^ T) false z (RN rule n y)) (sym rounded_product_is.value) (RN_in_units rule n P T false N y counts)) (value_in_units K v)

module _ (K : Context) (ok : Fine K) (c : ℕ) (ce : End K c) where
  open K use {rule, n, E}
  open ok use {some as P, room as F}

  abbrev G : ℕ
  G = step K

  abbrev W : ℕ
  W = 2 ^ (E - n)

  abbrev Q : ℕ
  Q = 2 ^ (E - 2 * n)

  abbrev w : UnitParts
  w = unit_parts K c

  abbrev p : Parts
  p = parts_at K c

  module _ (X : ℕ) (xe : X < 2 ^ n) where
    -- ---- u1
    pub first_most : first_units K w X ≤ X * W
    unfolding first_units
    first_most = rn_le rule n P (w.low * X) 1 X (E - n) (omega arith) (le_of_lt xe) (omega (arith, mul-le-mul_right X (low_most K ok c ce)))

    first_near : (2 * first_units K w X ≤ 2 * (w.low * X) + W) × (2 * (w.low * X) ≤ 2 * first_units K w X + W)
    unfolding first_units
    first_near =
        let b : w.low * X ≤ 2 ^ (n + (E - n)) * 1 = omega (arith, mul-le-mul (low_most K ok c ce) (le_of_lt xe), pow-add 2 n (E - n)) in
        let r = rn_error rule n P (w.low * X) 1 (E - n) (omega arith) b in
        (omega (arith, r.0), omega (arith, r.1))

    pub first_under : first_units K w X ≤ w.high * G * X
    first_under = omega (arith, first_most, mul-le-mul_right X (le_trans (width_le K ok c ce) (high_from_lem K ok c ce)))

    -- ---- Ch * x + u1 is never below x: where the low part is negative the high part is a whole step above 1
    pub fused_least : 2 ^ E * X ≤ fused_units K w X
    unfolding fused_units unit_parts
    fused_least = go (ltb c (w.high * G)) refl
      where
        go : (b : Bool) → ltb c (w.high * G) ≡ b → 2 ^ E * X ≤ plus_or_minus b (w.high * G * X) (first_units K w X)
        go true e =
            let l = ltb-true c (w.high * G) e in
            let b = bottom_is K ok in
            let h : 2 ^ (n - 1) < w.high = lt_of_mul-lt-mul_right G (omega (arith, ce.from)) in
            omega (arith, mul-le-mul_right X (mul-le-mul_right G h), ap (λ (z : ℕ). z * X) b, ap (λ (z : ℕ). z * X) (step_is K ok), first_most)
        go false e = omega (arith, mul-le-mul_right X (high_from_lem K ok c ce))

    -- ---- |Ch * x + u1 - C * x| < 2 ^ (1 - 2 * n), at the end c
    pub fused_near : (fused_units K w X < c * X + W) × (c * X < fused_units K w X + W)
    unfolding fused_units
    fused_near = go w.minus (worth_near K ok c ce).0 (worth_near K ok c ce).1
      where
        v : Q * X < W
        v = omega (arith, mul-lt-mul_of_pos_left xe (pow_pos (E - 2 * n)), width_is K ok)

        go : (b : Bool) → 2 * plus_or_minus b (w.high * G) w.low ≤ 2 * c + Q → 2 * c ≤ 2 * plus_or_minus b (w.high * G) w.low + Q
            → (plus_or_minus b (w.high * G * X) (first_units K w X) < c * X + W) × (c * X < plus_or_minus b (w.high * G * X) (first_units K w X) + W)
        go true x y =
            let l : w.low ≤ w.high * G = le_trans (low_most K ok c ce) (le_trans (width_le K ok c ce) (high_from_lem K ok c ce)) in
            let x' : 2 * (w.high * G) ≤ 2 * c + Q + 2 * w.low = omega arith in
            let y' : 2 * c + 2 * w.low ≤ 2 * (w.high * G) + Q = omega arith in
            let a = mul-le-mul_right X x' in
            let b = mul-le-mul_right X y' in
            let f = first_near in
            (omega (arith, f.0, f.1, v, first_under), omega (arith, f.0, f.1, v, first_under))
        go false x y =
            let a = mul-le-mul_right X x in
            let b = mul-le-mul_right X y in
            let f = first_near in
            (omega (arith, f.0, f.1, v), omega (arith, f.0, f.1, v))

    -- ---- the steps of the product are these whole numbers
    abbrev t : ℕ
    t = E + (n - 1)

    unit : 2 ^ E * 2 ^ (n - 1) ≡ 2 ^ t
    unit = sym (pow-add 2 E (n - 1))

    minus_is : negative p.low ≡ w.minus
    minus_is = ap (λ (z : UnitParts). z.minus) (sym (units_of_parts K ok c ce))

    low_in_units : InUnits (2 ^ E) w.minus w.low (low p)
    low_in_units = record { unit = pow_pos E; some = pow_pos p.places; sign = minus_is; count = low_kept K ok c ce }

    at_unit : (m : Bool) (a : ℕ) (x : Fraction) → InUnits (2 ^ E) m a x → InUnits (2 ^ t) m (a * X) (times x (argument n X))
    at_unit m a x k = subst (λ (z : ℕ). InUnits z m (a * X) (times x (argument n X))) unit (times_in_units (2 ^ E) (2 ^ (n - 1)) a X m x (argument n X) k (over_in_units X (n - 1)))

    pub first_in_units : InUnits (2 ^ t) w.minus (first_units K w X) (first K p X)
    unfolding first_units
    first_in_units = RN_in_units rule n P t w.minus (w.low * X) (times (low p) (argument n X)) (at_unit w.minus w.low (low p) low_in_units)

    pub fused_in_units : InUnits (2 ^ t) false (fused_units K w X) (fused K p X)
    unfolding fused_units
    fused_in_units = go w.minus (plus_in_units (2 ^ t) (w.high * G * X) (first_units K w X) false w.minus (times (high n p) (argument n X)) (first K p X) (at_unit false (w.high * G) (high n p) (high_kept K ok c ce)) first_in_units)
      where
        go : (b : Bool) → InUnits (2 ^ t) (sum_sign false b (w.high * G * X) (first_units K w X)) (sum_size false b (w.high * G * X) (first_units K w X)) (fused K p X)
            → InUnits (2 ^ t) false (plus_or_minus b (w.high * G * X) (first_units K w X)) (fused K p X)
        go true k = record { unit = k.unit; some = k.some; sign = k.sign ∙ le-ltb (w.high * G * X) (first_units K w X) first_under; count = k.count ∙ ap (λ (z : ℕ). z * (fused K p X).den) (omega (arith, first_under)) }
        go false k = k

    -- ---- the product is from 1 to below 4
    module _ (x1 : 2 ^ (n - 1) ≤ X) where
      abbrev y : ℕ
      y = fused_units K w X

      y_least : 2 ^ (n - 1) * 2 ^ E ≤ y
      y_least = omega (arith, fused_least, mul-le-mul_right (2 ^ E) x1)

      y_most : y < (2 ^ n - 1) * 2 ^ suc E + 2 ^ E
      y_most =
          let u : X ≤ 2 ^ n - 1 = omega arith in
          omega (arith, fused_near.0, mul-le-mul u (le_of_lt ce.to), width_le K ok c ce)

      pub second_most : second_units K w X ≤ (2 ^ n - 1) * 2 ^ suc E
      unfolding second_units
      second_most =
          let h = pow_half n P in
          let g = pow_pos (n - 1) in
          let m = y_most in
          let e = ap (λ (z : ℕ). (2 ^ n - 1) * z) (pow-succ' 2 E) in
          rn_below rule n P y 1 (2 ^ n - 1) (suc E) (omega arith) (omega arith) (omega arith) (rw (pow-succ' 2 E) (omega (arith, m, e)))

      pub fused_some : (0 < (fused K p X).num) × (0 < (fused K p X).den)
      fused_some = (num_some K P y (fused K p X) fused_in_units y_least, fused_in_units.some)

      pub product_is : IsProduct K (second_units K w X) (product K p X)
      unfolding product second_units
      product_is = rounded_product_is K P y (fused K p X) fused_in_units y_least second_most

      -- it is u2
      pub product_value : Same (second K p X) (value_of n (product K p X))
      unfolding product second_units
      product_value = rounded_product_value K P y (fused K p X) fused_in_units y_least second_most
