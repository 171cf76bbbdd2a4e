-- Laws: both steps in the standard's own operations, on the values of the stored parts: u1 is the binary32 product of the stored low part and x, and u2 is
-- IEEE 754-2019's fusedMultiplyAdd of the stored high part, x and u1: their exact sum of product and u1, rounded once to binary32. Assumes nothing.
use Rattle.std.specs.Prelude.{◌≡◌, Bool, ℕ, ◌+◌, ◌-◌, ◌*◌, ◌^◌, ◌<◌, T, pos, Float}
use Rattle.std.proofs.Math.Path.{refl}
use Rattle.std.proofs.Common.{sym, ap, ◌∙◌, subst, mul-pos, arith, lit<, pow_pos}
use Rattle.std.proofs.Math.Bool.{false}
use Rattle.std.specs.Float.Ieee
use Rattle.std.specs.Float.Ieee.{binary32, prec, emax, hid, mul, unlike, fits}
use Rattle.std.specs.Float.Ieee.Exact.{HasValue}
use Rattle.std.specs.Float.Ieee.Scale.{round_same}
use Rattle.marks.specs.Answers.{accepted}
use Rattle.rounding.specs.Round.{HasBits}
use Rattle.rounding.specs.Fraction.{Fraction, times, plus, Same}
use Rattle.rounding.proofs.FractionLaws.{InUnits, unlike_plus, plus_some, plus_same}
use Rattle.rounding.proofs.Ieee.{revalue, one_value}
use Rattle.floats.specs.Fields.{unit_at}
use Rattle.floats.proofs.Times.{unit_is}
use Rattle.floats.proofs.NormalLaws.{rounds_normal}
use Rattle.factor.specs.declared.Description.{Description}
use Rattle.factor.specs.declared.Factor.{Factor}
use Rattle.factor.specs.declared.Parts.{Parts}
use Rattle.factor.specs.Context.{tie_rule, context_at, lower_of}
use Rattle.factor.specs.Parts.{parts_at}
use Rattle.factor.specs.UnitParts.{UnitParts, unit_parts, unit_parts_of}
use Rattle.factor.specs.Ends.{End}
use Rattle.factor.proofs.PartsLaws.{units_of_parts}
use Rattle.factor.specs.SetUp.{float_in, set_up, Sound}
use Rattle.factor.proofs.SetUpLaws.{intact_sound, accepted_intact}
use Rattle.factor.proofs.StoredLaws.{high_number, low_number, accepted_fits}
use Rattle.product.specs.Product.{argument, high, low, first, fused, product, product_by, value_of}
use Rattle.product.specs.Units.{first_units, fused_units}
use Rattle.product.proofs.ProductLaws.{first_in_units, fused_in_units, fused_some, product_is, product_value}
use Rattle.reading.specs.OneOperation.{Is}
use Rattle.reading.proofs.FirstLaws.{K32, fine_32, near_32, first_float}

-- what both steps are, by what is stored: y is x as a float
pub record StoredSteps (f : Factor) (X : ℕ) (y : Float) : Type 0 where
  -- the stored parts are Ch and Cl
  pub high_is : Is f.applied.high (high (prec binary32) f.parts)
  pub low_is : Is f.applied.low (low f.parts)
  -- one binary32 multiplication of the stored low part is u1
  pub first_is : Is (mul binary32 f.applied.low y) (first K32 f.parts X)
  -- and the value h of the stored high part, times x, and the value u of that multiplication added, exactly and rounded once, is the product
  pub second_is : (h u : Fraction) → 0 < h.den → 0 < u.den → Is f.applied.high h → Is (mul binary32 f.applied.low y) u
      → Is (float_in binary32 (plus (times h (argument (prec binary32) X)) u)) (value_of (prec binary32) (product_by f X))

-- ---- at an end c
-- the unit of a product is 2 ^ - t
abbrev t : ℕ
t = K32.E + (prec binary32 - 1)

module _ (c : ℕ) (ce : End K32 c) (X : ℕ) (xb : HasBits (prec binary32) X) where
  abbrev y : Fraction
  y = fused K32 (parts_at K32 c) X

  counts : InUnits (2 ^ t) false (fused_units K32 (unit_parts K32 c) X) y
  counts = fused_in_units K32 fine_32 c ce X xb.most

  fused_at : let v = product K32 (parts_at K32 c) X in HasValue (Ieee.round binary32 false y.num y.den) false (v.significand * 2 ^ v.binade) (hid binary32)
  unfolding tie_rule
  fused_at =
      let v = product K32 (parts_at K32 c) X in
      let S = v.significand in
      let B = v.binade in
      let is = product_is K32 fine_32 c ce X xb.most xb.least in
      let some = fused_some K32 fine_32 c ce X xb.most xb.least in
      revalue (Ieee.round binary32 false y.num y.den) false (S * 2 ^ B) (hid binary32 * 1) (S * 2 ^ B) (hid binary32) (lit< tt) (omega arith)
      (rounds_normal binary32 false y some.0 some.1 S (pos B) (B + (emax binary32 - 1)) is.bits refl (omega (arith, is.binade)) (omega (arith, (product_value K32 fine_32 c ce X xb.most xb.least).1)))

  first_count : let u = first K32 (parts_at K32 c) X in (0 < u.den) × (u.num * 2 ^ t ≡ first_units K32 (unit_parts_of K32 (parts_at K32 c)) X * u.den)
  first_count =
      let u = first K32 (parts_at K32 c) X in
      let k = first_in_units K32 fine_32 c ce X xb.most in
      (k.some, k.count ∙ ap (λ (w : UnitParts). first_units K32 w X * u.den) (units_of_parts K32 fine_32 c ce))

-- ---- of a factor that was accepted, with the format's precision
module _ (f : Factor) (s : Sound f) (n : f.precision ≡ prec binary32) (X : ℕ) (xb : HasBits (prec binary32) X) where
  parts_32 : f.parts ≡ parts_at K32 f.lower
  parts_32 = s.parts ∙ ap (λ (b : ℕ). parts_at (context_at b) (lower_of f)) n

  end_32 : End K32 (lower_of f)
  end_32 = subst (λ (b : ℕ). End (context_at b) (lower_of f)) n s.lower_end

  -- u1, RN(Cl * x), is what one binary32 multiplication gives
  pub first_is : (y : Float) → T (fits binary32 f.applied.low) → HasValue y false X (hid binary32) → let u1 = first K32 f.parts X in HasValue (mul binary32 f.applied.low y) u1.minus u1.num u1.den
  first_is y h v =
      let u1 = first K32 f.parts X in
      let w = mul binary32 f.applied.low y in
      let u = first_units K32 (unit_parts_of K32 f.parts) X in
      let k : (0 < u1.den) × (u1.num * 2 ^ t ≡ u * u1.den) =
      subst (λ (p : Parts). (0 < (first K32 p X).den) × ((first K32 p X).num * 2 ^ t ≡ first_units K32 (unit_parts_of K32 p) X * (first K32 p X).den)) (sym parts_32) (first_count (lower_of f) end_32 X xb) in
      subst (λ b. HasValue w b u1.num u1.den) (sym (unlike_plus _))
      (revalue w _ (u * 2 ^ unit_at binary32 K32.E) (2 ^ Ieee.low binary32) u1.num u1.den (pow_pos (Ieee.low binary32)) (regroup u u1.num u1.den (2 ^ unit_at binary32 K32.E) (2 ^ t) (2 ^ Ieee.low binary32) (unit_is binary32 K32.E near_32) k.1) (first_float f s n X xb f.applied.low y (low_number f s h) v))
    where
      regroup : (u N d A B U : ℕ) → U ≡ B * A → N * B ≡ u * d → u * A * d ≡ N * U
      regroup u N d A B U t e = let x : N * U ≡ N * (B * A) = ap (λ (z : ℕ). N * z) t in let z : N * B * A ≡ u * d * A = ap (λ (z : ℕ). z * A) e in omega (arith, x, z)

  -- u2 is the exact sum, rounded once
  pub fused_is : let y = fused K32 f.parts X in let v = product_by f X in HasValue (Ieee.round binary32 false y.num y.den) false (v.significand * 2 ^ v.binade) (hid binary32)
  fused_is =
      subst (λ (b : ℕ). HasValue (Ieee.round binary32 false (fused K32 f.parts X).num (fused K32 f.parts X).den) false ((product (context_at b) f.parts X).significand * 2 ^ (product (context_at b) f.parts X).binade) (hid binary32)) (sym n)
      (subst (λ (p : Parts). HasValue (Ieee.round binary32 false (fused K32 p X).num (fused K32 p X).den) false ((product K32 p X).significand * 2 ^ (product K32 p X).binade) (hid binary32)) (sym parts_32) (fused_at (lower_of f) end_32 X xb))

  module _ (high_fits : T (fits binary32 f.applied.high)) (low_fits : T (fits binary32 f.applied.low)) (y : Float) (x_is : HasValue y false X (hid binary32)) where
    abbrev p : Parts
    p = f.parts

    abbrev x : Fraction
    x = argument (prec binary32) X

    abbrev exact : Fraction
    exact = fused K32 p X

    stored_high : Is f.applied.high (high (prec binary32) p)
    stored_high = subst (λ (b : ℕ). HasValue f.applied.high false p.high (2 ^ (b - 1))) n (high_number f s high_fits)

    exact_sign : exact.minus ≡ false
    exact_sign = subst (λ (q : Parts). (fused K32 q X).minus ≡ false) (sym parts_32) (counts (lower_of f) end_32 X xb).sign

    first_some : 0 < (first K32 p X).den
    first_some = subst (λ (q : Parts). 0 < (first K32 q X).den) (sym parts_32) (first_count (lower_of f) end_32 X xb).0

    second : (h u : Fraction) → 0 < h.den → 0 < u.den → Is f.applied.high h → Is (mul binary32 f.applied.low y) u → Is (float_in binary32 (plus (times h x) u)) (value_of (prec binary32) (product_by f X))
    second h u H U v w =
        let z = plus (times h x) u in
        let den : 0 < (times h x).den = mul-pos H (pow_pos (prec binary32 - 1)) in
        let den_exact : 0 < (times (high (prec binary32) p) x).den = mul-pos (pow_pos (prec binary32 - 1)) (pow_pos (prec binary32 - 1)) in
        let hs = one_value f.applied.high h.minus false h.num h.den p.high (hid binary32) v stored_high in
        let us : Same u (first K32 p X) = one_value (mul binary32 f.applied.low y) u.minus _ u.num u.den _ _ w (first_is y low_fits x_is) in
        let same : Same z exact = plus_same (times h x) u (times (high (prec binary32) p) x) (first K32 p X) den U den_exact first_some (by_x h.minus h.num h.den p.high (hid binary32) X hs) us in
        let is : float_in binary32 z ≡ Ieee.round binary32 false exact.num exact.den =
        ap (λ (b : Bool). Ieee.round binary32 b z.num z.den) (same.0 ∙ exact_sign)
        ∙ round_same binary32 false z.num z.den exact.num exact.den (plus_some (times h x) u den U) (plus_some (times (high (prec binary32) p) x) (first K32 p X) den_exact first_some) same.1 in
        subst (λ (q : Float). Is q (value_of (prec binary32) (product_by f X))) (sym is) fused_is
      where
        by_x : (m : Bool) (N d H A X : ℕ) → (m ≡ false) × (N * A ≡ H * d) → (unlike m false ≡ unlike false false) × (N * X * (A * A) ≡ H * X * (d * A))
        by_x m N d H A X e = (ap (λ (b : Bool). unlike b false) e.0, omega (arith, ap (λ (z : ℕ). z * (X * A)) e.1))

    pub stored_steps : StoredSteps f X y
    stored_steps = record { high_is = stored_high; low_is = low_number f s low_fits; first_is = first_is y low_fits x_is; second_is = second }

-- of every factor that set-up accepted
pub accepted_steps : (d : Description) (f : Factor) → set_up d ≡ accepted f → f.precision ≡ prec binary32 → (X : ℕ) → HasBits (prec binary32) X → (y : Float) → HasValue y false X (hid binary32) → StoredSteps f X y
accepted_steps d f e n X xb y v = let h = accepted_fits d f e in stored_steps f (intact_sound f (accepted_intact d f e)) n X xb h.0 h.1 y v
