-- Laws of the one-step product: Ch * x is a whole number of 2 ^ - 2(n - 1), from 1 to below 4, and the product is what it rounds to, a significand of n bits in binade 0 or 1. Assumes nothing.
use Rattle.std.specs.Prelude.{◌≡◌, false, ℕ, suc, ◌+◌, ◌-◌, ◌*◌, ◌^◌, ◌≤◌, ◌<◌, pos}
use Rattle.std.proofs.Common.{sym, ap, ◌∙◌, subst, mul-le-mul, arith, pow-add, pow_pos}
use Rattle.std.proofs.Math.Nat.{eq_of_mul-eq-mul_right}
use Rattle.std.proofs.Math.Pow.{le_ones}
use Rattle.rounding.specs.Direction.{side_of}
use Rattle.rounding.specs.Unit.{rn}
use Rattle.rounding.proofs.UnitLaws.{rn_le}
use Rattle.rounding.specs.Round.{HasBits}
use Rattle.rounding.specs.Fraction.{Same, direction_of}
use Rattle.rounding.proofs.FractionLaws.{InUnits, over_in_units, times_in_units}
use Rattle.rounding.proofs.DirectedLaws.{direction_whole}
use Rattle.factor.specs.declared.Parts.{Parts}
use Rattle.factor.specs.declared.Factor.{Factor}
use Rattle.factor.specs.Context.{Context, context_of}
use Rattle.factor.specs.SetUp.{Sound}
use Rattle.product.specs.Product.{argument, high, steps_of, value_of}
use Rattle.product.specs.Units.{Within}
use Rattle.product.proofs.ProductLaws.{IsProduct, rounded_product_is, rounded_product_value}
use Rattle.product.proofs.SoundLaws.{HighBits, sound_fine, sound_high}
use Rattle.product.specs.OneStep.{by_high, once, one_step, one_step_by}

-- in the unit 2 ^ - 2(n - 1): the context whose scale is n - 1
abbrev pub at_step : Context → Context
at_step K = record { rule = K.rule; n = K.n; E = K.n - 1 }

module _ (K : Context) (P : 0 < K.n) (p : Parts) (X : ℕ) (h : HighBits K.n p.high) (x : HasBits K.n X) where
  open K use {rule, n}

  -- Ch * x
  abbrev N : ℕ
  N = p.high * X

  counts : InUnits (2 ^ (n - 1 + (n - 1))) false N (by_high n p X)
  counts =
      subst (λ (z : ℕ). InUnits z false N (by_high n p X)) (sym (pow-add 2 (n - 1) (n - 1)))
      (times_in_units (2 ^ (n - 1)) (2 ^ (n - 1)) p.high X false (high n p) (argument n X) (over_in_units p.high (n - 1)) (over_in_units X (n - 1)))

  -- from 1 to below 4, and so is what it rounds to
  pub exact_within : Within (at_step K) N
  exact_within =
      let e : 2 ^ suc (n - 1) ≡ 2 ^ n = ap (λ (z : ℕ). 2 ^ z) (omega arith) in
      record { from = mul-le-mul h.least x.least; to = omega (arith, mul-le-mul h.most (le_ones n x.most), ap (λ (z : ℕ). (2 ^ n - 1) * z) e) }

  rounds_to : rn rule n N 1 ≤ (2 ^ n - 1) * 2 ^ suc (n - 1)
  rounds_to = rn_le rule n P N 1 (2 ^ n - 1) (suc (n - 1)) (omega arith) (omega arith) (omega (arith, exact_within.to))

  pub one_step_is : IsProduct (at_step K) (rn rule n N 1) (one_step K p X)
  unfolding one_step
  one_step_is = rounded_product_is (at_step K) P N (by_high n p X) counts exact_within.from rounds_to

  -- in steps of binade 0, as code works it out
  pub one_step_steps : (s : ℕ) → s * 2 ^ (n - 1) ≡ rn rule n N 1 → s ≡ steps_of (one_step K p X)
  one_step_steps s e =
      let v = one_step K p X in
      eq_of_mul-eq-mul_right (2 ^ (n - 1)) (pow_pos (n - 1)) s (steps_of v) (e ∙ sym one_step_is.value ∙ ap (λ (z : ℕ). v.significand * z) (pow-add 2 (n - 1) v.binade) ∙ omega arith)

  pub one_step_direction : direction_of rule n (by_high n p X) ≡ side_of (pos N) (pos (rn rule n N 1))
  one_step_direction = direction_whole rule n P (n - 1 + (n - 1)) false N (by_high n p X) counts

  -- as a number it is RN(Ch * x)
  pub one_step_value : Same (once K p X) (value_of n (one_step K p X))
  unfolding one_step
  one_step_value = rounded_product_value (at_step K) P N (by_high n p X) counts exact_within.from rounds_to

-- of a sound factor and a significand in range: n bits, in binade 0 or 1
pub sound_one_step : (f : Factor) → Sound f → (X : ℕ) → HasBits f.precision X → IsProduct (at_step (context_of f)) (rn (context_of f).rule f.precision (f.parts.high * X) 1) (one_step_by f X)
sound_one_step f s X x = one_step_is (context_of f) (sound_fine f s).some f.parts X (sound_high f s) x
