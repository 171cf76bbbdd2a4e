-- What a sound factor has, as the laws of the product ask for it. Assumes nothing.
use Rattle.std.specs.Prelude.{◌≡◌, refl, ℕ, ◌+◌, ◌-◌, ◌*◌, ◌^◌, ◌≤◌}
use Rattle.std.proofs.Common.{sym, ap, ◌∙◌, subst, le_trans, le_of_lt, mul-le-mul_left, mul-le-mul_right, le_of_mul-le-mul_right, arith, pow_pos}
use Rattle.rounding.specs.Round.{HasBits}
use Rattle.rounding.specs.Fraction.{Fraction, over, distance, AtMost, Positive}
use Rattle.factor.specs.declared.Parts.{Parts}
use Rattle.factor.specs.declared.Factor.{Factor}
use Rattle.factor.specs.Context.{Context, Fine, context_of, lower_of, upper_of}
use Rattle.factor.proofs.ContextLaws.{fine_at}
use Rattle.factor.specs.UnitParts.{unit_parts_of}
use Rattle.factor.specs.SetUp.{Sound}
use Rattle.factor.specs.Ends.{Between}
use Rattle.factor.proofs.PartsLaws.{high_is, high_least, high_most}
use Rattle.factor.proofs.Accepted.{spread, between_positive, high_close}
use Rattle.product.specs.Product.{high, product_by}
use Rattle.product.specs.Units.{second_units, PartsAtEnd}
use Rattle.product.proofs.ProductLaws.{IsProduct}
use Rattle.product.proofs.StepLaws.{product_of_parts}

-- a high significand: Ch is from 1 to 2, both included
pub record HighBits (n H : ℕ) : Type 0 where
  pub least : 2 ^ (n - 1) ≤ H
  pub most : H ≤ 2 ^ n

module _ (f : Factor) (s : Sound f) where
  abbrev K : Context
  K = context_of f

  abbrev n : ℕ
  n = f.precision

  abbrev L : ℕ
  L = lower_of f

  abbrev U : ℕ
  U = upper_of f

  pub sound_fine : Fine (context_of f)
  sound_fine = fine_at s.precision

  -- its parts are those at its lower end
  pub sound_parts : PartsAtEnd (context_of f) f.parts
  sound_parts = record { two = omega (arith, s.precision); fine = sound_fine; end = lower_of f; is_end = s.lower_end; parts = s.parts }

  -- its high part is from 1 to 2
  pub sound_high : HighBits n f.parts.high
  sound_high =
      let e : f.parts.high ≡ _ = ap (λ (p : Parts). p.high) s.parts ∙ high_is K sound_fine L s.lower_end in
      rw e (record { least = high_least K sound_fine L s.lower_end; most = high_most K sound_fine L s.lower_end })

  pub sound_high_positive : Positive (high n f.parts)
  sound_high_positive = record { sign = refl; above = le_trans (pow_pos (n - 1)) sound_high.least; some = pow_pos (n - 1) }

  module _ (C : Fraction) (k : Between K L U C) where
    -- every fraction between its ends is at least 1
    pub sound_positive : Positive C
    sound_positive = record { sign = k.sign; above = between_positive K L U (le_trans (pow_pos K.E) s.lower_end.from) C k; some = k.some }

    pub sound_one : AtMost (over 1 0) C
    sound_one = le_of_mul-le-mul_right {k = 2 ^ K.E} (omega (arith, k.least, mul-le-mul_right C.den s.lower_end.from)) (pow_pos K.E)

    -- and the high part at most 2 ^ - n from it
    pub sound_close_high : AtMost (distance (high n f.parts) C) (over 1 n)
    sound_close_high = subst (λ (p : Parts). AtMost (distance (high n p) C) (over 1 n)) (sym s.parts) (high_close K sound_fine L U s.lower_end s.upper_end s.same C k)

  -- its ends are close: U * x has at most W more than L * x
  pub sound_close : (X : ℕ) → HasBits f.precision X → (upper_of f - lower_of f) * X ≤ 2 ^ ((context_of f).E - (context_of f).n)
  sound_close X xb = le_trans (mul-le-mul_left (upper_of f - lower_of f) (le_of_lt xb.most)) (spread (context_of f) sound_fine (lower_of f) (upper_of f) s.lower_end s.upper_end s.same)

  pub sound_upper : (X : ℕ) → lower_of f * X + (upper_of f - lower_of f) * X ≡ upper_of f * X
  sound_upper X = let e : lower_of f + (upper_of f - lower_of f) ≡ upper_of f = omega (arith, s.ordered) in omega (arith, ap (λ (z : ℕ). z * X) e)

  -- its product of a significand in range has n bits, in binade 0 or 1
  pub sound_product : (X : ℕ) → HasBits f.precision X → IsProduct (context_of f) (second_units (context_of f) (unit_parts_of (context_of f) f.parts) X) (product_by f X)
  sound_product = product_of_parts (context_of f) f.parts sound_parts
