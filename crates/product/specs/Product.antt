-- The two-step product, over a context. Definitions only. Assumes nothing.
use Rattle.std.specs.Prelude.{ℕ, ◌-◌, ◌*◌, ◌^◌, ◌+ℤ◌}
use Rattle.std.proofs.Math.IntN.{pos, nat_abs}
use Rattle.rounding.specs.Round.{rounded}
use Rattle.rounding.specs.Fraction.{Fraction, over, times, plus, RN}
use Rattle.factor.specs.declared.Parts.{Parts}
use Rattle.factor.specs.declared.Factor.{Factor}
use Rattle.factor.specs.Context.{Context, context_of}
use Rattle.rounding.specs.Signed.{negative}
use Rattle.product.specs.declared.Product.{Product}

-- x is X / 2 ^ (n - 1)
abbrev pub argument : (n X : ℕ) → Fraction
argument n X = over X (n - 1)

-- the parts that are kept, as numbers: Ch and Cl
abbrev pub high : (n : ℕ) → Parts → Fraction
high n p = over p.high (n - 1)

abbrev pub low : Parts → Fraction
low p = record { minus = negative p.low; num = nat_abs p.low; den = 2 ^ p.places }

module _ (K : Context) where
  open K use {rule, n}

  -- u1 = RN(Cl * x)
  abbrev pub first : Parts → ℕ → Fraction
  first p X = RN rule n (times (low p) (argument n X))

  -- Ch * x + u1, exactly
  abbrev pub fused : Parts → ℕ → Fraction
  fused p X = plus (times (high n p) (argument n X)) (first p X)

  -- u2 = RN(Ch * x + u1)
  abbrev pub second : Parts → ℕ → Fraction
  second p X = RN rule n (fused p X)

  -- RN(y) of a y from 1 to below 4, as a significand of n bits and a binade: significand * 2 ^ binade / 2 ^ (n - 1)
  unfoldable pub rounded_product : Fraction → Product
  unfolding rounded
  rounded_product y = let r = rounded rule n y.num y.den in record { significand = r.significand; binade = nat_abs (r.exponent +ℤ pos (n - 1)) }

  -- u2 in this form
  unfoldable pub product : Parts → ℕ → Product
  unfolding rounded_product
  product p X = rounded_product (fused p X)

-- the product of a factor, by its own precision and parts
abbrev pub product_by : Factor → ℕ → Product
product_by f X = product (context_of f) f.parts X

-- a product in steps of binade 0, which are 2 ^ (1 - n)
abbrev pub steps_of : Product → ℕ
steps_of v = v.significand * 2 ^ v.binade

-- and as a number
abbrev pub value_of : (n : ℕ) → Product → Fraction
value_of n v = over (steps_of v) (n - 1)
