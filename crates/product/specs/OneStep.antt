-- The one-step product: what a handheld without a fused step gives. Over a context. Definitions only. Assumes nothing.
use Rattle.std.specs.Prelude.{ℕ}
use Rattle.rounding.specs.Fraction.{Fraction, times, RN}
use Rattle.factor.specs.declared.Parts.{Parts}
use Rattle.factor.specs.declared.Factor.{Factor}
use Rattle.factor.specs.Context.{Context, context_of}
use Rattle.product.specs.declared.Product.{Product}
use Rattle.product.specs.Product.{argument, high, rounded_product}

-- Ch * x, exactly
abbrev pub by_high : (n : ℕ) → Parts → ℕ → Fraction
by_high n p X = times (high n p) (argument n X)

module _ (K : Context) where
  open K use {rule, n}

  -- RN(Ch * x), and nothing of the low part
  abbrev pub once : Parts → ℕ → Fraction
  once p X = RN rule n (by_high n p X)

  -- it as a significand of n bits and a binade
  unfoldable pub one_step : Parts → ℕ → Product
  unfolding rounded_product
  one_step p X = rounded_product K (by_high n p X)

-- the one-step product of a factor, by its own precision and parts
abbrev pub one_step_by : Factor → ℕ → Product
one_step_by f X = one_step (context_of f) f.parts X
