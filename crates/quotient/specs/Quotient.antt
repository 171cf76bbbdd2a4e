-- The quotient of a significand by the high part, over a context, its direction, and a sign put on. Definitions only. Assumes nothing.
use Rattle.std.specs.Prelude.{Bool, cond, ℕ, ◌-◌, ltb, ◌+ℤ◌}
use Rattle.std.proofs.Math.IntN.{pos}
use Rattle.rounding.specs.declared.Direction.{Direction}
use Rattle.rounding.specs.Direction.{to_signed}
use Rattle.rounding.specs.Round.{rounded}
use Rattle.rounding.specs.Fraction.{Fraction, over, power, signed_as, times, ratio, RN, direction_of}
use Rattle.factor.specs.declared.Parts.{Parts}
use Rattle.factor.specs.declared.Factor.{Factor}
use Rattle.factor.specs.Context.{Context, context_of}
use Rattle.product.specs.Product.{argument, high}
use Rattle.quotient.specs.declared.Quotient.{Quotient}
use Rattle.rounding.specs.declared.Directed.{Directed}
use Rattle.rounding.specs.declared.Signed.{Signed}

-- x / Ch
abbrev pub by_high : (n : ℕ) → Parts → ℕ → Fraction
by_high n p X = ratio (argument n X) (high n p)

module _ (K : Context) where
  open K use {rule, n}

  -- RN(x / Ch)
  abbrev pub once : Parts → ℕ → Fraction
  once p X = RN rule n (by_high n p X)

  -- it as a significand of n bits and a binade: significand * 2 ^ binade / 2 ^ (n - 1)
  unfoldable pub quotient : Parts → ℕ → Quotient
  unfolding rounded
  quotient p X =
      let y = by_high n p X in
      let r = rounded rule n y.num y.den in
      record { significand = r.significand; binade = r.exponent +ℤ pos (n - 1) }

-- the quotient by a factor, by its own precision and parts
abbrev pub quotient_by : Factor → ℕ → Quotient
quotient_by f X = quotient (context_of f) f.parts X

-- the direction of its rounding, from x / Ch
abbrev pub direction_by : Factor → ℕ → Direction
direction_by f X = direction_of (context_of f).rule f.precision (by_high f.precision f.parts X)

-- the quotient with it
abbrev pub directed_by : Factor → ℕ → Directed Quotient
directed_by f X = record { value = quotient_by f X; direction = direction_by f X }

-- with a sign put on: a negative quotient's direction is mirrored
abbrev pub signed_quotient : Bool → Directed Quotient → Signed Quotient
signed_quotient s v = to_signed s v

-- a quotient as a number, and with its sign
abbrev pub value_of : (n : ℕ) → Quotient → Fraction
value_of n v = times (power v.binade) (over v.significand (n - 1))

abbrev pub signed_value : (n : ℕ) → Signed Quotient → Fraction
signed_value n v = signed_as v.minus (value_of n v.value)

-- how many binades below 1 it lies: one where X is below the high significand H
abbrev pub binades_below : (X H : ℕ) → ℕ
binades_below X H = cond (ltb X H) 1 0
