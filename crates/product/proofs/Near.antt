-- Laws: how near the fused sum is to C * x, for every fraction C between the ends: less than 2 ^ (1 - 2 * n) apart, ties included. Assumes nothing.
use Rattle.std.specs.Prelude.{◌≡◌, ℕ, ◌+◌, ◌-◌, ◌*◌, ◌^◌, ◌<◌}
use Rattle.std.proofs.Common.{sym, subst, mul-le-mul_right, mul-lt-mul_of_pos_right, arith}
use Rattle.rounding.specs.Fraction.{Fraction}
use Rattle.factor.specs.Context.{Context, Fine}
use Rattle.factor.specs.Parts.{parts_at}
use Rattle.factor.specs.UnitParts.{UnitParts, unit_parts}
use Rattle.factor.specs.Ends.{End, Between}
use Rattle.factor.proofs.Accepted.{unit_parts_same}
use Rattle.product.specs.Units.{fused_units}
use Rattle.product.proofs.ProductLaws.{fused_near}

-- the fused sum y, in the unit 2 ^ - (E + n - 1), and c * X there: less than W = 2 ^ (E - n) apart
abbrev pub Near : Context → (y c X : ℕ) → Type 0
Near K y c X = (y < c * X + 2 ^ (K.E - K.n)) × (c * X < y + 2 ^ (K.E - K.n))

module _ (K : Context) (ok : Fine K) (L U : ℕ) (le : End K L) (ue : End K U) (same : parts_at K L ≡ parts_at K U) (X : ℕ) (xe : X < 2 ^ K.n) where
  open K use {rule, n, E}
  open ok use {some as P, room as F}

  abbrev y : ℕ
  y = fused_units K (unit_parts K L) X

  pub near_lower : Near K y L X
  near_lower = fused_near K ok L le X xe

  near_upper : Near K y U X
  near_upper = subst (λ (w : UnitParts). Near K (fused_units K w X) U X) (sym (unit_parts_same K ok L U le ue same)) (fused_near K ok U ue X xe)

  -- for every fraction C between the ends: W in this unit is 2 ^ (1 - 2 * n)
  pub near_between : (C : Fraction) → Between K L U C → (y * C.den < C.num * 2 ^ E * X + 2 ^ (E - n) * C.den) × (C.num * 2 ^ E * X < y * C.den + 2 ^ (E - n) * C.den)
  near_between C k = (
    omega (arith, mul-lt-mul_of_pos_right near_lower.0 k.some, mul-le-mul_right X k.least),
    omega (arith, mul-lt-mul_of_pos_right near_upper.1 k.some, mul-le-mul_right X k.most),
  )
