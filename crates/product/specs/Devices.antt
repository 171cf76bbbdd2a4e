-- Both devices, the two-step handheld and the one-step handheld: what each makes, its mark, the direction of its last rounding, and the factor's sign put on. Definitions only. Assumes nothing.
use Rattle.std.specs.Prelude.{Bool, ℕ}
use Rattle.marks.specs.declared.Mark.{Mark}
use Rattle.rounding.specs.declared.Direction.{Direction}
use Rattle.rounding.specs.Direction.{to_signed}
use Rattle.rounding.specs.Fraction.{Fraction, signed_as, direction_of}
use Rattle.factor.specs.declared.Factor.{Factor}
use Rattle.factor.specs.Context.{context_of}
use Rattle.product.specs.declared.Device.{Device}
use Rattle.product.specs.declared.Product.{Product}
use Rattle.rounding.specs.declared.Directed.{Directed}
use Rattle.rounding.specs.declared.Signed.{Signed}
use Rattle.product.specs.Product.{fused, product_by, value_of}
use Rattle.product.specs.OneStep.{by_high, one_step_by}
use Rattle.product.specs.Marks.{mark_by}

-- the product of a factor on a device
abbrev pub product_on : Device → Factor → ℕ → Product
product_on Device.TwoStep f X = product_by f X
product_on Device.OneStep f X = one_step_by f X

-- what it rounds last, exactly: Ch * x + u1, or Ch * x
abbrev pub last_on : Device → Factor → ℕ → Fraction
last_on Device.TwoStep f X = fused (context_of f) f.parts X
last_on Device.OneStep f X = by_high f.precision f.parts X

-- the direction of that rounding
abbrev pub direction_on : Device → Factor → ℕ → Direction
direction_on d f X = direction_of (context_of f).rule f.precision (last_on d f X)

-- the product with it
abbrev pub directed_on : Device → Factor → ℕ → Directed Product
directed_on d f X = record { value = product_on d f X; direction = direction_on d f X }

-- with a sign put on: a negative product's direction is mirrored
abbrev pub signed_product : Bool → Directed Product → Signed Product
signed_product s v = to_signed s v

-- and as a number
abbrev pub signed_value : (n : ℕ) → Signed Product → Fraction
signed_value n v = signed_as v.minus (value_of n v.value)

-- its mark is that of the size
abbrev pub mark_on : Device → Factor → ℕ → Mark
mark_on d f X = mark_by f X (product_on d f X)
