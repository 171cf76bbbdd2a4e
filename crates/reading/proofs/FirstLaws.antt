-- u1 as one binary32 multiplication: on [1, 2) the product of the stored low part and x is RN(Cl * x), and its bits tell it in whole numbers. Assumes nothing.
use Rattle.std.specs.Prelude.{◌≡◌, false, ℕ, ◌*◌, ◌^◌, ◌<◌, nat_abs, Float}
use Rattle.std.proofs.Common.{sym, arith, lit<, lit≤}
use Rattle.std.proofs.Math.Path.{subst}
use Rattle.std.specs.Float.Ieee.{binary32, prec, emax, low, hid, mul, of_bits, to_bits}
use Rattle.std.specs.Float.Ieee.Bits.{of_bits-to_bits}
use Rattle.std.specs.Float.Ieee.Exact.{HasValue}
use Rattle.std.specs.Float.Ieee.Fits.{mul-fits}
use Rattle.rounding.specs.Round.{HasBits}
use Rattle.rounding.specs.Signed.{negative}
use Rattle.wide.specs.Value.{word_bits}
use Rattle.floats.specs.Fields.{unit_at}
use Rattle.floats.proofs.Times.{product_value, product_least, Told, told}
use Rattle.factor.specs.declared.Factor.{Factor}
use Rattle.factor.specs.Precision.{scale_of}
use Rattle.factor.specs.Context.{Context, Fine, tie_rule, context_at}
use Rattle.factor.proofs.ContextLaws.{valid_of, fine_at}
use Rattle.factor.specs.UnitParts.{UnitParts, unit_parts_of}
use Rattle.factor.specs.SetUp.{Sound}
use Rattle.product.specs.Units.{first_units, PartsAtEnd}
use Rattle.product.proofs.SoundLaws.{sound_parts}
use Rattle.product.proofs.StepLaws.{low_value, first_lt}

-- ---- the context of readings
abbrev pub K32 : Context
K32 = context_at (prec binary32)

pub fine_32 : Fine K32
fine_32 = fine_at (valid_of (lit≤ tt) (lit≤ tt))

pub near_32 : K32.E < emax binary32
unfolding scale_of
near_32 = lit< tt

module _ (f : Factor) (s : Sound f) (n : f.precision ≡ prec binary32) where
  abbrev q : ℕ
  q = f.parts.places

  abbrev m : ℕ
  m = nat_abs f.parts.low

  abbrev w : UnitParts
  w = unit_parts_of K32 f.parts

  at : PartsAtEnd K32 f.parts
  at = subst (λ (b : ℕ). PartsAtEnd (context_at b) f.parts) n (sound_parts f s)

  -- ---- one binary32 multiplication of the stored low part and x is u1
  module _ (X : ℕ) (xb : HasBits (prec binary32) X) (x y : Float) (low_is : HasValue x (negative f.parts.low) m (2 ^ q)) (x_is : HasValue y false X (hid binary32)) where
    abbrev u : ℕ
    u = first_units K32 w X

    pub first_float : HasValue (mul binary32 x y) (negative f.parts.low) (u * 2 ^ unit_at binary32 K32.E) (2 ^ low binary32)
    unfolding first_units tie_rule
    first_float = product_value binary32 K32.E near_32 m q w.low X (low_value K32 f.parts at) (first_lt K32 f.parts at X xb) x y (negative f.parts.low) low_is x_is

    -- and its bits tell it
    pub first_told : Told binary32 word_bits (unit_at binary32 K32.E) (to_bits binary32 (mul binary32 x y)) u
    unfolding first_units tie_rule scale_of
    first_told =
        let is : of_bits binary32 (to_bits binary32 (mul binary32 x y)) ≡ mul binary32 x y = of_bits-to_bits binary32 (mul binary32 x y) (mul-fits binary32 x y) in
        let v = subst (λ (z : Float). HasValue z (negative f.parts.low) (u * 2 ^ unit_at binary32 K32.E) (2 ^ low binary32)) (sym is) first_float in
        let small : u < 2 ^ word_bits = omega (arith, first_lt K32 f.parts at X xb) in
        told binary32 word_bits (unit_at binary32 K32.E) (lit≤ tt) (to_bits binary32 (mul binary32 x y)) u (negative f.parts.low) v small (product_least binary32 K32.E near_32 m q w.low X (low_value K32 f.parts at) xb.least)
