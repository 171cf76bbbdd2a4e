-- One operation of the standard on a reading and Ch * 2 ^ k with the factor's sign, a division or a multiplication, and what the answer is by it; and the sign that it gives, zeros included. Definitions only. Assumes nothing.
use Rattle.std.specs.Prelude.{◌≡◌, true, cond, ℕ, ◌*◌, ◌<◌, T, ℤ, ◌+ℤ◌, ◌-ℤ◌, Float}
use Rattle.std.specs.Float.{binary32}
use Rattle.std.specs.Float.Ieee.{prec, hid, up, down, to_bits, fits, neg, mul, div}
use Rattle.std.specs.Float.Ieee.Exact.{HasValue}
use Rattle.rounding.specs.Fraction.{Fraction, scaled_as, times, ratio}
use Rattle.rounding.specs.Ulp.{WithinThreeHalves}
use Rattle.floats.specs.Fields.{is_sign_minus, sign_of, zero_bits, significand_of, exponent_of}
use Rattle.factor.specs.declared.Factor.{Factor}
use Rattle.factor.specs.Context.{context_of, lower_of, upper_of}
use Rattle.factor.specs.Ends.{Between}
use Rattle.factor.specs.SetUp.{float_in}
use Rattle.product.specs.Product.{argument, high}

-- a float has the value q
abbrev pub Is : Float → Fraction → Type 0
Is x q = HasValue x q.minus q.num q.den

-- a normal reading as a number, by its bits b
abbrev pub reading_at : ℕ → Fraction
reading_at b = record { minus = sign_of binary32 b; num = significand_of binary32 b * up (exponent_of binary32 b); den = hid binary32 * down (exponent_of binary32 b) }

-- a constant with the factor's scale and sign put on: ± C * 2 ^ k
abbrev pub scaled_by : Factor → Fraction → Fraction
scaled_by f C = scaled_as f.minus f.applied.scale C

-- ± Ch * 2 ^ k
abbrev pub applied_high : Factor → Fraction
applied_high f = scaled_by f (high (prec binary32) f.parts)

-- ---- an operation on a number and a constant: on floats, rounded by the format; on fractions, exactly; and on the exponents of powers of two that they have
pub record Operation : Type 0 where
  pub in_format : Float → Float → Float
  pub exactly : Fraction → Fraction → Fraction
  pub exponents : ℤ → ℤ → ℤ

abbrev pub dividing : Operation
dividing = record { in_format = div binary32; exactly = ratio; exponents = λ e k. e -ℤ k }

abbrev pub multiplying : Operation
multiplying = record { in_format = mul binary32; exactly = λ x c. times c x; exponents = λ e k. e +ℤ k }

-- ---- what is said of an answer
-- what the answer y to a reading with the bits b is by an operation, v being the value of the significands and a that of y
pub record OneOperation (o : Operation) (f : Factor) (b : ℕ) (v a : Fraction) (y : Float) : Type 0 where
  -- the operation on x, as a float, and the stored high part, which as every f32 fits the format, is v
  pub significands : T (fits binary32 f.applied.high) → (x : Float) → Is x (argument (prec binary32) (significand_of binary32 b)) → Is (o.in_format x f.applied.high) v
  -- and that on the reading itself and ± Ch * 2 ^ k, which is a binary32 number, is y
  pub held : Is (float_in binary32 (applied_high f)) (applied_high f)
  pub standard : (x g : Float) → Is x (reading_at b) → Is g (applied_high f) → o.in_format x g ≡ y
  -- and, with ± C * 2 ^ k in place of ± Ch * 2 ^ k and exactly, the operation is less than 3/2 ulp from a for every C between the ends, with signs; the ulp is that of the size, exponents unbounded
  pub near : (C : Fraction) → Between (context_of f) (lower_of f) (upper_of f) C → WithinThreeHalves (prec binary32) a (o.exactly (reading_at b) (scaled_by f C))

-- ---- what is said of the sign of every answer, zeros included
-- the stored high part with the factor's sign
abbrev pub signed_high : Factor → Float
signed_high f = cond f.minus (neg f.applied.high) f.applied.high

-- a number with the factor's sign, and not zero
pub record LikeFactor (f : Factor) (g : Float) : Type 0 where
  pub value : Fraction
  pub is : Is g value
  pub sign : value.minus ≡ f.minus
  pub above : 0 < value.num
  pub some : 0 < value.den

-- the sign of the answer y to a reading with the bits b, by the operation on the reading x itself
pub record StandardSign (o : Operation) (f : Factor) (b : ℕ) (y : Float) : Type 0 where
  -- it is the one that the operation gives x and any number with the factor's sign
  pub sign : (x g : Float) → T (fits binary32 x) → to_bits binary32 x ≡ b → LikeFactor f g → is_sign_minus y ≡ is_sign_minus (o.in_format x g)
  -- and of a zero the operation gives y
  pub zero : zero_bits binary32 b ≡ true → (x g : Float) → T (fits binary32 x) → to_bits binary32 x ≡ b → LikeFactor f g → y ≡ o.in_format x g
  -- such numbers are the stored high part with its sign, which as every f32 fits the format, and ± Ch * 2 ^ k, which is a binary32 number
  pub stored : T (fits binary32 f.applied.high) → LikeFactor f (signed_high f)
  pub scaled : LikeFactor f (float_in binary32 (applied_high f))
