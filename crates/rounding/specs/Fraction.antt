-- Signed fractions, their exact sums, products and quotients, RN of them, and its direction: what is said of factors and products is said with these. Definitions only. Assumes nothing.
use Rattle.std.specs.Prelude.{◌≡◌, Bool, true, false, not, ℕ, ◌+◌, ◌*◌, ◌^◌, ◌≤◌, ◌<◌, ltb, eqb, ℤ}
use Rattle.std.specs.Float.Ieee.{up, down, unlike}
use Rattle.rounding.specs.declared.Direction.{Direction}
use Rattle.rounding.specs.declared.Direction.TheVariants.{Equal}
use Rattle.rounding.specs.declared.Rounded.{Rounded}
use Rattle.rounding.specs.Apart.{apart}
use Rattle.rounding.specs.Direction.{side_of, On}
use Rattle.rounding.specs.Grid.{Rule}
use Rattle.rounding.specs.Round.{rounded}
use Rattle.rounding.specs.Signed.{signed_of}

-- num / den, for a den above 0; negative where `minus`
pub record Fraction : Type 0 where
  pub minus : Bool
  pub num : ℕ
  pub den : ℕ

-- a / 2 ^ t
abbrev pub over : (a t : ℕ) → Fraction
over a t = record { minus = false; num = a; den = 2 ^ t }

-- 2 ^ e
abbrev pub power : ℤ → Fraction
power e = record { minus = false; num = up e; den = down e }

abbrev pub negated : Fraction → Fraction
negated x = record { minus = not x.minus; num = x.num; den = x.den }

-- the size of x with another sign
abbrev pub signed_as : Bool → Fraction → Fraction
signed_as s x = record { minus = s; num = x.num; den = x.den }

abbrev pub times : Fraction → Fraction → Fraction
times x y = record { minus = unlike x.minus y.minus; num = x.num * y.num; den = x.den * y.den }

-- x / y, for a y that is not zero
abbrev pub ratio : Fraction → Fraction → Fraction
ratio x y = record { minus = unlike x.minus y.minus; num = x.num * y.den; den = x.den * y.num }

-- ± a ± b; a sum of zero from opposite signs is plus zero
abbrev pub joined : Bool → Bool → (a b den : ℕ) → Fraction
joined true true a b d = record { minus = true; num = a + b; den = d }
joined false false a b d = record { minus = false; num = a + b; den = d }
joined true false a b d = record { minus = ltb b a; num = apart a b; den = d }
joined false true a b d = record { minus = ltb a b; num = apart a b; den = d }

abbrev pub plus : Fraction → Fraction → Fraction
plus x y = joined x.minus y.minus (x.num * y.den) (y.num * x.den) (x.den * y.den)

abbrev pub less : Fraction → Fraction → Fraction
less x y = plus x (negated y)

-- |x - y|
abbrev pub distance : Fraction → Fraction → Fraction
distance x y = let z = less x y in record { minus = false; num = z.num; den = z.den }

-- a rounded size with a sign
abbrev pub signed : Bool → Rounded ℕ → Fraction
signed s r = record { minus = s; num = r.significand * up r.exponent; den = down r.exponent }

-- RN: the size is rounded, the sign stays
abbrev pub RN : Rule → (n : ℕ) → Fraction → Fraction
RN rule n x = signed x.minus (rounded rule n x.num x.den)

-- two fractions of the same sign and size
abbrev pub Same : Fraction → Fraction → Type 0
Same x y = (x.minus ≡ y.minus) × (x.num * y.den ≡ y.num * x.den)

-- the order of two that are not negative
abbrev pub below : Fraction → Fraction → Bool
below x y = ltb (x.num * y.den) (y.num * x.den)

abbrev pub equal : Fraction → Fraction → Bool
equal x y = eqb (x.num * y.den) (y.num * x.den)

-- the same as statements: x < y, and x ≤ y
abbrev pub Below : Fraction → Fraction → Type 0
Below x y = x.num * y.den < y.num * x.den

abbrev pub AtMost : Fraction → Fraction → Type 0
AtMost x y = x.num * y.den ≤ y.num * x.den

-- x > 0
pub record Positive (x : Fraction) : Type 0 where
  pub sign : x.minus ≡ false
  pub above : 0 < x.num
  pub some : 0 < x.den

-- x > 0 with a sign and a power of two put on: ± x * 2 ^ z
abbrev pub scaled_as : Bool → ℤ → Fraction → Fraction
scaled_as s z x = record { minus = s; num = x.num * up z; den = x.den * down z }

-- ---- direction
-- x as a whole number of 1 / (x.den * y.den), with its sign
abbrev pub beside : Fraction → Fraction → ℤ
beside x y = signed_of x.minus (x.num * y.den)

-- how y lies as seen from x
abbrev pub direction : Fraction → Fraction → Direction
direction x y = side_of (beside x y) (beside y x)

-- the direction of a rounding: how RN(x) lies as seen from x
unfoldable pub direction_of : Rule → (n : ℕ) → Fraction → Direction
direction_of rule n x = direction x (RN rule n x)

-- what each of the three says: y is below x, equal to it, or above it
abbrev pub Falls : Direction → Fraction → Fraction → Type 0
Falls d x y = On d (beside x y) (beside y x)

-- y falls so, and in no other way, denominators being above 0
pub record Directs (d : Direction) (x y : Fraction) : Type 0 where
  pub falls : Falls d x y
  pub alone : (e : Direction) → Falls e x y → d ≡ e
  -- where the signs are alike, equal means exact, and exact equal
  pub exact : x.minus ≡ y.minus → d ≡ Equal → Same x y
  pub equal : Same x y → d ≡ Equal
