-- Round to nearest to n bits, exponents unbounded (RN), of a size: significand, exponent and direction. Definitions only. Assumes nothing.
use Rattle.std.specs.Prelude.{◌≡◌, cond, ℕ, zero, suc, ◌+◌, ◌-◌, ◌*◌, ◌^◌, ◌≤◌, ◌<◌, eqb, pos}
use Rattle.std.specs.Float.Ieee.{size, minus, up, down}
use Rattle.std.specs.Float.Ieee.Order.{drop}
use Rattle.rounding.specs.declared.Direction.{Direction}
use Rattle.rounding.specs.declared.Direction.TheVariants.{Equal}
use Rattle.rounding.specs.declared.Rounded.{Rounded}
use Rattle.rounding.specs.Grid.{Rule, nearest, side_at}

-- k of the unit 2 ^ (j - t), k being at most 2 ^ n; the carry 2 ^ n is the next binade's first significand
unfoldable pub normalised : (n k j t : ℕ) → Direction → Rounded ℕ
normalised n k j t d =
    cond (eqb k (2 ^ n)) (record { significand = 2 ^ (n - 1); exponent = minus (suc j) t; direction = d }) (record { significand = k; exponent = minus j t; direction = d })

-- N / u of the step 2 ^ (j - t), with the direction from there to the nearest
unfoldable pub stepped : Rule → (n t j N u : ℕ) → Rounded ℕ
unfolding nearest normalised
stepped rule n t j N u = normalised n (nearest rule N u) j t (side_at N u (nearest rule N u))

-- N / d of the unit 2 ^ - t to n bits, where N / d has at least n digits
unfoldable pub rounded_in : Rule → (n t N d : ℕ) → Rounded ℕ
unfolding stepped
rounded_in rule n t N d = let j = drop n N d in stepped rule n t j N (d * 2 ^ j)

-- N / d to n bits: in the unit 2 ^ - (n + size d) it has at least n digits, whatever it is. Zero stands apart.
unfoldable pub rounded : Rule → (n N d : ℕ) → Rounded ℕ
unfolding rounded_in
rounded rule n zero d = record { significand = 0; exponent = pos 0; direction = Equal }
rounded rule n (suc N) d = let t = n + size d in rounded_in rule n t (suc N * 2 ^ t) d

-- the number a / c, for a c above 0
abbrev pub Equals : Rounded ℕ → (a c : ℕ) → Type 0
Equals r a c = r.significand * up r.exponent * c ≡ a * down r.exponent

-- a significand of n bits
pub record HasBits (n s : ℕ) : Type 0 where
  pub least : 2 ^ (n - 1) ≤ s
  pub most : s < 2 ^ n
