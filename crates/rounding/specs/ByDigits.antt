-- A whole number to n bits by its number of digits, as code has it: padded where it has fewer, cut where it has more. Definitions only. Assumes nothing.
use Rattle.std.specs.Prelude.{ℕ, ◌-◌, ◌*◌, ◌^◌, pos, neg_ℤ}
use Rattle.rounding.specs.declared.Direction.TheVariants.{Equal}
use Rattle.rounding.specs.declared.Rounded.{Rounded}
use Rattle.rounding.specs.Grid.{Rule, nearest, side_at}
use Rattle.rounding.specs.Round.{normalised}

-- x of b digits, with n - b zeros behind it
abbrev pub padded : (n x b : ℕ) → Rounded ℕ
padded n x b = record { significand = x * 2 ^ (n - b); exponent = neg_ℤ (pos (n - b)); direction = Equal }

-- k digits of x dropped, and what is kept rounded
abbrev pub cut : Rule → (n x k : ℕ) → Rounded ℕ
cut rule n x k = normalised n (nearest rule x (2 ^ k)) k 0 (side_at x (2 ^ k) (nearest rule x (2 ^ k)))
