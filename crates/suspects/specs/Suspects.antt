-- Suspects, over a context. Definitions only. Assumes nothing.
use Rattle.std.specs.Prelude.{Bool, cond, ◌&&◌, ℕ, ◌+◌, ◌-◌, ◌*◌, ◌%◌, ◌^◌, ◌<◌, ltb}
use Rattle.factor.specs.Context.{Context}

-- a suspect is told by the remainder r of L * X modulo the distance 2 * h of two midpoints: it is near h
abbrev pub in_window : (r h W D : ℕ) → Bool
in_window r h W D = ltb h (r + W + D) && ltb r (h + W)

module _ (K : Context) where
  open K use {n, E}

  -- W, and D, by which the interval is widened
  abbrev pub window_w : ℕ
  window_w = 2 ^ (E - n)

  abbrev pub widening : (L U : ℕ) → ℕ
  widening L U = (U - L) * 2 ^ n

  -- X is low if L * X < 2 ^ (E + n), else high
  abbrev pub is_low : (L X : ℕ) → Bool
  is_low L X = ltb (L * X) (2 ^ (E + n))

  -- half the distance of two midpoints
  abbrev pub half_step : (L X : ℕ) → ℕ
  half_step L X = cond (is_low L X) (2 ^ (E - 1)) (2 ^ E)

  -- a midpoint is an odd multiple of 2 ^ (E - 1) for low X, of 2 ^ E for high X
  unfoldable pub midpoint : (L X q : ℕ) → ℕ
  midpoint L X q = (2 * q + 1) * half_step L X

  -- X is a suspect if some midpoint is greater than L * X - W and less than L * X + W + D
  unfoldable pub Suspect : (L U X : ℕ) → Type 0
  unfolding midpoint
  Suspect L U X = (q : ℕ) × (L * X < midpoint L X q + window_w) × (midpoint L X q < L * X + window_w + widening L U)

  -- which decides it
  unfoldable pub is_suspect : (L U X : ℕ) → Bool
  is_suspect L U X = in_window ((L * X) % (2 * half_step L X)) (half_step L X) (window_w) (widening L U)
