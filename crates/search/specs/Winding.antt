-- Places with their windings: how often the steps to a place pass the modulus. Laws go by these and so have no remainder in them. Definitions only.
use Rattle.std.specs.Prelude.{ℕ, ◌+◌, ◌*◌, ◌≤◌}

-- k steps pass the modulus w times and end in the window
abbrev pub Meets : (m step l r k w : ℕ) → Type 0
Meets m step l r k w = (l + w * m ≤ k * step) × (k * step ≤ r + w * m)

-- k steps end in the window, after some winding
abbrev pub Hits : (m step l r k : ℕ) → Type 0
Hits m step l r k = (w : ℕ) × Meets m step l r k w
