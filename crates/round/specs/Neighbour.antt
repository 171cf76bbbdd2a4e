-- A fraction's nearest whole number with its direction, for every denominator. Definitions only. Assumes nothing.
use Rattle.std.specs.Prelude.{ℕ}
use Rattle.rounding.specs.Grid.{Rule, location, choose, towards, nearest, side_at}
use Rattle.rounding.specs.declared.Directed.{Directed}

-- of q + r / d, by its whole part q and its remainder r, below d, which tell its location
abbrev pub neighbour_at : Rule → (q r d : ℕ) → Directed ℕ
neighbour_at rule q r d = record { value = choose rule q (location r d); direction = towards rule q (location r d) }

-- of N / d, by comparison
abbrev pub neighbour : Rule → (N d : ℕ) → Directed ℕ
neighbour rule N d = record { value = nearest rule N d; direction = side_at N d (nearest rule N d) }
