-- A whole number cut in two: what is kept of it, and its k lowest digits; and what it is to round it so. Definitions only. Assumes nothing.
use Rattle.std.specs.Prelude.{◌≡◌, ℕ, ◌+◌, ◌*◌, ◌/◌, ◌%◌, ◌^◌, pos}
use Rattle.rounding.specs.Direction.{side_of}
use Rattle.rounding.specs.Grid.{Rule}
use Rattle.rounding.specs.Unit.{rn}
use Rattle.round.specs.declared.Cut.{Cut}
use Rattle.rounding.specs.declared.Directed.{Directed}

abbrev pub cut_at : (k N : ℕ) → Cut
cut_at k N = record { kept = N / 2 ^ k; rest = N % 2 ^ k }

-- the number that is cut so
abbrev pub uncut : (k : ℕ) → Cut → ℕ
uncut k c = c.kept * 2 ^ k + c.rest

-- r is RN(N) in units of 2 ^ k, with its direction
pub record RoundedCut (rule : Rule) (n k N : ℕ) (r : Directed ℕ) : Type 0 where
  pub value : r.value * 2 ^ k ≡ rn rule n N 1
  pub direction : r.direction ≡ side_of (pos N) (pos (rn rule n N 1))
