-- Law: quotient and remainder tell the nearest whole number, and its location the direction. Assumes nothing.
use Rattle.std.specs.Prelude.{◌≡◌, ℕ, ◌+◌, ◌*◌, ◌<◌}
use Rattle.std.proofs.Common.{sym, ap, ◌∙◌, lt_of_le_of_lt, arith}
use Rattle.rounding.specs.Grid.{Rule, location, choose, towards, nearest, side_at}
use Rattle.rounding.proofs.GridLaws.{location_lies, choose_nearest, nearest_only, towards_side}
use Rattle.round.specs.Neighbour.{neighbour_at, neighbour}

pub neighbour_by : (rule : Rule) (N d q r : ℕ) → q * d + r ≡ N → r < d → neighbour_at rule q r d ≡ neighbour rule N d
neighbour_by rule N d q r e h =
    let l = location r d in
    let t : choose rule q l ≡ nearest rule N d = sym (nearest_only rule N d (choose rule q l) (lt_of_le_of_lt (omega arith) h) (choose_nearest rule N d q r l e h (location_lies r d))) in
    let s : towards rule q l ≡ side_at N d (nearest rule N d) = sym (towards_side rule N d q r l e h (location_lies r d)) ∙ ap (side_at N d) t in
    λ i. record { value = t i; direction = s i }
