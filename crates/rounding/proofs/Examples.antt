-- Units in the last place worked out by computation. Assumes nothing.
use Rattle.std.specs.Prelude.{◌≡◌, refl, false, ◌-◌, ◌^◌}
use Rattle.std.specs.Float.Ieee.{size}
use Rattle.rounding.specs.Grid.{to_even, away_from_zero}
use Rattle.rounding.specs.Round.{rounded}
use Rattle.rounding.specs.Fraction.{over, times, distance, RN, Same}
use Rattle.rounding.specs.Ulp.{ulp}

-- a binade's first number, its last one of 24 bits, one that is nearer still to the next binade, and that one's first
of_one : ulp 24 (over 1 0) ≡ over 1 23
unfolding ulp size
of_one = refl

below_two : ulp 24 (over (2 ^ 24 - 1) 23) ≡ over 1 23
unfolding ulp size
below_two = refl

just_below_two : ulp 24 (over (2 ^ 63 - 1) 62) ≡ over 1 23
unfolding ulp size
just_below_two = refl

of_two : ulp 24 (over 2 0) ≡ over 1 22
unfolding ulp size
of_two = refl

-- 1/π, cut off after 64 places: from 1/4 to below 1/2
of_reciprocal_pi : ulp 24 (over 0x517CC1B727220A94 64) ≡ over 1 25
unfolding ulp size
of_reciprocal_pi = refl

-- 1/3 and 1000, at four bits
of_third : ulp 4 (record { minus = false; num = 1; den = 3 }) ≡ over 1 5
unfolding ulp size
of_third = refl

of_thousand : ulp 4 (over 1000 0) ≡ over 64 0
unfolding ulp size
of_thousand = refl

-- 17 lies half way between 16 and 18, the numbers of four bits: RN is half an ulp away, by either rule
half_met : Same (distance (RN to_even 4 (over 17 0)) (over 17 0)) (times (over 1 1) (ulp 4 (over 17 0)))
unfolding ulp rounded size
half_met = (refl, refl)

half_met_away : Same (distance (RN away_from_zero 4 (over 17 0)) (over 17 0)) (times (over 1 1) (ulp 4 (over 17 0)))
unfolding ulp rounded size
half_met_away = (refl, refl)
