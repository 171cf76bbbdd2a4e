-- Figures: quotients, both borders of a binade, every refusal, a negative factor's, and how near the bound of 3/2 ulp is met. All by computation. Assumes nothing.
use Rattle.std.specs.Prelude.{◌≡◌, refl, Bool, true, false, ℕ, ◌+◌, ◌-◌, ◌*◌, ◌^◌, ℤ, pos, negsuc}
use Rattle.std.proofs.Common.{lit<}
use Rattle.std.specs.Float.Ieee
use Rattle.std.specs.Float.Ieee.{size}
use Rattle.marks.specs.Answers.{judged, Outcome, refused, accepted, answer}
use Rattle.rounding.specs.Fraction.{over, times, distance, direction_of, Below as Under}
use Rattle.rounding.specs.Ulp.{ulp}
use Rattle.factor.specs.declared.Factor.{Factor}
use Rattle.factor.specs.Precision.{scale_of}
use Rattle.factor.specs.Context.{tie_rule}
use Rattle.factor.specs.Parts.{parts_at}
use Rattle.factor.specs.SetUp.{applied_of, factor_of}
use Rattle.rounding.specs.declared.Direction.{Direction}
use Rattle.rounding.specs.declared.Direction.TheVariants.{Below, Equal, Above}
use Rattle.rounding.specs.Direction.{side_of}
use Rattle.rounding.specs.declared.Signed.{Signed}
use Rattle.quotient.specs.declared.Quotient.{Quotient}
use Rattle.quotient.specs.Quotient.{quotient_by, value_of}
use Rattle.quotient.specs.Answer.{divided}
use Rattle.quotient.specs.Tells.{exact_quotient}

-- both ends at c / 2 ^ 62, n bits, and the same below zero
signed_at : Bool → (n c : ℕ) → Factor
unfolding scale_of tie_rule parts_at applied_of
signed_at s n c = factor_of (record { minus = s; precision = n; scale = pos 0; lower = c; upper = c })

abbrev factor_at : (n c : ℕ) → Factor
factor_at n c = signed_at false n c

-- a quotient with a sign, and one above zero
abbrev signed : Bool → ℕ → ℤ → Direction → Outcome (Signed Quotient)
signed m s b d = accepted (record { minus = m; value = record { significand = s; binade = b }; direction = d })

abbrev is : ℕ → ℤ → Direction → Outcome (Signed Quotient)
is s b d = signed false s b d

-- C = 3/2, n = 4: 2/3, of which 11/16 is above, 1 and 5/4
three_halves :
    (divided (factor_at 4 (3 * 2 ^ 61)) 8 ≡ is 11 (negsuc 0) Above)
    × (divided (factor_at 4 (3 * 2 ^ 61)) 12 ≡ is 8 (pos 0) Equal)
    × (divided (factor_at 4 (3 * 2 ^ 61)) 15 ≡ is 10 (pos 0) Equal)
unfolding signed_at divided answer judged direction_of side_of Ieee.to_bits size
three_halves = (refl, refl, refl)

-- - 3/2: - 11/16 is below - 2/3
below_zero : (divided (signed_at true 4 (3 * 2 ^ 61)) 8 ≡ signed true 11 (negsuc 0) Below) × (divided (signed_at true 4 (3 * 2 ^ 61)) 12 ≡ signed true 8 (pos 0) Equal) × (divided (signed_at true 3 (3 * 2 ^ 61)) 12 ≡ refused 31)
unfolding signed_at divided answer judged direction_of side_of Ieee.to_bits size
below_zero = (refl, refl, refl)

-- C just below 2, whose high part is 2: 1 gives exactly 1/2, and the largest x a quotient below 1; C = 1: the least x and the largest give themselves
ends_of_the_high_part :
    (divided (factor_at 4 (2 ^ 63 - 1)) 8 ≡ is 8 (negsuc 0) Equal)
    × (divided (factor_at 4 (2 ^ 63 - 1)) 15 ≡ is 15 (negsuc 0) Equal)
    × (divided (factor_at 4 (2 ^ 62)) 8 ≡ is 8 (pos 0) Equal)
    × (divided (factor_at 4 (2 ^ 62)) 15 ≡ is 15 (pos 0) Equal)
unfolding signed_at divided answer judged direction_of side_of Ieee.to_bits size
ends_of_the_high_part = (refl, refl, refl, refl)

-- 17 on both sides, and 31 before it
refusals :
    (divided (factor_at 4 (3 * 2 ^ 61)) 7 ≡ refused 17)
    × (divided (factor_at 4 (3 * 2 ^ 61)) 16 ≡ refused 17)
    × (divided (factor_at 3 (3 * 2 ^ 61)) 16 ≡ refused 31)
unfolding signed_at divided answer judged direction_of side_of Ieee.to_bits size
refusals = (refl, refl, refl)

-- C = 1 + 2 ^ -13 - 2 ^ -24 and x = 2 - 2 ^ -12 at 24 bits: more than 191/128 ulp
nearly_met : let y = exact_quotient 24 16775168 (over (2 ^ 62 + 2 ^ 49 - 2 ^ 38) 62) in Under (times (over 191 7) (ulp 24 y)) (distance (value_of 24 (quotient_by (factor_at 24 (2 ^ 62 + 2 ^ 49 - 2 ^ 38)) 16775168)) y)
unfolding signed_at divided ulp size
nearly_met = lit< tt
