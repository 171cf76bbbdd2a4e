-- Figures: tallies at 4 bits and of π up to 8, the products that they count, a tie, every refusal, how near the bound of 3/2 ulp is met, and products and tally of a negative factor. All by computation. Assumes nothing.
use Rattle.std.specs.Prelude.{◌≡◌, refl, Bool, true, false, ℕ, ◌+◌, ◌-◌, ◌*◌, ◌^◌, pos}
use Rattle.std.specs.Float.Ieee
use Rattle.std.specs.Float.Ieee.{size}
use Rattle.marks.specs.declared.Mark.{Mark}
use Rattle.marks.specs.declared.Mark.TheVariants.{Right, Open, Wrong}
use Rattle.marks.specs.declared.Marked.{Marked}
use Rattle.marks.specs.Answers.{judged, Outcome, refused, accepted, answer}
use Rattle.rounding.specs.declared.Direction.{Direction}
use Rattle.rounding.specs.declared.Direction.TheVariants.{Below, Above}
use Rattle.rounding.specs.Direction.{side_of}
use Rattle.rounding.specs.Fraction.{over, times, distance, Same, direction_of}
use Rattle.rounding.specs.Ulp.{ulp}
use Rattle.factor.specs.declared.Factor.{Factor}
use Rattle.factor.specs.Precision.{scale_of}
use Rattle.factor.specs.Context.{tie_rule}
use Rattle.factor.specs.Parts.{parts_at}
use Rattle.factor.specs.SetUp.{applied_of, factor_of}
use Rattle.product.specs.declared.Device.{Device}
use Rattle.rounding.specs.declared.Signed.{Signed}
use Rattle.product.specs.declared.Product.{Product}
use Rattle.product.specs.Product.{value_of}
use Rattle.tally.specs.declared.Counts.{Counts}
use Rattle.product.specs.OneStep.{one_step_by}
use Rattle.product.specs.Answer.{multiplied}
use Rattle.tally.specs.Tally.{tallied}
use Rattle.product.proofs.OneStepTells.{exact_product}

-- n bits and the ends L / 2 ^ 62 and U / 2 ^ 62, with a sign, and above zero
signed_at : Bool → (n L U : ℕ) → Factor
unfolding scale_of tie_rule parts_at applied_of
signed_at s n L U = factor_of (record { minus = s; precision = n; scale = pos 0; lower = L; upper = U })

abbrev factor_at : (n L U : ℕ) → Factor
factor_at n L U = signed_at false n L U

abbrev counts : (rights wrongs opens : ℕ) → Outcome Counts
counts r w o = accepted (record { rights = r; wrongs = w; opens = o })

-- a product with a sign, and one above zero
abbrev signed : Bool → Mark → (S b : ℕ) → Direction → Outcome (Marked (Signed Product))
signed s m S b d = accepted (record { mark = m; value = record { minus = s; value = record { significand = S; binade = b }; direction = d } })

abbrev is : Mark → (S b : ℕ) → Direction → Outcome (Marked (Signed Product))
is m S b d = signed false m S b d

-- all significands of 4 bits: 3/2, P2, which is 19/16 - 2 ^ -20, 4/3 and 23/18
four_bits :
    (tallied (factor_at 4 (3 * 2 ^ 61) (3 * 2 ^ 61)) 8 15 ≡ counts 8 0 0)
    × (tallied (factor_at 4 0x4BFFFC0000000000 0x4BFFFC0000000000) 8 15 ≡ counts 4 4 0)
    × (tallied (factor_at 4 0x5555555555555555 0x5555555555555556) 8 15 ≡ counts 6 2 0)
    × (tallied (factor_at 4 0x51C71C71C71C71C7 0x51C71C71C71C71C8) 8 15 ≡ counts 5 2 1)
unfolding signed_at tallied answer judged Ieee.to_bits size
four_bits = (refl, refl, refl, refl)

-- the products that 23/18 gives: 9 rounds to 11, which some fractions between the ends give; 10 is a tie, 12.5, and goes to the even 12, which is wrong
products :
    (multiplied Device.OneStep (factor_at 4 0x51C71C71C71C71C7 0x51C71C71C71C71C8) 9 ≡ is Open 11 0 Below)
    × (multiplied Device.OneStep (factor_at 4 0x51C71C71C71C71C7 0x51C71C71C71C71C8) 10 ≡ is Wrong 12 0 Below)
    × (multiplied Device.OneStep (factor_at 4 (3 * 2 ^ 61) (3 * 2 ^ 61)) 15 ≡ is Right 11 1 Below)
unfolding signed_at multiplied answer judged direction_of side_of Ieee.to_bits size
products = (refl, refl, refl)

-- - 23/18: marks and counts are the size's, and - 11/8 is above what it was rounded from; in two steps - 12/8, which the size was rounded up to, is below it. The same of - P2, whose 8 is wrong
below_zero :
    (multiplied Device.OneStep (signed_at true 4 0x51C71C71C71C71C7 0x51C71C71C71C71C8) 9 ≡ signed true Open 11 0 Above)
    × (multiplied Device.TwoStep (signed_at true 4 0x51C71C71C71C71C7 0x51C71C71C71C71C8) 9 ≡ signed true Open 12 0 Below)
    × (multiplied Device.TwoStep (signed_at true 4 0x4BFFFC0000000000 0x4BFFFC0000000000) 8 ≡ signed true Wrong 10 0 Below)
    × (tallied (signed_at true 4 0x51C71C71C71C71C7 0x51C71C71C71C71C8) 8 15 ≡ counts 5 2 1)
unfolding signed_at multiplied tallied answer judged direction_of side_of Ieee.to_bits size
below_zero = (refl, refl, refl, refl)

-- π at 4 to 8 bits: 5, 15, 25, 38 and 124 right
pi_at : (n : ℕ) → Factor
unfolding signed_at
pi_at n = factor_at n 0x6487ED5110B4611A 0x6487ED5110B4611B

table_one :
    (tallied (pi_at 4) 8 15 ≡ counts 5 3 0)
    × (tallied (pi_at 5) 16 31 ≡ counts 15 1 0)
    × (tallied (pi_at 6) 32 63 ≡ counts 25 7 0)
    × (tallied (pi_at 7) 64 127 ≡ counts 38 26 0)
    × (tallied (pi_at 8) 128 255 ≡ counts 124 4 0)
unfolding pi_at tallied answer judged Ieee.to_bits size
table_one = (refl, refl, refl, refl, refl)

-- 31 before 17 before 41: both ends of a range, its first above its last, and a length of 65,537
refusals :
    (multiplied Device.OneStep (factor_at 4 (3 * 2 ^ 61) (3 * 2 ^ 61)) 7 ≡ refused 17)
    × (multiplied Device.OneStep (factor_at 3 (3 * 2 ^ 61) (3 * 2 ^ 61)) 16 ≡ refused 31)
    × (tallied (factor_at 3 (3 * 2 ^ 61) (3 * 2 ^ 61)) 0 100000 ≡ refused 31)
    × (tallied (factor_at 4 (3 * 2 ^ 61) (3 * 2 ^ 61)) 7 15 ≡ refused 17)
    × (tallied (factor_at 4 (3 * 2 ^ 61) (3 * 2 ^ 61)) 8 16 ≡ refused 17)
    × (tallied (factor_at 4 (3 * 2 ^ 61) (3 * 2 ^ 61)) 9 8 ≡ refused 17)
    × (tallied (factor_at 4 (3 * 2 ^ 61) (3 * 2 ^ 61)) 0 100000 ≡ refused 17)
    × (tallied (factor_at 24 (3 * 2 ^ 61) (3 * 2 ^ 61)) 8388608 8454144 ≡ refused 41)
unfolding signed_at multiplied tallied answer judged Ieee.to_bits size
refusals = (refl, refl, refl, refl, refl, refl, refl, refl)

-- how near 3/2 ulp is met: C = 1 + 2 ^ -13 - 2 ^ -24 and x = 2 - 2 ^ -11 at 24 bits are 3/2 - 2 ^ -12 ulp apart; and C = 1 + 2 ^ -3 - 2 ^ -5 and x = 7/4 at 5 bits, where RN(Ch * x) = 2 is in the binade above C * x, 3/2 - 2 ^ -3
nearly_met :
    (let y = exact_product 24 16773120 (over (2 ^ 62 + 2 ^ 49 - 2 ^ 38) 62) in Same (distance (value_of 24 (one_step_by (factor_at 24 (2 ^ 62 + 2 ^ 49 - 2 ^ 38) (2 ^ 62 + 2 ^ 49 - 2 ^ 38)) 16773120)) y) (times (over 6143 12) (ulp 24 y)))
    × (let y = exact_product 5 28 (over (2 ^ 62 + 2 ^ 59 - 2 ^ 57) 62) in Same (distance (value_of 5 (one_step_by (factor_at 5 (2 ^ 62 + 2 ^ 59 - 2 ^ 57) (2 ^ 62 + 2 ^ 59 - 2 ^ 57)) 28)) y) (times (over 11 3) (ulp 5 y)))
unfolding signed_at multiplied ulp size
nearly_met = ((refl, refl), (refl, refl))
