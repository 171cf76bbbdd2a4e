-- Figures of what is answered in words: 23/18 at 4 bits by its ten words, 9 multiplied on both devices, above and below what was rounded, with a plus and, the sign's word being any but 0, with a minus, and the tally of all its significands, 5 right, 2 wrong and 1 open; π by its words, whose low part is negative, and zeros of both signs, multiplied and divided, which are equal. All by computation. Assumes nothing.
use Rattle.std.specs.Prelude.{◌≡◌, refl, List, [], ◌∷◌, ℕ}
use Rattle.std.specs.Float.Ieee
use Rattle.std.specs.Float.Ieee.{size}
use Rattle.marks.specs.Answers.{judged, answer}
use Rattle.rounding.specs.Direction.{side_of}
use Rattle.rounding.specs.Fraction.{direction_of}
use Rattle.factor.specs.Precision.{scale_of}
use Rattle.factor.specs.Context.{tie_rule}
use Rattle.product.specs.declared.Device.{Device}
use Rattle.exports.specs.Words.{factor_from, damaged}
use Rattle.exports.specs.Answers.{Answer, taken, multiply_to, read_to, tally_to, divide_to, divide_reading_to}

abbrev signed : (sign : ℕ) → List ℕ
signed sign = sign ∷ 4 ∷ 0x51C71C71C71C71C7 ∷ 0x51C71C71C71C71C8 ∷ 10 ∷ 14 ∷ 9 ∷ 0x3FA00000 ∷ 0x3CE00000 ∷ 0 ∷ []

abbrev factor : List ℕ
factor = signed 0

abbrev says : (number : ℕ) (words : List ℕ) → Answer
says k ws = record { number = k; words = ws }

products :
    (multiply_to Device.TwoStep factor 9 (0 ∷ 0 ∷ 0 ∷ 0 ∷ []) ≡ says 2 (12 ∷ 0 ∷ 3 ∷ 0 ∷ []))
    × (multiply_to Device.OneStep factor 9 (0 ∷ 0 ∷ 0 ∷ 0 ∷ []) ≡ says 2 (11 ∷ 0 ∷ 1 ∷ 0 ∷ []))
    × (multiply_to Device.TwoStep factor 9 (0 ∷ 0 ∷ 0 ∷ []) ≡ says 255 [])
unfolding scale_of tie_rule multiply_to direction_of side_of taken factor_from damaged answer judged Ieee.to_bits size
products = (refl, refl, refl)

below_zero :
    (multiply_to Device.TwoStep (signed 1) 9 (0 ∷ 0 ∷ 0 ∷ 0 ∷ []) ≡ says 2 (12 ∷ 0 ∷ 1 ∷ 1 ∷ []))
    × (multiply_to Device.OneStep (signed 0x8000000000000000) 9 (0 ∷ 0 ∷ 0 ∷ 0 ∷ []) ≡ says 2 (11 ∷ 0 ∷ 3 ∷ 1 ∷ []))
    × (divide_to (signed 2) 9 (0 ∷ 0 ∷ 0 ∷ 0 ∷ []) ≡ says 0 (14 ∷ 0xFFFFFFFFFFFFFFFF ∷ 3 ∷ 1 ∷ []))
unfolding scale_of tie_rule multiply_to divide_to direction_of side_of taken factor_from damaged answer judged Ieee.to_bits size
below_zero = (refl, refl, refl)

tallies : (tally_to factor 8 15 (0 ∷ 0 ∷ 0 ∷ []) ≡ says 0 (5 ∷ 2 ∷ 1 ∷ [])) × (tally_to factor 8 16 (0 ∷ 0 ∷ 0 ∷ []) ≡ says 17 []) × (tally_to factor 8 15 (0 ∷ 0 ∷ []) ≡ says 255 [])
unfolding scale_of tie_rule tally_to taken factor_from damaged answer judged Ieee.to_bits size
tallies = (refl, refl, refl)

-- ---- a zero by its bits, plus or minus, is answered with the same bits, equal: right, or divided; with a negative factor, with those of the other zero
abbrev pi : (sign : ℕ) → List ℕ
pi sign = sign ∷ 24 ∷ 0x6487ED5110B4611A ∷ 0x6487ED5110B4611B ∷ 0xC90FDB ∷ 0xFFFFFFFFFF4442D2 ∷ 48 ∷ 0x3FC90FDB ∷ 0xB33BBD2E ∷ 1 ∷ []

abbrev Gives : (sign zero bits : ℕ) → Type 0
Gives s z w = (read_to Device.TwoStep (pi s) z (5 ∷ 5 ∷ []) ≡ says 1 (w ∷ 2 ∷ [])) × (read_to Device.OneStep (pi s) z (5 ∷ 5 ∷ []) ≡ says 1 (w ∷ 2 ∷ [])) × (divide_reading_to (pi s) z (5 ∷ 5 ∷ []) ≡ says 0 (w ∷ 2 ∷ []))

zeros : Gives 0 0 0 × Gives 0 0x80000000 0x80000000 × Gives 1 0 0x80000000 × Gives 1 0x80000000 0
unfolding scale_of tie_rule read_to divide_reading_to taken factor_from damaged answer judged Ieee.to_bits size
zeros = ((refl, refl, refl), (refl, refl, refl), (refl, refl, refl), (refl, refl, refl))
