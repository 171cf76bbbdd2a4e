-- Figures: two readings at scale 100, one reading of every kind, one that is rounded up to the least normal number, and one on which a fused step in binary64 would fail, on both devices; a girth on which the one-step device fails; zeros of both signs where the low part is negative; a girth divided, quotients of every kind of reading, and both limits of 23 in both binades; each with its direction, on readings of both signs too; factors below zero, with readings and zeros of both signs, multiplied and divided. All by computation. Assumes nothing.
use Rattle.std.specs.Prelude.{◌≡◌, refl, true, false, ℕ, ◌+◌, ◌*◌, ◌^◌, ℤ, pos, negsuc, Float}
use Rattle.std.specs.Float.Ieee
use Rattle.std.specs.Float.{nan, inf, fin, binary32}
use Rattle.marks.specs.declared.Mark.{Mark}
use Rattle.marks.specs.declared.Marked.{Marked}
use Rattle.marks.specs.Answers.{judged, Outcome, refused, accepted, answer}
use Rattle.rounding.specs.declared.Directed.{Directed}
use Rattle.rounding.specs.declared.Direction.{Direction}
use Rattle.rounding.specs.declared.Direction.TheVariants.{Below, Equal, Above}
use Rattle.rounding.specs.Direction.{side_of}
use Rattle.rounding.specs.Fraction.{direction_of}
use Rattle.factor.specs.declared.Factor.{Factor}
use Rattle.factor.specs.Precision.{scale_of}
use Rattle.factor.specs.Context.{tie_rule}
use Rattle.factor.specs.Parts.{parts_at}
use Rattle.factor.specs.SetUp.{applied_of, factor_of}
use Rattle.factor.proofs.Signs.{factor_as}
use Rattle.factor.specs.declared.Description.{Description}
use Rattle.product.specs.declared.Device.{Device}
use Rattle.reading.specs.Reading.{applied}
use Rattle.reading.specs.Divided.{divided_reading}

-- both ends at c / 2 ^ 62, and what is right or wrong
abbrev at : (n : ℕ) → ℤ → (c : ℕ) → Description
at n k c = record { minus = false; precision = n; scale = k; lower = c; upper = c }

abbrev right : Float → Direction → Outcome (Marked (Directed Float))
right y d = accepted (record { mark = Mark.Right; value = record { value = y; direction = d } })

abbrev wrong : Float → Direction → Outcome (Marked (Directed Float))
wrong y d = accepted (record { mark = Mark.Wrong; value = record { value = y; direction = d } })

abbrev quotient : Float → Direction → Outcome (Directed Float)
quotient y d = accepted (record { value = y; direction = d })

-- C = 3/2, n = 24, at a scale
three_halves : ℤ → Factor
unfolding scale_of tie_rule parts_at applied_of
three_halves k = factor_of (at 24 k (3 * 2 ^ 61))

-- 1/π, n = 24, scale -2
by_pi : Factor
unfolding scale_of tie_rule parts_at applied_of
by_pi = factor_of (record { minus = false; precision = 24; scale = negsuc 1; lower = 0x517CC1B727220A94; upper = 0x517CC1B727220A95 })

-- ---- multiplied
-- what a reading is answered with there, on a device: C = 3/2 has no low part, so that both answer alike
abbrev Gives : Device → ℤ → Float → Outcome (Marked (Directed Float)) → Type 0
Gives d k x o = applied d (three_halves k) x ≡ o

-- 2 ^ 27 at scale 100 is accepted, 2 ^ 28 refused with 23
scale_100 : (d : Device) → Gives d (pos 100) (fin false 1 (pos 27)) (right (fin false 3 (pos 126)) Equal) × Gives d (pos 100) (fin false 1 (pos 28)) (refused 23)
unfolding three_halves applied answer judged direction_of side_of Ieee.to_bits
scale_100 Device.TwoStep = (refl, refl)
scale_100 Device.OneStep = (refl, refl)

-- a zero of either sign, which it keeps, an infinity, a NaN, a subnormal, and a negative reading; n = 23, and a factor that no set-up gives
kinds :
    (d : Device)
    → Gives d (pos 0) (fin true 0 (pos 0)) (right (fin true 0 (pos 0)) Equal)
    × Gives d (pos 0) (fin false 0 (pos 0)) (right (fin false 0 (pos 0)) Equal)
    × Gives d (pos 0) (inf true) (refused 21)
    × Gives d (pos 0) nan (refused 21)
    × Gives d (pos 0) (fin false 1 (negsuc 148)) (refused 22)
    × Gives d (pos 0) (fin true 3 (pos 0)) (right (fin true 9 (negsuc 0)) Equal)
    × (applied d (factor_of (at 23 (pos 0) (3 * 2 ^ 61))) (inf false) ≡ refused 20)
    × (applied d (factor_of (at 3 (pos 0) (3 * 2 ^ 61))) nan ≡ refused 31)
unfolding three_halves scale_of tie_rule parts_at applied_of applied answer judged direction_of side_of Ieee.to_bits
kinds Device.TwoStep = (refl, refl, refl, refl, refl, refl, refl, refl)
kinds Device.OneStep = (refl, refl, refl, refl, refl, refl, refl, refl)

-- the least exponent of a product, and one below it
least_exponent : (d : Device) → Gives d (negsuc 99) (fin false 1 (negsuc 25)) (right (fin false 3 (negsuc 126)) Equal) × Gives d (negsuc 99) (fin false 1 (negsuc 26)) (refused 23)
unfolding three_halves applied answer judged direction_of side_of Ieee.to_bits
least_exponent Device.TwoStep = (refl, refl)
least_exponent Device.OneStep = (refl, refl)

-- C = 11000005 / 2 ^ 23 and x = 12794311 / 2 ^ 23: Ch * x lies below 2 and rounds up to it. So at scale -100 a product below the least normal number is that number, and half of it is refused with 23
carried :
    (d : Device)
    → (applied d (factor_of (at 24 (negsuc 99) (11000005 * 2 ^ 39))) (fin false 12794311 (negsuc 49)) ≡ right (fin false 1 (negsuc 125)) Above)
    × (applied d (factor_of (at 24 (negsuc 99) (11000005 * 2 ^ 39))) (fin false 12794311 (negsuc 50)) ≡ refused 23)
unfolding scale_of tie_rule parts_at applied_of applied answer judged direction_of side_of Ieee.to_bits
carried Device.TwoStep = (refl, refl)
carried Device.OneStep = (refl, refl)

-- C = 3/2 + 2 ^ -62 and x = 11184814 / 2 ^ 23: Ch * x lies half way between two numbers, and u1, 63 places below its leading digit, decides. In binary64 it would be lost, and the tie go down to 8388610, as it does on the one-step device
fused_once :
    (applied Device.TwoStep (factor_of (at 24 (pos 0) (3 * 2 ^ 61 + 1))) (fin false 5592407 (negsuc 21)) ≡ right (fin false 8388611 (negsuc 21)) Above)
    × (applied Device.OneStep (factor_of (at 24 (pos 0) (3 * 2 ^ 61 + 1))) (fin false 5592407 (negsuc 21)) ≡ wrong (fin false 4194305 (negsuc 20)) Below)
unfolding scale_of tie_rule parts_at applied_of applied answer judged direction_of side_of Ieee.to_bits
fused_once = (refl, refl)

-- 1/π: the girth 0.942477822, bits 3F71463A, gives the diameter 0.300000012, bits 3E99999A, right, and 0.299999982, bits 3E999999, wrong, on the one-step device
diameter : (applied Device.TwoStep by_pi (fin false 7906077 (negsuc 22)) ≡ right (fin false 5033165 (negsuc 23)) Above) × (applied Device.OneStep by_pi (fin false 7906077 (negsuc 22)) ≡ wrong (fin false 10066329 (negsuc 24)) Below)
unfolding by_pi applied answer judged direction_of side_of Ieee.to_bits
diameter = (refl, refl)

-- 1/π: the girth 1.57000005, bits 3FC8F5C3, gives the diameter 0.499746531, bits 3EFFDEC7, rounded down in two steps; below zero it is above what was rounded. One step gives the same bits, rounded up
borderline :
    (applied Device.TwoStep by_pi (fin false 13170115 (negsuc 22)) ≡ right (fin false 16768711 (negsuc 24)) Below)
    × (applied Device.TwoStep by_pi (fin true 13170115 (negsuc 22)) ≡ right (fin true 16768711 (negsuc 24)) Above)
    × (applied Device.OneStep by_pi (fin false 13170115 (negsuc 22)) ≡ right (fin false 16768711 (negsuc 24)) Above)
    × (applied Device.OneStep by_pi (fin true 13170115 (negsuc 22)) ≡ right (fin true 16768711 (negsuc 24)) Below)
unfolding by_pi applied answer judged direction_of side_of Ieee.to_bits
borderline = (refl, refl, refl, refl)

-- π, n = 24, scale 1: the low part is negative. A minus zero stays one on both devices; the sum of the stored parts' products with it, which the two steps would make, is plus zero
pi : Factor
unfolding scale_of tie_rule parts_at applied_of
pi = factor_of (record { minus = false; precision = 24; scale = pos 1; lower = 0x6487ED5110B4611A; upper = 0x6487ED5110B4611B })

sighted : (d : Device) → (applied d pi (fin true 0 (pos 0)) ≡ right (fin true 0 (pos 0)) Equal) × (applied d pi (fin false 0 (pos 0)) ≡ right (fin false 0 (pos 0)) Equal)
unfolding pi applied answer judged direction_of side_of Ieee.to_bits
sighted Device.TwoStep = (refl, refl)
sighted Device.OneStep = (refl, refl)

lost_by_two_steps : let x = fin true 0 (pos 0) in Ieee.add binary32 (Ieee.mul binary32 pi.applied.high x) (Ieee.mul binary32 pi.applied.low x) ≡ fin false 0 (pos 0)
unfolding pi Ieee.add Ieee.mul
lost_by_two_steps = refl

-- - 1/π: the same girth of either sign. The size was rounded down to 0.499746531, so that - 0.499746531 is above what was rounded; two minuses give a plus. Zeros have the sign of the product, and what is refused is refused alike
below_zero :
    (applied Device.TwoStep (factor_as true by_pi) (fin false 13170115 (negsuc 22)) ≡ right (fin true 16768711 (negsuc 24)) Above)
    × (applied Device.TwoStep (factor_as true by_pi) (fin true 13170115 (negsuc 22)) ≡ right (fin false 16768711 (negsuc 24)) Below)
    × (applied Device.OneStep (factor_as true by_pi) (fin false 13170115 (negsuc 22)) ≡ right (fin true 16768711 (negsuc 24)) Below)
    × (applied Device.OneStep (factor_as true by_pi) (fin true 13170115 (negsuc 22)) ≡ right (fin false 16768711 (negsuc 24)) Above)
    × (applied Device.OneStep (factor_as true by_pi) (fin false 7906077 (negsuc 22)) ≡ wrong (fin true 10066329 (negsuc 24)) Above)
    × (applied Device.TwoStep (factor_as true by_pi) (inf true) ≡ refused 21)
unfolding by_pi applied answer judged direction_of side_of Ieee.to_bits
below_zero = (refl, refl, refl, refl, refl, refl)

sighted_below_zero :
    (d : Device) → (applied d (factor_as true pi) (fin true 0 (pos 0)) ≡ right (fin false 0 (pos 0)) Equal) × (applied d (factor_as true pi) (fin false 0 (pos 0)) ≡ right (fin true 0 (pos 0)) Equal)
unfolding pi applied answer judged direction_of side_of Ieee.to_bits
sighted_below_zero Device.TwoStep = (refl, refl)
sighted_below_zero Device.OneStep = (refl, refl)

-- ---- divided
-- 1/π: a diameter of 1/2 gives the girth 1.5707964, whose bits are 3FC90FDB
girth : divided_reading by_pi (fin false 1 (negsuc 0)) ≡ quotient (fin false 13176795 (negsuc 22)) Below
unfolding by_pi divided_reading answer judged direction_of side_of Ieee.to_bits
girth = refl

-- - 1/π: the same, and zeros of both signs
girth_below_zero :
    (divided_reading (factor_as true by_pi) (fin false 1 (negsuc 0)) ≡ quotient (fin true 13176795 (negsuc 22)) Above)
    × (divided_reading (factor_as true by_pi) (fin true 1 (negsuc 0)) ≡ quotient (fin false 13176795 (negsuc 22)) Below)
    × (divided_reading (factor_as true by_pi) (fin true 0 (pos 0)) ≡ quotient (fin false 0 (pos 0)) Equal)
    × (divided_reading (factor_as true by_pi) (fin false 0 (pos 0)) ≡ quotient (fin true 0 (pos 0)) Equal)
unfolding by_pi divided_reading answer judged direction_of side_of Ieee.to_bits
girth_below_zero = (refl, refl, refl, refl)

-- C = 3/2: a zero of either sign, which it keeps, an infinity, a NaN, a subnormal, and a negative reading; n = 23, and a factor that no set-up gives
kinds_divided :
    (divided_reading (three_halves (pos 0)) (fin true 0 (pos 0)) ≡ quotient (fin true 0 (pos 0)) Equal)
    × (divided_reading (three_halves (pos 0)) (fin false 0 (pos 0)) ≡ quotient (fin false 0 (pos 0)) Equal)
    × (divided_reading (three_halves (pos 0)) (inf true) ≡ refused 21)
    × (divided_reading (three_halves (pos 0)) nan ≡ refused 21)
    × (divided_reading (three_halves (pos 0)) (fin false 1 (negsuc 148)) ≡ refused 22)
    × (divided_reading (three_halves (pos 0)) (fin true 3 (pos 0)) ≡ quotient (fin true 1 (pos 1)) Equal)
    × (divided_reading (factor_of (at 23 (pos 0) (3 * 2 ^ 61))) nan ≡ refused 20)
    × (divided_reading (factor_of (at 3 (pos 0) (3 * 2 ^ 61))) nan ≡ refused 31)
unfolding three_halves divided_reading answer judged direction_of side_of Ieee.to_bits
kinds_divided = (refl, refl, refl, refl, refl, refl, refl, refl)

-- k is taken off: at scale -100 the largest exponents, at scale 100 the least ones, each with the first that is refused; in binade 0 (3), and in binade -1 (1)
borders_divided :
    (divided_reading (three_halves (negsuc 99)) (fin false 3 (pos 26)) ≡ quotient (fin false 1 (pos 127)) Equal)
    × (divided_reading (three_halves (negsuc 99)) (fin false 3 (pos 27)) ≡ refused 23)
    × (divided_reading (three_halves (pos 100)) (fin false 3 (negsuc 26)) ≡ quotient (fin false 1 (negsuc 125)) Equal)
    × (divided_reading (three_halves (pos 100)) (fin false 3 (negsuc 27)) ≡ refused 23)
    × (divided_reading (three_halves (negsuc 99)) (fin false 1 (pos 28)) ≡ quotient (fin false 11184811 (pos 104)) Above)
    × (divided_reading (three_halves (negsuc 99)) (fin false 1 (pos 29)) ≡ refused 23)
    × (divided_reading (three_halves (pos 100)) (fin false 1 (negsuc 24)) ≡ quotient (fin false 11184811 (negsuc 148)) Above)
    × (divided_reading (three_halves (pos 100)) (fin false 1 (negsuc 25)) ≡ refused 23)
unfolding three_halves divided_reading answer judged direction_of side_of Ieee.to_bits
borders_divided = (refl, refl, refl, refl, refl, refl, refl, refl)
