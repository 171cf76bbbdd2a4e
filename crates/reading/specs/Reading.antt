-- Readings: what refuses one (31, 20, 21, 22, 23), and a binary32 reading times a factor, with the sign of both, of a zero too, and the direction of the last rounding. Definitions only. Assumes nothing.
use Rattle.std.specs.Prelude.{Bool, not, ◌&&◌, ◌||◌, cond, List, [], ◌∷◌, ◌++◌, ℕ, ◌-◌, ◌*◌, eqb, ℤ, pos, negsuc, ◌+ℤ◌, Float}
use Rattle.std.specs.Int.Signed.{lt_z}
use Rattle.std.specs.Float.Ieee
use Rattle.std.specs.Float.{Format, binary32}
use Rattle.std.specs.Float.Ieee.{prec, emax, hid, unlike, to_bits, up, down}
use Rattle.marks.specs.declared.Mark.{Mark}
use Rattle.marks.specs.declared.Marked.{Marked}
use Rattle.marks.specs.Answers.{Outcome, refused, accepted, answer}
use Rattle.rounding.specs.declared.Direction.{Direction}
use Rattle.rounding.specs.declared.Direction.TheVariants.{Equal}
use Rattle.rounding.specs.Direction.{signed_direction}
use Rattle.floats.specs.Fields.{sign_of, zero_of, infinite_or_na_n, zero_bits, subnormal, significand_of, exponent_of}
use Rattle.factor.specs.declared.Factor.{Factor}
use Rattle.factor.specs.SetUp.{intact}
use Rattle.product.specs.declared.Device.{Device}
use Rattle.product.specs.declared.Product.{Product}
use Rattle.rounding.specs.declared.Directed.{Directed}
use Rattle.product.specs.Product.{product}
use Rattle.product.specs.Marks.{mark}
use Rattle.product.specs.Answer.{marked}
use Rattle.product.specs.OneStep.{one_step}
use Rattle.product.specs.Devices.{product_on, directed_on}
use Rattle.reading.specs.declared.ReadingAnswer.{ReadingAnswer}
use Rattle.reading.specs.declared.Kind.{Kind}

-- ---- a reading by its bit pattern b
-- the conditions that refuse it before any work: state comes before input
abbrev pub unreadable : Factor → ℕ → List (ℕ × Bool)
unreadable f b = (31, not (intact f)) ∷ (20, not (eqb f.precision (prec binary32))) ∷ (21, infinite_or_na_n binary32 b) ∷ (22, subnormal binary32 b) ∷ []

-- what it is if it is let through: a zero or a normal number
abbrev pub kind_of : ℕ → Kind
kind_of b = cond (zero_bits binary32 b) Kind.Zero Kind.Normal

-- the sign of its product or quotient by a factor, of a zero too: minus where one of the two has it and the other has not (IEEE 754-2019, 6.3)
abbrev pub sign_with : Factor → ℕ → Bool
sign_with f b = unlike (sign_of binary32 b) f.minus

-- ---- a significand at an exponent, as a number of the format
-- 23: an exponent outside those of the format's normal numbers, 1 - emax to emax
abbrev pub exponent_out : Format → ℤ → Bool
exponent_out f e = lt_z e (negsuc (emax f - 2)) || lt_z (pos (emax f)) e

-- S / 2 ^ (prec - 1) * 2 ^ e with a sign, rounded, which changes nothing where 23 lets e through (`number_value`)
unfoldable pub number_of : Format → Bool → (S : ℕ) → ℤ → Float
unfolding Ieee.round
number_of f s S e = Ieee.round f s (S * up e) (hid f * down e)

-- a size as a binary32 number with a sign, and with the direction of the rounding that gave it, sign included: a negative one's is mirrored
abbrev pub directed_number : Bool → (S : ℕ) → ℤ → Direction → Directed Float
directed_number s S e d = record { value = number_of binary32 s S e; direction = signed_direction s d }

-- or 23
abbrev pub placed : Bool → (S : ℕ) → ℤ → Direction → Outcome (Directed Float)
placed s S e d = answer ((23, exponent_out binary32 e) ∷ []) (directed_number s S e d)

-- a zero is equal to what was rounded
abbrev pub directed_zero : Bool → Directed Float
directed_zero s = record { value = zero_of s; direction = Equal }

-- ---- an answer to a reading, whatever is made of it
-- what is made of a zero, and of any other reading, with the exponent that this gets
pub record Made (A : Type 0) : Type 0 where
  pub of_zero : A
  pub exponent : ℤ
  pub value : A

-- all conditions that refuse a reading, e being the exponent that its product or quotient would get; a zero has none
abbrev pub conditions : Factor → ℕ → ℤ → List (ℕ × Bool)
conditions f b e = unreadable f b ++ (23, not (zero_bits binary32 b) && exponent_out binary32 e) ∷ []

abbrev pub answer_to : {A : Type 0} → Factor → ℕ → Made A → Outcome A
answer_to f b m = answer (conditions f b m.exponent) (cond (zero_bits binary32 b) m.of_zero m.value)

-- ---- a product, of the reading's significand, whoever made it
-- its exponent: the reading's, plus k and the binade
abbrev pub product_exponent : Factor → ℕ → Product → ℤ
product_exponent f b v = exponent_of binary32 b +ℤ (f.applied.scale +ℤ pos v.binade)

-- sign and exponent put on a value with its mark
abbrev pub put_on : Factor → ℕ → Marked (Directed Product) → Marked (Directed Float)
put_on f b a = let v = a.value in record { mark = a.mark; value = directed_number (sign_with f b) v.value.significand (product_exponent f b v.value) v.direction }

-- unless 23 refuses it
abbrev pub ranged : Factor → ℕ → Marked (Directed Product) → Outcome (Marked (Directed Float))
ranged f b a = answer ((23, exponent_out binary32 (product_exponent f b a.value.value)) ∷ []) (put_on f b a)

-- what becomes of a normal reading's value: 23, or the number with its mark
unfoldable pub finished : Factor → ℕ → Directed Product → Outcome (Marked (Directed Float))
unfolding mark number_of
finished f b v = ranged f b (marked f (significand_of binary32 b) v)

-- a zero gives a zero with the product's sign, right; any other reading the number with its mark
abbrev pub product_of : Factor → ℕ → Directed Product → Made (Marked (Directed Float))
product_of f b v = record { of_zero = record { mark = Mark.Right; value = directed_zero (sign_with f b) }; exponent = product_exponent f b v.value; value = put_on f b (marked f (significand_of binary32 b) v) }

-- the product of a reading's significand on a device, and the same with its direction
abbrev pub product_at : Device → Factor → ℕ → Product
product_at d f b = product_on d f (significand_of binary32 b)

abbrev pub directed_at : Device → Factor → ℕ → Directed Product
directed_at d f b = directed_on d f (significand_of binary32 b)

-- the answer to a reading x on a device
unfoldable pub applied : Device → Factor → Float → Outcome (Marked (Directed Float))
unfolding intact product one_step mark number_of
applied d f x = let b = to_bits binary32 x in answer_to f b (product_of f b (directed_at d f b))

-- what each case of the answer says: a refusal its number; any other its mark, the product as a binary32 number and its direction
abbrev pub outcome_of : ReadingAnswer → Outcome (Marked (Directed Float))
outcome_of (ReadingAnswer.Right y d) = accepted (record { mark = Mark.Right; value = record { value = y; direction = d } })
outcome_of (ReadingAnswer.Open y d) = accepted (record { mark = Mark.Open; value = record { value = y; direction = d } })
outcome_of (ReadingAnswer.Wrong y d) = accepted (record { mark = Mark.Wrong; value = record { value = y; direction = d } })
outcome_of (ReadingAnswer.Refused k) = refused k
