-- Laws: the answer to a reading that is no zero and that none of 31, 20, 21 and 22 refuses is, on either device, the product of its significand with the reading's own sign and exponent put on; divided, it is the quotient of its significand, alike. Assumes nothing.
use Rattle.std.specs.Prelude.{◌≡◌, Bool, false, [], ◌∷◌, ℕ, ◌^◌, ℤ, Float}
use Rattle.std.proofs.Math.Path.{sym, ap}
use Rattle.std.proofs.Common.{◌∙◌, le-ltb}
use Rattle.std.specs.Float.Ieee.{binary32, prec, hid, unlike, to_bits}
use Rattle.std.proofs.lemmas.Bool.{lt-leb}
use Rattle.marks.specs.declared.Marked.{Marked}
use Rattle.marks.specs.Answers.{NoneHolds, none, First, Outcome, answer, and_then}
use Rattle.marks.specs.AnswerLaws.{pass, end, accepts}
use Rattle.rounding.specs.declared.Directed.{Directed}
use Rattle.rounding.specs.declared.Direction.{Direction}
use Rattle.rounding.specs.Direction.{signed_direction}
use Rattle.rounding.proofs.DirectedLaws.{signed_again}
use Rattle.floats.specs.Fields.{sign_of, zero_bits, significand_of}
use Rattle.floats.proofs.Pattern.{significand_bits}
use Rattle.factor.specs.declared.Factor.{Factor}
use Rattle.factor.specs.Precision.{significand_out}
use Rattle.product.specs.declared.Device.{Device}
use Rattle.rounding.specs.declared.Signed.{Signed}
use Rattle.product.specs.declared.Product.{Product}
use Rattle.product.specs.Answer.{conditions, marked, answered, multiplied}
use Rattle.quotient.specs.declared.Quotient.{Quotient}
use Rattle.quotient.specs.Quotient.{directed_by, signed_quotient}
use Rattle.quotient.specs.Answer.{divided}
use Rattle.reading.specs.Reading.{unreadable, sign_with, exponent_out, number_of, directed_number, product_exponent, product_of, directed_at, applied}
use Rattle.reading.specs.Divided.{quotient_exponent, quotient_of, divided_reading}
use Rattle.reading.proofs.AnswerLaws.{precision_is, others_answered}

-- ---- a reading's own sign and exponent e put on a number with a sign m, a significand S and a direction: a negative reading turns the sign and mirrors the direction
abbrev pub by_reading : (b : ℕ) (m : Bool) (S : ℕ) → ℤ → Direction → Directed Float
by_reading b m S e d = record { value = number_of binary32 (unlike (sign_of binary32 b) m) S e; direction = signed_direction (sign_of binary32 b) d }

-- both signs put on at once give the same
one_by_one : (f : Factor) (b S : ℕ) (e : ℤ) (d : Direction) → directed_number (sign_with f b) S e d ≡ by_reading b f.minus S e (signed_direction f.minus d)
one_by_one f b S e d = λ i. record { value = number_of binary32 (sign_with f b) S e; direction = signed_again (sign_of binary32 b) f.minus d i }

-- on a product with its mark, and on a quotient, unless 23 refuses it
abbrev pub reading_of : Factor → ℕ → Marked (Signed Product) → Outcome (Marked (Directed Float))
reading_of f b a =
    let v = a.value in
    let e = product_exponent f b v.value in
    answer ((23, exponent_out binary32 e) ∷ []) (record { mark = a.mark; value = by_reading b v.minus v.value.significand e v.direction })

abbrev pub quotient_reading_of : Factor → ℕ → Signed Quotient → Outcome (Directed Float)
quotient_reading_of f b v = let e = quotient_exponent f b v.value in answer ((23, exponent_out binary32 e) ∷ []) (by_reading b v.minus v.value.significand e v.direction)

-- ---- a reading that nothing refuses before its work, and no zero
module _ (f : Factor) (x : Float) (h : NoneHolds (unreadable f (to_bits binary32 x))) (nonzero : zero_bits binary32 (to_bits binary32 x) ≡ false) where
  abbrev b : ℕ
  b = to_bits binary32 x

  abbrev X : ℕ
  X = significand_of binary32 b

  -- its significand is refused by neither 31 nor 17
  through : First (conditions f X) none
  through =
      let is = significand_bits binary32 b in
      let in_range_lem : significand_out f.precision X ≡ false = rw (precision_is f b h, le-ltb X (hid binary32) is.least, lt-leb (2 ^ prec binary32) X is.most) in
      pass h.0 (pass in_range_lem end)

  pub from_product : (d : Device) → applied d f x ≡ and_then (multiplied d f X) (reading_of f b)
  unfolding applied multiplied
  from_product d =
      let v = directed_at d f b in
      let e = product_exponent f b v.value in
      let a = marked f X v in
      sym (others_answered f b h (product_of f b v) nonzero)
      ∙ ap (λ (y : Directed Float). answer ((23, exponent_out binary32 e) ∷ []) (record { mark = a.mark; value = y })) (one_by_one f b v.value.significand e v.direction)
      ∙ ap (λ (o : Outcome (Marked (Signed Product))). and_then o (reading_of f b)) (accepts through (answered f a))

  pub from_quotient : divided_reading f x ≡ and_then (divided f X) (quotient_reading_of f b)
  unfolding divided_reading divided
  from_quotient =
      let v = directed_by f X in
      let e = quotient_exponent f b v.value in
      sym (others_answered f b h (quotient_of f b) nonzero)
      ∙ ap (answer ((23, exponent_out binary32 e) ∷ [])) (one_by_one f b v.value.significand e v.direction)
      ∙ ap (λ (o : Outcome (Signed Quotient)). and_then o (quotient_reading_of f b)) (accepts through (signed_quotient f.minus v))
