-- Refused, a zero, or the product on the device and what becomes of it.
use Rattle.std.proofs.Common.{◌≡◌, refl, sym, ap, ◌∙◌, subst, ℕ, Float}
use Rattle.std.specs.Float.{binary32}
use Rattle.std.specs.Float.Ieee.{to_bits}
use Rattle.marks.specs.declared.Mark.{Mark}
use Rattle.marks.specs.declared.Marked.{Marked}
use Rattle.marks.specs.Answers.{accepted}
use Rattle.rounding.specs.declared.Directed.{Directed}
use Rattle.rounding.specs.Round.{HasBits}
use Rattle.floats.specs.Fields.{significand_of}
use Rattle.factor.specs.declared.Factor.{Factor}
use Rattle.product.specs.declared.Device.{Device}
use Rattle.product.proofs.DeviceLaws.{formed}
use Rattle.reading.specs.Reading.{sign_with, directed_zero, Made, product_of, product_at, directed_at, finished, applied}
use Rattle.marks.specs.AnswerLaws.{said_err}
use Rattle.reading.proofs.AnswerLaws.{ready, normal_answered, zero_answered, refused_answered}
use Rattle.reading.proofs.multiplied.Goals as goal

-- what is made of a reading by its bits
abbrev made : Device → Factor → ℕ → Made (Marked (Directed Float))
made d f b = product_of f b (directed_at d f b)

-- what is made of a zero: said by itself, so that a wrong one is found at once
zero_is : (d : Device) (f : Factor) (b : ℕ) → accepted (record { mark = Mark.Right; value = directed_zero (sign_with f b) }) ≡ accepted (made d f b).of_zero
zero_is d f b = refl

pub finish-requires : goal.finish-requires
finish-requires c =
    let t = c.in_ok-taken.taken in
    let r = ready t.factor t.bits t.readable in
    let is = formed c.args.d t.factor r.sound (significand_of binary32 t.bits) r.bits in
    (rw c.product_on.ensures (subst (λ (n : ℕ). HasBits n (product_at c.args.d t.factor t.bits).significand) r.precision is.bits), rw c.product_on.ensures is.binade)

pub returns-in_err-taken : goal.returns-in_err-taken
unfolding applied
returns-in_err-taken c =
    let a = c.args in
    let b = to_bits binary32 a.reading in
    said_err _ c.from_residual.result c.from_residual.ensures.1 ∙ refused_answered a.f b (made a.d a.f b) c.in_err-taken.ensures

pub returns-in-Zero : goal.returns-in-Zero
unfolding applied
returns-in-Zero c =
    let t = c.in_ok-taken.taken in
    ap accepted c.zero_read.ensures ∙ zero_is c.args.d t.factor t.bits ∙ zero_answered c.args.f _ t.factor t.bits c.in_ok-taken.ensures t.readable (made c.args.d) (sym c.in-Zero.ensures)

pub returns-in-Normal : goal.returns-in-Normal
unfolding applied finished
returns-in-Normal c =
    let t = c.in_ok-taken.taken in
    c.finish.ensures ∙ ap (finished t.factor t.bits) c.product_on.ensures ∙ normal_answered c.args.f _ t.factor t.bits c.in_ok-taken.ensures t.readable (made c.args.d) (sym c.in-Normal.ensures)
