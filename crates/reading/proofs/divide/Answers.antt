-- Refused, a zero, or the quotient and its binade less k put on.
use Rattle.std.proofs.Common.{sym, ap, ◌∙◌}
use Rattle.std.specs.Float.{binary32}
use Rattle.std.specs.Float.Ieee.{to_bits}
use Rattle.marks.specs.Answers.{accepted}
use Rattle.marks.specs.AnswerLaws.{said_err}
use Rattle.reading.specs.Divided.{quotient_of, divided_reading}
use Rattle.reading.proofs.AnswerLaws.{normal_answered, zero_answered, refused_answered}
use Rattle.reading.proofs.divide.Goals as goal

pub returns-in_err-taken : goal.returns-in_err-taken
unfolding divided_reading
returns-in_err-taken c =
    let a = c.args in
    let b = to_bits binary32 a.reading in
    said_err _ c.from_residual.result c.from_residual.ensures.1 ∙ refused_answered a.f b (quotient_of a.f b) c.in_err-taken.ensures

pub returns-in-Zero : goal.returns-in-Zero
unfolding divided_reading
returns-in-Zero c =
    let t = c.in_ok-taken.taken in
    ap accepted c.zero.ensures ∙ zero_answered c.args.f _ t.factor t.bits c.in_ok-taken.ensures t.readable quotient_of (sym c.in-Zero.ensures)

pub returns-in-Normal : goal.returns-in-Normal
unfolding divided_reading
returns-in-Normal c =
    let t = c.in_ok-taken.taken in
    c.divided.ensures ∙ normal_answered c.args.f _ t.factor t.bits c.in_ok-taken.ensures t.readable quotient_of (sym c.in-Normal.ensures)
