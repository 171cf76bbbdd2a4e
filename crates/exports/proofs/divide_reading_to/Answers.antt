-- The engine's answer as a number and words.
use Rattle.std.proofs.Common.{length, refl, ap, ◌∙◌, arith}
use Rattle.std.proofs.lemmas.Result.{err_from_is_err_and}
use Rattle.std.specs.Float.{binary32}
use Rattle.std.specs.Float.Ieee.{of_bits}
use Rattle.reading.specs.Divided.{divided_reading}
use Rattle.exports.specs.Answers.{reading_words, divide_reading_to}
use Rattle.exports.proofs.AnswerLaws.{enough, stays, goes, failed, done}
use Rattle.exports.proofs.divide_reading_to.Goals as goal

-- there is room
pub put-requires : goal.put-requires
put-requires c = omega (arith, (enough c.in_ok-f.ensures).roomy, ap length c.reading_words.ensures)

-- the words were not taken
pub returns-in_err-f : goal.returns-in_err-f
unfolding divide_reading_to
returns-in_err-f c =
    let a = c.args in
    let all = failed (λ y. 0) reading_words a.out.now (err_from_is_err_and _ c.from_residual.ensures.1) (stays (λ f. divided_reading f (of_bits binary32 a.reading)) c.in_err-f.ensures) in
    record { value = all.0; out_after = all.1 }

-- the engine refused
pub returns-in_err-y : goal.returns-in_err-y
unfolding divide_reading_to
returns-in_err-y c =
    let a = c.args in
    let is = goes (λ f. divided_reading f (of_bits binary32 a.reading)) c.in_ok-f.ensures (c.in_err-y.ensures ∙ ap (divided_reading c.in_ok-f.f) c.float_from.ensures) in
    let all = failed (λ y. 0) reading_words a.out.now (err_from_is_err_and _ c.from_residual-in_err-y.ensures.1) is in
    record { value = all.0; out_after = all.1 }

-- or it answered
pub returns : goal.returns
unfolding divide_reading_to
returns c =
    let a = c.args in
    let is = goes (λ f. divided_reading f (of_bits binary32 a.reading)) c.in_ok-f.ensures (c.in_ok-y.ensures ∙ ap (divided_reading c.in_ok-f.f) c.float_from.ensures) in
    let all = done (λ y. 0) reading_words a.out.now is refl c.reading_words.ensures c.put.ensures in
    record { value = all.0; out_after = all.1 }
