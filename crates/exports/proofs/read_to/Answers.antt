-- The engine's answer as a number and words.
use Rattle.std.proofs.Common.{ap, ◌∙◌}
use Rattle.std.proofs.lemmas.Result.{err_from_is_err_and}
use Rattle.std.specs.Float.{binary32}
use Rattle.std.specs.Float.Ieee.{of_bits}
use Rattle.reading.specs.Reading.{applied}
use Rattle.exports.specs.Answers.{mark_number, reading_words, reading_answer, leaves, read_to}
use Rattle.exports.proofs.AnswerLaws.{enough, stays, goes, failed}
use Rattle.exports.proofs.read_to.Goals as goal

-- there is room
pub tell_reading-requires : goal.tell_reading-requires
tell_reading-requires c = (enough c.in_ok-f.ensures).roomy

-- the words were not taken
pub returns-in_err-f : goal.returns-in_err-f
unfolding read_to
returns-in_err-f c =
    let a = c.args in
    let all = failed (λ y. mark_number y.mark) (λ y. reading_words y.value) a.out.now (err_from_is_err_and _ c.from_residual.ensures.1) (stays (λ f. applied a.d f (of_bits binary32 a.reading)) c.in_err-f.ensures) in
    record { value = all.0; out_after = all.1 }

-- the engine's answer
pub returns : goal.returns
unfolding read_to
returns c =
    let a = c.args in
    let is = goes (λ f. applied a.d f (of_bits binary32 a.reading)) c.in_ok-f.ensures (c.read.ensures ∙ ap (applied a.d c.in_ok-f.f) c.float_from.ensures) in
    let told = c.tell_reading.ensures in
    record { value = told.value ∙ ap (λ o. (reading_answer o).number) is; out_after = told.out_after ∙ ap (λ o. leaves (reading_answer o) a.out.now) is }
