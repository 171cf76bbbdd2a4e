-- The engine's answer as a number and words.
use Rattle.std.proofs.Common.{length, refl, ap, arith}
use Rattle.std.proofs.lemmas.Result.{err_from_is_err_and}
use Rattle.tally.specs.Tally.{tallied}
use Rattle.exports.specs.Answers.{tally_words, tally_to}
use Rattle.exports.proofs.AnswerLaws.{enough, stays, goes, failed, done}
use Rattle.exports.proofs.tally_to.Goals as goal

-- there is room
pub put-requires : goal.put-requires
put-requires c = omega (arith, (enough c.in_ok-f.ensures).roomy, ap length c.tally_words.ensures)

-- the words were not taken
pub returns-in_err-f : goal.returns-in_err-f
unfolding tally_to
returns-in_err-f c =
    let a = c.args in
    let all = failed (λ t. 0) tally_words a.out.now (err_from_is_err_and _ c.from_residual.ensures.1) (stays (λ f. tallied f a.first a.last) c.in_err-f.ensures) in
    record { value = all.0; out_after = all.1 }

-- the engine refused
pub returns-in_err-t : goal.returns-in_err-t
unfolding tally_to
returns-in_err-t c =
    let a = c.args in
    let all = failed (λ t. 0) tally_words a.out.now (err_from_is_err_and _ c.from_residual-in_err-t.ensures.1) (goes (λ f. tallied f a.first a.last) c.in_ok-f.ensures c.in_err-t.ensures) in
    record { value = all.0; out_after = all.1 }

-- or it answered
pub returns : goal.returns
unfolding tally_to
returns c =
    let a = c.args in
    let all = done (λ t. 0) tally_words a.out.now (goes (λ f. tallied f a.first a.last) c.in_ok-f.ensures c.in_ok-t.ensures) refl c.tally_words.ensures c.put.ensures in
    record { value = all.0; out_after = all.1 }
