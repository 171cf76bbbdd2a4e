-- The engine's answer as a number and words.
use Rattle.std.proofs.Common.{length, refl, ap, arith}
use Rattle.std.proofs.lemmas.Result.{err_from_is_err_and}
use Rattle.quotient.specs.Answer.{divided}
use Rattle.exports.specs.Answers.{quotient_words, divide_to}
use Rattle.exports.proofs.AnswerLaws.{enough, stays, goes, failed, done}
use Rattle.exports.proofs.divide_to.Goals as goal

-- there is room
pub put-requires : goal.put-requires
put-requires c = omega (arith, (enough c.in_ok-f.ensures).roomy, ap length c.quotient_words.ensures)

-- the words were not taken
pub returns-in_err-f : goal.returns-in_err-f
unfolding divide_to
returns-in_err-f c =
    let a = c.args in
    let all = failed (λ v. 0) quotient_words a.out.now (err_from_is_err_and _ c.from_residual.ensures.1) (stays (λ f. divided f a.x) c.in_err-f.ensures) in
    record { value = all.0; out_after = all.1 }

-- the engine refused
pub returns-in_err-v : goal.returns-in_err-v
unfolding divide_to
returns-in_err-v c =
    let a = c.args in
    let all = failed (λ v. 0) quotient_words a.out.now (err_from_is_err_and _ c.from_residual-in_err-v.ensures.1) (goes (λ f. divided f a.x) c.in_ok-f.ensures c.in_err-v.ensures) in
    record { value = all.0; out_after = all.1 }

-- or it answered
pub returns : goal.returns
unfolding divide_to
returns c =
    let a = c.args in
    let all = done (λ v. 0) quotient_words a.out.now (goes (λ f. divided f a.x) c.in_ok-f.ensures c.in_ok-v.ensures) refl c.quotient_words.ensures c.put.ensures in
    record { value = all.0; out_after = all.1 }
