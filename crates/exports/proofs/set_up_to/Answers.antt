-- The engine's answer as a number and words.
use Rattle.std.proofs.Common.{[], length, refl, ap, arith, lt-ltb, le-ltb}
use Rattle.std.proofs.lemmas.Result.{err_from_is_err_and}
use Rattle.marks.specs.AnswerLaws.{pass, stop, end, refuses, accepts}
use Rattle.factor.specs.SetUp.{set_up}
use Rattle.exports.specs.declared.Failure.{Failure}
use Rattle.exports.specs.Words.{factor_words}
use Rattle.exports.specs.Answers.{set_up_to}
use Rattle.exports.proofs.AnswerLaws.{stays, goes, failed, done}
use Rattle.exports.proofs.set_up_to.Goals as goal

-- there is no room
pub returns-then-out-lt-FACTOR_WORDS : goal.returns-then-out-lt-FACTOR_WORDS
unfolding set_up_to
returns-then-out-lt-FACTOR_WORDS c =
    let all = failed (λ f. 0) factor_words c.args.out.now {k = Failure.TooShort} (_, refl, refl) (stays set_up (refuses (stop {l = []} (lt-ltb _ 10 c.if-out-lt-FACTOR_WORDS.true)) c.args.d)) in
    record { value = all.0; out_after = all.1 }

-- there is
pub put-requires : goal.put-requires
unfolding factor_words
put-requires c = omega (arith, ap length c.factor_words.ensures)

-- the engine refused
pub returns-in_err-f : goal.returns-in_err-f
unfolding set_up_to
returns-in_err-f c =
    let room = accepts (pass (le-ltb _ 10 c.if-out-lt-FACTOR_WORDS.false) end) c.args.d in
    let all = failed (λ f. 0) factor_words c.args.out.now (err_from_is_err_and _ c.from_residual.ensures.1) (goes set_up room c.in_err-f.ensures) in
    record { value = all.0; out_after = all.1 }

-- or it answered
pub returns : goal.returns
unfolding set_up_to
returns c =
    let room = accepts (pass (le-ltb _ 10 c.if-out-lt-FACTOR_WORDS.false) end) c.args.d in
    let all = done (λ f. 0) factor_words c.args.out.now (goes set_up room c.in_ok-f.ensures) refl c.factor_words.ensures c.put.ensures in
    record { value = all.0; out_after = all.1 }
