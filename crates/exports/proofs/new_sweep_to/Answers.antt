-- The engine's answer as a number and words.
use Rattle.std.proofs.Common.{refl}
use Rattle.std.proofs.lemmas.Result.{err_from_is_err_and}
use Rattle.calls.specs.Call.{new_state}
use Rattle.sweep.specs.Engine.{range, engine}
use Rattle.exports.specs.Words.{state_words}
use Rattle.exports.specs.Answers.{new_sweep_to}
use Rattle.exports.proofs.AnswerLaws.{enough, stays, goes, failed, done}
use Rattle.exports.proofs.new_sweep_to.Goals as goal

-- there is room
pub put_state-requires : goal.put_state-requires
put_state-requires c = (enough c.in_ok-f.ensures).roomy

-- the words were not taken
pub returns-in_err-f : goal.returns-in_err-f
unfolding new_sweep_to
returns-in_err-f c =
    let a = c.args in
    let all = failed (λ s. 0) state_words a.out.now (err_from_is_err_and _ c.from_residual.ensures.1) (stays (λ f. new_state engine (range f a.first a.last)) c.in_err-f.ensures) in
    record { value = all.0; out_after = all.1 }

-- the engine refused
pub returns-in_err-s : goal.returns-in_err-s
unfolding new_sweep_to
returns-in_err-s c =
    let a = c.args in
    let all = failed (λ s. 0) state_words a.out.now (err_from_is_err_and _ c.from_residual-in_err-s.ensures.1) (goes (λ f. new_state engine (range f a.first a.last)) c.in_ok-f.ensures c.in_err-s.ensures) in
    record { value = all.0; out_after = all.1 }

-- or it answered
pub returns : goal.returns
unfolding new_sweep_to
returns c =
    let a = c.args in
    let all = done (λ s. 0) state_words a.out.now (goes (λ f. new_state engine (range f a.first a.last)) c.in_ok-f.ensures c.in_ok-s.ensures) refl refl c.put_state.ensures in
    record { value = all.0; out_after = all.1 }
