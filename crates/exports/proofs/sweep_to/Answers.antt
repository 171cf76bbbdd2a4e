-- The engine's reply as a number and words.
use Rattle.std.proofs.Common.{◌≡◌, sym, ap, ◌∙◌, ℕ, List, length}
use Rattle.std.proofs.lemmas.Result.{err_from_is_err_and}
use Rattle.marks.specs.Answers.{Outcome, accepted}
use Rattle.factor.specs.declared.Factor.{Factor}
use Rattle.calls.specs.State.{Range, State}
use Rattle.calls.specs.Call.{Reply, sweep_call}
use Rattle.sweep.specs.Engine.{engine}
use Rattle.sweep.specs.Answers.{call_of}
use Rattle.exports.specs.Failures.{failure_number, returned}
use Rattle.exports.specs.Words.{state_of}
use Rattle.exports.specs.Answers.{taken, SweepWords, reply_words, reply_to, sweep_to}
use Rattle.exports.proofs.AnswerLaws.{enough, gives_sweep}
use Rattle.exports.proofs.sweep_to.Goals as goal

module _ (state : List ℕ) (cap : ℕ) (list : List ℕ) (free : ℕ) (counts : List ℕ) where
  -- what is answered, where the factor is taken or not
  abbrev asked : Outcome Factor → SweepWords
  asked o = reply_to list o (λ f. sweep_call engine (state_of f state) (call_of cap list free))

  -- what the engine replies, and so what is answered
  replied : {f : Factor} {s : State (Range Factor)} {q : Reply (Range Factor)} → accepted f ≡ taken state 14 (length counts) 3 → s ≡ state_of f state → q ≡ sweep_call engine s (call_of cap list free)
      → sweep_to state cap list free counts ≡ reply_words q
  unfolding sweep_to
  replied t s q = ap asked (sym t) ∙ ap reply_words (sym (q ∙ ap (λ (s : State (Range Factor)). sweep_call engine s (call_of cap list free)) s))

pub state_of-requires : goal.state_of-requires
state_of-requires c = (enough c.in_ok-f.ensures).long

pub put_state-requires : goal.put_state-requires
put_state-requires c = (enough c.in_ok-f.ensures).long

pub put-requires : goal.put-requires
put-requires c = (enough c.in_ok-f.ensures).roomy

-- the words were not taken
pub returns-in_err-f : goal.returns-in_err-f
unfolding sweep_to
returns-in_err-f c =
    let a = c.args in
    let p = err_from_is_err_and c.from_residual.result c.from_residual.ensures.1 in
    let all = gives_sweep _ _ a.state.now a.counts.now (ap (asked a.state.now a.cap a.list.now a.free a.counts.now) (sym c.in_err-f.ensures)) in
    record { value = ap returned p.1 ∙ ap failure_number p.2 ∙ all.0; state_after = all.1.0; list_after = all.1.1.0; counts_after = all.1.1.1 }

-- the engine refused
pub returns-in_err-r : goal.returns-in_err-r
returns-in_err-r c =
    let a = c.args in
    let p = err_from_is_err_and c.from_residual-in_err-r.result c.from_residual-in_err-r.ensures.1 in
    let is = replied a.state.now a.cap a.list.now a.free a.counts.now c.in_ok-f.ensures c.state_of.ensures c.in_err-r.ensures in
    let all = gives_sweep _ _ a.state.now a.counts.now is in
    record { value = ap returned p.1 ∙ ap failure_number p.2 ∙ all.0; state_after = all.1.0; list_after = all.1.1.0; counts_after = all.1.1.1 }

-- or it answered
pub returns : goal.returns
returns c =
    let a = c.args in
    let is = replied a.state.now a.cap a.list.now a.free a.counts.now c.in_ok-f.ensures c.state_of.ensures c.in_ok-r.ensures in
    let all = gives_sweep _ _ a.state.now a.counts.now is in
    record { value = all.0; state_after = c.put_state.ensures ∙ all.1.0; list_after = all.1.1.0; counts_after = c.put.ensures ∙ all.1.1.1 }
