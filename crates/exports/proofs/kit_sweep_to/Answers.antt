-- The engine's reply as a number and words.
use Rattle.std.proofs.Common.{◌≡◌, refl, sym, ap, ◌∙◌, ℕ, ◌^◌, ◌<◌, List, length, arith, rules}
use Rattle.std.specs.Prelude.{Result, Err}
use Rattle.std.proofs.lemmas.List.Edits.{sets}
use Rattle.std.proofs.lemmas.Result.{err_from_is_err_and}
use Rattle.marks.specs.declared.Refusal.{Refusal}
use Rattle.marks.specs.Answers.{none, First, Outcome}
use Rattle.factor.specs.declared.Factor.{Factor}
use Rattle.calls.specs.State.{State}
use Rattle.calls.specs.Call.{Reply, sweep_call}
use Rattle.calls.specs.Kit.{Kit}
use Rattle.sweep.specs.Answers.{call_of}
use Rattle.kit.specs.declared.KitCounts.{KitCounts}
use Rattle.kit.specs.declared.KitState.{KitState}
use Rattle.kit.specs.Engine.{kits}
use Rattle.kit.specs.Answers.{view_of, answer_of}
use Rattle.exports.specs.Failures.{failure_number, returned}
use Rattle.exports.specs.Answers.{SweepWords}
use Rattle.exports.specs.Kits.{kit_from, kit_state_of, kit_unfit, kit_sweep_answer, kit_reply_words, kit_reply_to, kit_sweep_to}
use Rattle.exports.proofs.KitAnswerLaws.{kit_refused, kit_fits, kit_read, behind_is, gives_kit}
use Rattle.exports.proofs.kit_sweep_to.Goals as goal

-- the reply of a call and the list it left, as words
abbrev words : List ℕ → KitState → Result KitCounts Refusal → SweepWords
words list s a = kit_sweep_answer (answer_of a) (view_of s) list

module _ (state : List ℕ) (cap : ℕ) (list : List ℕ) (free : ℕ) (counts : List ℕ) where
  -- what is answered, where the words are taken or not
  abbrev asked : Outcome (Kit Factor) → SweepWords
  asked o = kit_reply_to list o (λ k. sweep_call kits (kit_state_of k state) (call_of cap list free))

  -- what the engine replies, and so what is answered
  replied : {k : Kit Factor} {s : State (Kit Factor)} {q : Reply (Kit Factor)} → First (kit_unfit state 964 (length counts) 3) none → k ≡ kit_from state → s ≡ kit_state_of k state → q ≡ sweep_call kits s (call_of cap list free)
      → kit_sweep_to state cap list free counts ≡ kit_reply_words q
  unfolding kit_sweep_to
  replied t k s q = ap asked (sym (kit_read state 964 (length counts) 3 t k)) ∙ ap kit_reply_words (sym (q ∙ ap (λ (s : State (Kit Factor)). sweep_call kits s (call_of cap list free)) s))

pub kit_from-requires : goal.kit_from-requires
kit_from-requires c = omega (arith, (kit_fits c.args.state.now 964 (length c.args.counts.now) 3 c.in_ok-take_kit.ensures).long)

pub kit_state_of-requires : goal.kit_state_of-requires
kit_state_of-requires c = (kit_fits c.args.state.now 964 (length c.args.counts.now) 3 c.in_ok-take_kit.ensures).long

pub put-requires : goal.put-requires
put-requires c = let three = ap length c.words_behind.ensures in omega (arith, (kit_fits c.args.state.now 964 (length c.args.counts.now) 3 c.in_ok-take_kit.ensures).long)

pub put-requires-2 : goal.put-requires-2
put-requires-2 c = (kit_fits c.args.state.now 964 (length c.args.counts.now) 3 c.in_ok-take_kit.ensures).roomy

-- the words were not taken
pub returns-in_err-take_kit : goal.returns-in_err-take_kit
unfolding kit_sweep_to
returns-in_err-take_kit c =
    let a = c.args in
    let p = err_from_is_err_and c.from_residual.result c.from_residual.ensures.1 in
    let all = gives_kit _ _ a.state.now a.counts.now (ap (asked a.state.now a.cap a.list.now a.free a.counts.now) (kit_refused a.state.now 964 (length a.counts.now) 3 {v = Err _} c.in_err-take_kit.ensures refl)) in
    record { value = ap returned p.1 ∙ ap failure_number p.2 ∙ all.0; state_after = all.1.0; list_after = all.1.1.0; counts_after = all.1.1.1 }

-- the engine refused
pub returns-in_err-c : goal.returns-in_err-c
returns-in_err-c c =
    let a = c.args in
    let p = err_from_is_err_and c.from_residual-in_err-c.result c.from_residual-in_err-c.ensures.1 in
    let is = replied a.state.now a.cap a.list.now a.free a.counts.now c.in_ok-take_kit.ensures c.kit_from.ensures c.kit_state_of.ensures c.kit_call-r.ensures in
    let all = gives_kit _ _ a.state.now a.counts.now (is ∙ ap (words c.kit_call-r.new.list c.kit_call-r.result.state) c.in_err-c.was) in
    record { value = ap returned p.1 ∙ ap failure_number p.2 ∙ all.0; state_after = all.1.0; list_after = all.1.1.0; counts_after = all.1.1.1 }

-- or it answered
pub returns : goal.returns
returns c =
    let a = c.args in
    let s = c.kit_call-r.result.state in
    let word : s.next < 2 ^ 64 = search rules in
    let is = replied a.state.now a.cap a.list.now a.free a.counts.now c.in_ok-take_kit.ensures c.kit_from.ensures c.kit_state_of.ensures c.kit_call-r.ensures in
    let all = gives_kit _ _ a.state.now a.counts.now (is ∙ ap (words c.kit_call-r.new.list s) c.in_ok-c.was) in
    record {
      value = all.0;
      state_after = c.put.ensures ∙ ap (sets a.state.now 961) (c.words_behind.ensures ∙ sym (behind_is s word)) ∙ all.1.0;
      list_after = all.1.1.0;
      counts_after = c.put-2.ensures ∙ all.1.1.1;
    }
