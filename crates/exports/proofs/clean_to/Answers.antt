-- What refuses the words or the state, or what is told of the kit.
use Rattle.std.proofs.Common.{[], refl, sym, ap, ◌∙◌, arith}
use Rattle.std.specs.Prelude.{Err}
use Rattle.std.proofs.lemmas.Result.{err_from_is_err_and}
use Rattle.factor.specs.declared.Factor.{Factor}
use Rattle.calls.specs.State.{State}
use Rattle.calls.specs.Kit.{Kit}
use Rattle.kit.specs.Answers.{verdict_of}
use Rattle.exports.specs.Kits.{kit_state_of, told_number, clean_to}
use Rattle.exports.proofs.AnswerLaws.{stays, goes, failed, done}
use Rattle.exports.proofs.KitAnswerLaws.{kit_refused, kit_fits, kit_read}
use Rattle.exports.proofs.clean_to.Goals as goal

pub kit_from-requires : goal.kit_from-requires
kit_from-requires c = omega (arith, (kit_fits c.args.state.now 964 0 0 c.in_ok-take_kit.ensures).long)

pub kit_state_of-requires : goal.kit_state_of-requires
kit_state_of-requires c = (kit_fits c.args.state.now 964 0 0 c.in_ok-take_kit.ensures).long

pub returns-in_err-take_kit : goal.returns-in_err-take_kit
unfolding clean_to
returns-in_err-take_kit c =
    let a = c.args in
    let out = sym (kit_refused a.state.now 964 0 0 {v = Err _} c.in_err-take_kit.ensures refl) in
    (failed told_number (λ t. []) [] (err_from_is_err_and _ c.from_residual.ensures.1) (stays (λ k. verdict_of (kit_state_of k a.state.now) a.entries) out)).0

pub returns-in_err-verdict : goal.returns-in_err-verdict
unfolding clean_to
returns-in_err-verdict c =
    let a = c.args in
    let read = kit_read a.state.now 964 0 0 c.in_ok-take_kit.ensures c.kit_from.ensures in
    let is = goes (λ k. verdict_of (kit_state_of k a.state.now) a.entries) read (c.in_err-verdict.ensures ∙ ap (λ (s : State (Kit Factor)). verdict_of s a.entries) c.kit_state_of.ensures) in
    (failed told_number (λ t. []) [] (err_from_is_err_and _ c.from_residual-in_err-verdict.ensures.1) is).0

pub returns : goal.returns
unfolding clean_to
returns c =
    let a = c.args in
    let read = kit_read a.state.now 964 0 0 c.in_ok-take_kit.ensures c.kit_from.ensures in
    let is = goes (λ k. verdict_of (kit_state_of k a.state.now) a.entries) read (c.in_ok-verdict.ensures ∙ ap (λ (s : State (Kit Factor)). verdict_of s a.entries) c.kit_state_of.ensures) in
    (done told_number (λ t. []) [] is c.told_number.ensures refl refl).0
