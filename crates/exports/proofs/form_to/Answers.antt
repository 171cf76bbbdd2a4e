-- What refuses the words, or the kit.
use Rattle.std.proofs.Common.{[], refl, sym}
use Rattle.std.specs.Prelude.{Err}
use Rattle.std.proofs.lemmas.Result.{err_from_is_err_and}
use Rattle.marks.specs.Answers.{answer}
use Rattle.marks.specs.AnswerLaws.{refuses, accepts}
use Rattle.kit.specs.Engine.{kits}
use Rattle.kit.specs.Answers.{kit_of}
use Rattle.exports.specs.Kits.{form_to}
use Rattle.exports.proofs.AnswerLaws.{stays, goes, failed, done}
use Rattle.exports.proofs.KitAnswerLaws.{kit_refused, kit_fits, kit_read}
use Rattle.exports.proofs.form_to.Goals as goal

-- the words were not taken
pub returns-in_err-take_kit : goal.returns-in_err-take_kit
unfolding form_to
returns-in_err-take_kit c =
    let out = kit_refused c.args.kit.now 961 0 0 {v = Err _} c.in_err-take_kit.ensures refl in
    (failed (λ k. 0) (λ k. []) [] (err_from_is_err_and _ c.from_residual.ensures.1) (stays (λ k. answer (kits.new_faults k) k) (sym out))).0

pub kit_from-requires : goal.kit_from-requires
kit_from-requires c = (kit_fits c.args.kit.now 961 0 0 c.in_ok-take_kit.ensures).long

-- the engine refused
pub returns-in_err-kit_check : goal.returns-in_err-kit_check
unfolding form_to
returns-in_err-kit_check c =
    let taken = kit_read c.args.kit.now 961 0 0 c.in_ok-take_kit.ensures c.kit_from.ensures in
    (failed (λ k. 0) (λ k. []) [] (err_from_is_err_and _ c.from_residual-in_err-kit_check.ensures.1)
    (goes (λ k. answer (kits.new_faults k) k) taken (refuses c.in_err-kit_check.ensures (kit_of c.kit_from.result)))).0

-- or it did not
pub returns : goal.returns
unfolding form_to
returns c =
    let taken = kit_read c.args.kit.now 961 0 0 c.in_ok-take_kit.ensures c.kit_from.ensures in
    (done (λ k. 0) (λ k. []) [] (goes (λ k. answer (kits.new_faults k) k) taken (accepts c.in_ok-kit_check.ensures (kit_of c.kit_from.result))) refl refl refl).0
