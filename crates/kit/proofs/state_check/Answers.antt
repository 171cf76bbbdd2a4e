-- The kit's refusals come first, then 32.
use Rattle.std.proofs.Common.{sym, ◌∙◌}
use Rattle.marks.specs.AnswerLaws.{pass, stop, end, pass_first, stop_first, none_holds}
use Rattle.kit.specs.Engine.{kits}
use Rattle.kit.specs.Answers.{kit_of}
use Rattle.kit.specs.StateLaws.{handed_on}
use Rattle.kit.proofs.state_check.Goals as goal

pub returns-in_err-kit_check : goal.returns-in_err-kit_check
returns-in_err-kit_check c = handed_on _ c.from_residual.result c.from_residual.ensures.1 (stop_first (kits.new_faults (kit_of c.args.s.kit)) _ c.in_err-kit_check.ensures)

pub place_out-requires : goal.place_out-requires
place_out-requires c = none_holds (kits.new_faults (kit_of c.args.s.kit)) c.in_ok-kit_check.ensures.is

pub returns-then-place_out : goal.returns-then-place_out
returns-then-place_out c =
    let l = kits.new_faults (kit_of c.args.s.kit) in
    pass_first l _ (none_holds l c.in_ok-kit_check.ensures.is) (stop (sym c.place_out.ensures ∙ c.if-place_out.true))

pub returns : goal.returns
returns c =
    let l = kits.new_faults (kit_of c.args.s.kit) in
    pass_first l _ (none_holds l c.in_ok-kit_check.ensures.is) (pass (sym c.place_out.ensures ∙ c.if-place_out.false) end)
