-- Refused, or told by the finished mark and the entries.
use Rattle.std.proofs.Common.{◌∙◌, eq-eqb, ne_eqb}
use Rattle.marks.specs.AnswerLaws.{none_holds, said_err}
use Rattle.kit.specs.Engine.{kits}
use Rattle.kit.specs.Answers.{Verdict, view_of}
use Rattle.kit.specs.StateLaws.{verdict_refused, verdict_told}
use Rattle.kit.proofs.kit_verdict.Goals as goal

pub returns-in_err-state_check : goal.returns-in_err-state_check
returns-in_err-state_check c =
    said_err _ c.from_residual.result c.from_residual.ensures.1 ∙ verdict_refused c.args.state c.args.entries c.in_err-state_check.ensures

pub returns-in-true-eq0 : goal.returns-in-true-eq0
returns-in-true-eq0 c =
    verdict_told c.args.state c.args.entries {v = Verdict.Clean} (none_holds (kits.faults (view_of c.args.state)) c.in_ok-state_check.ensures.is) (rw (c.in-true-eq0.is-0, eq-eqb _ 0 c.in-true-eq0.is-1))

pub returns-in-true-default : goal.returns-in-true-default
returns-in-true-default c =
    verdict_told c.args.state c.args.entries {v = Verdict.NotClean} (none_holds (kits.faults (view_of c.args.state)) c.in_ok-state_check.ensures.is) (rw (c.in-true-default.is-0, ne_eqb _ 0 c.in-true-default.is-1.1))

pub returns-in-false-default : goal.returns-in-false-default
returns-in-false-default c =
    verdict_told c.args.state c.args.entries {v = Verdict.Unfinished} (none_holds (kits.faults (view_of c.args.state)) c.in_ok-state_check.ensures.is) (rw c.in-false-default.is-0)
