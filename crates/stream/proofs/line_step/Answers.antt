-- The line's refusal, or its factor.
use Rattle.std.proofs.Common.{sym}
use Rattle.factor.proofs.SetUpLaws.{intact_sound}
use Rattle.stream.specs.StepLaws.{judged_intact}
use Rattle.stream.specs.MoveLaws.{line_accepted}
use Rattle.stream.proofs.line_step.Goals as goal

pub invariant_of-begin : goal.invariant_of-begin
invariant_of-begin c = record { sound = intact_sound _ (judged_intact _ _ (sym c.in-Ok.ensures)) }

pub returns-in-Ok : goal.returns-in-Ok
returns-in-Ok c = line_accepted _ _ c.requires.0 c.args.at _ _ _ _ c.at_line.result c.in-Ok.ensures c.begin.ensures c.at_line.ensures.1
