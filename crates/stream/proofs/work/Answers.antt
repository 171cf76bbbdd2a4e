-- Where no step is wanted the input has ended; else all steps are made.
use Rattle.std.proofs.Common.{sym, arith}
use Rattle.stream.specs.LoopLaws.{worked_ended, worked_made}
use Rattle.stream.proofs.work.Goals as goal

pub returns-then-not-wants_step : goal.returns-then-not-wants_step
returns-then-not-wants_step c =
    worked_ended _ c.requires.0 _ _ c.requires.1 _ _ (sym c.if-not-wants_step.ensures) _ c.finish-last.ensures.0 (omega arith)

pub returns : goal.returns
returns c = worked_made c.args.p c.requires.0 _ c.args.at c.requires.1 _ _ (sym c.if-not-wants_step.ensures) _ _ c.steps-moved.ensures c.next_after-next.ensures
