-- What the loop has made, and what is left to make, are all steps.
use Rattle.std.proofs.Common.{sym}
use Rattle.stream.specs.LoopLaws.{begin, one_less, one_more, all_done}
use Rattle.stream.proofs.steps.Goals as goal

pub loop-out-init : goal.loop-out-init
loop-out-init c = begin _ c.requires.0 _ _ c.requires.1 _

pub loop-out-smaller : goal.loop-out-smaller
loop-out-smaller c = one_less _ _ _ _ _ c.loop-out.invariant (sym c.loop-out-test.ensures) _ _ c.step-moved.ensures.0

pub loop-out-preserved : goal.loop-out-preserved
loop-out-preserved c = one_more _ _ _ _ _ c.loop-out.invariant (sym c.loop-out-test.ensures) _ _ c.step-moved.ensures.0

pub returns : goal.returns
returns c = all_done _ _ _ _ _ c.loop-out.invariant (sym c.loop-out-test.ensures)
