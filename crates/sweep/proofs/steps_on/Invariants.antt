-- What is done so far and what is left to do are all; each step leaves less of the range.
use Rattle.sweep.proofs.LoopLaws.{Working, steps_left}
use Rattle.sweep.proofs.steps_on.Given as goal

abbrev pub invariant-loop-next : goal.invariant-loop-next
invariant-loop-next l = Working l.s l.cap l.room l.lead l.fn.done l.fn.tail l.w l.tail

abbrev pub decreases-loop-next : goal.decreases-loop-next
decreases-loop-next l = steps_left l.s l.w
