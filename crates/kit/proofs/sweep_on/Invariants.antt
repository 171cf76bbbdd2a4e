-- What is done so far and what is left to do are what the call does.
use Rattle.kit.specs.SweepLaws.{Working}
use Rattle.kit.proofs.sweep_on.Given as goal

abbrev pub invariant-loop-place : goal.invariant-loop-place
invariant-loop-place l = Working l.fn.s l.fn.cap l.fn.tail l.place l.work l.tail
