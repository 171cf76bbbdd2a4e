-- Some steps are made of all of them: what is left to make comes to the rest.
use Rattle.std.proofs.Common.{◌+◌, ◌-◌, length, drop}
use Rattle.stream.specs.Step.{read_of}
use Rattle.stream.specs.Work.{all_steps}
use Rattle.stream.specs.LoopLaws.{Begun}
use Rattle.stream.proofs.steps.Given as goal

abbrev pub invariant-loop-out : goal.invariant-loop-out
invariant-loop-out l = Begun (all_steps (length l.fn.out) (read_of l.fn.progress) (drop l.at l.input)) l.input l.fn.out l.moved l.out

abbrev pub decreases-loop-out : goal.decreases-loop-out
decreases-loop-out l = length l.input - l.moved.at + (length l.fn.out - l.moved.used)
