-- What is left of the list decides.
use Rattle.std.proofs.Common.{◌≡◌, length}
use Rattle.calls.specs.Kit.{two_alike}
use Rattle.kit.specs.Engine.{alike}
use Rattle.kit.proofs.two_alike.Given as goal

abbrev pub invariant-loop-f : goal.invariant-loop-f
invariant-loop-f l = two_alike alike l.factors ≡ two_alike alike l.rest

abbrev pub decreases-loop-f : goal.decreases-loop-f
decreases-loop-f l = length l.rest
