-- The law of a sum of cuts.
use Rattle.round.specs.CutLaws.{cut_sum}
use Rattle.round.proofs.cut_sum.Goals as goal

pub returns : goal.returns
returns c = rw c.power-step.ensures (cut_sum c.args.k c.args.a c.args.b)
