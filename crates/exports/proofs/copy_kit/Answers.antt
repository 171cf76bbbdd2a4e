-- Each turn copies a word; past the last, all are copied.
use Rattle.std.proofs.Common.{arith}
use Rattle.exports.proofs.KitWordLaws.{copy_next, copy_end}
use Rattle.exports.proofs.copy_kit.Goals as goal

pub loop-i-preserved : goal.loop-i-preserved
loop-i-preserved c = copy_next c.loop-i.invariant (omega arith) (omega arith)

pub returns : goal.returns
returns c = copy_end c.loop-i.invariant (omega arith)
