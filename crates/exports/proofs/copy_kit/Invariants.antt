-- The words before i are copied.
use Rattle.exports.proofs.KitWordLaws.{Copying}
use Rattle.exports.proofs.copy_kit.Given as goal

abbrev pub invariant-loop-i : goal.invariant-loop-i
invariant-loop-i l = Copying l.kit l.fn.out l.out l.i
