-- The words stand in the part that was lent.
use Rattle.std.proofs.Common.{arith}
use Rattle.exports.proofs.Laws.{put_is}
use Rattle.exports.proofs.put.Goals as goal

pub returns : goal.returns
returns g c = put_is c.args.at _ c.args.out.now c.args.words.now c.copy_from_slice.new.self (omega arith) c.copy_from_slice.ensures.after c.requires
