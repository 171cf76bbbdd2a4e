-- The factor's words, then four more.
use Rattle.std.proofs.Common.{length, ap, arith}
use Rattle.exports.specs.Words.{factor_words, state_words}
use Rattle.exports.proofs.Laws.{flag_is}
use Rattle.exports.proofs.put_state.Goals as goal

pub put-requires : goal.put-requires
unfolding factor_words
put-requires c = let ten = ap length c.factor_words.ensures in omega arith

pub put-requires-2 : goal.put-requires-2
put-requires-2 c = omega (arith, c.put.auto.out)

pub returns : goal.returns
unfolding state_words factor_words
returns c = rw (c.put-2.ensures, c.put.ensures, c.from.ensures, flag_is c.args.s.finished, c.factor_words.ensures)
