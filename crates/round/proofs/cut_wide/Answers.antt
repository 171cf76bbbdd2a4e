-- What is kept is one word.
use Rattle.std.proofs.Common.{pow-add, pow_pos, div-lt_iff_lt-mul, arith}
use Rattle.wide.specs.Value.{word_bits}
use Rattle.round.proofs.cut_wide.Goals as goal

pub to_word-requires : goal.to_word-requires
to_word-requires c =
    let k = c.args.k in
    rw c.shr.ensures ((div-lt_iff_lt-mul (pow_pos k)).1 (omega (arith, c.requires.1, pow-add 2 word_bits k)))
