-- A test for each word.
use Rattle.exports.specs.Words.{damaged}
use Rattle.exports.proofs.is_damaged.Goals as goal

pub returns : goal.returns
unfolding damaged
returns c = rw (c.is_past_half.ensures, c.is_past_half-2.ensures, c.is_past_half-3.ensures, c.is_past_half-4.ensures, c.is_past_half-5.ensures)
