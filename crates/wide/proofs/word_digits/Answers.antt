-- The law of leading zeros at the width 64.
use Rattle.wide.specs.DigitLaws.{size_by_zeros}
use Rattle.wide.proofs.word_digits.Goals as goal

pub returns-clause-count : goal.returns-clause-count
returns-clause-count c = size_by_zeros 64 c.args.x c.ranges.x.fits
