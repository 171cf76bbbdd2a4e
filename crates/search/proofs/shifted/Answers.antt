-- x is below the start, and the modulus is added, or it is not.
use Rattle.std.proofs.Common.{sym}
use Rattle.search.specs.SearchLaws.{shift_over, shift_under}
use Rattle.search.proofs.shifted.Goals as goal

pub returns-then-x-base : goal.returns-then-x-base
returns-then-x-base c =
    let a = c.args in sym (shift_under a.m a.base a.x c.if-x-base.true c.requires.1)

pub returns : goal.returns
returns c =
    let a = c.args in sym (shift_over a.m a.base a.x c.if-x-base.false c.requires.0)
