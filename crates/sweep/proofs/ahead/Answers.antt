-- Each half's window may be asked, and both searches together take few rounds.
use Rattle.std.proofs.Common.{◌+◌, ◌≤◌, arith}
use Rattle.sweep.specs.Engine.{most_rounds}
use Rattle.sweep.proofs.StepLaws.{low_asks, high_asks, low_few, high_few}
use Rattle.sweep.proofs.ahead.Goals as goal

pub sought_before-lower-requires : goal.sought_before-lower-requires
sought_before-lower-requires c = (low_asks c.requires.0, omega arith)

pub sought_before-upper-requires : goal.sought_before-upper-requires
sought_before-upper-requires c = (high_asks c.requires.0, omega arith)

pub overflow_add-result : goal.overflow_add-result
overflow_add-result c =
    let k = c.requires.0 in
    let low : c.sought_before-lower.result.rounds ≤ most_rounds k.of = rw c.sought_before-lower.ensures (low_few k c.args.at c.min.result) in
    let high : c.sought_before-upper.result.rounds ≤ most_rounds k.of = rw c.sought_before-upper.ensures (high_few k c.max.result (c.args.last + 1)) in
    record { fits = omega arith }
