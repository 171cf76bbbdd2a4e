-- What is lent to `work` is what it asks for.
use Rattle.std.proofs.Common.{◌≤◌, length}
use Rattle.stream.specs.Step.{most_written}
use Rattle.stream.specs.Good.{Fit}
use Rattle.plotconst.proofs.main.Given as goal

abbrev pub invariant-loop : goal.invariant-loop
invariant-loop l = record {
  fit : Fit l.progress;
  ahead : l.at ≤ l.count;
  chunk : l.count ≤ length l.input;
  room : most_written ≤ length l.out;
}
