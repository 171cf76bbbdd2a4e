-- The line so far, at this place of the input, comes to the same as the line that it began with.
use Rattle.std.proofs.Common.{◌≡◌, drop}
use Rattle.stream.specs.Keep.{kept, up_to_feed}
use Rattle.stream.specs.Step.{kept_of}
use Rattle.stream.proofs.keep_line.Given as goal

abbrev pub invariant-loop-place : goal.invariant-loop-place
invariant-loop-place l = record {
  line : kept (kept_of l.held) (drop l.place l.input) ≡ kept (kept_of l.fn.held) (drop l.at l.input);
  rest : up_to_feed (drop l.place l.input) ≡ up_to_feed (drop l.at l.input);
}
