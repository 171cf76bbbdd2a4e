-- What the digits so far and those that follow come to is the field.
use Rattle.std.proofs.Common.{◌≡◌, ◌^◌, ◌<◌, drop}
use Rattle.frame.specs.Digits.{value_after, field_at}
use Rattle.frame.proofs.read_field.Given as goal

abbrev pub invariant-loop-b : goal.invariant-loop-b
invariant-loop-b l = record {
  small : l.value < 16 ^ l.b-index;
  rest : value_after l.value (drop l.b-index l.b-items) ≡ field_at l.line l.at l.width;
}
