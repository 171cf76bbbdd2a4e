-- The digits are written from the last to the first: those from `place` on stand there, and `rest` is what is left of v.
use Rattle.std.proofs.Common.{◌≡◌, ◌+◌, ◌-◌, ◌/◌, ◌^◌, ◌≤◌}
use Rattle.std.proofs.lemmas.List.Edits.{sets}
use Rattle.frame.specs.Digits.{digits}
use Rattle.frame.proofs.put_digits.Given as goal

abbrev pub invariant-loop-place : goal.invariant-loop-place
invariant-loop-place l = record {
  from : l.at ≤ l.place;
  left : l.rest ≡ l.v / l.base ^ (l.at + l.width - l.place);
  list : l.buf ≡ sets l.fn.buf l.place (digits l.base (l.at + l.width - l.place) l.v);
}
