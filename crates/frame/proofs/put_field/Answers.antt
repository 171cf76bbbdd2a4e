-- The digits, and the byte after them.
use Rattle.std.proofs.Common.{arith}
use Rattle.frame.specs.DigitLaws.{length_digits}
use Rattle.frame.specs.WrittenLaws.{written_then, written_byte}
use Rattle.frame.proofs.put_field.Goals as goal

pub bounds-buf-end : goal.bounds-buf-end
bounds-buf-end c = omega (arith, length_digits)

pub overflow_add-result : goal.overflow_add-result
overflow_add-result c = omega (arith, length_digits)

pub returns : goal.returns
returns c = written_then c.put_digits-end.ensures (written_byte _ _ _)
