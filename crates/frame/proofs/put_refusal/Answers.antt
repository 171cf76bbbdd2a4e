-- Three fields, each where the one before it ended.
use Rattle.std.proofs.Common.{ℕ, length-append, arith}
use Rattle.frame.specs.DigitLaws.{length_digits}
use Rattle.frame.specs.Report.{refusal_line}
use Rattle.frame.specs.WrittenLaws.{written_field}
use Rattle.frame.proofs.put_refusal.Goals as goal

pub put_field-b-requires : goal.put_field-b-requires
put_field-b-requires c = (omega (arith, length-append {A = ℕ}, length_digits), omega arith, omega arith)

pub put_field-requires : goal.put_field-requires
put_field-requires c = (omega (arith, length-append {A = ℕ}, length_digits), omega arith, omega arith)

pub returns : goal.returns
unfolding refusal_line
returns c = written_field _ _ _ _ c.put_field-a.ensures (written_field _ _ _ _ c.put_field-b.ensures c.put_field.ensures)
