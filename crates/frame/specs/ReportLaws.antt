-- How long the printed lines are. Assumes nothing.
use Rattle.std.specs.Prelude.{◌≡◌, List, ◌++◌, ℕ, ◌+◌, ◌*◌, length}
use Rattle.std.proofs.Common.{arith, length-append}
use Rattle.frame.specs.declared.Report.{Report}
use Rattle.frame.specs.Digits.{digits}
use Rattle.frame.specs.DigitLaws.{length_digits}
use Rattle.frame.specs.Report.{word_line, report_line, refusal_line}

-- w digits and what follows them
length_field : (base w v : ℕ) (rest : List ℕ) → length (digits base w v ++ rest) ≡ w + length rest
length_field base w v rest = omega (arith, length-append (digits base w v) rest, length_digits base w v)

-- A word of w digits and its line feed.
pub length_word : (w v : ℕ) → length (word_line w v) ≡ w + 1
unfolding word_line
length_word w v = simp length_field

-- A report: 35 bytes at 8 digits, 59 at 16.
pub length_report : (w : ℕ) (r : Report) → length (report_line w r) ≡ 11 + 3 * w
unfolding report_line
length_report w r = simp length_field (omega arith)

-- A refused line.
pub length_refusal : (number refusal : ℕ) → length (refusal_line number refusal) ≡ 11
unfolding refusal_line
length_refusal number refusal = simp length_field
