-- The lines that are printed, byte for byte, each with its line feed. Definitions only. Assumes nothing.
use Rattle.std.specs.Prelude.{cond, List, [], ◌∷◌, ℕ, eqb}
use Rattle.frame.specs.declared.Report.{Report}
use Rattle.frame.specs.Digits.{hex_digits, decimal_digits}
use Rattle.frame.specs.Lines.{line_of}

-- a listed word of w digits
unfoldable pub word_line : (w v : ℕ) → List ℕ
word_line w v = line_of (hex_digits w v ∷ [])

-- the **verdict**: 00 clean, 01 some wrong, 02 open only
abbrev pub verdict_of : (wrongs opens : ℕ) → ℕ
verdict_of wrongs opens = cond (eqb wrongs 0) (cond (eqb opens 0) 0 2) 1

-- a **report** whose counts have w digits
unfoldable pub report_line : (w : ℕ) → Report → List ℕ
report_line w r =
    line_of
    (hex_digits 4 r.number
    ∷ hex_digits 2 (verdict_of r.wrongs r.opens)
    ∷ hex_digits w r.trials
    ∷ hex_digits w r.wrongs
    ∷ hex_digits w r.opens
    ∷ [])

-- a refused line: its number, FF and the refusal
unfoldable pub refusal_line : (number refusal : ℕ) → List ℕ
refusal_line number refusal = line_of (hex_digits 4 number ∷ hex_digits 2 255 ∷ decimal_digits 2 refusal ∷ [])
