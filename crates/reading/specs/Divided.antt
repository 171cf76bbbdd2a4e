-- A binary32 reading divided by a factor, with the refusals of a multiplied one (31, 20, 21, 22, 23), with the sign of both and the direction of its rounding. Definitions only. Assumes nothing.
use Rattle.std.specs.Prelude.{ℕ, ℤ, ◌+ℤ◌, ◌-ℤ◌, Float}
use Rattle.std.specs.Float.{binary32}
use Rattle.std.specs.Float.Ieee.{to_bits}
use Rattle.marks.specs.Answers.{Outcome}
use Rattle.floats.specs.Fields.{significand_of, exponent_of}
use Rattle.factor.specs.declared.Factor.{Factor}
use Rattle.factor.specs.SetUp.{intact}
use Rattle.quotient.specs.declared.Quotient.{Quotient}
use Rattle.rounding.specs.declared.Directed.{Directed}
use Rattle.quotient.specs.Quotient.{quotient, directed_by}
use Rattle.reading.specs.Reading.{sign_with, number_of, directed_number, placed, directed_zero, Made, answer_to}

-- the exponent of a quotient: the reading's, plus the binade less k
abbrev pub quotient_exponent : Factor → ℕ → Quotient → ℤ
quotient_exponent f b v = exponent_of binary32 b +ℤ (v.binade -ℤ f.applied.scale)

-- sign and exponent put on a quotient, unless 23 refuses it
abbrev pub placed_quotient : Factor → ℕ → Directed Quotient → Outcome (Directed Float)
placed_quotient f b v = placed (sign_with f b) v.value.significand (quotient_exponent f b v.value) v.direction

-- a zero gives a zero, any other reading the quotient, both with the quotient's sign, and no mark
abbrev pub quotient_of : Factor → ℕ → Made (Directed Float)
quotient_of f b =
    let v = directed_by f (significand_of binary32 b) in
    let e = quotient_exponent f b v.value in
    record { of_zero = directed_zero (sign_with f b); exponent = e; value = directed_number (sign_with f b) v.value.significand e v.direction }

-- the answer to a reading x
unfoldable pub divided_reading : Factor → Float → Outcome (Directed Float)
unfolding intact quotient number_of
divided_reading f x = let b = to_bits binary32 x in answer_to f b (quotient_of f b)
