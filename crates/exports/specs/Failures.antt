-- Why a caller is answered with nothing but a number, and what an answer then says. Definitions only. Assumes nothing.
use Rattle.std.specs.Prelude.{ℕ, Result, Ok, Err}
use Rattle.marks.specs.Answers.{Judgement, number, none, number_of, Outcome, refused, accepted}
use Rattle.exports.specs.declared.Failure.{Failure}

-- a failure's number: 255 where a list is too short, or the refusal's
abbrev pub failure_number : Failure → ℕ
failure_number Failure.TooShort = 255
failure_number (Failure.Refused r) = number_of r

-- what a result says of the failures: its own, or none where there is a value
abbrev pub failure_of : {A : Type 0} → Result A Failure → Judgement
failure_of (Ok a) = none
failure_of (Err f) = number (failure_number f)

-- what a result says: its value, or its failure's number
abbrev pub told : {A : Type 0} → Result A Failure → Outcome A
told (Ok a) = accepted a
told (Err f) = refused (failure_number f)

-- what an exported function returns: its number, or the failure's
abbrev pub returned : Result ℕ Failure → ℕ
returned (Ok n) = n
returned (Err f) = failure_number f
