-- Numbers as digits: printed in a base up to 16, the most significant digit first, letters in upper case, and hexadecimal ones read back.
-- Definitions only. Assumes nothing.
use Rattle.std.specs.Prelude.{Bool, true, false, cond, ◌&&◌, List, [], ◌∷◌, ℕ, zero, suc, ◌+◌, ◌-◌, ◌*◌, ◌/◌, ◌%◌, ◌^◌, leb, ltb, length, Option, Some, None}
use Rattle.std.proofs.Math.Seq.{slice}

-- ---- printed
-- the byte of the digit for a number below 16: '0' is 48, and 'A', for ten, is 65
unfoldable pub digit_byte : ℕ → ℕ
digit_byte d = cond (ltb d 10) (48 + d) (65 + (d - 10))

-- the last w digits of v in a base
unfoldable pub digits : (base w v : ℕ) → List ℕ
digits base zero v = []
digits base (suc w) v = digit_byte (v / base ^ w % base) ∷ digits base w v

-- hexadecimal
abbrev pub hex_digits : (w v : ℕ) → List ℕ
hex_digits w v = digits 16 w v

-- decimal
abbrev pub decimal_digits : (w v : ℕ) → List ℕ
decimal_digits w v = digits 10 w v

-- ---- read
-- from l to h, both included
abbrev pub between : (l h b : ℕ) → Bool
between l h b = leb l b && leb b h

-- the value of a byte that is an upper-case hexadecimal digit
unfoldable pub digit_value : ℕ → Option ℕ
digit_value b = cond (between 48 57 b) (Some (b - 48)) (cond (between 65 70 b) (Some (10 + (b - 65))) None)

-- what is read goes on from a value
abbrev pub and_then : Option ℕ → (ℕ → Option ℕ) → Option ℕ
and_then (Some v) f = f v
and_then None f = None

-- the value of digits that come after others whose value is v
unfoldable pub value_after : (v : ℕ) → List ℕ → Option ℕ
value_after v [] = Some v
value_after v (b ∷ bytes) = and_then (digit_value b) (λ d. value_after (v * 16 + d) bytes)

-- the value of the w digits that stand from a place on
unfoldable pub field_at : List ℕ → (at w : ℕ) → Option ℕ
field_at line at w = cond (leb (at + w) (length line)) (value_after 0 (slice at (at + w) line)) None

-- it is no number of its digits
abbrev pub malformed : Option ℕ → Bool
malformed (Some v) = false
malformed None = true

-- its number; 0 stands for none
abbrev pub number_of : Option ℕ → ℕ
number_of (Some v) = v
number_of None = 0
