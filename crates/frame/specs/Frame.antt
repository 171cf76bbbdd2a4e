-- A frame: what a line says, and refusal 24 of a line that is not exactly of that form.
-- A line is the bytes before its line feed. Definitions only. Assumes nothing.
use Rattle.std.specs.Prelude.{Bool, cond, not, ◌&&◌, List, [], ◌∷◌, ℕ, ◌+◌, ◌-◌, ◌*◌, ◌%◌, ◌^◌, ◌<◌, eqb, ltb, leb, ℤ, pos, negsuc, ◌-ℤ◌, length, get_or, Option, Some, None}
use Rattle.std.specs.Int.Signed.{mag}
use Rattle.marks.specs.Answers.{Outcome, refused, accepted, answer}
use Rattle.factor.specs.declared.Description.{Description}
use Rattle.frame.specs.Digits.{hex_digits, field_at, malformed, number_of}
use Rattle.frame.specs.Lines.{blank, joined}

-- the digits of an end
abbrev pub end_digits : ℕ
end_digits = 16

-- ---- read
-- a byte in two's complement
abbrev pub signed_byte : ℕ → ℤ
signed_byte b = cond (ltb b 128) (pos b) (pos b -ℤ pos 256)

-- what the precision's byte has added for a negative factor, whether a byte has it, and the precision without it
abbrev pub sign_added : ℕ
sign_added = 0x80

abbrev pub minus_in : ℕ → Bool
minus_in b = leb sign_added b

abbrev pub precision_in : ℕ → ℕ
precision_in b = b % sign_added

-- a blank stands there
abbrev pub blank_at : List ℕ → ℕ → Bool
blank_at line at = eqb (get_or line at 0) blank

-- blanks where the fields meet, and the line's end where the last one ends; each end of the factor has e digits
unfoldable pub spaced : (e : ℕ) → List ℕ → Bool
spaced e line = eqb (length line) (7 + 2 * e) && (blank_at line 2 && (blank_at line 5 && blank_at line (6 + e)))

-- the four fields of a line
abbrev pub precision_field : List ℕ → Option ℕ
precision_field line = field_at line 0 2

abbrev pub scale_field : List ℕ → Option ℕ
scale_field line = field_at line 3 2

abbrev pub lower_field : List ℕ → Option ℕ
lower_field line = field_at line 6 end_digits

abbrev pub upper_field : List ℕ → Option ℕ
upper_field line = field_at line (7 + end_digits) end_digits

-- 24, the line is not a frame: its fields do not stand where a frame's do, or one of them is no number of its digits
abbrev pub conditions : List ℕ → List (ℕ × Bool)
conditions line =
    (24, not (spaced end_digits line))
    ∷ (24, malformed (precision_field line))
    ∷ (24, malformed (scale_field line))
    ∷ (24, malformed (lower_field line))
    ∷ (24, malformed (upper_field line))
    ∷ []

-- what the fields describe
abbrev pub described_by : List ℕ → Description
described_by line =
    record {
      minus = minus_in (number_of (precision_field line));
      precision = precision_in (number_of (precision_field line));
      scale = signed_byte (number_of (scale_field line));
      lower = number_of (lower_field line);
      upper = number_of (upper_field line);
    }

-- a **frame**: precision with the sign, scale, lower and upper end, each in its place; 24 stands alone, whatever else is wrong with the line
unfoldable pub frame_of : List ℕ → Outcome Description
unfolding spaced field_at
frame_of line = answer (conditions line) (described_by line)

-- what a description says, and that there is none
abbrev pub framed : Option Description → Outcome Description
framed (Some d) = accepted d
framed None = refused 24

-- ---- printed
-- the byte that is a number in two's complement
abbrev pub byte_of : ℤ → ℕ
byte_of (pos n) = n
byte_of (negsuc n) = 255 - n

-- the byte of a sign and a precision
abbrev pub precision_byte : Bool → ℕ → ℕ
precision_byte s n = cond s (sign_added + n) n

-- the fields of a frame
abbrev pub frame_fields : Description → List (List ℕ)
frame_fields f =
    hex_digits 2 (precision_byte f.minus f.precision)
    ∷ hex_digits 2 (byte_of f.scale)
    ∷ hex_digits end_digits f.lower
    ∷ hex_digits end_digits f.upper
    ∷ []

-- the line of a frame
unfoldable pub frame_text : Description → List ℕ
frame_text f = joined (frame_fields f) []

-- what the fields of a frame can hold
pub record Printable (f : Description) : Type 0 where
  pub precision : f.precision < sign_added
  pub scale : mag f.scale < 128
  pub lower : f.lower < 16 ^ end_digits
  pub upper : f.upper < 16 ^ end_digits
