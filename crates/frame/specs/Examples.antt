-- The example of frames and reports, line by line, factors below zero, and lines that are no frames, worked out by computation. Assumes nothing.
use Rattle.std.specs.Prelude.{◌≡◌, refl, Bool, true, false, List, [] as []ᴸ, ◌∷◌ as ◌∷ᴸ◌, ℕ, ℤ, pos, negsuc}
use Prim.Native.Char.{code}
use Prim.Native.String.{String, [], ◌∷◌}
use Rattle.marks.specs.Answers.{Outcome, refused, accepted, answer}
use Rattle.factor.specs.declared.Description.{Description}
use Rattle.frame.specs.declared.Report.{Report}
use Rattle.frame.specs.Digits.{digit_byte, digits, digit_value, value_after, field_at}
use Rattle.frame.specs.Frame.{spaced, frame_of}
use Rattle.frame.specs.Report.{word_line, report_line, refusal_line}

-- the bytes of a text; the line below names what a line has to unfold to compute
bytes : String → List ℕ
unfolding answer digit_byte digits digit_value value_after field_at spaced frame_of word_line report_line refusal_line
bytes [] = []ᴸ
bytes (c ∷ s) = code c ∷ᴸ bytes s

abbrev signed : Bool → ℕ → ℤ → ℕ → ℕ → Outcome Description
signed s n k l u = accepted (record { minus = s; precision = n; scale = k; lower = l; upper = u })

abbrev frame : ℕ → ℤ → ℕ → ℕ → Outcome Description
frame n k l u = signed false n k l u

abbrev report : (number trials wrongs opens : ℕ) → Report
report number trials wrongs opens = record { number = number; trials = trials; wrongs = wrongs; opens = opens }

-- ---- frames
frame_1 : frame_of (bytes "04 00 6000000000000000 6000000000000000") ≡ frame 4 (pos 0) 0x6000000000000000 0x6000000000000000
unfolding bytes
frame_1 = refl

frame_2 : frame_of (bytes "04 00 4BFFFC0000000000 4BFFFC0000000000") ≡ frame 4 (pos 0) 0x4BFFFC0000000000 0x4BFFFC0000000000
unfolding bytes
frame_2 = refl

frame_3 : frame_of (bytes "04 00 51C71C71C71C71C7 51C71C71C71C71C8") ≡ frame 4 (pos 0) 0x51C71C71C71C71C7 0x51C71C71C71C71C8
unfolding bytes
frame_3 = refl

-- A scale below zero; precision and scale are judged later.
least_scale : frame_of (bytes "7F 80 0000000000000000 FFFFFFFFFFFFFFFF") ≡ frame 127 (negsuc 127) 0 0xFFFFFFFFFFFFFFFF
unfolding bytes
least_scale = refl

-- Factors below zero: 80 hexadecimal is added to the precision, 4, 24, 3, 0 and 127.
below_zero :
    (frame_of (bytes "84 00 6000000000000000 6000000000000000") ≡ signed true 4 (pos 0) 0x6000000000000000 0x6000000000000000)
    × (frame_of (bytes "98 F9 624DD2F1A9FBE76C 624DD2F1A9FBE76D") ≡ signed true 24 (negsuc 6) 0x624DD2F1A9FBE76C 0x624DD2F1A9FBE76D)
    × (frame_of (bytes "83 00 6000000000000000 6000000000000000") ≡ signed true 3 (pos 0) 0x6000000000000000 0x6000000000000000)
    × (frame_of (bytes "80 00 6000000000000000 6000000000000000") ≡ signed true 0 (pos 0) 0x6000000000000000 0x6000000000000000)
    × (frame_of (bytes "FF 00 6000000000000000 6000000000000000") ≡ signed true 127 (pos 0) 0x6000000000000000 0x6000000000000000)
unfolding bytes
below_zero = (refl, refl, refl, refl, refl)

-- ---- lines that are no frames
lower_case : frame_of (bytes "04 00 4bfffc0000000000 4bfffc0000000000") ≡ refused 24
unfolding bytes
lower_case = refl

one_digit_short : frame_of (bytes "04 00 6000000000000000 600000000000000") ≡ refused 24
unfolding bytes
one_digit_short = refl

blank_at_end : frame_of (bytes "04 00 6000000000000000 6000000000000000 ") ≡ refused 24
unfolding bytes
blank_at_end = refl

tab_between : frame_of (bytes "04\t00 6000000000000000 6000000000000000") ≡ refused 24
unfolding bytes
tab_between = refl

no_bytes : frame_of (bytes "") ≡ refused 24
unfolding bytes
no_bytes = refl

-- ---- what is printed
report_1 : report_line 8 (report 1 2 0 0) ≡ bytes "0001 00 00000002 00000000 00000000\n"
unfolding bytes
report_1 = refl

word_2 : word_line 8 16 ≡ bytes "00000010\n"
unfolding bytes
word_2 = refl

report_2 : report_line 8 (report 2 1 1 0) ≡ bytes "0002 01 00000001 00000001 00000000\n"
unfolding bytes
report_2 = refl

word_3 : word_line 8 19 ≡ bytes "00000013\n"
unfolding bytes
word_3 = refl

report_3 : report_line 8 (report 3 1 0 1) ≡ bytes "0003 02 00000001 00000000 00000001\n"
unfolding bytes
report_3 = refl

refused_line : refusal_line 1 24 ≡ bytes "0001 FF 24\n"
unfolding bytes
refused_line = refl
