-- The whole example of frames and reports, to the byte, by computation, as one input and in chunks; and what other inputs print. Assumes nothing.
use Rattle.std.specs.Prelude.{◌≡◌, refl, List, [] as []ᴸ, ◌∷◌ as ◌∷ᴸ◌, ℕ}
use Prim.Native.Char.{code}
use Prim.Native.String.{String, [], ◌∷◌}
use Rattle.std.specs.Float.Ieee
use Rattle.marks.specs.Answers.{answer}
use Rattle.rounding.specs.Grid.{nearest}
use Rattle.rounding.specs.Round.{rounded}
use Rattle.factor.specs.Parts.{parts_at}
use Rattle.factor.specs.Precision.{scale_of}
use Rattle.factor.specs.Context.{tie_rule}
use Rattle.factor.specs.SetUp.{set_up, applied_of}
use Rattle.product.specs.Product.{product}
use Rattle.product.specs.Marks.{mark}
use Rattle.suspects.specs.Suspects.{is_suspect}
use Rattle.calls.specs.Plain.{row, pick, span, span_of, tries, words_of}
use Rattle.frame.specs.Digits.{digit_byte, digits, digit_value, value_after, field_at}
use Rattle.frame.specs.Frame.{spaced, frame_of}
use Rattle.frame.specs.Report.{word_line, report_line, refusal_line}
use Rattle.stream.specs.Output.{suspects_of, counted, word_lines, swept_output, judged_line, line_output, pieces, lines_output, output}
use Rattle.stream.specs.Keep.{kept, up_to_feed}
use Rattle.stream.specs.Step.{step_of, end_of}
use Rattle.stream.specs.Work.{steps_of, work_of, loop_output, program}

-- the bytes of a text; the line below names what has to unfold for the program to compute
bytes : String → List ℕ
unfolding answer digit_byte digits digit_value value_after field_at spaced frame_of word_line report_line refusal_line set_up applied_of scale_of tie_rule parts_at rounded nearest product mark is_suspect row pick span span_of words_of suspects_of counted word_lines swept_output line_output pieces lines_output output tries kept up_to_feed judged_line step_of end_of steps_of work_of loop_output program Ieee.round Ieee.size
bytes [] = []ᴸ
bytes (c ∷ s) = code c ∷ᴸ bytes s

-- three frames: a clean one, one with a wrong significand, one with an open one
example :
    output (bytes "04 00 6000000000000000 6000000000000000\n04 00 4BFFFC0000000000 4BFFFC0000000000\n04 00 51C71C71C71C71C7 51C71C71C71C71C8\n")
    ≡ bytes "0001 00 00000002 00000000 00000000\n00000010\n0002 01 00000001 00000001 00000000\n00000013\n0003 02 00000001 00000000 00000001\n"
unfolding bytes
example = refl

-- nothing prints nothing; an empty line is a line; a last line without its line feed is refused
nothing : output (bytes "") ≡ bytes ""
unfolding bytes
nothing = refl

no_line_feed : output (bytes "\n04 00 6000000000000000 6000000000000000") ≡ bytes "0001 FF 24\n0002 FF 24\n"
unfolding bytes
no_line_feed = refl

-- precision 3 is refused with 11, but not on a line that is no frame
refused : output (bytes "03 00 6000000000000000 6000000000000000\n03 00 6000000000000000\n") ≡ bytes "0001 FF 11\n0002 FF 24\n"
unfolding bytes
refused = refl

-- 84 is a good byte, 83 is refused with 11, FF too
below_zero : output (bytes "84 00 6000000000000000 6000000000000000\n83 00 6000000000000000 6000000000000000\nFF 00 6000000000000000 6000000000000000\n") ≡ bytes "0001 00 00000002 00000000 00000000\n0002 FF 11\n0003 FF 11\n"
unfolding bytes
below_zero = refl

-- ---- the program's loop

-- with room for one step that writes, and a line that two chunks share: it is refused only when a read gives nothing
in_chunks : program 4 611 (bytes "\n0" ∷ᴸ bytes "4" ∷ᴸ []ᴸ) ≡ bytes "0001 FF 24\n0002 FF 24\n"
unfolding bytes
in_chunks = refl
