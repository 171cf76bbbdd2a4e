-- Laws: what a line prints does not depend on its factor's sign: with 80 hexadecimal added to its first byte it prints what it prints without, whatever stands behind that byte. Assumes nothing.
use Rattle.std.specs.Prelude.{◌≡◌, Bool, true, List, ◌++◌, ℕ, ◌+◌, ◌<◌}
use Rattle.std.proofs.Math.Path.{refl, ap}
use Rattle.std.proofs.Common.{◌∙◌}
use Rattle.marks.specs.Answers.{Outcome, refused, accepted, and_then, each}
use Rattle.factor.specs.declared.Description.{Description}
use Rattle.factor.specs.declared.Factor.{Factor}
use Rattle.factor.specs.SetUp.{set_up}
use Rattle.factor.proofs.Signs.{factor_as, described_as, set_up_signed}
use Rattle.frame.specs.Digits.{hex_digits}
use Rattle.frame.specs.Frame.{sign_added, frame_of, precision_byte}
use Rattle.frame.specs.FrameLaws.{sign_read}
use Rattle.stream.specs.Output.{suspects_of, swept_output, judged_line, judged_output, line_output}

module _ (s : Bool) where
  -- what is set up, with the sign
  judged_signed : (o : Outcome Description) → and_then (each (described_as s) o) set_up ≡ each (factor_as s) (and_then o set_up)
  judged_signed (refused k) = refl
  judged_signed (accepted d) = set_up_signed s d

  -- and what is printed of it, without
  output_signed : (i : ℕ) (o : Outcome Factor) → judged_output i (each (factor_as s) o) ≡ judged_output i o
  unfolding swept_output suspects_of
  output_signed i (refused k) = refl
  output_signed i (accepted f) = refl

  line_with : (i p : ℕ) → p < sign_added → (rest : List ℕ) → line_output i (hex_digits 2 (precision_byte s p) ++ rest) ≡ line_output i (hex_digits 2 p ++ rest)
  unfolding line_output judged_line
  line_with i p h rest =
      let line = hex_digits 2 p ++ rest in
      ap (λ (o : Outcome Description). judged_output i (and_then o set_up)) (sign_read rest s p h) ∙ ap (judged_output i) (judged_signed (frame_of line)) ∙ output_signed i (judged_line line)

-- line i with the byte p + 80 prints what it prints with the byte p
pub line_signed : (i p : ℕ) → p < sign_added → (rest : List ℕ) → line_output i (hex_digits 2 (sign_added + p) ++ rest) ≡ line_output i (hex_digits 2 p ++ rest)
line_signed = line_with true
