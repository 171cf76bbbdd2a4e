-- A line is a frame exactly if it is what the frame's fields print; and a line with 80 hexadecimal added to its first byte says the same with a minus. Assumes nothing.
use Rattle.std.specs.Prelude.{◌≡◌, Bool, true, ℕ, suc, ◌+◌, ◌-◌, ◌*◌, ◌^◌, ◌<◌, eqb, ℤ, pos, negsuc, length, get_or, drop, Option, Some}
use Rattle.std.proofs.Math.Path.{refl, sym, ap, ap₂}
use Rattle.std.proofs.Common.{subst, ◌∙◌, mod-eq_of_lt, mod-lt, arith, drop_of_length-le, drop-cons, lt-ltb, le-ltb, le-leb, eqb-true}
use Rattle.std.proofs.Math.Bool.{false, not}
use mathlib.Core.List.{List, [], ◌∷◌, ◌++◌}
use Rattle.std.proofs.Math.Decide.{dec_lt}
use Rattle.std.specs.Int.Signed.{mag}
use Rattle.std.proofs.lemmas.Bool.{lt-leb, not-false}
use Rattle.marks.specs.Answers.{NoneHolds, Outcome, accepted, answer, each}
use Rattle.marks.specs.AnswerLaws.{pass, end, accepts, answer_each, only_accepted, and_true}
use Rattle.factor.specs.declared.Description.{Description}
use Rattle.factor.proofs.Signs.{described_as}
use Rattle.frame.specs.Digits.{digits, hex_digits, value_after, field_at, malformed, number_of}
use Rattle.frame.specs.DigitLaws.{value_read}
use Rattle.frame.specs.FieldLaws.{Held, field_inside, field_held, well_formed, rest_of}
use Rattle.frame.specs.Lines.{blank, joined}
use Rattle.frame.specs.Frame.{end_digits, signed_byte, sign_added, minus_in, precision_in, blank_at, spaced, precision_field, scale_field, lower_field, upper_field, conditions, described_by, frame_of, byte_of, precision_byte, frame_text, Printable}

-- ---- two's complement
-- A number from -128 to 127 is read back from its byte.
pub byte_signed : (k : ℤ) → mag k < 128 → signed_byte (byte_of k) ≡ k
byte_signed (pos n) h = rw (lt-ltb n 128 h)
byte_signed (negsuc n) h = rw (le-ltb (255 - n) 128 (omega arith), lt-ltb (255 - n) 256 (omega arith)) (ap negsuc (omega arith))

-- A byte is read as a number from -128 to 127, whose byte it is.
pub signed_byte_lem : (b : ℕ) → b < 256 → (byte_of (signed_byte b) ≡ b) × (mag (signed_byte b) < 128)
signed_byte_lem b h = by (dec_lt b 128)
  where
    by : Dec (b < 128) → (byte_of (signed_byte b) ≡ b) × (mag (signed_byte b) < 128)
    by (yes p) = rw (lt-ltb b 128 p) (refl, p)
    by (no q) = rw (le-ltb b 128 (omega (arith, q)), lt-ltb b 256 h) (omega arith, omega arith)

byte_below : (k : ℤ) → mag k < 128 → byte_of k < 256
byte_below (pos n) h = omega arith
byte_below (negsuc n) h = omega arith

-- ---- sign and precision
-- They are read back from their byte,
byte_apart : (s : Bool) (n : ℕ) → n < sign_added → (minus_in (precision_byte s n) ≡ s) × (precision_in (precision_byte s n) ≡ n)
byte_apart true n h = (le-leb sign_added (sign_added + n) (omega arith), omega arith)
byte_apart false n h = (lt-leb sign_added n h, mod-eq_of_lt h)

-- and a byte is that of what is read from it.
byte_joined : (b : ℕ) → b < 256 → (precision_byte (minus_in b) (precision_in b) ≡ b) × (precision_in b < sign_added)
byte_joined b h = (by (dec_lt b sign_added), mod-lt b (omega arith))
  where
    by : Dec (b < sign_added) → precision_byte (minus_in b) (precision_in b) ≡ b
    by (yes p) = rw (lt-leb sign_added b p) (mod-eq_of_lt p)
    by (no q) = rw (le-leb sign_added b (omega (arith, q))) (omega arith)

byte_small : (s : Bool) (n : ℕ) → n < sign_added → precision_byte s n < 256
byte_small true n h = omega arith
byte_small false n h = omega arith

-- ---- read
-- A line whose fields stand in their places, and are read, is the frame of their numbers.
pub frame_is :
    (line : List ℕ) {p k l u : ℕ}
    → not (spaced end_digits line) ≡ false
    → precision_field line ≡ Some p
    → scale_field line ≡ Some k
    → lower_field line ≡ Some l
    → upper_field line ≡ Some u
    → ◌≡◌ {A = Outcome Description} (accepted (record { minus = minus_in p; precision = precision_in p; scale = signed_byte k; lower = l; upper = u })) (frame_of line)
unfolding frame_of
frame_is line {p} {k} {l} {u} s hp hk hl hu =
    ap accepted (λ i. record { minus = minus_in (number_of (sym hp i)); precision = precision_in (number_of (sym hp i)); scale = signed_byte (number_of (sym hk i)); lower = number_of (sym hl i); upper = number_of (sym hu i) })
    ∙ accepts (pass s (pass (ap malformed hp) (pass (ap malformed hk) (pass (ap malformed hl) (pass (ap malformed hu) end))))) (described_by line)

-- ---- printed, then read
-- a number that its digits hold is read back
read_back : (w v : ℕ) → v < 16 ^ w → value_after 0 (hex_digits w v) ≡ Some v
read_back w v h = value_read w 0 v ∙ ap Some (omega (arith, mod-eq_of_lt h))

module _ (d : Description) (p : Printable d) where
  abbrev text : List ℕ
  text = frame_text d

  -- The line that a frame's fields print is that frame: each field stands in its place.
  pub frame_read : frame_of text ≡ accepted d
  unfolding frame_text field_at digits spaced
  frame_read =
      let byte = byte_apart d.minus d.precision p.precision in
      sym (frame_is text refl (read_back 2 (precision_byte d.minus d.precision) (byte_small d.minus d.precision p.precision)) (read_back 2 (byte_of d.scale) (byte_below d.scale p.scale))
      (read_back end_digits d.lower p.lower) (read_back end_digits d.upper p.upper))
      ∙ ap accepted (λ i. record { minus = byte.0 i; precision = byte.1 i; scale = byte_signed d.scale p.scale i; lower = d.lower; upper = d.upper })

-- ---- read, then printed
-- what `spaced` tells
record Spaced (e : ℕ) (line : List ℕ) : Type 0 where
  long : length line ≡ 7 + 2 * e
  first : get_or line 2 0 ≡ blank
  second : get_or line 5 0 ≡ blank
  third : get_or line (6 + e) 0 ≡ blank

spaced_tells : (e : ℕ) (line : List ℕ) → spaced e line ≡ true → Spaced e line
unfolding spaced
spaced_tells e line h =
    let a = and_true (eqb (length line) (7 + 2 * e)) _ h in
    let b = and_true (blank_at line 2) _ a.1 in
    let c = and_true (blank_at line 5) _ b.1 in
    record { long = eqb-true _ _ a.0; first = eqb-true _ _ b.0; second = eqb-true _ _ c.0; third = eqb-true _ _ c.1 }

-- a field and the blank after it
part_of : (line : List ℕ) (at w v : ℕ) → Held line at w v → at + w < length line → get_or line (at + w) 0 ≡ blank → drop at line ≡ hex_digits w v ++ (blank ∷ drop (suc (at + w)) line)
part_of line at w v h l b =
    rest_of line at w h.inside
    ∙ (λ i. (h.text i) ++ (drop-cons line (at + w) 0 l i))
    ∙ ap (λ (x : ℕ). hex_digits w v ++ (x ∷ drop (suc (at + w)) line)) b

-- the last field
end_of : (line : List ℕ) (at w v : ℕ) → Held line at w v → at + w ≡ length line → drop at line ≡ hex_digits w v ++ []
end_of line at w v h l =
    let e : drop (at + w) line ≡ [] = drop_of_length-le line {i = at + w} (omega arith) in
    rest_of line at w h.inside ∙ (λ i. (h.text i) ++ (e i))

-- A line that is a frame is what the frame's fields print.
pub frame_printed : (line : List ℕ) (d : Description) → frame_of line ≡ accepted d → (line ≡ frame_text d) × Printable d
unfolding frame_of frame_text
frame_printed line d e =
    let t = only_accepted (conditions line) (described_by line) d e in
    subst (λ (x : Description). (line ≡ frame_text x) × Printable x) t.1 (printed t.0)
  where
    held : (at w : ℕ) → malformed (field_at line at w) ≡ false → Held line at w (number_of (field_at line at w))
    held at w h = field_held line at w _ (well_formed (field_at line at w) h)

    printed : NoneHolds (conditions line) → (line ≡ frame_text (described_by line)) × Printable (described_by line)
    printed h =
        let s = spaced_tells end_digits line (not-false _ h.0) in
        let n = s.long in
        let hp = held 0 2 h.1.0 in
        let hk = held 3 2 h.1.1.0 in
        let hl = held 6 end_digits h.1.1.1.0 in
        let hu = held (7 + end_digits) end_digits h.1.1.1.1.0 in
        let sign = byte_joined (number_of (precision_field line)) hp.small in
        let byte = signed_byte_lem (number_of (scale_field line)) hk.small in
        let upper = end_of line (7 + end_digits) end_digits _ hu (omega arith) in
        let lower = part_of line 6 end_digits _ hl (omega arith) s.third ∙ ap (λ (r : List ℕ). hex_digits end_digits (number_of (lower_field line)) ++ (blank ∷ r)) upper in
        let scale = part_of line 3 2 _ hk (omega arith) s.second ∙ ap (λ (r : List ℕ). hex_digits 2 (number_of (scale_field line)) ++ (blank ∷ r)) lower in
        let precision = part_of line 0 2 _ hp (omega arith) s.first ∙ ap (λ (r : List ℕ). hex_digits 2 (number_of (precision_field line)) ++ (blank ∷ r)) scale in (
          precision ∙ ap₂ (λ (a b : ℕ). joined (hex_digits 2 a ∷ hex_digits 2 b ∷ hex_digits end_digits (number_of (lower_field line)) ∷ hex_digits end_digits (number_of (upper_field line)) ∷ []) []) (sym sign.0) (sym byte.0),
          record { precision = sign.1; scale = byte.1; lower = hl.small; upper = hu.small },
        )

-- ---- 80 hexadecimal more in the first byte
-- a byte before the rest of a line, whatever that is, is the precision's field
byte_first : (v : ℕ) → v < 256 → (rest : List ℕ) → precision_field (hex_digits 2 v ++ rest) ≡ Some v
unfolding digits
byte_first v h rest = field_inside (hex_digits 2 v ++ rest) 0 2 (omega arith) ∙ read_back 2 v h

-- what a line says behind its first byte, with whatever sign and precision
module _ (rest : List ℕ) where
  abbrev line : List ℕ
  line = hex_digits 2 0 ++ rest

  said_with : Bool → ℕ → Description
  unfolding digits field_at
  said_with s n = record { minus = s; precision = n; scale = signed_byte (number_of (scale_field line)); lower = number_of (lower_field line); upper = number_of (upper_field line) }

  -- by what its first field says
  conditions_by : Option ℕ → List (ℕ × Bool)
  unfolding digits spaced field_at
  conditions_by f = (24, not (spaced end_digits line)) ∷ (24, malformed f) ∷ (24, malformed (scale_field line)) ∷ (24, malformed (lower_field line)) ∷ (24, malformed (upper_field line)) ∷ []

  said_by : Option ℕ → Outcome Description
  unfolding conditions_by said_with
  said_by f = answer (conditions_by f) (said_with (minus_in (number_of f)) (precision_in (number_of f)))

  said : (v : ℕ) → v < 256 → frame_of (hex_digits 2 v ++ rest) ≡ said_by (Some v)
  unfolding said_by frame_of
  said v h = ap said_by (byte_first v h rest)

  -- with a sign added to its first byte it says the same, with that sign
  pub sign_read : (s : Bool) (p : ℕ) → p < sign_added → frame_of (hex_digits 2 (precision_byte s p) ++ rest) ≡ each (described_as s) (frame_of (hex_digits 2 p ++ rest))
  unfolding said_by
  sign_read s p h =
      let byte = byte_apart s p h in
      said (precision_byte s p) (byte_small s p h)
      ∙ ap₂ (λ (m : Bool) (n : ℕ). answer (conditions_by (Some p)) (said_with m n)) byte.0 (byte.1 ∙ sym (mod-eq_of_lt h))
      ∙ answer_each (described_as s) (conditions_by (Some p)) (said_with (minus_in p) (precision_in p))
      ∙ ap (each (described_as s)) (sym (said p (byte_small false p h)))
