-- Fields of a line: where the line is long enough, digit by digit, and their bound. Assumes nothing.
use Rattle.std.specs.Prelude.{◌≡◌, refl, false, List, ◌++◌, ℕ, suc, ◌+◌, ◌*◌, ◌^◌, ◌≤◌, ◌<◌, length, get_or, take, drop, Option, Some, None}
use Rattle.std.specs.List.{slice_range}
use Rattle.std.proofs.Common.{sym, ap, ap₂, subst, ◌∙◌, true≢false, add-one, arith, take-append-drop, length-drop, length-take-le, drop-cons, drop_of_length-le, le-leb}
use Rattle.std.proofs.Math.Decide.{dec_le}
use Rattle.std.proofs.Math.Seq.{slice, slice-cons, slice_empty, take-length, length-slice}
use Rattle.std.proofs.lemmas.List.{drop-append-le, drop-take}
use Rattle.std.proofs.lemmas.Bool.{lt-leb}
use Rattle.frame.specs.Digits.{hex_digits, digit_value, and_then, value_after, field_at, malformed, number_of}
use Rattle.frame.specs.DigitLaws.{read_nothing, value_printed, value_below}

-- A field within the line is its digits' value.
pub field_inside : (line : List ℕ) (at w : ℕ) → at + w ≤ length line → field_at line at w ≡ value_after 0 (slice at (at + w) line)
unfolding field_at
field_inside line at w h = rw (le-leb (at + w) (length line) h)

-- A field past the line's end is none.
pub field_outside : (line : List ℕ) (at w : ℕ) → length line < at + w → field_at line at w ≡ None
unfolding field_at
field_outside line at w h = rw (lt-leb (at + w) (length line) h)

-- The value of a line's part, as code takes it: what stands from a place on, and of that the first bytes.
pub field_taken :
    (line part bytes : List ℕ) (at w : ℕ)
    → at + w ≤ length line
    → part ≡ slice_range line at (length line)
    → bytes ≡ slice_range part 0 w
    → value_after 0 bytes ≡ field_at line at w
field_taken line part bytes at w h p b =
    let whole : part ≡ drop at line = p ∙ ap (λ (n : ℕ). take n (drop at line)) (sym (length-drop at line)) ∙ take-length (drop at line) in
    ap (value_after 0) (b ∙ ap₂ (λ (n : ℕ) (l : List ℕ). take n l) (omega arith) whole ∙ sym (drop-take at w line)) ∙ sym (field_inside line at w h)

-- The first digit of those that are left, and the rest.
pub value_next :
    (bytes : List ℕ) (v i : ℕ) → i < length bytes → value_after v (drop i bytes) ≡ and_then (digit_value (get_or bytes i 0)) (λ (d : ℕ). value_after (v * 16 + d) (drop (i + 1) bytes))
unfolding value_after
value_next bytes v i h =
    ap (value_after v) (drop-cons bytes i 0 h)
    ∙ ap (λ (k : ℕ). and_then (digit_value (get_or bytes i 0)) (λ (d : ℕ). value_after (v * 16 + d) (drop k bytes))) (sym (add-one i))

-- The value where none is left.
pub value_none : (bytes : List ℕ) (v i : ℕ) → length bytes ≤ i → value_after v (drop i bytes) ≡ Some v
unfolding value_after
value_none bytes v i h = ap (value_after v) (drop_of_length-le bytes h)

-- The first digit of a part of a line, and the rest.
pub value_step :
    (line : List ℕ) (v from to : ℕ)
    → from < to
    → to ≤ length line
    → value_after v (slice from to line) ≡ and_then (digit_value (get_or line from 0)) (λ (d : ℕ). value_after (v * 16 + d) (slice (suc from) to line))
unfolding value_after
value_step line v from to h l = ap (value_after v) (slice-cons from to line 0 h l)

-- The value of no digits.
pub value_end : (line : List ℕ) (v at : ℕ) → value_after v (slice at at line) ≡ Some v
unfolding value_after
value_end line v at = ap (value_after v) (slice_empty at line)

-- What is known of a field whose value was read.
pub record Held (line : List ℕ) (at w v : ℕ) : Type 0 where
  pub inside : at + w ≤ length line
  pub text : slice at (at + w) line ≡ hex_digits w v
  pub small : v < 16 ^ w

-- A field that was read is the digits of its value.
pub field_held : (line : List ℕ) (at w v : ℕ) → field_at line at w ≡ Some v → Held line at w v
field_held line at w v e = by (dec_le (at + w) (length line))
  where
    by : Dec (at + w ≤ length line) → Held line at w v
    by (yes h) =
        let bytes = slice at (at + w) line in
        let n : length bytes ≡ w = length-slice at (at + w) line h ∙ omega arith in
        let f : value_after 0 bytes ≡ Some v = sym (field_inside line at w h) ∙ e in
        record {
          inside = h;
          text = sym (value_printed bytes 0 v f).same ∙ ap (λ (k : ℕ). hex_digits k v) n;
          small = subst (λ (k : ℕ). v < 16 ^ k) n (value_below bytes v f);
        }
    by (no h) = absurd (read_nothing (field_at line at w) v (field_outside line at w (omega (arith, h))) e)

-- A field that is not malformed has its number.
pub well_formed : (f : Option ℕ) → malformed f ≡ false → f ≡ Some (number_of f)
well_formed (Some v) e = refl
well_formed None e = absurd (true≢false e)

-- A line from a place on is a field and the rest.
pub rest_of : (line : List ℕ) (at w : ℕ) → at + w ≤ length line → drop at line ≡ slice at (at + w) line ++ drop (at + w) line
rest_of line at w h =
    ap (drop at) (sym (take-append-drop (at + w) line))
    ∙ drop-append-le at (take (at + w) line) (drop (at + w) line) (omega (arith, length-take-le (at + w) line h))
