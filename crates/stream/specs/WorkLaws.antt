-- Steps one after another lose nothing, and stop only where none is wanted or the room may not do. Assumes nothing.
use Rattle.std.specs.Prelude.{◌≡◌, refl, Bool, true, false, cond, ◌&&◌, List, [], ◌∷◌, ◌++◌, ℕ, zero, suc, ◌+◌, ◌-◌, ◌≤◌, ◌<◌, eqb, length, Option, Some, None}
use Rattle.std.proofs.Common.{sym, ap, ◌∙◌, append_assoc, arith, length-append, length-drop}
use Rattle.std.proofs.lemmas.Bool.{false≢true}
use Rattle.std.proofs.Math.Dec.{leb}
use borrow.Author.Tests.{leb-true, leb-false, le-leb}
use Rattle.frame.specs.Lines.{line_feed}
use Rattle.frame.specs.Report.{report_line}
use Rattle.frame.specs.ReportLaws.{length_report}
use Rattle.marks.specs.Answers.{Outcome, refused, accepted}
use Rattle.factor.specs.declared.Factor.{Factor}
use Rattle.calls.specs.Plain.{words_of}
use Rattle.calls.proofs.TrialLaws.{tries_full}
use Rattle.sweep.specs.declared.SweepState.{SweepState}
use Rattle.sweep.specs.Engine.{mark_of}
use Rattle.stream.specs.declared.Tally.{Tally}
use Rattle.stream.specs.Output.{judged_line}
use Rattle.stream.specs.PieceLaws.{by_test}
use Rattle.stream.specs.SweepLaws.{length_lines}
use Rattle.stream.specs.Keep.{kept, up_to_feed}
use Rattle.stream.specs.Step.{list_size, no_cap, left_of, tried_by, tried_of, after_of, tallied_to, tallied, part_lines, report_by, most_written, Read, Stepped, wants_step, judged_step, line_step, swept_step, task_step, step_of}
use Rattle.stream.specs.StepLaws.{reading_by, rest_of, step_tells, step_good}
use Rattle.stream.specs.Good.{Counted, GoodTask, Good}
use Rattle.stream.specs.MoveLaws.{step_short}
use Rattle.stream.specs.Work.{no_step, and_then, steps_of}

-- ---- a step uses up input or room

-- of so many bytes a step leaves fewer, or it writes some
abbrev Uses : ℕ → Stepped → Type 0
Uses size s = length s.left < size + length s.bytes

-- a part of a sweep ends with its report, or fills its list
part_writes : (i : ℕ) (t : Tally) (input : List ℕ) → Counted t → (line : List ℕ) → 0 < length (task_step i line (Some t) input).bytes
part_writes i t input c line = go (after_of s) refl
  where
    s : SweepState
    s = t.state

    words : List ℕ
    words = words_of (mark_of s.factor) (tried_of s)

    go : (l : List ℕ) → after_of s ≡ l → 0 < length (swept_step i (tallied_to t l) (tallied_to t l).state.finished (part_lines s) input).bytes
    go [] e = omega (arith, length-append (part_lines s) (report_line 8 (report_by i (tallied_to t []))), length_report 8 (report_by i (tallied_to t [])))
    go (x ∷ l) e =
        let size : length (left_of s) - tried_by s ≡ length (x ∷ l) = sym (length-drop (tried_by s) (left_of s)) ∙ ap length e in
        let full : list_size ≤ length words = tries_full (mark_of s.factor) no_cap list_size (left_of s) (omega (arith, c.few)) (omega arith) in
        omega (arith, length_lines words)

swept_uses : (i : ℕ) (t : Tally) (b : Bool) (words input : List ℕ) → 0 < length (swept_step i t b words input).bytes → Uses (length input) (swept_step i t b words input)
swept_uses i t true words input h = omega arith
swept_uses i t false words input h = omega arith

judged_uses : (i : ℕ) (a : Outcome Factor) (rest : List ℕ) (size : ℕ) → length rest < size → Uses size (judged_step i a rest)
judged_uses i (accepted f) rest size h = omega arith
judged_uses i (refused j) rest size h = omega arith

line_uses : (i : ℕ) (line up : List ℕ) (size : ℕ) → length up ≤ size → 0 < size → Uses size (line_step i line up)
line_uses i line [] size h k = omega arith
line_uses i line (b ∷ rest) size h k = judged_uses i (judged_line line) rest size (omega arith)

up_short : (input : List ℕ) → length (up_to_feed input) ≤ length input
unfolding up_to_feed
up_short [] = omega arith
up_short (b ∷ input) =
    by_test (λ t. length (cond t (b ∷ input) (up_to_feed input)) ≤ suc (length input)) (eqb b line_feed) (λ e. omega arith) (λ e. omega (arith, up_short input))

-- A step that is wanted uses up a byte of the input, or writes one.
pub step_uses : (r : Read) → Good r → (input : List ℕ) → wants_step r.sweeping input ≡ true → length (step_of r input).left < length input + length (step_of r input).bytes
unfolding step_of
step_uses r g input w = go r.sweeping g.sweeping w
  where
    reads : (input : List ℕ) → wants_step None input ≡ true → Uses (length input) (task_step r.number r.line None input)
    reads [] w = absurd (false≢true w)
    reads (b ∷ chunk) w =
        reading_by (Uses (suc (length chunk))) r.number r.line (b ∷ chunk)
        (λ h. line_uses r.number (kept r.line (b ∷ chunk)) (up_to_feed (b ∷ chunk)) (suc (length chunk)) (up_short (b ∷ chunk)) (omega arith))
        (λ h. omega arith)

    go : (t : Option Tally) → GoodTask r.number t → wants_step t input ≡ true → Uses (length input) (task_step r.number r.line t input)
    go (Some t) q w = swept_uses r.number (tallied t) (tallied t).state.finished (part_lines t.state) input (part_writes r.number t input q.2 r.line)
    go None q w = reads input w

-- ---- steps one after another

-- none is made where the test fails
pub steps_over : (most room : ℕ) (r : Read) (input : List ℕ) → (wants_step r.sweeping input && leb most_written room) ≡ false → steps_of most room r input ≡ no_step r input
unfolding steps_of
steps_over zero room r input t = refl
steps_over (suc most) room r input t = rw t

module _ (most room : ℕ) (r : Read) (input : List ℕ) where
  abbrev one : Stepped
  one = step_of r input

  abbrev further : Stepped
  further = steps_of most (room - length one.bytes) one.read one.left

  pub steps_more : wants_step r.sweeping input ≡ true → most_written ≤ room → steps_of (suc most) room r input ≡ and_then one.bytes further
  unfolding steps_of
  steps_more w h = rw (w, le-leb most_written room h)

  -- what holds of a step and further ones, and of none where none is wanted or the room may not do, holds of them
  steps_by : (P : Stepped → Type 0) → (wants_step r.sweeping input ≡ true → most_written ≤ room → P (and_then one.bytes further))
      → ((wants_step r.sweeping input ≡ true → room < most_written) → P (no_step r input))
      → P (steps_of (suc most) room r input)
  unfolding steps_of
  steps_by P more none =
      by_test (λ b. P (cond (b && leb most_written room) (and_then one.bytes further) (no_step r input))) (wants_step r.sweeping input)
      (λ w. by_test (λ b. P (cond b (and_then one.bytes further) (no_step r input))) (leb most_written room) (λ h. more w (leb-true most_written room h)) (λ h. none (λ v. leb-false most_written room h)))
      (λ w. none (λ v. absurd (false≢true (sym w ∙ v))))

-- Steps lose nothing.
pub steps_tell : (later : List ℕ) (most room : ℕ) (r : Read) → Good r → (input : List ℕ)
    → rest_of r (input ++ later) ≡ (steps_of most room r input).bytes ++ rest_of (steps_of most room r input).read ((steps_of most room r input).left ++ later)
unfolding steps_of
steps_tell later zero room r g input = refl
steps_tell later (suc most) room r g input =
    let s = step_of r input in
    let t = steps_of most (room - length s.bytes) s.read s.left in
    steps_by most room r input (λ z. rest_of r (input ++ later) ≡ z.bytes ++ rest_of z.read (z.left ++ later))
    (λ w h. step_tells later r g input
    ∙ ap (λ (l : List ℕ). s.bytes ++ l) (steps_tell later most (room - length s.bytes) s.read (step_good r g input) s.left)
    ∙ sym (append_assoc s.bytes t.bytes (rest_of t.read (t.left ++ later))))
    (λ n. refl)

-- What holds of all that was read holds after them.
pub steps_good : (most room : ℕ) (r : Read) → Good r → (input : List ℕ) → Good (steps_of most room r input).read
unfolding steps_of
steps_good zero room r g input = g
steps_good (suc most) room r g input =
    let s = step_of r input in
    steps_by most room r input (λ z. Good z.read) (λ w h. steps_good most (room - length s.bytes) s.read (step_good r g input) s.left) (λ n. g)

-- With as many steps as there are bytes of input and room, one is wanted after them only where the room that is left may not do.
pub steps_end : (most room : ℕ) (r : Read) → Good r → (input : List ℕ) → length input + room ≤ most
    → wants_step (steps_of most room r input).read.sweeping (steps_of most room r input).left ≡ true
    → room < most_written + length (steps_of most room r input).bytes
unfolding steps_of
steps_end zero room r g input h = λ w. omega arith
steps_end (suc most) room r g input h =
    let s = step_of r input in
    let t = steps_of most (room - length s.bytes) s.read s.left in
    steps_by most room r input (λ z. wants_step z.read.sweeping z.left ≡ true → room < most_written + length z.bytes)
    (λ w k v. let short = step_short r input in
    let used = step_uses r g input w in
    omega (arith, steps_end most (room - length s.bytes) s.read (step_good r g input) s.left (omega arith) v, length-append s.bytes t.bytes))
    (λ n v. omega (arith, n v))
