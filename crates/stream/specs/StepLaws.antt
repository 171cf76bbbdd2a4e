-- A step of the program loses nothing: the bytes that it writes, and what is still to print after it, are what was to print before. Assumes nothing.
use Rattle.std.specs.Prelude.{◌≡◌, Bool, true, ℕ, suc, ◌+◌, ◌-◌, ◌*◌, ◌^◌, ◌≤◌, ◌<◌, eqb, leb, length, Option, Some, None}
use Rattle.std.proofs.Math.Path.{refl, sym, ap}
use Rattle.std.proofs.Common.{◌∙◌, pow-suc, arith, pow_pos, pow_mono, take-append-drop, length-drop, length-take-le, eqb-true, leb-true, leb-false, le-leb, le-ltb}
use Rattle.std.proofs.Math.Bool.{cond}
use mathlib.Core.List.{List, [], ◌∷◌, ◌++◌, append_assoc}
use Rattle.std.proofs.lemmas.Bool.{lt-leb}
use Rattle.frame.specs.Lines.{line_feed}
use Rattle.frame.specs.Report.{report_line}
use Rattle.marks.specs.Answers.{Outcome, refused, accepted, and_then}
use Rattle.factor.specs.declared.Description.{Description}
use Rattle.factor.specs.declared.Factor.{Factor}
use Rattle.factor.specs.Precision.{least_of, most_precision}
use Rattle.factor.specs.SetUp.{set_up, Sound, intact}
use Rattle.factor.proofs.SetUpLaws.{accepted_intact, intact_sound}
use Rattle.calls.specs.Plain.{row}
use Rattle.calls.specs.ByRow.{head_of}
use Rattle.calls.proofs.RowLaws.{begins, row_ascends, ascends_few}
use Rattle.calls.proofs.TrialLaws.{tries_within}
use Rattle.frame.specs.Frame.{frame_of}
use Rattle.sweep.specs.declared.SweepState.{SweepState}
use Rattle.sweep.specs.Engine.{mark_of, suspect}
use Rattle.stream.specs.declared.Tally.{Tally}
use Rattle.stream.specs.Output.{most_lines, among, suspects_of, judged_line, judged_output, last_output, line_output, output}
use Rattle.stream.specs.PieceLaws.{by_test, reading, reading_all, reading_feed, reading_end, reading_past}
use Rattle.stream.specs.SweepLaws.{told, sweeping, sweeping_all, sweeping_some, sweeping_none}
use Rattle.stream.specs.Keep.{kept, up_to_feed, Part}
use Rattle.stream.specs.KeepLaws.{none_kept, kept_part, reading_kept}
use Rattle.stream.specs.Good.{Going, Counted, GoodTask, Good}
use Rattle.stream.specs.Step.{list_size, no_cap, left_of, tried_by, tried_of, after_of, state_at, begun_with, tallied_to, tallied, part_lines, report_by, Read, Stepped, at_line, judged_step, line_step, swept_step, task_step, step_of, end_task, end_of}

-- ---- what is still to print

abbrev pub rest_task : (i : ℕ) (line : List ℕ) → Option Tally → (input : List ℕ) → List ℕ
rest_task i line None input = reading i line input
rest_task i line (Some t) input =
    sweeping i (mark_of t.state.factor) (left_of t.state) t.trials t.wrongs t.opens (reading (suc i) [] input)

unfoldable pub rest_of : Read → (input : List ℕ) → List ℕ
rest_of r input = rest_task r.number r.line r.sweeping input

-- ---- what holds of all that was read

pub begin_good : Good (at_line 1)
begin_good = record { number = omega arith; line = none_kept; sweeping = Prim.tt }

-- ---- a sweep that begins

module _ (f : Factor) (whole : intact f ≡ true) where
  abbrev n : ℕ
  n = f.precision

  sound : Sound f
  sound = intact_sound f whole

  least_most : (2 ^ (n - 1) ≤ 2 ^ n - 1) × (2 ^ n - 1 < 2 ^ n)
  least_most =
      let m : n ≡ suc (n - 1) = omega (arith, sound.precision) in
      let p : 1 ≤ 2 ^ (n - 1) = pow_pos (n - 1) in
      let d : 2 ^ n ≡ 2 ^ (n - 1) * 2 = ap (λ (k : ℕ). 2 ^ k) m ∙ pow-suc 2 (n - 1) in
      (omega arith, omega arith)

  pub begun_going : Going (begun_with f).state
  begun_going =
      let l = least_most in
      record {
        whole = whole;
        inside =
            rw (
              le-ltb (2 ^ (n - 1)) (2 ^ (n - 1)) (omega arith),
              lt-leb (2 ^ n) (2 ^ (n - 1)) (omega arith),
              le-ltb (2 ^ n - 1) (2 ^ (n - 1)) (omega arith),
              lt-leb (2 ^ n) (2 ^ n - 1) (omega arith),
            );
        from = omega arith;
        upto = omega arith;
        going = refl;
      }

  pub begun_counted : Counted (begun_with f)
  begun_counted =
      let l = least_most in
      let a = ascends_few (2 ^ (n - 1)) (suc (2 ^ n - 1)) (left_of (begun_with f).state) (row_ascends (suspect f) (2 ^ (n - 1)) (suc (2 ^ n - 1))) in
      let b : 2 ^ n ≤ 2 ^ most_precision = pow_mono sound.precision.most in
      record { few = omega arith; failing = omega arith }

  pub begun_left : suspects_of f ≡ left_of (begun_with f).state
  unfolding suspects_of
  begun_left =
      let l = least_most in
      ap (row (suspect f) (least_of n)) (omega arith)

-- a line is accepted only with a factor that is intact
pub judged_intact : (line : List ℕ) (f : Factor) → judged_line line ≡ accepted f → intact f ≡ true
unfolding judged_line
judged_intact line f e = go (frame_of line) e
  where
    go : (a : Outcome Description) → and_then a set_up ≡ accepted f → intact f ≡ true
    go (accepted d) q = accepted_intact d f q
    go (refused j) q = let z : ◌≡◌ {A = ℕ} 0 1 = cc in absurd (omega arith)

-- ---- the steps

up_head : (input : List ℕ) (b : ℕ) (rest : List ℕ) → up_to_feed input ≡ b ∷ rest → b ≡ line_feed
unfolding up_to_feed
up_head [] b rest e = let z : ◌≡◌ {A = ℕ} 0 1 = cc in absurd (omega arith)
up_head (x ∷ input) b rest e =
    by_test (λ t. cond t (x ∷ input) (up_to_feed input) ≡ b ∷ rest → b ≡ line_feed) (eqb x line_feed) (λ q e. cc (eqb-true x line_feed q)) (λ q e. up_head input b rest e) e

-- while a line is read: it counts, or it comes after the last that does
pub reading_by : (P : Stepped → Type 0) (i : ℕ) (line input : List ℕ) → (i ≤ most_lines → P (line_step i (kept line input) (up_to_feed input))) → (most_lines < i → P (line_step i line []))
    → P (task_step i line None input)
reading_by P i line input counts past =
    by_test (λ t. P (cond t (line_step i (kept line input) (up_to_feed input)) (line_step i line []))) (leb i most_lines) (λ e. counts (leb-true i most_lines e)) (λ e. past (leb-false i most_lines e))

module _ (later : List ℕ) where
  -- what a step must do
  abbrev Tells : List ℕ → Stepped → Type 0
  Tells before s = before ≡ s.bytes ++ rest_of s.read (s.left ++ later)

  -- a part of a sweep
  part_tells : (i : ℕ) (line : List ℕ) (t : Tally) (input : List ℕ) → Tells (rest_task i line (Some t) (input ++ later)) (task_step i line (Some t) input)
  unfolding rest_of
  part_tells i line t input = go (after_of s) refl
    where
      s : SweepState
      s = t.state

      r : List ℕ
      r = reading (suc i) [] (input ++ later)

      k : tried_by s ≤ length (left_of s)
      k = tries_within (mark_of s.factor) no_cap list_size (left_of s)

      start : (l : List ℕ) → after_of s ≡ l
          → rest_task i line (Some t) (input ++ later)
          ≡ part_lines s ++ sweeping i (mark_of s.factor) l (t.trials + tried_by s) (tallied t).wrongs (tallied t).opens r
      start l e =
          ap (λ (m : List ℕ). sweeping i (mark_of s.factor) m t.trials t.wrongs t.opens r) (sym (take-append-drop (tried_by s) (left_of s)) ∙ ap (λ (m : List ℕ). tried_of s ++ m) e)
          ∙ sweeping_some i (mark_of s.factor) (tried_of s) l t.trials t.wrongs t.opens r
          ∙ ap (λ (m : ℕ). part_lines s ++ sweeping i (mark_of s.factor) l (t.trials + m) (tallied t).wrongs (tallied t).opens r) (length-take-le (tried_by s) (left_of s) k)

      go : (l : List ℕ) → after_of s ≡ l → Tells (rest_task i line (Some t) (input ++ later)) (swept_step i (tallied_to t l) (tallied_to t l).state.finished (part_lines s) input)
      go [] e =
          start [] e
          ∙ ap (λ (m : List ℕ). part_lines s ++ m) (sweeping_none i (mark_of s.factor) (t.trials + tried_by s) (tallied t).wrongs (tallied t).opens r)
          ∙ sym (append_assoc (part_lines s) (report_line 8 (report_by i (tallied t))) r)
      go (x ∷ l) e =
          let b = begins (suspect s.factor) s.next (suc s.last) (tried_by s) x l e in
          start (x ∷ l) e ∙ ap (λ (m : List ℕ). part_lines s ++ sweeping i (mark_of s.factor) m (t.trials + tried_by s) (tallied t).wrongs (tallied t).opens r) b.is

  -- a line that is complete
  judged_tells : (i : ℕ) (line input : List ℕ) (a : Outcome Factor) → judged_line line ≡ a
      → Tells (judged_output i a ++ reading (suc i) [] (input ++ later)) (judged_step i a input)
  unfolding rest_of
  judged_tells i line input (accepted f) e =
      sweeping_all i f (reading (suc i) [] (input ++ later))
      ∙ ap (λ (l : List ℕ). sweeping i (mark_of f) l 0 0 0 (reading (suc i) [] (input ++ later))) (begun_left f (judged_intact line f e))
  judged_tells i line input (refused j) e = refl

  line_tells : (i : ℕ) (line rest : List ℕ) → Part line → i ≤ most_lines → ((b : ℕ) (l : List ℕ) → rest ≡ b ∷ l → b ≡ line_feed)
      → Tells (reading i line (rest ++ later)) (line_step i line rest)
  unfolding rest_of line_output
  line_tells i line [] p h f = refl
  line_tells i line (b ∷ rest) p h f =
      ap (λ (x : ℕ). reading i line (x ∷ (rest ++ later))) (f b rest refl)
      ∙ reading_feed i line (rest ++ later) p.plain
      ∙ ap (λ (t : Bool). cond t (line_output i line) [] ++ reading (suc i) [] (rest ++ later)) (le-leb i most_lines h)
      ∙ judged_tells i line rest (judged_line line) refl

  reading_tells : (i : ℕ) (line input : List ℕ) → Part line → Tells (reading i line (input ++ later)) (task_step i line None input)
  unfolding rest_of
  reading_tells i line input p =
      reading_by (Tells (reading i line (input ++ later))) i line input
      (λ h. reading_kept i line input later p ∙ line_tells i (kept line input) (up_to_feed input) (kept_part line input p) h (λ b l e. up_head input b l e))
      (λ h. reading_past i line (input ++ later) h ∙ sym (reading_past i line later h))

  -- A step loses nothing.
  pub step_tells : (r : Read) → Good r → (input : List ℕ) → Tells (rest_of r (input ++ later)) (step_of r input)
  unfolding rest_of step_of
  step_tells r g input = go r.sweeping
    where
      go : (t : Option Tally) → Tells (rest_task r.number r.line t (input ++ later)) (task_step r.number r.line t input)
      go None = reading_tells r.number r.line input g.line
      go (Some t) = part_tells r.number r.line t input

-- ---- what holds of all that was read, after a step

-- the counts after a part
pub tallied_counted : (t : Tally) (l : List ℕ) → after_of t.state ≡ l → left_of (state_at t.state (head_of l)) ≡ l → Counted t → Counted (tallied_to t l)
tallied_counted t l e left c =
    let s = t.state in
    let k : tried_by s ≤ length (left_of s) = tries_within (mark_of s.factor) no_cap list_size (left_of s) in
    let size : length (left_of s) - tried_by s ≡ length l = sym (length-drop (tried_by s) (left_of s)) ∙ ap length e in
    record {
      few = omega (arith, c.few, ap length left);
      failing = omega (arith, c.failing, told (mark_of s.factor) (tried_of s), length-take-le (tried_by s) (left_of s) k);
    }

part_good : (i : ℕ) (t : Tally) (input : List ℕ) → i ≤ most_lines → Going t.state → Counted t → Good (task_step i [] (Some t) input).read
part_good i t input h g c = go (after_of s) refl
  where
    s : SweepState
    s = t.state

    go : (l : List ℕ) → after_of s ≡ l → Good (swept_step i (tallied_to t l) (tallied_to t l).state.finished (part_lines s) input).read
    go [] e = record { number = omega arith; line = none_kept; sweeping = Prim.tt }
    go (x ∷ l) e =
        let b = begins (suspect s.factor) s.next (suc s.last) (tried_by s) x l e in
        let from = b.from in
        record {
          number = omega arith;
          line = none_kept;
          sweeping = (
            h,
            record { whole = g.whole; inside = g.inside; from = omega (arith, g.from); upto = omega (arith, b.below); going = refl },
            tallied_counted t (x ∷ l) e (sym b.is) c,
          );
        }

pub judged_good : (i : ℕ) (line input : List ℕ) (a : Outcome Factor) → judged_line line ≡ a → i ≤ most_lines → Good (judged_step i a input).read
judged_good i line input (accepted f) e h =
    record { number = omega arith; line = none_kept; sweeping = (h, begun_going f (judged_intact line f e), begun_counted f (judged_intact line f e)) }
judged_good i line input (refused j) e h = record { number = omega arith; line = none_kept; sweeping = Prim.tt }

line_good : (i : ℕ) (line rest : List ℕ) → i ≤ most_lines → Part line → Good (line_step i line rest).read
line_good i line [] h p = record { number = omega arith; line = p; sweeping = Prim.tt }
line_good i line (b ∷ rest) h p = judged_good i line rest (judged_line line) refl h

pub step_good : (r : Read) → Good r → (input : List ℕ) → Good (step_of r input).read
unfolding step_of
step_good r g input = go r.sweeping g.sweeping
  where
    go : (t : Option Tally) → GoodTask r.number t → Good (task_step r.number r.line t input).read
    go (Some t) q = part_good r.number t input q.0 q.1 q.2
    go None q =
        reading_by (λ s. Good s.read) r.number r.line input
        (λ h. line_good r.number (kept r.line input) (up_to_feed input) h (kept_part r.line input g.line))
        (λ h. record { number = g.number; line = g.line; sweeping = Prim.tt })

-- ---- at the end of the input

pub end_tells : (r : Read) → Good r → r.sweeping ≡ None → rest_of r [] ≡ end_of r
unfolding rest_of end_of
end_tells r g e = rw e (reading_end r.number r.line g.line.plain ∙ go r.line)
  where
    go : (l : List ℕ) → among r.number (last_output r.number l) ≡ end_task r.number l None
    go [] = by_test (λ t. ◌≡◌ {A = List ℕ} (cond t [] []) []) (leb r.number most_lines) (λ e. refl) (λ e. refl)
    go (b ∷ l) = refl

-- ---- and at the beginning

pub begin_tells : (input : List ℕ) → rest_of (at_line 1) input ≡ output input
unfolding rest_of
begin_tells input = sym (reading_all input)
