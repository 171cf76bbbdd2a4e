-- The code's steps, put together from what its parts have shown. Assumes nothing.
use Rattle.std.specs.Prelude.{◌≡◌, refl, Bool, true, false, cond, ℕ, suc, ◌+◌, ◌≤◌, ◌<◌, leb, drop, Option, Some, None}
use Rattle.std.proofs.Math.Path.{sym, ap, subst}
use Rattle.std.proofs.Common.{◌∙◌, add-one, arith, length-append, drop-cons, le-leb}
use mathlib.Core.List.{List, [], ◌∷◌}
use Rattle.std.proofs.Math.ListN.{length}
use Rattle.std.proofs.Math.Seq.{drop-length}
use Rattle.std.proofs.lemmas.Bool.{lt-leb}
use Rattle.marks.specs.Answers.{Outcome, refused, accepted}
use Rattle.factor.specs.declared.Factor.{Factor}
use Rattle.frame.specs.Report.{report_line, refusal_line}
use Rattle.frame.specs.ReportLaws.{length_report, length_refusal}
use Rattle.frame.specs.Written.{Written}
use Rattle.frame.specs.WrittenLaws.{written_then, written_none}
use Rattle.sweep.specs.declared.SweepState.{SweepState}
use Rattle.stream.specs.declared.Tally.{Tally}
use Rattle.stream.specs.declared.held.Line.{Line}
use Rattle.stream.specs.declared.Progress.{Progress}
use Rattle.stream.specs.declared.Move.{Move}
use Rattle.stream.specs.Output.{most_lines, judged_line}
use Rattle.stream.specs.PieceLaws.{by_test}
use Rattle.stream.specs.Keep.{kept, up_to_feed, Part}
use Rattle.stream.specs.KeepLaws.{none_kept, kept_part}
use Rattle.stream.specs.Step.{begun_with, tallied, part_lines, report_by, most_written, Read, kept_of, read_of, Stepped, at_line, judged_step, line_step, swept_step, task_step, step_of, end_task, end_of}
use Rattle.stream.specs.StepLaws.{reading_by, judged_good, step_good}
use Rattle.stream.specs.Good.{GoodTask, Good, Fit}
use Rattle.stream.specs.PartLaws.{part_short}
use Rattle.stream.specs.Moves.{Turned, Moved}

-- ---- a part of a sweep

-- a line's beginning with a sweep in its place
swept_line : (p : Progress) (i : ℕ) → read_of p ≡ at_line i → (t : Tally)
    → ◌≡◌ {A = Read} (record { number = p.number; line = kept_of p.held; sweeping = Some t }) (record { number = i; line = []; sweeping = Some t })
swept_line p i e t = ap (λ (r : Read). record { number = r.number; line = r.line; sweeping = Some t }) e

module _ (i : ℕ) (t : Tally) (g : GoodTask i (Some t)) (after : Tally) (e : after ≡ tallied t) (at : ℕ) (out mid : List ℕ) (used u : ℕ) (w : Written out used (part_lines t.state) mid u) where
  to : Bool → Stepped
  to b = swept_step i (tallied t) b (part_lines t.state) []

  finished_is : (tallied t).state.finished ≡ after.state.finished
  finished_is = sym (ap (λ (x : Tally). x.state.finished) e)

  -- the sweep is finished, and its report is printed
  pub part_ends : (r : Move) (last : List ℕ) → r.at ≡ at → after.state.finished ≡ true
      → Written mid u (report_line 8 (report_by i after)) last r.used
      → Fit r.progress
      → read_of r.progress ≡ at_line (i + 1)
      → Turned (task_step i [] (Some t) []) at r out used last
  unfolding to
  part_ends r last place f report fit read =
      subst (λ (b : Bool). Turned (to b) at r out used last) (sym (finished_is ∙ f))
      (record {
        fit = fit;
        read = read ∙ ap at_line (add-one i);
        place = place;
        bytes = written_then w (subst (λ (x : Tally). Written mid u (report_line 8 (report_by i x)) last r.used) e report);
      })

  -- the sweep goes on
  pub part_goes_on : (p : Progress) → read_of p ≡ at_line i → after.state.finished ≡ false
      → Turned (task_step i [] (Some t) []) at (record { progress = record { number = p.number; held = p.held; sweeping = Some after }; at = at; used = u }) out used mid
  unfolding to step_of
  part_goes_on p begun f =
      let good : Good (to (tallied t).state.finished).read = step_good (record { number = i; line = []; sweeping = Some t }) (record { number = omega (arith, g.0); line = none_kept; sweeping = g }) [] in
      let same : (to false).read ≡ record { number = p.number; line = kept_of p.held; sweeping = Some after } = sym (swept_line p i begun after ∙ ap (λ (x : Tally). record { number = i; line = []; sweeping = Some x }) e) in
      subst (λ (b : Bool). Turned (to b) at (record { progress = record { number = p.number; held = p.held; sweeping = Some after }; at = at; used = u }) out used mid) (sym (finished_is ∙ f))
      (record {
        fit = record { good = subst Good same (subst (λ (b : Bool). Good (to b).read) (finished_is ∙ f) good) };
        read = sym same;
        place = refl;
        bytes = w;
      })

-- ---- a line that is complete

module _ (i : ℕ) (line : List ℕ) (h : i ≤ most_lines) (at : ℕ) (out : List ℕ) (used : ℕ) where
  pub line_accepted : (f : Factor) (t : Tally) (p : Progress) → accepted f ≡ judged_line line → t ≡ begun_with f → read_of p ≡ at_line i
      → Turned (judged_step i (judged_line line) []) at (record { progress = record { number = p.number; held = p.held; sweeping = Some t }; at = at; used = used }) out used out
  line_accepted f t p e b begun =
      let same : (judged_step i (accepted f) []).read ≡ record { number = p.number; line = kept_of p.held; sweeping = Some t } = sym (swept_line p i begun t ∙ ap (λ (x : Tally). record { number = i; line = []; sweeping = Some x }) b) in
      subst (λ (a : Outcome Factor). Turned (judged_step i a []) at (record { progress = record { number = p.number; held = p.held; sweeping = Some t }; at = at; used = used }) out used out) e
      (record {
        fit = record { good = subst Good same (judged_good i line [] (accepted f) (sym e) h) };
        read = sym same;
        place = refl;
        bytes = written_none out used;
      })

  pub line_refused : (j : ℕ) (r : Move) (after : List ℕ) → r.at ≡ at → refused j ≡ judged_line line
      → Written out used (refusal_line i j) after r.used
      → Fit r.progress
      → read_of r.progress ≡ at_line (i + 1)
      → Turned (judged_step i (judged_line line) []) at r out used after
  line_refused j r after place e w fit read =
      subst (λ (a : Outcome Factor). Turned (judged_step i a []) at r out used after) e
      (record { fit = fit; read = read ∙ ap at_line (add-one i); place = place; bytes = w })

-- ---- the step

-- what a step reads and writes does not depend on the input that it leaves
swept_left : (i : ℕ) (t : Tally) (b : Bool) (words input : List ℕ)
    → swept_step i t b words input ≡ record { read = (swept_step i t b words []).read; left = input; bytes = (swept_step i t b words []).bytes }
swept_left i t true words input = refl
swept_left i t false words input = refl

judged_left : (i : ℕ) (a : Outcome Factor) (input : List ℕ) → judged_step i a input ≡ record { read = (judged_step i a []).read; left = input; bytes = (judged_step i a []).bytes }
judged_left i (accepted f) input = refl
judged_left i (refused j) input = refl

module _ (p : Progress) (fit : Fit p) (input : List ℕ) (at : ℕ) (out : List ℕ) (used : ℕ) where
  abbrev line : List ℕ
  line = kept_of p.held

  abbrev ahead : List ℕ
  ahead = drop at input

  abbrev Does : Option Tally → Move → List ℕ → Type 0
  Does t r after = Moved (task_step p.number line t ahead) input r out used after

  by_task : (t : Option Tally) (r : Move) (after : List ℕ) → p.sweeping ≡ t → Does t r after → Moved (step_of (read_of p) ahead) input r out used after
  unfolding step_of
  by_task t r after e d = subst (λ (x : Option Tally). Does x r after) (sym e) d

  -- while a sweep is on its way
  pub moved_swept : (t : Tally) → p.sweeping ≡ Some t → at ≤ length input
      → (r : Move) (after : List ℕ)
      → Turned (task_step p.number [] (Some t) []) at r out used after
      → Moved (step_of (read_of p) ahead) input r out used after
  moved_swept t e h r after d =
      by_task (Some t) r after e
      (rw (swept_left p.number (tallied t) (tallied t).state.finished (part_lines t.state) ahead)
      (record { fit = d.fit; read = d.read; inside = omega (arith, h, d.place); left = ap (λ (k : ℕ). drop k input) d.place; bytes = d.bytes }))

  module _ (e : p.sweeping ≡ None) where
    -- past the last line that counts
    pub moved_past : most_lines < p.number → Moved (step_of (read_of p) ahead) input (record { progress = p; at = length input; used = used }) out used out
    moved_past h =
        by_task None _ out e
        (rw (lt-leb p.number most_lines h)
        (record {
          fit = fit;
          read = λ j. record { number = p.number; line = line; sweeping = e j };
          inside = omega arith;
          left = drop-length input;
          bytes = written_none out used;
        }))

    module _ (few : p.number ≤ most_lines) (held : Line) (place : ℕ) (keeps : kept_of held ≡ kept line ahead) (inside : place ≤ length input)
        (rest : drop place input ≡ up_to_feed ahead) where
      reads : (r : Move) (after : List ℕ) → Moved (line_step p.number (kept_of held) (drop place input)) input r out used after → Moved (step_of (read_of p) ahead) input r out used after
      reads r after d = by_task None r after e (rw (le-leb p.number most_lines few, ← keeps, ← rest) d)

      -- the input ends before the line does
      pub moved_kept : place ≡ length input
          → Moved (step_of (read_of p) ahead) input (record { progress = record { number = p.number; held = held; sweeping = p.sweeping }; at = place; used = used }) out used out
      moved_kept h =
          let none : drop place input ≡ [] = ap (λ (k : ℕ). drop k input) h ∙ drop-length input in
          reads _ out
          (rw none
          (record {
            fit = record {
              good = record { number = fit.good.number; line = subst Part (sym keeps) (kept_part line ahead fit.good.line); sweeping = fit.good.sweeping };
            };
            read = λ j. record { number = p.number; line = kept_of held; sweeping = e j };
            inside = inside;
            left = none;
            bytes = written_none out used;
          }))

      -- the line is complete, and the input goes on after its line feed
      pub moved_line : ¬ (place ≡ length input)
          → (next : ℕ) (r : Move) (after : List ℕ)
          → Turned (judged_step p.number (judged_line (kept_of held)) []) next r out used after
          → next ≡ place + 1
          → Moved (step_of (read_of p) ahead) input r out used after
      moved_line h next r after d e =
          let i : place < length input = omega arith in
          reads r after
          (rw (drop-cons input place 0 i, judged_left p.number (judged_line (kept_of held)) (drop (suc place) input))
          (record { fit = d.fit; read = d.read; inside = omega (arith, d.place, e); left = ap (λ (k : ℕ). drop k input) (d.place ∙ e ∙ add-one place); bytes = d.bytes }))

-- ---- the end of the input

module _ (p : Progress) (out : List ℕ) (used : ℕ) where
  end_by : (t : Option Tally) (after : List ℕ) (next : ℕ) → p.sweeping ≡ t → Written out used (end_task p.number (kept_of p.held) t) after next → Written out used (end_of (read_of p)) after next
  unfolding end_of
  end_by t after next e w = subst (λ (x : Option Tally). Written out used (end_task p.number (kept_of p.held) x) after next) (sym e) w

  pub end_swept : (t : Tally) → p.sweeping ≡ Some t → Written out used (end_of (read_of p)) out used
  end_swept t e = end_by (Some t) out used e (written_none out used)

  module _ (e : p.sweeping ≡ None) where
    pub end_empty : length (kept_of p.held) ≡ 0 → Written out used (end_of (read_of p)) out used
    end_empty z = end_by None out used e (rw (empty (kept_of p.held) z) (written_none out used))
      where
        empty : (l : List ℕ) → length l ≡ 0 → end_task p.number l None ≡ []
        empty [] h = refl
        empty (b ∷ l) h = absurd (omega arith)

    -- a line of some bytes
    some : (l : List ℕ) → 0 < length l → end_task p.number l None ≡ cond (leb p.number most_lines) (refusal_line p.number 24) []
    some [] h = absurd (omega arith)
    some (b ∷ l) h = refl

    pub end_past : most_lines < p.number → Written out used (end_of (read_of p)) out used
    end_past h = end_by None out used e (rw (past (kept_of p.held)) (written_none out used))
      where
        past : (l : List ℕ) → end_task p.number l None ≡ []
        past [] = refl
        past (b ∷ l) = rw (lt-leb p.number most_lines h)

    pub end_refused : 0 < length (kept_of p.held) → p.number ≤ most_lines → (after : List ℕ) (next : ℕ) → Written out used (refusal_line p.number 24) after next → Written out used (end_of (read_of p)) after next
    end_refused z h after next w = end_by None after next e (rw (some (kept_of p.held) z, le-leb p.number most_lines h) w)

-- ---- a step writes at most 611 bytes

swept_short : (i : ℕ) (t : Tally) (b : Bool) (s : SweepState) (input : List ℕ) → length (swept_step i t b (part_lines s) input).bytes ≤ most_written
swept_short i t true s input = omega (arith, length-append (part_lines s) (report_line 8 (report_by i t)), part_short s, length_report 8 (report_by i t))
swept_short i t false s input = omega (arith, part_short s)

judged_short : (i : ℕ) (a : Outcome Factor) (input : List ℕ) → length (judged_step i a input).bytes ≤ most_written
judged_short i (accepted f) input = omega arith
judged_short i (refused j) input = omega (arith, length_refusal i j)

line_short : (i : ℕ) (line rest : List ℕ) → length (line_step i line rest).bytes ≤ most_written
line_short i line [] = omega arith
line_short i line (b ∷ rest) = judged_short i (judged_line line) rest

pub step_short : (r : Read) (input : List ℕ) → length (step_of r input).bytes ≤ most_written
unfolding step_of
step_short r input = go r.sweeping
  where
    go : (t : Option Tally) → length (task_step r.number r.line t input).bytes ≤ most_written
    go (Some t) = swept_short r.number (tallied t) (tallied t).state.finished t.state input
    go None =
        reading_by (λ s. length s.bytes ≤ most_written) r.number r.line input (λ h. line_short r.number (kept r.line input) (up_to_feed input)) (λ h. omega arith)

-- so what a step leaves of the room is known
pub with_room : (p : Progress) (input : List ℕ) (at : ℕ) (r : Move) (out : List ℕ) (used : ℕ) (after : List ℕ)
    → Moved (step_of (read_of p) (drop at input)) input r out used after
    → Moved (step_of (read_of p) (drop at input)) input r out used after × (r.used ≤ used + most_written)
with_room p input at r out used after m = (m, omega (arith, m.bytes.place, step_short (read_of p) (drop at input)))

end_short : (i : ℕ) (line : List ℕ) (t : Option Tally) → length (end_task i line t) ≤ most_written
end_short i line (Some t) = omega arith
end_short i [] None = omega arith
end_short i (b ∷ line) None =
    by_test (λ t. length (cond t (refusal_line i 24) []) ≤ most_written) (leb i most_lines) (λ e. omega (arith, length_refusal i 24)) (λ e. omega arith)

pub end_room : (p : Progress) (out : List ℕ) (used : ℕ) (after : List ℕ) (next : ℕ)
    → Written out used (end_of (read_of p)) after next
    → Written out used (end_of (read_of p)) after next × (next ≤ used + most_written)
unfolding end_of
end_room p out used after next w = (w, omega (arith, w.place, end_short p.number (kept_of p.held) p.sweeping))
