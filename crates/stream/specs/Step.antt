-- One step of the program, from what was read so far and the next bytes to the bytes to write. Definitions only. Assumes nothing.
use Rattle.std.specs.Prelude.{Bool, true, false, cond, List, [], ◌∷◌, ◌++◌, ℕ, suc, ◌+◌, ◌-◌, ◌^◌, leb, take, drop, Option, Some, None, is_some}
use Rattle.wide.specs.Value.{word_bits}
use Rattle.marks.specs.Answers.{Outcome, refused, accepted}
use Rattle.factor.specs.declared.Factor.{Factor}
use Rattle.factor.specs.Precision.{least_of, most_of}
use Rattle.calls.specs.Engine.{handed}
use Rattle.calls.specs.Plain.{row, tries, words_of}
use Rattle.calls.specs.ByRow.{head_of}
use Rattle.sweep.specs.declared.SweepState.{SweepState}
use Rattle.sweep.specs.Engine.{mark_of, suspect, engine}
use Rattle.sweep.specs.Answers.{view_of, code_of}
use Rattle.frame.specs.declared.Report.{Report}
use Rattle.frame.specs.Report.{report_line, refusal_line}
use Rattle.stream.specs.declared.Tally.{Tally}
use Rattle.stream.specs.declared.held.Line.{Line}
use Rattle.stream.specs.declared.Progress.{Progress}
use Rattle.stream.specs.Output.{most_lines, is_wrong, is_open, counted, word_lines, judged_line, tally}
use Rattle.stream.specs.Keep.{kept, up_to_feed}

-- ---- a part of a sweep: one call, with no cap that counts and a list of 64 words

abbrev pub list_size : ℕ
list_size = 64

abbrev pub no_cap : ℕ
no_cap = 2 ^ word_bits - 1

-- the suspects not yet tried
abbrev pub left_of : SweepState → List ℕ
left_of s = row (suspect s.factor) s.next (suc s.last)

-- how many of them a call tries
abbrev pub tried_by : SweepState → ℕ
tried_by s = tries (mark_of s.factor) no_cap list_size (left_of s)

-- these, and those after them
abbrev pub tried_of : SweepState → List ℕ
tried_of s = take (tried_by s) (left_of s)

abbrev pub after_of : SweepState → List ℕ
after_of s = drop (tried_by s) (left_of s)

-- the state stopped at a suspect, or finished
abbrev pub state_at : SweepState → Option ℕ → SweepState
state_at s p = code_of (handed engine (view_of s) p)

-- the sweep over all significands of a factor, at its beginning
abbrev pub begun_with : Factor → Tally
begun_with f =
    let n = f.precision in
    record { state = record { factor = f; first = least_of n; last = most_of n; next = least_of n; finished = false }; trials = 0; wrongs = 0; opens = 0 }

-- the sweep after a part, with the suspects that it leaves
abbrev pub tallied_to : Tally → List ℕ → Tally
tallied_to t left =
    let s = t.state in
    record {
      state = state_at s (head_of left);
      trials = t.trials + tried_by s;
      wrongs = t.wrongs + counted is_wrong (mark_of s.factor) (tried_of s);
      opens = t.opens + counted is_open (mark_of s.factor) (tried_of s);
    }

abbrev pub tallied : Tally → Tally
tallied t = tallied_to t (after_of t.state)

-- what a part prints, and what the end prints
abbrev pub part_lines : SweepState → List ℕ
part_lines s = word_lines (words_of (mark_of s.factor) (tried_of s))

abbrev pub report_by : ℕ → Tally → Report
report_by i t = tally i t.trials t.wrongs t.opens

-- ---- a step

-- no step writes more bytes: 64 words of 9, and a report of 35
abbrev pub most_written : ℕ
most_written = 611

-- what was read so far: the number of the line, what is kept of it, and the sweep of the line before, if that is on its way
pub record Read : Type 0 where
  pub number : ℕ
  pub line : List ℕ
  pub sweeping : Option Tally

-- the bytes that are kept of a line: the first ones, and what stands past them counts for nothing
abbrev pub kept_of : Line → List ℕ
kept_of l = take l.length l.bytes

abbrev pub read_of : Progress → Read
read_of p = record { number = p.number; line = kept_of p.held; sweeping = p.sweeping }

-- what a step comes to: what was read then, the input that is left, and the bytes to write
pub record Stepped : Type 0 where
  pub read : Read
  pub left : List ℕ
  pub bytes : List ℕ

-- whether a step is to be made: input is left in the chunk, or a sweep is on its way
abbrev pub wants_step : Option Tally → List ℕ → Bool
wants_step sweep [] = is_some sweep
wants_step sweep (b ∷ chunk) = true

-- at the beginning of line i
abbrev pub at_line : ℕ → Read
at_line i = record { number = i; line = []; sweeping = None }

-- a line that is complete: its refusal, or the sweep of its factor begins
abbrev pub judged_step : (i : ℕ) → Outcome Factor → (input : List ℕ) → Stepped
judged_step i (accepted f) input = record { read = record { number = i; line = []; sweeping = Some (begun_with f) }; left = input; bytes = [] }
judged_step i (refused j) input = record { read = at_line (suc i); left = input; bytes = refusal_line i j }

-- line i up to its line feed, or as far as the input goes
abbrev pub line_step : (i : ℕ) (line input : List ℕ) → Stepped
line_step i line [] = record { read = record { number = i; line = line; sweeping = None }; left = []; bytes = [] }
line_step i line (b ∷ input) = judged_step i (judged_line line) input

-- a part of a sweep: its words, and at the end the report
abbrev pub swept_step : (i : ℕ) → Tally → Bool → (words input : List ℕ) → Stepped
swept_step i t true words input = record { read = at_line (suc i); left = input; bytes = words ++ report_line 8 (report_by i t) }
swept_step i t false words input = record { read = record { number = i; line = []; sweeping = Some t }; left = input; bytes = words }

abbrev pub task_step : (i : ℕ) (line : List ℕ) → Option Tally → (input : List ℕ) → Stepped
task_step i line (Some t) input = swept_step i (tallied t) (tallied t).state.finished (part_lines t.state) input
-- the program stops after 65,535 lines: what comes after them is not read
task_step i line None input =
    cond (leb i most_lines) (line_step i (kept line input) (up_to_feed input)) (record { read = record { number = i; line = line; sweeping = None }; left = []; bytes = [] })

-- the step
unfoldable pub step_of : Read → (input : List ℕ) → Stepped
step_of r input = task_step r.number r.line r.sweeping input

-- at the end of the input: a last line without its line feed is no frame, and nothing is no line
abbrev pub end_task : (i : ℕ) (line : List ℕ) → Option Tally → List ℕ
end_task i line (Some t) = []
end_task i [] None = []
end_task i (b ∷ line) None = cond (leb i most_lines) (refusal_line i 24) []

unfoldable pub end_of : Read → List ℕ
end_of r = end_task r.number r.line r.sweeping
