-- The whole program: from the bytes that come in to the bytes that go out. Definitions only. Assumes nothing.
use Rattle.std.specs.Prelude.{cond, List, [], ◌∷◌, ◌++◌, ℕ, suc, ◌+◌, ◌^◌, ◌%◌, eqb, leb, length}
use Rattle.marks.specs.declared.Mark.{Mark}
use Rattle.marks.specs.declared.Mark.TheVariants.{Right, Open, Wrong}
use Rattle.marks.specs.Answers.{Outcome, refused, accepted, and_then}
use Rattle.factor.specs.declared.Factor.{Factor}
use Rattle.factor.specs.Precision.{least_of}
use Rattle.factor.specs.Context.{context_of, lower_of, upper_of}
use Rattle.factor.specs.SetUp.{set_up}
use Rattle.suspects.specs.Suspects.{is_suspect}
use Rattle.calls.specs.Plain.{row, words_of}
use Rattle.sweep.specs.Engine.{mark_of}
use Rattle.frame.specs.declared.Report.{Report}
use Rattle.frame.specs.Lines.{line_feed}
use Rattle.frame.specs.Frame.{frame_of}
use Rattle.frame.specs.Report.{word_line, report_line, refusal_line}

-- ---- a factor, swept over all its significands
-- the suspects of the whole range, ascending
unfoldable pub suspects_of : Factor → List ℕ
suspects_of f = let n = f.precision in row (is_suspect (context_of f) (lower_of f) (upper_of f)) (least_of n) (2 ^ n)

-- 1 for a wrong one, and for an open one
abbrev pub is_wrong : Mark → ℕ
is_wrong Right = 0
is_wrong Open = 0
is_wrong Wrong = 1

abbrev pub is_open : Mark → ℕ
is_open Right = 0
is_open Open = 1
is_open Wrong = 0

-- how many of a list have a mark of a kind
unfoldable pub counted : (Mark → ℕ) → (ℕ → Mark) → List ℕ → ℕ
counted kind mark [] = 0
counted kind mark (x ∷ l) = kind (mark x) + counted kind mark l

-- the listed words, each on a line of its own, 8 digits
unfoldable pub word_lines : List ℕ → List ℕ
word_lines [] = []
word_lines (w ∷ l) = word_line 8 w ++ word_lines l

-- the report of line i
abbrev pub report_of : ℕ → Factor → Report
report_of i f = record { number = i; trials = length (suspects_of f); wrongs = counted is_wrong (mark_of f) (suspects_of f); opens = counted is_open (mark_of f) (suspects_of f) }

-- the listed words, each on a line of its own, then a report on one line
unfoldable pub swept_output : ℕ → Factor → List ℕ
swept_output i f = word_lines (words_of (mark_of f) (suspects_of f)) ++ report_line 8 (report_of i f)

-- ---- a line
-- what a line asks for: a factor to sweep, or one refusal; 24 is judged first and stands alone
unfoldable pub judged_line : List ℕ → Outcome Factor
unfolding frame_of set_up
judged_line line = and_then (frame_of line) set_up

-- a refused line prints its number, FF and the refusal
abbrev pub judged_output : ℕ → Outcome Factor → List ℕ
judged_output i (accepted f) = swept_output i f
judged_output i (refused j) = refusal_line i j

-- what line i prints
unfoldable pub line_output : ℕ → List ℕ → List ℕ
line_output i line = judged_output i (judged_line line)

-- ---- the lines of the input
-- the input in pieces: the lines that end with a line feed, without it, and what stands after the last of them
pub record Pieces : Type 0 where
  pub lines : List (List ℕ)
  pub rest : List ℕ

-- a byte before the pieces: it belongs to the first of them
abbrev pub before : ℕ → List (List ℕ) → List ℕ → Pieces
before b [] rest = record { lines = []; rest = b ∷ rest }
before b (line ∷ lines) rest = record { lines = (b ∷ line) ∷ lines; rest = rest }

-- a line feed ends the first line, any other byte belongs to it
abbrev pub put : ℕ → Pieces → Pieces
put b p = cond (eqb b line_feed) (record { lines = [] ∷ p.lines; rest = p.rest }) (before b p.lines p.rest)

unfoldable pub pieces : List ℕ → Pieces
pieces [] = record { lines = []; rest = [] }
pieces (b ∷ input) = put b (pieces input)

-- the program stops after 65,535 lines: what is numbered higher prints nothing
abbrev pub most_lines : ℕ
most_lines = 65535

abbrev pub among : ℕ → List ℕ → List ℕ
among i bytes = cond (leb i most_lines) bytes []

-- a last line without its line feed is no frame, and nothing is no line
abbrev pub last_output : ℕ → List ℕ → List ℕ
last_output i [] = []
last_output i (b ∷ rest) = refusal_line i 24

-- the lines from number i on, and the last one
unfoldable pub lines_output : ℕ → List (List ℕ) → List ℕ → List ℕ
lines_output i [] rest = among i (last_output i rest)
lines_output i (line ∷ lines) rest = among i (line_output i line) ++ lines_output (suc i) lines rest

-- the program: lines are numbered from 1
unfoldable pub output : List ℕ → List ℕ
output input = lines_output 1 (pieces input).lines (pieces input).rest

-- how many of a sweep's words are open: an open one's is odd, a wrong one's even
unfoldable pub odds : List ℕ → ℕ
odds [] = 0
odds (w ∷ l) = w % 2 + odds l

-- a report by its numbers
abbrev pub tally : (i trials wrongs opens : ℕ) → Report
tally i t w o = record { number = i; trials = t; wrongs = w; opens = o }
