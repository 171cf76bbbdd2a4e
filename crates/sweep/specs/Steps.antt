-- Definitions: a step of a sweep call, and what the functions that make it may be asked. Assumes nothing.
use Rattle.std.specs.Prelude.{◌≡◌, Bool, cond, ◌||◌, List, [], ◌∷◌, ℕ, suc, ◌+◌, ◌-◌, ◌*◌, ◌^◌, ◌≤◌, ◌<◌, min, max, eqb, ltb, length, Option, Some, None}
use Rattle.std.proofs.lemmas.List.Edits.{sets}
use Rattle.wide.specs.Value.{word_bits}
use Rattle.marks.specs.declared.Mark.{Mark}
use Rattle.marks.specs.declared.Mark.TheVariants.{Right, Open, Wrong}
use Rattle.marks.specs.Answers.{none, judged, NoneHolds}
use Rattle.search.specs.declared.Found.{Found}
use Rattle.factor.specs.declared.Factor.{Factor}
use Rattle.factor.specs.SetUp.{Sound}
use Rattle.suspects.specs.declared.Window.{Window}
use Rattle.suspects.specs.declared.Windows.{Windows}
use Rattle.suspects.specs.Next.{next_in}
use Rattle.factor.specs.Precision.{most_precision}
use Rattle.calls.specs.State.{Listing, entries}
use Rattle.calls.specs.Call.{Run, run, Result, conditions, within, none_after, or_else, ahead}
use Rattle.sweep.specs.declared.SweepState.{SweepState}
use Rattle.sweep.specs.declared.Work.{Work}
use Rattle.sweep.specs.declared.Halt.{Halt}
use Rattle.sweep.specs.declared.Stepped.{Stepped}
use Rattle.sweep.specs.Engine.{windows_of, mark_of, engine}
use Rattle.sweep.specs.Answers.{view_of, terms_by}

-- ---- searches

-- a place past the half or past the range is none found; the rounds count
abbrev pub cut_at : (end : ℕ) → Found → Found
cut_at end f = record { place = within end f.place; rounds = f.rounds }

-- the search in the window of a half, from a on, where the half's part of the range ends before the end
abbrev pub sought_before : Window → (a end : ℕ) → Found
sought_before w a end = cond (ltb a end) (cut_at end (next_in w a)) (none_after 0)

-- the first suspect of the range from a on, with the rounds of the searches that lead to it
abbrev pub ahead_in : Windows → (last a : ℕ) → Found
ahead_in h last a =
    let lower = sought_before h.low a (min h.first_high (suc last)) in
    or_else lower.place lower (sought_before h.high (max a h.first_high) (suc last))

-- the windows are those of a sound factor
pub record Searchable (h : Windows) : Type 0 where
  pub of : Factor
  pub sound : Sound of
  pub are : h ≡ windows_of of

-- ---- a step

-- the call stops if the cap is reached or no place is free
abbrev pub must_stop : (trials cap place size : ℕ) → Bool
must_stop trials cap place size = eqb trials cap || eqb place size

-- at first nothing is done, and the call goes on from a
abbrev pub begun_at : ℕ → Work
begun_at a = record { at = a; trials = 0; rounds = 0; place = 0 }

-- the call stops at a suspect, or none is left
abbrev pub halted_at : Work → (rounds : ℕ) → Option ℕ → Stepped
halted_at w n p = Stepped.Halted (record { trials = w.trials; rounds = n; place = w.place; left = p })

-- X was tried, and the call goes on past it
abbrev pub passed_at : Work → (rounds X : ℕ) → Work
passed_at w n X = record { at = X + 1; trials = w.trials + 1; rounds = n; place = w.place }

-- a word goes into the next free place
abbrev pub with_word : Work → Work
with_word w = record { at = w.at; trials = w.trials; rounds = w.rounds; place = w.place + 1 }

abbrev pub listed_at : Work → (word : ℕ) → Stepped
listed_at w v = Stepped.Listed (with_word w) v

-- X was tried, with its word if it has one: 2X, plus 1 for open
abbrev pub tried_at : Work → (rounds X : ℕ) → Mark → Stepped
tried_at w n X Right = Stepped.Passed (passed_at w n X)
tried_at w n X Open = listed_at (passed_at w n X) (2 * X + 1)
tried_at w n X Wrong = listed_at (passed_at w n X) (2 * X)

-- what is done at a place: a suspect is tried, or the call stops at it; none found is the end
abbrev pub step_at : (ℕ → Mark) → (stop : Bool) → Work → (rounds : ℕ) → Option ℕ → Stepped
step_at mark stop w n (Some X) = cond stop (halted_at w n (Some X)) (tried_at w n X (mark X))
step_at mark stop w n None = halted_at w n None

-- the search ahead
abbrev pub ahead_of : SweepState → (a : ℕ) → Found
ahead_of s a = ahead engine (view_of s).over a

-- the step of a call
abbrev pub step_of : SweepState → (cap size : ℕ) → Work → Stepped
step_of s cap size w =
    let found = ahead_of s w.at in
    step_at (mark_of s.factor) (must_stop w.trials cap w.place size) w (w.rounds + found.rounds) found.place

-- what a call answers as numbers, once it is done
abbrev pub result_in : Halt → Result
result_in h = record { trials = h.trials; rounds = h.rounds; place = h.place }

-- ---- what is asked

-- room to count one more trial and word
pub record Room (w : Work) (X : ℕ) : Type 0 where
  pub tried : w.trials + 1 < 2 ^ word_bits
  pub placed : w.place + 1 < 2 ^ word_bits
  pub found : X < 2 ^ most_precision

-- a step may be made: a new state over the factor and the range is not refused, the windows are those of the factor, and the counts fit
pub record Stepping (s : SweepState) (h : Windows) (cap size : ℕ) (w : Work) : Type 0 where
  pub sound : NoneHolds (engine.new_faults (view_of s).over)
  pub are : h ≡ windows_of s.factor
  pub from : s.first ≤ w.at
  pub upto : w.at ≤ suc s.last
  pub turns : w.rounds + (ahead_of s w.at).rounds < 2 ^ word_bits
  pub capped : w.trials ≤ cap
  pub fits : w.place ≤ size

-- a call on a list of that size, all of it free, is not refused
abbrev pub Taken : SweepState → (cap size : ℕ) → Type 0
Taken s cap size = judged (conditions engine (view_of s) (terms_by cap size 0)) ≡ none

-- ---- all steps in one factor

-- how its entries are kept: the word alone, or behind the place in the kit of a kit's factor
abbrev pub part_list : (lead : Option ℕ) → Listing
part_list None = record { refuses = λ t. []; places = 1; entry = λ w. w ∷ [] }
part_list (Some place) = record { refuses = λ t. []; places = 2; entry = λ w. place ∷ w ∷ [] }

-- what is left to do from where a call is
abbrev pub part_run : SweepState → (cap room : ℕ) → Work → Run
part_run s cap room w = run engine (view_of s).over (cap - w.trials) (room - w.place) w.at

-- the list with the words of a run written, from the next free entry on
abbrev pub part_written : Listing → Work → Run → List ℕ → List ℕ
part_written l w all list = sets list (l.places * w.place) (entries l all.words)

-- it is done: r is what was done before, w, and that
pub record Parted (all : Run) (w : Work) (r : Halt) : Type 0 where
  pub trials : r.trials ≡ w.trials + all.trials
  pub rounds : r.rounds ≡ w.rounds + all.rounds
  pub place : r.place ≡ w.place + length all.words
  pub left : r.left ≡ all.left

-- the steps may be made: a new state over the factor and the range is not refused, and the counts and the entries fit
pub record Partible (s : SweepState) (cap room : ℕ) (lead : Option ℕ) (size : ℕ) (w : Work) : Type 0 where
  pub sound : NoneHolds (engine.new_faults (view_of s).over)
  pub from : s.first ≤ w.at
  pub upto : w.at ≤ suc s.last
  pub capped : w.trials ≤ cap
  pub fits : w.place ≤ room
  pub wide : (part_list lead).places * room ≤ size
  pub turns : w.rounds + 64 * (2 ^ most_precision + 3) < 2 ^ word_bits
