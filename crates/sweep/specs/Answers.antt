-- Definitions: what the code's states and answers say, as numbers and values. Assumes nothing.
use Rattle.std.specs.Prelude.{List, ℕ, false, Result, Ok, Err}
use Rattle.marks.specs.declared.Refusal.{Refusal}
use Rattle.marks.specs.Answers.{Outcome, refused, accepted, number_of, said, each}
use Rattle.factor.specs.declared.Factor.{Factor}
use Rattle.factor.specs.Precision.{least_of, most_of}
use Rattle.calls.specs.State.{Range, State, Call, Terms}
use Rattle.calls.specs.Call as calls
use Rattle.calls.specs.Call.{Reply}
use Rattle.sweep.specs.declared.SweepState.{SweepState}
use Rattle.sweep.specs.declared.Swept.{Swept}
use Rattle.sweep.specs.declared.SweepRefusal.{SweepRefusal}

-- a state: factor, first, last and next significand, finished mark
abbrev pub view_of : SweepState → State (Range Factor)
view_of s = record { over = record { factor = s.factor; first = s.first; last = s.last }; next = s.next; finished = s.finished }

-- the state that says so
abbrev pub code_of : State (Range Factor) → SweepState
code_of s = record { factor = s.over.factor; first = s.over.first; last = s.over.last; next = s.next; finished = s.finished }

-- the sweep over all significands of a factor, at its first one
abbrev pub whole_of : Factor → SweepState
whole_of f = record { factor = f; first = least_of f.precision; last = most_of f.precision; next = least_of f.precision; finished = false }

-- the answer to a new sweep: a refusal its number, or the state
abbrev pub new_of : Result SweepState Refusal → Outcome (State (Range Factor))
new_of r = each view_of (said r)

-- a call: cap, list and first free place
abbrev pub call_of : (cap : ℕ) → List ℕ → (free : ℕ) → Call
call_of cap list free = record { cap = cap; width = 32; list = list; free = free }

-- what it is judged by: cap, the list's length and first free place
abbrev pub terms_by : (cap size free : ℕ) → Terms
terms_by cap size free = record { cap = cap; width = 32; size = size; free = free }

-- what an accepted call returns as numbers
abbrev pub result_of : Swept → calls.Result
result_of r = record { trials = r.trials; rounds = r.rounds; place = r.place }

-- the answer to a call, with the caller's list as it then is: a refusal its number and the state, any other the state and trials, rounds and place
abbrev pub reply_of : Result Swept SweepRefusal → List ℕ → Reply (Range Factor)
reply_of (Ok r) list = record { answer = accepted (result_of r); state = view_of r.state; list = list }
reply_of (Err r) list = record { answer = refused (number_of r.refusal); state = view_of r.state; list = list }
