-- Definitions: the parts of a kit call, and what the functions that make them may be asked. Assumes nothing.
use Rattle.std.specs.Prelude.{◌≡◌, false, List, ℕ, ◌*◌, Ok}
use Rattle.marks.specs.Answers.{none, judged}
use Rattle.factor.specs.declared.Factor.{Factor}
use Rattle.factor.specs.Precision.{least_of, most_of}
use Rattle.calls.specs.State.{State}
use Rattle.calls.specs.Call.{conditions, ReplyOf}
use Rattle.calls.specs.Kit as calls
use Rattle.sweep.specs.declared.SweepState.{SweepState}
use Rattle.sweep.specs.declared.Work.{Work}
use Rattle.sweep.specs.declared.Halt.{Halt}
use Rattle.sweep.specs.Answers.{terms_by}
use Rattle.kit.specs.declared.KitState.{KitState}
use Rattle.kit.specs.declared.KitCounts.{KitCounts}
use Rattle.kit.specs.Engine.{kits}
use Rattle.kit.specs.Answers.{view_of, reply_of}

-- what is done so far, gone on with in the next factor
abbrev pub resumed_at : Halt → Work
resumed_at h = record { at = 0; trials = h.trials; rounds = h.rounds; place = h.place }

-- what is counted of it: two words for each entry
abbrev pub counts_of : Work → KitCounts
counts_of w = record { trials = w.trials; rounds = w.rounds; place = 2 * w.place }

-- the reply of an accepted call, by the state and the counts that it ends with, and the list that it left
abbrev pub end_of : KitState × KitCounts → List ℕ → ReplyOf (State (calls.Kit Factor))
end_of e list = reply_of (record { state = e.0; answer = Ok e.1 }) list

-- a call on a list of that size, all of it free, is not refused
abbrev pub Taken : KitState → (cap size : ℕ) → Type 0
Taken s cap size = judged (conditions kits (view_of s) (terms_by cap size 0)) ≡ none
