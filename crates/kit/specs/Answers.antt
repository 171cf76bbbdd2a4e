-- Definitions: what the code's kits, states and answers say, in numbers and values. Assumes nothing.
use Rattle.std.specs.Prelude.{Bool, cond, List, ℕ, eqb, false, pos, Result as Either}
use Rattle.std.specs.Float.{nan}
use Rattle.marks.specs.declared.Refusal.{Refusal}
use Rattle.marks.specs.Answers.{Outcome, said, answer, each}
use Rattle.factor.specs.declared.Factor.{Factor}
use Rattle.calls.specs.State.{State}
use Rattle.calls.specs.Call.{Result, ReplyOf}
use Rattle.calls.specs.Kit as calls
use Rattle.calls.specs.Kit.{position}
use Rattle.kit.specs.declared.Kit.{Kit}
use Rattle.kit.specs.declared.KitState.{KitState}
use Rattle.kit.specs.declared.KitCounts.{KitCounts}
use Rattle.kit.specs.declared.KitReply.{KitReply}
pub use Rattle.kit.specs.declared.Verdict.{Verdict}
use Rattle.kit.specs.Engine.{kits}

-- a kit: its factors and their number
abbrev pub kit_of : Kit → calls.Kit Factor
kit_of k = record { factors = k.factors; count = k.count }

-- what the logic reads past an array of factors, where code reads nothing
abbrev pub no_factor : Factor
no_factor =
    record {
      minus = false;
      precision = 0;
      lower = 0;
      upper = 0;
      parts = record { high = 0; low = pos 0; places = 0 };
      applied = record { high = nan; low = nan; scale = pos 0 };
    }

-- a state: the kit, place and significand as a position, and the finished mark
abbrev pub view_of : KitState → State (calls.Kit Factor)
view_of s = record { over = kit_of s.kit; next = position s.place s.next; finished = s.finished }

-- the answer to a new kit sweep: a refusal its number, or the state
abbrev pub new_of : Either KitState Refusal → Outcome (State (calls.Kit Factor))
new_of r = each view_of (said r)

-- what an accepted call returns as numbers
abbrev pub result_of : KitCounts → Result
result_of c = record { trials = c.trials; rounds = c.rounds; place = c.place }

-- the answer to a kit call
abbrev pub answer_of : Either KitCounts Refusal → Outcome Result
answer_of r = each result_of (said r)

-- with the state, and the caller's list as it then is
abbrev pub reply_of : KitReply → List ℕ → ReplyOf (State (calls.Kit Factor))
reply_of r list = record { answer = answer_of r.answer; state = view_of r.state; list = list }

-- ---- whether a kit is clean
-- of a finished state only: clean where its calls wrote no entry since the new one
abbrev pub told : (finished : Bool) (entries : ℕ) → Verdict
told finished entries = cond finished (cond (eqb entries 0) Verdict.Clean Verdict.NotClean) Verdict.Unfinished

-- 42, 31, 43, 32, or what is told
unfoldable pub verdict_of : State (calls.Kit Factor) → (entries : ℕ) → Outcome Verdict
verdict_of s entries = answer (kits.faults s) (told s.finished entries)
