-- Laws: a sweep of a factor with another sign is its size's: states begin alike, and every call is answered alike, with the same words, on a state that keeps its factor's sign. Assumes nothing.
use Rattle.std.specs.Prelude.{◌≡◌, refl, Bool, not, [], ◌∷◌, ℕ, zero, suc, ◌-◌, length, Option, Some, None}
use Rattle.std.proofs.Common.{ap, ap₂, ◌∙◌}
use Rattle.marks.specs.Answers.{Judgement, number, none, judged, answer, each}
use Rattle.marks.specs.AnswerLaws.{answer_each}
use Rattle.factor.specs.declared.Factor.{Factor}
use Rattle.factor.specs.Precision.{range_out}
use Rattle.factor.proofs.Signs.{factor_as, intact_signed}
use Rattle.calls.specs.State.{Range, State, Call, terms_of, listed, word_list}
use Rattle.calls.specs.Engine.{fresh, handed}
use Rattle.calls.specs.Call.{new_state, conditions, Reply, ahead, Run, tried, searched, run, replied, run_of, sweep_call}
use Rattle.sweep.specs.Engine.{range, state_out, engine}

-- a range of the factor with the sign s, a state over it, and a reply with it
abbrev pub range_as : Bool → Range Factor → Range Factor
range_as s r = range (factor_as s r.factor) r.first r.last

abbrev pub state_as : Bool → State (Range Factor) → State (Range Factor)
state_as s t = record { over = range_as s t.over; next = t.next; finished = t.finished }

abbrev pub reply_as : Bool → Reply (Range Factor) → Reply (Range Factor)
reply_as s r = record { answer = r.answer; state = state_as s r.state; list = r.list }

-- a new state
pub new_signed : (s : Bool) (r : Range Factor) → new_state engine (range_as s r) ≡ each (state_as s) (new_state engine r)
new_signed s r =
    ap (λ (i : Bool). answer ((31, not i) ∷ (17, range_out r.factor.precision r.first r.last) ∷ []) (fresh engine (range_as s r))) (intact_signed s r.factor)
    ∙ answer_each (state_as s) (engine.new_faults r) (fresh engine r)

-- what a call does: suspects, marks and searches do not look at the sign
run_signed : (s : Bool) (r : Range Factor) (cap free a : ℕ) → run engine (range_as s r) cap free a ≡ run engine r cap free a
unfolding run
run_signed s r zero free a = refl
run_signed s r (suc cap) zero a = refl
run_signed s r (suc cap) (suc free) a = λ i. searched (ahead engine r a) (λ X. tried (engine.mark r X) X (run_signed s r cap (suc free - length (listed (engine.mark r X) X)) (suc X) i))

-- a call
pub call_signed : (s : Bool) (t : State (Range Factor)) (c : Call) → sweep_call engine (state_as s t) c ≡ reply_as s (sweep_call engine t c)
unfolding sweep_call
call_signed s t c =
    ap₂ (λ (i : Bool) (r : Run). replied engine (state_as s t) c (judged ((31, not i) ∷ (32, state_out t) ∷ (33, t.finished) ∷ word_list.refuses (terms_of c))) r) (intact_signed s t.over.factor) (run_signed s t.over c.cap _ t.next)
    ∙ go (judged (conditions engine t (terms_of c))) (run_of engine t c)
  where
    same : (p : Option ℕ) → handed engine (state_as s t) p ≡ state_as s (handed engine t p)
    same (Some X) = refl
    same None = refl

    go : (v : Judgement) (r : Run) → replied engine (state_as s t) c v r ≡ reply_as s (replied engine t c v r)
    go (number n) r = refl
    go none r = λ i. record { answer = (replied engine t c none r).answer; state = same r.left i; list = (replied engine t c none r).list }
