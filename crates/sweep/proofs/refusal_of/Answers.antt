-- The first refusal whose condition holds: 31, 32, 33, 18, 19.
use Rattle.std.proofs.Common.{◌≡◌, ℕ, not, [], ◌∷◌, sym, ap, ◌∙◌, eq-eqb, ne_eqb, le-leb}
use Rattle.std.proofs.lemmas.Bool.{lt-leb}
use Rattle.marks.specs.AnswerLaws.{pass, stop, end, said_first, refused_first, said_err}
use Rattle.factor.specs.declared.Factor.{Factor}
use Rattle.factor.specs.Precision.{range_out}
use Rattle.factor.specs.SetUp.{intact}
use Rattle.calls.specs.State.{out_of_range, word_list}
use Rattle.calls.specs.Call.{conditions}
use Rattle.sweep.specs.Engine.{state_out, engine}
use Rattle.sweep.specs.Answers.{view_of, terms_by}
use Rattle.sweep.proofs.EngineLaws.{check_passed}
use Rattle.sweep.proofs.refusal_of.Goals.{After-state_out}
use Rattle.sweep.proofs.refusal_of.Goals as goal

pub returns-in_err-sound : goal.returns-in_err-sound
returns-in_err-sound c =
    let a = c.args in
    let s = view_of a.s in
    said_first (conditions engine s (terms_by a.cap a.size a.free)) _ c.from_residual.result
    (said_err _ c.from_residual.result c.from_residual.ensures.1
    ∙ refused_first ((31, not (intact a.s.factor)) ∷ []) ((32, state_out s) ∷ (33, a.s.finished) ∷ word_list.refuses (terms_by a.cap a.size a.free)) a.s.factor _ _ c.in_err-sound.ensures)

-- the range by the factor's own precision
by_factor : (c : After-state_out) → c.state_out.result ≡ state_out (view_of c.args.s)
by_factor c =
    let s = c.args.s in
    c.state_out.ensures
    ∙ ap (λ (n : ℕ). out_of_range (range_out n s.first s.last) (view_of s)) (c.precision.ensures ∙ ap (λ (f : Factor). f.precision) (sym (check_passed c.in_ok-sound.ensures).1))

pub returns-then-state_out : goal.returns-then-state_out
returns-then-state_out c = pass (check_passed c.in_ok-sound.ensures).0 (stop (sym (by_factor (goal.at.returns-then-state_out c).After-state_out) ∙ c.if-state_out.true))

pub returns-then-s : goal.returns-then-s
returns-then-s c =
    pass (check_passed c.in_ok-sound.ensures).0 (pass (sym (by_factor (goal.at.returns-then-s c).After-state_out) ∙ c.if-state_out.false) (stop c.if-s.true))

pub returns-then-cap-eq0 : goal.returns-then-cap-eq0
returns-then-cap-eq0 c =
    pass (check_passed c.in_ok-sound.ensures).0
    (pass (sym (by_factor (goal.at.returns-then-cap-eq0 c).After-state_out) ∙ c.if-state_out.false) (pass (cc) (stop (eq-eqb c.args.cap 0 c.if-cap-eq0.true))))

pub returns-then-size-free : goal.returns-then-size-free
returns-then-size-free c =
    let a = c.args in
    pass (check_passed c.in_ok-sound.ensures).0
    (pass (sym (by_factor (goal.at.returns-then-size-free c).After-state_out) ∙ c.if-state_out.false)
    (pass c.if-s.false (pass (ne_eqb a.cap 0 c.if-cap-eq0.false) (stop (le-leb a.size a.free c.if-size-free.true)))))

pub returns : goal.returns
returns c =
    let a = c.args in
    pass (check_passed c.in_ok-sound.ensures).0
    (pass (sym (by_factor (goal.at.returns c).After-state_out) ∙ c.if-state_out.false)
    (pass c.if-s.false (pass (ne_eqb a.cap 0 c.if-cap-eq0.false) (pass (lt-leb a.size a.free c.if-size-free.false) end))))
