-- 31 or 17 is the first refusal that holds, or none is and the state is fresh.
use Rattle.std.proofs.Common.{◌≡◌, ℕ, not, [], ◌∷◌, sym, ap, ◌∙◌}
use Rattle.marks.specs.Answers.{each}
use Rattle.marks.specs.AnswerLaws.{pass, stop, end, refuses, accepts, refused_first, said_err}
use Rattle.factor.specs.declared.Factor.{Factor}
use Rattle.factor.specs.Precision.{range_out}
use Rattle.factor.specs.SetUp.{intact}
use Rattle.calls.specs.Engine.{fresh}
use Rattle.sweep.specs.Engine.{range, engine}
use Rattle.sweep.specs.Answers.{view_of}
use Rattle.sweep.proofs.EngineLaws.{check_passed}
use Rattle.sweep.proofs.new_state.Goals.{After-range_out}
use Rattle.sweep.proofs.new_state.Goals as goal

pub returns-in_err-sound : goal.returns-in_err-sound
returns-in_err-sound c =
    let a = c.args in
    ap (each view_of) (said_err _ c.from_residual.result c.from_residual.ensures.1)
    ∙ refused_first ((31, not (intact a.f)) ∷ []) ((17, range_out a.f.precision a.first a.last) ∷ []) a.f (fresh engine (range a.f a.first a.last)) _ c.in_err-sound.ensures

-- the range by the factor's own precision
by_factor : (c : After-range_out) → c.range_out.result ≡ range_out c.args.f.precision c.args.first c.args.last
by_factor c =
    c.range_out.ensures ∙ ap (λ (n : ℕ). range_out n c.args.first c.args.last) (c.precision.ensures ∙ ap (λ (f : Factor). f.precision) (sym (check_passed c.in_ok-sound.ensures).1))

pub returns-then-range_out : goal.returns-then-range_out
returns-then-range_out c =
    let a = c.args in
    let out = by_factor (goal.at.returns-then-range_out c).After-range_out in
    refuses (pass (check_passed c.in_ok-sound.ensures).0 (stop (sym out ∙ c.if-range_out.true))) (fresh engine (range a.f a.first a.last))

pub returns : goal.returns
returns c =
    let a = c.args in
    let out = by_factor (goal.at.returns c).After-range_out in
    accepts (pass (check_passed c.in_ok-sound.ensures).0 (pass (sym out ∙ c.if-range_out.false) end)) (fresh engine (range a.f a.first a.last))
