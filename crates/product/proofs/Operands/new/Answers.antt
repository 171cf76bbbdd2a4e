-- The first refusal whose condition holds: 31, then 17.
use Rattle.std.specs.Prelude.{◌≡◌, false, not, [], ◌∷◌, ℕ}
use Rattle.std.proofs.Common.{sym, ap, ◌∙◌}
use Rattle.std.proofs.lemmas.Bool.{not-false}
use Rattle.marks.specs.Answers.{Outcome, each}
use Rattle.marks.specs.AnswerLaws.{pass, stop, refuses, none_refuses, only_accepted, refused_first, said_err}
use Rattle.factor.specs.declared.Factor.{Factor}
use Rattle.factor.specs.SetUp.{intact}
use Rattle.factor.proofs.SetUpLaws.{intact_sound}
use Rattle.product.specs.declared.Operands.{Operands}
use Rattle.product.specs.Answer.{conditions}
use Rattle.product.proofs.AnswerLaws.{significand_in}
use Rattle.product.proofs.Operands.new.Goals.{After-significand_out}
use Rattle.product.proofs.Operands.new.Goals as goal

abbrev pair : Outcome Operands → Outcome (Factor × ℕ)
pair o = each {B = Factor × ℕ} (λ (p : Operands). (p.factor, p.significand)) o

pub returns-in_err-sound : goal.returns-in_err-sound
returns-in_err-sound c =
    let f = c.args.factor in
    let X = c.args.significand in
    ap pair (said_err _ c.from_residual.result c.from_residual.ensures.1) ∙ refused_first ((31, not (intact f)) ∷ []) _ f (f, X) _ c.in_err-sound.ensures

-- past 31, with the factor's own precision
past : (c : After-significand_out) → (not (intact c.args.factor) ≡ false) × (c.precision.result.bits ≡ c.args.factor.precision)
past c =
    let t = only_accepted ((31, not (intact c.args.factor)) ∷ []) c.args.factor c.in_ok-sound.sound.factor (sym c.in_ok-sound.ensures) in
    (t.0.0, c.precision.ensures ∙ ap (λ (f : Factor). f.precision) (sym t.1))

pub returns-then-significand_out : goal.returns-then-significand_out
returns-then-significand_out c =
    let t = past (goal.at.returns-then-significand_out c).After-significand_out in
    refuses {l = conditions c.args.factor c.args.significand} (pass t.0 (stop (sym (rw t.1 at c.if-significand_out.ensures)))) (c.args.factor, c.args.significand)

pub invariant_of-result : goal.invariant_of-result
invariant_of-result c =
    let t = past (goal.at.invariant_of-result c).After-significand_out in
    record { sound = intact_sound c.args.factor (not-false _ t.0); in_range = significand_in c.args.factor.precision c.args.significand (sym (rw t.1 at c.if-significand_out.ensures)) }

pub returns : goal.returns
returns c =
    let t = past (goal.at.returns c).After-significand_out in
    sym (none_refuses (conditions c.args.factor c.args.significand) (c.args.factor, c.args.significand) (t.0, (sym (rw t.1 at c.if-significand_out.ensures), tt)))
