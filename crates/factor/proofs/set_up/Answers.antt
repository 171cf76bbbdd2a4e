-- What is stored of the size, with sign, precision and ends as described, or its refusal.
use Rattle.std.proofs.Common.{sym, ap, ◌∙◌}
use Rattle.marks.specs.Answers.{each}
use Rattle.factor.specs.SetUp.{factor_with}
use Rattle.marks.specs.AnswerLaws.{said_err}
use Rattle.factor.proofs.SetUpLaws.{set_up_stores}
use Rattle.factor.proofs.set_up.Goals as goal

pub returns-in_err-stored : goal.returns-in_err-stored
returns-in_err-stored c =
    said_err _ c.from_residual.result c.from_residual.ensures.1 ∙ ap (each (factor_with c.args.d)) (c.in_err-stored.ensures) ∙ sym (set_up_stores c.args.d)

pub returns : goal.returns
returns c = ap (each (factor_with c.args.d)) (c.in_ok-stored.ensures) ∙ sym (set_up_stores c.args.d)
