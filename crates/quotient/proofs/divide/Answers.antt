-- Refused, or the quotient of what 31 and 17 let through.
use Rattle.std.specs.Prelude.{ℕ}
use Rattle.std.proofs.Common.{ap, ◌∙◌}
use Rattle.marks.specs.Answers.{accepted}
use Rattle.rounding.specs.declared.Signed.{Signed}
use Rattle.factor.specs.declared.Factor.{Factor}
use Rattle.marks.specs.AnswerLaws.{said_err}
use Rattle.product.proofs.AnswerLaws.{of_operands}
use Rattle.quotient.specs.declared.Quotient.{Quotient}
use Rattle.quotient.specs.Quotient.{directed_by, signed_quotient}
use Rattle.quotient.specs.Answer.{divided}
use Rattle.quotient.proofs.divide.Goals as goal

-- what is made of what they let through
abbrev made : Factor × ℕ → Signed Quotient
made p = signed_quotient p.0.minus (directed_by p.0 p.1)

pub returns-in_err-o : goal.returns-in_err-o
unfolding divided
returns-in_err-o c = said_err _ c.from_residual.result c.from_residual.ensures.1 ∙ of_operands made c.args.f c.args.x c.in_err-o.ensures

pub returns : goal.returns
unfolding divided
returns c =
    let o = c.in_ok-o.o in
    ap accepted (c.to_signed.ensures ∙ ap (signed_quotient o.factor.minus) c.quotient_of.ensures) ∙ of_operands made c.args.f c.args.x c.in_ok-o.ensures
