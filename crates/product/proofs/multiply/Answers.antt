-- Refused, or the product of what 31 and 17 let through.
use Rattle.std.specs.Prelude.{ℕ}
use Rattle.std.proofs.Common.{ap, ◌∙◌}
use Rattle.marks.specs.declared.Marked.{Marked}
use Rattle.marks.specs.Answers.{accepted}
use Rattle.rounding.specs.declared.Directed.{Directed}
use Rattle.rounding.specs.declared.Signed.{Signed}
use Rattle.factor.specs.declared.Factor.{Factor}
use Rattle.marks.specs.AnswerLaws.{said_err}
use Rattle.product.specs.declared.Device.{Device}
use Rattle.product.specs.declared.Product.{Product}
use Rattle.product.specs.Devices.{directed_on}
use Rattle.product.specs.Answer.{marked, answered, multiplied}
use Rattle.product.proofs.DeviceLaws.{formed}
use Rattle.product.proofs.AnswerLaws.{of_operands}
use Rattle.product.proofs.multiply.Goals as goal

-- what is made of what they let through
abbrev made : Device → Factor × ℕ → Marked (Signed Product)
made d p = answered p.0 (marked p.0 p.1 (directed_on d p.0 p.1))

pub returns-in_err-o : goal.returns-in_err-o
unfolding multiplied
returns-in_err-o c = said_err _ c.from_residual.result c.from_residual.ensures.1 ∙ of_operands (made c.args.d) c.args.f c.args.x c.in_err-o.ensures

pub marked-requires : goal.marked-requires
marked-requires c =
    let o = c.in_ok-o.o in
    let is = formed c.args.d o.factor o.sound o.significand o.in_range in
    (rw c.product_on.ensures is.bits, rw c.product_on.ensures is.binade)

pub returns : goal.returns
unfolding multiplied
returns c =
    let o = c.in_ok-o.o in
    ap accepted (c.marked.ensures ∙ ap (λ (v : Directed Product). answered o.factor (marked o.factor o.significand v)) c.product_on.ensures)
    ∙ of_operands (made c.args.d) c.args.f c.args.x c.in_ok-o.ensures
