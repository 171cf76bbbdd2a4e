-- The operands are the factor and the significand.
use Rattle.std.proofs.Common.{sym, ap, ap₂, ◌∙◌, ℕ}
use Rattle.std.specs.Float.{binary32}
use Rattle.floats.specs.Fields.{significand_of}
use Rattle.factor.specs.declared.Factor.{Factor}
use Rattle.factor.specs.Context.{context_of}
use Rattle.factor.specs.UnitParts.{unit_parts_of}
use Rattle.product.specs.declared.Device.{Device}
use Rattle.product.specs.Devices.{directed_on}
use Rattle.product.specs.Units.{first_units}
use Rattle.reading.proofs.Taken.product_on.Goals as goal

pub second_step-requires : goal.second_step-requires
second_step-requires c =
    let o = c.operands-o.ensures in
    c.first_step.ensures ∙ sym (ap₂ (λ (f : Factor) (X : ℕ). first_units (context_of f) (unit_parts_of (context_of f) f.parts) X) o.factor o.significand)

pub returns-in-TwoStep : goal.returns-in-TwoStep
returns-in-TwoStep c =
    let o = c.operands-o.ensures in
    c.second_step.ensures ∙ ap₂ (directed_on Device.TwoStep) o.factor o.significand ∙ ap (λ (d : Device). directed_on d c.args.self.factor (significand_of binary32 c.args.self.bits)) (sym c.in-TwoStep.is)

pub returns-in-OneStep : goal.returns-in-OneStep
returns-in-OneStep c =
    let o = c.operands-o.ensures in
    c.one_step.ensures ∙ ap₂ (directed_on Device.OneStep) o.factor o.significand ∙ ap (λ (d : Device). directed_on d c.args.self.factor (significand_of binary32 c.args.self.bits)) (sym c.in-OneStep.is)
