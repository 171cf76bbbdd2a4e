-- A sound factor's parts are those of its lower end, so that rounding the fused sum gives the product and its direction.
use Rattle.std.specs.Prelude.{ℕ}
use Rattle.std.proofs.Common.{sym, ap₂, ◌∙◌}
use Rattle.factor.specs.Context.{context_at, context_of}
use Rattle.product.specs.Units.{directed_units}
use Rattle.product.proofs.StepLaws.{fused_from, product_rounds, direction_rounds}
use Rattle.product.proofs.SoundLaws.{sound_parts}
use Rattle.product.proofs.Operands.second_step.Goals as goal

pub rounded_units-requires : goal.rounded_units-requires
rounded_units-requires c =
    let o = c.args.self in
    rw (c.precision.ensures, c.fused_units.ensures) (fused_from (context_of o.factor) o.factor.parts (sound_parts o.factor o.sound) o.significand o.in_range)

pub returns : goal.returns
returns c =
    let o = c.args.self in
    let K = context_of o.factor in
    let at = sound_parts o.factor o.sound in
    let p = product_rounds K o.factor.parts at o.significand o.in_range in
    let d = sym (direction_rounds K o.factor.parts at o.significand o.in_range) in
    c.rounded_units.ensures ∙ ap₂ (λ (n y : ℕ). directed_units (context_at n) y) c.precision.ensures c.fused_units.ensures ∙ (λ i. record { value = p i; direction = d i })
