-- Significand and binade, by the steps of binade 0.
use Rattle.std.specs.Prelude.{ℕ}
use Rattle.std.proofs.Common.{ap}
use Rattle.rounding.specs.declared.Directed.{Directed}
use Rattle.product.specs.OneStep.{one_step_by}
use Rattle.product.proofs.SoundLaws.{sound_fine}
use Rattle.product.proofs.OneStepLaws.{sound_one_step}
use Rattle.product.proofs.DeviceLaws.{by_steps_low, by_steps_high}
use Rattle.product.proofs.Operands.one_step.Goals as goal

pub returns-then-near-power : goal.returns-then-near-power
returns-then-near-power c =
    let o = c.args.self in
    let f = o.factor in
    let is = sound_one_step f o.sound o.significand o.in_range in
    let near = c.steps_once-near in
    let product = by_steps_low f.precision (sound_fine f o.sound).some (one_step_by f o.significand) is.bits is.binade near.result.value (ap (λ (m : Directed ℕ). m.value) near.ensures) (rw c.power.ensures at c.if-near-power.true) in
    λ i. record { value = product i; direction = (near.ensures i).direction }

pub returns-else-near-power : goal.returns-else-near-power
returns-else-near-power c =
    let o = c.args.self in
    let f = o.factor in
    let is = sound_one_step f o.sound o.significand o.in_range in
    let near = c.steps_once-near in
    let product = by_steps_high f.precision (sound_fine f o.sound).some (one_step_by f o.significand) is.bits is.binade near.result.value (ap (λ (m : Directed ℕ). m.value) near.ensures) (rw c.power.ensures at c.if-near-power.false) in
    λ i. record { value = product i; direction = (near.ensures i).direction }
