-- The mark, by whole numbers of the step of binade 0.
use Rattle.std.specs.Prelude.{◌≡◌, ℕ, ◌+◌, ◌-◌, ◌*◌, ◌^◌, ◌≤◌}
use Rattle.std.proofs.Common.{sym, ap, ap₂, ◌∙◌, arith, pow_mono}
use Rattle.rounding.specs.Unit.{rn}
use Rattle.wide.specs.Value.{word_bits, half_word, value_of}
use Rattle.factor.specs.Context.{tie_rule, context_of, lower_of, upper_of}
use Rattle.factor.specs.Precision.{scale_of}
use Rattle.product.specs.Units.{mark_units}
use Rattle.product.proofs.SoundLaws.{sound_fine, sound_close, sound_upper}
use Rattle.product.proofs.StepLaws.{end_within}
use Rattle.product.proofs.MarkLaws.{mark_steps}
use Rattle.product.proofs.Operands.mark_of.Goals.{After-add-upper}
use Rattle.product.proofs.Operands.mark_of.Goals as goal

-- what U * x has more is one word
pub overflow_mul-self : goal.overflow_mul-self
overflow_mul-self c =
    let o = c.args.self in
    let n = o.factor.precision in
    let W : 2 ^ (scale_of n - n) ≤ half_word = pow_mono {i = scale_of n - n} {j = word_bits - 1} (omega (arith, o.sound.precision)) in
    record { fits = omega (arith, sound_close o.factor o.sound o.significand o.in_range, W) }

upper_is : (c : After-add-upper) → let o = c.args.self in value_of c.add-upper.result ≡ upper_of o.factor * o.significand
upper_is c = c.add-upper.ensures ∙ ap₂ (λ (y z : ℕ). y + z) c.product_by_digit-lower.ensures c.from.ensures ∙ sound_upper c.args.self.factor c.args.self.sound c.args.self.significand

pub end_steps-requires-2 : goal.end_steps-requires-2
end_steps-requires-2 c =
    let o = c.args.self in
    rw (c.precision-p.ensures, upper_is (goal.at.end_steps-requires-2 c).After-add-upper) (end_within (context_of o.factor) (upper_of o.factor) o.sound.upper_end o.significand o.in_range)

pub returns : goal.returns
returns c =
    let o = c.args.self in
    let f = o.factor in
    let rounds : ℕ → ℕ = λ z. rn tie_rule f.precision z 1 in
    c.compared.ensures
    ∙ ap (λ (z : ℕ). mark_units c.end_steps.result c.end_steps-2.result z) c.steps.ensures
    ∙ sym (
    mark_steps (context_of f) (sound_fine f o.sound).some (lower_of f) (upper_of f) o.significand c.args.v c.end_steps.result c.end_steps-2.result
    (rw c.precision-p.ensures at c.end_steps.ensures ∙ ap rounds c.product_by_digit-lower.ensures) (rw c.precision-p.ensures at c.end_steps-2.ensures ∙ ap rounds (upper_is (goal.at.returns c).After-add-upper))
    )
