-- Ch * x is one word, which is cut behind the step of binade 0.
use Rattle.std.specs.Prelude.{ℕ, ◌-◌, ◌*◌}
use Rattle.std.proofs.Common.{sym, ap, ◌∙◌, subst, le_of_lt, arith}
use Rattle.round.specs.Cuts.{uncut, RoundedCut}
use Rattle.round.specs.CutLaws.{cut_whole, cut_short}
use Rattle.factor.specs.Context.{tie_rule, context_of}
use Rattle.product.proofs.StepLaws.{product_word, kept_bits}
use Rattle.product.proofs.SoundLaws.{sound_fine, sound_high}
use Rattle.product.proofs.OneStepLaws.{at_step, exact_within, one_step_steps, one_step_direction}
use Rattle.product.proofs.Operands.steps_once.Goals as goal

pub overflow_mul-self : goal.overflow_mul-self
overflow_mul-self c =
    let o = c.args.self in
    record { fits = omega (arith, product_word o.factor.precision o.factor.parts.high o.significand o.sound.precision (sound_high o.factor o.sound).most (le_of_lt o.in_range.most)) }

pub round_cut-requires : goal.round_cut-requires
round_cut-requires c =
    let o = c.args.self in
    let f = o.factor in
    let K = context_of f in
    let N = f.parts.high * o.significand in
    let P = o.sound.precision in
    let kept = kept_bits (at_step K) N (exact_within K (sound_fine f o.sound).some f.parts o.significand (sound_high f o.sound) o.in_range) in
    rw c.cut_word-cut.ensures (omega (arith, P), omega (arith, P), omega (arith, P), omega (arith, P), cut_short (f.precision - 1) N, kept.0, kept.1)

pub returns : goal.returns
unfolding tie_rule
returns c =
    let o = c.args.self in
    let f = o.factor in
    let n = f.precision in
    let N = f.parts.high * o.significand in
    let K = context_of f in
    let some = (sound_fine f o.sound).some in
    let high = sound_high f o.sound in
    let near = c.round_cut.result in
    let is = subst (λ (z : ℕ). RoundedCut tie_rule n (n - 1) z near) (ap (uncut (n - 1)) c.cut_word-cut.ensures ∙ cut_whole (n - 1) N) c.round_cut.ensures in
    let steps = one_step_steps K some f.parts o.significand high o.in_range near.value is.value in
    let direction = is.direction ∙ sym (one_step_direction K some f.parts o.significand high o.in_range) in
    λ i. record { value = steps i; direction = direction i }
