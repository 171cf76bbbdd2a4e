-- The mark is told by whole numbers of the step of binade 0.
use Rattle.std.proofs.Common.{sym, ap, ◌∙◌}
use Rattle.factor.specs.Precision.{scale_of}
use Rattle.factor.specs.Context.{tie_rule, context_of, lower_of, upper_of}
use Rattle.product.specs.OneStep.{one_step_by}
use Rattle.product.specs.Units.{mark_units}
use Rattle.product.proofs.SoundLaws.{sound_fine}
use Rattle.product.proofs.MarkLaws.{mark_steps}
use Rattle.tally.specs.Tally.{mark_once}
use Rattle.tally.proofs.Laws.{rounds}
use Rattle.tally.proofs.mark_once.Goals as goal

pub returns : goal.returns
unfolding tie_rule mark_once
returns c =
    let o = c.args.o in
    let f = o.factor in
    let X = o.significand in
    let s = o.sound in
    let r = c.requires in
    let a = c.round_cut.result.value in
    let b = c.round_cut-2.result.value in
    c.compared.ensures ∙ ap (mark_units a b) c.steps_on.ensures
    ∙ sym (
    mark_steps (context_of f) (sound_fine f s).some (lower_of f) (upper_of f) X (one_step_by f X) a b
    (rounds f s (lower_of f) s.lower_end _ (c.scale-e.ensures ∙ ap scale_of c.precision.ensures) X o.in_range c.args.lower r.0 a c.round_cut.ensures.value)
    (rounds f s (upper_of f) s.upper_end _ (c.scale-e.ensures ∙ ap scale_of c.precision.ensures) X o.in_range c.args.upper r.1 b c.round_cut-2.ensures.value)
    )
