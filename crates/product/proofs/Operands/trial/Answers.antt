-- The product has n bits, in binade 0 or 1.
use Rattle.product.proofs.SoundLaws.{sound_product}
use Rattle.product.proofs.Operands.trial.Goals as goal

pub mark_of-requires : goal.mark_of-requires
mark_of-requires c =
    let o = c.args.self in
    let is = sound_product o.factor o.sound o.significand o.in_range in
    (rw c.two_steps.ensures is.bits, rw c.two_steps.ensures is.binade)
