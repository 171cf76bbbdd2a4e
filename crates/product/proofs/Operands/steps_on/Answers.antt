-- A product of n bits in binade 0 or 1 is one word in steps.
use Rattle.product.specs.Product.{product_by}
use Rattle.product.proofs.SoundLaws.{sound_product}
use Rattle.product.proofs.Laws.{steps_word}
use Rattle.product.proofs.Operands.steps_on.Goals as goal

pub steps-requires : goal.steps-requires
steps-requires c =
    let o = c.args.self in
    let v = product_by o.factor o.significand in
    let is = sound_product o.factor o.sound o.significand o.in_range in
    rw c.two_steps.ensures (is.binade, steps_word o.factor.precision v.significand v.binade o.sound.precision is.bits.most is.binade)
