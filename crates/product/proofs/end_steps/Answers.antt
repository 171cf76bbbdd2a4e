-- What a number from 1 to below 4 rounds to is a product, and a word holds it in steps.
use Rattle.std.specs.Prelude.{◌≡◌, ℕ, ◌+◌, ◌*◌, ◌^◌}
use Rattle.std.proofs.Common.{ap, ◌∙◌, arith, pow-add}
use Rattle.wide.specs.Value.{value_of}
use Rattle.factor.specs.Context.{context_at}
use Rattle.factor.specs.Precision.{scale_of}
use Rattle.product.specs.Product.{steps_of}
use Rattle.rounding.specs.declared.Directed.{Directed}
use Rattle.product.specs.declared.Product.{Product}
use Rattle.product.proofs.StepLaws.{within_is}
use Rattle.product.proofs.Laws.{steps_word}
use Rattle.product.proofs.end_steps.Goals as goal

pub steps-requires : goal.steps-requires
steps-requires c =
    let n = c.args.p.bits in
    let v = within_is (context_at n) (omega (arith, c.args.p.valid.least)) (value_of c.args.y) c.requires in
    rw c.rounded_units.ensures (v.binade, steps_word n _ _ c.args.p.valid v.bits.most v.binade)

-- S * 2 ^ b in the finer unit
finer : (s b E : ℕ) → s * 2 ^ b * 2 ^ E ≡ s * 2 ^ (E + b)
finer s b E = omega (arith, ap (λ (z : ℕ). s * z) (pow-add 2 E b))

pub returns : goal.returns
returns c =
    let n = c.args.p.bits in
    let E = scale_of n in
    let v = within_is (context_at n) (omega (arith, c.args.p.valid.least)) (value_of c.args.y) c.requires in
    ap (λ (z : ℕ). z * 2 ^ E) (c.steps.ensures ∙ ap (λ (r : Directed Product). steps_of r.value) c.rounded_units.ensures)
    ∙ finer _ _ E ∙ v.value
