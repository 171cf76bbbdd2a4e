-- Quotient and remainder by 2 ^ k, then the choice by its half.
use Rattle.std.proofs.Common.{ap, ap₂, ◌∙◌, ℕ, ◌*◌, ◌-◌, ◌/◌, ◌%◌, ◌^◌, ◌≤◌, ◌<◌, mod-lt, pow_pos, pow_mono, arith}
use Rattle.rounding.specs.Grid.{rule_of}
use Rattle.wide.specs.Value.{word_bits}
use Rattle.round.specs.Neighbour.{neighbour_at}
use Rattle.round.proofs.Laws.{quotient_room, half_of, by_division}
use Rattle.round.proofs.nearest_word.Goals as goal

pub nearest-requires : goal.nearest-requires
nearest-requires c =
    let x = c.args.x in
    let k = c.args.k in
    let step = c.power-step.ensures in
    let few : 2 ^ k ≤ 2 ^ (word_bits - 1) = pow_mono {i = k} {j = word_bits - 1} (omega arith) in
    let some : 0 < c.power-step.result = rw step (pow_pos k) in (
      omega (arith, quotient_room x c.power-step.result k step c.requires.0),
      omega (arith, mod-lt x some),
      rw (c.from-2.ensures, c.power.ensures) (pow_pos (k - 1)),
    )

pub returns : goal.returns
returns c =
    let rule = rule_of c.args.rule in
    let x = c.args.x in
    let k = c.args.k in
    c.nearest.ensures
    ∙ ap₂ (λ (r h : ℕ). neighbour_at rule (x / c.power-step.result) r (h * 2)) c.from.ensures c.from-2.ensures
    ∙ ap (neighbour_at rule (x / c.power-step.result) (x % c.power-step.result)) (half_of k c.power.result c.requires.0 c.power.ensures)
    ∙ ap (λ (u : ℕ). neighbour_at rule (x / u) (x % u) (2 ^ k)) c.power-step.ensures
    ∙ by_division rule x (2 ^ k) (pow_pos k)
