-- Twice the remainder over twice the divisor lies where the remainder over the divisor does.
use Rattle.std.proofs.Common.{◌≡◌, ap, ap₂, ◌∙◌, ℕ, ◌*◌, ◌/◌, ◌%◌, arith}
use Rattle.rounding.specs.declared.Location.{Location}
use Rattle.rounding.specs.Grid.{rule_of, choose, towards}
use Rattle.rounding.proofs.GridLaws.{location_alike}
use Rattle.wide.specs.Value.{value_of}
use Rattle.round.specs.Neighbour.{neighbour_at}
use Rattle.round.proofs.Laws.{by_division}
use Rattle.round.proofs.nearest_quotient.Goals as goal

pub returns : goal.returns
returns c =
    let rule = rule_of c.args.rule in
    let x = c.args.x in
    let d = c.args.d in
    let r = x % d in
    let twice : value_of c.add.result ≡ r * 2 = omega (arith, c.add.ensures, c.from-rest.ensures) in
    c.nearest.ensures
    ∙ ap₂ (λ (t h : ℕ). neighbour_at rule (x / d) t (h * 2)) twice c.from.ensures
    ∙ ap (λ (l : Location). record { value = choose rule (x / d) l; direction = towards rule (x / d) l }) (location_alike (r * 2) (d * 2) r d (omega arith) c.requires.0 (omega arith))
    ∙ by_division rule x d c.requires.0
