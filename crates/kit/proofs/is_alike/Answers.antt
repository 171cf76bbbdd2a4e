-- Where lower end, precision, scale and upper end are the same the descriptions are compared; where one of them is not, the factors are not alike.
use Rattle.std.proofs.Common.{◌≡◌, ap, ◌∙◌, ne_eqb, w32, of_z}
use borrow.Author.Tests.{eq-eqb}
use Rattle.factor.specs.declared.Description.{Description}
use Rattle.kit.specs.AlikeLaws.{alike_is, alike_apart, alike_unless}
use Rattle.kit.proofs.is_alike.Goals as goal

pub returns-then-f-g-2 : goal.returns-then-f-g-2
returns-then-f-g-2 c = c.eq.ensures ∙ alike_is c.args.f c.args.g c.from.ensures c.from-then-f-g-2.ensures

pub returns-else-f-g-2 : goal.returns-else-f-g-2
returns-else-f-g-2 c =
    let f = c.args.f in
    let g = c.args.g in
    c.if-f-g-2.false
    ∙ alike_unless f g c.if-f-g-2.false (λ e. rw (
      eq-eqb f.precision g.precision (ap (λ (d : Description). d.precision) e),
      eq-eqb (of_z w32 f.applied.scale) (of_z w32 g.applied.scale) (ap (λ (d : Description). of_z w32 d.scale) e),
      eq-eqb f.upper g.upper (ap (λ (d : Description). d.upper) e),
    ))

pub returns-else-f-g : goal.returns-else-f-g
returns-else-f-g c = let other = ne_eqb c.args.f.lower c.args.g.lower c.if-f-g.false in other ∙ alike_apart c.args.f c.args.g other
