-- The law of columns at the base 2 ^ 32.
use Rattle.std.proofs.Common.{refl, sym, ◌∙◌, ◌*◌, ◌/◌, ◌%◌}
use Rattle.wide.specs.ProductLaws.{product_by_digits, columns}
use Rattle.wide.proofs.Base.{B}
use Rattle.wide.proofs.product.Goals as goal

pub returns : goal.returns
returns c =
    let a = c.args.a in
    let b = c.args.b in
    columns B (a / B * (b / B)) (a / B * (b % B)) (a % B * (b / B)) (a % B * (b % B)) _ _ refl refl ∙ sym (product_by_digits B a b)
