-- The law of two columns at the base 2 ^ 32.
use Rattle.std.proofs.Common.{refl}
use Rattle.wide.specs.ProductLaws.{digit_columns}
use Rattle.wide.proofs.Base.{B}
use Rattle.wide.proofs.product_by_digit.Goals as goal

pub returns : goal.returns
returns c = digit_columns B c.args.a c.args.d _ _ refl refl
