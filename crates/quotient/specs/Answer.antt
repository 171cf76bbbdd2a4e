-- The answer to a division: the quotient with its sign and its direction, or the refusals 31 and 17. Definitions only. Assumes nothing.
use Rattle.std.specs.Prelude.{ℕ}
use Rattle.marks.specs.Answers.{Outcome, answer}
use Rattle.factor.specs.declared.Factor.{Factor}
use Rattle.factor.specs.SetUp.{intact}
use Rattle.product.specs.Answer.{conditions}
use Rattle.rounding.specs.declared.Signed.{Signed}
use Rattle.quotient.specs.declared.Quotient.{Quotient}
use Rattle.quotient.specs.Quotient.{quotient, directed_by, signed_quotient}

-- the quotient with its direction and the factor's sign, unless a condition that refuses the significand holds; it has no mark
unfoldable pub divided : Factor → ℕ → Outcome (Signed Quotient)
unfolding intact quotient
divided f X = answer (conditions f X) (signed_quotient f.minus (directed_by f X))
