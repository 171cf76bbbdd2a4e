-- The answer to a multiplication: the product with its sign, its direction and its mark, or the refusals 31 and 17; and what its mark tells. Definitions only. Assumes nothing.
use Rattle.std.specs.Prelude.{Bool, not, List, [], ◌∷◌, ℕ, ◌≤◌}
use Rattle.marks.specs.declared.Mark.{Mark}
use Rattle.marks.specs.declared.Marked.{Marked}
use Rattle.marks.specs.Answers.{Outcome, refused, accepted, answer}
use Rattle.marks.specs.Says.{Says}
use Rattle.rounding.specs.Fraction.{Fraction, Same}
use Rattle.rounding.specs.Round.{HasBits}
use Rattle.factor.specs.declared.Factor.{Factor}
use Rattle.factor.specs.Precision.{significand_out}
use Rattle.factor.specs.Context.{context_of, lower_of, upper_of}
use Rattle.factor.specs.Ends.{Between, signed_by}
use Rattle.factor.specs.SetUp.{intact}
use Rattle.product.specs.declared.Device.{Device}
use Rattle.rounding.specs.declared.Directed.{Directed}
use Rattle.product.specs.declared.Product.{Product}
use Rattle.rounding.specs.declared.Signed.{Signed}
use Rattle.product.specs.Product.{product}
use Rattle.product.specs.OneStep.{one_step}
use Rattle.product.specs.Devices.{directed_on, signed_product, signed_value}
use Rattle.product.specs.Marks.{mark, mark_by, exact}

-- ---- the answer
-- the conditions that refuse a significand: 31 by the factor, then 17
abbrev pub conditions : Factor → ℕ → List (ℕ × Bool)
conditions f X = (31, not (intact f)) ∷ (17, significand_out f.precision X) ∷ []

-- what a range has that 17 does not refuse
pub record InRange (n first last : ℕ) : Type 0 where
  pub first_bits : HasBits n first
  pub last_bits : HasBits n last
  pub ordered : first ≤ last

-- a value, whoever made it, with its mark
abbrev pub marked : Factor → ℕ → Directed Product → Marked (Directed Product)
marked f X v = record { mark = mark_by f X v.value; value = v }

-- as it is answered, with the factor's sign put on the value, as a significand has none
abbrev pub answered : Factor → Marked (Directed Product) → Marked (Signed Product)
answered f a = record { mark = a.mark; value = signed_product f.minus a.value }

-- the product on a device with its sign, its direction and its mark, unless one of them holds
unfoldable pub multiplied : Device → Factor → ℕ → Outcome (Marked (Signed Product))
unfolding intact product one_step mark
multiplied d f X = answer (conditions f X) (answered f (marked f X (directed_on d f X)))

-- ---- what an answer's mark tells
-- the factor, with C for its size, times x rounds to v
abbrev pub GivesSigned : Factor → ℕ → Signed Product → Fraction → Type 0
GivesSigned f X v C = Same (exact (context_of f) X (signed_by f C)) (signed_value f.precision v)

-- what a mark says of v and every fraction between the factor's ends
abbrev pub SaysSigned : Factor → ℕ → Signed Product → Mark → Type 0
SaysSigned f X v m = Says (Between (context_of f) (lower_of f) (upper_of f)) (GivesSigned f X v) m

-- an answer's mark says so of its value; a refusal says nothing of them
abbrev pub Tells : Factor → ℕ → Outcome (Marked (Signed Product)) → Type 0
Tells f X (accepted a) = SaysSigned f X a.value a.mark
Tells f X (refused k) = Unit {0}
