-- What a product and its direction tell, for every device, factor and number as X (`product_directs`): it is what the device rounded last, rounded, with the factor's sign; the direction tells whether it is below, equal to or above
-- what was rounded, the sign on both, that it is nothing else, and that equal means exact. Assumes nothing.
use Rattle.std.specs.Prelude.{◌≡◌, refl, false, ℕ, ◌-◌}
use Rattle.std.proofs.Common.{pow_pos}
use Rattle.marks.specs.declared.Marked.{Marked}
use Rattle.marks.specs.Answers.{Outcome, refused, accepted}
use Rattle.marks.specs.AnswerLaws.{of_answer}
use Rattle.rounding.specs.Round.{HasBits}
use Rattle.rounding.specs.Fraction.{RN, Same, Directs}
use Rattle.rounding.proofs.DirectedLaws.{directs_to, directs_signed}
use Rattle.factor.specs.declared.Factor.{Factor}
use Rattle.factor.specs.Context.{context_of}
use Rattle.factor.specs.Ends.{signed_by}
use Rattle.factor.specs.SetUp.{Sound}
use Rattle.product.specs.declared.Device.{Device}
use Rattle.rounding.specs.declared.Signed.{Signed}
use Rattle.product.specs.declared.Product.{Product}
use Rattle.product.specs.Product.{value_of}
use Rattle.product.specs.Devices.{product_on, last_on, direction_on, directed_on, signed_product, signed_value}
use Rattle.product.specs.Answer.{conditions, marked, answered, multiplied}
use Rattle.product.proofs.AnswerLaws.{let_through}
use Rattle.product.proofs.StepLaws.{fused_counts}
use Rattle.product.proofs.SoundLaws.{sound_parts}
use Rattle.product.proofs.Demand2.{two_steps}
use Rattle.product.proofs.OneStepTells.{sound_value}

-- what an answer's value v tells of what its device rounded last
pub record LastTells (d : Device) (f : Factor) (X : ℕ) (v : Signed Product) : Type 0 where
  -- it has the factor's sign, and is that number with this sign, rounded
  pub sign : v.minus ≡ f.minus
  pub value : Same (RN (context_of f).rule f.precision (signed_by f (last_on d f X))) (signed_value f.precision v)
  -- and its direction tells how it lies as seen from there
  pub directs : Directs v.direction (signed_by f (last_on d f X)) (signed_value f.precision v)

-- of every answer; a refusal has no value
abbrev pub AnswerDirects : Device → Factor → ℕ → Outcome (Marked (Signed Product)) → Type 0
AnswerDirects d f X (refused k) = Unit {0}
AnswerDirects d f X (accepted a) = LastTells d f X a.value

-- ---- of a sound factor and a significand in range
module _ (f : Factor) (s : Sound f) (X : ℕ) (x : HasBits f.precision X) where
  -- the product is that number, rounded
  last_value : (d : Device) → Same (RN (context_of f).rule f.precision (last_on d f X)) (value_of f.precision (product_on d f X))
  last_value Device.TwoStep = (two_steps f s X x).value
  last_value Device.OneStep = sound_value f s X x

  -- which has no minus
  pub last_plus : (d : Device) → (last_on d f X).minus ≡ false
  last_plus Device.TwoStep = (fused_counts (context_of f) f.parts (sound_parts f s) X x).sign
  last_plus Device.OneStep = refl

  -- of the size
  pub sound_directs : (d : Device) → Directs (direction_on d f X) (last_on d f X) (value_of f.precision (product_on d f X))
  sound_directs d = let n = f.precision in directs_to (context_of f).rule n (last_on d f X) (value_of n (product_on d f X)) (pow_pos (n - 1)) (last_value d)

  -- with the factor's sign
  signed_directs : (d : Device) → LastTells d f X (signed_product f.minus (directed_on d f X))
  signed_directs d =
      record {
        sign = refl;
        value = (refl, (last_value d).1);
        directs = directs_signed (direction_on d f X) (last_on d f X) (value_of f.precision (product_on d f X)) (sound_directs d) f.minus (last_plus d) refl;
      }

-- every answer tells the truth, whatever the device, the factor and the number
pub product_directs : (d : Device) (f : Factor) (X : ℕ) → AnswerDirects d f X (multiplied d f X)
unfolding multiplied
product_directs d f X =
    of_answer (AnswerDirects d f X) (conditions f X) (answered f (marked f X (directed_on d f X))) (λ k. tt)
    (λ h. let t = let_through f X h in signed_directs f t.0 X t.1 d)
