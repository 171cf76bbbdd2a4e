-- What an answer of the one-step device tells, for every factor and every number as X (`once_tells`): its sign and form, that it is RN(Ch * x), what its mark says of every fraction between the ends, and that it is less than
-- 3/2 units in the last place from C * x for every such fraction C, all with the factor's sign on. Assumes nothing.
use Rattle.std.specs.Prelude.{◌≡◌, refl, Bool, false, ℕ, ◌-◌, ◌≤◌}
use Rattle.std.proofs.Common.{sym, ap, le_trans, pow_pos}
use Rattle.std.specs.Float.Ieee.{unlike}
use Rattle.marks.specs.declared.Mark.{Mark}
use Rattle.marks.specs.declared.Marked.{Marked}
use Rattle.marks.specs.Answers.{Outcome, refused, accepted}
use Rattle.marks.specs.AnswerLaws.{of_answer}
use Rattle.rounding.specs.Grid.{Rule}
use Rattle.rounding.specs.Round.{HasBits}
use Rattle.rounding.proofs.Standard.{rounds_to}
use Rattle.rounding.specs.Fraction.{Fraction, over, signed_as, times, RN, Same, Positive}
use Rattle.rounding.proofs.FractionLaws.{RN_some, unlike_plus, times_positive, distance_same}
use Rattle.rounding.specs.Ulp.{ulp, WithinThreeHalves}
use Rattle.rounding.proofs.UlpLaws.{within_signed}
use Rattle.rounding.proofs.OneRounding.{times_error}
use Rattle.factor.specs.declared.Factor.{Factor}
use Rattle.factor.specs.Context.{Context, context_of, lower_of, upper_of}
use Rattle.factor.specs.Ends.{Between, signed_by}
use Rattle.factor.specs.SetUp.{Sound}
use Rattle.product.specs.declared.Device.{Device}
use Rattle.product.specs.declared.Product.{Product}
use Rattle.rounding.specs.declared.Signed.{Signed}
use Rattle.product.specs.Product.{argument, high, value_of}
use Rattle.product.specs.Devices.{directed_on, signed_value}
use Rattle.product.specs.Answer.{conditions, marked, answered, multiplied, SaysSigned}
use Rattle.product.proofs.AnswerLaws.{let_through}
use Rattle.product.proofs.SoundLaws.{sound_fine, sound_high, sound_high_positive, sound_positive, sound_one, sound_close_high}
use Rattle.product.proofs.Demand2.{ToNearest, signed_tells, signed_alone}
use Rattle.product.specs.OneStep.{by_high, once, one_step_by}
use Rattle.product.proofs.OneStepLaws.{one_step_value, sound_one_step}

-- ---- what is said
-- C * x, for a significand X
abbrev pub exact_product : (n X : ℕ) → Fraction → Fraction
exact_product n X C = times C (argument n X)

pub record Tells (f : Factor) (X : ℕ) (a : Marked (Signed Product)) : Type 0 where
  -- the factor's sign, and a significand of n bits, in binade 0 or 1
  pub sign : a.value.minus ≡ f.minus
  pub bits : HasBits f.precision a.value.value.significand
  pub binade : a.value.value.binade ≤ 1
  -- it is Ch * x rounded once, to nearest, with that sign
  pub value : Same (RN (context_of f).rule f.precision (signed_by f (by_high f.precision f.parts X))) (signed_value f.precision a.value)
  pub nearest : ToNearest (context_of f) (by_high f.precision f.parts X)
  -- its mark says what is true of every fraction between the ends, and no other mark does
  pub says : SaysSigned f X a.value a.mark
  pub alone : (m : Mark) → SaysSigned f X a.value m → a.mark ≡ m
  -- it is less than 3/2 ulp(C * x) from C * x, for every C between the ends and with the factor's sign, in whole numbers, cross-multiplied
  pub near : (C : Fraction) → Between (context_of f) (lower_of f) (upper_of f) C → WithinThreeHalves f.precision (signed_value f.precision a.value) (exact_product f.precision X (signed_by f C))

-- of every answer: a refusal tells nothing
abbrev pub AnswerTells : Factor → ℕ → Outcome (Marked (Signed Product)) → Type 0
AnswerTells f X (refused k) = Unit {0}
AnswerTells f X (accepted a) = Tells f X a

-- ---- of a sound factor
module _ (f : Factor) (s : Sound f) where
  abbrev K : Context
  K = context_of f

  abbrev n : ℕ
  n = f.precision

  -- |RN(Ch * x) - C * x| < 3/2 ulp(C * x), of every x > 0 and by every tie rule
  pub sound_near : (rule : Rule) (x : Fraction) → Positive x → (C : Fraction) → Between K (lower_of f) (upper_of f) C → WithinThreeHalves n (RN rule n (times (high n f.parts) x)) (times C x)
  sound_near rule x p C k = times_error n C (high n f.parts) (sound_positive f s C k) (sound_high_positive f s) (sound_close_high f s C k) x p (sound_one f s C k) rule (sound_fine f s).some

  -- and a significand in range
  module _ (X : ℕ) (x : HasBits n X) where
    abbrev v : Product
    v = one_step_by f X

    x_positive : Positive (argument n X)
    x_positive = record { sign = refl; above = le_trans (pow_pos (n - 1)) x.least; some = pow_pos (n - 1) }

    exact_positive : Positive (by_high n f.parts X)
    exact_positive = times_positive (high n f.parts) (argument n X) (sound_high_positive f s) x_positive

    pub sound_value : Same (once K f.parts X) (value_of n v)
    sound_value = one_step_value K (sound_fine f s).some f.parts X (sound_high f s) x

    size_near : (C : Fraction) → Between K (lower_of f) (upper_of f) C → WithinThreeHalves n (value_of n v) (exact_product n X C)
    size_near C k =
        distance_same (once K f.parts X) (value_of n v) (exact_product n X C) (times (over 3 1) (ulp n (exact_product n X C)))
        (RN_some K.rule n (by_high n f.parts X)) (pow_pos (n - 1)) (times_positive C (argument n X) (sound_positive f s C k) x_positive).some sound_value (sound_near K.rule (argument n X) x_positive C k)

    -- the sign put on
    near : (C : Fraction) → Between K (lower_of f) (upper_of f) C → WithinThreeHalves n (signed_as f.minus (value_of n v)) (exact_product n X (signed_by f C))
    near C k = within_signed n f.minus (unlike f.minus false) (unlike_plus f.minus) (value_of n v) (exact_product n X C) (sym (ap (λ (m : Bool). unlike m false) k.sign)) (size_near C k)

    sound_once : Tells f X (answered f (marked f X (directed_on Device.OneStep f X)))
    sound_once =
        let is = sound_one_step f s X x in
        let y = by_high n f.parts X in
        record {
          sign = refl;
          bits = is.bits;
          binade = is.binade;
          value = (refl, sound_value.1);
          nearest = rounds_to K.rule n (sound_fine f s).some y.num y.den exact_positive.above exact_positive.some;
          says = signed_tells f s X x (directed_on Device.OneStep f X) is.bits;
          alone = signed_alone f s X x (directed_on Device.OneStep f X) is.bits;
          near = near;
        }

-- every answer tells the truth, whatever the factor and the number
pub once_tells : (f : Factor) (X : ℕ) → AnswerTells f X (multiplied Device.OneStep f X)
unfolding multiplied
once_tells f X = of_answer (AnswerTells f X) (conditions f X) (answered f (marked f X (directed_on Device.OneStep f X))) (λ k. tt) (λ h. let t = let_through f X h in sound_once f t.0 X t.1)
