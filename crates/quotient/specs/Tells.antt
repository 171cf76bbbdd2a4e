-- What an answer to a division tells, for every factor and every number as X (`quotient_tells`): its sign and form, that it is RN(x / Ch) by every tie rule, what its direction says, and that it is less than 3/2 units in the last place from x / C for
-- every fraction C between the ends; all with the factor's sign on. Assumes nothing.
use Rattle.std.specs.Prelude.{◌≡◌, refl, Bool, false, ℕ, ◌-◌, ◌≤◌, ◌<◌, pos, negsuc, nat_abs}
use Rattle.std.proofs.Common.{sym, ap, ◌∙◌, subst, mul-pos, le_trans, arith, pow_pos}
use Rattle.std.proofs.Math.Decide.{dec_lt}
use Rattle.std.specs.Float.Ieee.{unlike}
use Rattle.std.specs.Float.Ieee.Fits.{down_pos}
use Rattle.marks.specs.Answers.{Outcome, refused, accepted}
use Rattle.marks.specs.AnswerLaws.{of_answer}
use Rattle.rounding.specs.Grid.{Rule}
use Rattle.rounding.specs.Round.{HasBits}
use Rattle.rounding.proofs.Standard.{HalfWay}
use Rattle.rounding.specs.Fraction.{Fraction, over, signed_as, times, ratio, RN, Same, Positive, Directs}
use Rattle.rounding.proofs.FractionLaws.{RN_some, unlike_plus, unlike_comm, ratio_positive, distance_same}
use Rattle.rounding.proofs.DirectedLaws.{directs_to, directs_signed}
use Rattle.rounding.specs.Ulp.{ulp, WithinThreeHalves}
use Rattle.rounding.proofs.UlpLaws.{within_signed}
use Rattle.rounding.proofs.OneRounding.{ratio_error}
use Rattle.factor.specs.declared.Factor.{Factor}
use Rattle.factor.specs.Context.{Context, Fine, context_of, lower_of, upper_of}
use Rattle.factor.specs.Ends.{Between}
use Rattle.factor.specs.SetUp.{Sound}
use Rattle.product.specs.Product.{argument, high}
use Rattle.product.specs.Answer.{conditions}
use Rattle.product.proofs.AnswerLaws.{let_through}
use Rattle.product.proofs.SoundLaws.{sound_fine, sound_high, sound_high_positive, sound_positive, sound_close_high}
use Rattle.quotient.specs.declared.Quotient.{Quotient}
use Rattle.rounding.specs.declared.Signed.{Signed}
use Rattle.quotient.specs.Quotient.{by_high, once, quotient_by, direction_by, directed_by, signed_quotient, value_of, signed_value}
use Rattle.quotient.specs.Answer.{divided}
use Rattle.quotient.specs.QuotientLaws.{never_tied, quotient_any_rule, quotient_bits, quotient_value, quotient_below_one, quotient_from_one}

-- ---- what is said
-- x / C, for a significand X
abbrev pub exact_quotient : (n X : ℕ) → Fraction → Fraction
exact_quotient n X C = ratio (argument n X) C

pub record Tells (f : Factor) (X : ℕ) (v : Signed Quotient) : Type 0 where
  -- a significand of n bits, in binade -1 below 1, where X is below the high significand, and in binade 0 from there on
  pub bits : HasBits f.precision v.value.significand
  pub below_one : X < f.parts.high → v.value.binade ≡ negsuc 0
  pub from_one : f.parts.high ≤ X → v.value.binade ≡ pos 0
  -- with its sign it is RN(x / Ch), by whatever tie rule, since x / Ch is never half way between two numbers of n bits
  pub value : (rule : Rule) → Same (RN rule f.precision (signed_as v.minus (by_high f.precision f.parts X))) (signed_value f.precision v)
  pub untied : let y = by_high f.precision f.parts X in (t j k : ℕ) → HalfWay f.precision y.num y.den t j k → ⊥
  -- its direction tells how it lies as seen from x / Ch, both with its sign
  pub directs : Directs v.direction (signed_as v.minus (by_high f.precision f.parts X)) (signed_value f.precision v)
  -- it is less than 3/2 ulp(x / C) from x / C, for every C between the ends and with its sign, in whole numbers, cross-multiplied
  pub near : (C : Fraction) → Between (context_of f) (lower_of f) (upper_of f) C → WithinThreeHalves f.precision (signed_value f.precision v) (exact_quotient f.precision X (signed_as v.minus C))

-- of every answer: that, its sign being the factor's; a refusal tells nothing
abbrev pub AnswerTells : Factor → ℕ → Outcome (Signed Quotient) → Type 0
AnswerTells f X (refused k) = Unit {0}
AnswerTells f X (accepted v) = (v.minus ≡ f.minus) × Tells f X v

-- ---- of a sound factor and a significand in range
module _ (f : Factor) (s : Sound f) where
  abbrev K : Context
  K = context_of f

  abbrev n : ℕ
  n = f.precision

  abbrev L : ℕ
  L = lower_of f

  abbrev U : ℕ
  U = upper_of f

  ok : Fine K
  ok = sound_fine f s

  -- |RN(x / Ch) - x / C| < 3/2 ulp(x / C), of every x > 0 and by every tie rule
  pub sound_near : (rule : Rule) (x : Fraction) → Positive x → (C : Fraction) → Between K L U C → WithinThreeHalves n (RN rule n (ratio x (high n f.parts))) (ratio x C)
  sound_near rule x p C k = ratio_error n C (high n f.parts) (sound_positive f s C k) (sound_high_positive f s) (sound_close_high f s C k) x p (omega (arith, (sound_high f s).least)) rule ok.some

  module _ (X : ℕ) (x : HasBits n X) where
    x_positive : Positive (argument n X)
    x_positive = record { sign = refl; above = le_trans (pow_pos (n - 1)) x.least; some = pow_pos (n - 1) }

    size : (rule : Rule) → Same (RN rule n (by_high n f.parts X)) (value_of n (quotient_by f X))
    size rule =
        let other : Context = record { rule = rule; n = n; E = K.E } in
        subst (λ (v : Quotient). Same (once other f.parts X) (value_of n v)) (quotient_any_rule K ok.some f.parts X (sound_high f s) x rule) (quotient_value other ok.some f.parts X (sound_high f s) x)

    value_some : 0 < (value_of n (quotient_by f X)).den
    value_some = mul-pos (down_pos (quotient_by f X).binade) (pow_pos (n - 1))

    size_near : (C : Fraction) → Between K L U C → WithinThreeHalves n (value_of n (quotient_by f X)) (exact_quotient n X C)
    size_near C k =
        distance_same (once K f.parts X) (value_of n (quotient_by f X)) (exact_quotient n X C) (times (over 3 1) (ulp n (exact_quotient n X C)))
        (RN_some K.rule n (by_high n f.parts X)) value_some (ratio_positive (argument n X) C x_positive (sound_positive f s C k)).some (size K.rule) (sound_near K.rule (argument n X) x_positive C k)

    -- with a sign put on
    module _ (m : Bool) where
      near : (C : Fraction) → Between K L U C → WithinThreeHalves n (signed_as m (value_of n (quotient_by f X))) (exact_quotient n X (signed_as m C))
      near C k = within_signed n m (unlike false m) (unlike_comm false m ∙ unlike_plus m) (value_of n (quotient_by f X)) (exact_quotient n X C) (sym (ap (unlike false) k.sign)) (size_near C k)

      pub sound_quotient : Tells f X (signed_quotient m (directed_by f X))
      sound_quotient =
          let y = by_high n f.parts X in
          let v = value_of n (quotient_by f X) in
          record {
            bits = quotient_bits K ok.some f.parts X (sound_high f s) x;
            below_one = quotient_below_one K ok.some f.parts X (sound_high f s) x;
            from_one = quotient_from_one K ok.some f.parts X (sound_high f s) x;
            value = λ rule. (refl, (size rule).1);
            untied = never_tied K ok.some f.parts X (sound_high f s) x;
            directs = directs_signed (direction_by f X) y v (directs_to K.rule n y v value_some (size K.rule)) m refl refl;
            near = near;
          }

    -- its binade, -1 or 0, has at most the size 1
    pub sound_binade : nat_abs (quotient_by f X).binade ≤ 1
    sound_binade = go (dec_lt X f.parts.high)
      where
        go : Dec (X < f.parts.high) → nat_abs (quotient_by f X).binade ≤ 1
        go (yes l) = rw ((sound_quotient false).below_one l) (omega arith)
        go (no l) = rw ((sound_quotient false).from_one (omega arith)) (omega arith)

-- every answer tells the truth, whatever the factor and the number
pub quotient_tells : (f : Factor) (X : ℕ) → AnswerTells f X (divided f X)
unfolding divided
quotient_tells f X =
    of_answer (AnswerTells f X) (conditions f X) (signed_quotient f.minus (directed_by f X)) (λ k. tt) (λ h. let t = let_through f X h in (refl, sound_quotient f t.0 X t.1 f.minus))
