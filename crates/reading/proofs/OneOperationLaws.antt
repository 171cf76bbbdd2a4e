-- Laws: a division and a multiplication of the standard are their exact value rounded, and powers of two, signs and the error go along with them; so an answer that RN of the significands makes is one operation of the reading and ± Ch * 2 ^ k (`one_operation`). Assumes nothing.
use Rattle.std.specs.Prelude.{◌≡◌, refl, Bool, false, ℕ, suc, ◌+◌, ◌-◌, ◌*◌, ◌^◌, ◌≤◌, ◌<◌, T, ℤ, pos, negsuc, nat_abs, ◌+ℤ◌, Float}
use Rattle.std.proofs.Common.{sym, ap, ap₂, ◌∙◌, subst, mul-pos, mul_comm, mul-le-mul, le_trans, lt_of_le_of_lt, arith, lit<, pow_pos, pow_mono}
use Rattle.std.specs.Float.Ieee
use Rattle.std.specs.Float.{binary32}
use Rattle.std.specs.Float.Ieee.{prec, hid, up, down, unlike, fits, to_bits}
use Rattle.std.specs.Float.Ieee.Exact.{HasValue}
use Rattle.std.specs.Float.Ieee.Fits.{up_pos, down_pos}
use Rattle.marks.specs.Answers.{NoneHolds}
use Rattle.rounding.specs.Grid.{to_even}
use Rattle.rounding.specs.Round.{HasBits}
use Rattle.rounding.specs.Fraction.{Fraction, over, power, signed_as, times, RN, Same, Positive}
use Rattle.rounding.proofs.FractionLaws.{RN_some, Scaled, unlike_comm, times_positive, ratio_positive, ratio_twice, times_twice, distance_same}
use Rattle.rounding.specs.Ulp.{ulp, WithinThreeHalves}
use Rattle.rounding.proofs.UlpLaws.{within_signed}
use Rattle.rounding.proofs.Ieee.{revalue, round_itself}
use Rattle.floats.specs.Fields.{sign_of, zero_bits, Normal, significand_of, exponent_of}
use Rattle.floats.proofs.Powers.{sub_le, in_smallest}
use Rattle.floats.proofs.Pattern.{significand_bits}
use Rattle.floats.proofs.Times.{times_scaled, mul_value}
use Rattle.floats.proofs.Ratio.{ratio_scaled, div_value}
use Rattle.floats.proofs.Classes.{normal_value}
use Rattle.floats.proofs.NormalLaws.{number_at, RoundsAt, number_some, rounds_along}
use Rattle.factor.specs.declared.Factor.{Factor}
use Rattle.factor.specs.Context.{context_of, lower_of, upper_of}
use Rattle.factor.specs.Ends.{Between}
use Rattle.factor.specs.SetUp.{float_in, Sound}
use Rattle.factor.proofs.StoredLaws.{high_number}
use Rattle.product.specs.Product.{argument, high}
use Rattle.product.proofs.SoundLaws.{HighBits, sound_high, sound_high_positive, sound_positive}
use Rattle.product.proofs.OneStepTells.{sound_near as product_near}
use Rattle.quotient.specs.Tells.{sound_near as quotient_near}
use Rattle.reading.specs.Reading.{unreadable, sign_with, exponent_out, number_of}
use Rattle.reading.proofs.Exponents.{scale_size, let_through}
use Rattle.reading.proofs.ReadingLaws.{number_value, number_rounds}
use Rattle.reading.proofs.AnswerLaws.{is_normal}
use Rattle.reading.specs.OneOperation.{Is, reading_at, scaled_by, applied_high, Operation, dividing, multiplying, OneOperation}

-- ---- a reading that is let through, and not a zero, is a normal number
pub reading_is : (f : Factor) (b : ℕ) → NoneHolds (unreadable f b) → zero_bits binary32 b ≡ false → (x : Float) → T (fits binary32 x) → to_bits binary32 x ≡ b → Is x (reading_at b)
reading_is f b h z x fit e = subst (λ (c : ℕ). Is x (reading_at c)) e (normal_value binary32 x fit (subst (Normal binary32) (sym e) (is_normal f b h z)))

-- ---- what an operation is lawful by
pub record Lawful (o : Operation) : Type 0 where
  -- of floats it is the exact value, rounded
  pub value : (x g : Float) (p c : Fraction) → 0 < p.den → 0 < c.num → 0 < c.den → Is x p → Is g c → o.in_format x g ≡ float_in binary32 (o.exactly p c)
  -- both signs make its own, a zero is made a zero, and numbers above zero one above zero
  pub signs : (s t : Bool) (p c : Fraction) → o.exactly (signed_as s p) (signed_as t c) ≡ signed_as (unlike s t) (o.exactly p c)
  pub zero : (p c : Fraction) → 0 < p.den → 0 < c.num → 0 < c.den → p.num ≡ 0 → ((o.exactly p c).num ≡ 0) × (0 < (o.exactly p c).den)
  pub positive : (p c : Fraction) → Positive p → Positive c → Positive (o.exactly p c)
  -- powers of two go along, and one constant after another is their product
  pub along : (p c : Fraction) (e k : ℤ) → Scaled (o.exponents e k) (o.exactly p c) (o.exactly (times p (power e)) (times c (power k)))
  pub twice : (p x y : Fraction) → o.exactly (o.exactly p x) y ≡ o.exactly p (times y x)
  -- with Ch for C it is less than 3/2 ulp off, once rounded
  pub near : (f : Factor) → Sound f → (p : Fraction) → Positive p → (C : Fraction) → Between (context_of f) (lower_of f) (upper_of f) C → let n = f.precision in WithinThreeHalves n (RN to_even n (o.exactly p (high n f.parts))) (o.exactly p C)

pub divides : Lawful dividing
divides =
    record {
      value = λ x g p c P N D i j. div_value binary32 x g p.minus c.minus p.num p.den c.num c.den P N D i j;
      signs = λ s t p c. refl;
      zero = λ p c P N D e. (omega (arith, ap (λ (m : ℕ). m * c.den) e), mul-pos P N);
      positive = ratio_positive;
      along = ratio_scaled;
      twice = ratio_twice;
      near = λ f s. quotient_near f s to_even;
    }

pub multiplies : Lawful multiplying
multiplies =
    record {
      value = λ x g p c P N D i j. mul_value binary32 x g p.minus c.minus p.num p.den c.num c.den P D i j ∙ turned p.minus c.minus p.num p.den c.num c.den;
      signs = λ s t p c. ap (λ (m : Bool). signed_as m (multiplying.exactly p c)) (unlike_comm t s);
      zero = λ p c P N D e. (omega (arith, ap (λ (m : ℕ). c.num * m) e), mul-pos D P);
      positive = λ p c P C. times_positive c p C P;
      along = λ p c. times_scaled c p;
      twice = times_twice;
      near = λ f s. product_near f s to_even;
    }
  where
    turned : (s t : Bool) (a c b d : ℕ) → Ieee.round binary32 (unlike s t) (a * b) (c * d) ≡ Ieee.round binary32 (unlike t s) (b * a) (d * c)
    turned s t a c b d = ap (λ (m : Bool). Ieee.round binary32 m (a * b) (c * d)) (unlike_comm s t) ∙ ap₂ (λ (p q : ℕ). Ieee.round binary32 (unlike t s) p q) (mul_comm a b) (mul_comm c d)

-- ---- Ch and ± Ch * 2 ^ k, of a sound factor of the format's precision
module _ (f : Factor) (sound : Sound f) (n : f.precision ≡ prec binary32) where
  abbrev k : ℤ
  k = f.applied.scale

  -- the size of a constant with the scale put on, and that of the high part
  abbrev sized : Fraction → Fraction
  sized C = times C (power k)

  abbrev sized_high : Fraction
  sized_high = sized (high (prec binary32) f.parts)

  hid_some : 0 < hid binary32
  hid_some = pow_pos (prec binary32 - 1)

  high_bits : HighBits (prec binary32) f.parts.high
  high_bits = subst (λ (m : ℕ). HighBits m f.parts.high) n (sound_high f sound)

  high_positive : Positive (high (prec binary32) f.parts)
  high_positive = subst (λ (m : ℕ). Positive (high m f.parts)) n (sound_high_positive f sound)

  power_positive : Positive (power k)
  power_positive = record { sign = refl; above = up_pos k; some = down_pos k }

  pub sized_positive : Positive sized_high
  sized_positive = times_positive (high (prec binary32) f.parts) (power k) high_positive power_positive

  -- with the factor's sign it is a binary32 number
  pub applied_held : Is (float_in binary32 (applied_high f)) (applied_high f)
  applied_held =
      let t = scale_from k (scale_size k sound.scale) in
      round_itself binary32 f.minus (f.parts.high * up k) (hid binary32 * down k) f.parts.high t.0 sized_positive.some high_bits.most (in_smallest binary32 f.parts.high k t.0 t.1) (lt_of_le_of_lt (mul-le-mul high_bits.most (pow_mono t.2)) (lit< tt))
    where
      scale_from : (k : ℤ) → nat_abs k ≤ 100 → (j : ℕ) × (k +ℤ pos 126 ≡ pos j) × (j ≤ 226)
      scale_from (pos m) l = (m + 126, refl, omega arith)
      scale_from (negsuc m) l = (126 - suc m, sub_le 126 (suc m) (126 - suc m) (omega arith), omega arith)

  -- ---- an answer: the operation on the significands rounds to S / hid * 2 ^ z, and c is the exponent that S then gets
  module _ (o : Operation) (lawful : Lawful o) (b S : ℕ) (z c : ℤ) where
    abbrev X : ℕ
    X = significand_of binary32 b

    abbrev e : ℤ
    e = exponent_of binary32 b

    -- the answer's sign
    abbrev s : Bool
    s = sign_with f b

    -- x, the size of the reading, and what the operation makes of them exactly
    abbrev x : Fraction
    x = argument (prec binary32) X

    abbrev r : Fraction
    r = number_at binary32 X e

    abbrev of_x : Fraction
    of_x = o.exactly x (high (prec binary32) f.parts)

    abbrev of_r : Fraction
    of_r = o.exactly r sized_high

    X_some : 0 < X
    X_some = le_trans hid_some (significand_bits binary32 b).least

    x_positive : Positive x
    x_positive = record { sign = refl; above = X_some; some = hid_some }

    r_positive : Positive r
    r_positive = record { sign = refl; above = mul-pos X_some (up_pos e); some = number_some binary32 e }

    x_exact : Positive of_x
    x_exact = lawful.positive x (high (prec binary32) f.parts) x_positive high_positive

    r_exact : Positive of_r
    r_exact = lawful.positive r sized_high r_positive sized_positive

    module _ (rounds : RoundsAt binary32 of_x S z) (at : c ≡ o.exponents e k +ℤ z) where
      -- the reading's rounds to S / hid * 2 ^ c
      r_rounds : RoundsAt binary32 of_r S c
      r_rounds = subst (RoundsAt binary32 of_r S) (sym at) (rounds_along binary32 of_x of_r x_exact.above x_exact.some r_exact.some (o.exponents e k) z (lawful.along x (high (prec binary32) f.parts) e k) S rounds)

      module _ (bits : HasBits (prec binary32) S) (z_in : exponent_out binary32 z ≡ false) (c_in : exponent_out binary32 c ≡ false) where
        significands : (v : Fraction) → Same (number_at binary32 S z) v → T (fits binary32 f.applied.high) → (y : Float) → Is y x → Is (o.in_format y f.applied.high) v
        significands v v_is i y j =
            let t = let_through binary32 z z_in in
            let g = subst (λ (m : ℕ). HasValue f.applied.high false f.parts.high (2 ^ (m - 1))) n (high_number f sound i) in
            let is : o.in_format y f.applied.high ≡ number_of binary32 false S z =
            lawful.value y f.applied.high x (high (prec binary32) f.parts) hid_some high_positive.above high_positive.some j g ∙ ap (λ (m : Bool). Ieee.round binary32 m of_x.num of_x.den) x_exact.sign
            ∙ number_rounds binary32 false of_x x_exact.above x_exact.some S z bits z_in rounds in
            subst (λ (w : Float). Is w v) (sym is)
            (subst (λ (m : Bool). HasValue (number_of binary32 false S z) m v.num v.den) v_is.0
            (revalue (number_of binary32 false S z) false (S * up z) (hid binary32 * down z) v.num v.den (number_some binary32 z) v_is.1 (number_value binary32 false S z bits t.0 t.1 t.2 t.3)))

        standard : (y g : Float) → Is y (reading_at b) → Is g (applied_high f) → o.in_format y g ≡ number_of binary32 s S c
        standard y g i j =
            lawful.value y g (reading_at b) (applied_high f) (number_some binary32 e) sized_positive.above sized_positive.some i j ∙ ap (float_in binary32) (lawful.signs (sign_of binary32 b) f.minus r sized_high)
            ∙ number_rounds binary32 s of_r r_exact.above r_exact.some S c bits c_in r_rounds

        -- ---- the error
        q_positive : (C : Fraction) → Between (context_of f) (lower_of f) (upper_of f) C → Positive (o.exactly r (sized C))
        q_positive C t = lawful.positive r (sized C) r_positive (times_positive C (power k) (sound_positive f sound C t) power_positive)

        -- of sizes
        size_near : (C : Fraction) → Between (context_of f) (lower_of f) (upper_of f) (signed_as false C) → WithinThreeHalves (prec binary32) (number_at binary32 S c) (o.exactly r (sized (signed_as false C)))
        size_near C t =
            let m = prec binary32 in
            let D = signed_as false C in
            let p = o.exactly r (power k) in
            let q = o.exactly r (sized D) in
            let by_p = subst (λ (m : ℕ). WithinThreeHalves m (RN to_even m (o.exactly p (high m f.parts))) (o.exactly p D)) n (lawful.near f sound p (lawful.positive r (power k) r_positive power_positive) D t) in
            let by_r = subst (λ (a : Fraction). WithinThreeHalves m (RN to_even m a) (o.exactly p D)) (lawful.twice r (power k) (high m f.parts)) by_p in
            distance_same (RN to_even m of_r) (number_at binary32 S c) q (times (over 3 1) (ulp m q)) (RN_some to_even m of_r) (number_some binary32 c) (q_positive D t).some (r_exact.sign, r_rounds)
            (subst (WithinThreeHalves m (RN to_even m of_r)) (lawful.twice r (power k) D) by_r)

        -- signs put on
        near : (a : Fraction) → 0 < a.den → Same (signed_as s (number_at binary32 S c)) a → (C : Fraction) → Between (context_of f) (lower_of f) (upper_of f) C → WithinThreeHalves (prec binary32) a (o.exactly (reading_at b) (scaled_by f C))
        near a A a_is C t =
            let m = prec binary32 in
            let D = signed_as false C in
            let q = o.exactly r (sized D) in
            let u : Between (context_of f) (lower_of f) (upper_of f) D = record { some = t.some; sign = refl; least = t.least; most = t.most } in
            let w = q_positive D u in
            let signed = within_signed m s s refl (number_at binary32 S c) q (sym w.sign) (size_near C u) in
            let told = distance_same (signed_as s (number_at binary32 S c)) a (signed_as s q) (times (over 3 1) (ulp m (signed_as s q))) (number_some binary32 c) A w.some a_is signed in
            subst (WithinThreeHalves m a) (sym (lawful.signs (sign_of binary32 b) f.minus r (sized D))) told

        pub one_operation : (v a : Fraction) → Same (number_at binary32 S z) v → 0 < a.den → Same (signed_as s (number_at binary32 S c)) a → OneOperation o f b v a (number_of binary32 s S c)
        one_operation v a v_is A a_is = record { significands = significands v v_is; held = applied_held; standard = standard; near = near a A a_is }
