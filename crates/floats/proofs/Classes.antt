-- Laws: what the fields of a pattern say of its value. Every number of a format is infinite or NaN, zero, subnormal, or sign * significand / 2 ^ (prec - 1) * 2 ^ exponent. Assumes nothing.
use Rattle.std.specs.Prelude.{◌≡◌, refl, Bool, not, ◌&&◌, ◌⊎◌, T, eqb, ℤ, pos, ◌+ℤ◌, Float}
use Rattle.std.proofs.Math.Path.{sym, ap, subst}
use Rattle.std.proofs.Common.{ap₂, ◌∙◌, true≢false, mul-one, mod-lt, pow_pos, eq-eqb, eqb-true}
use Rattle.std.proofs.Math.Bool.{true, false, cond}
use Rattle.std.proofs.Math.Logic.{inl, inr}
use Prim.Native.Nat.{ℕ, suc, ◌+◌, ◌-◌, ◌*◌, ◌^◌, ◌≤◌, ◌<◌}
use native.Mathlib.Omega.{arith}
use Rattle.std.specs.Float.Ieee.{nan, inf, prec, emax, low, hid, ones, minus, up, down, odd, of_fields, of_bits, to_bits, fits}
use Rattle.std.specs.Float.{Format, binary32, binary64}
use Rattle.std.specs.Float.Ieee.Bits.{is_true, is_false, of_bits-to_bits}
use Rattle.std.specs.Float.Ieee.Fits.{two, reach, and_l, and_r}
use Rattle.std.specs.Float.Ieee.Exact.{HasValue, odd_sign}
use Rattle.std.proofs.lemmas.Bool.{eqb-false}
use Rattle.rounding.proofs.RoundLaws.{minus_add, minus_back}
use Rattle.rounding.proofs.Ieee.{revalue}
use Rattle.floats.specs.Fields.{sign_of, biased_exponent, trailing_significand, infinite_or_na_n, zero_bits, subnormal, Normal, significand_of, exponent_of}
use Rattle.floats.proofs.Powers.{in_smallest}
use Rattle.floats.proofs.Pattern.{fields_value, biased_most}

-- ---- the classes of infinities and of NaN, whose pattern the toolchain writes
pub nan_class : (f : Format) → infinite_or_na_n f (to_bits f nan) ≡ true
unfolding to_bits
nan_class binary32 = refl
nan_class binary64 = refl

pub infinite_class : (f : Format) (s : Bool) → infinite_or_na_n f (to_bits f (inf s)) ≡ true
unfolding to_bits
infinite_class binary32 true = refl
infinite_class binary32 false = refl
infinite_class binary64 true = refl
infinite_class binary64 false = refl

-- ---- what the class of a pattern says of its float
module _ (f : Format) (x : Float) (h : T (fits f x)) where
  abbrev b : ℕ
  b = to_bits f x

  same : of_bits f b ≡ x
  same = of_bits-to_bits f x h

  fields : (F : ℕ) → biased_exponent f b ≡ F → x ≡ of_fields f (sign_of f b) F (trailing_significand f b)
  unfolding of_bits
  fields F e = sym same ∙ ap (λ (z : ℕ). of_fields f (sign_of f b) z (trailing_significand f b)) e

  pub infinite_or_nan_is : infinite_or_na_n f b ≡ true → (x ≡ nan) ⊎ (x ≡ inf (sign_of f b))
  unfolding of_fields
  infinite_or_nan_is e =
      let last : suc (2 * emax f) ≡ ones f = omega arith in
      go (eqb (trailing_significand f b) 0) (fields (suc (2 * emax f)) (eqb-true (biased_exponent f b) (ones f) e ∙ sym last) ∙ rw (eq-eqb (suc (2 * emax f)) (ones f) last))
    where
      go : (z : Bool) → x ≡ cond z (inf (sign_of f b)) nan → (x ≡ nan) ⊎ (x ≡ inf (sign_of f b))
      go true p = inr p
      go false p = inl p

  -- no leading digit
  small_value : biased_exponent f b ≡ 0 → HasValue x (sign_of f b) (trailing_significand f b) (2 ^ low f)
  unfolding of_fields
  small_value e =
      subst (λ (z : Float). HasValue z (sign_of f b) (trailing_significand f b) (2 ^ low f)) (sym (fields 0 e))
      (subst (λ (z : ℕ). HasValue (odd (prec f) (sign_of f b) (trailing_significand f b) 0 (low f)) (sign_of f b) z (2 ^ low f)) (mul-one (trailing_significand f b)) (odd_sign (prec f) (sign_of f b) (trailing_significand f b) 0 (low f)))

  pub zero_value : zero_bits f b ≡ true → HasValue x (sign_of f b) 0 (2 ^ low f)
  zero_value e =
      let t : T (zero_bits f b) = rw e tt in
      let field = is_true (eqb (biased_exponent f b) 0) (and_l (eqb (biased_exponent f b) 0) (eqb (trailing_significand f b) 0) t) in
      let none = is_true (eqb (trailing_significand f b) 0) (and_r (eqb (biased_exponent f b) 0) (eqb (trailing_significand f b) 0) t) in
      subst (λ (z : ℕ). HasValue x (sign_of f b) z (2 ^ low f)) (eqb-true (trailing_significand f b) 0 none) (small_value (eqb-true (biased_exponent f b) 0 field))

  -- subnormal: not zero, and below the least normal number
  pub subnormal_value : subnormal f b ≡ true → HasValue x (sign_of f b) (trailing_significand f b) (2 ^ low f) × (0 < trailing_significand f b) × (trailing_significand f b < hid f)
  subnormal_value e =
      let t : T (subnormal f b) = rw e tt in
      let field = is_true (eqb (biased_exponent f b) 0) (and_l (eqb (biased_exponent f b) 0) (not (eqb (trailing_significand f b) 0)) t) in
      let some = eqb-false (trailing_significand f b) 0 (is_false (eqb (trailing_significand f b) 0) (and_r (eqb (biased_exponent f b) 0) (not (eqb (trailing_significand f b) 0)) t)) in
      (small_value (eqb-true (biased_exponent f b) 0 field), omega (arith, some), mod-lt b (pow_pos (prec f - 1)))

  -- all others are normal
  pub normal_value : Normal f b → HasValue x (sign_of f b) (significand_of f b * up (exponent_of f b)) (hid f * down (exponent_of f b))
  normal_value n =
      let k = biased_exponent f b - 1 in
      let is : biased_exponent f b ≡ suc k = omega (arith, n.from) in
      let v : HasValue x (sign_of f b) (significand_of f b * 2 ^ k) (2 ^ low f) = subst (λ (z : Float). HasValue z (sign_of f b) (significand_of f b * 2 ^ k) (2 ^ low f)) same (fields_value f b (sign_of f b) k (trailing_significand f b) refl is refl (omega (arith, n.from, n.to))) in
      let E = emax f - 1 in
      let field : biased_exponent f b ≡ k + 1 = omega (arith, n.from) in
      let bias : emax f ≡ E + 1 = omega (arith, reach f, two f) in
      let at : exponent_of f b +ℤ pos E ≡ pos k = ap₂ (λ (y z : ℕ). minus y z +ℤ pos E) field bias ∙ ap (λ (z : ℤ). z +ℤ pos E) (minus_add k E 1) ∙ minus_back k E in
      let same = in_smallest f (significand_of f b) (exponent_of f b) k at in
      revalue x (sign_of f b) (significand_of f b * 2 ^ k) (2 ^ low f) (significand_of f b * up (exponent_of f b)) (hid f * down (exponent_of f b)) (pow_pos (low f)) (sym same) v

-- every pattern is of one of the classes
pub normal_others : (f : Format) (b : ℕ) → infinite_or_na_n f b ≡ false → zero_bits f b ≡ false → subnormal f b ≡ false → Normal f b
normal_others f b n z s =
    let not_ones = eqb-false (biased_exponent f b) (ones f) n in
    record { from = go (eqb (biased_exponent f b) 0) (eqb (trailing_significand f b) 0) refl z s; to = omega (arith, biased_most f b) }
  where
    go : (p q : Bool) → eqb (biased_exponent f b) 0 ≡ p → p && q ≡ false → p && not q ≡ false → 1 ≤ biased_exponent f b
    go true true e u w = absurd (true≢false u)
    go true false e u w = absurd (true≢false w)
    go false q e u w = let not_zero = eqb-false (biased_exponent f b) 0 e in omega arith
