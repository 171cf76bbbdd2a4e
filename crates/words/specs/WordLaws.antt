-- What is written as a word is read back, over a width; and core's words are these. Assumes nothing.
use Rattle.std.specs.Prelude.{◌≡◌, Bool, false, cond, ltb, ℕ, suc, ◌-◌, ◌*◌, ◌^◌, ◌≤◌, ◌<◌, ℤ, pos, negsuc}
use Rattle.std.proofs.Common.{refl, true, ap, ◌∙◌, arith, mod-eq_of_lt, lt-ltb, le-ltb, to_z, of_z}
use Rattle.std.proofs.Math.Nat.{pow-succ'}
use Rattle.std.specs.Int.Signed.{mag}
use Rattle.std.proofs.lemmas.Bool.{lt-leb}
use mathlib.Core.Bool.{true≢false}
use native.Mathlib.Nat.{not-suc-le-zero}
use lib.IntN.{nat_abs}
use lib.Signed.{lt_z}
use borrow.Author.Tests.{ltb-true}
use mir.Syntax.{Width, w8, w16, w32, w64, w128}
use mir.Val.{bits, hbits, sel}
use Rattle.words.specs.Words.{unsigned, signed, low32, past_half}

module _ (w : ℕ) (some : 0 < w) where
  half : 2 ^ w ≡ 2 * 2 ^ (w - 1)
  half = let e : w ≡ suc (w - 1) = omega arith in ap (λ (k : ℕ). 2 ^ k) e ∙ pow-succ' 2 (w - 1)

  -- a signed number that w bits hold is a word of w bits,
  pub unsigned_below : (z : ℤ) → mag z < 2 ^ (w - 1) → unsigned w z < 2 ^ w
  unsigned_below (pos m) h = omega (arith, half)
  unsigned_below (negsuc m) h = omega (arith, half)

  -- and is read back from it
  pub signed_unsigned : (z : ℤ) → mag z < 2 ^ (w - 1) → signed w (unsigned w z) ≡ z
  signed_unsigned (pos m) h = ap (λ (t : Bool). cond t (pos m) (negsuc (2 ^ w - suc m))) (lt-ltb m (2 ^ (w - 1)) h)
  signed_unsigned (negsuc m) h =
      let v = 2 ^ w - suc m in
      let least : 2 ^ (w - 1) ≤ v = omega (arith, half) in
      let e : 2 ^ w - suc v ≡ m = omega (arith, half) in
      ap (λ (t : Bool). cond t (pos v) (negsuc (2 ^ w - suc v))) (le-ltb v (2 ^ (w - 1)) least) ∙ ap negsuc e

-- ---- a word by the size of its number: below zero the size, which is then not 0, is taken off 2 ^ w
pub word_below : (w : ℕ) (z : ℤ) → lt_z z (pos 0) ≡ true → unsigned w z ≡ 2 ^ w - nat_abs z
word_below w (pos n) h = absurd (not-suc-le-zero (ltb-true n 0 h))
word_below w (negsuc m) h = refl

pub word_above : (w : ℕ) (z : ℤ) → lt_z z (pos 0) ≡ false → unsigned w z ≡ nat_abs z
word_above w (pos n) h = refl
word_above w (negsuc m) h = absurd (true≢false h)

pub size_below : (z : ℤ) → lt_z z (pos 0) ≡ true → 0 < nat_abs z
size_below (pos n) h = absurd (not-suc-le-zero (ltb-true n 0 h))
size_below (negsuc m) h = omega arith

-- ---- core's `cast_unsigned` and `cast_signed`, at each width
pub cast_unsigned_is : (w : Width) (z : ℤ) → of_z w z ≡ unsigned (bits w) z
cast_unsigned_is w (pos m) = refl
cast_unsigned_is w (negsuc m) = refl

half_bits : (w : Width) → hbits w ≡ bits w - 1
half_bits w8 = refl
half_bits w16 = refl
half_bits w32 = refl
half_bits w64 = refl
half_bits w128 = refl

pub cast_signed_is : (w : Width) (v : ℕ) → to_z w v ≡ signed (bits w) v
cast_signed_is w v = chosen (pos v) (negsuc (2 ^ bits w - suc v)) (ltb v (2 ^ hbits w)) ∙ ap (λ (k : ℕ). cond (ltb v (2 ^ k)) (pos v) (negsuc (2 ^ bits w - suc v))) (half_bits w)
  where
    chosen : (x y : ℤ) (t : Bool) → sel t x y ≡ cond t x y
    chosen x y true = refl
    chosen x y false = refl

-- of a word below 2 ^ 32 the low half is all
pub low_all : (v : ℕ) → v < 2 ^ 32 → low32 v ≡ v
low_all v h = mod-eq_of_lt h

pub not_past : (v : ℕ) → v < 2 ^ 32 → past_half v ≡ false
not_past v h = lt-leb (2 ^ 32) v h
