-- RN of a whole number is the one by its number of digits. Assumes nothing.
use Rattle.std.specs.Prelude.{◌≡◌, refl, ℕ, ◌-◌, ◌*◌, ◌^◌, ◌≤◌, ◌<◌, pos, neg_ℤ}
use Rattle.std.proofs.Math.Path.{sym, ap}
use Rattle.std.proofs.Common.{◌∙◌, pos_of_ne-zero, div-one, add-zero, one-mul, mul-one, le_of_lt, mul-le-mul_right, mul-lt-mul_of_pos_right, pow-add, pow_pos}
use native.Mathlib.Omega.{arith}
use Rattle.std.proofs.Math.Pow.{pow_mono}
use Rattle.std.specs.Float.Ieee.{size}
use Rattle.std.specs.Float.Ieee.Digits.{size-lt, size_reaches}
use Rattle.std.specs.Float.Ieee.Order.{drop}
use borrow.Author.Tests.{ne_eqb}
use Rattle.rounding.specs.declared.Direction.TheVariants.{Equal}
use Rattle.rounding.proofs.DirectionLaws.{side_equal}
use Rattle.rounding.specs.Grid.{Rule, nearest, side_at}
use Rattle.rounding.proofs.GridLaws.{nearest_exact}
use Rattle.rounding.proofs.Digits.{pow_half, drop_le}
use Rattle.rounding.specs.Round.{normalised, stepped, rounded_in, rounded}
use Rattle.rounding.specs.ByDigits.{padded, cut}
use Rattle.rounding.proofs.RoundLaws.{rounded_at, zero_minus}

module _ (rule : Rule) (n : ℕ) (P : 0 < n) (x b : ℕ) (e : b ≡ size x) (X : 0 < x) where
  some : 0 < b
  some = pos_of_ne-zero (λ (z : b ≡ 0). omega (arith, size-lt x, ap (λ (k : ℕ). 2 ^ k) (sym e ∙ z)))

  -- at least half of the least number with one digit more
  full : 2 ^ b ≤ 2 * x
  full = let l : b - 1 < size x = omega (arith, some) in omega (arith, size_reaches x (b - 1) l, pow_half b some)

  under : x < 2 ^ b
  under = rw e (size-lt x)

  -- M of the unit 2 ^ - t, of at most n digits
  kept_whole : (t M : ℕ) → M < 2 ^ n → rounded_in rule n t M 1 ≡ record { significand = M; exponent = neg_ℤ (pos t); direction = Equal }
  unfolding rounded_in stepped normalised
  kept_whole t M hi =
      let l = drop_le n M 1 (omega arith) 0 (omega (arith, ap (λ (k : ℕ). 2 ^ k) (add-zero n))) in
      let z : drop n M 1 ≡ 0 = omega arith in
      let one : nearest rule M 1 ≡ M = ap (λ (y : ℕ). nearest rule y 1) (sym (mul-one M)) ∙ nearest_exact rule M 1 (omega arith) in
      let exact : side_at M 1 M ≡ Equal = side_equal M (M * 1) (mul-one M) in
      ap (λ (k : ℕ). stepped rule n t k M (1 * 2 ^ k)) z ∙ rw (one, exact, ne_eqb M (2 ^ n) (λ e. omega arith), zero_minus t)

  -- at most n digits: all are kept
  pub rounded_few : b ≤ n → padded n x b ≡ rounded rule n x 1
  rounded_few h =
      let t = n - b in
      let M = x * 2 ^ t in
      let w : 2 ^ n ≡ 2 ^ b * 2 ^ t = ap (λ (z : ℕ). 2 ^ z) (omega arith) ∙ pow-add 2 b t in
      let lo : 2 ^ n * 1 ≤ 2 * M = omega (arith, mul-le-mul_right (2 ^ t) full) in
      let hi : M < 2 ^ n = omega (arith, mul-lt-mul_of_pos_right under (pow_pos t)) in
      sym (rounded_at rule n P x 1 t M 1 (omega arith) (omega arith) refl lo ∙ kept_whole t M hi)

  -- more digits: b - n are dropped
  pub rounded_many : n < b → cut rule n x (b - n) ≡ rounded rule n x 1
  unfolding rounded_in stepped
  rounded_many h =
      let k = b - n in
      let j : drop n x 1 ≡ k = ap (λ (z : ℕ). size z - n) (div-one x) ∙ omega arith in
      let m : 2 ^ n ≤ 2 ^ b = pow_mono (le_of_lt h) in
      sym (
      rounded_at rule n P x 1 0 x 1 (omega arith) (omega arith) (omega arith) (omega (arith, full))
      ∙ ap (λ (z : ℕ). stepped rule n 0 z x (1 * 2 ^ z)) j
      ∙ ap (λ (z : ℕ). stepped rule n 0 k x z) (one-mul (2 ^ k))
      )
