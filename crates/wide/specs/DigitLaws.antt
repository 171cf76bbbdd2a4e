-- How many binary digits a number has, by leading zeros of one part of w digits, and by its high part where it has two. Assumes nothing.
use Rattle.std.specs.Prelude.{◌≡◌, ℕ, zero, suc, ◌+◌, ◌-◌, ◌*◌, ◌^◌, ◌≤◌, ◌<◌}
use Rattle.std.proofs.Common.{sym, ap, ◌∙◌, pow-suc, le_antisymm, le_refl, lt_of_not-le, le_of_suc-le-suc, le_trans, le_of_eq, lt_of_lt_of_le, mul-le-mul_left, mul-le-mul_right, mul-lt-mul_of_pos_right, mul_comm, mul_assoc, arith, pow-add, pow_mono, pow_pos}
use Rattle.std.proofs.Math.Nat.{pow-succ'}
use Rattle.std.proofs.Math.Arith.{digits_lt}
use Rattle.std.specs.Int.Count.{count_leading_zeros}
use Rattle.std.proofs.lemmas.Nat.{leading_length, leading_top}
use Rattle.std.specs.Float.Ieee.{size}
use Rattle.std.specs.Float.Ieee.Digits.{size-lt, size-le, size_reaches}
use Rattle.wide.specs.Division.{Normal}

-- The number of digits of x is the only m with x < 2 ^ m ≤ 2 * x + 1.
pub size_is : (x m : ℕ) → x < 2 ^ m → 2 ^ m ≤ 2 * x + 1 → m ≡ size x
size_is x m below most = le_antisymm (le_of_suc-le-suc (lt_of_not-le (λ (more : suc (size x) ≤ m). omega (arith, size-lt x, pow_mono more, pow-suc 2 (size x))))) (size-le x m below)

-- A number above 0 is at least half of the power that its digits reach.
pub size_most : (x : ℕ) → 0 < x → 2 ^ size x ≤ 2 * x
size_most x pos = go (size x) (size_reaches x)
  where
    go : (n : ℕ) → ((j : ℕ) → j < n → 2 ^ j ≤ x) → 2 ^ n ≤ 2 * x
    go zero reaches = omega arith
    go (suc n) reaches = omega (arith, pow-suc 2 n, reaches n (le_refl (suc n)))

-- The digits are the w less the leading zeros.
pub size_by_zeros : (w x : ℕ) → x < 2 ^ w → w - count_leading_zeros w x ≡ size x
size_by_zeros w x below =
    let found = leading_length w x below in
    let e : w - count_leading_zeros w x ≡ found.0 = omega (arith, found.1) in
    e ∙ size_is x found.0 found.2 found.3

-- A low part of w digits adds w to the digits of a high part above 0.
pub size_by_parts : (w h l : ℕ) → 0 < h → l < 2 ^ w → size (h * 2 ^ w + l) ≡ w + size h
size_by_parts w h l pos below = sym (size_is (h * 2 ^ w + l) (w + size h) upper lower)
  where
    split : 2 ^ (w + size h) ≡ 2 ^ size h * 2 ^ w
    split = pow-add 2 w (size h) ∙ mul_comm (2 ^ w) (2 ^ size h)

    upper : h * 2 ^ w + l < 2 ^ (w + size h)
    upper = lt_of_lt_of_le (digits_lt (size-lt h) below) (le_of_eq (sym split))

    lower : 2 ^ (w + size h) ≤ 2 * (h * 2 ^ w + l) + 1
    lower = omega (arith, split, mul-le-mul_right (2 ^ w) (size_most h pos), mul_assoc 2 h (2 ^ w))

-- Shifted by its leading zeros, a number above 0 has its highest digit set.
pub normal_by_zeros : (w x : ℕ) → 0 < x → x < 2 ^ w → Normal w x (count_leading_zeros w x)
normal_by_zeros w x pos below =
    let top = leading_top w x pos below in
    let zeros = count_leading_zeros w x in
    let e : w ≡ suc top.0 + zeros = omega (arith, top.1) in
    let split : 2 ^ w ≡ 2 ^ suc top.0 * 2 ^ zeros = ap (λ (n : ℕ). 2 ^ n) e ∙ pow-add 2 (suc top.0) zeros in
    let reach : 2 * 2 ^ top.0 * 2 ^ zeros ≤ 2 * x * 2 ^ zeros = mul-le-mul_right (2 ^ zeros) (mul-le-mul_left 2 top.2) in
    record {
      shift_lt = omega (arith, top.1);
      fits = lt_of_lt_of_le (mul-lt-mul_of_pos_right top.3 (pow_pos zeros)) (le_of_eq (sym split));
      half = le_trans (le_of_eq (split ∙ ap (λ (n : ℕ). n * 2 ^ zeros) (pow-succ' 2 top.0))) (le_trans reach (le_of_eq (mul_assoc 2 x (2 ^ zeros))));
    }
