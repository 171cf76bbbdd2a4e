-- Laws: how many of a fraction's digits are dropped, by the bounds of a binade: after these bounds the digit count is not needed. Assumes nothing.
use Rattle.std.specs.Prelude.{◌≡◌, refl, ℕ, zero, suc, ◌+◌, ◌-◌, ◌*◌, ◌/◌, ◌^◌, ◌≤◌, ◌<◌}
use Rattle.std.proofs.Common.{ap, ◌∙◌, add-zero, mul-le-mul_left, mul-le-mul_right, le_of_lt, mul-lt-mul_of_pos_right, le_of_mul-le-mul_right, lt_of_mul-lt-mul_right, mul-pos, lt_of_lt_of_le, le-div_iff_mul-le, div-lt_iff_lt-mul, le_antisymm, lt_of_not-le, not-le_of_lt, arith, pow-add, pow_pos, pow_mono}
use Rattle.std.proofs.Math.Nat.{pow-succ'}
use Rattle.std.specs.Float.Ieee.{size}
use Rattle.std.specs.Float.Ieee.Digits.{size-lt, size-le, size_reaches}
use Rattle.std.specs.Float.Ieee.Order.{drop}

pub pow_half : (n : ℕ) → 0 < n → 2 ^ n ≡ 2 * 2 ^ (n - 1)
pow_half n h = ap (λ (z : ℕ). 2 ^ z) (omega arith) ∙ pow-succ' 2 (n - 1)

-- in a unit 2 ^ - s with s at least n more than the digits of d, an N / d that is not zero has n digits
pub enough_digits : (n N d s : ℕ) → 0 < N → n + size d ≤ s → 2 ^ n * d ≤ 2 * (N * 2 ^ s)
enough_digits n N d s M h = omega (arith, mul-le-mul_left (2 ^ n) (le_of_lt (size-lt d)), pow-add 2 n (size d), pow_mono {i = n + size d} {j = s} h, mul-le-mul_right (2 ^ s) M)

module _ (n N d : ℕ) (D : 0 < d) where
  pub drop_upper : N < 2 ^ (n + drop n N d) * d
  drop_upper =
      lt_of_lt_of_le ((div-lt_iff_lt-mul D).0 (size-lt (N / d))) (mul-le-mul_right d (pow_mono {i = size (N / d)} {j = n + drop n N d} (omega arith)))

  pub drop_le : (k : ℕ) → N < 2 ^ (n + k) * d → drop n N d ≤ k
  drop_le k h = let s = size-le (N / d) (n + k) ((div-lt_iff_lt-mul D).1 h) in omega arith

  pub drop_ge : (k : ℕ) → 0 < n → 2 ^ (n + k) * d ≤ 2 * N → k ≤ drop n N d
  drop_ge k p h =
      let e = ap (λ (z : ℕ). z * d) (pow_half (n + k) (omega arith)) in
      let r : 2 ^ (n + k - 1) ≤ N / d = (le-div_iff_mul-le D).1 (omega arith) in
      let s : n + k - 1 < size (N / d) = lt_of_not-le (λ (g : size (N / d) ≤ n + k - 1). not-le_of_lt (lt_of_lt_of_le (size-lt (N / d)) (pow_mono g)) r) in
      omega arith

  -- where digits are dropped
  pub drop_some : 0 < n → 0 < drop n N d → 2 ^ (n + drop n N d) * d ≤ 2 * N
  drop_some p h =
      let k = n + drop n N d in
      let s : k - 1 < size (N / d) = omega arith in
      let r : 2 ^ (k - 1) * d ≤ N = (le-div_iff_mul-le D).0 (size_reaches (N / d) (k - 1) s) in
      let e = ap (λ (z : ℕ). z * d) (pow_half k (omega arith)) in
      omega arith

  -- where the unit is fine enough
  pub drop_lower : 0 < n → 2 ^ n * d ≤ 2 * N → 2 ^ (n + drop n N d) * d ≤ 2 * N
  drop_lower p h = go (drop n N d) refl
    where
      go : (k : ℕ) → drop n N d ≡ k → 2 ^ (n + drop n N d) * d ≤ 2 * N
      go zero e = rw (e, add-zero) h
      go (suc k) e = drop_some p (omega arith)

  pub drop_at : (k : ℕ) → 0 < n → 2 ^ (n + k) * d ≤ 2 * N → N < 2 ^ (n + k) * d → drop n N d ≡ k
  drop_at k p l u = le_antisymm (drop_le k u) (drop_ge k p l)

-- the same fraction in a unit that is 2 ^ j times as fine
pub drop_finer : (n N d M e j : ℕ) → 0 < n → 0 < d → 0 < e → N * 2 ^ j * e ≡ M * d → 2 ^ n * d ≤ 2 * N → drop n M e ≡ drop n N d + j
drop_finer n N d M e j P D Q h fine =
    let k = drop n N d in
    let w : 2 ^ (n + (k + j)) ≡ 2 ^ (n + k) * 2 ^ j = ap (λ (z : ℕ). 2 ^ z) (omega arith) ∙ pow-add 2 (n + k) j in
    let v = ap (λ (z : ℕ). z * (d * e)) w in
    let lo = mul-le-mul_right (2 ^ j * e) (drop_lower n N d D P fine) in
    let hi = mul-lt-mul_of_pos_right (drop_upper n N d D) (mul-pos (pow_pos j) Q) in
    drop_at n M e Q (k + j) P
    (le_of_mul-le-mul_right {k = d} (omega arith) D)
    (lt_of_mul-lt-mul_right d (omega arith))
