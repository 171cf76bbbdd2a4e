-- Laws: what RN means, in the standard's sense. No number of n bits is nearer, and half way between two the rule decides, with ties to even the even one. Assumes nothing.
use Rattle.std.specs.Prelude.{◌≡◌, cond, ℕ, suc, ◌+◌, ◌-◌, ◌*◌, ◌%◌, ◌^◌, ◌≤◌, ◌<◌}
use Rattle.std.proofs.Math.Path.{refl}
use Rattle.std.proofs.Common.{sym, ap, ◌∙◌, mul-le-mul_right, mul-le-mul_left, mul-pos, le_trans, le_of_eq, lt_of_not-le, lt_of_mul-lt-mul_right, arith, pow-add, pow_pos, pow_mono}
use Rattle.std.proofs.Math.Nat.{pow-succ'}
use Rattle.std.proofs.Math.Decide.{dec_le}
use Rattle.std.specs.Float.Ieee.Order.{drop}
use Rattle.rounding.specs.Apart.{apart}
use Rattle.rounding.specs.Grid.{Rule, to_even}
use Rattle.rounding.proofs.GridLaws.{even_up, nearest_is}
use Rattle.rounding.proofs.Digits.{pow_half, drop_lower, drop_at}
use Rattle.rounding.specs.Unit.{kept, rn}
use Rattle.rounding.proofs.UnitLaws.{rn_half, rn_le, rn_ge, kept_ge, rn_in_binade}

module _ (rule : Rule) (n : ℕ) (P : 0 < n) where
  -- ---- half way between two neighbours j * 2 ^ k and (j + 1) * 2 ^ k of n bits
  pub rn_tie : (N d j k : ℕ) → 0 < d → 2 ^ (n - 1) ≤ j → j < 2 ^ n → 2 * N ≡ (2 * j + 1) * 2 ^ k * d → rn rule n N d ≡ cond (rule j) (suc j) j * 2 ^ k
  rn_tie N d j k D lo hi e =
      let w = ap (λ (z : ℕ). z * d) (pow-add 2 n k) in
      let v = ap (λ (z : ℕ). z * 2 ^ k * d) (pow_half n P) in
      let l : 2 ^ (n + k) * d ≤ 2 * N = omega (arith, mul-le-mul_right (2 ^ k * d) lo) in
      let u : N < 2 ^ (n + k) * d = omega (arith, mul-le-mul_right (2 ^ k * d) hi, mul-pos D (pow_pos k)) in
      rn_in_binade rule n P N d k (drop_at n N d D k P l u) ∙ ap (λ (z : ℕ). z * 2 ^ k) ((nearest_is rule N (d * 2 ^ k) (mul-pos D (pow_pos k))).tie j (omega arith))

  -- ---- no number of n bits is nearer
  module _ (N d : ℕ) (D : 0 < d) (fine : 2 ^ n * d ≤ 2 * N) where
    abbrev k : ℕ
    k = drop n N d

    abbrev q : ℕ
    q = kept rule n N d

    abbrev r : ℕ
    r = rn rule n N d

    r_is : r ≡ q * 2 ^ k
    unfolding rn
    r_is = refl

    -- one with a finer step is not above the binade's first
    finer : (j i : ℕ) → j ≤ 2 ^ n → i < k → j * 2 ^ i ≤ 2 ^ (n - 1) * 2 ^ k
    finer j i h l =
        let e : 2 * 2 ^ i ≤ 2 ^ k = le_trans (le_of_eq (sym (pow-succ' 2 i))) (pow_mono {i = suc i} {j = k} l) in
        omega (arith, mul-le-mul_right (2 ^ i) h, mul-le-mul_left (2 ^ (n - 1)) e, ap (λ (z : ℕ). z * 2 ^ i) (pow_half n P))

    -- one with a step as coarse is a multiple of 2 ^ k
    coarser : (j i : ℕ) → k ≤ i → j * 2 ^ i ≡ j * 2 ^ (i - k) * 2 ^ k
    coarser j i l =
        let e : 2 ^ i ≡ 2 ^ (i - k) * 2 ^ k = ap (λ (z : ℕ). 2 ^ z) (omega arith) ∙ pow-add 2 (i - k) k in
        omega (arith, ap (λ (z : ℕ). j * z) e)

    step_apart : (a b : ℕ) → a * 2 ^ k < b * 2 ^ k → a * 2 ^ k + 2 ^ k ≤ b * 2 ^ k
    step_apart a b h = let l : suc a ≤ b = lt_of_mul-lt-mul_right (2 ^ k) h in omega (arith, mul-le-mul_right (2 ^ k) l)

    -- on the other side of N / d it is at least a step away
    below : (j i : ℕ) → j ≤ 2 ^ n → j * 2 ^ i < r → N < r * d → j * 2 ^ i + 2 ^ k ≤ r
    below j i h l u = go (dec_le k i)
      where
        first : 2 ^ (n - 1) * 2 ^ k < q * 2 ^ k
        first =
            lt_of_mul-lt-mul_right d
            (omega (arith, drop_lower n N d D P fine, ap (λ (z : ℕ). z * d) (pow-add 2 n k), ap (λ (z : ℕ). z * 2 ^ k * d) (pow_half n P), ap (λ (z : ℕ). z * d) r_is))

        go : Dec (k ≤ i) → j * 2 ^ i + 2 ^ k ≤ r
        go (yes g) = omega (arith, coarser j i g, r_is, step_apart (j * 2 ^ (i - k)) q (omega (arith, coarser j i g, r_is)))
        go (no g) = omega (arith, finer j i h (lt_of_not-le g), r_is, step_apart (2 ^ (n - 1)) q first)

    above : (j i : ℕ) → j ≤ 2 ^ n → r < j * 2 ^ i → r + 2 ^ k ≤ j * 2 ^ i
    above j i h l = go (dec_le k i)
      where
        go : Dec (k ≤ i) → r + 2 ^ k ≤ j * 2 ^ i
        go (yes g) = omega (arith, coarser j i g, r_is, step_apart q (j * 2 ^ (i - k)) (omega (arith, coarser j i g, r_is)))
        go (no g) = absurd (omega (arith, finer j i h (lt_of_not-le g), r_is, mul-le-mul_right (2 ^ k) (kept_ge rule n P N d D fine)))

    pub rn_best : (j i : ℕ) → j ≤ 2 ^ n → apart (r * d) N ≤ apart (j * 2 ^ i * d) N
    rn_best j i h = go (dec_le (j * 2 ^ i * d) N) (dec_le (r * d) N)
      where
        go : Dec (j * 2 ^ i * d ≤ N) → Dec (r * d ≤ N) → apart (r * d) N ≤ apart (j * 2 ^ i * d) N
        go (yes a) (yes b) = let l = mul-le-mul_right d (rn_ge rule n P N d j i D h a) in omega arith
        go (yes a) (no b) =
            let u : N < r * d = lt_of_not-le b in
            let l : j * 2 ^ i < r = lt_of_mul-lt-mul_right d (omega arith) in
            let s = mul-le-mul_right d (below j i h l u) in
            omega (arith, rn_half rule n P N d D)
        go (no a) (yes b) =
            let l : r < j * 2 ^ i = lt_of_mul-lt-mul_right d (omega arith) in
            let s = mul-le-mul_right d (above j i h l) in
            omega (arith, rn_half rule n P N d D)
        go (no a) (no b) =
            let l = mul-le-mul_right d (rn_le rule n P N d j i D h (omega arith)) in
            omega arith

-- with ties to even the neighbour that is taken is even
pub even_taken : (j : ℕ) → cond (to_even j) (suc j) j % 2 ≡ 0
even_taken j = omega (arith, even_up j)
