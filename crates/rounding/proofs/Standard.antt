-- Laws: RN is round to nearest in the sense of IEEE 754-2019, 4.3.1, with exponents unbounded. No number of n bits is nearer, and of two that are equally near
-- the rule decides, with ties to even the one whose least significant digit is even. Assumes nothing.
use Rattle.std.specs.Prelude.{◌≡◌, refl, cond, ℕ, suc, ◌+◌, ◌-◌, ◌*◌, ◌%◌, ◌^◌, ◌≤◌, ◌<◌, ℤ, pos, negsuc}
use Rattle.std.proofs.Common.{sym, ap, ◌∙◌, mul-le-mul_right, mul-le-mul_left, le_of_mul-le-mul_right, le_of_lt, arith, pow-add, pow_pos}
use Rattle.std.specs.Float.Ieee.{size, up, down}
use Rattle.rounding.specs.declared.Rounded.{Rounded}
use Rattle.rounding.specs.Apart.{apart}
use Rattle.rounding.proofs.ApartLaws.{apart_mul}
use Rattle.rounding.specs.Grid.{Rule, to_even}
use Rattle.rounding.proofs.Digits.{pow_half, enough_digits}
use Rattle.rounding.specs.Unit.{rn}
use Rattle.rounding.specs.Round.{rounded, Equals, HasBits}
use Rattle.rounding.proofs.RoundLaws.{rounded_bits, rounded_value}
use Rattle.rounding.proofs.Best.{rn_best, rn_tie, even_taken}

-- |r - N / d| is at most |v - N / d|
abbrev pub AsNear : (N d : ℕ) → (r v : Rounded ℕ) → Type 0
AsNear N d r v =
    apart (r.significand * up r.exponent * d) (N * down r.exponent) * down v.exponent
    ≤ apart (v.significand * up v.exponent * d) (N * down v.exponent) * down r.exponent

-- N / d lies half way between j and j + 1 of the step 2 ^ (k - t), both of n bits (j + 1 may be the next binade's first)
pub record HalfWay (n N d t j k : ℕ) : Type 0 where
  pub least : 2 ^ (n - 1) ≤ j
  pub most : j < 2 ^ n
  pub middle : 2 * (N * 2 ^ t) ≡ (2 * j + 1) * 2 ^ k * d

-- r is N / d rounded to nearest, n bits, ties by the rule
pub record RoundsTo (rule : Rule) (n N d : ℕ) (r : Rounded ℕ) : Type 0 where
  -- it is a number of n bits
  pub bits : HasBits n r.significand
  -- and no number of n bits is nearer
  pub nearest : (v : Rounded ℕ) → v.significand < 2 ^ n → AsNear N d r v
  -- half way between two the rule decides
  pub tie : (t j k : ℕ) → HalfWay n N d t j k → Equals r (cond (rule j) (suc j) j * 2 ^ k) (2 ^ t)

-- A / x and B / y are a / T and b / T
cross : (A B x y T a b : ℕ) → 0 < T → A * T ≡ a * x → B * T ≡ b * y → a ≤ b → A * y ≤ B * x
cross A B x y T a b t p q h = le_of_mul-le-mul_right {k = T} (omega (arith, ap (λ (z : ℕ). z * y) p, ap (λ (z : ℕ). z * x) q, mul-le-mul_right (x * y) h)) t

module _ (rule : Rule) (n : ℕ) (P : 0 < n) (N d : ℕ) (M : 0 < N) (D : 0 < d) where
  fine : (m : ℕ) → 2 ^ n * d ≤ 2 * (N * 2 ^ (n + size d + m))
  fine m = enough_digits n N d (n + size d + m) M (omega arith)

  -- in a unit in which v is whole
  by_unit : (r v : Rounded ℕ) (m R K : ℕ) → Equals r R (2 ^ (n + size d + m)) → Equals v K (2 ^ (n + size d + m)) → apart (R * d) (N * 2 ^ (n + size d + m)) ≤ apart (K * d) (N * 2 ^ (n + size d + m)) → AsNear N d r v
  by_unit r v m R K er ev h =
      let T = 2 ^ (n + size d + m) in
      let a = r.significand * up r.exponent in
      let b = v.significand * up v.exponent in
      let x = down r.exponent in
      let y = down v.exponent in
      cross (apart (a * d) (N * x)) (apart (b * d) (N * y)) x y T (apart (R * d) (N * T)) (apart (K * d) (N * T)) (pow_pos (n + size d + m)) (same a R x T er) (same b K y T ev) h
    where
      same : (a R x T : ℕ) → a * T ≡ R * x → apart (a * d) (N * x) * T ≡ apart (R * d) (N * T) * x
      same a R x T e =
          apart_mul (a * d) (N * x) T
          ∙ ap (λ (z : ℕ). apart z (N * x * T)) (omega (arith, ap (λ (z : ℕ). z * d) e))
          ∙ ap (λ (z : ℕ). apart (R * d * x) z) (omega arith)
          ∙ sym (apart_mul (R * d) (N * T) x)

  as_near : (v : Rounded ℕ) → v.significand < 2 ^ n → AsNear N d (rounded rule n N d) v
  as_near v h = go v.exponent refl
    where
      value : (m : ℕ) → Equals (rounded rule n N d) (rn rule n (N * 2 ^ (n + size d + m)) d) (2 ^ (n + size d + m))
      value m = rounded_value rule n P N d (n + size d + m) (N * 2 ^ (n + size d + m)) d D D refl (fine m)

      best : (m i : ℕ) → apart (rn rule n (N * 2 ^ (n + size d + m)) d * d) (N * 2 ^ (n + size d + m)) ≤ apart (v.significand * 2 ^ i * d) (N * 2 ^ (n + size d + m))
      best m i = rn_best rule n P (N * 2 ^ (n + size d + m)) d D (fine m) v.significand i (le_of_lt h)

      go : (e : ℤ) → v.exponent ≡ e → AsNear N d (rounded rule n N d) v
      go (pos i) e =
          by_unit (rounded rule n N d) v 0 (rn rule n (N * 2 ^ (n + size d + 0)) d) (v.significand * 2 ^ (i + (n + size d + 0))) (value 0)
          (rw e (omega (arith, ap (λ (z : ℕ). v.significand * z) (pow-add 2 i (n + size d + 0))))) (best 0 (i + (n + size d + 0)))
      go (negsuc k) e =
          by_unit (rounded rule n N d) v (suc k) (rn rule n (N * 2 ^ (n + size d + suc k)) d) (v.significand * 2 ^ (n + size d)) (value (suc k))
          (rw e (omega (arith, ap (λ (z : ℕ). v.significand * z) (pow-add 2 (n + size d) (suc k))))) (best (suc k) (n + size d))

  pub rounds_to : RoundsTo rule n N d (rounded rule n N d)
  rounds_to =
      record {
        bits = rounded_bits rule n P N d M D;
        nearest = as_near;
        tie = λ t j k w.
            let e : rn rule n (N * 2 ^ t) d ≡ cond (rule j) (suc j) j * 2 ^ k = rn_tie rule n P (N * 2 ^ t) d j k D w.least w.most w.middle in
            rw e at (rounded_value rule n P N d t (N * 2 ^ t) d D D refl (enough t j k w));
      }
    where
      enough : (t j k : ℕ) → HalfWay n N d t j k → 2 ^ n * d ≤ 2 * (N * 2 ^ t)
      enough t j k w = omega (arith, w.middle, mul-le-mul_right (2 ^ k * d) w.least, mul-le-mul_left (2 ^ (n - 1)) (mul-le-mul_right d (pow_pos k)), ap (λ (z : ℕ). z * d) (pow_half n P))

-- the neighbour that ties to even takes is even
pub ties_to_even : (n : ℕ) → 0 < n → (N d t j k : ℕ) → 0 < N → 0 < d → HalfWay n N d t j k → (i : ℕ) × (i % 2 ≡ 0) × Equals (rounded to_even n N d) (i * 2 ^ k) (2 ^ t)
ties_to_even n P N d t j k M D w = (cond (to_even j) (suc j) j, even_taken j, (rounds_to to_even n P N d M D).tie t j k w)
