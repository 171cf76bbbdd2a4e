-- Laws of the unit in the last place: its value on a binade, scaled by powers of two, the step of RN in every unit that is fine enough; half of it bounds the error of RN, and 3/2 of it where RN is of a fraction that is near. Assumes nothing.
use Rattle.std.specs.Prelude.{◌≡◌, Bool, true, ℕ, suc, ◌+◌, ◌-◌, ◌*◌, ◌^◌, ◌≤◌, ◌<◌, ℤ, negsuc, ◌+ℤ◌, ◌-ℤ◌}
use Rattle.std.proofs.Math.Path.{refl, sym, ap, ap₂, subst}
use Rattle.std.proofs.Common.{◌∙◌, mul-le-mul_left, mul-pos, mul_assoc, le_of_mul-le-mul_right, lt_of_mul-lt-mul_right, arith, pow-add, pow_pos}
use Rattle.std.proofs.Math.Bool.{false}
use Rattle.std.proofs.Math.Nat.{mul-le-mul_right, mul-lt-mul_of_pos_right, pow-succ'}
use Rattle.std.proofs.Math.IntN.{pos, +ℤ-neg_ℤ_cancel}
use Rattle.std.specs.Float.Ieee.{size, minus, unlike}
use Rattle.std.specs.Float.Ieee.Order.{drop}
use Rattle.rounding.specs.Apart.{apart}
use Rattle.rounding.proofs.ApartLaws.{apart_mul}
use Rattle.rounding.specs.Grid.{Rule}
use Rattle.rounding.proofs.Digits.{pow_half, enough_digits, drop_lower, drop_upper, drop_at, drop_finer}
use Rattle.rounding.specs.Unit.{rn}
use Rattle.rounding.proofs.UnitLaws.{rn_half, rn_near}
use Rattle.rounding.proofs.RoundLaws.{minus_add, minus_shift, minus_zero, zero_minus}
use Rattle.rounding.specs.Fraction.{Fraction, over, power, signed_as, times, distance, RN, Same, Below, AtMost, Positive}
use Rattle.rounding.proofs.FractionLaws.{InUnits, over_in_units, power_in_units, units_finer, RN_in_units_fraction, times_in_units, distance_in_units, units_same, units_at_most, at_most_units, units_below}
use Rattle.rounding.specs.Ulp.{InBinade, binade_of, ulp, WithinThreeHalves}

minus_plus : (a b j : ℕ) → minus (a + j) b ≡ minus a b +ℤ pos j
minus_plus a b j = sym (minus_shift (a + j) b j) ∙ ap (λ (z : ℤ). z +ℤ pos j) (minus_add a b j)

module _ (v : Fraction) (p : Positive v) where
  -- v in the unit 2 ^ - t
  v_in_units : (t : ℕ) → InUnits (2 ^ t * v.den) false (v.num * 2 ^ t) v
  v_in_units t = record { unit = mul-pos (pow_pos t) p.some; some = p.some; sign = p.sign; count = omega arith }

  -- it has n digits there, if t is n more than the digits of its denominator
  digits : (n : ℕ) → 2 ^ n * v.den ≤ 2 * (v.num * 2 ^ (n + size v.den))
  digits n = enough_digits n v.num v.den (n + size v.den) p.above (omega arith)

  -- ---- its binade
  pub in_binade : InBinade (binade_of v) v
  unfolding binade_of
  in_binade =
      let t = 1 + size v.den in
      let N = v.num * 2 ^ t in
      let a = drop 1 N v.den in
      let e = minus a t in
      let w = ap (λ (z : ℕ). z * (v.den * 2 ^ t)) (pow-add 2 1 a) in
      record {
        from = units_at_most (2 ^ t) (2 ^ t * v.den) (2 ^ a) N (power e) v (power_in_units a t) (v_in_units t) (omega (arith, w, mul-le-mul_right (2 ^ t) (drop_lower 1 N v.den p.some (omega arith) (digits 1))));
        to = units_below (2 ^ t * v.den) (2 ^ 0 * 2 ^ t) N (2 * 2 ^ a) v (times (over 2 0) (power e)) (v_in_units t) (times_in_units (2 ^ 0) (2 ^ t) 2 (2 ^ a) false (over 2 0) (power e) (over_in_units 2 0) (power_in_units a t)) (omega (arith, w, mul-lt-mul_of_pos_right (drop_upper 1 N v.den p.some) (pow_pos t)));
      }

  -- in any unit 2 ^ - t in which it is N / d and not below 1
  binade_at : (t N d : ℕ) → 0 < d → v.num * 2 ^ t * d ≡ N * v.den → d ≤ N → binade_of v ≡ minus (drop 1 N d) t
  unfolding binade_of
  binade_at t N d D h l =
      let s = 1 + size v.den in
      let M = v.num * 2 ^ s in
      let x = drop_finer 1 M v.den (N * 2 ^ s) d t (omega arith) p.some D (omega (arith, ap (λ (z : ℕ). z * 2 ^ s) h)) (digits 1) in
      let y = drop_finer 1 N d (N * 2 ^ s) d s (omega arith) D D refl (omega arith) in
      sym (minus_add (drop 1 M v.den) s t) ∙ ap₂ minus (sym x ∙ y) (omega arith) ∙ minus_add (drop 1 N d) t s

  -- 2 ^ i / 2 ^ s ≤ v < 2 * 2 ^ i / 2 ^ s
  within : (i s : ℕ) → 2 ^ i * v.den ≤ v.num * 2 ^ s → v.num * 2 ^ s < 2 * 2 ^ i * v.den → binade_of v ≡ minus i s
  within i s lo hi =
      let N = v.num * 2 ^ s in
      let w = ap (λ (z : ℕ). z * v.den) (pow-add 2 1 i) in
      binade_at s N v.den p.some refl (omega (arith, lo, mul-le-mul_right v.den (pow_pos i)))
      ∙ ap (λ (z : ℕ). minus z s) (drop_at 1 N v.den p.some i (omega arith) (omega (arith, w)) (omega (arith, w)))

  -- it is in no other
  pub binade_only : (e : ℤ) → InBinade e v → binade_of v ≡ e
  binade_only (pos m) b = within m 0 b.from (omega (arith, b.to)) ∙ minus_zero m
  binade_only (negsuc m) b = within 0 (suc m) b.from (omega (arith, b.to)) ∙ zero_minus (suc m)

  -- ---- its ulp: 2 ^ (e - n + 1) on all of the binade from 2 ^ e to below 2 ^ (e + 1), e of either sign
  pub ulp_is : (n : ℕ) (e : ℤ) → InBinade e v → ulp n v ≡ power (e -ℤ pos (n - 1))
  unfolding ulp
  ulp_is n e b = ap (λ (z : ℤ). power (z -ℤ pos (n - 1))) (binade_only e b)

-- an error in ulps is that of the sizes: of two fractions of one sign it is so with every sign
error_signed : (n : ℕ) (s : Bool) (x v u : Fraction) → x.minus ≡ v.minus → Below (distance x v) (times u (ulp n v)) → Below (distance (signed_as s x) (signed_as s v)) (times u (ulp n (signed_as s v)))
unfolding ulp
error_signed n s x v u e h = turned v.minus s (subst (λ (m : Bool). Below (distance (signed_as m x) v) (times u (ulp n v))) e h)
  where
    turned : (m s : Bool) → Below (distance (signed_as m x) (signed_as m v)) (times u (ulp n (signed_as m v))) → Below (distance (signed_as s x) (signed_as s v)) (times u (ulp n (signed_as s v)))
    turned true true h = h
    turned true false h = h
    turned false true h = h
    turned false false h = h

-- so is the bound of 3/2 ulp with a sign put on both, t being another way of writing it
pub within_signed : (n : ℕ) (s t : Bool) → t ≡ s → (x v : Fraction) → x.minus ≡ v.minus → WithinThreeHalves n x v → WithinThreeHalves n (signed_as s x) (signed_as t v)
within_signed n s t same x v e h = subst (λ (m : Bool). WithinThreeHalves n (signed_as s x) (signed_as m v)) (sym same) (error_signed n s x v (over 3 1) e h)

module _ (n : ℕ) (P : 0 < n) where
  -- in every unit in which v has n digits it is the step of RN
  pub ulp_in_units : (v : Fraction) → Positive v → (t d N : ℕ) → 0 < d → 2 ^ n * d ≤ 2 * N → InUnits (2 ^ t * d) false N v → InUnits (2 ^ t) false (2 ^ drop n N d) (ulp n v)
  unfolding ulp
  ulp_in_units v p t d N D fine c =
      let k = drop n N d in
      let w : 2 ^ (1 + (k + (n - 1))) * d ≡ 2 ^ (n + k) * d = ap (λ (z : ℕ). 2 ^ z * d) (omega arith) in
      let j : drop 1 N d ≡ k + (n - 1) = drop_at 1 N d D (k + (n - 1)) (omega arith) (omega (arith, w, drop_lower n N d D P fine)) (omega (arith, w, drop_upper n N d D)) in
      let l : d ≤ N = omega (arith, ap (λ (z : ℕ). z * d) (pow_half n P), mul-le-mul_right d (pow_pos (n - 1))) in
      let e : binade_of v ≡ minus k t +ℤ pos (n - 1) = binade_at v p t N d D (mul_assoc v.num (2 ^ t) d ∙ c.count) l ∙ ap (λ (z : ℕ). minus z t) j ∙ minus_plus k t (n - 1) in
      subst (λ (z : ℤ). InUnits (2 ^ t) false (2 ^ k) (power z)) (sym (ap (λ (z : ℤ). z -ℤ pos (n - 1)) e ∙ +ℤ-neg_ℤ_cancel (minus k t) (pos (n - 1)))) (power_in_units k t)

  scaled : (v : Fraction) → Positive v → (i s : ℕ) → Same (ulp n (times (over (2 ^ i) s) v)) (times (over (2 ^ i) s) (ulp n v))
  scaled v p i s =
      let w = times (over (2 ^ i) s) v in
      let d = v.den in
      let t = n + size d in
      let N = v.num * 2 ^ t in
      let k = drop n N d in
      let fine = digits v p n in
      let q : Positive w = record { sign = ap (unlike false) p.sign; above = mul-pos (pow_pos i) p.above; some = mul-pos (pow_pos s) p.some } in
      let m : InUnits (2 ^ (s + t) * d) false (N * 2 ^ i) w =
      record { unit = mul-pos (pow_pos (s + t)) p.some; some = q.some; sign = q.sign; count = omega (arith, ap (λ (z : ℕ). 2 ^ i * v.num * z * d) (pow-add 2 s t)) } in
      let e : 2 ^ drop n (N * 2 ^ i) d ≡ 2 ^ i * 2 ^ k = ap (λ (z : ℕ). 2 ^ z) (drop_finer n N d (N * 2 ^ i) d i P p.some p.some refl fine ∙ omega arith) ∙ pow-add 2 i k in
      let c = ulp_in_units w q (s + t) d (N * 2 ^ i) p.some (omega (arith, fine, mul-le-mul_left N (pow_pos i))) m in
      units_same (2 ^ s * 2 ^ t) false (2 ^ i * 2 ^ k) (ulp n w) (times (over (2 ^ i) s) (ulp n v)) (rw (pow-add 2 s t, e) at c)
      (times_in_units (2 ^ s) (2 ^ t) (2 ^ i) (2 ^ k) false (over (2 ^ i) s) (ulp n v) (over_in_units (2 ^ i) s) (ulp_in_units v p t d N p.some fine (v_in_units v p t)))

  -- ulp(2 ^ j * v) = 2 ^ j * ulp(v)
  pub ulp_scale : (v : Fraction) → Positive v → (j : ℤ) → Same (ulp n (times (power j) v)) (times (power j) (ulp n v))
  ulp_scale v p (pos m) = scaled v p m 0
  ulp_scale v p (negsuc m) = scaled v p 0 (suc m)

module _ (rule : Rule) (n : ℕ) (P : 0 < n) (v : Fraction) (p : Positive v) where
  -- |RN(v) - v| ≤ ulp(v) / 2; in whole numbers of a unit it is `rn_half`
  pub ulp_half : AtMost (distance (RN rule n v) v) (times (over 1 1) (ulp n v))
  ulp_half =
      let d = v.den in
      let t = n + size d in
      let N = v.num * 2 ^ t in
      let r = rn rule n N d in
      let fine = digits v p n in
      let c = v_in_units v p t in
      let R = units_finer (2 ^ t) d p.some false r (RN rule n v) (RN_in_units_fraction rule n P t d false N v p.some fine c) in
      units_at_most (2 ^ t * d) (2 ^ 1 * 2 ^ t) (apart (r * d) N) (1 * 2 ^ drop n N d) (distance (RN rule n v) v) (times (over 1 1) (ulp n v))
      (distance_in_units (2 ^ t * d) (r * d) N (RN rule n v) v R c)
      (times_in_units (2 ^ 1) (2 ^ t) 1 (2 ^ drop n N d) false (over 1 1) (ulp n v) (over_in_units 1 1) (ulp_in_units n P v p t d N p.some fine c))
      (omega (arith, mul-le-mul_right (2 ^ t) (rn_half rule n P N d p.some)))

  -- where |w - v| ≤ v / 2 ^ n, |RN(w) - v| < 3/2 ulp(v), also where w and v lie in two binades; in whole numbers of a unit it is `rn_near`
  pub ulp_near : (w : Fraction) → Positive w → AtMost (distance w v) (times (over 1 n) v) → WithinThreeHalves n (RN rule n w) v
  ulp_near w q h =
      let e = v.den in
      let d = e * w.den in
      let t = suc n + size e in
      let N = v.num * 2 ^ t in
      let A = N * w.den in
      let B = w.num * 2 ^ t * e in
      let k = drop n N e in
      let D : 0 < d = mul-pos p.some q.some in
      let T : 0 < 2 ^ t * d = mul-pos (pow_pos t) D in
      let a : InUnits (2 ^ t * d) false A v = record { unit = T; some = p.some; sign = p.sign; count = omega arith } in
      let b : InUnits (2 ^ t * d) false B w = record { unit = T; some = q.some; sign = q.sign; count = omega arith } in
      let near : apart B A * 2 ^ n ≤ A =
      le_of_mul-le-mul_right {k = 2 ^ t * d} (omega (arith, at_most_units (2 ^ t * d) (2 ^ n * (2 ^ t * d)) (apart B A) (1 * A) (distance w v) (times (over 1 n) v) (distance_in_units (2 ^ t * d) B A w v b a) (times_in_units (2 ^ n) (2 ^ t * d) 1 A false (over 1 n) v (over_in_units 1 n) a) h)) T in
      let from : 2 ^ n * e ≤ N = omega (arith, digits v p (suc n), ap (λ (z : ℕ). z * e) (pow-succ' 2 n)) in
      let two : 2 ≤ 2 ^ n = omega (arith, pow_half n P, pow_pos (n - 1)) in
      let half : A ≤ 2 * B = le_of_mul-le-mul_right {k = 2 ^ n} (omega (arith, near, apart_mul B A (2 ^ n), mul-le-mul_left A two)) (pow_pos n) in
      let enough : 2 ^ n * d ≤ 2 * B = omega (arith, half, mul-le-mul_right w.den from) in
      let r = rn rule n B d in
      let c = v_in_units v p t in
      let R = units_finer (2 ^ t) e p.some false r (RN rule n w) (RN_in_units_fraction rule n P t d false B w D enough b) in
      let x = rn_near rule n P A B d k D (omega (arith, mul-lt-mul_of_pos_right (drop_upper n N e p.some) q.some)) near in
      let y : 2 * apart (r * e) N < 3 * 2 ^ k * e = lt_of_mul-lt-mul_right w.den (omega (arith, x, apart_mul (r * e) N w.den)) in
      units_below (2 ^ t * e) (2 ^ 1 * 2 ^ t) (apart (r * e) N) (3 * 2 ^ k) (distance (RN rule n w) v) (times (over 3 1) (ulp n v))
      (distance_in_units (2 ^ t * e) (r * e) N (RN rule n w) v R c)
      (times_in_units (2 ^ 1) (2 ^ t) 3 (2 ^ k) false (over 3 1) (ulp n v) (over_in_units 3 1) (ulp_in_units n P v p t e N p.some (omega (arith, from)) c))
      (omega (arith, mul-lt-mul_of_pos_right y (pow_pos t)))
