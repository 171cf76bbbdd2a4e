-- Every significand that is no suspect is right: no midpoint lies near L * x, so the fused sum and C * x round alike. Assumes nothing.
use Rattle.std.specs.Prelude.{◌≡◌, Bool, cond, ℕ, suc, ◌+◌, ◌-◌, ◌*◌, ◌^◌, ◌≤◌, ◌<◌}
use Rattle.std.proofs.Math.Path.{sym}
use Rattle.std.proofs.Common.{ap, mul-le-mul_right, mul-le-mul_left, mul-le-mul, le_trans, le_of_eq, le_of_lt, arith, pow-add, pow_mono, lt-ltb, le-ltb}
use Rattle.std.proofs.Math.Nat.{lt_of_not-le, pow-succ'}
use Rattle.std.proofs.Math.Decide.{ℕ_discrete, dec_le, dec_lt}
use Rattle.std.proofs.Math.Pow.{pow_pos}
use Rattle.rounding.proofs.Digits.{pow_half}
use Rattle.rounding.specs.Unit.{rn}
use Rattle.rounding.proofs.UnitLaws.{rn_constant}
use Rattle.factor.specs.Context.{Context, Fine}
use Rattle.factor.specs.Parts.{parts_at}
use Rattle.factor.specs.UnitParts.{UnitParts, unit_parts}
use Rattle.factor.specs.Ends.{End}
use Rattle.factor.proofs.PartsLaws.{top_is}
use Rattle.factor.proofs.Accepted.{spread}
use Rattle.product.specs.Units.{fused_units, second_units}
use Rattle.product.proofs.ProductLaws.{fused_least}
use Rattle.product.proofs.Near.{near_lower}
use Rattle.suspects.specs.Suspects.{half_step, midpoint, Suspect}

-- ---- which of RN's midpoints can lie near L * X. The binades meet at 2 ^ (E + n)
module _ (K : Context) (ok : Fine K) (L X : ℕ) (top : L < 2 ^ suc K.E) (xe : X < 2 ^ K.n) where
  open K use {rule, n, E}
  open ok use {some as P, room as F}

  abbrev W : ℕ
  W = 2 ^ (E - n)

  abbrev T : ℕ
  T = 2 ^ n * 2 ^ E

  width : 2 * W ≤ 2 ^ E
  width = omega (arith, top_is K ok, mul-le-mul_right W (pow_mono {i = 1} {j = n} P))

  high_end : L * X ≤ 2 * T
  high_end = omega (arith, mul-le-mul (le_of_lt top) (le_of_lt xe), ap (λ (z : ℕ). z * 2 ^ n) (pow-succ' 2 E))

  -- those of finer steps lie below 1, those of coarser steps above all
  too_low : (j k : ℕ) → k < E → j < 2 ^ n → (2 * j + 1) * 2 ^ k < T
  too_low j k h hi =
      let e : 2 * 2 ^ k ≤ 2 ^ E = le_trans (le_of_eq (sym (pow-succ' 2 k))) (pow_mono {i = suc k} {j = E} h) in
      omega (arith, mul-le-mul_right (2 ^ k) hi, mul-le-mul_left (2 ^ n) e, pow_pos k)

  too_high : (j k : ℕ) → suc E < k → 2 ^ (n - 1) ≤ j → 4 * T + 4 * 2 ^ E ≤ (2 * j + 1) * 2 ^ k
  too_high j k h lo =
      let e : 4 * 2 ^ E ≤ 2 ^ k = le_trans (le_of_eq (sym (pow-add 2 2 E))) (pow_mono {i = 2 + E} {j = k} (omega arith)) in
      let m : 2 ^ n + 1 ≤ 2 * j + 1 = omega (arith, pow_half n P) in
      omega (arith, mul-le-mul m e)

  -- the last of the lower binade, and the first of the upper one, are far from where they meet
  at_low : (j : ℕ) → j < 2 ^ n → (2 * j + 1) * 2 ^ E + 2 ^ E ≤ 2 * T
  at_low j hi = omega (arith, mul-le-mul_right (2 ^ E) hi)

  at_high : (j : ℕ) → 2 ^ (n - 1) ≤ j → 2 * T + 2 * 2 ^ E ≤ (2 * j + 1) * 2 ^ suc E
  at_high j lo = omega (arith, mul-le-mul_right (2 * 2 ^ E) lo, ap (λ (z : ℕ). z * 2 ^ E) (pow_half n P), ap (λ (z : ℕ). (2 * j + 1) * z) (pow-succ' 2 E))

  half_low : L * X < 2 ^ (E + n) → half_step K L X ≡ 2 ^ (E - 1)
  half_low l = ap (λ (b : Bool). cond b (2 ^ (E - 1)) (2 ^ E)) (lt-ltb (L * X) (2 ^ (E + n)) l)

  half_high : 2 ^ (E + n) ≤ L * X → half_step K L X ≡ 2 ^ E
  half_high l = ap (λ (b : Bool). cond b (2 ^ (E - 1)) (2 ^ E)) (le-ltb (L * X) (2 ^ (E + n)) l)

  module _ (U : ℕ) (spread : (U - L) * 2 ^ n ≤ W) (clear : ¬ Suspect K L U X) where
    abbrev D : ℕ
    D = (U - L) * 2 ^ n

    not_at : (h : ℕ) → half_step K L X ≡ h → (q : ℕ) → L * X < (2 * q + 1) * h + W → (2 * q + 1) * h < L * X + W + D → ⊥
    unfolding Suspect midpoint
    not_at h e q x y = clear (q, rw e x, rw e y)

    -- two numbers near L * X and not below 1
    module _ (a b : ℕ) (ab : a ≤ b) (one : T ≤ 2 * a) (lo : L * X < a + W) (hi : b < L * X + W + D) where
      none : (j k : ℕ) → 2 ^ (n - 1) ≤ j → j < 2 ^ n → 2 * a ≤ (2 * j + 1) * 2 ^ k * 1 → (2 * j + 1) * 2 ^ k * 1 ≤ 2 * b → ⊥
      none j k p q x y = go (dec_lt k E) (dec_lt (suc E) k) (ℕ_discrete E k) (dec_lt (L * X) (2 ^ (E + n)))
        where
          -- the midpoint by its step, and that of a suspect by its half step
          s : (e : ℕ) → e ≡ k → (2 * j + 1) * 2 ^ e ≡ (2 * j + 1) * 2 ^ k
          s e = ap (λ (z : ℕ). (2 * j + 1) * 2 ^ z)

          t : (z h : ℕ) → z ≡ 2 * h → (2 * j + 1) * z ≡ (2 * j + 1) * (2 * h)
          t z h = ap (λ (z : ℕ). (2 * j + 1) * z)

          go : Dec (k < E) → Dec (suc E < k) → Dec (E ≡ k) → Dec (L * X < 2 ^ (E + n)) → ⊥
          go (yes a) b e l = omega (arith, too_low j k a q)
          go (no a) (yes b) e l = omega (arith, width, too_high j k b p, high_end)
          go (no a) (no b) (yes e) (yes l) =
              let v = t (2 ^ E) (2 ^ (E - 1)) (pow_half E (omega arith)) in
              not_at (2 ^ (E - 1)) (half_low l) j (omega (arith, x, s E e, v, lo)) (omega (arith, y, s E e, v, hi))
          go (no a) (no b) (yes e) (no l) = omega (arith, width, lt_of_not-le l, pow-add 2 E n, at_low j q, s E e)
          go (no a) (no b) (no e) (yes l) = omega (arith, width, l, pow-add 2 E n, at_high j p, s (suc E) (omega arith))
          go (no a) (no b) (no e) (no l) =
              let u = s (suc E) (omega arith) in
              let v = t (2 ^ suc E) (2 ^ E) (pow-succ' 2 E) in
              not_at (2 ^ E) (half_high (omega (arith, lt_of_not-le l))) j (omega (arith, x, u, v, lo)) (omega (arith, y, u, v, hi))

      pub alike : rn rule n a 1 ≡ rn rule n b 1
      alike = rn_constant rule n P a b 1 (omega arith) (omega (arith, one, mul-le-mul_left (2 ^ n) (pow_pos E))) ab none

-- ---- ends with the same parts
module _ (K : Context) (ok : Fine K) (L U : ℕ) (le : End K L) (ue : End K U) (lu : L ≤ U) (same : parts_at K L ≡ parts_at K U) where
  open K use {rule, n, E}
  open ok use {some as P, room as F}

  abbrev w : UnitParts
  w = unit_parts K L

  module _ (X : ℕ) (x1 : 2 ^ (n - 1) ≤ X) (xe : X < 2 ^ n) (clear : ¬ Suspect K L U X) where
    abbrev y : ℕ
    y = fused_units K w X

    one : (a : ℕ) → 2 ^ E * X ≤ a → 2 ^ n * 2 ^ E ≤ 2 * a
    one a h = omega (arith, mul-le-mul_left (2 ^ E) x1, ap (λ (z : ℕ). 2 ^ E * z) (pow_half n P))

    far : U * X ≤ L * X + (U - L) * 2 ^ n
    far = let e : U ≡ L + (U - L) = omega arith in omega (arith, ap (λ (z : ℕ). z * X) e, mul-le-mul_left (U - L) (le_of_lt xe))

    abbrev pair : (a b : ℕ) → a ≤ b → 2 ^ E * X ≤ a → L * X < a + 2 ^ (E - n) → b < L * X + 2 ^ (E - n) + (U - L) * 2 ^ n → rn rule n a 1 ≡ rn rule n b 1
    pair a b ab o = alike K ok L X le.to xe U (spread K ok L U le ue same) clear a b ab (one a o)

    -- RN(L * x) is RN(U * x)
    pub ends_alike : rn rule n (L * X) 1 ≡ rn rule n (U * X) 1
    ends_alike = pair (L * X) (U * X) (mul-le-mul_right X lu) (mul-le-mul_right X le.from) (omega (arith, pow_pos (E - n))) (omega (arith, far, pow_pos (E - n)))

    -- and the product
    pub product_alike : rn rule n (L * X) 1 ≡ second_units K w X
    unfolding second_units
    product_alike = go (dec_le (L * X) y)
      where
        go : Dec (L * X ≤ y) → rn rule n (L * X) 1 ≡ rn rule n y 1
        go (yes h) = pair (L * X) y h (mul-le-mul_right X le.from) (omega (arith, pow_pos (E - n))) (omega (arith, (near_lower K ok L U le ue same X xe).0))
        go (no h) = sym (pair y (L * X) (omega (arith, lt_of_not-le h)) (fused_least K ok L le X xe) (near_lower K ok L U le ue same X xe).1 (omega (arith, pow_pos (E - n))))
