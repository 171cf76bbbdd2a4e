-- Laws of rounding to n bits in a unit, for every precision, tie rule and denominator: monotone, fixed on what has n bits, within half a step,
-- scaled by powers of two, and constant where none of its midpoints lies. Assumes nothing.
use Rattle.std.specs.Prelude.{◌≡◌, refl}
use Rattle.std.proofs.Common.{sym, ◌∙◌, subst, le_antisymm, lt_of_not-le, mul_assoc, mul-pos, eq-or-lt_of_le, le_of_mul-le-mul_right, le_of_suc-le-suc, lt_of_mul-lt-mul_right, mul-one, pow-add, pow_mono}
use Rattle.std.proofs.Math.Path.{ap}
use Rattle.std.proofs.Math.Logic.{inl, inr}
use Prim.Native.Nat.{ℕ, zero, suc, ◌+◌, ◌-◌, ◌*◌, ◌^◌, ◌≤◌, ◌<◌}
use Rattle.std.proofs.Math.Nat.{mul-le-mul_right, le_trans, le_of_eq, eq_of_mul-eq-mul_right, mul-lt-mul_of_pos_right, pow-succ'}
use Rattle.std.proofs.Math.Decide.{dec_le, dec_lt}
use native.Mathlib.Omega.{arith}
use Rattle.std.proofs.Math.Pow.{pow_pos}
use Rattle.std.specs.Float.Ieee.Order.{drop}
use Rattle.rounding.specs.Apart.{apart}
use Rattle.rounding.specs.Grid.{Rule, nearest}
use Rattle.rounding.proofs.GridLaws.{nearest_is, nearest_mono, nearest_same, nearest_exact, nearest_le, nearest_ge, nearest_below}
use Rattle.rounding.specs.Unit.{kept, rn}
use Rattle.rounding.proofs.Digits.{pow_half, drop_upper, drop_le, drop_some, drop_lower, drop_at, drop_finer}

step_pos : (d k : ℕ) → 0 < d → 0 < d * 2 ^ k
step_pos d k D = mul-pos D (pow_pos k)

-- The rounded value by its significand of n bits, the carry being the next binade's first; the fraction is not above the midpoint that follows.
pub record Normal (rule : Rule) (n N d : ℕ) : Type 0 where
  pub sig : ℕ
  pub exp : ℕ
  pub value : rn rule n N d ≡ sig * 2 ^ exp
  pub least : 2 ^ (n - 1) ≤ sig
  pub most : sig < 2 ^ n
  pub under : 2 * N ≤ (2 * sig + 1) * 2 ^ exp * d

module _ (rule : Rule) (n : ℕ) (P : 0 < n) where
  -- ---- what is kept
  pub kept_le : (N d : ℕ) → 0 < d → kept rule n N d ≤ 2 ^ n
  unfolding kept
  kept_le N d D =
      let k = drop n N d in
      nearest_le rule N (d * 2 ^ k) (2 ^ n) (step_pos d k D) (omega (arith, drop_upper n N d D, ap (λ (z : ℕ). z * d) (pow-add 2 n k)))

  pub kept_ge : (N d : ℕ) → 0 < d → 2 ^ n * d ≤ 2 * N → 2 ^ (n - 1) ≤ kept rule n N d
  unfolding kept
  kept_ge N d D h =
      let k = drop n N d in
      nearest_ge rule N (d * 2 ^ k) (2 ^ (n - 1)) (step_pos d k D)
      (omega (arith, drop_lower n N d D P h, ap (λ (z : ℕ). z * d) (pow-add 2 n k), ap (λ (z : ℕ). z * (d * 2 ^ k)) (pow_half n P)))

  -- ---- in a binade
  pub rn_in_binade : (N d k : ℕ) → drop n N d ≡ k → rn rule n N d ≡ nearest rule N (d * 2 ^ k) * 2 ^ k
  unfolding rn kept
  rn_in_binade N d k e = ap (λ (z : ℕ). nearest rule N (d * 2 ^ z) * 2 ^ z) e

  normal_of_drop : (N d : ℕ) → 0 < d → 0 < drop n N d → 2 ^ n * d ≤ 2 * N
  normal_of_drop N d D h = le_trans (mul-le-mul_right d (pow_mono {i = n} {j = n + drop n N d} (omega arith))) (drop_some n N d D P h)

  -- ---- monotone
  pub rn_mono : (N d M e : ℕ) → 0 < d → 0 < e → N * e ≤ M * d → rn rule n N d ≤ rn rule n M e
  unfolding rn
  rn_mono N d M e D Q h =
      let i = drop n N d in
      let j = drop n M e in
      elim (eq-or-lt_of_le (drop_le n N d D j (lt_of_mul-lt-mul_right e (omega (arith, mul-lt-mul_of_pos_right (drop_upper n M e Q) D))))) [
        | inl s ↦
            rw (rn_in_binade N d j s, rn_in_binade M e j refl)
            (mul-le-mul_right (2 ^ j) (nearest_mono rule N (d * 2 ^ j) M (e * 2 ^ j) (step_pos d j D) (step_pos e j Q) (omega (arith, mul-le-mul_right (2 ^ j) h))))
        | inr l ↦
            -- a power of two lies between
            let x = mul-le-mul_right (2 ^ i) (kept_le N d D) in
            let y = mul-le-mul_right (2 ^ j) (kept_ge M e Q (normal_of_drop M e Q (omega arith))) in
            let z : 2 ^ n * 2 ^ i ≤ 2 ^ (n - 1) * 2 ^ j = le_trans (le_of_eq (sym (pow-add 2 n i))) (le_trans (pow_mono {i = n + i} {j = n - 1 + j} (omega arith)) (le_of_eq (pow-add 2 (n - 1) j))) in
            le_trans x (le_trans z y)
      ]

  pub rn_same : (N d M e : ℕ) → 0 < d → 0 < e → N * e ≡ M * d → rn rule n N d ≡ rn rule n M e
  rn_same N d M e D Q h = le_antisymm (rn_mono N d M e D Q (le_of_eq h)) (rn_mono M e N d Q D (le_of_eq (sym h)))

  -- ---- what has n bits is itself, the carry 2 ^ n included
  rn_fixed_lt : (q k d : ℕ) → 0 < d → q < 2 ^ n → rn rule n (q * 2 ^ k * d) d ≡ q * 2 ^ k
  rn_fixed_lt q k d D h =
      let N = q * 2 ^ k * d in
      let j = drop n N d in
      let l : j ≤ k = drop_le n N d D k (omega (arith, mul-lt-mul_of_pos_right h (step_pos d k D), ap (λ (z : ℕ). z * d) (pow-add 2 n k))) in
      let e : 2 ^ k ≡ 2 ^ (k - j) * 2 ^ j = ap (λ (z : ℕ). 2 ^ z) (omega arith) ∙ pow-add 2 (k - j) j in
      rn_in_binade N d j refl
      ∙ ap (λ (z : ℕ). nearest rule z (d * 2 ^ j) * 2 ^ j) (omega (arith, ap (λ (z : ℕ). q * z * d) e))
      ∙ ap (λ (z : ℕ). z * 2 ^ j) (nearest_exact rule (q * 2 ^ (k - j)) (d * 2 ^ j) (step_pos d j D))
      ∙ omega (arith, ap (λ (z : ℕ). q * z) e)

  pub rn_fixed : (q k d : ℕ) → 0 < d → q ≤ 2 ^ n → rn rule n (q * 2 ^ k * d) d ≡ q * 2 ^ k
  rn_fixed q k d D h = elim (eq-or-lt_of_le h) [
    | inl e ↦
        let t : 1 < 2 ^ n = omega (arith, pow_half n P, pow_pos (n - 1)) in
        let s : q * 2 ^ k ≡ 1 * 2 ^ (n + k) = ap (λ (z : ℕ). z * 2 ^ k) e ∙ omega (arith, pow-add 2 n k) in
        ap (λ (z : ℕ). rn rule n (z * d) d) s ∙ rn_fixed_lt 1 (n + k) d D t ∙ sym s
    | inr l ↦ rn_fixed_lt q k d D l
  ]

  -- so a bound that is such a value goes through
  pub rn_le : (N d q k : ℕ) → 0 < d → q ≤ 2 ^ n → N ≤ q * 2 ^ k * d → rn rule n N d ≤ q * 2 ^ k
  rn_le N d q k D h l = subst (λ (z : ℕ). rn rule n N d ≤ z) (rn_fixed q k d D h) (rn_mono N d (q * 2 ^ k * d) d D D (mul-le-mul_right d l))

  pub rn_ge : (N d q k : ℕ) → 0 < d → q ≤ 2 ^ n → q * 2 ^ k * d ≤ N → q * 2 ^ k ≤ rn rule n N d
  rn_ge N d q k D h l = subst (λ (z : ℕ). z ≤ rn rule n N d) (rn_fixed q k d D h) (rn_mono (q * 2 ^ k * d) d N d D D (mul-le-mul_right d l))

  -- ---- the error is at most half a step
  pub rn_half : (N d : ℕ) → 0 < d → 2 * apart (rn rule n N d * d) N ≤ 2 ^ drop n N d * d
  unfolding rn kept
  rn_half N d D =
      let k = drop n N d in
      let r = nearest_is rule N (d * 2 ^ k) (step_pos d k D) in
      omega (arith, r.low, r.high)

  -- and up to 2 ^ (n + k), that value included, at most half of 2 ^ k
  pub rn_error : (N d k : ℕ) → 0 < d → N ≤ 2 ^ (n + k) * d → (2 * (rn rule n N d * d) ≤ 2 * N + d * 2 ^ k) × (2 * N ≤ 2 * (rn rule n N d * d) + d * 2 ^ k)
  rn_error N d k D h = elim (eq-or-lt_of_le h) [
    | inl e ↦
        let s : N ≡ 2 ^ n * 2 ^ k * d = e ∙ ap (λ (z : ℕ). z * d) (pow-add 2 n k) in
        let f : rn rule n N d * d ≡ N = ap (λ (z : ℕ). rn rule n z d * d) s ∙ ap (λ (z : ℕ). z * d) (rn_fixed (2 ^ n) k d D (le_of_eq refl)) ∙ sym s in
        (omega arith, omega arith)
    | inr l ↦ let s = mul-le-mul_right d (pow_mono (drop_le n N d D k l)) in (omega (arith, rn_half N d D), omega (arith, rn_half N d D))
  ]

  -- ---- scaling by a power of two: anywhere for a whole number, and for a fraction whose unit is fine enough
  pub rn_scale : (N d t : ℕ) → 0 < d → 2 ^ n * d ≤ 2 * N → rn rule n (N * 2 ^ t) d ≡ rn rule n N d * 2 ^ t
  rn_scale N d t D h =
      let k = drop n N d in
      let e = pow-add 2 k t in
      rn_in_binade (N * 2 ^ t) d (k + t) (drop_finer n N d (N * 2 ^ t) d t P D D refl h)
      ∙ ap (λ (z : ℕ). nearest rule (N * 2 ^ t) (d * z) * z) e
      ∙ ap (λ (z : ℕ). z * (2 ^ k * 2 ^ t)) (nearest_same rule (N * 2 ^ t) (d * (2 ^ k * 2 ^ t)) N (d * 2 ^ k) (mul-pos D (mul-pos (pow_pos k) (pow_pos t))) (step_pos d k D) (omega arith))
      ∙ sym (mul_assoc (nearest rule N (d * 2 ^ k)) (2 ^ k) (2 ^ t))
      ∙ ap (λ (z : ℕ). z * 2 ^ t) (sym (rn_in_binade N d k refl))

  pub rn_whole_small : (N : ℕ) → N ≤ 2 ^ n → rn rule n N 1 ≡ N
  rn_whole_small N h = ap (λ (z : ℕ). rn rule n z 1) (omega arith) ∙ rn_fixed N 0 1 (omega arith) h ∙ mul-one N

  pub rn_scale_whole : (N t : ℕ) → rn rule n (N * 2 ^ t) 1 ≡ rn rule n N 1 * 2 ^ t
  rn_scale_whole N t = go (dec_le (2 ^ n) N)
    where
      go : Dec (2 ^ n ≤ N) → rn rule n (N * 2 ^ t) 1 ≡ rn rule n N 1 * 2 ^ t
      go (yes h) = rn_scale N 1 t (omega arith) (omega arith)
      go (no h) =
          let l : N ≤ 2 ^ n = omega (arith, lt_of_not-le h) in
          ap (λ (z : ℕ). rn rule n z 1) (omega arith) ∙ rn_fixed N t 1 (omega arith) l ∙ ap (λ (z : ℕ). z * 2 ^ t) (sym (rn_whole_small N l))

  -- a value of n bits that a finer unit gives is what the unit itself gives, also where N / d lies below 2 ^ (n - 1) and is rounded up to it
  pub rn_coarser : (N d t m : ℕ) → 0 < d → rn rule n (N * 2 ^ t) d ≡ m * 2 ^ t → 2 ^ (n - 1) ≤ m → rn rule n N d ≡ m
  rn_coarser N d t m D e lo = go (dec_le (2 ^ n * d) (2 * N))
    where
      below : (t : ℕ) → rn rule n (N * 2 ^ t) d ≡ m * 2 ^ t → 2 * N < 2 ^ n * d → rn rule n N d ≡ m
      below zero e l = ap (λ (z : ℕ). rn rule n z d) (omega arith) ∙ e ∙ omega arith
      below (suc u) e l =
          let r = rn rule n N d in
          let finer : N * 2 ^ suc u ≤ 2 ^ (n + u) * d = omega (arith, mul-lt-mul_of_pos_right l (pow_pos u), ap (λ (z : ℕ). N * z) (pow-succ' 2 u), ap (λ (z : ℕ). z * d) (pow-add 2 n u)) in
          let up : 4 * (m * d) ≤ 4 * N + d = le_of_mul-le-mul_right {k = 2 ^ u} (omega (arith, (rn_error (N * 2 ^ suc u) d u D finer).0, ap (λ (z : ℕ). z * d) e, ap (λ (z : ℕ). m * d * z) (pow-succ' 2 u), ap (λ (z : ℕ). N * z) (pow-succ' 2 u))) (pow_pos u) in
          let whole : 2 ^ (n + 0) * d ≡ 2 ^ n * d = ap (λ (z : ℕ). 2 ^ z * d) (omega arith) in
          let own = rn_error N d 0 D (omega arith) in
          let under = mul-le-mul_right d lo in
          let half = ap (λ (z : ℕ). z * d) (pow_half n P) in
          le_antisymm (le_of_suc-le-suc (lt_of_mul-lt-mul_right d {m = r} {n = suc m} (omega (arith, own)))) (le_of_suc-le-suc (lt_of_mul-lt-mul_right d {m = m} {n = suc r} (omega (arith, own))))

      go : Dec (2 ^ n * d ≤ 2 * N) → rn rule n N d ≡ m
      go (yes h) = eq_of_mul-eq-mul_right (2 ^ t) (pow_pos t) (rn rule n N d) m (sym (rn_scale N d t D h) ∙ e)
      go (no h) = below t e (lt_of_not-le h)

  -- ---- in a binade with both its ends
  pub rn_at : (N d k : ℕ) → 0 < d → 2 ^ (n + k) * d ≤ 2 * N → N ≤ 2 ^ (n + k) * d → rn rule n N d ≡ nearest rule N (d * 2 ^ k) * 2 ^ k
  rn_at N d k D l u = elim (eq-or-lt_of_le u) [
    | inl e ↦
        let s : N ≡ 2 ^ n * 2 ^ k * d = e ∙ ap (λ (z : ℕ). z * d) (pow-add 2 n k) in
        ap (λ (z : ℕ). rn rule n z d) s ∙ rn_fixed (2 ^ n) k d D (le_of_eq refl)
        ∙ ap (λ (z : ℕ). z * 2 ^ k) (sym (ap (λ (z : ℕ). nearest rule z (d * 2 ^ k)) (s ∙ omega arith) ∙ nearest_exact rule (2 ^ n) (d * 2 ^ k) (step_pos d k D)))
    | inr g ↦ rn_in_binade N d k (drop_at n N d D k P l g)
  ]

  -- ---- on one side of a midpoint. RN's midpoints are (j + 1/2) * 2 ^ k with 2 ^ (n - 1) ≤ j < 2 ^ n
  pub rn_below : (N d j k : ℕ) → 0 < d → 2 ^ (n - 1) ≤ j → j < 2 ^ n → 2 * N < (2 * j + 1) * 2 ^ k * d → rn rule n N d ≤ j * 2 ^ k
  rn_below N d j k D lo hi h = go (dec_le (2 ^ (n + k) * d) (2 * N))
    where
      go : Dec (2 ^ (n + k) * d ≤ 2 * N) → rn rule n N d ≤ j * 2 ^ k
      go (yes l) =
          let w = ap (λ (z : ℕ). z * d) (pow-add 2 n k) in
          let u : N < 2 ^ (n + k) * d = omega (arith, mul-le-mul_right (2 ^ k * d) hi) in
          rw (rn_in_binade N d k (drop_at n N d D k P l u)) (mul-le-mul_right (2 ^ k) (nearest_below rule N (d * 2 ^ k) j (step_pos d k D) (omega arith)))
      go (no l) =
          let w = ap (λ (z : ℕ). z * d) (pow-add 2 n k) in
          let v = ap (λ (z : ℕ). z * 2 ^ k * d) (pow_half n P) in
          le_trans (rn_le N d (2 ^ (n - 1)) k D (omega (arith, pow_half n P)) (omega (arith, lt_of_not-le l))) (mul-le-mul_right (2 ^ k) lo)

  -- ---- of a fraction near another: where M / d is within N / d / 2 ^ n of N / d, which is below 2 ^ (n + k), RN(M / d) is less than 3/2 of 2 ^ k from N / d.
  -- Past 2 ^ (n + k) M / d lies below the next binade's first midpoint.
  pub rn_near : (N M d k : ℕ) → 0 < d → N < 2 ^ (n + k) * d → apart M N * 2 ^ n ≤ N → 2 * apart (rn rule n M d * d) N < 3 * 2 ^ k * d
  rn_near N M d k D hi h = go (dec_le M (2 ^ (n + k) * d))
    where
      w : 2 ^ (n + k) * d ≡ 2 ^ k * d * 2 ^ n
      w = omega (arith, ap (λ (z : ℕ). z * d) (pow-add 2 n k))

      away : apart M N < 2 ^ k * d
      away = lt_of_mul-lt-mul_right (2 ^ n) (omega (arith, w))

      go : Dec (M ≤ 2 ^ (n + k) * d) → 2 * apart (rn rule n M d * d) N < 3 * 2 ^ k * d
      go (yes l) = omega (arith, rn_error M d k D l, away)
      go (no l) =
          let g : 2 ^ (n + k) * d < M = lt_of_not-le l in
          let v : 2 ^ (n - 1) * 2 ^ suc k * d ≡ 2 ^ (n + k) * d = omega (arith, w, ap (λ (z : ℕ). 2 ^ (n - 1) * z * d) (pow-succ' 2 k), ap (λ (z : ℕ). z * 2 ^ k * d) (pow_half n P)) in
          let x = rn_below M d (2 ^ (n - 1)) (suc k) D (omega arith) (omega (arith, pow_half n P, pow_pos (n - 1))) (omega (arith, away, v, ap (λ (z : ℕ). z * d) (pow-succ' 2 k))) in
          let y = rn_ge M d (2 ^ n) k D (omega arith) (omega (arith, w)) in
          omega (arith, mul-le-mul_right d x, mul-le-mul_right d y, v, w, away, mul-pos (pow_pos k) D)

  pub normal : (N d : ℕ) → 0 < d → 2 ^ n * d ≤ 2 * N → Normal rule n N d
  unfolding rn kept
  normal N d D fine =
      let k = drop n N d in
      elim (eq-or-lt_of_le (kept_le N d D)) [
        | inl e ↦
            let v : 2 ^ n * 2 ^ k ≡ 2 ^ (n - 1) * 2 ^ suc k = ap (λ (z : ℕ). z * 2 ^ k) (pow_half n P) ∙ omega (arith, ap (λ (z : ℕ). 2 ^ (n - 1) * z) (pow-succ' 2 k)) in
            let u = drop_upper n N d D in
            let w = ap (λ (z : ℕ). z * d) (pow-add 2 n k) in
            record {
              sig = 2 ^ (n - 1);
              exp = suc k;
              value = ap (λ (z : ℕ). z * 2 ^ k) e ∙ v;
              least = le_of_eq refl;
              most = omega (arith, pow_half n P, pow_pos (n - 1));
              under = omega (arith, ap (λ (z : ℕ). z * d) v);
            }
        | inr l ↦ record { sig = kept rule n N d; exp = k; value = refl; least = kept_ge N d D fine; most = l; under = let r = (nearest_is rule N (d * 2 ^ k) (step_pos d k D)).high in omega arith }
      ]

  -- ---- no midpoint between two fractions, themselves included: they round alike, also where two binades meet
  pub rn_constant : (a b d : ℕ) → 0 < d → 2 ^ n * d ≤ 2 * a → a ≤ b
      → ((j k : ℕ) → 2 ^ (n - 1) ≤ j → j < 2 ^ n → 2 * a ≤ (2 * j + 1) * 2 ^ k * d → (2 * j + 1) * 2 ^ k * d ≤ 2 * b → ⊥)
      → rn rule n a d ≡ rn rule n b d
  rn_constant a b d D fine h none = le_antisymm (rn_mono a d b d D D (mul-le-mul_right d h)) (rw r.value (go (dec_lt (2 * b) ((2 * r.sig + 1) * 2 ^ r.exp * d))))
    where
      r : Normal rule n a d
      r = normal a d D fine

      go : Dec (2 * b < (2 * r.sig + 1) * 2 ^ r.exp * d) → rn rule n b d ≤ r.sig * 2 ^ r.exp
      go (yes l) = rn_below b d r.sig r.exp D r.least r.most l
      go (no l) = absurd (none r.sig r.exp r.least r.most r.under (omega (arith, lt_of_not-le l)))
