-- Laws of RN: its significand has n bits, its value in every unit that is fine enough is that of `rn`, and it depends on the fraction alone. Assumes nothing.
use Rattle.std.specs.Prelude.{◌≡◌, Bool, pos, negsuc, neg_ℤ, ◌+ℤ◌}
use Rattle.std.proofs.Math.Path.{refl, sym, ap}
use Rattle.std.proofs.Common.{◌∙◌, subst, zero-lt-suc, le_refl, zero-add, add_comm, lt_of_not-le}
use Rattle.std.proofs.Math.Bool.{true, false, cond}
use Prim.Native.Nat.{ℕ, zero, suc, ◌+◌, ◌-◌, ◌*◌, ◌^◌, ◌≤◌, ◌<◌}
use Rattle.std.proofs.Math.Decide.{dec_le}
use Rattle.std.proofs.Math.Nat.{pos_of_ne-zero, mul-pos, mul-le-mul_right, le_of_eq, pow-succ', eq_of_mul-eq-mul_right}
use native.Mathlib.Omega.{arith}
use Rattle.std.proofs.Math.Dec.{eqb}
use Rattle.std.proofs.Math.Arith.{lt_of_le-ne}
use Rattle.std.proofs.Math.Pow.{pow-add, pow_pos}
use Rattle.std.specs.Float.Ieee.{size, minus, up, down}
use Rattle.std.specs.Float.Ieee.Digits.{minus_val}
use Rattle.std.specs.Float.Ieee.Order.{drop}
use borrow.Author.Tests.{eqb-true, eqb-false, eq-eqb, le-leb, lt-leb, le-ltb, lt-ltb}
use Rattle.rounding.specs.declared.Direction.{Direction}
use Rattle.rounding.specs.declared.Rounded.{Rounded}
use Rattle.rounding.specs.Direction.{side_of}
use Rattle.rounding.specs.Grid.{Rule, nearest, side_at}
use Rattle.rounding.proofs.GridLaws.{nearest_same, side_same}
use Rattle.rounding.proofs.Digits.{pow_half, enough_digits, drop_finer}
use Rattle.rounding.specs.Unit.{kept, rn}
use Rattle.rounding.proofs.UnitLaws.{kept_le, kept_ge, rn_scale_whole, rn_whole_small}
use Rattle.rounding.specs.Round.{normalised, stepped, rounded_in, rounded, Equals, HasBits}

-- r * 2 ^ j
abbrev pub shifted : ℕ → Rounded ℕ → Rounded ℕ
shifted j r = record { significand = r.significand; exponent = r.exponent +ℤ pos j; direction = r.direction }

-- ---- exponents
pub minus_add : (a b j : ℕ) → minus (a + j) (b + j) ≡ minus a b
minus_add a b j = go (dec_le b a)
  where
    go : Dec (b ≤ a) → minus (a + j) (b + j) ≡ minus a b
    go (yes h) = rw (le-leb b a h, le-leb (b + j) (a + j) (omega arith)) (ap pos (omega arith))
    go (no h) = let l : a < b = lt_of_not-le h in rw (lt-leb b a l, lt-leb (b + j) (a + j) (omega arith)) (ap negsuc (omega arith))

pub minus_shift : (a b j : ℕ) → minus a (b + j) +ℤ pos j ≡ minus a b
minus_shift a b j = go (dec_le (b + j) a) (dec_le b a)
  where
    go : Dec (b + j ≤ a) → Dec (b ≤ a) → minus a (b + j) +ℤ pos j ≡ minus a b
    go (yes h) (yes k) = rw (le-leb (b + j) a h, le-leb b a k) (ap pos (omega arith))
    go (yes h) (no k) = absurd (omega arith)
    go (no h) (yes k) =
        let l : a < b + j = lt_of_not-le h in
        rw (lt-leb (b + j) a l, le-leb b a k, le-ltb j (suc (b + j - suc a)) (omega arith)) (ap pos (omega arith))
    go (no h) (no k) =
        let l : a < b = lt_of_not-le k in
        rw (lt-leb (b + j) a (omega arith), lt-leb b a l, lt-ltb j (suc (b + j - suc a)) (omega arith)) (ap negsuc (omega arith))

pub minus_le : (a b : ℕ) → b ≤ a → minus a b ≡ pos (a - b)
minus_le a b h = rw (le-leb b a h)

pub minus_zero : (a : ℕ) → minus a 0 ≡ pos a
minus_zero a = minus_le a 0 (omega arith) ∙ ap pos (omega arith)

pub minus_back : (a j : ℕ) → minus a j +ℤ pos j ≡ pos a
minus_back a j = ap (λ (z : ℕ). minus a z +ℤ pos j) (sym (zero-add j)) ∙ minus_shift a 0 j ∙ minus_zero a

pub zero_minus : (a : ℕ) → minus 0 a ≡ neg_ℤ (pos a)
zero_minus zero = minus_zero 0
zero_minus (suc a) = rw (lt-leb (suc a) 0 (omega arith)) (ap negsuc (omega arith))

-- ---- one fraction in two units: N / d of the unit 2 ^ - t is M / e of the unit 2 ^ - s
module _ (rule : Rule) (n : ℕ) (P : 0 < n) where
  -- what is normalised is the carry's record, or as it was kept: a law of all exponents and units by the two cases
  by_carry : (Q : (ℕ → ℕ → Rounded ℕ) → Type 0) (k : ℕ) (d : Direction)
      → (k ≡ 2 ^ n → Q (λ (j t : ℕ). record { significand = 2 ^ (n - 1); exponent = minus (suc j) t; direction = d })) → (¬ (k ≡ 2 ^ n) → Q (λ (j t : ℕ). record { significand = k; exponent = minus j t; direction = d }))
      → Q (λ (j t : ℕ). normalised n k j t d)
  unfolding normalised
  by_carry Q k d carry as_kept = go (eqb k (2 ^ n)) refl
    where
      go : (b : Bool) → eqb k (2 ^ n) ≡ b
          → Q (λ (j t : ℕ). cond b (record { significand = 2 ^ (n - 1); exponent = minus (suc j) t; direction = d }) (record { significand = k; exponent = minus j t; direction = d }))
      go true e = carry (eqb-true k (2 ^ n) e)
      go false e = as_kept (eqb-false k (2 ^ n) e)

  step_same : (t k N u M v j : ℕ) → 0 < u → 0 < v → N * v ≡ M * u → stepped rule n t k N u ≡ stepped rule n (t + j) (k + j) M v
  unfolding stepped
  step_same t k N u M v j D Q h =
      let next : minus (suc (k + j)) (t + j) ≡ minus (suc k) t = ap (λ (z : ℕ). minus z (t + j)) (omega arith) ∙ minus_add (suc k) t j in
      rw (nearest_same rule N u M v D Q h, side_same N u M v (nearest rule M v) D Q h)
      (by_carry (λ (f : ℕ → ℕ → Rounded ℕ). f k t ≡ f (k + j) (t + j)) (nearest rule M v) (side_at M v (nearest rule M v)) (λ _. rw next) (λ _. rw (minus_add k t j)))

  finer : (t N d M e j : ℕ) → 0 < d → 0 < e → N * 2 ^ j * e ≡ M * d → 2 ^ n * d ≤ 2 * N → rounded_in rule n t N d ≡ rounded_in rule n (t + j) M e
  unfolding rounded_in
  finer t N d M e j D Q h fine =
      let k = drop n N d in
      let c : N * (e * 2 ^ (k + j)) ≡ M * (d * 2 ^ k) = omega (arith, ap (λ (z : ℕ). N * (e * z)) (pow-add 2 k j), ap (λ (z : ℕ). z * 2 ^ k) h) in
      step_same t k N (d * 2 ^ k) M (e * 2 ^ (k + j)) j (mul-pos D (pow_pos k)) (mul-pos Q (pow_pos (k + j))) c
      ∙ ap (λ (z : ℕ). stepped rule n (t + j) z M (e * 2 ^ z)) (sym (drop_finer n N d M e j P D Q h fine))

  -- rounding goes by the fraction alone: in any unit 2 ^ - t in which it is M / e with at least n digits
  pub rounded_at : (N d t M e : ℕ) → 0 < d → 0 < e → N * 2 ^ t * e ≡ M * d → 2 ^ n * e ≤ 2 * M → rounded rule n N d ≡ rounded_in rule n t M e
  unfolding rounded
  rounded_at zero d t M e D Q h fine =
      let m : M * d ≡ 0 * d = sym h ∙ omega arith in
      absurd (omega (arith, eq_of_mul-eq-mul_right d D M 0 m, mul-pos (pow_pos n) Q))
  rounded_at (suc K) d t M e D Q h fine =
      let s = n + size d in
      let A = suc K * 2 ^ s in
      finer s A d (A * 2 ^ t) d t D D refl (enough_digits n (suc K) d s (zero-lt-suc K) (le_refl s))
      ∙ ap (λ (z : ℕ). rounded_in rule n z (A * 2 ^ t) d) (add_comm s t)
      ∙ sym (finer t M e (A * 2 ^ t) d s Q D (omega (arith, ap (λ (z : ℕ). z * 2 ^ s) h)) fine)

  pub rounded_same : (N d M e : ℕ) → 0 < d → 0 < e → N * e ≡ M * d → rounded rule n N d ≡ rounded rule n M e
  unfolding rounded
  rounded_same zero d M e D Q h =
      let m : M ≡ 0 = eq_of_mul-eq-mul_right d D M 0 (sym h ∙ omega arith) in
      ap (λ (z : ℕ). rounded rule n z e) (sym m)
  rounded_same (suc K) d M e D Q h =
      let t = n + size d in
      let A = suc K * 2 ^ t in
      sym (rounded_at M e t A d Q D (omega (arith, ap (λ (z : ℕ). z * 2 ^ t) h)) (enough_digits n (suc K) d t (zero-lt-suc K) (le_refl t)))

  -- ---- its exponent, counted from the unit, and its value
  pub rounded_in_exponent : (t N d : ℕ) → (i : ℕ) × ((rounded_in rule n t N d).exponent ≡ minus i t) × ((rounded_in rule n t N d).significand * 2 ^ i ≡ rn rule n N d)
  unfolding rounded_in stepped rn kept
  rounded_in_exponent t N d =
      let j = drop n N d in
      let k = nearest rule N (d * 2 ^ j) in
      by_carry (λ (f : ℕ → ℕ → Rounded ℕ). (i : ℕ) × ((f j t).exponent ≡ minus i t) × ((f j t).significand * 2 ^ i ≡ k * 2 ^ j)) k (side_at N (d * 2 ^ j) k)
      (λ e. (suc j, refl, omega (arith, ap (λ (z : ℕ). 2 ^ (n - 1) * z) (pow-succ' 2 j), ap (λ (z : ℕ). z * 2 ^ j) e, ap (λ (z : ℕ). z * 2 ^ j) (pow_half n P))))
      (λ _. (j, refl, refl))

  -- its direction: on which side of N / d that value lies
  pub rounded_in_direction : (t N d : ℕ) → (rounded_in rule n t N d).direction ≡ side_at N d (rn rule n N d)
  unfolding rounded_in stepped rn kept
  rounded_in_direction t N d =
      let j = drop n N d in
      let k = nearest rule N (d * 2 ^ j) in
      by_carry (λ (f : ℕ → ℕ → Rounded ℕ). (f j t).direction ≡ side_at N (d * 2 ^ j) k) k (side_at N (d * 2 ^ j) k) (λ _. refl) (λ _. refl) ∙ ap (λ (z : ℕ). side_of (pos N) (pos z)) (omega arith)

  pub rounded_in_value : (t N d : ℕ) → Equals (rounded_in rule n t N d) (rn rule n N d) (2 ^ t)
  rounded_in_value t N d =
      let x = rounded_in_exponent t N d in
      rw x.1 (minus_val (rounded_in rule n t N d).significand x.0 t ∙ ap (λ (z : ℕ). z * down (minus x.0 t)) x.2)

  -- in every unit that is fine enough RN's value is that of `rn`
  pub rounded_value : (N d t M e : ℕ) → 0 < d → 0 < e → N * 2 ^ t * e ≡ M * d → 2 ^ n * e ≤ 2 * M → Equals (rounded rule n N d) (rn rule n M e) (2 ^ t)
  rounded_value N d t M e D Q h fine = subst (λ (r : Rounded ℕ). Equals r (rn rule n M e) (2 ^ t)) (sym (rounded_at N d t M e D Q h fine)) (rounded_in_value t M e)

  -- and in every unit in which the fraction is whole
  pub rounded_whole : (N d t M : ℕ) → 0 < d → N * 2 ^ t ≡ M * d → Equals (rounded rule n N d) (rn rule n M 1) (2 ^ t)
  unfolding rounded
  rounded_whole zero d t M D h =
      let m : M ≡ 0 = eq_of_mul-eq-mul_right d D M 0 (sym h ∙ omega arith) in
      let z : rn rule n M 1 ≡ 0 = ap (λ (x : ℕ). rn rule n x 1) m ∙ rn_whole_small rule n P 0 (omega arith) in
      omega (arith, z)
  rounded_whole (suc K) d t M D h =
      let r = rounded rule n (suc K) d in
      let m : 0 < M = pos_of_ne-zero (λ (z : M ≡ 0). omega (arith, ap (λ (x : ℕ). x * d) z, mul-le-mul_right (2 ^ t) (zero-lt-suc K), pow_pos t)) in
      let w : 2 ^ (t + n) ≡ 2 ^ t * 2 ^ n = pow-add 2 t n in
      let v : Equals r (rn rule n (M * 2 ^ n) 1) (2 ^ (t + n)) =
      rounded_value (suc K) d (t + n) (M * 2 ^ n) 1 D (omega arith) (omega (arith, ap (λ (z : ℕ). suc K * z) w, ap (λ (z : ℕ). z * 2 ^ n) h)) (omega (arith, mul-le-mul_right (2 ^ n) m)) in
      let a = r.significand * up r.exponent in
      let c = down r.exponent in
      eq_of_mul-eq-mul_right (2 ^ n) (pow_pos n) (a * 2 ^ t) (rn rule n M 1 * c)
      (omega (arith, v, ap (λ (z : ℕ). a * z) w, ap (λ (z : ℕ). z * c) (rn_scale_whole rule n P M n)))

  -- ---- n bits
  pub rounded_bits : (N d : ℕ) → 0 < N → 0 < d → HasBits n (rounded rule n N d).significand
  unfolding rounded rounded_in stepped kept
  rounded_bits zero d m D = absurd (omega arith)
  rounded_bits (suc K) d m D =
      let s = n + size d in
      let A = suc K * 2 ^ s in
      let j = drop n A d in
      by_carry (λ (f : ℕ → ℕ → Rounded ℕ). HasBits n (f j s).significand) (kept rule n A d) (side_at A (d * 2 ^ j) (kept rule n A d))
      (λ _. record { least = le_of_eq refl; most = omega (arith, pow_half n P, pow_pos (n - 1)) })
      (λ e. record { least = kept_ge rule n P A d D (enough_digits n (suc K) d s m (le_refl s)); most = lt_of_le-ne (kept_le rule n P A d D) e })

  -- ---- the carry: what is kept may be 2 ^ n, which is the next binade's first
  pub rounded_carry : (t N d : ℕ) → kept rule n N d ≡ 2 ^ n → ((rounded_in rule n t N d).significand ≡ 2 ^ (n - 1)) × ((rounded_in rule n t N d).exponent ≡ minus (suc (drop n N d)) t)
  unfolding rounded_in stepped normalised kept
  rounded_carry t N d e = let h = eq-eqb (kept rule n N d) (2 ^ n) e in (rw h, rw h)

  -- ---- scaling by a power of two moves the exponent alone
  pub rounded_scale : (N d j : ℕ) → 0 < N → 0 < d → rounded rule n (N * 2 ^ j) d ≡ shifted j (rounded rule n N d)
  unfolding rounded_in stepped
  rounded_scale N d j M D =
      let t = n + size d in
      let A = N * 2 ^ (t + j) in
      let i = drop n A d in
      let fine = enough_digits n N d (t + j) M (omega arith) in
      rounded_at (N * 2 ^ j) d t A d D D (omega (arith, ap (λ (z : ℕ). N * z * d) (pow-add 2 t j))) fine
      ∙ by_carry (λ (f : ℕ → ℕ → Rounded ℕ). f i t ≡ shifted j (f i (t + j))) (nearest rule A (d * 2 ^ i)) (side_at A (d * 2 ^ i) (nearest rule A (d * 2 ^ i))) (λ _. rw (minus_shift (suc i) t j)) (λ _. rw (minus_shift i t j))
      ∙ ap (shifted j) (sym (rounded_at N d (t + j) A d D D refl fine))
