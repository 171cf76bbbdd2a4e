-- Laws of the quotient: its binade is -1 or 0, its significand has n bits and is the nearest of one division, its value is RN(x / Ch), its direction that of the division, and x / Ch is never half way between two numbers, so that every tie rule gives the same. Assumes nothing.
use Rattle.std.specs.Prelude.{◌≡◌, refl, Bool, true, false, cond, ℕ, zero, suc, ◌+◌, ◌-◌, ◌*◌, ◌/◌, ◌^◌, ◌≤◌, ◌<◌, ℤ, ◌+ℤ◌, ltb}
use Rattle.std.proofs.Math.Path.{sym, ap}
use Rattle.std.proofs.Common.{◌∙◌, subst, mul-le-mul_right, mul-le-mul_left, mul-pos, le_trans, mul-one, pow-add, ne_eqb, ltb-true, ltb-false, lt-ltb, le-ltb}
use Rattle.std.proofs.Math.Nat.{pow-succ', add-zero}
use native.Mathlib.Omega.{arith}
use Rattle.std.proofs.Math.IntN.{pos}
use Rattle.std.proofs.Math.Pow.{pow_pos, le_ones}
use Rattle.std.specs.Float.Ieee.{minus, up, down}
use Rattle.std.specs.Float.Ieee.Digits.{minus_val}
use Rattle.std.specs.Float.Ieee.Order.{drop}
use Rattle.rounding.specs.declared.Rounded.{Rounded}
use Rattle.rounding.specs.Grid.{Rule, nearest, side_at}
use Rattle.rounding.proofs.GridLaws.{nearest_is, nearest_only, nearest_le, nearest_ge}
use Rattle.rounding.proofs.Digits.{pow_half, drop_le}
use Rattle.rounding.specs.Round.{normalised, stepped, rounded_in, rounded, HasBits}
use Rattle.rounding.proofs.RoundLaws.{rounded_at, minus_shift}
use Rattle.rounding.proofs.Standard.{HalfWay}
use Rattle.rounding.specs.Fraction.{Same, direction_of}
use Rattle.rounding.proofs.DirectedLaws.{rounded_direction}
use Rattle.factor.specs.declared.Parts.{Parts}
use Rattle.factor.specs.Context.{Context}
use Rattle.product.proofs.SoundLaws.{HighBits}
use Rattle.quotient.specs.declared.Quotient.{Quotient}
use Rattle.quotient.specs.Quotient.{by_high, once, quotient, value_of, binades_below}

-- where an odd multiple of H is 2 ^ m * Y, the odd number divides Y: so it is not above it
odd_divides : (m Y q H : ℕ) → 0 < H → 2 ^ m * Y ≡ (2 * q + 1) * H → 2 * q + 1 ≤ Y
odd_divides zero Y q H h e = omega (arith, e, mul-le-mul_left (2 * q + 1) h)
odd_divides (suc m) Y q H h e =
    let w = ap (λ (z : ℕ). z * Y) (pow-succ' 2 m) in
    let even : H ≡ 2 * (H / 2) = omega arith in
    odd_divides m Y q (H / 2) (omega arith) (omega (arith, ap (λ (z : ℕ). (2 * q + 1) * z) even))

-- X * 2 ^ t / H has n digits before the point, and rounding it carries nothing into another
record HasDigits (n H X t : ℕ) : Type 0 where
  least : 2 ^ (n - 1) * H ≤ X * 2 ^ t
  most : X * 2 ^ t ≤ (2 ^ n - 1) * H

module _ (n : ℕ) (P : 0 < n) (H X : ℕ) (h : HighBits n H) (x : HasBits n X) where
  high_some : 0 < H
  high_some = le_trans (pow_pos (n - 1)) h.least

  -- below 1: in the unit 2 ^ - n
  scaled_low : X < H → HasDigits n H X n
  scaled_low l =
      let e = pow_half n P in
      record {
        least = omega (arith, ap (λ (z : ℕ). X * z) e, mul-le-mul_left (2 ^ (n - 1)) h.most, mul-le-mul_right (2 ^ n) x.least);
        most = go (2 ^ n) (2 ^ n - 1) (omega (arith, pow_pos n)) h.most l;
      }
    where
      go : (b c : ℕ) → b ≡ c + 1 → H ≤ b → X < H → X * b ≤ c * H
      go b c e p q = omega (arith, mul-le-mul_right b q, ap (λ (z : ℕ). H * z) e)

  -- at least 1: in the unit 2 ^ - (n - 1)
  scaled_high : H ≤ X → HasDigits n H X (n - 1)
  scaled_high l =
      let e = pow_half n P in
      record {
        least = omega (arith, mul-le-mul_left (2 ^ (n - 1)) l);
        most = le_trans (mul-le-mul_right (2 ^ (n - 1)) (le_ones n x.most)) (mul-le-mul_left (2 ^ n - 1) h.least);
      }

  -- by one test
  scaled : HasDigits n H X (n - 1 + binades_below X H)
  scaled = go (ltb X H) refl
    where
      go : (b : Bool) → ltb X H ≡ b → HasDigits n H X (n - 1 + cond b 1 0)
      go true e = subst (HasDigits n H X) (omega arith) (scaled_low (ltb-true X H e))
      go false e = subst (HasDigits n H X) (omega arith) (scaled_high (ltb-false X H e))

module _ (K : Context) (P : 0 < K.n) (p : Parts) (X : ℕ) (h : HighBits K.n p.high) (x : HasBits K.n X) where
  open K use {rule, n}

  abbrev H : ℕ
  H = p.high

  abbrev b : ℕ
  b = binades_below X H

  -- in the unit 2 ^ - t, x / Ch is N / H, with n digits
  abbrev t : ℕ
  t = n - 1 + b

  abbrev N : ℕ
  N = X * 2 ^ t

  some : 0 < H
  some = high_some n P H X h x

  s : HasDigits n H X t
  s = scaled n P H X h x

  module _ (rule : Rule) where
    nearest_bits : HasBits n (nearest rule N H)
    nearest_bits = record { least = nearest_ge rule N H (2 ^ (n - 1)) some s.least; most = omega (arith, nearest_le rule N H (2 ^ n - 1) some s.most, pow_pos n) }

    rounded_exact : rounded rule n (by_high n p X).num (by_high n p X).den ≡ record { significand = nearest rule N H; exponent = minus 0 t; direction = side_at N H (nearest rule N H) }
    unfolding rounded_in stepped normalised
    rounded_exact =
        let e : 2 ^ n ≡ (2 ^ n - 1) + 1 = omega (arith, pow_pos n) in
        let l : N < 2 ^ n * H = omega (arith, s.most, some, ap (λ (z : ℕ). z * H) e) in
        let all_kept : drop n N H ≡ 0 = omega (arith, drop_le n N H some 0 (rw add-zero l)) in
        rounded_at rule n P (X * 2 ^ (n - 1)) (2 ^ (n - 1) * H) t N H (mul-pos (pow_pos (n - 1)) some) some (omega arith) (omega (arith, s.least, ap (λ (z : ℕ). z * H) (pow_half n P)))
        ∙ ap (λ (k : ℕ). stepped rule n t k N (H * 2 ^ k)) all_kept
        ∙ ap (λ (u : ℕ). stepped rule n t 0 N u) (mul-one H)
        ∙ rw (ne_eqb (nearest rule N H) (2 ^ n) (λ e. omega (arith, nearest_bits.most)))

    -- the direction is that of the one division
    pub quotient_direction : direction_of rule n (by_high n p X) ≡ side_at N H (nearest rule N H)
    quotient_direction = sym (rounded_direction rule n P (X * 2 ^ (n - 1)) (2 ^ (n - 1) * H) (mul-pos (pow_pos (n - 1)) some)) ∙ ap (λ (r : Rounded ℕ). r.direction) rounded_exact

  -- x / Ch is never half way between two numbers of n bits
  pub never_tied : (t j k : ℕ) → HalfWay n (by_high n p X).num (by_high n p X).den t j k → ⊥
  never_tied t j k w =
      let G = 2 ^ k * (2 ^ (n - 1) * H) in
      let e : 2 ^ suc (n - 1 + t) * X ≡ (2 * j + 1) * G = omega (arith, w.middle, ap (λ (z : ℕ). z * X) (pow-succ' 2 (n - 1 + t)), ap (λ (z : ℕ). z * X) (pow-add 2 (n - 1) t)) in
      omega (arith, odd_divides (suc (n - 1 + t)) X j G (mul-pos (pow_pos k) (mul-pos (pow_pos (n - 1)) some)) e, w.least, x.most, pow_half n P)

  -- so that every tie rule takes the same neighbour
  same_taken : (a b : Rule) → nearest a N H ≡ nearest b N H
  same_taken a b =
      let m = nearest_is b N H some in
      nearest_only a N H (nearest b N H) some (record { low = m.low; high = m.high; tie = λ q e. absurd (untied q e) })
    where
      untied : (q : ℕ) → 2 * N ≡ 2 * (q * H) + H → ⊥
      untied q e =
          let o = odd_divides (suc t) X q H some (omega (arith, e, ap (λ (z : ℕ). z * X) (pow-succ' 2 t))) in
          omega (arith, e, s.least, mul-le-mul_right H o, mul-le-mul_right H x.most, ap (λ (z : ℕ). z * H) (pow_half n P), some)

  -- one division, rounded to nearest
  pub quotient_is : quotient K p X ≡ record { significand = nearest rule N H; binade = minus 0 b }
  unfolding quotient
  quotient_is =
      let e : t ≡ b + (n - 1) = omega arith in
      let f : minus 0 t +ℤ pos (n - 1) ≡ minus 0 b = ap (λ (z : ℕ). minus 0 z +ℤ pos (n - 1)) e ∙ minus_shift 0 b (n - 1) in
      ap (λ (y : Rounded ℕ). record { significand = y.significand; binade = y.exponent +ℤ pos (n - 1) }) (rounded_exact rule) ∙ ap (λ (z : ℤ). record { significand = nearest rule N H; binade = z }) f

  -- by whatever rule
  pub quotient_any_rule : (other : Rule) → quotient (record { rule = other; n = n; E = K.E }) p X ≡ quotient K p X
  unfolding quotient
  quotient_any_rule other =
      ap (λ (y : Rounded ℕ). record { significand = y.significand; binade = y.exponent +ℤ pos (n - 1) })
      (rounded_exact other ∙ ap (λ (z : ℕ). record { significand = z; exponent = minus 0 t; direction = side_at N H z }) (same_taken other rule) ∙ sym (rounded_exact rule))

  pub quotient_bits : HasBits n (quotient K p X).significand
  quotient_bits = rw quotient_is (nearest_bits rule)

  -- as a number it is RN(x / Ch)
  pub quotient_value : Same (once K p X) (value_of n (quotient K p X))
  quotient_value =
      rw quotient_is (
        refl,
        let S = nearest rule N H in
            let w : 2 ^ t ≡ 2 ^ (n - 1) * 2 ^ b = pow-add 2 (n - 1) b in
            let u = up (minus 0 t) in
            let v = up (minus 0 b) in
            subst (λ (r : Rounded ℕ). r.significand * up r.exponent * (down (minus 0 b) * 2 ^ (n - 1)) ≡ v * S * down r.exponent) (sym (rounded_exact rule))
            (omega (arith, ap (λ (z : ℕ). z * (S * v)) (minus_val 1 0 t), ap (λ (z : ℕ). z * (S * u * 2 ^ (n - 1))) (minus_val 1 0 b), ap (λ (z : ℕ). S * u * v * z) w)),
      )

  -- its binade is -1 below 1, and 0 from there on
  pub quotient_below_one : X < H → (quotient K p X).binade ≡ minus 0 1
  quotient_below_one l = ap (λ (v : Quotient). v.binade) quotient_is ∙ ap (λ (z : Bool). minus 0 (cond z 1 0)) (lt-ltb X H l)

  pub quotient_from_one : H ≤ X → (quotient K p X).binade ≡ minus 0 0
  quotient_from_one l = ap (λ (v : Quotient). v.binade) quotient_is ∙ ap (λ (z : Bool). minus 0 (cond z 1 0)) (le-ltb X H l)
