-- Laws of products: powers of two in them; a product of two floats is the exact product, rounded. In a unit in which it is whole that is RN in whole numbers, and its bits tell it. Assumes nothing.
use Rattle.std.specs.Prelude.{◌≡◌, Bool, cond, ◌⊎◌, eqb, ℤ, ◌+ℤ◌, Float}
use Rattle.std.proofs.Math.Path.{refl, ap}
use Rattle.std.proofs.Common.{sym, ap₂, ◌∙◌, subst, eq-zero-or-pos, mul_assoc, mul-pos, mul-lt-mul_of_pos_right, le_trans, le_of_eq, lt_of_not-le, lt_of_lt_of_le, le_of_suc-le-suc, mod-lt, lit<, pow-add, pow_pos, pow_mono, shl_lt, shl_exact, eq-eqb, ne_eqb, eqb-true}
use Rattle.std.proofs.Math.Bool.{true, false}
use Rattle.std.proofs.Math.Logic.{inl, inr}
use Prim.Native.Nat.{ℕ, zero, suc, ◌+◌, ◌-◌, ◌*◌, ◌/◌, ◌%◌, ◌^◌, ◌≤◌, ◌<◌}
use Rattle.std.proofs.Math.Nat.{zero-div, mul-le-mul, mul-mul-mul_comm, eq_of_mul-eq-mul_right, pow-succ'}
use native.Mathlib.Omega.{arith}
use Rattle.std.specs.Float.Ieee
use Rattle.std.specs.Float.{nan, inf, fin, Format}
use Rattle.std.specs.Float.Ieee.{prec, emax, low, hid, ones, top, up, down, unlike, mul, odd, of_fields, of_bits}
use Rattle.std.specs.Float.Ieee.Exact.{HasValue, odd_sign}
use Rattle.std.specs.Float.Ieee.Fits.{two, down_pos}
use Rattle.std.specs.Float.Ieee.Scale.{grid, overflow, round_same}
use Rattle.std.proofs.lemmas.Bool.{eqb-false}
use Rattle.rounding.specs.Grid.{to_even}
use Rattle.rounding.specs.Unit.{rn}
use Rattle.rounding.proofs.UnitLaws.{rn_same, rn_scale_whole, rn_ge, rn_whole_small}
use Rattle.rounding.specs.Fraction.{Fraction, power, times}
use Rattle.rounding.proofs.FractionLaws.{Scaled, unlike_plus}
use Rattle.rounding.proofs.Ieee.{one_value, round_value, rn_grid}
use Rattle.floats.specs.Fields.{sign_of, biased_exponent, trailing_significand, significand_of, units_of, unit_at, WholeInUnits}
use Rattle.floats.proofs.Powers.{powers_add}
use Rattle.floats.proofs.Pattern.{digits_some, two_hid, bits_split, biased_most, fields_value, significand_bits}

-- ---- powers of two in a product: x * 2 ^ k times y * 2 ^ e is x * y * 2 ^ (e + k)
pub times_scaled : (x y : Fraction) (e k : ℤ) → Scaled (e +ℤ k) (times x y) (times (times x (power k)) (times y (power e)))
times_scaled x y e k = let z = e +ℤ k in regroup x.num x.den y.num y.den (up e) (up k) (up z) (down e) (down k) (down z) (powers_add e k)
  where
    regroup : (N d X H u v w a c g : ℕ) → u * v * g ≡ w * (a * c) → N * v * (X * u) * (d * H * g) ≡ N * X * w * (d * c * (H * a))
    regroup N d X H u v w a c g e = omega (arith, ap (λ (t : ℕ). t * (N * X * d * H)) e)

-- ---- a product of two values is its exact value, rounded
pub mul_value : (f : Format) (x y : Float) (s t : Bool) (a c b d : ℕ) → 0 < c → 0 < d → HasValue x s a c → HasValue y t b d → mul f x y ≡ Ieee.round f (unlike s t) (a * b) (c * d)
unfolding mul
mul_value f nan y s t a c b d C D h k = absurd h
mul_value f (inf u) y s t a c b d C D h k = absurd h
mul_value f (fin u m e) nan s t a c b d C D h k = absurd k
mul_value f (fin u m e) (inf v) s t a c b d C D h k = absurd k
mul_value f (fin u m e) (fin v n g) s t a c b d C D h k =
    ap₂ (λ (p q : Bool). Ieee.round f (unlike p q) (m * up e * (n * up g)) (down e * down g)) h.0 k.0
    ∙ round_same f (unlike s t) (m * up e * (n * up g)) (down e * down g) (a * b) (c * d) (mul-pos (down_pos e) (down_pos g)) (mul-pos C D)
    (mul-mul-mul_comm (m * up e) (n * up g) c d ∙ ap₂ (λ (p q : ℕ). p * q) h.1 k.1 ∙ mul-mul-mul_comm a (down e) b (down g))

-- a value is one number of units
one_count : (f : Format) (x : Float) (s t : Bool) (a b : ℕ) → HasValue x s a (2 ^ low f) → HasValue x t b (2 ^ low f) → a ≡ b
one_count f x s t a b h k = eq_of_mul-eq-mul_right (2 ^ low f) (pow_pos (low f)) a b (one_value x s t a (2 ^ low f) b (2 ^ low f) h k).1

pub unit_is : (f : Format) (E : ℕ) → E < emax f → 2 ^ low f ≡ 2 ^ (E + (prec f - 1)) * 2 ^ unit_at f E
unit_is f E h = ap (λ (z : ℕ). 2 ^ z) (omega (arith, two f)) ∙ pow-add 2 (E + (prec f - 1)) (unit_at f E)

-- ---- m / 2 ^ q times X / hid, where m / 2 ^ q is l / 2 ^ E
module _ (f : Format) (E : ℕ) (near : E < emax f) (m q l X : ℕ) (same : m * 2 ^ E ≡ l * 2 ^ q) where
  abbrev u : ℕ
  u = rn to_even (prec f) (l * X) 1

  abbrev d : ℕ
  d = unit_at f E

  P : 0 < prec f
  P = digits_some f

  -- RN in the format's own unit
  on_grid : grid f (m * X) (2 ^ q * hid f) ≡ u * 2 ^ d
  on_grid =
      let c = 2 ^ q * hid f in
      let C : 0 < c = mul-pos (pow_pos q) (pow_pos (prec f - 1)) in
      let t : 2 ^ low f ≡ 2 ^ E * hid f * 2 ^ d = unit_is f E near ∙ ap (λ (z : ℕ). z * 2 ^ d) (pow-add 2 E (prec f - 1)) in
      sym (rn_grid f (m * X) c C)
      ∙ rn_same to_even (prec f) P (m * X * 2 ^ low f) c (l * X * 2 ^ d) 1 C (lit< tt) (omega (arith, ap (λ (z : ℕ). m * X * z) t, ap (λ (z : ℕ). z * (X * hid f * 2 ^ d)) same))
      ∙ rn_scale_whole to_even (prec f) P (l * X) d

  -- one multiplication is u of the unit
  pub product_value : u < 2 ^ E → (x y : Float) (s : Bool) → HasValue x s m (2 ^ q) → HasValue y false X (hid f) → HasValue (mul f x y) s (u * 2 ^ d) (2 ^ low f)
  product_value small x y s vx vy =
      let e = mul_value f x y s false m (2 ^ q) X (hid f) (pow_pos q) (pow_pos (prec f - 1)) vx vy ∙ ap (λ (z : Bool). Ieee.round f z (m * X) (2 ^ q * hid f)) (unlike_plus s) in
      let g = on_grid in
      let under : u * 2 ^ d < overflow f = lt_of_lt_of_le (shl_lt E d small) (pow_mono {i = E + d} {j = low f + suc (emax f)} (omega (arith, two f))) in
      subst (λ (z : Float). HasValue z s (u * 2 ^ d) (2 ^ low f)) (sym e)
      (subst (λ (z : ℕ). HasValue (Ieee.round f s (m * X) (2 ^ q * hid f)) s z (2 ^ low f)) g (round_value f s (m * X) (2 ^ q * hid f) (subst (λ (z : ℕ). z < overflow f) (sym g) under)))

  -- it is zero, or at least 2 ^ - E
  pub product_least : hid f ≤ X → (u ≡ 0) ⊎ (hid f ≤ u)
  product_least h = elim (eq-zero-or-pos l) [
    | inl e ↦
        let none : l * X ≡ 0 = ap (λ (z : ℕ). z * X) e ∙ omega arith in
        inl (ap (λ (z : ℕ). rn to_even (prec f) z 1) none ∙ rn_whole_small to_even (prec f) P 0 (omega arith))
    | inr p ↦ inr (omega (arith, rn_ge to_even (prec f) P (l * X) 1 (hid f) 0 (lit< tt) (omega (arith, two_hid f)) (omega (arith, mul-le-mul p h))))
  ]

-- ---- the bits of a float of u units, u zero or at least hid, tell u
pub record Told (f : Format) (w d b u : ℕ) : Type 0 where
  pub fits : WholeInUnits f w d b
  pub units : units_of f d b ≡ u

module _ (f : Format) (w d : ℕ) (room : prec f ≤ suc (w + d)) (b u : ℕ) (sg : Bool) (v : HasValue (of_bits f b) sg (u * 2 ^ d) (2 ^ low f)) (small : u < 2 ^ w) (least : (u ≡ 0) ⊎ (hid f ≤ u)) where
  abbrev t : ℕ
  t = trailing_significand f b

  H : 0 < hid f
  H = pow_pos (prec f - 1)

  short : t < hid f
  short = mod-lt b H

  -- no leading digit: zero
  told_zero : biased_exponent f b ≡ 0 → HasValue (of_fields f (sign_of f b) 0 t) sg (u * 2 ^ d) (2 ^ low f) → Told f w d b u
  unfolding of_fields
  told_zero e h =
      let k : t * 2 ^ 0 ≡ u * 2 ^ d = one_count f (odd (prec f) (sign_of f b) t 0 (low f)) (sign_of f b) sg (t * 2 ^ 0) (u * 2 ^ d) (odd_sign (prec f) (sign_of f b) t 0 (low f)) h in
      let none : u ≡ 0 = elim least [ inl z ↦ z | inr l ↦ absurd (omega (arith, k, short, mul-le-mul l (pow_pos d))) ] in
      let nothing : u * 2 ^ d ≡ 0 = ap (λ (z : ℕ). z * 2 ^ d) none ∙ omega arith in
      let all : b % top f ≡ 0 = bits_split f b ∙ omega (arith, k, nothing, ap (λ (z : ℕ). z * hid f) e) in
      record { fits = record { finite = omega (arith, e); from = λ p. absurd (omega arith); to = omega (arith, room) }; units = rw (eq-eqb (b % top f) 0 all) (sym none) }

  told_some : (k : ℕ) → biased_exponent f b ≡ suc k → ¬ (suc k ≡ ones f) → (hid f + t) * 2 ^ k ≡ u * 2 ^ d → Told f w d b u
  told_some k e o g = record { fits = record { finite = omega (arith, e, o, biased_most f b); from = λ p. le_trans (omega (arith, reached)) (le_of_eq (sym e)); to = omega (arith, e, few) }; units = rw (ne_eqb (b % top f) 0 not_zero) units }
    where
      some : hid f ≤ u
      some = elim least [
        | inl z ↦ absurd (omega (arith, g, ap (λ (z : ℕ). z * 2 ^ d) z, H, mul-pos {m = hid f + t} {n = 2 ^ k} (omega (arith, H)) (pow_pos k)))
        | inr l ↦ l
      ]

      reached : d ≤ k
      reached =
          le_of_suc-le-suc (lt_of_not-le λ (l : suc k ≤ d).
          let a : hid f + t < 2 ^ prec f = omega (arith, short, two_hid f) in
          omega (arith, g, mul-lt-mul_of_pos_right a (pow_pos k), ap (λ (z : ℕ). z * 2 ^ k) (two_hid f), ap (λ (z : ℕ). hid f * z) (pow-succ' 2 k), mul-le-mul some (pow_mono {i = suc k} {j = d} l)))

      counted : (hid f + t) * 2 ^ (k - d) ≡ u
      counted =
          let p : 2 ^ k ≡ 2 ^ (k - d) * 2 ^ d = ap (λ (z : ℕ). 2 ^ z) (omega (arith, reached)) ∙ pow-add 2 (k - d) d in
          eq_of_mul-eq-mul_right (2 ^ d) (pow_pos d) ((hid f + t) * 2 ^ (k - d)) u (omega (arith, g, ap (λ (z : ℕ). (hid f + t) * z) p))

      few : k + prec f ≤ w + d
      few =
          let a : prec f - 1 + (k - d) < w = lt_of_not-le λ (l : w ≤ prec f - 1 + (k - d)). omega (arith, counted, small, pow_mono l, pow-add 2 (prec f - 1) (k - d)) in
          omega (arith, reached, digits_some f)

      not_zero : ¬ (b % top f ≡ 0)
      not_zero z = omega (arith, bits_split f b, ap (λ (z : ℕ). z * hid f) e, H)

      units : (hid f + t) * 2 ^ (biased_exponent f b - suc d) ≡ u
      units = ap (λ (z : ℕ). (hid f + t) * 2 ^ z) (omega (arith, e)) ∙ counted

  told_field : (k : ℕ) → biased_exponent f b ≡ suc k → HasValue (of_fields f (sign_of f b) (suc k) t) sg (u * 2 ^ d) (2 ^ low f) → Told f w d b u
  unfolding of_fields
  told_field k e h = go (eqb (suc k) (ones f)) refl h
    where
      no_value : (c : Bool) → HasValue (cond c (inf (sign_of f b)) nan) sg (u * 2 ^ d) (2 ^ low f) → Told f w d b u
      no_value true x = absurd x
      no_value false x = absurd x

      go : (c : Bool) → eqb (suc k) (ones f) ≡ c → HasValue (cond c (cond (eqb t 0) (inf (sign_of f b)) nan) (odd (prec f) (sign_of f b) (hid f + t) k (low f))) sg (u * 2 ^ d) (2 ^ low f) → Told f w d b u
      go true o x = no_value (eqb t 0) x
      go false o x = told_some k e (eqb-false (suc k) (ones f) o) (one_count f (odd (prec f) (sign_of f b) (hid f + t) k (low f)) (sign_of f b) sg ((hid f + t) * 2 ^ k) (u * 2 ^ d) (odd_sign (prec f) (sign_of f b) (hid f + t) k (low f)) x)

  pub told : Told f w d b u
  unfolding of_bits
  told = go (biased_exponent f b) refl v
    where
      go : (F : ℕ) → biased_exponent f b ≡ F → HasValue (of_fields f (sign_of f b) (biased_exponent f b) t) sg (u * 2 ^ d) (2 ^ low f) → Told f w d b u
      go zero e h = told_zero e (rw e at h)
      go (suc k) e h = told_field k e (rw e at h)

-- ---- as code counts the units: none, or a shift of the significand that loses nothing in w bits
pub units_none : (f : Format) (d b : ℕ) → b % top f ≡ 0 → units_of f d b ≡ 0
units_none f d b e = rw (eq-eqb (b % top f) 0 e)

module _ (f : Format) (w d b : ℕ) (h : ¬ (b % top f ≡ 0)) (i : WholeInUnits f w d b) where
  pub units_from : suc d ≤ biased_exponent f b
  units_from = i.from (omega arith)

  pub units_shifted : significand_of f b * 2 ^ (biased_exponent f b - 1 - d) % 2 ^ w ≡ units_of f d b
  units_shifted =
      let short : prec f + (biased_exponent f b - 1 - d) ≤ w = omega (arith, units_from, i.to) in
      let shift : biased_exponent f b - 1 - d ≡ biased_exponent f b - suc d = omega arith in
      shl_exact (prec f) (biased_exponent f b - 1 - d) w (significand_bits f b).most short ∙ ap (λ (z : ℕ). significand_of f b * 2 ^ z) shift ∙ rw (ne_eqb (b % top f) 0 h)

-- ---- what they mean: the float is so many units, with its sign
pub units_value : (f : Format) (w d b : ℕ) → WholeInUnits f w d b → HasValue (of_bits f b) (sign_of f b) (units_of f d b * 2 ^ d) (2 ^ low f)
unfolding of_bits of_fields
units_value f w d b i = go (eqb (b % top f) 0) refl
  where
    go : (z : Bool) → eqb (b % top f) 0 ≡ z → HasValue (of_bits f b) (sign_of f b) (cond z 0 (significand_of f b * 2 ^ (biased_exponent f b - suc d)) * 2 ^ d) (2 ^ low f)
    go true e =
        let none = eqb-true (b % top f) 0 e in
        let field : biased_exponent f b ≡ 0 = ap (λ (z : ℕ). z / hid f) none ∙ zero-div (hid f) in
        let digits : trailing_significand f b ≡ 0 = omega (arith, bits_split f b, none) in
        let nothing : 0 * 2 ^ 0 ≡ 0 * 2 ^ d = omega arith in
        rw (field, digits) (subst (λ (z : ℕ). HasValue (odd (prec f) (sign_of f b) 0 0 (low f)) (sign_of f b) z (2 ^ low f)) nothing (odd_sign (prec f) (sign_of f b) 0 0 (low f)))
    go false e =
        let m = significand_of f b in
        let k = biased_exponent f b - 1 in
        let from = i.from (omega (arith, eqb-false (b % top f) 0 e)) in
        let field : biased_exponent f b ≡ suc k = omega (arith, from) in
        let same : m * 2 ^ k ≡ m * 2 ^ (biased_exponent f b - suc d) * 2 ^ d = ap (λ (z : ℕ). m * 2 ^ z) (omega (arith, from)) ∙ ap (λ (z : ℕ). m * z) (pow-add 2 (biased_exponent f b - suc d) d) ∙ sym (mul_assoc m (2 ^ (biased_exponent f b - suc d)) (2 ^ d)) in
        subst (λ (z : ℕ). HasValue (of_bits f b) (sign_of f b) z (2 ^ low f)) same (fields_value f b (sign_of f b) k (trailing_significand f b) refl field refl (omega (arith, field, i.finite)))
