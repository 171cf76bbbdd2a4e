-- Laws of 2 ^ z for an integer z, in natural numbers and in units of a format's smallest value. Assumes nothing.
use Rattle.std.specs.Prelude.{◌≡◌, refl, Bool, true, false, ℕ, zero, suc, ◌+◌, ◌-◌, ◌*◌, ◌^◌, ◌≤◌, ◌<◌, ltb, ℤ, pos, negsuc, nat_abs, neg_ℤ, ◌+ℤ◌, ◌-ℤ◌}
use Rattle.std.proofs.Common.{sym, ap, ap₂, ◌∙◌, mul-one, one-mul, arith, lit≤, pow-add, pow_pos, ltb-false, le-ltb}
use Rattle.std.proofs.Math.Nat.{eq_of_mul-eq-mul_right}
use Rattle.std.proofs.Math.IntN.{sub_ℕ, +ℤ_assoc, +ℤ_comm, pos-ne-negsuc}
use Rattle.std.specs.Float.{Format, binary32, binary64}
use Rattle.std.specs.Float.Ieee.{emax, prec, low, hid, up, down}
use Rattle.std.specs.Float.Ieee.Fits.{two, reach}

-- ---- whole numbers that are not negative
pub sub_pos : (m k j : ℕ) → sub_ℕ m k ≡ pos j → m ≡ j + k
sub_pos m k j e = go (ltb m k) refl e
  where
    go : (b : Bool) → ltb m k ≡ b → sub_ℕ m k ≡ pos j → m ≡ j + k
    go true t x = absurd (pos-ne-negsuc j (k - suc m) (sym (rw t at x)))
    go false t x = let l = ltb-false m k t in let y : m - k ≡ j = ap nat_abs (rw t at x) in omega arith

pub sub_le : (m k j : ℕ) → m ≡ j + k → sub_ℕ m k ≡ pos j
sub_le m k j e = rw (le-ltb m k (omega arith)) (ap pos (omega arith))

-- ---- 2 ^ z over a power of two that makes it whole
up_down : (z : ℤ) (m j : ℕ) → z +ℤ pos m ≡ pos j → up z * 2 ^ m ≡ 2 ^ j * down z
up_down (pos k) m j e = sym (pow-add 2 k m) ∙ ap (λ (z : ℕ). 2 ^ z) (ap nat_abs e) ∙ sym (mul-one (2 ^ j))
up_down (negsuc k) m j e = one-mul (2 ^ m) ∙ ap (λ (z : ℕ). 2 ^ z) (sub_pos m (suc k) j e) ∙ pow-add 2 j (suc k)

-- 2 ^ e * 2 ^ k is 2 ^ (e + k)
whole_from : (z : ℤ) → (m : ℕ) × (j : ℕ) × (z +ℤ pos m ≡ pos j)
whole_from (pos a) = (0, a, ap pos (omega arith))
whole_from (negsuc a) = (suc a, 0, sub_le (suc a) (suc a) 0 (omega arith))

pub powers_add : (e k : ℤ) → up e * up k * down (e +ℤ k) ≡ up (e +ℤ k) * (down e * down k)
powers_add e k =
    let x = whole_from e in
    let y = whole_from k in
    regroup (up e) (up k) (up (e +ℤ k)) (down e) (down k) (down (e +ℤ k)) (2 ^ x.0) (2 ^ y.0) (2 ^ x.1) (2 ^ y.1) (2 ^ (x.0 + y.0)) (2 ^ (x.1 + y.1)) (pow_pos (x.0 + y.0)) (pow-add 2 x.0 y.0) (pow-add 2 x.1 y.1)
    (up_down e x.0 x.1 x.2) (up_down k y.0 y.1 y.2)
    (up_down (e +ℤ k) (x.0 + y.0) (x.1 + y.1) (both e k (pos x.0) (pos y.0) ∙ ap₂ (λ (p q : ℤ). p +ℤ q) x.2 y.2))
  where
    both : (a b c d : ℤ) → a +ℤ b +ℤ (c +ℤ d) ≡ a +ℤ c +ℤ (b +ℤ d)
    both a b c d =
        +ℤ_assoc a b (c +ℤ d)
        ∙ ap (λ (z : ℤ). a +ℤ z) (sym (+ℤ_assoc b c d) ∙ ap (λ (z : ℤ). z +ℤ d) (+ℤ_comm b c) ∙ +ℤ_assoc c b d)
        ∙ sym (+ℤ_assoc a c (b +ℤ d))

    regroup : (u v w a b c M N P K MN ParamKind : ℕ) → 0 < MN → MN ≡ M * N → ParamKind ≡ P * K → u * M ≡ P * a → v * N ≡ K * b → w * MN ≡ ParamKind * c → u * v * c ≡ w * (a * b)
    regroup u v w a b c M N P K MN ParamKind some m j e f g =
        eq_of_mul-eq-mul_right MN some (u * v * c) (w * (a * b))
        (omega (arith, ap (λ (z : ℕ). u * v * c * z) m, ap (λ (z : ℕ). z * (v * N * c)) e, ap (λ (z : ℕ). z * (P * a * c)) f, ap (λ (z : ℕ). z * (a * b)) g, ap (λ (z : ℕ). z * (c * a * b)) j))

-- and 2 ^ e / 2 ^ k is 2 ^ (e - k)
pub powers_sub : (e k : ℤ) → up e * down k * down (e -ℤ k) ≡ up (e -ℤ k) * (down e * up k)
powers_sub e k = let t = turned k in ap (λ (z : ℕ). up e * z * down (e -ℤ k)) (sym t.0) ∙ powers_add e (neg_ℤ k) ∙ ap (λ (z : ℕ). up (e -ℤ k) * (down e * z)) t.1
  where
    turned : (k : ℤ) → (up (neg_ℤ k) ≡ down k) × (down (neg_ℤ k) ≡ up k)
    turned (pos zero) = (refl, refl)
    turned (pos (suc m)) = (refl, refl)
    turned (negsuc m) = (refl, refl)

-- ---- S / hid * 2 ^ z is S * 2 ^ j times the smallest positive value
pub in_smallest : (f : Format) (S : ℕ) (z : ℤ) (j : ℕ) → z +ℤ pos (emax f - 1) ≡ pos j → S * up z * 2 ^ low f ≡ S * 2 ^ j * (hid f * down z)
in_smallest f S z j e =
    let one : 2 ^ low f ≡ 2 ^ (emax f - 1) * hid f = ap (λ (y : ℕ). 2 ^ y) (omega (arith, two f, reach f)) ∙ pow-add 2 (emax f - 1) (prec f - 1) in
    omega (arith, ap (λ (y : ℕ). S * up z * y) one, ap (λ (y : ℕ). y * (S * hid f)) (up_down z (emax f - 1) j e))

-- a format has exponents below zero
pub emax_two : (f : Format) → 2 ≤ emax f
emax_two binary32 = lit≤ tt
emax_two binary64 = lit≤ tt
