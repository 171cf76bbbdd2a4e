-- Laws: a number of at most n digits is a float of each format that has so many: rounding leaves it, and moved up to the format's precision it is put together from its bits. Assumes nothing.
use Rattle.std.specs.Prelude.{◌≡◌, Bool, ℕ, suc, ◌+◌, ◌-◌, ◌*◌, ◌^◌, ◌≤◌, ◌<◌}
use Rattle.std.proofs.Common.{sym, ap, ◌∙◌, mul-le-mul_right, mul-lt-mul_of_pos_right, le_trans, le_of_eq, lt_of_le_of_lt, arith, pow-add, pow_pos}
use Rattle.std.proofs.Math.Nat.{eq_of_mul-eq-mul_right}
use Rattle.std.proofs.Math.Pow.{pow-lt}
use Rattle.std.specs.Float.Ieee
use Rattle.std.specs.Float.{Format}
use Rattle.std.specs.Float.Ieee.{prec, emax, low, hid, ones}
use Rattle.std.specs.Float.Ieee.Exact.{HasValue}
use Rattle.std.specs.Float.Ieee.Fits.{two, reach}
use Rattle.std.specs.Float.Ieee.Scale.{round_same}
use Rattle.rounding.proofs.Ieee.{round_itself}
use Rattle.floats.specs.Fields.{float_of, Normalized, Narrow}
use Rattle.floats.proofs.Pattern.{two_hid}

module _ (f : Format) (n : ℕ) (P : 0 < n) (N : n ≤ prec f) where
  abbrev moved : ℕ → ℕ
  moved m = m * 2 ^ (prec f - n)

  moved_most : (m : ℕ) → m ≤ 2 ^ n → moved m ≤ 2 ^ prec f
  moved_most m h =
      let w : 2 ^ prec f ≡ 2 ^ n * 2 ^ (prec f - n) = ap (λ (z : ℕ). 2 ^ z) (omega arith) ∙ pow-add 2 n (prec f - n) in
      omega (arith, mul-le-mul_right (2 ^ (prec f - n)) h, w)

  moved_least : (m : ℕ) → 2 ^ (n - 1) ≤ m → hid f ≤ moved m
  moved_least m h =
      let w : hid f ≡ 2 ^ (n - 1) * 2 ^ (prec f - n) = ap (λ (z : ℕ). 2 ^ z) (omega arith) ∙ pow-add 2 (n - 1) (prec f - n) in
      omega (arith, mul-le-mul_right (2 ^ (prec f - n)) h, w)

  -- m / 2 ^ q in units of the format's smallest value
  in_units : (m q : ℕ) → q ≤ emax f + n - 2 → m * 2 ^ low f ≡ moved m * 2 ^ (emax f + n - 2 - q) * 2 ^ q
  in_units m q h =
      let j = emax f + n - 2 - q in
      let w : 2 ^ low f ≡ 2 ^ (prec f - n) * (2 ^ j * 2 ^ q) = ap (λ (z : ℕ). 2 ^ z) (omega (arith, two f, reach f)) ∙ pow-add 2 (prec f - n) (j + q) ∙ ap (λ (z : ℕ). 2 ^ (prec f - n) * z) (pow-add 2 j q) in
      omega (arith, ap (λ (z : ℕ). m * z) w)

  -- a fraction of this value is stored exactly
  pub stored_exactly : (s : Bool) (a c m q : ℕ) → 0 < c → m ≤ 2 ^ n → n ≤ suc q → q ≤ emax f + n - 2 → a * 2 ^ q ≡ m * c → HasValue (Ieee.round f s a c) s a c
  stored_exactly s a c m q C small lo hi e =
      let j = emax f + n - 2 - q in
      let under : prec f + j < low f + suc (emax f) = omega (arith, two f, reach f) in
      round_itself f s a c (moved m) j C (moved_most m small)
      (eq_of_mul-eq-mul_right (2 ^ q) (pow_pos q) (a * 2 ^ low f) (moved m * 2 ^ j * c) (omega (arith, ap (λ (z : ℕ). z * 2 ^ low f) e, ap (λ (z : ℕ). z * c) (in_units m q hi))))
      (lt_of_le_of_lt (le_trans (mul-le-mul_right (2 ^ j) (moved_most m small)) (le_of_eq (sym (pow-add 2 (prec f) j)))) (pow-lt under))

-- ---- and it is the float of its significand moved up
module _ (f : Format) (n m q : ℕ) (h : Narrow f n m q) where
  pub moved_normalized : Normalized f (emax f + n - 2 - q) (moved f n h.some h.short m)
  moved_normalized =
      let j = emax f + n - 2 - q in
      let most = moved_most f n h.some h.short m h.most in
      let free : j + 2 < ones f = omega (arith, h.deep, two f, reach f) in
      record { least = moved_least f n h.some h.short m h.least; most = most; few = lt_of_le_of_lt (omega (arith, two_hid f)) (mul-lt-mul_of_pos_right free (pow_pos (prec f - 1))) }

  pub narrow_is : (s : Bool) → float_of f s (emax f + n - 2 - q) (moved f n h.some h.short m) ≡ Ieee.round f s m (2 ^ q)
  narrow_is s = round_same f s (moved f n h.some h.short m * 2 ^ (emax f + n - 2 - q)) (2 ^ low f) m (2 ^ q) (pow_pos (low f)) (pow_pos q) (sym (in_units f n h.some h.short m q h.shallow))
