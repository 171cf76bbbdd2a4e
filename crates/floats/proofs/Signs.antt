-- Laws: rounding keeps the sign, also of what becomes zero or infinite; a zero is rounded to the zero of its sign; and what a turned sign does. Assumes nothing.
use Rattle.std.specs.Prelude.{◌≡◌, refl, Bool, true, false, not, cond, ℕ, zero, suc, ◌+◌, ◌*◌, ◌/◌, ◌^◌, ◌<◌, T, ltb, ℤ, Float}
use Rattle.std.proofs.Common.{sym, ap, ◌∙◌, subst, true≢false, arith, lit<, le-leb}
use Rattle.std.specs.Float.Ieee
use Rattle.std.specs.Float.{nan, inf, fin, Format, binary64}
use Rattle.std.specs.Float.Ieee.{is_nan, binary32, prec, emax, low, hid, top, ones, odd, units, neg, fits, to_bits}
use Rattle.std.specs.Float.Ieee.Exact.{HasValue}
use Rattle.std.specs.Float.Ieee.Bits.{to_bits-lt}
use Rattle.std.specs.Float.Ieee.Fits.{neg-fits}
use Rattle.std.specs.Float.Ieee.Scale.{round_same}
use Rattle.std.proofs.lemmas.Bool.{lt-leb}
use Rattle.floats.specs.Fields.{zero_of, is_sign_minus, sign_of, biased_exponent, trailing_significand}

odd_keeps : (d : ℕ) (s : Bool) (q k l : ℕ) → is_sign_minus (odd d s q k l) ≡ s
unfolding odd
odd_keeps d s zero k l = refl
odd_keeps d s (suc q) k l = refl

units_keep : (f : Format) (s : Bool) (q k : ℕ) → is_sign_minus (units f s q k) ≡ s
unfolding units
units_keep f s q k = go (ltb (q * 2 ^ k) (2 ^ (low f + suc (emax f))))
  where
    go : (b : Bool) → is_sign_minus (cond b (odd (suc (prec f)) s q k (low f)) (inf s)) ≡ s
    go true = odd_keeps (suc (prec f)) s q k (low f)
    go false = refl

pub round_keeps : (f : Format) (s : Bool) (a c : ℕ) → is_sign_minus (Ieee.round f s a c) ≡ s
unfolding Ieee.round
round_keeps f s a c = units_keep f s _ _

zero_over_one : (f : Format) (s : Bool) → Ieee.round f s 0 1 ≡ zero_of s
unfolding Ieee.round units odd Ieee.size
zero_over_one binary32 s = refl
zero_over_one binary64 s = refl

pub round_zero : (f : Format) (s : Bool) (a c : ℕ) → a ≡ 0 → 0 < c → Ieee.round f s a c ≡ zero_of s
round_zero f s a c e C = round_same f s a c 0 1 C (lit< tt) (omega arith) ∙ zero_over_one f s

-- ---- the sign turned
odd_turned : (d : ℕ) (s : Bool) (q k l : ℕ) → odd d (not s) q k l ≡ neg (odd d s q k l)
unfolding odd neg
odd_turned d s zero k l = refl
odd_turned d s (suc q) k l = refl

units_turned : (f : Format) (s : Bool) (q k : ℕ) → units f (not s) q k ≡ neg (units f s q k)
unfolding units neg
units_turned f s q k = go (ltb (q * 2 ^ k) (2 ^ (low f + suc (emax f))))
  where
    go : (b : Bool) → cond b (odd (suc (prec f)) (not s) q k (low f)) (inf (not s)) ≡ neg (cond b (odd (suc (prec f)) s q k (low f)) (inf s))
    go true = odd_turned (suc (prec f)) s q k (low f)
    go false = refl

-- rounding is symmetric in sign
pub round_turned : (f : Format) (s : Bool) (a c : ℕ) → Ieee.round f (not s) a c ≡ neg (Ieee.round f s a c)
unfolding Ieee.round
round_turned f s a c = units_turned f s _ _

-- and the value of a number with its sign turned is as large
pub neg_value : (x : Float) (s : Bool) (a c : ℕ) → HasValue x s a c → HasValue (neg x) (not s) a c
unfolding neg
neg_value nan s a c v = v
neg_value (inf t) s a c v = v
neg_value (fin t m e) s a c v = (ap not v.0, v.1)

-- the fields of a binary32 number with its sign turned: the sign alone is another
pub record Turned (b c : ℕ) : Type 0 where
  pub sign : sign_of binary32 c ≡ not (sign_of binary32 b)
  pub biased : biased_exponent binary32 c ≡ biased_exponent binary32 b
  pub trailing : trailing_significand binary32 c ≡ trailing_significand binary32 b

-- R being the pattern without the sign
minus_above : (R : ℕ) → R < top binary32 → Turned R (top binary32 + R)
minus_above R h = record { sign = le-leb (top binary32) (top binary32 + R) (omega arith) ∙ ap not (sym (lt-leb (top binary32) R h)); biased = ap (λ (z : ℕ). z / hid binary32) (omega arith); trailing = omega arith }

plus_below : (R : ℕ) → R < top binary32 → Turned (top binary32 + R) R
plus_below R h = record { sign = lt-leb (top binary32) R h ∙ ap not (sym (le-leb (top binary32) (top binary32 + R) (omega arith))); biased = ap (λ (z : ℕ). z / hid binary32) (omega arith); trailing = omega arith }

sign_apart : (m : ℕ) (e : ℤ) → to_bits binary32 (fin true m e) ≡ top binary32 + to_bits binary32 (fin false m e)
unfolding to_bits
sign_apart m e = omega arith

small : (m : ℕ) (e : ℤ) → T (fits binary32 (fin true m e)) → to_bits binary32 (fin false m e) < top binary32
small m e fit = omega (arith, to_bits-lt binary32 (fin true m e) fit, sign_apart m e)

-- of every number that fits the format, infinities included; a NaN has no sign
pub turned_bits : (x : Float) → T (fits binary32 x) → is_nan x ≡ false → Turned (to_bits binary32 x) (to_bits binary32 (neg x))
unfolding neg is_nan
turned_bits nan fit n = absurd (true≢false n)
turned_bits (inf true) fit n = unfold to_bits in plus_below (ones binary32 * hid binary32) (lit< tt)
turned_bits (inf false) fit n = unfold to_bits in minus_above (ones binary32 * hid binary32) (lit< tt)
turned_bits (fin true m e) fit n =
    let R = to_bits binary32 (fin false m e) in
    subst (λ (b : ℕ). Turned b R) (sym (sign_apart m e)) (plus_below R (small m e fit))
turned_bits (fin false m e) fit n =
    let R = to_bits binary32 (fin false m e) in
    subst (Turned R) (sym (sign_apart m e)) (minus_above R (small m e (neg-fits binary32 (fin false m e) fit)))
