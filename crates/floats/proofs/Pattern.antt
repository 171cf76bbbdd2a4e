-- Laws: the pattern of a sign, a biased exponent and a trailing significand, and that of a sign, an exponent and a significand: which float it is, and its value. Assumes nothing.
use Rattle.std.specs.Prelude.{◌≡◌, refl, Bool, true, false, not, ◌⊎◌, ℕ, suc, ◌+◌, ◌-◌, ◌*◌, ◌/◌, ◌%◌, ◌^◌, ◌≤◌, ◌<◌, T}
use Rattle.std.proofs.Common.{sym, ap, ◌∙◌, subst, inl, inr, le_refl, mul-le-mul_right, zero-lt-suc, mod-lt, div-lt_iff_lt-mul, mul-pos, eq-or-lt_of_le, lt_of_le_of_lt, lt_of_lt_of_le, lt_of_mul-lt-mul_right, mul-lt-mul_of_pos_right, mul_comm, arith, lit≤, pow-add, pow_pos, pow_mono}
use Rattle.std.proofs.Math.Nat.{pow-succ'}
use Rattle.std.proofs.Math.Arith.{mod-mul, digits_lt, digits_div, digits_mod}
use Rattle.std.specs.Float.{Format}
use Rattle.std.specs.Float.Ieee.{prec, low, hid, ones, top, of_fields, of_bits, to_bits, nan_bits}
use Rattle.std.specs.Float.Ieee.Bits.{of_bits-fits, to_bits-of_bits}
use Rattle.std.specs.Float.Ieee.Exact.{HasValue, odd_sign}
use Rattle.std.specs.Float.Ieee.Fits.{two, two-le_pos, round-fits}
use Rattle.std.specs.Float.Ieee.Scale.{overflow}
use borrow.Author.Tests.{le-leb, lt-leb, ne_eqb}
use Rattle.rounding.proofs.Digits.{pow_half}
use Rattle.rounding.proofs.Ieee.{round_itself, value_unique}
use Rattle.rounding.specs.Round.{HasBits}
use Rattle.floats.specs.Fields.{sign_of, biased_exponent, trailing_significand, significand_of, sign_above, Normal, float_of, Normalized}
use Rattle.floats.proofs.Numbers.{value_number}

pub digits_some : (f : Format) → 0 < prec f
digits_some f = two-le_pos (prec f) (two f)

pub two_hid : (f : Format) → 2 ^ prec f ≡ 2 * hid f
two_hid f = pow_half (prec f) (digits_some f)

-- ---- a pattern by its fields
pub fields_value : (f : Format) (b : ℕ) (s : Bool) (x t : ℕ) → sign_of f b ≡ s → biased_exponent f b ≡ suc x → trailing_significand f b ≡ t → suc x < ones f → HasValue (of_bits f b) s ((hid f + t) * 2 ^ x) (2 ^ low f)
unfolding of_bits of_fields
fields_value f b s x t p q r h = rw (p, q, r, ne_eqb (suc x) (ones f) (λ e. omega arith)) (odd_sign (prec f) s (hid f + t) x (low f))

-- below the sign it is its field and its digits
pub bits_split : (f : Format) (b : ℕ) → b % top f ≡ biased_exponent f b * hid f + trailing_significand f b
bits_split f b =
    let H = pow_pos (prec f - 1) in
    let e : b % top f ≡ (b / hid f % suc (ones f)) * hid f + b % hid f = ap (λ (z : ℕ). b % z) (mul_comm (hid f) (suc (ones f))) ∙ mod-mul b (zero-lt-suc (ones f)) H in
    e ∙ ap (λ (z : ℕ). z * hid f + b % hid f) (sym (ap (λ (z : ℕ). z / hid f) e ∙ digits_div (b / hid f % suc (ones f)) (mod-lt b H)))

-- no field is above that of the infinities
pub biased_most : (f : Format) (b : ℕ) → biased_exponent f b < suc (ones f)
biased_most f b =
    let H : 0 < hid f = pow_pos (prec f - 1) in
    (div-lt_iff_lt-mul H).1 (subst (λ (z : ℕ). b % top f < z) (mul_comm (hid f) (suc (ones f))) (mod-lt b (mul-pos H (zero-lt-suc (ones f)))))

-- ---- the pattern of a sign, a field F and digits t
module _ (f : Format) (s : Bool) (F t : ℕ) (some : t < hid f) (few : F ≤ ones f) where
  abbrev b : ℕ
  b = sign_above f s (F * hid f + t)

  below_top : F * hid f + t < top f
  below_top = subst (λ (z : ℕ). F * hid f + t < z) (mul_comm (suc (ones f)) (hid f)) (digits_lt (omega arith) some)

  -- 1 or 0 times the sign's digit above them
  above : (s : Bool) → (j : ℕ) × (j ≤ 1) × (sign_above f s (F * hid f + t) ≡ j * top f + (F * hid f + t))
  above true = (1, le_refl 1, omega arith)
  above false = (0, lit≤ tt, omega arith)

  below : b < 2 * top f
  below = omega (arith, (above s).2, mul-le-mul_right (top f) (above s).1, below_top)

  sign_is : sign_of f b ≡ s
  sign_is = go s
    where
      go : (s : Bool) → sign_of f (sign_above f s (F * hid f + t)) ≡ s
      go true = le-leb (top f) (top f + (F * hid f + t)) (omega arith)
      go false = lt-leb (top f) (F * hid f + t) below_top

  field_is : biased_exponent f b ≡ F
  field_is = ap (λ (z : ℕ). z / hid f) (ap (λ (z : ℕ). z % top f) (above s).2 ∙ digits_mod (above s).0 below_top) ∙ digits_div F some

  digits_is : trailing_significand f b ≡ t
  digits_is =
      let j = (above s).0 in
      let joined : j * top f + (F * hid f + t) ≡ (j * suc (ones f) + F) * hid f + t = omega arith in
      ap (λ (z : ℕ). z % hid f) ((above s).2 ∙ joined) ∙ digits_mod (j * suc (ones f) + F) some

-- ---- the pattern of a sign, an exponent k and a significand m is k * hid + m below the sign
module _ (f : Format) (s : Bool) (k m : ℕ) (n : Normalized f k m) where
  abbrev pattern : ℕ
  pattern = sign_above f s (k * hid f + m)

  -- a field suc x and digits t: where m is 2 ^ prec, the next exponent's
  record Put : Type 0 where
    x : ℕ
    t : ℕ
    some : t < hid f
    free : suc x < ones f
    same : k * hid f + m ≡ suc x * hid f + t
    value : (hid f + t) * 2 ^ x ≡ m * 2 ^ k

  free_of : (x : ℕ) → suc x * hid f ≤ k * hid f + m → suc x < ones f
  free_of x h = lt_of_mul-lt-mul_right (hid f) (omega (arith, n.few))

  put : Put
  put = go (eq-or-lt_of_le n.most)
    where
      go : (m ≡ 2 ^ prec f) ⊎ (m < 2 ^ prec f) → Put
      go (inl e) =
          record {
            x = suc k;
            t = 0;
            some = pow_pos (prec f - 1);
            free = free_of (suc k) (omega (arith, two_hid f));
            same = omega (arith, two_hid f);
            value = omega (arith, ap (λ (z : ℕ). hid f * z) (pow-succ' 2 k), ap (λ (z : ℕ). z * 2 ^ k) (e ∙ two_hid f));
          }
      go (inr l) =
          let v : hid f + (m - hid f) ≡ m = omega (arith, n.least) in
          record {
            x = k;
            t = m - hid f;
            some = omega (arith, two_hid f);
            free = free_of k (omega (arith, n.least));
            same = omega (arith, n.least);
            value = ap (λ (z : ℕ). z * 2 ^ k) v;
          }

  abbrev F : ℕ
  F = suc put.x

  few : F ≤ ones f
  few = omega (arith, put.free)

  pattern_same : pattern ≡ sign_above f s (F * hid f + put.t)
  pattern_same = ap (sign_above f s) put.same

  field : biased_exponent f pattern ≡ F
  field = ap (biased_exponent f) pattern_same ∙ field_is f s F put.t put.some few

  pattern_value : HasValue (of_bits f pattern) s (m * 2 ^ k) (2 ^ low f)
  pattern_value =
      subst (λ (z : ℕ). HasValue (of_bits f pattern) s z (2 ^ low f)) put.value
      (fields_value f pattern s put.x put.t (ap (sign_of f) pattern_same ∙ sign_is f s F put.t put.some few) field (ap (trailing_significand f) pattern_same ∙ digits_is f s F put.t put.some few) put.free)

  pub pattern_number : T (not (nan_bits f pattern))
  unfolding nan_bits
  pattern_number = rw (field, ne_eqb F (ones f) (λ e. omega (arith, put.free))) tt

  under : m * 2 ^ k < overflow f
  under =
      let a : hid f + put.t < 2 ^ prec f = omega (arith, put.some, two_hid f) in
      subst (λ (z : ℕ). z < overflow f) put.value
      (lt_of_lt_of_le (mul-lt-mul_of_pos_right a (pow_pos put.x))
      (subst (λ (z : ℕ). z ≤ overflow f) (pow-add 2 (prec f) put.x) (pow_mono (omega (arith, put.free, two f)))))

  -- its value is exact
  pub float_value : HasValue (float_of f s k m) s (m * 2 ^ k) (2 ^ low f)
  float_value = round_itself f s (m * 2 ^ k) (2 ^ low f) m k (pow_pos (low f)) n.most refl under

  -- and it has this pattern
  pub pattern_is : of_bits f pattern ≡ float_of f s k m
  pattern_is = value_unique f (of_bits f pattern) (float_of f s k m) s (m * 2 ^ k) (2 ^ low f) (pow_pos (low f)) (of_bits-fits f pattern) (round-fits f s (m * 2 ^ k) (2 ^ low f)) pattern_value float_value

  -- so it is normal
  pub float_normal : Normal f (to_bits f (float_of f s k m))
  float_normal =
      let small : pattern < 2 * top f = subst (λ (z : ℕ). z < 2 * top f) (sym pattern_same) (below f s F put.t put.some few) in
      let back : to_bits f (float_of f s k m) ≡ pattern = ap (to_bits f) (sym pattern_is) ∙ to_bits-of_bits f pattern small (value_number (of_bits f pattern) s (m * 2 ^ k) (2 ^ low f) pattern_value) in
      let is : biased_exponent f (to_bits f (float_of f s k m)) ≡ F = ap (biased_exponent f) back ∙ field in
      record { from = rw is (zero-lt-suc put.x); to = rw is put.free }

-- a pattern's significand has all digits
pub significand_bits : (f : Format) (b : ℕ) → HasBits (prec f) (significand_of f b)
significand_bits f b = record { least = omega arith; most = omega (arith, two_hid f, mod-lt b (pow_pos (prec f - 1))) }

-- and is normalized at each exponent of the format
pub normalized : (f : Format) (k m : ℕ) → HasBits (prec f) m → suc k < ones f → Normalized f k m
normalized f k m b h =
    let t : m - hid f < hid f = omega (arith, two_hid f, b.most, b.least) in
    record { least = b.least; most = omega (arith, b.most); few = lt_of_le_of_lt (omega (arith, b.least)) (digits_lt h t) }
