-- Digits that are printed are read back, and what is read is what would be printed. Assumes nothing.
use Rattle.std.specs.Prelude.{◌≡◌, refl, Bool, true, false, cond, List, [], ◌∷◌, ℕ, zero, suc, ◌+◌, ◌-◌, ◌*◌, ◌/◌, ◌%◌, ◌^◌, ◌≤◌, ◌<◌, leb, length, Option, Some, None}
use Rattle.std.proofs.Common.{sym, ap, ap₂, ◌∙◌, mod-lt, div-one, pow-suc, div-lt_iff_lt-mul, add-mul, mul_assoc, add_assoc, arith, lt-ltb, le-ltb, leb-true, le-leb}
use Rattle.std.proofs.Math.Bool.{and-false}
use Rattle.std.proofs.Math.Nat.{mod-one, div-div-eq-div-mul, pow-succ', one-le-pow}
use Rattle.std.proofs.Math.Decide.{dec_lt}
use Rattle.std.proofs.Math.Arith.{digits_div, digits_mod, mod-mul}
use Rattle.std.proofs.lemmas.Bool.{lt-leb}
use Rattle.marks.specs.AnswerLaws.{and_true}
use Rattle.frame.specs.Digits.{digit_byte, digits, hex_digits, between, digit_value, and_then, value_after}

-- ---- the test
pub between_in : (l h b : ℕ) → l ≤ b → b ≤ h → between l h b ≡ true
between_in l h b p q = simp (le-leb l b p, le-leb b h q)

between_tells : (l h b : ℕ) → between l h b ≡ true → (l ≤ b) × (b ≤ h)
between_tells l h b e = let t = and_true (leb l b) (leb b h) e in (leb-true l b t.0, leb-true b h t.1)

-- ---- one digit
-- The digits up to nine, and those from ten on.
pub low_byte : (d : ℕ) → d < 10 → digit_byte d ≡ 48 + d
unfolding digit_byte
low_byte d h = rw (lt-ltb d 10 h)

pub high_byte : (d : ℕ) → 10 ≤ d → digit_byte d ≡ 65 + (d - 10)
unfolding digit_byte
high_byte d h = rw (le-ltb d 10 h)

-- The bytes of the digits up to nine, and those of the digits from ten on.
pub low_value : (b : ℕ) → 48 ≤ b → b ≤ 57 → digit_value b ≡ Some (b - 48)
unfolding digit_value
low_value b p q = rw (between_in 48 57 b p q)

pub high_value : (b : ℕ) → 65 ≤ b → b ≤ 70 → digit_value b ≡ Some (10 + (b - 65))
unfolding digit_value
high_value b p q = simp (lt-leb b 57 (omega arith), and-false, between_in 65 70 b p q)

-- A digit that is printed is read.
pub digit_read : (d : ℕ) → d < 16 → digit_value (digit_byte d) ≡ Some d
digit_read d h = by (dec_lt d 10)
  where
    by : Dec (d < 10) → digit_value (digit_byte d) ≡ Some d
    by (yes p) = ap digit_value (low_byte d p) ∙ low_value (48 + d) (omega arith) (omega arith) ∙ ap Some (omega arith)
    by (no q) =
        ap digit_value (high_byte d (omega (arith, q))) ∙ high_value (65 + (d - 10)) (omega arith) (omega (arith, q)) ∙ ap Some (omega (arith, q))

-- A field is not both.
pub read_nothing : (f : Option ℕ) (v : ℕ) → f ≡ None → f ≡ Some v → ⊥
read_nothing f v p q = let z : ◌≡◌ {A = ℕ} 0 1 = cc in omega arith

-- A digit that is read is the one that is printed.
pub digit_printed : (b d : ℕ) → digit_value b ≡ Some d → (digit_byte d ≡ b) × (d < 16)
unfolding digit_value
digit_printed b d e = by (between 48 57 b) refl (between 65 70 b) refl e
  where
    by : (s : Bool) → between 48 57 b ≡ s → (t : Bool) → between 65 70 b ≡ t → cond s (Some (b - 48)) (cond t (Some (10 + (b - 65))) None) ≡ Some d → (digit_byte d ≡ b) × (d < 16)
    by true p t q e =
        let within = between_tells 48 57 b p in
        let f : b - 48 ≡ d = cc in
        (low_byte d (omega arith) ∙ omega arith, omega arith)
    by false p true q e =
        let within = between_tells 65 70 b q in
        let f : 10 + (b - 65) ≡ d = cc in
        (high_byte d (omega arith) ∙ omega arith, omega arith)
    by false p false q e = absurd (read_nothing None d refl e)

-- ---- several digits
-- There are w of them.
pub length_digits : (base w v : ℕ) → length (digits base w v) ≡ w
unfolding digits
length_digits base zero v = refl
length_digits base (suc w) v = ap suc (length_digits base w v)

-- Digits that are printed are read, after others whose value is u.
pub value_read : (w u v : ℕ) → value_after u (hex_digits w v) ≡ Some (u * 16 ^ w + v % 16 ^ w)
unfolding digits value_after
value_read zero u v = ap Some (omega (arith, mod-one v))
value_read (suc w) u v =
    let d = v / 16 ^ w % 16 in
    ap (λ (f : Option ℕ). and_then f (λ (x : ℕ). value_after (u * 16 + x) (hex_digits w v))) (digit_read d (mod-lt (v / 16 ^ w) (omega arith)))
    ∙ value_read w (u * 16 + d) v
    ∙ ap Some (simp (pow-succ', mod-mul v {m = 16} (omega arith) (one-le-pow w 16 (omega arith)), add-mul, mul_assoc, add_assoc))

-- What digits were that were read after others whose value was u.
pub record Printed (bytes : List ℕ) (u v : ℕ) : Type 0 where
  pub same : hex_digits (length bytes) v ≡ bytes
  pub above : v / 16 ^ length bytes ≡ u

-- Digits that are read are the ones that are printed, and without them the value is the one before.
pub value_printed : (bytes : List ℕ) (u v : ℕ) → value_after u bytes ≡ Some v → Printed bytes u v
unfolding digits value_after
value_printed [] u v e = let f : u ≡ v = cc in record { same = refl; above = div-one v ∙ sym f }
value_printed (b ∷ bytes) u v e = by (digit_value b) refl e (λ (d : ℕ). value_printed bytes (u * 16 + d) v)
  where
    n : ℕ
    n = length bytes

    by : (f : Option ℕ) → digit_value b ≡ f → and_then f (λ (d : ℕ). value_after (u * 16 + d) bytes) ≡ Some v
        → ((d : ℕ) → value_after (u * 16 + d) bytes ≡ Some v → Printed bytes (u * 16 + d) v) → Printed (b ∷ bytes) u v
    by (Some d) h g rest =
        let digit = digit_printed b d h in
        let r = rest d g in
        let first : digit_byte (v / 16 ^ n % 16) ≡ b = ap (λ (x : ℕ). digit_byte (x % 16)) r.above ∙ ap digit_byte (digits_mod u digit.1) ∙ digit.0 in
        record {
          same = ap₂ ◌∷◌ first r.same;
          above = ap (λ (p : ℕ). v / p) (pow-suc 16 n) ∙ sym (div-div-eq-div-mul v (16 ^ n) 16) ∙ ap (λ (x : ℕ). x / 16) r.above ∙ digits_div u digit.1;
        }
    by None h g rest = absurd (read_nothing None v refl g)

-- Digits that are read after none are below 16 to their number.
pub value_below : (bytes : List ℕ) (v : ℕ) → value_after 0 bytes ≡ Some v → v < 16 ^ length bytes
value_below bytes v e =
    let P = one-le-pow (length bytes) 16 (omega arith) in
    let h : v / 16 ^ length bytes < 1 = omega (arith, (value_printed bytes 0 v e).above) in
    omega (arith, (div-lt_iff_lt-mul P).0 h)
