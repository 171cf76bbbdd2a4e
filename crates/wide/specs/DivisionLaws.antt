-- Long division by a divisor of two digits to any base B: the estimate of a digit and its correction, then digit after digit. Assumes nothing.
use Rattle.std.specs.Prelude.{◌≡◌, ℕ, ◌+◌, ◌-◌, ◌*◌, ◌/◌, ◌%◌, ◌^◌, ◌≤◌, ◌<◌}
use Rattle.std.proofs.Common.{sym, ap, ◌∙◌, lt_trans, lt_of_le_of_lt, le-add_right, add-mul, mul-add, mul_assoc, mul_comm, mul_right_comm, mul-le-mul_left, mul-le-mul_right, mul-lt-mul_of_pos_right, lt_of_mul-lt-mul_right, div-add-mod', mod-lt, div-lt_iff_lt-mul, lt_of_lt_of_le, le_of_eq, arith, pow-add, pow_pos}
use Rattle.std.proofs.Math.Arith.{digits_lt, digits_div, digits_mod}
use Rattle.wide.specs.Division.{Normal, Estimate}
use Rattle.wide.specs.ShiftLaws.{spare}

-- Quotient and remainder are the only two numbers that make n with a remainder below d.
pub divided_by : (n d q r : ℕ) → q * d + r ≡ n → r < d → (q ≡ n / d) × (r ≡ n % d)
divided_by n d q r e below =
    (sym (digits_div q below) ∙ ap (λ (x : ℕ). x / d) e, sym (digits_mod q below) ∙ ap (λ (x : ℕ). x % d) e)

-- The quotient is one digit where the high part is below the divisor.
pub quotient_lt : (B h l d : ℕ) → h < d → l < B → (h * B + l) / d < B
quotient_lt B h l d high low =
    (div-lt_iff_lt-mul {k = d} (omega arith)).1 (lt_of_lt_of_le (digits_lt high low) (le_of_eq (mul_comm d B)))

-- One digit of the quotient of h * B + l by d, where the divisor's upper digit is at least half the base.
module _ (B d h l : ℕ) (half : B ≤ 2 * (d / B)) (high : h < d) (low : l < B) where
  upper_pos : 0 < d / B
  upper_pos = omega arith

  whole : d / B * B + d % B ≡ d
  whole = div-add-mod' d B

  lower_lt : d % B < B
  lower_lt = let pos : 0 < B = omega arith in mod-lt d pos

  estimate_le : h / (d / B) ≤ B + 1
  estimate_le =
      let less : h / (d / B) < B + 2 = (div-lt_iff_lt-mul upper_pos).1 (simp add-mul (omega (arith, whole, lower_lt, mul_comm B (d / B)))) in
      omega arith

  -- What the estimate takes off the low digits fits two digits.
  pub taken_fits : h / (d / B) * (d % B) < B * B
  taken_fits =
      let most = mul-le-mul_right (d % B) estimate_le in
      let room : B * (d % B + 1) ≤ B * B = mul-le-mul_left B (omega (arith, lower_lt)) in
      omega (arith, simp add-mul at most, simp mul-add at room, lower_lt)

  -- The high part over the divisor's upper digit is an estimate.
  pub estimated : Estimate (h * B + l) d (h / (d / B)) (h % (d / B) * B + l) (h / (d / B) * (d % B))
  estimated =
      let spread = ap (λ (x : ℕ). h / (d / B) * x) whole in
      let parts = ap (λ (x : ℕ). x * B) (div-add-mod' h (d / B)) in
      record {
        sum = omega (arith, simp mul-add at spread, simp add-mul at parts, mul_assoc (h / (d / B)) (d / B) B);
        left_lt = lt_of_lt_of_le (digits_lt (mod-lt h upper_pos) low) (omega (arith, whole));
        taken_lt = omega (arith, taken_fits, mul-le-mul_right B half, mul_assoc 2 (d / B) B, whole);
      }

module _ {n d estimate left taken : ℕ} (known : Estimate n d estimate left taken) where
  -- It is the quotient where no less is left than has to be taken.
  pub estimate_right : taken ≤ left → (estimate ≡ n / d) × (left - taken ≡ n % d)
  estimate_right there = divided_by n d estimate (left - taken) (omega arith) (omega arith)

  above : (c : ℕ) → c * d + left < taken → c < estimate
  above c lacks = lt_of_mul-lt-mul_right d (omega arith)

  less_by : (c r : ℕ) → c ≤ estimate → r + taken ≡ left + c * d → r < d → (estimate - c ≡ n / d) × (r ≡ n % d)
  less_by c r few rest below =
      let e : estimate - c + c ≡ estimate = omega arith in
      divided_by n d (estimate - c) r (omega (arith, simp add-mul at (ap (λ (x : ℕ). x * d) e))) below

  -- It is not 0 where less is left.
  pub at_least_one : left < taken → 1 ≤ estimate
  at_least_one lacks = above 0 (omega arith)

  -- It is 1 too large where d makes up for what lacks.
  pub one_too_large : left < taken → taken - left ≤ d → (estimate - 1 ≡ n / d) × (d - (taken - left) ≡ n % d)
  one_too_large lacks within = less_by 1 (d - (taken - left)) (at_least_one lacks) (omega arith) (omega arith)

  -- It is not 1 where d does not.
  pub at_least_two : d < taken - left → 2 ≤ estimate
  at_least_two lacks = above 1 (omega arith)

  -- Twice d always does.
  pub twice_enough : taken - left - d ≤ d
  twice_enough = omega arith

  -- It is 2 too large where d does not.
  pub two_too_large : d < taken - left → (estimate - 2 ≡ n / d) × (d - (taken - left - d) ≡ n % d)
  two_too_large lacks = less_by 2 (d - (taken - left - d)) (at_least_two lacks) (omega arith) (omega arith)

-- Digit after digit: the remainder r of the high digits a goes before the next digit m.
pub divided_next : (B d a m q r q' r' : ℕ) → 0 < d → q ≡ a / d → r ≡ a % d → q' ≡ (r * B + m) / d → r' ≡ (r * B + m) % d
    → (q * B + q' ≡ (a * B + m) / d) × (r' ≡ (a * B + m) % d)
divided_next B d a m q r q' r' pos eq er eq' er' =
    let first : q * d + r ≡ a = rw (eq, er) (div-add-mod' a d) in
    let next : q' * d + r' ≡ r * B + m = rw (eq', er') (div-add-mod' (r * B + m) d) in
    divided_by (a * B + m) d (q * B + q') r' (simp add-mul (omega (arith, mul_right_comm q B d, simp add-mul at (ap (λ (x : ℕ). x * B) first))))
    (rw er' (mod-lt (r * B + m) pos))

-- Dividend and divisor times s: the same quotient, and s times the remainder.
pub divided_scaled : (n d s : ℕ) → 0 < d → 0 < s → (n / d ≡ n * s / (d * s)) × (n % d * s ≡ n * s % (d * s))
divided_scaled n d s pos some =
    divided_by (n * s) (d * s) (n / d) (n % d * s)
    (omega (arith, mul_assoc (n / d) d s, simp add-mul at (ap (λ (x : ℕ). x * s) (div-add-mod' n d))))
    (mul-lt-mul_of_pos_right (mod-lt n pos) some)

-- A dividend of a high part below d and a low part to the base W, times s, is below the divisor times s and W.
raised_lt : (W h l d s : ℕ) → h < d → l < W → 0 < s → (h * W + l) * s < d * s * W
raised_lt W h l d s high low some = lt_of_lt_of_le (mul-lt-mul_of_pos_right (digits_lt high low) some) (le_of_eq (mul_right_comm d W s))

-- So its high part stays below the divisor times s.
pub raised_high_lt : (W h l d s h' l' : ℕ) → h < d → l < W → 0 < s → h' * W + l' ≡ (h * W + l) * s → h' < d * s
raised_high_lt W h l d s h' l' high low some e =
    lt_of_mul-lt-mul_right W (lt_of_le_of_lt (le-add_right (h' * W) l') (lt_of_le_of_lt (le_of_eq e) (raised_lt W h l d s high low some)))

-- And shifted with a divisor made normal it loses no digit of two parts.
pub raised_room : (w h l d k : ℕ) → h < d → l < 2 ^ w → Normal w d k → h * 2 ^ w + l < 2 ^ (w + w - k)
raised_room w h l d k high low normal =
    spare (w + w) k (h * 2 ^ w + l) (omega arith)
    (lt_trans (raised_lt (2 ^ w) h l d (2 ^ k) high low (pow_pos k))
    (lt_of_lt_of_le (mul-lt-mul_of_pos_right normal.fits (pow_pos w)) (le_of_eq (sym (pow-add 2 w w)))))
