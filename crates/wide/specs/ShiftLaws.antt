-- A number of a high part h and a low part l of w binary digits, times and over 2 ^ k, by its parts: k is within the low part, or past it.
-- Assumes nothing.
use Rattle.std.specs.Prelude.{◌≡◌, ℕ, suc, ◌+◌, ◌-◌, ◌*◌, ◌/◌, ◌%◌, ◌^◌, ◌≤◌, ◌<◌}
use Rattle.std.proofs.Common.{sym, ap, ap₂, ◌∙◌, subst, add-mul, add-zero, mul_assoc, mul_comm, mul_right_comm, mod-lt, div-add-mod', lt_of_le_of_lt, lt_of_lt_of_le, lt_of_mul-lt-mul_right, le_of_eq, le-add_right, arith, pow-add, pow_pos, pow_mono, shl_lt, shr_lt, shr-shr}
use Rattle.std.proofs.Math.Nat.{mul-div-mul_right, mul-add-div_right, mul-add-mod_self_right, mul-mod_left, div-div-eq-div-mul, pow-succ'}
use Rattle.std.proofs.Math.Arith.{digits_lt}
use Rattle.std.proofs.lemmas.Nat.{shl-shr, mod-pow-add}
use Rattle.std.proofs.Math.Pow.{high, low}
use Rattle.wide.specs.OrderLaws.{below_base}

-- 2 ^ w by two factors.
pub power_split : (w k : ℕ) → k ≤ w → 2 ^ w ≡ 2 ^ (w - k) * 2 ^ k
power_split w k hk = let e : w ≡ w - k + k = omega arith in ap (λ (x : ℕ). 2 ^ x) e ∙ pow-add 2 (w - k) k

-- A number that fits w digits when shifted by k has k digits to spare.
pub spare : (w k x : ℕ) → k ≤ w → x * 2 ^ k < 2 ^ w → x < 2 ^ (w - k)
spare w k x hk fits = lt_of_mul-lt-mul_right (2 ^ k) (lt_of_lt_of_le fits (le_of_eq (power_split w k hk)))

-- 2 ^ (w - k) by one step, which leaves a shift that is below w.
power_step : (w k : ℕ) → k < w → 2 ^ (w - k) ≡ 2 * 2 ^ (w - 1 - k)
power_step w k hk = let e : w - k ≡ suc (w - 1 - k) = omega arith in ap (λ (x : ℕ). 2 ^ x) e ∙ pow-succ' 2 (w - 1 - k)

-- The k highest of w digits, by two shifts of which each is below w.
pub top_digits : (w k l : ℕ) → k < w → l / 2 / 2 ^ (w - 1 - k) ≡ l / 2 ^ (w - k)
top_digits w k l hk = div-div-eq-div-mul l 2 (2 ^ (w - 1 - k)) ∙ ap (λ (x : ℕ). l / x) (sym (power_step w k hk))

-- What a shift to the left by w - k leaves of w digits is the k lowest.
lowest_left : (w k h : ℕ) → k ≤ w → h * 2 ^ (w - k) % 2 ^ w ≡ h % 2 ^ k * 2 ^ (w - k)
lowest_left w k h hk =
    ap (λ (x : ℕ). h * 2 ^ (w - k) % 2 ^ x) (omega arith)
    ∙ mod-pow-add (h * 2 ^ (w - k)) k (w - k)
    ∙ ap (λ (x : ℕ). x % 2 ^ k * 2 ^ (w - k) + h * 2 ^ (w - k) % 2 ^ (w - k)) (shl-shr h (w - k))
    ∙ ap (λ (x : ℕ). h % 2 ^ k * 2 ^ (w - k) + x) (mul-mod_left h (2 ^ (w - k)))
    ∙ add-zero (h % 2 ^ k * 2 ^ (w - k))

-- A factor under the remainder may be cut to its own remainder.
cut_factor : (m a b : ℕ) → a % m * b % m ≡ a * b % m
cut_factor m a b =
    sym
    (ap (λ (x : ℕ). x * b % m) (sym (div-add-mod' a m)) ∙ ap (λ (x : ℕ). x % m) (add-mul (a / m * m) (a % m) b ∙ ap (λ (x : ℕ). x + a % m * b) (mul_right_comm (a / m) m b))
    ∙ mul-add-mod_self_right (a / m * b) m (a % m * b))

-- The k lowest digits at the top of w, by two shifts of which each is below w.
pub low_at_top : (w k h : ℕ) → k < w → h * 2 % 2 ^ w * 2 ^ (w - 1 - k) % 2 ^ w ≡ h % 2 ^ k * 2 ^ (w - k)
low_at_top w k h hk =
    cut_factor (2 ^ w) (h * 2) (2 ^ (w - 1 - k))
    ∙ ap (λ (x : ℕ). x % 2 ^ w) (mul_assoc h 2 (2 ^ (w - 1 - k)) ∙ ap (λ (x : ℕ). h * x) (sym (power_step w k hk)))
    ∙ lowest_left w k h (omega arith)

module _ (w k h l : ℕ) where
  -- Times 2 ^ k within the low part: its k highest digits cross to the high part.
  pub left_within : k ≤ w → (h * 2 ^ k + l / 2 ^ (w - k)) * 2 ^ w + l * 2 ^ k % 2 ^ w ≡ (h * 2 ^ w + l) * 2 ^ k
  left_within hk =
      let crossing : l / 2 ^ (w - k) * 2 ^ w + l * 2 ^ k % 2 ^ w ≡ l * 2 ^ k =
      ap (λ (x : ℕ). x * 2 ^ w + l * 2 ^ k % 2 ^ w) (sym (ap (λ (x : ℕ). l * 2 ^ k / x) (power_split w k hk) ∙ mul-div-mul_right l (2 ^ (w - k)) (pow_pos k)))
      ∙ div-add-mod' (l * 2 ^ k) (2 ^ w) in
      simp add-mul (omega (arith, mul_right_comm h (2 ^ k) (2 ^ w)))

  -- The high part so made fits w digits where the number has k digits to spare.
  pub left_within_lt : k ≤ w → h * 2 ^ w + l < 2 ^ (w + w - k) → h * 2 ^ k + l / 2 ^ (w - k) < 2 ^ w
  left_within_lt hk room =
      lt_of_mul-lt-mul_right (2 ^ w)
      (lt_of_le_of_lt (le-add_right _ (l * 2 ^ k % 2 ^ w))
      (lt_of_le_of_lt (le_of_eq (left_within hk)) (lt_of_lt_of_le (shl_lt (w + w - k) k room) (le_of_eq (ap (λ (x : ℕ). 2 ^ x) (omega arith) ∙ pow-add 2 w w)))))

  -- Times 2 ^ k past the low part: the high part is 0 where no digit is lost, and the low part becomes the high one.
  pub left_past : w ≤ k → h * 2 ^ w + l < 2 ^ (w + w - k) → l * 2 ^ (k - w) * 2 ^ w ≡ (h * 2 ^ w + l) * 2 ^ k
  left_past hk room =
      mul_assoc l (2 ^ (k - w)) (2 ^ w) ∙ ap (λ (x : ℕ). l * x) (sym (power_split k w hk))
      ∙ ap (λ (x : ℕ). x * 2 ^ k) (below_base (2 ^ w) h l (lt_of_lt_of_le room (pow_mono {i = w + w - k} {j = w} (omega arith))))

  -- The high part so made fits w digits too.
  pub left_past_lt : w ≤ k → k ≤ w + w → h * 2 ^ w + l < 2 ^ (w + w - k) → l * 2 ^ (k - w) < 2 ^ w
  left_past_lt hk most room =
      lt_of_lt_of_le (shl_lt (w + w - k) (k - w) (lt_of_le_of_lt (omega arith) room)) (le_of_eq (ap (λ (x : ℕ). 2 ^ x) (omega arith)))

  apart : k ≤ w → h * 2 ^ w + l ≡ h * 2 ^ (w - k) * 2 ^ k + l
  apart hk = ap (λ (x : ℕ). h * x + l) (power_split w k hk) ∙ ap (λ (x : ℕ). x + l) (sym (mul_assoc h (2 ^ (w - k)) (2 ^ k)))

  -- Over 2 ^ k within the low part: the k lowest digits of the high part cross to it.
  pub right_within : k ≤ w → h / 2 ^ k * 2 ^ w + (h % 2 ^ k * 2 ^ (w - k) + l / 2 ^ k) ≡ (h * 2 ^ w + l) / 2 ^ k
  right_within hk =
      let kept : h / 2 ^ k * 2 ^ w ≡ h / 2 ^ k * 2 ^ k * 2 ^ (w - k) =
      ap (λ (x : ℕ). h / 2 ^ k * x) (power_split w k hk) ∙ sym (mul_assoc (h / 2 ^ k) (2 ^ (w - k)) (2 ^ k)) ∙ mul_right_comm (h / 2 ^ k) (2 ^ (w - k)) (2 ^ k) in
      let crossing : h / 2 ^ k * 2 ^ w + h % 2 ^ k * 2 ^ (w - k) ≡ h * 2 ^ (w - k) =
      omega (arith, simp add-mul at (ap (λ (x : ℕ). x * 2 ^ (w - k)) (div-add-mod' h (2 ^ k)))) in
      sym (ap (λ (x : ℕ). x / 2 ^ k) (apart hk) ∙ mul-add-div_right (pow_pos k) (h * 2 ^ (w - k)) l ∙ omega arith)

  -- The low part so made fits w digits.
  pub right_within_lt : k ≤ w → l < 2 ^ w → h % 2 ^ k * 2 ^ (w - k) + l / 2 ^ k < 2 ^ w
  right_within_lt hk hl =
      let kept : l / 2 ^ k < 2 ^ (w - k) = shr_lt (w - k) k (subst (λ (x : ℕ). l < 2 ^ x) (omega arith) hl) in
      lt_of_lt_of_le (digits_lt (mod-lt h (pow_pos k)) kept) (le_of_eq (mul_comm (2 ^ k) (2 ^ (w - k)) ∙ sym (power_split w k hk)))

  -- Over 2 ^ k past the low part: the high part's digits from there on.
  pub right_past : w ≤ k → l < 2 ^ w → h / 2 ^ (k - w) ≡ (h * 2 ^ w + l) / 2 ^ k
  right_past hk hl =
      sym (ap (λ (x : ℕ). (h * 2 ^ w + l) / 2 ^ x) (omega arith) ∙ sym (shr-shr (h * 2 ^ w + l) w (k - w)) ∙ ap (λ (x : ℕ). x / 2 ^ (k - w)) (high h w hl))

  -- The k lowest digits, within the low part.
  pub lowest_within : k ≤ w → l % 2 ^ k ≡ (h * 2 ^ w + l) % 2 ^ k
  lowest_within hk = sym (ap (λ (x : ℕ). x % 2 ^ k) (apart hk) ∙ mul-add-mod_self_right (h * 2 ^ (w - k)) (2 ^ k) l)

  -- The k lowest digits, past the low part.
  pub lowest_past : w ≤ k → l < 2 ^ w → h % 2 ^ (k - w) * 2 ^ w + l ≡ (h * 2 ^ w + l) % 2 ^ k
  lowest_past hk hl =
      sym
      (ap (λ (x : ℕ). (h * 2 ^ w + l) % 2 ^ x) (omega arith) ∙ mod-pow-add (h * 2 ^ w + l) (k - w) w
      ∙ ap₂ (λ (x y : ℕ). x % 2 ^ (k - w) * 2 ^ w + y) (high h w hl) (low h w hl))
