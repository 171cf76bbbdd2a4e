-- Distances and comparisons go along with factors. Assumes nothing.
use Rattle.std.specs.Prelude.{◌≡◌, ℕ, ◌-◌, ◌*◌, ◌≤◌, ◌<◌, ltb, eqb}
use Rattle.std.proofs.Common.{sym, ap, ◌∙◌, mul-add, mul_comm, mul-lt-mul_of_pos_right, mul-le-mul_right, arith, lt-ltb, le-ltb, eq-eqb, ne_eqb}
use Rattle.std.proofs.Math.Nat.{mul-sub, eq_of_mul-eq-mul_right}
use Rattle.std.proofs.Math.Decide.{dec_lt, ℕ_discrete}
use Rattle.rounding.specs.Apart.{apart}

pub apart_mul : (a b c : ℕ) → apart a b * c ≡ apart (a * c) (b * c)
apart_mul a b c = mul_comm (apart a b) c ∙ mul-add c (a - b) (b - a) ∙ rw (mul-sub c a b, mul-sub c b a, mul_comm c a, mul_comm c b)

pub ltb_scale : (a b c : ℕ) → 0 < c → ltb (a * c) (b * c) ≡ ltb a b
ltb_scale a b c C = go (dec_lt a b)
  where
    go : Dec (a < b) → ltb (a * c) (b * c) ≡ ltb a b
    go (yes h) = lt-ltb (a * c) (b * c) (mul-lt-mul_of_pos_right h C) ∙ sym (lt-ltb a b h)
    go (no h) = let l : b ≤ a = omega arith in le-ltb (a * c) (b * c) (mul-le-mul_right c l) ∙ sym (le-ltb a b l)

pub eqb_scale : (a b c : ℕ) → 0 < c → eqb (a * c) (b * c) ≡ eqb a b
eqb_scale a b c C = go (ℕ_discrete a b)
  where
    go : Dec (a ≡ b) → eqb (a * c) (b * c) ≡ eqb a b
    go (yes h) = eq-eqb (a * c) (b * c) (ap (λ (z : ℕ). z * c) h) ∙ sym (eq-eqb a b h)
    go (no h) = ne_eqb (a * c) (b * c) (λ e. h (eq_of_mul-eq-mul_right c C a b e)) ∙ sym (ne_eqb a b h)
