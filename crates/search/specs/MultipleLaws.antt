-- Rounding up to a multiple, and a window that no multiple lies in. Assumes nothing.
use Rattle.std.specs.Prelude.{◌≡◌, ℕ, suc, ◌+◌, ◌-◌, ◌*◌, ◌%◌, ◌≤◌, ◌<◌}
use Rattle.std.proofs.Common.{sym, ap, ◌∙◌, mod-eq_of_lt, div-lt_iff_lt-mul, div-mul-le_self, arith}
use Rattle.std.proofs.Math.Nat.{add-mod_right, lt-div-mul-add}
use Rattle.std.proofs.Math.Arith.{digits_mod}
use Rattle.search.specs.Search.{ceil_div, neg_mod}
use Rattle.search.specs.Cases.{Between}

-- The multiple is at least what was rounded up.
pub ceil_div_ge : (a s : ℕ) → 0 < s → a ≤ ceil_div a s * s
unfolding ceil_div
ceil_div_ge a s p = omega (arith, lt-div-mul-add {a = a + (s - 1)} p)

-- The multiple is less than one step above it.
pub ceil_div_lt : (a s : ℕ) → 0 < s → ceil_div a s * s < a + s
unfolding ceil_div
ceil_div_lt a s p = omega (arith, div-mul-le_self (a + (s - 1)) s)

-- No smaller multiple is at least that.
pub ceil_div_le : (a s x : ℕ) → 0 < s → a ≤ x * s → ceil_div a s ≤ x
unfolding ceil_div
ceil_div_le a s x p h = omega (arith, (div-lt_iff_lt-mul {x = a + (s - 1)} {y = suc x} p).1 (omega arith))

neg_mod_under : (a c s : ℕ) → a < c * s → c * s < a + s → neg_mod a s ≡ c * s - a
unfolding neg_mod
neg_mod_under a c s lt gt =
    let rem : a % s ≡ a + s - c * s = sym (add-mod_right a s) ∙ ap (λ (n : ℕ). n % s) (omega arith) ∙ digits_mod c {m = s} {r = a + s - c * s} (omega arith) in
    mod-eq_of_lt {n = s - a % s} {m = s} (omega (arith, rem)) ∙ omega (arith, rem)

-- Where the first multiple from l on is past r, no multiple lies from l to r.
pub between : (s l r : ℕ) → 0 < s → l ≤ r → ¬ (ceil_div l s * s ≤ r) → Between s l r (ceil_div l s)
between s l r p lr none =
    let low = ceil_div_lt l s p in
    record {
      low = low;
      high = omega arith;
      next_low = neg_mod_under r (ceil_div l s) s (omega arith) (omega (arith, low));
      next_high = neg_mod_under l (ceil_div l s) s (omega arith) low;
    }
