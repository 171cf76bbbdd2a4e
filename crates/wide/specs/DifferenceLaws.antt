-- One number of a high and a low part to any base W taken from another, by parts. Assumes nothing.
use Rattle.std.specs.Prelude.{◌≡◌, ℕ, ◌+◌, ◌-◌, ◌*◌, ◌≤◌, ◌<◌}
use Rattle.std.proofs.Common.{ap, add-mul, lt_of_mul-lt-mul_right, arith}

-- The number that is no larger has no larger high part.
pub high_part_le : (W uh ul vh vl : ℕ) → vh * W + vl ≤ uh * W + ul → ul < W → vh ≤ uh
high_part_le W uh ul vh vl order hu =
    let high : vh < uh + 1 = lt_of_mul-lt-mul_right W (simp add-mul (omega arith)) in
    omega arith

-- Where its low part is larger, its high part is smaller, so that one can be borrowed.
pub high_part_lt : (W uh ul vh vl : ℕ) → vh * W + vl ≤ uh * W + ul → ul < vl → vh < uh
high_part_lt W uh ul vh vl order low = lt_of_mul-lt-mul_right W (omega arith)

-- Part is taken from part.
pub difference_by_parts : (W uh ul vh vl : ℕ) → vh ≤ uh → vl ≤ ul → (uh - vh) * W + (ul - vl) ≡ uh * W + ul - (vh * W + vl)
difference_by_parts W uh ul vh vl high low =
    let e : uh - vh + vh ≡ uh = omega arith in
    omega (arith, simp add-mul at (ap (λ (x : ℕ). x * W) e))

-- Part is taken from part, with one of the high part borrowed for the low part. W itself, which no part holds, is W - 1 and 1.
pub difference_by_borrow : (W uh ul vh vl : ℕ) → vh < uh → ul < vl → vl < W
    → (uh - vh - 1) * W + (W - 1 - (vl - ul) + 1) ≡ uh * W + ul - (vh * W + vl)
difference_by_borrow W uh ul vh vl high low hv =
    let e : uh - vh - 1 + vh + 1 ≡ uh = omega arith in
    omega (arith, simp add-mul at (ap (λ (x : ℕ). x * W) e))
