-- Small laws that the proofs of several functions cite. Assumes nothing.
use Prim.Native.Nat.{ℕ, ◌*◌, ◌^◌, ◌≤◌, ◌<◌}
use native.Mathlib.Nat.{mul-le-mul_left, lt_of_lt_of_le}
use native.Mathlib.Omega.{arith}
use lib.Pow.{pow_mono}
use Rattle.factor.specs.Precision.{ValidPrecision}

-- a product by its steps is one word
pub steps_word : (n s b : ℕ) → ValidPrecision n → s < 2 ^ n → b ≤ 1 → s * 2 ^ b < 2 ^ 64
steps_word n s b N h k =
    let t : 2 ^ b ≤ 2 ^ 1 = pow_mono k in
    let w : 2 ^ n ≤ 2 ^ 32 = pow_mono {i = n} {j = 32} (omega (arith, N)) in
    omega (arith, mul-le-mul_left s t, lt_of_lt_of_le h w)
