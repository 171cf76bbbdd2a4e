-- Laws of products, whatever the device: significand and binade by the steps of binade 0; n bits, in binade 0 or 1; the size's, whatever the factor's sign. Assumes nothing.
use Rattle.std.specs.Prelude.{◌≡◌, refl, Bool, ℕ, zero, suc, ◌*◌, ◌/◌, ◌^◌, ◌≤◌, ◌<◌}
use Rattle.std.proofs.Common.{ap, mul-le-mul_left, arith, pow_pos}
use Rattle.std.proofs.Math.Nat.{pow-succ'}
use Rattle.rounding.proofs.Digits.{pow_half}
use Rattle.rounding.specs.Round.{HasBits}
use Rattle.factor.specs.declared.Factor.{Factor}
use Rattle.factor.specs.SetUp.{Sound}
use Rattle.factor.proofs.Signs.{factor_as}
use Rattle.product.specs.declared.Device.{Device}
use Rattle.product.specs.declared.Product.{Product}
use Rattle.product.specs.Product.{steps_of}
use Rattle.product.specs.Devices.{product_on, directed_on}
use Rattle.product.proofs.SoundLaws.{sound_product}
use Rattle.product.proofs.OneStepLaws.{sound_one_step}

-- ---- a product by its steps: significand and binade
module _ (n : ℕ) (P : 0 < n) (v : Product) (bits : HasBits n v.significand) (b : v.binade ≤ 1) (s : ℕ) (e : s ≡ steps_of v) where
  pub by_steps_low : s < 2 ^ n → ◌≡◌ {A = Product} (record { significand = s; binade = 0 }) v
  by_steps_low l = go v.binade v.significand b bits e
    where
      go : (j t : ℕ) → j ≤ 1 → HasBits n t → s ≡ t * 2 ^ j → ◌≡◌ {A = Product} (record { significand = s; binade = 0 }) (record { significand = t; binade = j })
      go zero t h k q = let r : s ≡ t = omega arith in λ i. record { significand = r i; binade = 0 }
      go (suc j) t h k q = absurd (omega (arith, pow_half n P, k.least, mul-le-mul_left t (pow_pos j), ap (λ (z : ℕ). t * z) (pow-succ' 2 j)))

  pub by_steps_high : 2 ^ n ≤ s → ◌≡◌ {A = Product} (record { significand = s / 2; binade = 1 }) v
  by_steps_high l = go v.binade v.significand b bits e
    where
      go : (j t : ℕ) → j ≤ 1 → HasBits n t → s ≡ t * 2 ^ j → ◌≡◌ {A = Product} (record { significand = s / 2; binade = 1 }) (record { significand = t; binade = j })
      go zero t h k q = absurd (omega (arith, k.most))
      go (suc zero) t h k q = let r : s / 2 ≡ t = omega (arith, q) in λ i. record { significand = r i; binade = 1 }
      go (suc (suc j)) t h k q = absurd (omega arith)

-- ---- on either device
-- a product of a significand: n bits, in binade 0 or 1
pub record Formed (n : ℕ) (v : Product) : Type 0 where
  pub bits : HasBits n v.significand
  pub binade : v.binade ≤ 1

pub formed : (d : Device) (f : Factor) → Sound f → (X : ℕ) → HasBits f.precision X → Formed f.precision (product_on d f X)
formed Device.TwoStep f s X x = let is = sound_product f s X x in record { bits = is.bits; binade = is.binade }
formed Device.OneStep f s X x = let is = sound_one_step f s X x in record { bits = is.bits; binade = is.binade }

-- with whatever sign the factor has, it and its direction are the size's
pub sized : (s : Bool) (d : Device) (f : Factor) (X : ℕ) → directed_on d (factor_as s f) X ≡ directed_on d f X
sized s Device.TwoStep f X = refl
sized s Device.OneStep f X = refl
