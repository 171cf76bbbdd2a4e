-- The mirror and the round, on places with their windings. Assumes nothing.
use Rattle.std.specs.Prelude.{◌≡◌, ℕ, suc, ◌+◌, ◌-◌, ◌*◌, ◌/◌, ◌%◌, ◌≤◌, ◌<◌}
use Rattle.std.proofs.Common.{ap, div-add-mod', lt_of_mul-lt-mul_right, arith}
use Rattle.search.specs.Search.{ceil_div, neg_mod}
use Rattle.search.specs.Cases.{Between}
use Rattle.search.specs.Winding.{Meets}
use Rattle.search.specs.MultipleLaws.{ceil_div_ge, ceil_div_le}

-- Mirrored, a place is met with the steps, less one, that its winding leaves. (The mirror of s, l and r is t, k and n.)
pub mirror_meets :
    (m s t l k r n x w : ℕ) → s + t ≡ m → l + k ≡ m → r + n ≡ m → 0 < l → Meets m s l r x w → (w < x) × Meets m t n k x (x - suc w)
mirror_meets m s t l k r n x w st lk rn pos h =
    let less = lt_of_mul-lt-mul_right m {m = w} {n = x} (omega (arith, ap (λ (i : ℕ). x * i) st)) in
    let parts : x ≡ suc w + (x - suc w) = omega (arith, less) in
    (less, omega (arith, ap (λ (i : ℕ). x * i) st, ap (λ (i : ℕ). i * m) parts))

module _ (m s l r c : ℕ) (lr : l ≤ r) (b : Between s l r c) where
  whole : (y : ℕ) → y * m ≡ y * (m / s) * s + y * (m % s)
  whole y = omega (arith, ap (λ (n : ℕ). y * n) (div-add-mod' m s))

  -- A place of the search that a round goes on with is a winding of this one.
  pub round_up : (j i : ℕ) → Meets s (m % s) (neg_mod r s) (neg_mod l s) j i → Meets m s l r (c + (j * (m / s) + i)) j
  round_up j i h = omega (arith, whole j)

  -- A winding of this search is a place of the search that a round goes on with.
  pub round_down : (x w : ℕ) → Meets m s l r x w → Meets s (m % s) (neg_mod r s) (neg_mod l s) w (x - (c + w * (m / s)))
  round_down x w h =
      let enough = lt_of_mul-lt-mul_right s {m = c + w * (m / s)} {n = suc x} (omega (arith, whole w)) in
      let parts : x ≡ c + w * (m / s) + (x - (c + w * (m / s))) = omega (arith, enough) in
      omega (arith, whole w, ap (λ (n : ℕ). n * s) parts)

  -- No place with that winding is smaller.
  pub round_place_lem : (j i : ℕ) → 0 < s → Meets s (m % s) (neg_mod r s) (neg_mod l s) j i → ceil_div (l + j * m) s ≡ c + (j * (m / s) + i)
  round_place_lem j i p h =
      omega (
        arith,
        ceil_div_le (l + j * m) s (c + (j * (m / s) + i)) p (round_up j i h).0,
        lt_of_mul-lt-mul_right s {m = c + (j * (m / s) + i)} {n = suc (ceil_div (l + j * m) s)}
            (omega (arith, ceil_div_ge (l + j * m) s p, whole j)),
      )
