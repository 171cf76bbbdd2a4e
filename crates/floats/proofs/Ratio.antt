-- Laws of quotients: powers of two in them; a quotient of two floats is the exact quotient, rounded. Assumes nothing.
use Rattle.std.specs.Prelude.{◌≡◌, Bool, ℕ, ◌*◌, ◌<◌, ℤ, ◌-ℤ◌, Float}
use Rattle.std.proofs.Common.{ap, ap₂, ◌∙◌, pos_of_ne-zero, mul-pos, arith, ne_eqb}
use Rattle.std.specs.Float.Ieee
use Rattle.std.specs.Float.{nan, inf, fin, Format}
use Rattle.std.specs.Float.Ieee.{up, down, unlike, div}
use Rattle.std.specs.Float.Ieee.Exact.{HasValue}
use Rattle.std.specs.Float.Ieee.Fits.{up_pos, down_pos}
use Rattle.std.specs.Float.Ieee.Scale.{round_same}
use Rattle.rounding.specs.Fraction.{Fraction, power, times, ratio}
use Rattle.rounding.proofs.FractionLaws.{Scaled}
use Rattle.floats.proofs.Powers.{powers_sub}

-- ---- powers of two in a quotient: x * 2 ^ e / (y * 2 ^ k) is x / y * 2 ^ (e - k)
pub ratio_scaled : (x y : Fraction) (e k : ℤ) → Scaled (e -ℤ k) (ratio x y) (ratio (times x (power e)) (times y (power k)))
ratio_scaled x y e k = let z = e -ℤ k in regroup x.num x.den y.num y.den (up e) (down e) (up k) (down k) (up z) (down z) (powers_sub e k)
  where
    regroup : (a c b d u v w g s t : ℕ) → u * g * t ≡ s * (v * w) → a * u * (d * g) * (c * b * t) ≡ a * d * s * (c * v * (b * w))
    regroup a c b d u v w g s t e = omega (arith, ap (λ (z : ℕ). z * (a * d * c * b)) e)

-- ---- a quotient of two values is its exact value, rounded
pub div_value : (f : Format) (x y : Float) (s t : Bool) (a c b d : ℕ) → 0 < c → 0 < b → 0 < d → HasValue x s a c → HasValue y t b d → div f x y ≡ Ieee.round f (unlike s t) (a * d) (c * b)
unfolding div
div_value f nan y s t a c b d C B D h k = absurd h
div_value f (inf u) y s t a c b d C B D h k = absurd h
div_value f (fin u m e) nan s t a c b d C B D h k = absurd k
div_value f (fin u m e) (inf v) s t a c b d C B D h k = absurd k
div_value f (fin u m e) (fin v n g) s t a c b d C B D h k =
    let some : 0 < n = pos_of_ne-zero (λ (z : n ≡ 0). omega (arith, k.1, ap (λ (w : ℕ). w * (up g * d)) z, mul-pos B (down_pos g))) in
    rw (ne_eqb n 0 (λ z. omega (arith, some)))
    (ap₂ (λ (p q : Bool). Ieee.round f (unlike p q) (m * up e * down g) (n * up g * down e)) h.0 k.0
    ∙ round_same f (unlike s t) (m * up e * down g) (n * up g * down e) (a * d) (c * b) (mul-pos (mul-pos some (up_pos g)) (down_pos e)) (mul-pos C B)
    (omega (arith, ap (λ (w : ℕ). w * (b * down g)) h.1, ap (λ (w : ℕ). w * (a * down e)) k.1)))
