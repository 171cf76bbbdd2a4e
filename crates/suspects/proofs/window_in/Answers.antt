-- With an accepted factor the window fits.
use Rattle.std.proofs.Common.{◌≡◌, ℕ, suc, ◌+◌, ◌-◌, ◌*◌, ◌^◌, ◌≤◌, ◌<◌, ap, ◌∙◌, pow_pos, pow_mono, arith}
use Rattle.std.proofs.Math.Nat.{pow-succ'}
use Rattle.factor.specs.declared.Factor.{Factor}
use Rattle.factor.specs.Precision.{scale_of}
use Rattle.factor.specs.Context.{context_of, lower_of, upper_of}
use Rattle.factor.specs.SetUp.{Sound}
use Rattle.wide.specs.Value.{word_bits, half_word}
use Rattle.suspects.specs.Suspects.{widening}
use Rattle.suspects.proofs.WindowLaws.{fits}
use Rattle.suspects.proofs.window_in.Goals as goal

-- with the powers as the calls ensure them
module _ (f : Factor) (sound : Sound f) {bits power : ℕ} (same : bits ≡ f.precision) (is : power ≡ 2 ^ bits) where
  open context_of f use {n, E}

  widened : (f.upper - f.lower) * power ≡ widening (context_of f) (lower_of f) (upper_of f)
  widened = ap (λ (z : ℕ). (f.upper - f.lower) * z) (is ∙ ap (λ (n : ℕ). 2 ^ n) same)

  window_fits : {e window half d : ℕ} → e ≡ scale_of bits - bits → window ≡ 2 ^ e → half ≡ 2 ^ (d - 1) → E ≤ d → d ≤ E + 1
      → (0 < window) × (window + (f.upper - f.lower) * power ≤ half) × (2 * half ≤ half_word)
  window_fits {d = d} e w h low high =
      let width = w ∙ ap (λ (k : ℕ). 2 ^ k) (e ∙ ap (λ (n : ℕ). scale_of n - n) same) in (
        omega (arith, width, pow_pos (E - n)),
        omega (arith, width, fits f sound, widened, pow_mono {i = E - 1} {j = d - 1} (omega arith)),
        omega (arith, h, pow-succ' 2 (d - 1), pow_mono {i = suc (d - 1)} {j = word_bits - 1} (omega (arith, sound.precision))),
      )

pub overflow_mul-widening : goal.overflow_mul-widening
overflow_mul-widening c =
    let f = c.args.f in
    omega (arith, rw f.sound.precision.scale at (fits f.factor f.sound), widened f.factor f.sound c.precision-p.ensures c.power.ensures)

pub window_near-requires : goal.window_near-requires
window_near-requires c =
    window_fits c.args.f.factor c.args.f.sound c.precision-p.ensures c.power.ensures c.window_exponent.ensures c.power-window.ensures c.power-2.ensures c.requires.0 c.requires.1
