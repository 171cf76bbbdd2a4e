-- Laws: the windows of a factor that was accepted may be asked of a search in one word. Assumes nothing.
use Rattle.std.specs.Prelude.{◌≡◌, ℕ, ◌+◌, ◌*◌, ◌-◌, ◌%◌, ◌^◌, ◌≤◌, ◌<◌}
use Rattle.std.proofs.Common.{mod-lt, le_trans, arith, pow_pos, pow_mono}
use Rattle.factor.specs.Context.{context_of, lower_of, upper_of}
use Rattle.factor.proofs.ContextLaws.{fine_at}
use Rattle.factor.specs.declared.Factor.{Factor}
use Rattle.factor.specs.SetUp.{Sound}
use Rattle.wide.specs.Value.{word_bits, half_word}
use Rattle.suspects.specs.Suspects.{window_w, widening}
use Rattle.suspects.proofs.SuspectLaws.{room}
use Rattle.suspects.specs.Next.{window_near, windows, Askable}

near_askable : (L h W D : ℕ) → 0 < W → W + D ≤ h → 2 * h ≤ half_word → 2 ^ word_bits % (2 * h) ≡ 0 → Askable (window_near L h W D)
near_askable L h W D some fits most divides =
    record { window = omega arith; below = omega arith; step_below = mod-lt L (omega arith); most = most; divides = divides }

module _ (f : Factor) (sound : Sound f) where
  open context_of f use {n, E}

  abbrev W : ℕ
  W = window_w (context_of f)

  abbrev D : ℕ
  D = widening (context_of f) (lower_of f) (upper_of f)

  -- A window lies between two multiples of the distance of two midpoints.
  pub fits : W + D ≤ 2 ^ (E - 1)
  fits = room (context_of f) (fine_at sound.precision) (omega (arith, sound.precision)) (lower_of f) (upper_of f) sound.lower_end sound.upper_end sound.same

  -- Both halves may be searched: their moduli are words.
  pub low_askable : Askable (windows (context_of f) (lower_of f) (upper_of f)).low
  low_askable = near_askable (lower_of f) (2 ^ (E - 1)) W D (pow_pos (E - n)) fits (rw sound.precision.scale (omega arith)) (rw sound.precision.scale)

  pub high_askable : Askable (windows (context_of f) (lower_of f) (upper_of f)).high
  high_askable = near_askable (lower_of f) (2 ^ E) W D (pow_pos (E - n)) (le_trans fits (pow_mono {i = E - 1} {j = E} (omega arith))) (rw sound.precision.scale (omega arith)) (rw sound.precision.scale)
