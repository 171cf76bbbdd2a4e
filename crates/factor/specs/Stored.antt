-- The parts as floats: what is stored, from the parts that are kept, and which parts a format's floats hold. Definitions only. Assumes nothing.
use Rattle.std.specs.Prelude.{◌≡◌, false, ℕ, suc, ◌+◌, ◌-◌, ◌^◌, ◌≤◌, ◌<◌, ℤ, pos, nat_abs, Float}
use Rattle.std.specs.Float.Ieee
use Rattle.std.specs.Float.{Format, binary32}
use Rattle.std.specs.Float.Ieee.{prec, emax}
use Rattle.rounding.specs.Round.{HasBits}
use Rattle.rounding.specs.Signed.{negative}
use Rattle.factor.specs.declared.Parts.{Parts}
use Rattle.factor.specs.declared.Applied.{Applied}
use Rattle.factor.specs.Context.{Context}

-- ---- the floats of the parts that are kept, and what is stored
abbrev pub high_from : Format → (n : ℕ) → Parts → Float
high_from f n p = Ieee.round f false p.high (2 ^ (n - 1))

abbrev pub low_from : Format → Parts → Float
low_from f p = Ieee.round f (negative p.low) (nat_abs p.low) (2 ^ p.places)

abbrev pub applied_from : (n : ℕ) → ℤ → Parts → Applied
applied_from n k p = record { high = high_from binary32 n p; low = low_from binary32 p; scale = k }

-- parts that floats hold: the low significand zero, or of n bits
pub record LowStorable (K : Context) (low : ℤ) (places : ℕ) : Type 0 where
  pub none : nat_abs low ≡ 0 → (low ≡ pos 0) × (places ≡ 0)
  pub some : 0 < nat_abs low → HasBits K.n (nat_abs low)
  pub deep : 0 < nat_abs low → K.n ≤ suc places
  pub shallow : places < K.E + K.n

-- and the high one from 2 ^ (n - 1) to 2 ^ n
pub record Storable (K : Context) (p : Parts) : Type 0 where
  pub least : 2 ^ (K.n - 1) ≤ p.high
  pub most : p.high ≤ 2 ^ K.n
  pub low : LowStorable K p.low p.places

-- ---- in a format that has the digits, and exponents for the scale
pub record Held (f : Format) (K : Context) : Type 0 where
  pub short : K.n ≤ prec f
  pub near : K.E < emax f
