-- The ends of a factor, whole numbers over 2 ^ E, the fractions between two of them, and the factor's sign on such a fraction. Definitions only. Assumes nothing.
use Rattle.std.specs.Prelude.{◌≡◌, false, ℕ, suc, ◌*◌, ◌^◌, ◌≤◌, ◌<◌}
use Rattle.rounding.specs.Fraction.{Fraction, signed_as}
use Rattle.factor.specs.declared.Factor.{Factor}
use Rattle.factor.specs.Context.{Context}

-- an end c: c / 2 ^ E is from 1 to below 2
pub record End (K : Context) (c : ℕ) : Type 0 where
  pub from : 2 ^ K.E ≤ c
  pub to : c < 2 ^ suc K.E

-- a fraction C with L ≤ C * 2 ^ E ≤ U
pub record Between (K : Context) (L U : ℕ) (C : Fraction) : Type 0 where
  pub some : 0 < C.den
  pub sign : C.minus ≡ false
  pub least : L * C.den ≤ C.num * 2 ^ K.E
  pub most : C.num * 2 ^ K.E ≤ U * C.den

-- with the factor's sign, as the ends describe its size: C, or - C
abbrev pub signed_by : Factor → Fraction → Fraction
signed_by f C = signed_as f.minus C
