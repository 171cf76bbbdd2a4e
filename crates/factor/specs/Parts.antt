-- The parts of a factor at one end, over a context. Definitions only. Assumes nothing.
use Rattle.std.specs.Prelude.{ℕ, ◌-◌, ◌*◌, ◌/◌, ◌^◌}
use Rattle.std.proofs.Math.IntN.{nat_abs}
use Rattle.rounding.specs.Round.{rounded}
use Rattle.rounding.specs.Signed.{signed_of}
use Rattle.rounding.specs.Fraction.{Fraction, over, less, RN}
use Rattle.factor.specs.declared.Parts.{Parts}
use Rattle.factor.specs.Context.{Context}

-- a fraction that is a whole number over 2 ^ t
abbrev pub counted : ℕ → Fraction → ℕ
counted t x = x.num * 2 ^ t / x.den

module _ (K : Context) where
  open K use {rule, n, E}

  -- high part: Ch = RN(C), C being c / 2 ^ E
  abbrev pub high_part : ℕ → Fraction
  high_part c = RN rule n (over c E)

  -- C - Ch
  abbrev pub rest : ℕ → Fraction
  rest c = less (over c E) (high_part c)

  -- low part: Cl = RN(C - Ch)
  abbrev pub low_part : ℕ → Fraction
  low_part c = RN rule n (rest c)

  -- the high significand over 2 ^ (n - 1), and the low part as a signed whole number over a power of two, 0 over 1 where it is zero
  unfoldable pub parts_at : ℕ → Parts
  unfolding rounded
  parts_at c =
      let d = rest c in
      let r = rounded rule n d.num d.den in
      record { high = counted (n - 1) (high_part c); low = signed_of d.minus r.significand; places = nat_abs r.exponent }
