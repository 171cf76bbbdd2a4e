-- A factor's parts as whole numbers of the unit 2 ^ - E, in which proofs are made. Definitions only. Assumes nothing.
use Rattle.std.specs.Prelude.{Bool, cond, ℕ, ◌+◌, ◌-◌, ◌*◌, ◌/◌, ◌^◌, ltb, ℤ}
use Rattle.std.proofs.Math.IntN.{nat_abs}
use Rattle.rounding.specs.Apart.{apart}
use Rattle.rounding.specs.Grid.{nearest}
use Rattle.rounding.specs.Unit.{rn}
use Rattle.rounding.specs.Round.{rounded}
use Rattle.rounding.specs.Signed.{negative, signed_of}
use Rattle.factor.specs.declared.Parts.{Parts}
use Rattle.factor.specs.Context.{Context}

-- the high significand, whether the low part is negative, and its size
pub record UnitParts : Type 0 where
  pub high : ℕ
  pub minus : Bool
  pub low : ℕ

-- a with x added, or taken off
abbrev pub plus_or_minus : Bool → ℕ → ℕ → ℕ
plus_or_minus minus a x = cond minus (a - x) (a + x)

module _ (K : Context) where
  open K use {rule, n, E}

  -- the high significand's step
  abbrev pub step : ℕ
  step = 2 ^ (E + 1 - n)

  unfoldable pub unit_parts : ℕ → UnitParts
  unit_parts c =
      let h = nearest rule c step in
      record { high = h; minus = ltb c (h * step); low = rn rule n (apart c (h * step)) 1 }

  -- Ch + Cl
  abbrev pub worth : UnitParts → ℕ
  worth p = plus_or_minus p.minus (p.high * step) p.low

  -- ---- from the parts that are kept
  -- the low part, s over 2 ^ places, is a whole number of the unit
  abbrev pub unit_parts_of : Parts → UnitParts
  unit_parts_of s = record { high = s.high; minus = negative s.low; low = nat_abs s.low * 2 ^ E / 2 ^ s.places }

  -- the parts that are kept, from the high significand and the rest, C - Ch, as a signed whole number of the unit
  unfoldable pub parts_from : ℕ → ℤ → Parts
  unfolding rounded
  parts_from h z =
      let r = rounded rule n (nat_abs z) (2 ^ E) in
      record { high = h; low = signed_of (negative z) r.significand; places = nat_abs r.exponent }
