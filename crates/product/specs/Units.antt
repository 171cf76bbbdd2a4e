-- The two steps of the product as whole numbers of the unit 2 ^ - (E + n - 1), in which proofs are made and code counts. Definitions only. Assumes nothing.
use Rattle.std.specs.Prelude.{◌≡◌, ◌&&◌, cond, ℕ, suc, ◌+◌, ◌-◌, ◌*◌, ◌^◌, ◌≤◌, ltb, eqb, pos}
use Rattle.std.proofs.Math.IntN.{nat_abs}
use Rattle.marks.specs.declared.Mark.{Mark}
use Rattle.marks.specs.declared.Mark.TheVariants.{Right, Open, Wrong}
use Rattle.rounding.specs.Direction.{side_of}
use Rattle.rounding.specs.Unit.{rn}
use Rattle.rounding.specs.Round.{rounded}
use Rattle.factor.specs.declared.Parts.{Parts}
use Rattle.factor.specs.Context.{Context, Fine}
use Rattle.factor.specs.Parts.{parts_at}
use Rattle.factor.specs.UnitParts.{UnitParts, step, plus_or_minus}
use Rattle.factor.specs.Ends.{End}
use Rattle.product.specs.declared.Product.{Product}
use Rattle.rounding.specs.declared.Directed.{Directed}

-- the mark of v by whole numbers: a and b are RN(L * x) and RN(U * x)
abbrev pub mark_units : (a b v : ℕ) → Mark
mark_units a b v = cond (ltb v a) Wrong (cond (ltb b v) Wrong (cond (eqb a v && eqb b v) Right Open))

module _ (K : Context) where
  open K use {rule, n, E}

  -- u1, its size
  unfoldable pub first_units : UnitParts → ℕ → ℕ
  first_units w X = rn rule n (w.low * X) 1

  -- Ch * x + u1
  unfoldable pub fused_units : UnitParts → ℕ → ℕ
  unfolding first_units
  fused_units w X = plus_or_minus w.minus (w.high * step K * X) (first_units w X)

  -- u2
  unfoldable pub second_units : UnitParts → ℕ → ℕ
  unfolding fused_units
  second_units w X = rn rule n (fused_units w X) 1

  -- RN of N units, for an N from 1 to below 4: in binade 0 just E digits are dropped
  unfoldable pub rounded_units : ℕ → Product
  unfolding rounded
  rounded_units N = let r = rounded rule n N 1 in record { significand = r.significand; binade = nat_abs r.exponent - E }

  -- with the direction from N
  abbrev pub directed_units : ℕ → Directed Product
  directed_units N = record { value = rounded_units N; direction = side_of (pos N) (pos (rn rule n N 1)) }

  -- N is from 1 to below 4, and so is what it rounds to
  pub record Within (N : ℕ) : Type 0 where
    pub from : 2 ^ (n - 1) * 2 ^ E ≤ N
    pub to : N ≤ (2 ^ n - 1) * 2 ^ suc E

  -- the other way: a product S * 2 ^ b / 2 ^ (n - 1) in units
  abbrev pub units : Product → ℕ
  units v = v.significand * 2 ^ (E + v.binade)

  -- p are the parts at some end
  pub record PartsAtEnd (p : Parts) : Type 0 where
    pub two : 2 ≤ n
    pub fine : Fine K
    pub end : ℕ
    pub is_end : End K end
    pub parts : p ≡ parts_at K end
