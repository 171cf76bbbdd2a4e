-- The mark of a value, by comparison with both ends, and what it says of every fraction between them. Definitions only. Assumes nothing.
use Rattle.std.specs.Prelude.{◌&&◌, cond, ℕ}
use Rattle.marks.specs.declared.Mark.{Mark}
use Rattle.marks.specs.declared.Mark.TheVariants.{Right, Open, Wrong}
use Rattle.marks.specs.Says.{Says}
use Rattle.rounding.specs.Fraction.{Fraction, over, times, RN, Same, below, equal}
use Rattle.factor.specs.declared.Factor.{Factor}
use Rattle.factor.specs.Context.{Context, context_of, lower_of, upper_of}
use Rattle.factor.specs.Ends.{Between}
use Rattle.product.specs.declared.Product.{Product}
use Rattle.product.specs.Product.{argument, value_of}

-- a and b are what the two ends times x round to: right if v is both, wrong if it is below the first or above the second, else open
abbrev pub compared : (a b v : Fraction) → Mark
compared a b v = cond (below v a) Wrong (cond (below b v) Wrong (cond (equal a v && equal b v) Right Open))

module _ (K : Context) where
  open K use {rule, n, E}

  -- RN(C * x)
  abbrev pub exact : ℕ → Fraction → Fraction
  exact X C = RN rule n (times C (argument n X))

  -- the mark of a value at the ends L and U
  unfoldable pub mark : (L U X : ℕ) → Product → Mark
  mark L U X v = compared (exact X (over L E)) (exact X (over U E)) (value_of n v)

  -- ---- what a mark tells, in its own words
  -- the fraction C, multiplied by x, rounds to v
  abbrev pub Gives : ℕ → Product → Fraction → Type 0
  Gives X v C = Same (exact X C) (value_of n v)

  -- what a mark says of every fraction between the ends
  abbrev pub SaysAt : (L U X : ℕ) → Product → Mark → Type 0
  SaysAt L U X v m = Says (Between K L U) (Gives X v) m

-- ---- of a factor, by its own context and ends
-- the mark of a value by a factor's own precision and ends
abbrev pub mark_by : Factor → ℕ → Product → Mark
mark_by f X v = mark (context_of f) (lower_of f) (upper_of f) X v

-- between a factor's own ends
abbrev pub SaysBy : Factor → ℕ → Product → Mark → Type 0
SaysBy f X v m = SaysAt (context_of f) (lower_of f) (upper_of f) X v m
