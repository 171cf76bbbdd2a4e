-- A fraction on the grid of whole numbers: where it lies between two neighbours, which of them is taken, and on which side of it that one lies. Definitions only. Assumes nothing.
use Rattle.std.specs.Prelude.{Bool, true, false, cond, ℕ, suc, ◌*◌, ◌/◌, ◌%◌, eqb, ltb, pos}
use Rattle.rounding.specs.declared.Direction.{Direction}
use Rattle.rounding.specs.declared.Direction.TheVariants.{Below, Equal, Above}
use Rattle.rounding.specs.declared.Location.{Location}
use Rattle.rounding.specs.declared.Location.TheVariants.{Exact, BelowHalf, Half, AboveHalf}
use Rattle.rounding.specs.declared.TieRule.{TieRule}
use Rattle.rounding.specs.declared.TieRule.TheVariants.{ToEven, AwayFromZero}
use Rattle.rounding.specs.Direction.{side_of}

-- A tie rule says of the lower neighbour whether a fraction half way above it goes up. Laws hold for every such function.
abbrev pub Rule : Type 0
Rule = ℕ → Bool

-- ties to even: up from an odd neighbour
abbrev pub to_even : Rule
to_even q = eqb (q % 2) 1

-- ties away from zero: up
abbrev pub away_from_zero : Rule
away_from_zero q = true

abbrev pub rule_of : TieRule → Rule
rule_of ToEven q = to_even q
rule_of AwayFromZero q = away_from_zero q

-- where q + r / d lies between q and q + 1, for a remainder r below d
abbrev pub location : (r d : ℕ) → Location
location r d = cond (eqb r 0) Exact (cond (ltb (r * 2) d) BelowHalf (cond (eqb (r * 2) d) Half AboveHalf))

-- whether it goes up: past half, and at half where the rule says so
abbrev pub upward : Rule → ℕ → Location → Bool
upward rule q Exact = false
upward rule q BelowHalf = false
upward rule q Half = rule q
upward rule q AboveHalf = true

-- the neighbour that is taken: the nearer one, and at half the one that the rule says
abbrev pub choose : Rule → ℕ → Location → ℕ
choose rule q l = cond (upward rule q l) (suc q) q

-- on which side of the fraction a neighbour lies: the upper one above it and the lower one below, unless it is that neighbour
abbrev pub side_taken : Location → (up : Bool) → Direction
side_taken Exact up = Equal
side_taken BelowHalf up = cond up Above Below
side_taken Half up = cond up Above Below
side_taken AboveHalf up = cond up Above Below

-- and on which the one that is taken
abbrev pub towards : Rule → ℕ → Location → Direction
towards rule q l = side_taken l (upward rule q l)

-- the whole number nearest to N / d
unfoldable pub nearest : Rule → (N d : ℕ) → ℕ
nearest rule N d = choose rule (N / d) (location (N % d) d)

-- on which side of N / d the whole number k lies
abbrev pub side_at : (N d k : ℕ) → Direction
side_at N d k = side_of (pos N) (pos (k * d))
