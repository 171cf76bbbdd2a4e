-- What every definition and law of a factor is over: the tie rule, the precision n and the scale E of the ends. Definitions only. Assumes nothing.
use Rattle.std.specs.Prelude.{ℕ, ◌*◌, ◌≤◌, ◌<◌}
use Rattle.rounding.specs.Grid.{Rule, to_even}
use Rattle.factor.specs.declared.Description.{Description}
use Rattle.factor.specs.declared.Factor.{Factor}
use Rattle.factor.specs.Precision.{scale_of}

pub record Context : Type 0 where
  pub rule : Rule
  pub n : ℕ
  pub E : ℕ

-- what the laws ask of it
pub record Fine (K : Context) : Type 0 where
  pub some : 0 < K.n
  pub room : 2 * K.n ≤ K.E

-- the tie rule: it unfolds only where it is named, as the scale does
unfoldable pub tie_rule : Rule
tie_rule = to_even

-- ---- the context of a precision, of a description, and of a factor, with its ends as numbers
abbrev pub context_at : ℕ → Context
context_at n = record { rule = tie_rule; n = n; E = scale_of n }

abbrev pub context_for : Description → Context
context_for d = context_at d.precision

abbrev pub context_of : Factor → Context
context_of f = context_at f.precision

abbrev pub lower_of : Factor → ℕ
lower_of f = f.lower

abbrev pub upper_of : Factor → ℕ
upper_of f = f.upper
