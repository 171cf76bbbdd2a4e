-- Definitions: a factor as a kit sees it. Assumes nothing.
use Rattle.std.specs.Prelude.{Bool, not, ◌&&◌, eqb}
use Rattle.std.specs.Bool.{beq}
use Rattle.factor.specs.declared.Factor.{Factor}
use Rattle.factor.specs.Precision.{least_of, most_of}
use Rattle.factor.specs.SetUp.{same_z, intact}
use Rattle.calls.specs.State.{Range}
use Rattle.calls.specs.Engine.{Engine}
use Rattle.calls.specs.Kit.{Kit, Factors, kit_engine}
use Rattle.sweep.specs.Engine.{range, engine}

-- whether 31 refuses a factor
abbrev pub faulty : Factor → Bool
faulty f = not (intact f)

-- whether two factors are alike in sign, precision, scale and ends
unfoldable pub alike : Factor → Factor → Bool
alike f g =
    beq f.minus g.minus
    && (eqb f.precision g.precision && (same_z f.applied.scale g.applied.scale && (eqb f.lower g.lower && eqb f.upper g.upper)))

-- a factor over all its significands
abbrev pub whole : Factor → Range Factor
whole f = range f (least_of f.precision) (most_of f.precision)

-- what a kit asks of its factors: each is swept as a factor is by itself
abbrev pub factors : Factors Factor (Range Factor)
factors = record { engine = engine; whole = whole; faulty = faulty; alike = alike }

-- the engine of kits
abbrev pub kits : Engine (Kit Factor)
kits = kit_engine factors
