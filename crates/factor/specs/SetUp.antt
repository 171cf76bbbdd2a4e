-- Set-up of a factor, with the refusals 11 to 16 in the order of their numbers, and the check behind 31. Definitions only. Assumes nothing.
use Rattle.std.specs.Prelude.{◌≡◌, Bool, false, not, ◌&&◌, ◌||◌, List, [], ◌∷◌, ℕ, suc, ◌^◌, ◌≤◌, eqb, ltb, leb, ℤ, pos, negsuc, Float}
use Rattle.std.specs.Int.Signed.{lt_z}
use Rattle.std.specs.Ordering.{int_eq}
use Rattle.std.specs.Float.Ieee
use Rattle.std.specs.Float.{Format, binary32}
use Rattle.std.specs.Float.Ieee.{to_bits}
use Rattle.marks.specs.Answers.{Outcome, refused, accepted, answer}
use Rattle.rounding.specs.Fraction.{Fraction}
use Rattle.floats.specs.Fields.{same_float}
use Rattle.factor.specs.declared.Description.{Description}
use Rattle.factor.specs.declared.Parts.{Parts}
use Rattle.factor.specs.declared.Applied.{Applied}
use Rattle.factor.specs.declared.Stored.{Stored}
use Rattle.factor.specs.declared.Factor.{Factor}
use Rattle.factor.specs.Precision.{ValidPrecision, precision_out}
use Rattle.factor.specs.Context.{Context, context_for, context_of, lower_of, upper_of}
use Rattle.factor.specs.Parts.{high_part, low_part, parts_at}
use Rattle.factor.specs.Ends.{End}

-- ---- the conditions
-- 12: an end not 2 ^ E to 2 ^ (E + 1) - 1
abbrev pub end_out : Context → ℕ → Bool
end_out K c = ltb c (2 ^ K.E) || leb (2 ^ suc K.E) c

-- 14: scale not -100 to 100
abbrev pub scale_out : ℤ → Bool
scale_out k = lt_z k (negsuc 99) || lt_z (pos 100) k

-- 15: Ch not the same at both ends
abbrev pub same_high : Parts → Parts → Bool
same_high p q = eqb p.high q.high

-- 16: Cl not the same at both ends
abbrev pub same_z : ℤ → ℤ → Bool
same_z a b = int_eq a b

abbrev pub same_low : Parts → Parts → Bool
same_low p q = same_z p.low q.low && eqb p.places q.places

-- ---- the factor that is set up
-- the float of a fraction's value (which is exact for the parts: `stored_high` and `stored_low`)
abbrev pub float_in : Format → Fraction → Float
float_in f x = Ieee.round f x.minus x.num x.den

-- what a handheld applies: the parts at the lower end, which are those of the upper end too
unfoldable pub applied_of : Description → Applied
unfolding Ieee.round
applied_of d = record { high = float_in binary32 (high_part (context_for d) d.lower); low = float_in binary32 (low_part (context_for d) d.lower); scale = d.scale }

-- all that is stored of a size
abbrev pub stored_by : Description → Stored
stored_by d = record { parts = parts_at (context_for d) d.lower; applied = applied_of d }

-- the factor: sign, precision and both ends as described, and what is stored of the size
abbrev pub factor_with : Description → Stored → Factor
factor_with d s = record { minus = d.minus; precision = d.precision; lower = d.lower; upper = d.upper; parts = s.parts; applied = s.applied }

abbrev pub factor_of : Description → Factor
factor_of d = factor_with d (stored_by d)

-- ---- set-up
-- the conditions that refuse a description
abbrev pub conditions : Description → List (ℕ × Bool)
conditions d =
    (11, precision_out d.precision)
    ∷ (12, end_out (context_for d) d.lower || end_out (context_for d) d.upper)
    ∷ (13, ltb d.upper d.lower)
    ∷ (14, scale_out d.scale)
    ∷ (15, not (same_high (parts_at (context_for d) d.lower) (parts_at (context_for d) d.upper)))
    ∷ (16, not (same_low (parts_at (context_for d) d.lower) (parts_at (context_for d) d.upper)))
    ∷ []

-- what is stored of the size, unless one of them holds: set-up without what stands beside it (`set_up_stores`)
unfoldable pub stored_of : Description → Outcome Stored
unfolding parts_at applied_of
stored_of d = answer (conditions d) (stored_by d)

-- the factor, unless one of them holds
unfoldable pub set_up : Description → Outcome Factor
unfolding parts_at applied_of
set_up d = answer (conditions d) (factor_of d)

-- ---- the check behind 31
abbrev pub same_applied : Applied → Applied → Bool
same_applied a b = same_float binary32 a.high b.high && (same_float binary32 a.low b.low && same_z a.scale b.scale)

-- f stores just s; of a sign there is nothing to compare
abbrev pub stores_just : Factor → Stored → Bool
stores_just f s = same_high f.parts s.parts && (same_low f.parts s.parts && same_applied f.applied s.applied)

-- f stores what was set up; nothing where that was refused
abbrev pub given : Factor → Outcome Stored → Bool
given f (accepted s) = stores_just f s
given f (refused k) = false

-- a factor as it would be described
abbrev pub described : Factor → Description
described f = record { minus = f.minus; precision = f.precision; scale = f.applied.scale; lower = f.lower; upper = f.upper }

-- 31 stands if this is false: the factor's stored parts are those that its ends, precision and scale set up, and those are not refused
unfoldable pub intact : Factor → Bool
unfolding stored_of
intact f = given f (stored_of (described f))

-- the factor, unless 31 stands
abbrev pub checked : Factor → Outcome Factor
checked f = answer ((31, not (intact f)) ∷ []) f

-- ---- what is known of a factor that was accepted
pub record Sound (f : Factor) : Type 0 where
  pub precision : ValidPrecision f.precision
  pub lower_end : End (context_of f) (lower_of f)
  pub upper_end : End (context_of f) (upper_of f)
  pub ordered : lower_of f ≤ upper_of f
  pub scale : scale_out f.applied.scale ≡ false
  pub same : parts_at (context_of f) (lower_of f) ≡ parts_at (context_of f) (upper_of f)
  pub parts : f.parts ≡ parts_at (context_of f) (lower_of f)
  pub high_stored : to_bits binary32 f.applied.high ≡ to_bits binary32 (applied_of (described f)).high
  pub low_stored : to_bits binary32 f.applied.low ≡ to_bits binary32 (applied_of (described f)).low
