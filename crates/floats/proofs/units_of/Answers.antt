-- No digit is lost in the shift.
use Rattle.std.proofs.Common.{ℕ, ◌-◌, ◌*◌, ◌%◌, ◌^◌, ◌<◌, T, not, ap₂, ◌∙◌, eqb-true, arith}
use Rattle.std.specs.Float.{Float, nan, inf, fin, Format, binary32}
use Rattle.std.specs.Float.Ieee.{ones, to_bits, is_nan}
use Rattle.wide.specs.Value.{word_bits}
use Rattle.floats.specs.Fields.{biased_exponent}
use Rattle.floats.proofs.Classes.{nan_class}
use Rattle.floats.proofs.Times.{units_shifted}
use Rattle.floats.proofs.units_of.Goals as goal

-- what is finite is no NaN
number : (f : Format) (x : Float) → biased_exponent f (to_bits f x) < ones f → T (not (is_nan x))
unfolding is_nan
number f nan h = absurd (omega (arith, eqb-true (biased_exponent f (to_bits f nan)) (ones f) (nan_class f)))
number f (inf s) h = tt
number f (fin s m e) h = tt

pub float_to_bits-bits : goal.float_to_bits-bits
float_to_bits-bits c = number binary32 c.args.x c.requires.finite

pub returns : goal.returns
returns c =
    ap₂ (λ (m k : ℕ). m * 2 ^ (k - 1 - c.args.d) % 2 ^ word_bits) c.significand_of.ensures c.biased_exponent.ensures ∙ units_shifted binary32 word_bits c.args.d _ c.if-bits-eq0.false c.requires
