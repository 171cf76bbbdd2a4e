-- A low part of zero is plus zero, and so is what rounding makes of it.
use Rattle.std.proofs.Common.{false, refl, sym, ap₂, ◌∙◌, lit<, ℕ, ℤ, nat_abs, ◌^◌, w64}
use Rattle.std.proofs.lemmas.Int.{to_z-of_z}
use Rattle.std.specs.Float.Ieee
use Rattle.std.specs.Float.{binary32}
use Rattle.rounding.specs.Signed.{negative}
use Rattle.floats.proofs.Signs.{round_zero}
use Rattle.factor.proofs.Precision.low_float.Goals as goal

pub returns-in-0 : goal.returns-in-0
returns-in-0 c =
    let size = rw (to_z-of_z w64 c.args.low c.ranges.low) at c.unsigned_abs.ensures.value in
    let z = c.requires.none (sym size ∙ c.in-0.is) in
    c.zero.ensures
    ∙ sym (round_zero binary32 false 0 1 refl (lit< tt))
    ∙ ap₂ (λ (l : ℤ) (q : ℕ). Ieee.round binary32 (negative l) (nat_abs l) (2 ^ q)) (sym z.0) (sym z.1)
