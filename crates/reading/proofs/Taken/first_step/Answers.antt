-- The binary32 product is u1, and its bits tell it.
use Rattle.std.proofs.Common.{◌≡◌, refl, ℕ, false, ◌-◌, T, Float, lit<, lit≤, sym, ap, ap₂, ◌∙◌, subst, le_of_lt, pow_pos, rules}
use Rattle.std.specs.Float.Ieee
use Rattle.std.specs.Float.Ieee.{binary32, prec, hid, mul, to_bits, fits}
use Rattle.std.specs.Float.Ieee.Exact.{HasValue}
use Rattle.rounding.specs.Round.{HasBits}
use Rattle.wide.specs.Value.{word_bits}
use Rattle.floats.specs.Fields.{unit_at}
use Rattle.floats.proofs.Pattern.{significand_bits}
use Rattle.floats.proofs.Narrow.{stored_exactly}
use Rattle.floats.proofs.Times.{Told}
use Rattle.factor.specs.declared.Factor.{Factor}
use Rattle.factor.specs.Precision.{scale_of}
use Rattle.factor.specs.Context.{context_at}
use Rattle.factor.specs.UnitParts.{unit_parts_of}
use Rattle.factor.specs.SetUp.{Sound}
use Rattle.factor.proofs.StoredLaws.{low_number}
use Rattle.product.specs.Units.{first_units}
use Rattle.reading.proofs.FirstLaws.{K32, first_told}
use Rattle.reading.proofs.AnswerLaws.{ready}
use Rattle.reading.proofs.Taken.first_step.Goals as goal

-- what is told of the product of the stored low part and y, which is x from 1 to below 2, in the unit d
told_by : (f : Factor) → Sound f → f.precision ≡ prec binary32 → T (fits binary32 f.applied.low) → (x : ℕ) → HasBits (prec binary32) x → (y : Float) → y ≡ Ieee.round binary32 false x (hid binary32) → (d E : ℕ) → d ≡ unit_at binary32 E → E ≡ scale_of f.precision
    → Told binary32 word_bits d (to_bits binary32 (mul binary32 f.applied.low y)) (first_units K32 (unit_parts_of K32 f.parts) x)
told_by f s n fit x xb y y_is d E d_is E_is =
    subst (λ (d : ℕ). Told binary32 word_bits d (to_bits binary32 (mul binary32 f.applied.low y)) (first_units K32 (unit_parts_of K32 f.parts) x)) (sym (d_is ∙ ap (unit_at binary32) (E_is ∙ ap scale_of n)))
    (first_told f s n x xb f.applied.low y (low_number f s fit) (subst (λ (z : Float). HasValue z false x (hid binary32)) (sym y_is) x_is))
  where
    x_is : HasValue (Ieee.round binary32 false x (hid binary32)) false x (hid binary32)
    x_is = stored_exactly binary32 (prec binary32) (lit< tt) (lit≤ tt) false x (hid binary32) x (prec binary32 - 1) (pow_pos (prec binary32 - 1)) (le_of_lt xb.most) (lit≤ tt) (lit≤ tt) refl

pub units_of-requires : goal.units_of-requires
units_of-requires c =
    let a = c.args.self in
    let r = ready _ _ a.readable in
    let bits : HasBits (prec binary32) c.significand_of-x.result = rw c.significand_of-x.ensures (significand_bits binary32 a.bits) in
    (told_by a.factor r.sound r.precision (search rules) c.significand_of-x.result bits _ c.narrow_float-y.ensures _ _ c.unit_at-unit.ensures (c.scale.ensures ∙ ap scale_of (c.precision-p.ensures ∙ ap (λ (f : Factor). f.precision) c.operands.ensures.factor))).fits

pub returns : goal.returns
returns c =
    let a = c.args.self in
    let r = ready _ _ a.readable in
    let bits : HasBits (prec binary32) c.significand_of-x.result = rw c.significand_of-x.ensures (significand_bits binary32 a.bits) in
    let t = told_by a.factor r.sound r.precision (search rules) c.significand_of-x.result bits _ c.narrow_float-y.ensures _ _ c.unit_at-unit.ensures (c.scale.ensures ∙ ap scale_of (c.precision-p.ensures ∙ ap (λ (f : Factor). f.precision) c.operands.ensures.factor)) in
    c.units_of.ensures ∙ t.units ∙ ap₂ (λ (n X : ℕ). first_units (context_at n) (unit_parts_of (context_at n) a.factor.parts) X) (sym r.precision) c.significand_of-x.ensures
