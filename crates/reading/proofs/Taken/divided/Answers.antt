-- The quotient of the reading's significand, and its binade less k put on the exponent.
use Rattle.std.proofs.Common.{◌≡◌, refl, sym, ap, ap₂, ◌∙◌, subst, ℕ, ◌≤◌, ℤ, nat_abs, neg_ℤ, ◌+ℤ◌, ◌-ℤ◌, false, FitsSigned, to_z, of_z, w32, arith}
use Rattle.std.specs.Float.{binary32}
use Rattle.std.specs.Float.Ieee.{prec}
use Rattle.rounding.specs.declared.Directed.{Directed}
use Rattle.rounding.specs.Round.{HasBits}
use Rattle.floats.specs.Fields.{significand_of, exponent_of}
use Rattle.factor.specs.declared.Factor.{Factor}
use Rattle.quotient.specs.declared.Quotient.{Quotient}
use Rattle.quotient.specs.Quotient.{quotient_by, directed_by}
use Rattle.quotient.specs.Tells.{sound_quotient, sound_binade}
use Rattle.reading.specs.Reading.{sign_with, placed}
use Rattle.reading.specs.Divided.{placed_quotient}
use Rattle.reading.proofs.Exponents.{size_sum, scale_size, size_negated}
use Rattle.reading.proofs.AnswerLaws.{Ready, ready}
use Rattle.reading.proofs.Laws.{kept}
use Rattle.reading.proofs.Taken.divided.Goals as goal

-- ---- the quotient w of a normal reading with the bits b, and what is put on the exponent
module _ (f : Factor) (b : ℕ) (r : Ready f b) (w : Directed Quotient) (is : w ≡ directed_by f (significand_of binary32 b)) where
  abbrev v : Quotient
  v = w.value

  abbrev k : ℤ
  k = f.applied.scale

  v_is : v ≡ quotient_by f (significand_of binary32 b)
  v_is = ap (λ (z : Directed Quotient). z.value) is

  v_bits : HasBits (prec binary32) v.significand
  v_bits = rw v_is (subst (λ (n : ℕ). HasBits n (quotient_by f (significand_of binary32 b)).significand) r.precision (sound_quotient f r.sound (significand_of binary32 b) r.bits false).bits)

  one : nat_abs v.binade ≤ 1
  one = rw v_is (sound_binade f r.sound (significand_of binary32 b) r.bits)

  few : nat_abs (v.binade -ℤ k) ≤ 101
  few = omega (arith, size_sum v.binade (neg_ℤ k), size_negated k, scale_size k r.sound.scale, one)

  -- as the machine has it
  abbrev left : ℤ
  left = to_z w32 (of_z w32 v.binade) -ℤ to_z w32 (of_z w32 k)

  is_kept : FitsSigned w32 left × (to_z w32 (of_z w32 left) ≡ v.binade -ℤ k)
  is_kept = kept left (v.binade -ℤ k) (ap₂ (λ (x y : ℤ). x -ℤ y) (kept v.binade v.binade refl (omega (arith, one))).1 (kept k k refl (omega (arith, scale_size k r.sound.scale))).1) (omega (arith, few))

  put : nat_abs (to_z w32 (of_z w32 left)) ≤ 101
  put = subst (λ (z : ℤ). nat_abs z ≤ 101) (sym is_kept.1) few

  placed_is : placed (sign_with f b) v.significand (exponent_of binary32 b +ℤ to_z w32 (of_z w32 left)) w.direction ≡ placed_quotient f b (directed_by f (significand_of binary32 b))
  placed_is = ap (λ (z : ℤ). placed (sign_with f b) v.significand (exponent_of binary32 b +ℤ z) w.direction) is_kept.1 ∙ ap (placed_quotient f b) is

pub overflow_sub-v : goal.overflow_sub-v
overflow_sub-v c =
    let a = c.args.self in
    (is_kept a.factor a.bits (ready _ _ a.readable) _ (c.quotient_of-v.ensures ∙ ap₂ directed_by c.operands-o.ensures.factor c.operands-o.ensures.significand)).0

pub place-requires : goal.place-requires
place-requires c =
    let a = c.args.self in
    let r = ready _ _ a.readable in
    let is = c.quotient_of-v.ensures ∙ ap₂ directed_by c.operands-o.ensures.factor c.operands-o.ensures.significand in
    (put a.factor a.bits r _ is, v_bits a.factor a.bits r _ is)

pub returns : goal.returns
returns c =
    let a = c.args.self in
    c.place.ensures ∙ placed_is a.factor a.bits (ready _ _ a.readable) _ (c.quotient_of-v.ensures ∙ ap₂ directed_by c.operands-o.ensures.factor c.operands-o.ensures.significand)
