-- k plus the binade is put on the exponent, which gives the number or 23, and the number has its mark.
use Rattle.std.proofs.Common.{◌≡◌, refl, sym, ap, ap₂, ◌∙◌, subst, FitsSigned, ℕ, ◌≤◌, false, [], Float, ℤ, pos, nat_abs, ◌+ℤ◌, to_z, of_z, w32, arith}
use Rattle.std.proofs.lemmas.Int.{to_z_pos}
use Rattle.std.specs.Float.{binary32}
use Rattle.marks.specs.declared.Mark.{Mark}
use Rattle.marks.specs.Answers.{Outcome, refused, accepted}
use Rattle.marks.specs.AnswerLaws.{only_accepted, none_refuses, refused_first, said_err}
use Rattle.floats.specs.Fields.{significand_of, exponent_of}
use Rattle.factor.specs.declared.Factor.{Factor}
use Rattle.factor.specs.SetUp.{scale_out}
use Rattle.rounding.specs.declared.Directed.{Directed}
use Rattle.product.specs.declared.Product.{Product}
use Rattle.product.specs.Marks.{mark_by}
use Rattle.reading.specs.Reading.{sign_with, product_exponent, placed, finished}
use Rattle.reading.proofs.Exponents.{size_sum, scale_size}
use Rattle.reading.proofs.Laws.{kept}
use Rattle.reading.proofs.AnswerLaws.{ready}
use Rattle.reading.proofs.Taken.finish.Goals as goal

module _ (f : Factor) (b : ℕ) (v : Directed Product) where
  abbrev placed_product : Outcome (Directed Float)
  placed_product = placed (sign_with f b) v.value.significand (product_exponent f b v.value) v.direction

  -- what is put on the exponent, as the machine has it
  abbrev summed : ℤ
  summed = to_z w32 (of_z w32 f.applied.scale) +ℤ to_z w32 v.value.binade

  abbrev put : ℤ
  put = to_z w32 (of_z w32 summed)

  module _ (scale : scale_out f.applied.scale ≡ false) (binade : v.value.binade ≤ 1) where
    abbrev raise : ℤ
    raise = f.applied.scale +ℤ pos v.value.binade

    few : nat_abs raise ≤ 101
    few = omega (arith, size_sum f.applied.scale (pos v.value.binade), scale_size f.applied.scale scale)

    is_kept : FitsSigned w32 summed × (put ≡ raise)
    is_kept =
        let k = f.applied.scale in
        kept summed raise (ap₂ (λ (x y : ℤ). x +ℤ y) (kept k k refl (omega (arith, scale_size k scale))).1 (to_z_pos w32 v.value.binade (omega arith))) (omega (arith, few))

    put_few : nat_abs put ≤ 101
    put_few = subst (λ (z : ℤ). nat_abs z ≤ 101) (sym is_kept.1) few

    placed_is : {o : Outcome (Directed Float)} → o ≡ placed (sign_with f b) v.value.significand (exponent_of binary32 b +ℤ put) v.direction → o ≡ placed_product
    placed_is e = e ∙ ap (λ (z : ℤ). placed (sign_with f b) v.value.significand (exponent_of binary32 b +ℤ z) v.direction) is_kept.1

  refused_is : {n : ℕ} → refused n ≡ placed_product → refused n ≡ finished f b v
  unfolding finished
  refused_is e = refused_first _ [] _ _ _ e

  number_is : {m : Mark} {y : Directed Float} → m ≡ mark_by f (significand_of binary32 b) v.value → accepted y ≡ placed_product → accepted (record { mark = m; value = y }) ≡ finished f b v
  unfolding finished
  number_is m e =
      let is = only_accepted _ _ _ (sym e) in
      ap₂ (λ (k : Mark) (z : Directed Float). accepted (record { mark = k; value = z })) m (sym is.1) ∙ sym (none_refuses _ _ is.0)

pub overflow_add-raise : goal.overflow_add-raise
overflow_add-raise c =
    let a = c.args in
    (is_kept a.self.factor a.self.bits a.v (ready _ _ a.self.readable).sound.scale c.requires.1).0

pub place-requires : goal.place-requires
place-requires c =
    let a = c.args in
    (put_few a.self.factor a.self.bits a.v (ready _ _ a.self.readable).sound.scale c.requires.1, c.requires.0)

pub mark_of-mark-requires : goal.mark_of-mark-requires
mark_of-mark-requires c =
    let r = ready _ _ c.args.self.readable in
    (rw (c.operands.ensures.factor, r.precision) c.requires.0, c.requires.1)

pub returns-in_err-value : goal.returns-in_err-value
returns-in_err-value c =
    let a = c.args in
    said_err _ c.from_residual.result c.from_residual.ensures.1 ∙ refused_is a.self.factor a.self.bits a.v (placed_is a.self.factor a.self.bits a.v (ready _ _ a.self.readable).sound.scale c.requires.1 c.in_err-value.ensures)

pub returns : goal.returns
returns c =
    let a = c.args in
    let o = c.operands.ensures in
    number_is a.self.factor a.self.bits a.v (c.mark_of-mark.ensures ∙ ap₂ (λ (f : Factor) (X : ℕ). mark_by f X a.v.value) o.factor o.significand)
    (placed_is a.self.factor a.self.bits a.v (ready _ _ a.self.readable).sound.scale c.requires.1 c.in_ok-value.ensures)
