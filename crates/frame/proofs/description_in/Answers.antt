-- There is none under the first condition that holds, and the fields' description where none does.
use Rattle.std.proofs.Common.{◌≡◌, sym, ap, ◌∙◌, refl, List, ℕ, Bool, true, false, not, Option, Some, None, ℤ, to_z, of_z, w32, rules}
use Rattle.marks.specs.Answers.{number, First}
use Rattle.marks.specs.AnswerLaws.{pass, stop, refuses}
use Rattle.factor.specs.declared.Description.{Description}
use Rattle.frame.specs.Digits.{malformed}
use Rattle.frame.specs.FieldLaws.{field_held}
use Rattle.frame.specs.FrameLaws.{frame_is}
use Rattle.frame.specs.Frame.{minus_in, precision_in, framed, conditions, frame_of}
use Rattle.frame.proofs.description_in.Goals as goal

-- where a condition holds
none_framed : (line : List ℕ) (r : Option Description) → r ≡ None → First (conditions line) (number 24) → framed r ≡ frame_of line
unfolding frame_of
none_framed line r e h = ap framed e ∙ refuses h _

-- the fields stand in their places
in_place : {b s : Bool} → b ≡ s → b ≡ true → not s ≡ false
in_place e t = ap not (sym e ∙ t)

pub returns-then-not-is_spaced : goal.returns-then-not-is_spaced
returns-then-not-is_spaced c = none_framed _ None refl (stop (ap not (sym c.is_spaced.ensures ∙ c.if-not-is_spaced.true)))

pub returns-in_err-precision : goal.returns-in_err-precision
returns-in_err-precision c =
    none_framed _ _ c.from_residual.ensures
    (pass (in_place c.is_spaced.ensures c.if-not-is_spaced.false)
    (stop (ap malformed (sym c.in_err-precision.ensures))))

pub returns-in_err-scale : goal.returns-in_err-scale
returns-in_err-scale c =
    none_framed _ _ c.from_residual-in_err-scale.ensures
    (pass (in_place c.is_spaced.ensures c.if-not-is_spaced.false)
    (pass (ap malformed (sym c.in_ok-precision.ensures))
    (stop (ap malformed (sym c.in_err-scale.ensures)))))

pub returns-in_err-lower : goal.returns-in_err-lower
returns-in_err-lower c =
    none_framed _ _ c.from_residual-in_err-lower.ensures
    (pass (in_place c.is_spaced.ensures c.if-not-is_spaced.false)
    (pass (ap malformed (sym c.in_ok-precision.ensures))
    (pass (ap malformed (sym c.in_ok-scale.ensures))
    (stop (ap malformed (sym c.in_err-lower.ensures))))))

pub returns-in_err-upper : goal.returns-in_err-upper
returns-in_err-upper c =
    none_framed _ _ c.from_residual-in_err-upper.ensures
    (pass (in_place c.is_spaced.ensures c.if-not-is_spaced.false)
    (pass (ap malformed (sym c.in_ok-precision.ensures))
    (pass (ap malformed (sym c.in_ok-scale.ensures))
    (pass (ap malformed (sym c.in_ok-lower.ensures))
    (stop (ap malformed (sym c.in_err-upper.ensures)))))))

pub signed_byte-requires : goal.signed_byte-requires
signed_byte-requires c = (field_held _ 3 2 _ (sym c.in_ok-scale.ensures)).small

pub returns : goal.returns
returns c =
    let p = c.in_ok-precision.precision in
    let l = c.in_ok-lower.lower in
    let u = c.in_ok-upper.upper in
    let scale : to_z w32 (of_z w32 c.signed_byte.result) ≡ c.signed_byte.result = search rules in
    ap (λ (x : ℤ). framed (Some (record { minus = minus_in p; precision = precision_in p; scale = x; lower = l; upper = u }))) (scale ∙ c.signed_byte.ensures)
    ∙ frame_is c.args.line.now (in_place c.is_spaced.ensures c.if-not-is_spaced.false) (sym c.in_ok-precision.ensures) (sym c.in_ok-scale.ensures) (sym c.in_ok-lower.ensures) (sym c.in_ok-upper.ensures)
