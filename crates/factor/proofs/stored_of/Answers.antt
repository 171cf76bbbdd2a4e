-- Each refusal under its condition, those before it not holding.
use Rattle.std.proofs.Common.{◌≡◌, ◌≤◌, ℕ, Bool, true, false, not, ◌&&◌, ◌||◌, ℤ, List, [], ◌∷◌, refl, sym, ap, ap₂, ◌∙◌, rules, w32, to_z, of_z, ltb, lt-ltb, le-ltb, eq-eqb, ne_eqb}
use Rattle.marks.specs.Answers.{Judgement, number, none, First, refused, accepted}
use Rattle.marks.specs.AnswerLaws.{pass, stop, end, refuses, accepts, only_accepted, refused_first, said_err}
use Rattle.factor.specs.declared.Description.{Description}
use Rattle.factor.specs.declared.Parts.{Parts}
use Rattle.factor.specs.declared.Stored.{Stored}
use Rattle.factor.specs.Precision.{precision_out, new_precision}
use Rattle.factor.specs.Context.{context_at, context_for}
use Rattle.factor.specs.Parts.{parts_at}
use Rattle.factor.specs.SetUp.{end_out, scale_out, same_high, same_low, conditions, stored_by, stored_of}
use Rattle.factor.specs.Stored.{applied_from}
use Rattle.factor.proofs.ContextLaws.{fine_at}
use Rattle.factor.proofs.SetUpLaws.{end_in, stored_is}
use Rattle.factor.proofs.StoredLaws.{storable, applied_from_lem}
use Rattle.factor.proofs.stored_of.Goals as goal
use Rattle.factor.proofs.stored_of.Goals.{then-end_out-via-then-end_out, then-end_out-via-else-end_out+then-end_out-2}

-- where the high parts are the same, the parts differ as the low ones do
low_differs : (x y : Parts) {b : Bool} → same_high x y ≡ true → b ≡ not (same_high x y && same_low x y) → b ≡ not (same_low x y)
low_differs x y high b_is = b_is ∙ ap (λ (h : Bool). not (h && same_low x y)) high

refuse : {n : ℕ} (d : Description) → First (conditions d) (number n) → refused n ≡ stored_of d
refuse d q = refuses q (stored_by d) ∙ sym (stored_is d)

accept : (d : Description) {s : Stored} → First (conditions d) none → s ≡ stored_by d → accepted s ≡ stored_of d
accept d q e = ap accepted e ∙ accepts q (stored_by d) ∙ sym (stored_is d)

-- the conditions past the ends
abbrev rest_of : Description → List (ℕ × Bool)
rest_of d =
    (13, ltb d.upper d.lower)
    ∷ (14, scale_out d.scale)
    ∷ (15, not (same_high (parts_at (context_for d) d.lower) (parts_at (context_for d) d.upper)))
    ∷ (16, not (same_low (parts_at (context_for d) d.lower) (parts_at (context_for d) d.upper)))
    ∷ []

-- past the precision, which is the description's
module _ (d : Description) {n : ℕ} (e : accepted n ≡ new_precision d.precision) where
  made : (precision_out d.precision ≡ false) × (n ≡ d.precision)
  made = let t = only_accepted ((11, precision_out d.precision) ∷ []) d.precision n (sym e) in (t.0.0, sym t.1)

  -- an end is out of range
  end_refused : end_out (context_at n) d.lower || end_out (context_at n) d.upper ≡ true → refused 12 ≡ stored_of d
  end_refused out = refuse d (pass made.0 (stop (rw made.1 at out)))

  -- past the ends
  module _ (lower_in : false ≡ end_out (context_at n) d.lower) (upper_in : false ≡ end_out (context_at n) d.upper) where
    ends_in : {v : Judgement} → First (rest_of d) v → First (conditions d) v
    ends_in q = pass made.0 (pass (rw made.1 at (ap₂ ◌||◌ (sym lower_in) (sym upper_in))) q)

    -- past the scale: the parts that were compared are those of the definition
    module _ (order : d.lower ≤ d.upper) {z : ℤ} (scale_is : z ≡ d.scale) (scale : false ≡ scale_out z) {x y : Parts} (x_is : x ≡ parts_at (context_at n) d.lower) (y_is : y ≡ parts_at (context_at n) d.upper) where
      compared : {v : Judgement} → First ((15, not (same_high x y)) ∷ (16, not (same_low x y)) ∷ []) v → First (conditions d) v
      compared q = ends_in (pass (le-ltb _ _ order) (pass (sym (rw scale_is at scale)) (rw made.1 at (rw (x_is, y_is) at q))))

pub returns-in_err-precision : goal.returns-in_err-precision
returns-in_err-precision c =
    said_err _ c.from_residual.result c.from_residual.ensures.1
    ∙ refused_first ((11, precision_out c.args.d.precision) ∷ []) _ _ (stored_by c.args.d) _ c.in_err-precision.ensures
    ∙ sym (stored_is c.args.d)

pub returns-then-end_out : goal.returns-then-end_out
returns-then-end_out c =
    end_refused c.args.d c.in_ok-precision.ensures (elim c.then-end_out.branch [
      | then-end_out-via-then-end_out w ↦ ap₂ ◌||◌ (sym w.if-end_out.ensures) refl
      | then-end_out-via-else-end_out+then-end_out-2 w ↦ ap₂ ◌||◌ (sym w.if-end_out.ensures) (sym w.if-end_out-2.ensures)
    ])

pub returns-then-d : goal.returns-then-d
returns-then-d c = refuse c.args.d (ends_in c.args.d c.in_ok-precision.ensures c.if-end_out.ensures c.if-end_out-2.ensures (stop (lt-ltb _ _ c.if-d.true)))

pub returns-then-scale_out : goal.returns-then-scale_out
returns-then-scale_out c =
    let same : to_z w32 (of_z w32 c.args.d.scale) ≡ c.args.d.scale = search rules in
    refuse c.args.d (ends_in c.args.d c.in_ok-precision.ensures c.if-end_out.ensures c.if-end_out-2.ensures (pass (le-ltb _ _ c.if-d.false) (stop (sym (rw same at c.if-scale_out.ensures)))))

pub returns-then-parts-other : goal.returns-then-parts-other
returns-then-parts-other c =
    let same : to_z w32 (of_z w32 c.args.d.scale) ≡ c.args.d.scale = search rules in
    refuse c.args.d
    (compared c.args.d c.in_ok-precision.ensures c.if-end_out.ensures c.if-end_out-2.ensures c.if-d.false same c.if-scale_out.ensures c.parts_at-parts.ensures c.parts_at-other.ensures
    (stop (ap not (ne_eqb _ _ c.if-parts-other.true))))

pub returns-then-ne : goal.returns-then-ne
returns-then-ne c =
    let same : to_z w32 (of_z w32 c.args.d.scale) ≡ c.args.d.scale = search rules in
    let high = eq-eqb _ _ c.if-parts-other.false in
    refuse c.args.d
    (compared c.args.d c.in_ok-precision.ensures c.if-end_out.ensures c.if-end_out-2.ensures c.if-d.false same c.if-scale_out.ensures c.parts_at-parts.ensures c.parts_at-other.ensures
    (pass (ap not high) (stop (sym (low_differs c.parts_at-parts.result c.parts_at-other.result high c.if-ne.ensures)))))

pub stored_parts-applied-requires : goal.stored_parts-applied-requires
stored_parts-applied-requires c =
    let p = c.in_ok-precision.precision in
    rw c.parts_at-parts.ensures (storable (context_at p.bits) (fine_at p.valid) c.args.d.lower (end_in _ _ (sym c.if-end_out.ensures)))

pub returns : goal.returns
returns c =
    let p = c.in_ok-precision.precision in
    let same : to_z w32 (of_z w32 c.args.d.scale) ≡ c.args.d.scale = search rules in
    let m = made c.args.d c.in_ok-precision.ensures in
    let parts = rw m.1 at c.parts_at-parts.ensures in
    let high = eq-eqb _ _ c.if-parts-other.false in
    let applied = rw (m.1, same) at c.stored_parts-applied.ensures ∙ ap (applied_from c.args.d.precision c.args.d.scale) parts ∙ sym (applied_from_lem c.args.d (rw m.1 at p.valid) (end_in _ _ (sym (rw m.1 at c.if-end_out.ensures)))) in
    accept c.args.d
    (compared c.args.d c.in_ok-precision.ensures c.if-end_out.ensures c.if-end_out-2.ensures c.if-d.false same c.if-scale_out.ensures c.parts_at-parts.ensures c.parts_at-other.ensures
    (pass (ap not high) (pass (sym (low_differs c.parts_at-parts.result c.parts_at-other.result high c.if-ne.ensures)) end)))
    (λ i. record { parts = parts i; applied = applied i })
