-- Laws: two factors are alike exactly if they are described alike, and of a kit's that none are; and as code tests it, the lower ends first, then precisions, scales and upper ends, then their descriptions. Assumes nothing.
use Rattle.std.specs.Prelude.{◌≡◌, refl, Bool, false, ◌&&◌, ◌≢◌, ◌↔◌, List, eqb, ℤ}
use Rattle.std.proofs.Common.{sym, ap, ◌∙◌, subst, true≢false, int_eq}
use Rattle.std.proofs.Math.Bool.{true, and-false, not-eq-not}
use Rattle.std.proofs.lemmas.Bool.Decides.{same_from_decides, Decides-int_eq}
use Rattle.std.specs.Bool.{beq}
use borrow.Author.Tests.{eqb-true, eq-eqb}
use Rattle.marks.specs.AnswerLaws.{and_true}
use Rattle.factor.specs.declared.Description.{Description}
use Rattle.factor.specs.declared.Factor.{Factor}
use Rattle.factor.specs.SetUp.{same_z, described}
use Rattle.factor.proofs.SetUpLaws.{same_z_true, same_z_same}
use Rattle.calls.specs.Kit.{two_alike}
use Rattle.calls.proofs.KitFormed.{Apart, none_alike}
use Rattle.kit.specs.Engine.{alike}

-- ---- what it means
-- signs are told to be the same exactly if they are
same_sign : (a b : Bool) → beq a b ≡ true → a ≡ b
same_sign true true e = refl
same_sign true false e = absurd (true≢false (sym e))
same_sign false true e = absurd (true≢false (sym e))
same_sign false false e = refl

sign_same : (a b : Bool) → a ≡ b → beq a b ≡ true
sign_same true b e = ap (beq true) (sym e)
sign_same false b e = ap (beq false) (sym e)

module _ (f g : Factor) where
  -- the description has sign, precision, scale and ends, and nothing else
  pub alike_described : (alike f g ≡ true) ↔ (described f ≡ described g)
  unfolding alike
  alike_described = (there, back)
    where
      there : alike f g ≡ true → described f ≡ described g
      there e =
          let a = and_true _ _ e in
          let b = and_true _ _ a.1 in
          let c = and_true _ _ b.1 in
          let d = and_true _ _ c.1 in
          λ i. record {
            minus = same_sign f.minus g.minus a.0 i;
            precision = eqb-true f.precision g.precision b.0 i;
            scale = same_z_true f.applied.scale g.applied.scale c.0 i;
            lower = eqb-true f.lower g.lower d.0 i;
            upper = eqb-true f.upper g.upper d.1 i;
          }

      back : described f ≡ described g → alike f g ≡ true
      back e =
          rw (
            sign_same f.minus g.minus (ap (λ (d : Description). d.minus) e),
            eq-eqb f.precision g.precision (ap (λ (d : Description). d.precision) e),
            subst (λ (z : ℤ). same_z f.applied.scale z ≡ true) (ap (λ (d : Description). d.scale) e) (same_z_same f.applied.scale),
            eq-eqb f.lower g.lower (ap (λ (d : Description). d.lower) e),
            eq-eqb f.upper g.upper (ap (λ (d : Description). d.upper) e),
          )

-- ---- as code tests it
-- numbers with a sign, compared by the machine, are compared by `same_z`
scale_is : (x y : ℤ) → int_eq x y ≡ same_z x y
scale_is x y = same_from_decides (int_eq x y) (same_z x y) (Decides-int_eq x y) (same_z_true x y, λ e. subst (λ (z : ℤ). same_z x z ≡ true) e (same_z_same x))

-- the descriptions are compared field by field
pub alike_is : {d e : Description} (f g : Factor) → d ≡ described f → e ≡ described g
    → beq d.minus e.minus && (eqb d.precision e.precision && (int_eq d.scale e.scale && (eqb d.lower e.lower && eqb d.upper e.upper))) ≡ alike f g
unfolding alike
alike_is f g p q = rw (p, q, scale_is f.applied.scale g.applied.scale)

module _ (f g : Factor) where
  -- where the lower ends are the same, all else decides
  pub alike_rest : {scales : Bool} → eqb f.lower g.lower ≡ true → scales ≡ same_z f.applied.scale g.applied.scale
      → beq f.minus g.minus && (eqb f.precision g.precision && (scales && eqb f.upper g.upper)) ≡ alike f g
  unfolding alike
  alike_rest {scales} l s = rw (l, s)

  -- where they are not, the factors are not alike
  pub alike_apart : eqb f.lower g.lower ≡ false → false ≡ alike f g
  unfolding alike
  alike_apart l = rw (l, and-false (same_z f.applied.scale g.applied.scale), and-false (eqb f.precision g.precision), and-false (beq f.minus g.minus))

  -- nor are they where any test fails that factors described alike pass
  pub alike_unless : {passed : Bool} → passed ≡ false → (described f ≡ described g → passed ≡ true) → false ≡ alike f g
  alike_unless {passed} failed passes = decided (alike f g) (λ e. true≢false (sym (passes ((alike_described f g).0 e)) ∙ failed))
    where
      decided : (t : Bool) → (t ≡ true → ⊥) → false ≡ t
      decided true h = absurd (h refl)
      decided false h = refl

-- ---- of a list of factors

-- 43 lets factors through exactly if those at two places are never described alike.
pub apart_described : (fs : List Factor) → (two_alike alike fs ≡ false) ↔ Apart (λ f g. described f ≢ described g) fs
apart_described fs =
    let apart = none_alike alike fs in (
      (λ e i j h f g p q a b same. true≢false (sym ((alike_described f g).1 same) ∙ apart.0 e i j h f g p q a b)),
      (λ h. apart.1 (λ i j k f g p q a b. (not-eq-not {b = false}).0 (λ e. h i j k f g p q a b ((alike_described f g).0 e)))),
    )
