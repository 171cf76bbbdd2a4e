-- Signed numbers of a word are the same exactly if their bits are. Assumes nothing.
use Rattle.std.specs.Prelude.{◌≡◌, refl, Bool, true, false, eqb, ℤ}
use Rattle.std.proofs.Common.{sym, ap, ◌∙◌, subst, true≢false, eq-eqb, ne_eqb, to_z, of_z}
use Rattle.std.proofs.lemmas.Int.{to_z-of_z}
use mir.Syntax.{Width}
use mir.Val.{SFits}
use Rattle.factor.specs.SetUp.{same_z}
use Rattle.factor.proofs.SetUpLaws.{same_z_true, same_z_same}

pub same_bits : (w : Width) (x y : ℤ) → SFits w x → SFits w y → eqb (of_z w x) (of_z w y) ≡ same_z x y
same_bits w x y p q = go (same_z x y) refl
  where
    go : (b : Bool) → same_z x y ≡ b → eqb (of_z w x) (of_z w y) ≡ b
    go true e = eq-eqb (of_z w x) (of_z w y) (ap (of_z w) (same_z_true x y e))
    go false e =
        ne_eqb (of_z w x) (of_z w y) (λ h.
        let same : x ≡ y = sym (to_z-of_z w x p) ∙ ap (to_z w) h ∙ to_z-of_z w y q in
        true≢false (sym (subst (λ (z : ℤ). same_z x z ≡ true) same (same_z_same x)) ∙ e))
