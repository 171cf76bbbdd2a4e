-- Laws of the side on which a number lies: exactly one of the three holds, and it is `side_of`; both signs turned mirror it, and the unit in which the two are counted changes nothing. Assumes nothing.
use Rattle.std.specs.Prelude.{◌≡◌, refl, Bool, true, false, cond, ℕ, zero, suc, ◌*◌, ◌<◌, T, ℤ, pos, negsuc, neg_ℤ, ◌<ℤ◌}
use Rattle.std.proofs.Common.{sym, ap, ap₂, ◌∙◌, subst, true≢false, suc-le-suc, le_antisymm, le_of_suc-le-suc, not-suc-le-zero, arith, ltb→lt, lt→ltb, ltb-false}
use Rattle.std.specs.Int.Signed.{lt_z, lt_z_yes, <ℤ_irrefl}
use Rattle.rounding.specs.declared.Direction.{Direction}
use Rattle.rounding.specs.declared.Direction.TheVariants.{Below, Equal, Above}
use Rattle.rounding.proofs.ApartLaws.{ltb_scale}
use Rattle.rounding.specs.Direction.{side_of, On, mirrored}

-- ---- exactly one holds
-- neither below nor above: equal
neither : (a b : ℤ) → lt_z b a ≡ false → lt_z a b ≡ false → b ≡ a
neither (pos a) (pos b) p q = ap pos (le_antisymm (ltb-false a b q) (ltb-false b a p))
neither (pos a) (negsuc b) p q = absurd (true≢false p)
neither (negsuc a) (pos b) p q = absurd (true≢false q)
neither (negsuc a) (negsuc b) p q = ap negsuc (le_antisymm (ltb-false a b p) (ltb-false b a q))

pub side_holds : (a b : ℤ) → On (side_of a b) a b
unfolding side_of
side_holds a b = go (lt_z b a) (lt_z a b) refl refl
  where
    go : (p q : Bool) → lt_z b a ≡ p → lt_z a b ≡ q → On (cond p Below (cond q Above Equal)) a b
    go true q e f = lt_z_yes (subst T (sym e) tt)
    go false true e f = lt_z_yes (subst T (sym f) tt)
    go false false e f = neither a b e f

-- no two of them hold
not_both : (a b : ℤ) → T (lt_z a b) → T (lt_z b a) → ⊥
not_both (pos a) (pos b) h k = omega (arith, ltb→lt a b h, ltb→lt b a k)
not_both (pos a) (negsuc b) h k = absurd h
not_both (negsuc a) (pos b) h k = absurd k
not_both (negsuc a) (negsuc b) h k = omega (arith, ltb→lt b a h, ltb→lt a b k)

pub one_side : (a b : ℤ) (c d : Direction) → On c a b → On d a b → c ≡ d
one_side a b Below Below h k = refl
one_side a b Below Equal h k = absurd (<ℤ_irrefl (subst (λ (z : ℤ). z <ℤ a) k h))
one_side a b Below Above h k = absurd (not_both b a h.lt k.lt)
one_side a b Equal Below h k = absurd (<ℤ_irrefl (subst (λ (z : ℤ). z <ℤ a) h k))
one_side a b Equal Equal h k = refl
one_side a b Equal Above h k = absurd (<ℤ_irrefl (subst (λ (z : ℤ). a <ℤ z) h k))
one_side a b Above Below h k = absurd (not_both b a k.lt h.lt)
one_side a b Above Equal h k = absurd (<ℤ_irrefl (subst (λ (z : ℤ). a <ℤ z) k h))
one_side a b Above Above h k = refl

-- so that whatever holds is `side_of`
pub side_only : (a b : ℤ) (d : Direction) → On d a b → side_of a b ≡ d
side_only a b d h = one_side a b (side_of a b) d (side_holds a b) h

-- ---- both signs turned
less_turned : (a b : ℤ) → T (lt_z a b) → T (lt_z (neg_ℤ b) (neg_ℤ a))
less_turned (pos zero) (pos zero) h = absurd h
less_turned (pos zero) (pos (suc b)) h = tt
less_turned (pos (suc a)) (pos zero) h = absurd (not-suc-le-zero (ltb→lt (suc a) 0 h))
less_turned (pos (suc a)) (pos (suc b)) h = lt→ltb a b (le_of_suc-le-suc (ltb→lt (suc a) (suc b) h))
less_turned (pos a) (negsuc b) h = absurd h
less_turned (negsuc a) (pos zero) h = lt→ltb 0 (suc a) (omega arith)
less_turned (negsuc a) (pos (suc b)) h = tt
less_turned (negsuc a) (negsuc b) h = lt→ltb (suc b) (suc a) (suc-le-suc (ltb→lt b a h))

turned : (a b : ℤ) (d : Direction) → On d a b → On (mirrored d) (neg_ℤ a) (neg_ℤ b)
turned a b Below h = lt_z_yes (less_turned b a h.lt)
turned a b Equal h = ap neg_ℤ h
turned a b Above h = lt_z_yes (less_turned a b h.lt)

pub side_mirrored : (a b : ℤ) → side_of (neg_ℤ a) (neg_ℤ b) ≡ mirrored (side_of a b)
side_mirrored a b = side_only (neg_ℤ a) (neg_ℤ b) (mirrored (side_of a b)) (turned a b (side_of a b) (side_holds a b))

-- ---- of whole numbers that are not negative
module _ (a b : ℕ) where
  pub side_below : b < a → side_of (pos a) (pos b) ≡ Below
  side_below h = side_only (pos a) (pos b) Below (lt_z_yes (lt→ltb b a h))

  pub side_equal : b ≡ a → side_of (pos a) (pos b) ≡ Equal
  side_equal e = side_only (pos a) (pos b) Equal (ap pos e)

  pub side_above : a < b → side_of (pos a) (pos b) ≡ Above
  side_above h = side_only (pos a) (pos b) Above (lt_z_yes (lt→ltb a b h))

  side_scale : (c : ℕ) → 0 < c → side_of (pos (a * c)) (pos (b * c)) ≡ side_of (pos a) (pos b)
  unfolding side_of
  side_scale c C = rw (ltb_scale b a c C, ltb_scale a b c C)

-- two numbers counted in another unit, c of which are g of the first
pub side_alike : (a b c p q g : ℕ) → 0 < c → 0 < g → a * c ≡ p * g → b * c ≡ q * g → side_of (pos a) (pos b) ≡ side_of (pos p) (pos q)
side_alike a b c p q g C G u v = sym (side_scale a b c C) ∙ ap₂ (λ (f h : ℕ). side_of (pos f) (pos h)) u v ∙ side_scale p q g G
