-- Laws of exponents: the biased exponent that code works out, a signed number, its size, and what 23 says of it. Assumes nothing.
use Rattle.std.specs.Prelude.{◌≡◌, refl, Bool, true, false, ℕ, zero, suc, ◌+◌, ◌-◌, ◌*◌, ◌≤◌, ◌<◌, ltb, ℤ, pos, negsuc, nat_abs, neg_ℤ, ◌+ℤ◌}
use Rattle.std.proofs.Common.{sym, ap, ◌∙◌, true≢false, arith, ltb-true, ltb-false, lt-ltb, le-ltb}
use Rattle.std.proofs.Math.IntN.{sub_ℕ, +ℤ_assoc, +ℤ_comm, pos-ne-negsuc}
use Rattle.std.specs.Int.Signed.{lt_z}
use Rattle.std.specs.Float.{Format}
use Rattle.std.specs.Float.Ieee.{emax, minus}
use Rattle.marks.specs.AnswerLaws.{or_false}
use Rattle.rounding.proofs.RoundLaws.{minus_back}
use Rattle.floats.proofs.Powers.{sub_pos, sub_le, emax_two}
use Rattle.factor.specs.SetUp.{scale_out}
use Rattle.reading.specs.Reading.{exponent_out}

-- ---- an exponent by its biased exponent F, with r put on
pub biased_is : (f : Format) (F : ℕ) (r : ℤ) → minus F (emax f) +ℤ r +ℤ pos (emax f) ≡ pos F +ℤ r
biased_is f F r =
    +ℤ_assoc (minus F (emax f)) r (pos (emax f)) ∙ ap (λ (z : ℤ). minus F (emax f) +ℤ z) (+ℤ_comm r (pos (emax f))) ∙ sym (+ℤ_assoc (minus F (emax f)) (pos (emax f)) r)
    ∙ ap (λ (z : ℤ). z +ℤ r) (minus_back F (emax f))

-- ---- sizes: a sum has at most both
size_sub : (m n : ℕ) → nat_abs (sub_ℕ m n) ≤ m + n
size_sub m n = go (ltb m n) refl
  where
    go : (b : Bool) → ltb m n ≡ b → nat_abs (sub_ℕ m n) ≤ m + n
    go true e = rw e (let l = ltb-true m n e in omega arith)
    go false e = rw e (omega arith)

pub size_sum : (a b : ℤ) → nat_abs (a +ℤ b) ≤ nat_abs a + nat_abs b
size_sum (pos m) (pos n) = omega arith
size_sum (pos m) (negsuc n) = size_sub m (suc n)
size_sum (negsuc m) (pos n) = let l = size_sub n (suc m) in omega arith
size_sum (negsuc m) (negsuc n) = omega arith

-- a scale that 14 does not refuse
pub scale_size : (k : ℤ) → scale_out k ≡ false → nat_abs k ≤ 100
scale_size (pos m) e = ltb-false 100 m e
scale_size (negsuc m) e = let l = ltb-false 99 m (or_false (ltb 99 m) false e).0 in omega arith

pub size_negated : (k : ℤ) → nat_abs (neg_ℤ k) ≡ nat_abs k
size_negated (pos zero) = refl
size_negated (pos (suc m)) = refl
size_negated (negsuc m) = refl

-- ---- 23 of an exponent z, by its biased exponent
-- one below zero is refused
pub out_negative : (f : Format) (z : ℤ) (q : ℕ) → z +ℤ pos (emax f) ≡ negsuc q → exponent_out f z ≡ true
out_negative f (pos k) q e = absurd (pos-ne-negsuc (k + emax f) q e)
out_negative f (negsuc k) q e = go (ltb (emax f) (suc k)) refl e
  where
    go : (b : Bool) → ltb (emax f) (suc k) ≡ b → sub_ℕ (emax f) (suc k) ≡ negsuc q → exponent_out f (negsuc k) ≡ true
    go true t x = let l = ltb-true (emax f) (suc k) t in rw (lt-ltb (emax f - 2) k (omega (arith, emax_two f)))
    go false t x = absurd (pos-ne-negsuc (emax f - suc k) q (rw t at x))

module _ (f : Format) (z : ℤ) (p : ℕ) (at : z +ℤ pos (emax f) ≡ pos p) where
  -- z is so many above or below 0
  by_count : (P : ℤ → Type 0) → ((k : ℕ) → k + emax f ≡ p → P (pos k)) → ((k : ℕ) → emax f ≡ p + suc k → P (negsuc k)) → P z
  by_count P above below = go z at
    where
      go : (z : ℤ) → z +ℤ pos (emax f) ≡ pos p → P z
      go (pos k) e = above k (ap nat_abs e)
      go (negsuc k) e = below k (sub_pos (emax f) (suc k) p e)

  -- so are zero and what is above those of normal numbers
  pub out_low : p < 1 → exponent_out f z ≡ true
  out_low h = by_count (λ z. exponent_out f z ≡ true) (λ k e. absurd (omega (arith, emax_two f))) (λ k e. rw (lt-ltb (emax f - 2) k (omega (arith, emax_two f))))

  pub out_high : 2 * emax f < p → exponent_out f z ≡ true
  out_high h = by_count (λ z. exponent_out f z ≡ true) (λ k e. lt-ltb (emax f) k (omega (arith, emax_two f))) (λ k e. absurd (omega (arith, emax_two f)))

  pub out_none : 1 ≤ p → p ≤ 2 * emax f → exponent_out f z ≡ false
  out_none l h = by_count (λ z. exponent_out f z ≡ false) (λ k e. le-ltb (emax f) k (omega (arith, emax_two f))) (λ k e. rw (le-ltb (emax f - 2) k (omega (arith, emax_two f))))

  -- counted from 1 - emax, for a normal number
  pub from_least : 1 ≤ p → z +ℤ pos (emax f - 1) ≡ pos (p - 1)
  from_least l =
      by_count (λ z. z +ℤ pos (emax f - 1) ≡ pos (p - 1)) (λ k e. ap pos (omega (arith, emax_two f)))
      (λ k e. sub_le (emax f - 1) (suc k) (p - 1) (omega (arith, emax_two f)))

-- by the two tests that code makes of the biased exponent e
module _ (f : Format) where
  pub below_least : (z e : ℤ) → z +ℤ pos (emax f) ≡ e → lt_z e (pos 1) ≡ true → exponent_out f z ≡ true
  below_least z (pos p) at t = out_low f z p at (ltb-true p 1 t)
  below_least z (negsuc q) at t = out_negative f z q at

  pub above_most : (z e : ℤ) → z +ℤ pos (emax f) ≡ e → lt_z (pos (2 * emax f)) e ≡ true → exponent_out f z ≡ true
  above_most z (pos p) at t = out_high f z p at (ltb-true (2 * emax f) p t)
  above_most z (negsuc q) at t = absurd (true≢false (sym t))

  -- one that passes both is that of a normal number
  pub in_between : (e : ℤ) → lt_z e (pos 1) ≡ false → lt_z (pos (2 * emax f)) e ≡ false → (p : ℕ) × (e ≡ pos p) × (1 ≤ p) × (p ≤ 2 * emax f)
  in_between (pos p) s t = (p, refl, ltb-false p 1 s, ltb-false (2 * emax f) p t)
  in_between (negsuc q) s t = absurd (true≢false s)

-- every exponent that 23 lets through has a biased exponent of a normal number
pub let_through : (f : Format) (z : ℤ) → exponent_out f z ≡ false → (p : ℕ) × (z +ℤ pos (emax f) ≡ pos p) × (1 ≤ p) × (p ≤ 2 * emax f)
let_through f (pos k) e = let l = ltb-false (emax f) k e in (k + emax f, refl, omega (arith, emax_two f), omega (arith, emax_two f))
let_through f (negsuc k) e =
    let l = ltb-false (emax f - 2) k (or_false (ltb (emax f - 2) k) false e).0 in
    (emax f - suc k, sub_le (emax f) (suc k) (emax f - suc k) (omega (arith, emax_two f)), omega (arith, emax_two f), omega (arith, emax_two f))
