-- An end of a factor times a significand, cut behind its step of binade 0: that it can be rounded and what it rounds to, that it can be added to, and the next significand's. Assumes nothing.
use Rattle.std.proofs.Common.{◌≡◌, sym, ap, ap₂, ◌∙◌, subst, ℕ, suc, ◌+◌, ◌-◌, ◌*◌, ◌^◌, ◌≤◌, ◌<◌, le_trans, le_of_eq, lt_of_lt_of_le, lt_of_le_of_lt, mul-lt-mul_of_pos_right, div-lt_iff_lt-mul, pow-add, pow_pos, pow_mono, arith}
use Rattle.std.proofs.Math.Nat.{pow-succ'}
use Rattle.rounding.specs.Unit.{rn}
use Rattle.rounding.specs.Round.{HasBits}
use Rattle.wide.specs.Value.{word_bits}
use Rattle.round.specs.declared.Cut.{Cut}
use Rattle.round.specs.Cuts.{cut_at, uncut}
use Rattle.round.specs.CutLaws.{cut_whole, cut_short}
use Rattle.factor.specs.declared.Factor.{Factor}
use Rattle.factor.specs.Precision.{scale_of}
use Rattle.factor.specs.Context.{tie_rule, context_of}
use Rattle.factor.specs.Ends.{End}
use Rattle.factor.specs.SetUp.{Sound}
use Rattle.product.proofs.StepLaws.{end_within, kept_bits}

module _ (f : Factor) (s : Sound f) (L : ℕ) (end : End (context_of f) L) (e : ℕ) (at : e ≡ scale_of f.precision) where
  abbrev n : ℕ
  n = f.precision

  abbrev E : ℕ
  E = scale_of n

  module _ (X : ℕ) (x : HasBits f.precision X) where
    -- one word holds what is kept of it
    pub kept_word : L * X < 2 ^ (word_bits + e)
    kept_word =
        let i = end_within (context_of f) L end X x in
        let more : 2 ^ n * 2 ^ suc E ≤ 2 ^ (word_bits + E) = le_trans (le_of_eq (sym (pow-add 2 n (suc E)))) (pow_mono {i = n + suc E} {j = word_bits + E} (omega (arith, s.precision))) in
        rw at (lt_of_le_of_lt i.to (lt_of_lt_of_le (mul-lt-mul_of_pos_right (omega (arith, pow_pos n)) (pow_pos (suc E))) more))

    module _ (c : Cut) (is : c ≡ cut_at E (L * X)) where
      -- it can be rounded
      pub ready : (1 ≤ n) × (n + 2 < word_bits) × (1 ≤ e) × (e + 1 < word_bits) × (c.rest < 2 ^ e) × (2 ^ (n - 1) ≤ c.kept) × (c.kept < 2 ^ suc n)
      ready =
          let N = s.precision in
          let kept = kept_bits (context_of f) (L * X) (end_within (context_of f) L end X x) in
          rw (at, is) (omega (arith, N), omega (arith, N), omega (arith, N), omega (arith, N), cut_short E (L * X), kept.0, kept.1)

      -- and gives what the product rounds to
      pub rounds : (r : ℕ) → r * 2 ^ e ≡ rn tie_rule n (uncut e c) 1 → r * 2 ^ E ≡ rn tie_rule n (L * X) 1
      rounds r h = subst (λ (d : ℕ). r * 2 ^ d ≡ rn tie_rule n (uncut d c) 1) at h ∙ ap (λ (z : ℕ). rn tie_rule n z 1) (ap (uncut E) is ∙ cut_whole E (L * X))

      -- the end itself, cut, is added to it
      module _ (b : Cut) (step : b ≡ cut_at e L) where
        pub addable : (e < word_bits) × (c.rest < 2 ^ e) × (b.rest < 2 ^ e) × (c.kept + b.kept + 1 < 2 ^ word_bits)
        addable =
            let N = s.precision in
            let few : (cut_at e L).kept < 2 = (div-lt_iff_lt-mul (pow_pos e)).1 (rw at (lt_of_lt_of_le end.to (le_of_eq (pow-succ' 2 E)))) in
            let w : 2 ^ suc n ≤ 2 ^ 32 = pow_mono {i = suc n} {j = 32} (omega (arith, N)) in
            (rw at (omega (arith, N)), ready.4, rw step (cut_short e L), omega (arith, ready.6, w, ap (λ (z : Cut). z.kept) step, few))

        pub next_cut : (r : Cut) → r ≡ cut_at e (uncut e c + uncut e b) → r ≡ cut_at E (L * (X + 1))
        next_cut r h =
            subst (λ (d : ℕ). r ≡ cut_at d (uncut d c + uncut d b)) at h
            ∙ ap (cut_at E) (ap₂ (λ (y z : ℕ). y + z) (ap (uncut E) is ∙ cut_whole E (L * X)) (ap (uncut E) (subst (λ (d : ℕ). b ≡ cut_at d L) at step) ∙ cut_whole E L) ∙ omega arith)
