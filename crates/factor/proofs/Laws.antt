-- The parts as code works them out: the rest is rounded as a whole number, and its exponent is moved by the scale of the ends. Assumes nothing.
use Rattle.std.specs.Prelude.{◌≡◌, true, ℕ, ◌+◌, ◌-◌, ◌*◌, ◌^◌, ◌≤◌, ◌<◌, ℤ, pos, neg_ℤ, nat_abs, ◌+ℤ◌, ◌-ℤ◌}
use Rattle.std.proofs.Common.{sym, ap, ◌∙◌, arith, pow_pos}
use Rattle.std.proofs.lemmas.Int.{ints}
use Rattle.std.proofs.Math.IntN.{neg_ℤ-neg_ℤ}
use Rattle.rounding.specs.declared.Rounded.{Rounded}
use Rattle.rounding.specs.Round.{rounded}
use Rattle.rounding.proofs.RoundLaws.{shifted, rounded_same, rounded_scale}
use Rattle.rounding.specs.Signed.{negative, signed_of, rounded_signed}
use Rattle.factor.specs.Context.{Context, Fine}
use Rattle.factor.specs.UnitParts.{parts_from}
use Rattle.rounding.proofs.DirectedLaws.{size_of}
use Rattle.factor.proofs.LowForm.{low_form}

-- a - (b + a) is - b
back : (a b : ℤ) → a -ℤ (b +ℤ a) ≡ neg_ℤ b
back a b = omega (arith, ints)

module _ (K : Context) (ok : Fine K) where
  open K use {rule, n, E}
  open ok use {some as P}

  -- a whole number rounded, and the same number over 2 ^ E
  scaled : (R : ℕ) → 0 < R → rounded rule n R 1 ≡ shifted E (rounded rule n R (2 ^ E))
  scaled R h = rounded_same rule n P R 1 (R * 2 ^ E) (2 ^ E) (omega arith) (pow_pos E) (omega arith) ∙ rounded_scale rule n P R (2 ^ E) E h (pow_pos E)

  -- no rest
  pub parts_none : (h : ℕ) (z : ℤ) (r : Rounded ℤ) → r ≡ rounded_signed rule n z → nat_abs z ≡ 0 → (r.significand ≡ (parts_from K h z).low) × (0 ≡ (parts_from K h z).places)
  unfolding rounded_signed parts_from rounded
  parts_none h z r e m = (
    ap (λ (q : Rounded ℤ). q.significand) e ∙ ap (λ (k : ℕ). signed_of (negative z) (rounded rule n k 1).significand) m ∙ ap (λ (k : ℕ). signed_of (negative z) (rounded rule n k (2 ^ E)).significand) (sym m),
    ap (λ (k : ℕ). nat_abs (rounded rule n k (2 ^ E)).exponent) (sym m),
  )

  -- a rest, at most half a step
  pub record Placed (r : Rounded ℤ) (low : ℤ) (places : ℕ) : Type 0 where
    pub significand : r.significand ≡ low
    pub exponent : pos E -ℤ r.exponent ≡ pos places
    pub few : places < E + n

  pub parts_some : (h : ℕ) (z : ℤ) (r : Rounded ℤ) → r ≡ rounded_signed rule n z → 0 < nat_abs z → nat_abs z ≤ 2 ^ (E - n)
      → Placed r (parts_from K h z).low (parts_from K h z).places
  unfolding rounded_signed parts_from
  parts_some h z r e m w =
      let t = scaled (nat_abs z) m in
      let f = low_form K ok (nat_abs z) m w in
      let x : r.exponent ≡ neg_ℤ (pos f.places) +ℤ pos E = ap (λ (q : Rounded ℤ). q.exponent) e ∙ ap (λ (q : Rounded ℕ). q.exponent) t ∙ ap (λ (k : ℤ). k +ℤ pos E) f.exponent in
      let q : f.places ≡ nat_abs (rounded rule n (nat_abs z) (2 ^ E)).exponent = sym (ap nat_abs f.exponent ∙ size_of true f.places) in
      record {
        significand = ap (λ (y : Rounded ℤ). y.significand) e ∙ ap (λ (y : Rounded ℕ). signed_of (negative z) y.significand) t;
        exponent = ap (λ (k : ℤ). pos E -ℤ k) x ∙ back (pos E) (neg_ℤ (pos f.places)) ∙ neg_ℤ-neg_ℤ (pos f.places) ∙ ap pos q;
        few = rw (sym q) f.most;
      }
