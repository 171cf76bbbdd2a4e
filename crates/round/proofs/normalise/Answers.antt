-- Whether the kept digits are the carry.
use Rattle.std.proofs.Common.{◌≡◌, ℕ, sym, ap, ◌∙◌, suc, ◌+◌, ◌-◌, ◌^◌, ◌<◌, w32, to_z, pos, add-one, eq-eqb, ne_eqb, arith}
use Rattle.std.proofs.lemmas.Int.{to_z_pos}
use Rattle.rounding.specs.declared.Direction.{Direction}
use Rattle.rounding.specs.Round.{normalised}
use Rattle.rounding.proofs.RoundLaws.{minus_zero}
use Rattle.round.proofs.normalise.Goals.{then-kept-power, else-kept-power}
use Rattle.round.proofs.normalise.Goals as goal

module _ (kept n dropped : ℕ) (few : dropped < 128) (d : Direction) (p : ℕ × ℕ) where
  abbrev Normal : Type 0
  Normal = record { significand = p.0; exponent = to_z w32 p.1; direction = d } ≡ normalised n kept dropped 0 d

  -- they are
  carried : kept ≡ 2 ^ n → p.0 ≡ 2 ^ (n - 1) → p.1 ≡ dropped + 1 → Normal
  unfolding normalised
  carried e s x =
      let exponent = ap (to_z w32) x ∙ to_z_pos w32 (dropped + 1) (omega arith) ∙ ap pos (add-one dropped) ∙ sym (minus_zero (suc dropped)) in
      rw (eq-eqb kept (2 ^ n) e) (λ i. record { significand = s i; exponent = exponent i; direction = d })

  -- they are not
  stayed : ¬ (kept ≡ 2 ^ n) → p.0 ≡ kept → p.1 ≡ dropped → Normal
  unfolding normalised
  stayed e s x =
      let exponent = ap (to_z w32) x ∙ to_z_pos w32 dropped (omega arith) ∙ sym (minus_zero dropped) in
      rw (ne_eqb kept (2 ^ n) e) (λ i. record { significand = s i; exponent = exponent i; direction = d })

pub returns : goal.returns
returns c =
    let a = c.args in
    let p = c.if-kept-power.significand in
    elim c.if-kept-power.branch [
      | then-kept-power w ↦ carried a.kept a.n a.dropped c.requires.2 a.direction p (w.if-kept-power.true ∙ c.power.ensures) (ap (λ (q : ℕ × ℕ). q.0) w.significand-is ∙ w.power-then-kept-power.ensures) (ap (λ (q : ℕ × ℕ). q.1) w.significand-is)
      | else-kept-power w ↦ stayed a.kept a.n a.dropped c.requires.2 a.direction p (λ e. w.if-kept-power.false (e ∙ sym c.power.ensures)) (ap (λ (q : ℕ × ℕ). q.0) w.significand-is) (ap (λ (q : ℕ × ℕ). q.1) w.significand-is)
    ]
