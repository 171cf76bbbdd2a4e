-- The biased exponent as a signed number, 23 by the two tests of it, and the number put together.
use Rattle.std.proofs.Common.{◌≡◌, refl, ◌≤◌, ℕ, ◌<◌, ◌-◌, ◌*◌, ◌^◌, Bool, true, false, Float, sym, ap, ap₂, ◌∙◌, ℤ, pos, nat_abs, ◌+ℤ◌, ◌-ℤ◌, to_z, of_z, w32, arith}
use Rattle.std.specs.Int.Signed.{lt_z}
use Rattle.std.specs.Float.{binary32}
use Rattle.std.specs.Float.Ieee.{prec, emax}
use Rattle.std.proofs.lemmas.Int.{to_z_pos}
use Rattle.marks.specs.Answers.{accepted}
use Rattle.marks.specs.AnswerLaws.{pass, stop, end, refuses, accepts}
use Rattle.rounding.specs.declared.Direction.{Direction}
use Rattle.rounding.specs.Direction.{signed_direction}
use Rattle.rounding.specs.Round.{HasBits}
use Rattle.floats.specs.Fields.{biased_exponent, exponent_of, float_of}
use Rattle.floats.proofs.Powers.{sub_le}
use Rattle.floats.proofs.Pattern.{biased_most}
use Rattle.reading.specs.Reading.{exponent_out, number_of}
use Rattle.reading.proofs.Exponents.{biased_is, size_sum, below_least, above_most, in_between, out_none}
use Rattle.reading.proofs.ReadingLaws.{number_is}
use Rattle.reading.proofs.Laws.{kept}
use Rattle.reading.proofs.Taken.place.Goals as goal
use Rattle.reading.proofs.Taken.place.Goals.{then-exponent-lt-LEAST_EXPONENT-via-then-exponent-lt-LEAST_EXPONENT, then-exponent-lt-LEAST_EXPONENT-via-else-exponent-lt-LEAST_EXPONENT+then-exponent-gt-MOST_EXPONENT}

-- ---- a pattern's biased exponent with r put on, as the machine has it
module _ (b F : ℕ) (r : ℤ) (is : F ≡ biased_exponent binary32 b) (few : nat_abs r ≤ 101) where
  abbrev summed : ℤ
  summed = to_z w32 F +ℤ to_z w32 (of_z w32 r)

  abbrev put : ℤ
  put = to_z w32 (of_z w32 summed)

  abbrev exponent : ℤ
  exponent = exponent_of binary32 b +ℤ r

  at : exponent +ℤ pos (emax binary32) ≡ put
  at =
      let most : F < 256 = rw is (biased_most binary32 b) in
      let small : nat_abs r < 2 ^ 31 = omega arith in
      let summed_is : summed ≡ pos F +ℤ r = ap₂ (λ (x y : ℤ). x +ℤ y) (to_z_pos w32 F (omega arith)) (kept r r refl small).1 in
      biased_is binary32 (biased_exponent binary32 b) r ∙ ap (λ (z : ℕ). pos z +ℤ r) (sym is) ∙ sym (kept summed (pos F +ℤ r) summed_is (omega (arith, size_sum (pos F) r))).1

  below : lt_z put (pos 1) ≡ true → exponent_out binary32 exponent ≡ true
  below h = below_least binary32 exponent put at h

  above : lt_z (pos (2 * emax binary32)) put ≡ true → exponent_out binary32 exponent ≡ true
  above h = above_most binary32 exponent put at h

  -- ---- 23 lets it through, and it is counted from the least
  module _ (lo : lt_z put (pos 1) ≡ false) (hi : lt_z (pos (2 * emax binary32)) put ≡ false) where
    let_through : exponent_out binary32 exponent ≡ false
    let_through = let w = in_between binary32 put lo hi in out_none binary32 exponent w.0 (at ∙ w.1) w.2 w.3

    number : (s : Bool) (S : ℕ) → HasBits (prec binary32) S → float_of binary32 s (nat_abs (to_z w32 (of_z w32 (put -ℤ pos 1)))) S ≡ number_of binary32 s S exponent
    number s S bits =
        let w = in_between binary32 put lo hi in
        let less : put -ℤ pos 1 ≡ pos (w.0 - 1) = ap (λ (z : ℤ). z -ℤ pos 1) w.1 ∙ sub_le w.0 1 (w.0 - 1) (omega (arith, w.2)) in
        ap (λ (z : ℤ). float_of binary32 s (nat_abs z) S) (kept (put -ℤ pos 1) (pos (w.0 - 1)) less (omega (arith, w.3))).1
        ∙ number_is binary32 s S exponent bits w.0 (at ∙ w.1) w.2 w.3

pub returns-then-exponent-lt-LEAST_EXPONENT : goal.returns-then-exponent-lt-LEAST_EXPONENT
returns-then-exponent-lt-LEAST_EXPONENT c =
    let a = c.args in
    let F = c.biased_exponent.ensures in
    elim c.then-exponent-lt-LEAST_EXPONENT.branch [
      | then-exponent-lt-LEAST_EXPONENT-via-then-exponent-lt-LEAST_EXPONENT w ↦ refuses (stop (below a.self.bits _ a.raise F c.requires.0 w.if-exponent-lt-LEAST_EXPONENT.true)) _
      | then-exponent-lt-LEAST_EXPONENT-via-else-exponent-lt-LEAST_EXPONENT+then-exponent-gt-MOST_EXPONENT w ↦ refuses (stop (above a.self.bits _ a.raise F c.requires.0 w.if-exponent-gt-MOST_EXPONENT.true)) _
    ]

pub returns : goal.returns
returns c =
    let a = c.args in
    let F = c.biased_exponent.ensures in
    let lo = c.if-exponent-lt-LEAST_EXPONENT.false in
    let hi = c.if-exponent-gt-MOST_EXPONENT.false in
    let s = c.sign-minus.ensures in
    ap₂ (λ (y : Float) (d : Direction). accepted (record { value = y; direction = d }))
    (c.float_of.ensures ∙ number a.self.bits _ a.raise F c.requires.0 lo hi _ a.significand c.requires.1 ∙ ap (λ (m : Bool). number_of binary32 m a.significand (exponent_of binary32 a.self.bits +ℤ a.raise)) s)
    (c.signed_direction.ensures ∙ ap (λ (m : Bool). signed_direction m a.d) s)
    ∙ accepts (pass (let_through a.self.bits _ a.raise F c.requires.0 lo hi) end) _
