-- The high significand, and the parts from the rest that it leaves.
use Rattle.std.proofs.Common.{◌≡◌, ℕ, ◌+◌, ◌-◌, ◌*◌, ◌%◌, ◌^◌, ◌≤◌, ◌<◌, ℤ, sym, ap, ap₂, ◌∙◌, arith, rules, ltb, lt_of_le_of_lt, mul-le-mul_right, pow-add, pow_mono, w64, to_z, of_z}
use Rattle.std.proofs.Math.Nat.{mod-eq_of_lt}
use Rattle.wide.specs.Value.{half_word}
use Rattle.rounding.specs.Apart.{apart}
use Rattle.rounding.specs.Grid.{to_even}
use Rattle.rounding.specs.Signed.{signed_of}
use Rattle.rounding.proofs.DirectedLaws.{size_of}
use Rattle.rounding.specs.declared.Directed.{Directed}
use Rattle.round.specs.Neighbour.{neighbour}
use Rattle.factor.specs.Precision.{ValidPrecision}
use Rattle.factor.specs.Context.{Context, tie_rule, context_at}
use Rattle.factor.specs.Ends.{End}
use Rattle.factor.specs.UnitParts.{step, unit_parts, parts_from}
use Rattle.factor.proofs.ContextLaws.{fine_at}
use Rattle.factor.proofs.PartsLaws.{high_most, rest_le, parts_from_lem}
use Rattle.factor.proofs.Precision.parts_at.Goals as goal

module _ {n e : ℕ} (N : ValidPrecision n) (end : End (context_at n) e) where
  abbrev K : Context
  K = context_at n

  open K use {E}

  -- the high significand, Ch in the unit of the ends, and how far that is from the end
  abbrev h : ℕ
  h = (unit_parts K e).high

  abbrev whole : ℕ
  whole = h * step K

  left : apart e whole ≤ 2 ^ (E - n)
  left = rest_le K (fine_at N) e end

  small : apart e whole < half_word
  small = lt_of_le_of_lt left (lt_of_le_of_lt (pow_mono {i = E - n} {j = 62} (omega (arith, N))) (omega arith))

  -- Ch fits a word
  fits : whole < 2 ^ 64
  fits =
      let w : 2 ^ (E + 1) ≡ 2 ^ n * step K = ap (λ (z : ℕ). 2 ^ z) (omega (arith, N)) ∙ pow-add 2 n (E + 1 - n) in
      omega (arith, w, pow_mono {i = E + 1} {j = 63} (omega (arith, N)), mul-le-mul_right (step K) (high_most K (fine_at N) e end))

  -- as the code has them
  module _ {k : ℕ} {near : Directed ℕ} (k_is : k ≡ E + 1 - n) (near_is : near ≡ neighbour to_even e (2 ^ k)) where
    high_is : near.value ≡ h
    unfolding unit_parts tie_rule
    high_is = ap (λ (m : Directed ℕ). m.value) near_is ∙ ap (λ (z : ℕ). Rattle.rounding.specs.Grid.nearest to_even e (2 ^ z)) k_is

    whole_is : near.value * 2 ^ k % 2 ^ 64 ≡ whole
    whole_is = ap₂ (λ (x y : ℕ). x * 2 ^ y % 2 ^ 64) high_is k_is ∙ mod-eq_of_lt fits

    rest_is : {z : ℤ} → z ≡ signed_of (ltb e (near.value * 2 ^ k % 2 ^ 64)) (apart e (near.value * 2 ^ k % 2 ^ 64)) → z ≡ signed_of (ltb e whole) (apart e whole)
    rest_is z_is = z_is ∙ ap (λ (x : ℕ). signed_of (ltb e x) (apart e x)) whole_is

pub rest_of-requires : goal.rest_of-requires
rest_of-requires c = rw (whole_is c.args.self.valid c.requires c.step_exponent-k.ensures c.nearest_word-high.ensures) (small c.args.self.valid c.requires)

pub parts_from-requires : goal.parts_from-requires
parts_from-requires c =
    let same : to_z w64 (of_z w64 c.rest_of.result) ≡ c.rest_of.result = search rules in
    rw (same, rest_is c.args.self.valid c.requires c.step_exponent-k.ensures c.nearest_word-high.ensures c.rest_of.ensures, size_of) (left c.args.self.valid c.requires)

pub returns : goal.returns
unfolding unit_parts
returns c =
    let same : to_z w64 (of_z w64 c.rest_of.result) ≡ c.rest_of.result = search rules in
    c.parts_from.ensures
    ∙ ap₂ (λ (x : ℕ) (z : ℤ). parts_from (context_at c.args.self.bits) x z) (high_is c.args.self.valid c.requires c.step_exponent-k.ensures c.nearest_word-high.ensures) (same ∙ rest_is c.args.self.valid c.requires c.step_exponent-k.ensures c.nearest_word-high.ensures c.rest_of.ensures)
    ∙ sym (parts_from_lem (context_at c.args.self.bits) (fine_at c.args.self.valid) c.args.end c.requires)
