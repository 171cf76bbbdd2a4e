-- Sign and size apart.
use Rattle.std.proofs.Common.{◌≡◌, ap, ◌∙◌, Bool, ℕ, zero, suc, ◌-◌, ◌<◌, lt_of_lt_of_le, pow_mono, ℤ, pos, nat_abs, w32, w64, to_z, of_z, to_z-of_z, arith, rules}
use Rattle.std.specs.Int.Signed.{lt_z}
use Rattle.wide.specs.Value.{word_bits, half_word}
use Rattle.rounding.specs.Direction.{signed_direction}
use Rattle.rounding.specs.Grid.{Rule, rule_of}
use Rattle.rounding.specs.Round.{rounded}
use Rattle.rounding.proofs.RoundLaws.{rounded_bits}
use Rattle.rounding.specs.Signed.{negative, signed_of, with_sign, rounded_signed}
use Rattle.round.proofs.Laws.{negative_is}
use Rattle.round.proofs.round_signed.Goals as goal

-- a significand of n bits, or zero, is one that a signed word holds
below : (rule : Rule) (n x : ℕ) → 0 < n → n < 64 → (rounded rule n x 1).significand < half_word
unfolding rounded
below rule n zero P h = omega arith
below rule n (suc x) P h = lt_of_lt_of_le (rounded_bits rule n P (suc x) 1 (omega arith) (omega arith)).most (pow_mono {i = n} {j = word_bits - 1} (omega arith))

pub with_sign-requires : goal.with_sign-requires
with_sign-requires c = rw c.round_word-r.ensures (below (rule_of c.args.rule) c.args.n c.unsigned_abs.result c.requires.0 c.requires.1)

pub returns : goal.returns
unfolding rounded_signed
returns c =
    let rule = rule_of c.args.rule in
    let z = c.args.z in
    let n = c.args.n in
    let size = c.round_word-r.result in
    let minus = negative z in
    let same = to_z-of_z {w = w64} c.ranges.z in
    let r : size ≡ rounded rule n (nat_abs z) 1 = c.round_word-r.ensures ∙ ap (λ (m : ℕ). rounded rule n m 1) (c.unsigned_abs.ensures.value ∙ ap nat_abs same) in
    let below-is : lt_z (to_z w64 (of_z w64 z)) (pos 0) ≡ minus = ap (λ (y : ℤ). lt_z y (pos 0)) same ∙ negative_is z in
    let s : to_z w64 (of_z w64 c.with_sign.result) ≡ signed_of minus size.significand =
    to_z-of_z {w = w64} (record { sfits = c.with_sign.type_inv }) ∙ c.with_sign.ensures ∙ ap (λ (b : Bool). signed_of b size.significand) below-is in
    let e : to_z w32 (of_z w32 size.exponent) ≡ size.exponent = search rules in
    let d = c.signed_direction.ensures ∙ ap (λ (b : Bool). signed_direction b size.direction) below-is in
    (λ i. record { significand = s i; exponent = e i; direction = d i }) ∙ ap (with_sign minus) r
