-- One division, with n digits or n - 1 behind X's, in a word.
use mir.Val.{bool_byte}
use Rattle.std.proofs.Common.{◌≡◌, refl, sym, ap, ap₂, ◌∙◌, Bool, true, false, cond, ltb, ℕ, ◌+◌, ◌-◌, ◌*◌, ◌/◌, ◌%◌, ◌^◌, ◌≤◌, ◌<◌, ℤ, pos, ◌-ℤ◌, to_z, of_z, w32, div-le_self, le_trans, arith, pow_pos, pow_mono, shl_lt, shl_exact}
use Rattle.std.specs.Float.Ieee.{minus}
use Rattle.rounding.specs.declared.Directed.{Directed}
use Rattle.round.specs.Neighbour.{neighbour}
use Rattle.factor.specs.Context.{tie_rule, context_of}
use Rattle.rounding.specs.Round.{HasBits}
use Rattle.factor.specs.declared.Factor.{Factor}
use Rattle.factor.specs.SetUp.{Sound}
use Rattle.product.proofs.SoundLaws.{sound_fine, sound_high}
use Rattle.quotient.specs.Quotient.{binades_below}
use Rattle.quotient.specs.QuotientLaws.{quotient_is, quotient_direction}
use Rattle.quotient.proofs.quotient_of.Goals as goal

-- one binade or none below, as it is counted, and as a signed number
count_is : (b : Bool) → bool_byte b ≡ cond b 1 0
count_is true = refl
count_is false = refl

minus_is : (b : Bool) → to_z w32 (of_z w32 (pos 0 -ℤ to_z w32 (bool_byte b))) ≡ minus 0 (cond b 1 0)
minus_is true = refl
minus_is false = refl

-- what is shifted keeps all its digits
module _ (f : Factor) (X : ℕ) (sound : Sound f) (in_range : HasBits f.precision X) where
  abbrev n : ℕ
  n = f.precision

  abbrev H : ℕ
  H = f.parts.high

  abbrev t : ℕ
  t = n - 1 + bool_byte (ltb X H)

  few : n + t ≤ 63
  few = go (ltb X H)
    where
      go : (z : Bool) → n + (n - 1 + bool_byte z) ≤ 63
      go true = omega (arith, sound.precision)
      go false = omega (arith, sound.precision)

  word_is : X * 2 ^ t % 2 ^ 64 ≡ X * 2 ^ t
  word_is = shl_exact n t 64 in_range.most (omega (arith, few))

  word_lt : X * 2 ^ t < 2 ^ 63
  word_lt = le_trans (shl_lt n t in_range.most) (pow_mono {i = n + t} {j = 63} few)

  divisor : 0 < H
  divisor = le_trans (pow_pos (n - 1)) (sound_high f sound).least

  taken_fits : X * 2 ^ t % 2 ^ 64 / H + 1 < 2 ^ 64
  taken_fits = rw word_is (omega (arith, div-le_self (X * 2 ^ t) H, word_lt))

pub nearest_quotient-near-requires : goal.nearest_quotient-near-requires
nearest_quotient-near-requires c =
    let a = c.args in
    (divisor a.f a.x c.requires.0 c.requires.1, taken_fits a.f a.x c.requires.0 c.requires.1)

pub returns : goal.returns
unfolding tie_rule
returns c =
    let f = c.args.f in
    let X = c.args.x in
    let sound = c.requires.0 in
    let in_range = c.requires.1 in
    let H = f.parts.high in
    let n = f.precision in
    let near : c.nearest_quotient-near.result ≡ neighbour tie_rule (X * 2 ^ (n - 1 + binades_below X H)) H =
    c.nearest_quotient-near.ensures ∙ ap (λ (z : ℕ). neighbour tie_rule z H) (word_is f X sound in_range ∙ ap (λ (z : ℕ). X * 2 ^ (n - 1 + z)) (count_is (ltb X H))) in
    let is = quotient_is (context_of f) (sound_fine f sound).some f.parts X (sound_high f sound) in_range in
    let direction = quotient_direction (context_of f) (sound_fine f sound).some f.parts X (sound_high f sound) in_range tie_rule in
    ap₂ (λ (m : Directed ℕ) (z : ℤ). record { value = record { significand = m.value; binade = z }; direction = m.direction }) near (minus_is (ltb X H))
    ∙ (λ i. record { value = sym is i; direction = sym direction i })
