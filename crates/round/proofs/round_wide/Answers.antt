-- Zero, few digits, or more than n, of which all but n are dropped.
use Rattle.std.proofs.Common.{◌≡◌, sym, ap, ap₂, ◌∙◌, ℕ, zero, suc, ◌+◌, ◌-◌, ◌/◌, ◌%◌, ◌^◌, ◌≤◌, ◌<◌, mod-lt, pow_pos, pow_mono, lt_of_lt_of_le, arith}
use Rattle.std.specs.Float.Ieee.{size}
use Rattle.std.specs.Float.Ieee.Digits.{size-lt}
use Rattle.rounding.specs.Grid.{rule_of}
use Rattle.rounding.specs.Round.{normalised, rounded}
use Rattle.rounding.specs.ByDigits.{padded}
use Rattle.rounding.proofs.ByDigitsLaws.{rounded_few, rounded_many}
use Rattle.wide.specs.Value.{word_bits, value_of}
use Rattle.rounding.specs.declared.Directed.{Directed}
use Rattle.round.specs.Neighbour.{neighbour_at, neighbour}
use Rattle.round.proofs.Laws.{half_of, by_division, high_room, kept_digits}
use Rattle.round.proofs.round_wide.Goals as goal

-- no digits: zero
none : (x b : ℕ) → b ≡ size x → b ≡ 0 → x ≡ 0
none x b e z = omega (arith, rw (sym e ∙ z) at (size-lt x))

-- some digits: more than zero
some : (x b : ℕ) → b ≡ size x → 0 < b → 0 < x
unfolding size
some zero b e n = omega arith
some (suc x) b e n = omega arith

-- few digits: one word
few : (x b n : ℕ) → b ≡ size x → b ≤ n → n < 64 → x < 2 ^ 64
few x b n e h m = lt_of_lt_of_le (rw (sym e) at (size-lt x)) (pow_mono {i = b} {j = 64} (omega arith))

-- the kept digits are below 2 ^ n, and so one word
kept_small : (x b n : ℕ) → b ≡ size x → n ≤ b → n < 64 → x / 2 ^ (b - n) + 1 < 2 ^ 64
kept_small x b n e h m = omega (arith, kept_digits x b n e h, pow_mono {i = n} {j = 63} (omega arith))

pub returns-in-0 : goal.returns-in-0
unfolding rounded
returns-in-0 c = rw (none (value_of c.args.u) c.digits.result c.digits.ensures.count c.in-0.is)

pub to_word-requires : goal.to_word-requires
to_word-requires c = few (value_of c.args.u) c.digits.result c.args.n c.digits.ensures.count c.if-b-n.true c.requires.1

pub widened-requires : goal.widened-requires
widened-requires c = (c.requires.1, c.if-b-n.true, rw (c.to_word.ensures, c.digits.ensures.count) (size-lt (value_of c.args.u)))

pub returns-in_default : goal.returns-in_default
returns-in_default c =
    let a = c.args in
    let x = value_of a.u in
    let b = c.digits in
    c.widened.ensures ∙ ap (λ (w : ℕ). padded a.n w b.result) c.to_word.ensures
    ∙ rounded_few (rule_of a.rule) a.n c.requires.0 x b.result b.ensures.count (some x b.result b.ensures.count (omega arith)) c.if-b-n.true

pub to_word-requires-in_default-2 : goal.to_word-requires-in_default-2
to_word-requires-in_default-2 c = omega (arith, c.shr.ensures, kept_small (value_of c.args.u) c.digits.result c.args.n c.digits.ensures.count (omega arith) c.requires.1)

pub nearest-near-requires : goal.nearest-near-requires
nearest-near-requires c =
    let x = value_of c.args.u in
    let n = c.args.n in
    let b = c.digits.result in
    let rest = c.low_digits.result in (
      omega (arith, c.to_word-in_default-2.ensures, c.shr.ensures, kept_small x b n c.digits.ensures.count (omega arith) c.requires.1),
      omega (arith, high_room rest.hi rest.lo word_bits (b - n) (rw c.low_digits.ensures (mod-lt x (pow_pos (b - n)))) (omega arith)),
      rw c.wide_power.ensures (pow_pos _),
    )

pub returns-in_default-2 : goal.returns-in_default-2
returns-in_default-2 c =
    let rule = rule_of c.args.rule in
    let x = value_of c.args.u in
    let n = c.args.n in
    let b = c.digits.result in
    let k = b - n in
    let h = half_of k (value_of c.wide_power.result) (omega arith) c.wide_power.ensures in
    let near : c.nearest-near.result ≡ neighbour rule x (2 ^ k) =
    c.nearest-near.ensures
    ∙ ap₂ (λ (r e : ℕ). neighbour_at rule c.to_word-in_default-2.result r e) c.low_digits.ensures h
    ∙ ap (λ (q : ℕ). neighbour_at rule q (x % 2 ^ k) (2 ^ k)) (c.to_word-in_default-2.ensures ∙ c.shr.ensures)
    ∙ by_division rule x (2 ^ k) (pow_pos k) in
    c.normalise.ensures
    ∙ ap (λ (m : Directed ℕ). normalised n m.value k 0 m.direction) near
    ∙ rounded_many rule n c.requires.0 x b c.digits.ensures.count (some x b c.digits.ensures.count (omega arith)) (omega arith)
