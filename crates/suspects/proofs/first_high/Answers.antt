-- 2 ^ (E + n) over the lower end, by quotient and remainder: the quotient is rounded up where a remainder is left.
use Rattle.std.proofs.Common.{◌≡◌, ℕ, suc, ◌+◌, ◌*◌, ◌/◌, ◌%◌, ◌^◌, ◌≤◌, ◌<◌, ap, ◌∙◌, div-add-mod', mod-lt, le_trans, mul-le-mul_left, lt_of_mul-lt-mul_right, pow-add, pow_pos, pow_mono, arith}
use Rattle.std.proofs.Math.Nat.{le_of_mul-le-mul_right}
use Rattle.factor.specs.declared.Factor.{Factor}
use Rattle.factor.specs.Precision.{scale_of}
use Rattle.factor.specs.Context.{context_of, lower_of}
use Rattle.factor.specs.SetUp.{Sound}
use Rattle.search.specs.Search.{ceil_div}
use Rattle.search.specs.MultipleLaws.{ceil_div_ge, ceil_div_le}
use Rattle.suspects.specs.Next.{first_high}
use Rattle.suspects.proofs.first_high.Goals as goal

module _ (f : Factor) (sound : Sound f) {bits scale u : ℕ} (is : bits ≡ f.precision) (scaled : scale ≡ scale_of bits) (power : u ≡ 2 ^ (scale + bits)) where
  open context_of f use {n, E}

  abbrev L : ℕ
  L = lower_of f

  abbrev T : ℕ
  T = 2 ^ (E + n)

  power_is : u ≡ T
  power_is = power ∙ ap (λ (e : ℕ). 2 ^ (e + bits)) scaled ∙ ap (λ (n : ℕ). 2 ^ (scale_of n + n)) is

  end : 2 ^ E ≤ L
  end = sound.lower_end.from

  some : 0 < L
  some = le_trans (pow_pos E) end

  -- the quotient is one word
  divides : u < L * 2 ^ 64
  divides = omega (arith, power_is, end, pow_mono {i = E + n} {j = 96} (omega (arith, sound.precision)), pow_mono {i = 33} {j = E} (omega (arith, sound.precision)))

  rounded_up : (x : ℕ) → T ≤ x * L → x * L < T + L → x ≡ first_high (context_of f) L
  unfolding first_high
  rounded_up x low high =
      omega (arith, ceil_div_le T L x some low, lt_of_mul-lt-mul_right L {m = x} {n = suc (ceil_div T L)} (omega (arith, ceil_div_ge T L some)))

  module _ {q r : ℕ} (quotient : q ≡ u / L) (remainder : r ≡ u % L) where
    parts : q * L + r ≡ T
    parts = ap (λ (z : ℕ). z * L + r) quotient ∙ omega (arith, power_is, div-add-mod' u L)

    exact : r ≡ 0 → q ≡ first_high (context_of f) L
    exact none = rounded_up q (omega (arith, parts)) (omega (arith, parts, some))

    inexact : ¬ (r ≡ 0) → q + 1 ≡ first_high (context_of f) L
    inexact left = rounded_up (q + 1) (omega (arith, parts, mod-lt u some)) (omega (arith, parts))

    short : q ≤ 2 ^ 32
    short =
        let few : q * 2 ^ E ≤ 2 ^ n * 2 ^ E = omega (arith, parts, pow-add 2 E n, mul-le-mul_left q end) in
        le_trans (le_of_mul-le-mul_right {k = 2 ^ E} few (pow_pos E)) (pow_mono {i = n} {j = 32} (omega (arith, sound.precision)))

pub divide-divided-requires : goal.divide-divided-requires
divide-divided-requires c = omega (arith, divides c.args.f c.requires c.precision-p.ensures c.scale.ensures c.wide_power.ensures)

pub returns-then-divided-eq0 : goal.returns-then-divided-eq0
returns-then-divided-eq0 c =
    let d = c.divide-divided.ensures in
    exact c.args.f c.requires c.precision-p.ensures c.scale.ensures c.wide_power.ensures d.quotient d.remainder c.if-divided-eq0.true

pub overflow_add-result : goal.overflow_add-result
overflow_add-result c =
    let d = c.divide-divided.ensures in
    omega (arith, short c.args.f c.requires c.precision-p.ensures c.scale.ensures c.wide_power.ensures d.quotient d.remainder)

pub returns : goal.returns
returns c =
    let d = c.divide-divided.ensures in
    inexact c.args.f c.requires c.precision-p.ensures c.scale.ensures c.wide_power.ensures d.quotient d.remainder c.if-divided-eq0.false
