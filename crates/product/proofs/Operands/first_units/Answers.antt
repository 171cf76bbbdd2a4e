-- The size of Cl * x is one word, and what is kept of it is shifted into the unit.
use Rattle.std.specs.Prelude.{◌≡◌, ℕ, ◌+◌, ◌-◌, ◌*◌, ◌%◌, ◌^◌, ◌≤◌, ◌<◌, ℤ, nat_abs, FitsSigned}
use Rattle.std.proofs.Common.{sym, ap, ap₂, ◌∙◌, le_of_lt, lt_of_lt_of_le, arith, rules, pow_mono, w64, to_z, of_z, mod-eq_of_lt}
use Rattle.rounding.specs.Grid.{nearest, side_at}
use Rattle.rounding.specs.declared.Directed.{Directed}
use Rattle.factor.specs.Context.{tie_rule, context_at, context_of}
use Rattle.factor.specs.Precision.{ValidPrecision, scale_of}
use Rattle.factor.specs.UnitParts.{unit_parts_of}
use Rattle.product.specs.Units.{first_units}
use Rattle.product.proofs.StepLaws.{product_word, FirstStep, low_lt, first_lt, first_none, first_some}
use Rattle.product.proofs.SoundLaws.{sound_parts}
use Rattle.product.proofs.Operands.first_units.Goals.{After-word_digits}
use Rattle.product.proofs.Operands.first_units.Goals as goal

-- the low significand's size, as it is read
low_size : (m : ℕ) (z : ℤ) → m ≡ nat_abs (to_z w64 (of_z w64 z)) → FitsSigned w64 z → m ≡ nat_abs z
low_size m z e f = let same : to_z w64 (of_z w64 z) ≡ z = search rules in e ∙ ap nat_abs same

pub overflow_mul-exact : goal.overflow_mul-exact
overflow_mul-exact c =
    let o = c.args.self in
    let n = o.factor.precision in
    let l : c.unsigned_abs.result ≤ 2 ^ n = rw (low_size _ o.factor.parts.low c.unsigned_abs.ensures.value (search rules)) (le_of_lt (low_lt (context_at n) o.factor.parts (sound_parts o.factor o.sound))) in
    record { fits = omega (arith, product_word n c.unsigned_abs.result o.significand o.sound.precision l (le_of_lt o.in_range.most)) }

pub returns-then-exact-eq0 : goal.returns-then-exact-eq0
returns-then-exact-eq0 c =
    let o = c.args.self in
    let e = low_size _ o.factor.parts.low c.unsigned_abs.ensures.value (search rules) in
    sym (first_none (context_of o.factor) o.factor.parts (sound_parts o.factor o.sound) o.significand o.in_range (ap (λ (s : ℕ). s * o.significand) (sym e) ∙ c.if-exact-eq0.true))

-- what is dropped, and how far the rest is shifted
step : (c : After-word_digits) → let o = c.args.self in let K = context_of o.factor in FirstStep K o.factor.parts.places (c.unsigned_abs.result * o.significand) c.word_digits.result (first_units K (unit_parts_of K o.factor.parts) o.significand)
step c =
    let o = c.args.self in
    let e = low_size _ o.factor.parts.low c.unsigned_abs.ensures.value (search rules) in
    first_some (context_of o.factor) o.factor.parts (sound_parts o.factor o.sound) o.significand o.in_range (c.unsigned_abs.result * o.significand) c.word_digits.result (ap (λ (s : ℕ). s * o.significand) e)
    c.word_digits.ensures.count (omega (arith, c.if-exact-eq0.false))

pub overflow_sub-dropped : goal.overflow_sub-dropped
overflow_sub-dropped c = let s = step (goal.at.overflow_sub-dropped c).After-word_digits in omega (arith, s.digits, c.args.self.sound.precision)

pub nearest_word-near-requires : goal.nearest_word-near-requires
nearest_word-near-requires c =
    let s = step (goal.at.nearest_word-near-requires c).After-word_digits in
    (omega (arith, s.digits, c.args.self.sound.precision), omega (arith, c.word_digits.ensures.most, c.args.self.sound.precision))

-- the scale, as the shift counts it
scale_is : (m n e : ℕ) → e ≡ scale_of m → m ≡ n → e ≡ scale_of n
scale_is m n e p q = p ∙ ap scale_of q

pub overflow_sub-result : goal.overflow_sub-result
overflow_sub-result c =
    let s = step (goal.at.overflow_sub-result c).After-word_digits in
    omega (arith, s.reach, scale_is _ _ _ c.scale.ensures c.precision.ensures)

pub overflow_shl-result : goal.overflow_shl-result
overflow_shl-result c =
    let s = step (goal.at.overflow_shl-result c).After-word_digits in
    omega (arith, s.room, scale_is _ _ _ c.scale.ensures c.precision.ensures, c.args.self.sound.precision)

-- no digit is lost in the shift
shifted : (near : Directed ℕ) (n q m d u e : ℕ) → ValidPrecision n → near ≡ record { value = nearest tie_rule m (2 ^ (d - n)); direction = side_at m (2 ^ (d - n)) (nearest tie_rule m (2 ^ (d - n))) }
    → e ≡ scale_of n → FirstStep (context_at n) q m d u → u < 2 ^ scale_of n → near.value * 2 ^ (d - n + e - q) % 2 ^ 64 ≡ u
shifted near n q m d u e N r E s small =
    let v : near.value * 2 ^ (d - n + e - q) ≡ u = ap₂ (λ (r : Directed ℕ) (k : ℕ). r.value * 2 ^ (d - n + k - q)) r E ∙ sym s.value in
    mod-eq_of_lt (rw v (lt_of_lt_of_le small (pow_mono {i = scale_of n} {j = 64} (omega (arith, N))))) ∙ v

pub returns : goal.returns
unfolding tie_rule
returns c =
    let o = c.args.self in
    let s = step (goal.at.returns c).After-word_digits in
    shifted c.nearest_word-near.result o.factor.precision o.factor.parts.places (c.unsigned_abs.result * o.significand) c.word_digits.result _ c.scale.result o.sound.precision c.nearest_word-near.ensures
    (scale_is _ _ _ c.scale.ensures c.precision.ensures) s (first_lt (context_of o.factor) o.factor.parts (sound_parts o.factor o.sound) o.significand o.in_range)
