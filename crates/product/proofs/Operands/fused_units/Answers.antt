-- Two words hold the sum, and u1 is not above the product that it may be taken from.
use Rattle.std.specs.Prelude.{◌≡◌, Bool, true, false, ℕ, ◌+◌, ◌-◌, ◌*◌, ◌^◌, ◌≤◌, ◌<◌, ℤ, pos, FitsSigned}
use Rattle.std.proofs.Common.{sym, ap, ap₂, ◌∙◌, le_of_lt, mul-le-mul, le_of_mul-le-mul_right, arith, rules, pow_pos, pow_mono, w64, to_z, of_z}
use Rattle.std.proofs.Math.Nat.{mul_right_comm}
use Rattle.std.specs.Int.Signed.{lt_z}
use Rattle.rounding.specs.Signed.{negative}
use Rattle.round.proofs.Laws.{negative_is}
use Rattle.wide.specs.declared.Wide.{Wide}
use Rattle.wide.specs.Value.{value_of}
use Rattle.factor.specs.declared.Parts.{Parts}
use Rattle.factor.specs.Context.{context_at, context_of}
use Rattle.factor.specs.Precision.{ValidPrecision, scale_of}
use Rattle.factor.specs.UnitParts.{step, plus_or_minus, unit_parts_of}
use Rattle.product.specs.declared.Operands.{Operands}
use Rattle.product.specs.Units.{first_units, fused_units}
use Rattle.product.proofs.StepLaws.{product_word, high_le, first_le}
use Rattle.product.proofs.SoundLaws.{sound_parts}
use Rattle.product.proofs.Operands.fused_units.Goals.{After-from-first}
use Rattle.product.proofs.Operands.fused_units.Goals as goal

-- H * X is one word
high_word : (o : Operands) → o.factor.parts.high * o.significand ≤ 2 ^ 48
high_word o = product_word o.factor.precision o.factor.parts.high o.significand o.sound.precision (high_le (context_of o.factor) o.factor.parts (sound_parts o.factor o.sound)) (le_of_lt o.in_range.most)

pub overflow_mul-parts : goal.overflow_mul-parts
overflow_mul-parts c = record { fits = omega (arith, high_word c.args.self) }

-- how far it is shifted
exponent : (k m n : ℕ) → k ≡ scale_of m + 1 - m → m ≡ n → k ≡ scale_of n + 1 - n
exponent k m n e f = e ∙ ap (λ (z : ℕ). scale_of z + 1 - z) f

-- and two words hold it shifted
shifted_room : (m k n : ℕ) → ValidPrecision n → m ≤ 2 ^ 48 → k ≡ scale_of n + 1 - n → (k < 128) × (m < 2 ^ (128 - k))
shifted_room m k n N h e = let t : 2 ^ 49 ≤ 2 ^ (128 - k) = pow_mono {i = 49} {j = 128 - k} (omega (arith, N)) in (omega (arith, N), omega arith)

pub shl-high-requires : goal.shl-high-requires
shl-high-requires c =
    let o = c.args.self in
    rw c.from.ensures (shifted_room _ c.step_exponent.result o.factor.precision o.sound.precision (high_word o) (exponent _ _ _ c.step_exponent.ensures c.precision.ensures))

-- the first term, as the unit has it
high_is : (c : After-from-first) → let o = c.args.self in value_of c.shl-high.result ≡ o.factor.parts.high * step (context_of o.factor) * o.significand
high_is c =
    let o = c.args.self in
    c.shl-high.ensures ∙ ap₂ (λ (m k : ℕ). m * 2 ^ k) c.from.ensures (exponent _ _ _ c.step_exponent.ensures c.precision.ensures) ∙ mul_right_comm o.factor.parts.high o.significand (step (context_of o.factor))

pub sub-requires : goal.sub-requires
sub-requires c =
    let o = c.args.self in
    rw (high_is (goal.at.sub-requires c).After-from-first, c.from-first.ensures, c.requires) (first_le (context_of o.factor) o.factor.parts (sound_parts o.factor o.sound) o.significand o.in_range)

-- the two terms, whichever sign was tested
joined : (n : ℕ) (p : Parts) (X h u : ℕ) (b : Bool) → h ≡ p.high * step (context_at n) * X → u ≡ first_units (context_at n) (unit_parts_of (context_at n) p) X → FitsSigned w64 p.low → lt_z (to_z w64 (of_z w64 p.low)) (pos 0) ≡ b
    → plus_or_minus b h u ≡ fused_units (context_at n) (unit_parts_of (context_at n) p) X
unfolding fused_units
joined n p X h u b e f g t =
    let same : to_z w64 (of_z w64 p.low) ≡ p.low = search rules in
    let sign : negative p.low ≡ b = sym (negative_is p.low) ∙ ap (λ (y : ℤ). lt_z y (pos 0)) (sym same) ∙ t in
    rw (e, f, sign)

pub returns-then-parts-lt0 : goal.returns-then-parts-lt0
returns-then-parts-lt0 c =
    let o = c.args.self in
    c.sub.ensures ∙ joined o.factor.precision o.factor.parts o.significand _ _ true (high_is (goal.at.returns-then-parts-lt0 c).After-from-first) (c.from-first.ensures ∙ c.requires) (search rules) c.if-parts-lt0.true

-- high words that leave room for a carry
carry_room : (m n k f : ℕ) (u v : Wide) → ValidPrecision n → m ≤ 2 ^ 48 → k ≡ scale_of n + 1 - n → value_of u ≡ m * 2 ^ k → value_of v ≡ f → f < 2 ^ 64 → u.hi + v.hi + 1 < 2 ^ 64
carry_room m n k f u v N h e j l g =
    let t : 2 ^ k ≤ 2 ^ 64 = pow_mono {i = k} {j = 64} (omega (arith, N)) in
    let high : u.hi ≤ 2 ^ 48 = le_of_mul-le-mul_right {k = 2 ^ 64} (omega (arith, mul-le-mul h t, j)) (pow_pos 64) in
    let none : v.hi ≤ 0 = omega arith in
    omega arith

pub add-requires : goal.add-requires
add-requires c =
    let o = c.args.self in
    carry_room (o.factor.parts.high * o.significand) o.factor.precision c.step_exponent.result c.args.u1 c.shl-high.result c.from-first.result o.sound.precision (high_word o)
    (exponent _ _ _ c.step_exponent.ensures c.precision.ensures) (c.shl-high.ensures ∙ ap (λ (m : ℕ). m * 2 ^ c.step_exponent.result) c.from.ensures) c.from-first.ensures c.ranges.u1.fits

pub returns : goal.returns
returns c =
    let o = c.args.self in
    c.add.ensures ∙ joined o.factor.precision o.factor.parts o.significand _ _ false (high_is (goal.at.returns c).After-from-first) (c.from-first.ensures ∙ c.requires) (search rules) c.if-parts-lt0.false
