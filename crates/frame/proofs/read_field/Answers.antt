-- What is read, with the digits that are left, is the field.
use Rattle.std.proofs.Common.{◌≡◌, sym, ap, ◌∙◌, List, length, get_or, drop, ℕ, Option, Some, None, ◌+◌, ◌*◌, ◌^◌, ◌≤◌, ◌<◌, ◌⊎◌, add-one, pow-suc, arith}
use Rattle.std.proofs.Math.Nat.{pow-le-pow_right}
use Rattle.std.proofs.Math.Arith.{digits_lt}
use Rattle.frame.specs.Digits.{digit_value, and_then, value_after}
use Rattle.frame.specs.DigitLaws.{digit_printed}
use Rattle.frame.specs.FieldLaws.{field_outside, field_taken, value_next, value_none}
use Rattle.frame.proofs.read_field.Goals as goal

-- the next digit decides
next_digit :
    (bytes : List ℕ) (value i : ℕ) (d : Option ℕ)
    → i < length bytes
    → d ≡ digit_value (get_or bytes i 0)
    → value_after value (drop i bytes) ≡ and_then d (λ (x : ℕ). value_after (value * 16 + x) (drop (i + 1) bytes))
next_digit bytes value i d h e =
    value_next bytes value i h ∙ ap (λ (f : Option ℕ). and_then f (λ (x : ℕ). value_after (value * 16 + x) (drop (i + 1) bytes))) (sym e)

-- a value of so many digits, and a digit more
small_more : (value i d b : ℕ) → value < 16 ^ i → Some d ≡ digit_value b → value * 16 + d < 16 ^ (i + 1)
small_more value i d b h e = rw (add-one i, pow-suc 16 i) (digits_lt h (digit_printed b d (sym e)).1)

-- fewer than 16 digits leave room for one more
few : (i n width : ℕ) → i < n → n + 0 ≡ width → width ≤ 16 → i < 16
few i n width h e w = omega arith

room : (value i : ℕ) → value < 16 ^ i → i < 16 → value * 16 + 16 ≤ 2 ^ 64
room value i h l = let p : value < 16 ^ 15 = omega (arith, pow-le-pow_right {n = 16} (omega arith) {i = i} {j = 15} (omega arith)) in omega arith

fits : (value i d b : ℕ) → value < 16 ^ i → Some d ≡ digit_value b → i < 16 → value * 16 + d < 2 ^ 64
fits value i d b h e l = omega (arith, room value i h l, (digit_printed b d (sym e)).1)

-- a line that ends before the place, or before the digits from there on
past_place : (n at w : ℕ) → (n < at) ⊎ (n < n) → n < at + w
past_place n at w h = grind arith

past_digits : (n m at w : ℕ) → m + at ≡ n → (w < 0) ⊎ (m < w) → n < at + w
past_digits n m at w e h = grind arith

pub returns-in_err-get : goal.returns-in_err-get
returns-in_err-get c = c.from_residual.ensures ∙ sym (field_outside _ _ _ (past_place _ _ _ c.in_err-get.ensures.lookup.0))

pub returns-in_err-b-items : goal.returns-in_err-b-items
returns-in_err-b-items c =
    c.from_residual-in_err-b-items.ensures
    ∙ sym (field_outside _ _ _ (past_digits _ _ _ _ c.in_ok-get.ensures.lookup.0.3 c.in_err-b-items.ensures.lookup.0))

pub loop-b-init : goal.loop-b-init
loop-b-init c =
    let part = c.in_ok-get.ensures.lookup.0 in
    let bytes = c.in_ok-b-items.ensures.lookup.0 in
    record { small = omega arith; rest = field_taken _ _ _ _ _ (omega (arith, part.0, part.3, bytes.1)) part.2 bytes.2 }

pub overflow_mul-value : goal.overflow_mul-value
overflow_mul-value c = omega (arith, room _ _ c.loop-b.invariant.small (few _ _ _ c.loop-b-test.true c.in_ok-b-items.ensures.lookup.0.3 c.requires))

pub returns-in_err-value : goal.returns-in_err-value
returns-in_err-value c =
    c.from_residual-in_err-value.ensures ∙ sym (next_digit _ c.loop-b.value _ None c.loop-b-test.true c.in_err-value.ensures) ∙ c.loop-b.invariant.rest

pub overflow_add-value : goal.overflow_add-value
overflow_add-value c =
    omega (arith, fits _ _ _ _ c.loop-b.invariant.small c.in_ok-value.ensures (few _ _ _ c.loop-b-test.true c.in_ok-b-items.ensures.lookup.0.3 c.requires))

pub loop-b-preserved : goal.loop-b-preserved
loop-b-preserved c = record {
  small = small_more _ _ _ _ c.loop-b.invariant.small c.in_ok-value.ensures;
  rest = sym (next_digit _ c.loop-b.value _ _ c.loop-b-test.true c.in_ok-value.ensures) ∙ c.loop-b.invariant.rest;
}

pub returns : goal.returns
returns c = sym (value_none _ c.loop-b.value _ c.loop-b-test.false) ∙ c.loop-b.invariant.rest
