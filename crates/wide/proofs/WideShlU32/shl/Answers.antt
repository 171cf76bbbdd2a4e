-- The laws of a shift to the left at the width 64.
use Rattle.std.proofs.Common.{◌≡◌, ap₂, ℕ, ◌+◌, ◌-◌, ◌*◌, ◌/◌, ◌%◌, ◌^◌, ◌≤◌, ◌<◌, add-zero, mod-eq_of_lt, le_of_lt, lt_of_le_of_lt, le-add_right}
use Rattle.wide.specs.ShiftLaws.{top_digits, left_within, left_within_lt, left_past, left_past_lt}
use Rattle.wide.proofs.WideShlU32.shl.Goals as goal

module _ (h l k : ℕ) (room : h * 2 ^ 64 + l < 2 ^ (128 - k)) where
  -- k within the low word
  module _ (within : k < 64) where
    high_lt : h * 2 ^ k + l / 2 ^ (64 - k) < 2 ^ 64
    high_lt = left_within_lt 64 k h l (le_of_lt within) room

    -- The high word as the code makes it: its own shift loses nothing, and the digits that cross come by two shifts.
    high_is : h * 2 ^ k % 2 ^ 64 + l / 2 / 2 ^ (63 - k) ≡ h * 2 ^ k + l / 2 ^ (64 - k)
    high_is = ap₂ (λ (x y : ℕ). x + y) (mod-eq_of_lt (lt_of_le_of_lt (le-add_right _ _) high_lt)) (top_digits 64 k l within)

    high_fits : h * 2 ^ k % 2 ^ 64 + l / 2 / 2 ^ (63 - k) < 2 ^ 64
    high_fits = rw high_is high_lt

    value_within : (h * 2 ^ k % 2 ^ 64 + l / 2 / 2 ^ (63 - k)) * 2 ^ 64 + l * 2 ^ k % 2 ^ 64 ≡ (h * 2 ^ 64 + l) * 2 ^ k
    value_within = rw high_is (left_within 64 k h l (le_of_lt within))

  -- k past it
  value_past : 64 ≤ k → k < 128 → l * 2 ^ (k - 64) % 2 ^ 64 * 2 ^ 64 + 0 ≡ (h * 2 ^ 64 + l) * 2 ^ k
  value_past past most = rw (mod-eq_of_lt (left_past_lt 64 k h l past (le_of_lt most) room), add-zero) (left_past 64 k h l past room)

pub overflow_add-result : goal.overflow_add-result
overflow_add-result c =
    let u = c.args.self in
    record { fits = high_fits u.hi u.lo c.args.k c.requires.1 c.if-k-lt64.true }

pub returns-then-k-lt64 : goal.returns-then-k-lt64
returns-then-k-lt64 c =
    let u = c.args.self in
    value_within u.hi u.lo c.args.k c.requires.1 c.if-k-lt64.true

pub returns-else-k-lt64 : goal.returns-else-k-lt64
returns-else-k-lt64 c =
    let u = c.args.self in
    value_past u.hi u.lo c.args.k c.requires.1 c.if-k-lt64.false c.requires.0
