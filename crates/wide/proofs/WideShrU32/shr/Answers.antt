-- The laws of a shift to the right at the width 64.
use Rattle.std.proofs.Common.{◌≡◌, ℕ, ◌+◌, ◌-◌, ◌*◌, ◌/◌, ◌%◌, ◌^◌, ◌≤◌, ◌<◌, zero-add, le_of_lt, arith}
use Rattle.wide.specs.ShiftLaws.{low_at_top, right_within, right_within_lt, right_past}
use Rattle.wide.proofs.WideShrU32.shr.Goals as goal

module _ (h l k : ℕ) (word : l < 2 ^ 64) where
  -- k within the low word: the digits that cross to it come by two shifts
  low_fits : k < 64 → h * 2 % 2 ^ 64 * 2 ^ (63 - k) % 2 ^ 64 + l / 2 ^ k < 2 ^ 64
  low_fits within = rw (low_at_top 64 k h within) (right_within_lt 64 k h l (le_of_lt within) word)

  value_within : k < 64 → h / 2 ^ k * 2 ^ 64 + (h * 2 % 2 ^ 64 * 2 ^ (63 - k) % 2 ^ 64 + l / 2 ^ k) ≡ (h * 2 ^ 64 + l) / 2 ^ k
  value_within within = rw (low_at_top 64 k h within) (right_within 64 k h l (le_of_lt within))

  -- k past it
  value_past : 64 ≤ k → 0 * 2 ^ 64 + h / 2 ^ (k - 64) ≡ (h * 2 ^ 64 + l) / 2 ^ k
  value_past past = rw zero-add (right_past 64 k h l past word)

pub overflow_add-result : goal.overflow_add-result
overflow_add-result c =
    let u = c.args.self in
    record { fits = low_fits u.hi u.lo c.args.k (omega arith) c.if-k-lt64.true }

pub returns-then-k-lt64 : goal.returns-then-k-lt64
returns-then-k-lt64 c =
    let u = c.args.self in
    value_within u.hi u.lo c.args.k (omega arith) c.if-k-lt64.true

pub returns-else-k-lt64 : goal.returns-else-k-lt64
returns-else-k-lt64 c =
    let u = c.args.self in
    value_past u.hi u.lo c.args.k (omega arith) c.if-k-lt64.false
