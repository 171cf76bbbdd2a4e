-- What long division starts from: a divisor made normal, and an estimate of the quotient. Definitions only.
use Rattle.std.specs.Prelude.{◌≡◌, ℕ, ◌+◌, ◌*◌, ◌^◌, ◌≤◌, ◌<◌}

-- x times 2 ^ k has w binary digits, the highest of them set.
pub record Normal (w x k : ℕ) : Type 0 where
  pub shift_lt : k < w
  pub fits : x * 2 ^ k < 2 ^ w
  pub half : 2 ^ w ≤ 2 * (x * 2 ^ k)

-- An estimate of n / d: d times the estimate is n, where what is left were as much as what has to be taken.
pub record Estimate (n d estimate left taken : ℕ) : Type 0 where
  pub sum : n + taken ≡ estimate * d + left
  pub left_lt : left < d
  pub taken_lt : taken < 2 * d
