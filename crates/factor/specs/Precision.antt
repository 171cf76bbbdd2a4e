-- What belongs to a precision n: its limits and exponents are named here, once. Definitions only. Assumes nothing.
use Rattle.std.specs.Prelude.{◌≡◌, Bool, ◌||◌, [], ◌∷◌, ℕ, ◌-◌, ◌^◌, ◌≤◌, ltb, leb}
use Rattle.marks.specs.Answers.{Outcome, answer}

-- the scale E of the ends: an end c stands for c / 2 ^ E. It stays shut: its number is known from `ValidPrecision`
unfoldable pub scale_of : ℕ → ℕ
scale_of n = 62

-- a search takes at most so many rounds
abbrev pub rounds_of : ℕ → ℕ
rounds_of n = 64

-- least and largest significand
abbrev pub least_of : ℕ → ℕ
least_of n = 2 ^ (n - 1)

abbrev pub most_of : ℕ → ℕ
most_of n = 2 ^ n - 1

-- the limits of a precision
abbrev pub least_precision : ℕ
least_precision = 4

abbrev pub most_precision : ℕ
most_precision = 24

-- refusal 11: precision not 4 to 24
abbrev pub precision_out : ℕ → Bool
precision_out n = ltb n least_precision || ltb most_precision n

-- what is known of a precision that was accepted
pub record ValidPrecision (n : ℕ) : Type 0 where
  pub least : least_precision ≤ n
  pub most : n ≤ most_precision
  pub scale : scale_of n ≡ 62

-- the precision, or refusal 11
abbrev pub new_precision : ℕ → Outcome ℕ
new_precision n = answer ((11, precision_out n) ∷ []) n

-- refusal 17: a significand outside 2 ^ (n - 1) to 2 ^ n - 1
abbrev pub significand_out : (n X : ℕ) → Bool
significand_out n X = ltb X (2 ^ (n - 1)) || leb (2 ^ n) X

-- of a range: one of its two significands is outside, or its first is above its last
abbrev pub range_out : (n first last : ℕ) → Bool
range_out n first last = significand_out n first || significand_out n last || ltb last first
