-- Signed numbers as words, and a word's low half. Definitions only. Assumes nothing.
use Rattle.std.specs.Prelude.{Bool, cond, ℕ, suc, ◌-◌, ◌%◌, ◌^◌, ltb, leb, ℤ, pos, negsuc}

-- ---- two's complement in w bits
abbrev pub unsigned : (w : ℕ) → ℤ → ℕ
unsigned w (pos m) = m
unsigned w (negsuc m) = 2 ^ w - suc m

abbrev pub signed : (w : ℕ) → ℕ → ℤ
signed w v = cond (ltb v (2 ^ (w - 1))) (pos v) (negsuc (2 ^ w - suc v))

-- a field of 32 bits takes a word's low 32 bits
abbrev pub low32 : ℕ → ℕ
low32 v = v % 2 ^ 32

-- a word's upper 32 bits are not all 0
abbrev pub past_half : ℕ → Bool
past_half v = leb (2 ^ 32) v
