-- The base of the code's digits.
use Prim.Native.Nat.{ℕ, ◌^◌}

-- A word has two digits of 32 bits each.
abbrev pub B : ℕ
B = 2 ^ 32
