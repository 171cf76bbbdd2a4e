-- What a word holds, and what two words are worth as one number. Definitions only. Assumes nothing.
use Rattle.std.specs.Prelude.{ℕ, ◌+◌, ◌-◌, ◌*◌, ◌^◌}
use Rattle.wide.specs.declared.Wide.{Wide}

-- the width of a word
abbrev pub word_bits : ℕ
word_bits = 64

-- half of what it holds: two numbers up to it may be added, and a signed word holds the sizes below it
abbrev pub half_word : ℕ
half_word = 2 ^ (word_bits - 1)

-- The high word counts 2 ^ 64 each, the low word one each.
abbrev pub value_of : Wide → ℕ
value_of w = w.hi * 2 ^ word_bits + w.lo
