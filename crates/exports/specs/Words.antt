-- Factors and states as lists of words, for callers in other languages. Definitions only. Assumes nothing.
use Rattle.std.specs.Prelude.{Bool, cond, not, ◌||◌, List, [], ◌∷◌, ◌++◌, ℕ, eqb, get_or}
use Rattle.std.specs.Float.{binary32}
use Rattle.std.specs.Float.Ieee.{to_bits, of_bits}
use Rattle.factor.specs.declared.Factor.{Factor}
use Rattle.words.specs.Words.{unsigned, signed, low32, past_half}
use Rattle.calls.specs.State.{Range, State}
use Rattle.sweep.specs.Engine.{range}

-- ---- lists of words
-- the word at i
abbrev pub word : List ℕ → ℕ → ℕ
word ws i = get_or ws i 0

-- a yes or no as a word, and from one: any word but 0 is a yes
abbrev pub flag_word : Bool → ℕ
flag_word b = cond b 1 0

abbrev pub flag_from : ℕ → Bool
flag_from w = not (eqb w 0)

-- ---- a factor as 10 words: whether it lies below zero, bits, lower end, upper end, high significand, low significand, places, both floats by their bits, scale
abbrev pub factor_length : ℕ
factor_length = 10

unfoldable pub factor_from : List ℕ → Factor
unfolding of_bits
factor_from ws =
    record {
      minus = flag_from (word ws 0);
      precision = low32 (word ws 1);
      lower = word ws 2;
      upper = word ws 3;
      parts = record { high = word ws 4; low = signed 64 (word ws 5); places = low32 (word ws 6) };
      applied = record { high = of_bits binary32 (low32 (word ws 7)); low = of_bits binary32 (low32 (word ws 8)); scale = signed 32 (low32 (word ws 9)) };
    }

unfoldable pub factor_words : Factor → List ℕ
unfolding to_bits
factor_words f =
    flag_word f.minus
    ∷ f.precision
    ∷ f.lower
    ∷ f.upper
    ∷ f.parts.high
    ∷ unsigned 64 f.parts.low
    ∷ f.parts.places
    ∷ to_bits binary32 f.applied.high
    ∷ to_bits binary32 f.applied.low
    ∷ unsigned 32 f.applied.scale
    ∷ []

-- damage: precision, places, floats and scale are written with an upper half of 0, so a word of theirs with another one was altered
unfoldable pub damaged : List ℕ → Bool
damaged ws = past_half (word ws 1) || past_half (word ws 6) || past_half (word ws 7) || past_half (word ws 8) || past_half (word ws 9)

-- ---- a sweep's state as 14 words: the factor's, then first, last and next significand, and the finished mark
abbrev pub state_length : ℕ
state_length = 14

-- the state over a factor, from the words behind the factor's
abbrev pub state_of : Factor → List ℕ → State (Range Factor)
state_of f ws = record { over = range f (word ws 10) (word ws 11); next = word ws 12; finished = flag_from (word ws 13) }

unfoldable pub state_from : List ℕ → State (Range Factor)
unfolding factor_from
state_from ws = state_of (factor_from ws) ws

unfoldable pub state_words : State (Range Factor) → List ℕ
unfolding factor_words
state_words s = factor_words s.over.factor ++ (s.over.first ∷ s.over.last ∷ s.next ∷ flag_word s.finished ∷ [])
