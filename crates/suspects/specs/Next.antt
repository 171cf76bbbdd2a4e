-- The search for the next suspect in a half, over a context.
-- h is half the distance of two midpoints: 2 ^ (E - 1) in the low half, 2 ^ E in the high half. Definitions only. Assumes nothing.
use Rattle.std.specs.Prelude.{◌≡◌, ℕ, ◌+◌, ◌-◌, ◌*◌, ◌%◌, ◌^◌, ◌≤◌, ◌<◌, Option, Some, None}
use Rattle.wide.specs.Value.{word_bits, half_word}
use Rattle.search.specs.declared.Found.{Found}
use Rattle.search.specs.Search.{ceil_div, search_from}
use Rattle.factor.specs.Context.{Context}
use Rattle.suspects.specs.declared.Window.{Window}
use Rattle.suspects.specs.declared.Windows.{Windows}
use Rattle.suspects.specs.Suspects.{window_w, widening}

-- the window of wanted remainders, which lies near h, with its modulus m = 2 * h and step L mod m
abbrev pub window_near : (L h W D : ℕ) → Window
window_near L h W D = record { modulus = 2 * h; step = L % (2 * h); from = h - W - D + 1; to = h + W - 1 }

-- a place counted from the significand a, as a significand
abbrev pub moved_by : ℕ → Option ℕ → Option ℕ
moved_by a (Some k) = Some (a + k)
moved_by a None = None

-- a search's answer with its place so moved
abbrev pub found_from : ℕ → Found → Found
found_from a f = record { place = moved_by a f.place; rounds = f.rounds }

-- the search in a window, counted from the significand a, whose remainder is that of L * a: what it finds may lie past the half or past the
-- range, and has cost its rounds
unfoldable pub next_in : Window → ℕ → Found
unfolding search_from
next_in w a = found_from a (search_from w.modulus w.step (w.step * a % w.modulus) w.from w.to)

module _ (K : Context) where
  open K use {n, E}

  -- the window of the half of h
  abbrev pub window_in : (L U h : ℕ) → Window
  window_in L U h = window_near L h (window_w K) (widening K L U)

  -- the next suspect from the significand a on, in the half of h
  abbrev pub next_from : (L U h a : ℕ) → Found
  next_from L U h a = next_in (window_in L U h) a

  -- the first high significand: the least X with 2 ^ (E + n) ≤ L * X
  unfoldable pub first_high : ℕ → ℕ
  unfolding ceil_div
  first_high L = ceil_div (2 ^ (E + n)) L

  -- the window of each half, and where the halves meet
  abbrev pub windows : (L U : ℕ) → Windows
  windows L U = record { low = window_in L U (2 ^ (E - 1)); high = window_in L U (2 ^ E); first_high = first_high L }

-- what a search in words may be asked: a window and a step below the modulus, which is a power of two of one word
pub record Askable (w : Window) : Type 0 where
  pub window : w.from ≤ w.to
  pub below : w.to < w.modulus
  pub step_below : w.step < w.modulus
  pub most : w.modulus ≤ half_word
  pub divides : 2 ^ word_bits % w.modulus ≡ 0
