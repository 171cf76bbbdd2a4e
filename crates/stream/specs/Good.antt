-- What holds of all that was read between two steps of the program, and what its functions may be asked. Definitions only. Assumes nothing.
use Rattle.std.specs.Prelude.{◌≡◌, true, false, ℕ, suc, ◌+◌, ◌-◌, ◌^◌, ◌≤◌, ◌<◌, length, Option, Some, None}
use Rattle.wide.specs.Value.{word_bits}
use Rattle.factor.specs.Precision.{most_precision, range_out}
use Rattle.factor.specs.SetUp.{intact}
use Rattle.sweep.specs.declared.SweepState.{SweepState}
use Rattle.stream.specs.declared.Tally.{Tally}
use Rattle.stream.specs.declared.Progress.{Progress}
use Rattle.stream.specs.Output.{most_lines}
use Rattle.stream.specs.Keep.{Part}
use Rattle.stream.specs.Step.{left_of, Read, read_of}

-- a state whose call is not refused for the state
pub record Going (s : SweepState) : Type 0 where
  pub whole : intact s.factor ≡ true
  pub inside : range_out s.factor.precision s.first s.last ≡ false
  pub from : s.first ≤ s.next
  pub upto : s.next ≤ s.last
  pub going : s.finished ≡ false

-- the counts so far, which stay small: there are no more significands than the largest precision has
pub record Counted (t : Tally) : Type 0 where
  pub few : t.trials + length (left_of t.state) ≤ 2 ^ most_precision
  pub failing : t.wrongs + t.opens ≤ t.trials

abbrev pub GoodTask : ℕ → Option Tally → Type 0
GoodTask i None = Unit {0}
GoodTask i (Some t) = (i ≤ most_lines) × Going t.state × Counted t

pub record Good (r : Read) : Type 0 where
  pub number : r.number ≤ suc most_lines
  pub line : Part r.line
  pub sweeping : GoodTask r.number r.sweeping

-- what holds of the progress
pub record Fit (p : Progress) : Type 0 where
  pub good : Good (read_of p)

-- with a call's state and trials, and its words, of which so many are open
abbrev pub added_to : Tally → (after : SweepState) → (trials words opens : ℕ) → Tally
added_to t after trials words opens = record { state = after; trials = t.trials + trials; wrongs = t.wrongs + (words - opens); opens = t.opens + opens }

-- room for the sums
pub record Addable (t : Tally) (trials words opens : ℕ) : Type 0 where
  pub tried : t.trials + trials < 2 ^ word_bits
  pub failing : t.wrongs + words < 2 ^ word_bits
  pub odd : t.opens + opens < 2 ^ word_bits
  pub some : opens ≤ words
