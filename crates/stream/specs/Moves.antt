-- What the code's steps come to, in the words of the definition. Definitions only. Assumes nothing.
use Rattle.std.specs.Prelude.{◌≡◌, List, ℕ, ◌≤◌, length, drop}
use Rattle.frame.specs.Written.{Written}
use Rattle.stream.specs.declared.Move.{Move}
use Rattle.stream.specs.declared.Worked.{Worked}
use Rattle.stream.specs.Step.{read_of, Stepped}
use Rattle.stream.specs.Good.{Fit}
use Rattle.stream.specs.Work.{Batch}

-- what was read then, where the input goes on, which the caller has said, and the bytes written from a place of the output on
pub record Turned (s : Stepped) (at : ℕ) (r : Move) (out : List ℕ) (used : ℕ) (after : List ℕ) : Type 0 where
  pub fit : Fit r.progress
  pub read : read_of r.progress ≡ s.read
  pub place : r.at ≡ at
  pub bytes : Written out used s.bytes after r.used

-- and the input that is left
pub record Moved (s : Stepped) (input : List ℕ) (r : Move) (out : List ℕ) (used : ℕ) (after : List ℕ) : Type 0 where
  pub fit : Fit r.progress
  pub read : read_of r.progress ≡ s.read
  pub inside : r.at ≤ length input
  pub left : drop r.at input ≡ s.left
  pub bytes : Written out used s.bytes after r.used

-- and what comes after it; the bytes stand at the beginning of the output
pub record WorkedOff (w : Batch) (input : List ℕ) (r : Worked) (out after : List ℕ) : Type 0 where
  pub moved : Moved w.steps input r.moved out 0 after
  pub within : r.moved.used ≤ length out
  pub next : r.next ≡ w.next
