-- What the program does between a read and a write, and its loop around them, as functions of the bytes that are read. Definitions only. Assumes nothing.
use Rattle.std.specs.Prelude.{Bool, true, false, cond, ◌&&◌, List, [], ◌∷◌, ◌++◌, ℕ, zero, suc, ◌+◌, ◌-◌, leb, length}
use Rattle.stream.specs.declared.Next.{Next}
use Rattle.stream.specs.Output.{most_lines}
use Rattle.stream.specs.Step.{most_written, Read, Stepped, wants_step, at_line, step_of, end_of}

-- ---- steps one after another

-- no step: nothing is read or written
abbrev pub no_step : Read → (input : List ℕ) → Stepped
no_step r input = record { read = r; left = input; bytes = [] }

-- bytes, and then those of further steps
abbrev pub and_then : List ℕ → Stepped → Stepped
and_then bytes s = record { read = s.read; left = s.left; bytes = bytes ++ s.bytes }

-- at most so many steps: as long as one is wanted, and there is room for whatever it may write
unfoldable pub steps_of : (most room : ℕ) → Read → (input : List ℕ) → Stepped
steps_of zero room r input = no_step r input
steps_of (suc most) room r input =
    let s = step_of r input in
    cond (wants_step r.sweeping input && leb most_written room) (and_then s.bytes (steps_of most (room - length s.bytes) s.read s.left)) (no_step r input)

-- All steps that there is room for: each uses up a byte of the input or of the room, so that there are no more of them than such bytes.
abbrev pub all_steps : (room : ℕ) → Read → (input : List ℕ) → Stepped
all_steps room r input = steps_of (length input + room) room r input

-- ---- what is done between a read and a write

-- the steps, and what the program does after it has written their bytes
pub record Batch : Type 0 where
  pub steps : Stepped
  pub next : Next

-- it goes on where a step is still wanted, for which there was no room; else it reads; it stops after 65,535 lines
abbrev pub next_if : (wanted few : Bool) → Next
next_if true few = Next.Again
next_if false true = Next.Read
next_if false false = Next.Stop

abbrev pub next_of : Read → (left : List ℕ) → Next
next_of r left = next_if (wants_step r.sweeping left) (leb r.number most_lines)

-- where a step is wanted, all steps that there is room for; else the read before it gave nothing: that is the end of the input
abbrev pub work_if : (wanted : Bool) (room : ℕ) → Read → (left : List ℕ) → Batch
work_if true room r left = record { steps = all_steps room r left; next = next_of (all_steps room r left).read (all_steps room r left).left }
work_if false room r left = record { steps = record { read = r; left = left; bytes = end_of r }; next = Next.Stop }

-- All that the program does between a read and a write.
unfoldable pub work_of : (room : ℕ) → Read → (left : List ℕ) → Batch
work_of room r left = work_if (wants_step r.sweeping left) room r left

-- ---- the program's loop

-- what a read gives: the next chunk, or nothing after the last of them
abbrev pub chunk_of : List (List ℕ) → List ℕ
chunk_of [] = []
chunk_of (chunk ∷ chunks) = chunk

-- and the chunks after it
abbrev pub chunks_after : List (List ℕ) → List (List ℕ)
chunks_after [] = []
chunks_after (chunk ∷ chunks) = chunks

-- what is written after a turn, from what would be if the program went on with its chunk, and if it read
abbrev pub onward : Next → (again more : List ℕ) → List ℕ
onward Next.Again again more = again
onward Next.Read again more = more
onward Next.Stop again more = []

-- what is written in so many turns of the loop
unfoldable pub loop_output : (turns room : ℕ) → Read → (left : List ℕ) → (chunks : List (List ℕ)) → List ℕ
loop_output zero room r left chunks = []
loop_output (suc turns) room r left chunks =
    let w = work_of room r left in
    w.steps.bytes
    ++ onward w.next (loop_output turns room w.steps.read w.steps.left chunks) (loop_output turns room w.steps.read (chunk_of chunks) (chunks_after chunks))

-- The program: it begins at line 1, with a read.
unfoldable pub program : (turns room : ℕ) → (chunks : List (List ℕ)) → List ℕ
program turns room chunks = loop_output turns room (at_line 1) (chunk_of chunks) (chunks_after chunks)

-- the input: the chunks before the first read that gives nothing, joined
unfoldable pub input_of : List (List ℕ) → List ℕ
input_of [] = []
input_of ([] ∷ chunks) = []
input_of ((b ∷ chunk) ∷ chunks) = b ∷ (chunk ++ input_of chunks)
