-- The program over an input that comes in chunks: whatever their sizes it comes to an end and writes the output of the whole input, and wherever it is cut short it has
-- written a prefix of that. Assumes nothing.
use Rattle.std.proofs.Math.Path.{◌≡◌, sym, ap}
use Rattle.std.specs.Prelude.{refl, Bool, true, false, leb, Option, Some, None, is_some}
use Rattle.std.proofs.Common.{◌∙◌, true≢false, arith, length-append, leb-false}
use Rattle.std.proofs.Math.Bool.{cond}
use mathlib.Core.List.{List, [], ◌∷◌, ◌++◌, append_assoc, append-nil}
use Prim.Native.Nat.{ℕ, zero, suc, ◌+◌, ◌≤◌, ◌<◌}
use Rattle.std.proofs.Math.ListN.{length}
use Rattle.stream.specs.declared.Next.{Next}
use Rattle.stream.specs.declared.Tally.{Tally}
use Rattle.stream.specs.Output.{most_lines, output}
use Rattle.stream.specs.PieceLaws.{by_test, reading_past}
use Rattle.stream.specs.Step.{most_written, Read, Stepped, wants_step, at_line, end_of}
use Rattle.stream.specs.StepLaws.{rest_task, rest_of, begin_good, end_tells, begin_tells}
use Rattle.stream.specs.Good.{Good}
use Rattle.stream.specs.Work.{all_steps, Batch, next_if, next_of, work_if, work_of, chunk_of, chunks_after, onward, loop_output, program, input_of}
use Rattle.stream.specs.WorkLaws.{steps_tell, steps_good, steps_end}

-- ---- where no step is wanted

-- a line is being read, and the chunk is used up
record Idle (sweep : Option Tally) (left : List ℕ) : Type 0 where
  reading : sweep ≡ None
  empty : left ≡ []

idle : (sweep : Option Tally) (left : List ℕ) → wants_step sweep left ≡ false → Idle sweep left
idle None [] w = record { reading = refl; empty = refl }
idle None (b ∷ left) w = absurd (true≢false w)
idle (Some t) [] w = absurd (true≢false w)
idle (Some t) (b ∷ left) w = absurd (true≢false w)

-- nor would one be without a chunk
idle_ended : (sweep : Option Tally) (left : List ℕ) → wants_step sweep left ≡ false → wants_step sweep [] ≡ false
idle_ended sweep left w = ap is_some (idle sweep left w).reading

-- what each answer says of the two tests
again_wanted : (wanted few : Bool) → next_if wanted few ≡ Next.Again → wanted ≡ true
again_wanted true few e = refl
again_wanted false true e = cc
again_wanted false false e = cc

read_unwanted : (wanted few : Bool) → next_if wanted few ≡ Next.Read → wanted ≡ false
read_unwanted true few e = cc
read_unwanted false few e = refl

stop_past : (wanted few : Bool) → next_if wanted few ≡ Next.Stop → (wanted ≡ false) × (few ≡ false)
stop_past true few e = (cc, cc)
stop_past false true e = (refl, cc)
stop_past false false e = (refl, refl)

-- Nothing is lost by the stop after line 65,535: whatever comes later prints nothing.
pub nothing_lost : (r : Read) (left : List ℕ) → next_of r left ≡ Next.Stop → (later : List ℕ) → rest_of r later ≡ []
unfolding rest_of
nothing_lost r left e later =
    let past = stop_past (wants_step r.sweeping left) (leb r.number most_lines) e in
    ap (λ (t : Option Tally). rest_task r.number r.line t later) (idle r.sweeping left past.0).reading ∙ reading_past r.number r.line later (leb-false r.number most_lines past.1)

-- ---- what is due

-- From what was read, what is left of a chunk and the chunks to come: where no step is wanted, the input has ended.
abbrev due : Read → (left : List ℕ) → (chunks : List (List ℕ)) → List ℕ
due r left chunks = cond (wants_step r.sweeping left) (rest_of r (left ++ input_of chunks)) (rest_of r [])

-- after a read
read_due : (r : Read) (left : List ℕ) → wants_step r.sweeping left ≡ false → (chunks : List (List ℕ)) → rest_of r (input_of chunks) ≡ due r (chunk_of chunks) (chunks_after chunks)
unfolding input_of
read_due r left w [] = rw (idle_ended r.sweeping left w)
read_due r left w ([] ∷ chunks) = rw (idle_ended r.sweeping left w)
read_due r left w ((b ∷ chunk) ∷ chunks) = refl

-- after steps
steps_due : (r : Read) (left : List ℕ) (chunks : List (List ℕ))
    → rest_of r (left ++ input_of chunks) ≡ onward (next_of r left) (due r left chunks) (due r (chunk_of chunks) (chunks_after chunks))
steps_due r left chunks =
    let all = rest_of r (left ++ input_of chunks) in
    let more = due r (chunk_of chunks) (chunks_after chunks) in
    by_test (λ b. all ≡ onward (next_if b (leb r.number most_lines)) (cond b all (rest_of r [])) more) (wants_step r.sweeping left) (λ w. refl)
    (λ w. by_test (λ few. all ≡ onward (next_if false few) (rest_of r []) more) (leb r.number most_lines)
    (λ e. ap (λ (l : List ℕ). rest_of r (l ++ input_of chunks)) (idle r.sweeping left w).empty ∙ read_due r left w chunks)
    (λ e. nothing_lost r left (rw (w, e)) (left ++ input_of chunks)))

-- ---- one turn

module _ (room : ℕ) (r : Read) (g : Good r) (left : List ℕ) where
  abbrev work : Batch
  work = work_of room r left

  abbrev after : Read
  after = work.steps.read

  abbrev steps : Stepped
  steps = all_steps room r left

  after_good : Good after
  unfolding work_of
  after_good = by_test (λ b. Good (work_if b room r left).steps.read) (wants_step r.sweeping left) (λ w. steps_good (length left + room) room r g left) (λ w. g)

  module _ (chunks : List (List ℕ)) where
    -- A turn loses nothing: what it writes, and what is due after it, is what was due.
    turn_tells : due r left chunks ≡ work.steps.bytes ++ onward work.next (due after work.steps.left chunks) (due after (chunk_of chunks) (chunks_after chunks))
    unfolding work_of
    turn_tells =
        let all : Batch → List ℕ = λ w. w.steps.bytes ++ onward w.next (due w.steps.read w.steps.left chunks) (due w.steps.read (chunk_of chunks) (chunks_after chunks)) in
        by_test (λ b. cond b (rest_of r (left ++ input_of chunks)) (rest_of r []) ≡ all (work_if b room r left)) (wants_step r.sweeping left)
        (λ w. steps_tell (input_of chunks) (length left + room) room r g left ∙ ap (λ (l : List ℕ). steps.bytes ++ l) (steps_due steps.read steps.left chunks))
        (λ w. end_tells r g (idle r.sweeping left w).reading ∙ sym (append-nil (end_of r)))

  -- a turn that goes on without a read has written something
  again_writes : most_written ≤ room → work.next ≡ Next.Again → 0 < length work.steps.bytes
  unfolding work_of
  again_writes h =
      by_test (λ b. (work_if b room r left).next ≡ Next.Again → 0 < length (work_if b room r left).steps.bytes) (wants_step r.sweeping left)
      (λ w e. let full = steps_end (length left + room) room r g left (omega arith) (again_wanted (wants_step steps.read.sweeping steps.left) (leb steps.read.number most_lines) e) in
      omega arith)
      (λ w e. let z : ◌≡◌ {A = ℕ} 0 1 = cc in absurd (omega arith))

  -- a turn that reads wants no step
  read_ended : work.next ≡ Next.Read → wants_step after.sweeping [] ≡ false
  unfolding work_of
  read_ended =
      by_test (λ b. (work_if b room r left).next ≡ Next.Read → wants_step (work_if b room r left).steps.read.sweeping [] ≡ false) (wants_step r.sweeping left)
      (λ w e. idle_ended steps.read.sweeping steps.left (read_unwanted (wants_step steps.read.sweeping steps.left) (leb steps.read.number most_lines) e))
      (λ w e. let z : ◌≡◌ {A = ℕ} 0 1 = cc in absurd (omega arith))

-- ---- the program is cut short

-- bytes with which others begin
pub record Prefix (some all : List ℕ) : Type 0 where
  pub rest : List ℕ
  pub is : all ≡ some ++ rest

onward_prefix : (n : Next) (a b c d : List ℕ) → Prefix a b → Prefix c d → Prefix (onward n a c) (onward n b d)
onward_prefix Next.Again a b c d p q = p
onward_prefix Next.Read a b c d p q = q
onward_prefix Next.Stop a b c d p q = record { rest = []; is = refl }

loop_prefix : (turns room : ℕ) (r : Read) → Good r → (left : List ℕ) (chunks : List (List ℕ)) → Prefix (loop_output turns room r left chunks) (due r left chunks)
unfolding loop_output
loop_prefix zero room r g left chunks = record { rest = due r left chunks; is = refl }
loop_prefix (suc turns) room r g left chunks =
    let w = work_of room r left in
    let good = after_good room r g left in
    let p = onward_prefix w.next _ _ _ _ (loop_prefix turns room w.steps.read good w.steps.left chunks) (loop_prefix turns room w.steps.read good (chunk_of chunks) (chunks_after chunks)) in
    record { rest = p.rest; is = turn_tells room r g left chunks ∙ ap (λ (l : List ℕ). w.steps.bytes ++ l) p.is ∙ sym (append_assoc w.steps.bytes _ p.rest) }

begin_due : (chunks : List (List ℕ)) → due (at_line 1) (chunk_of chunks) (chunks_after chunks) ≡ output (input_of chunks)
begin_due chunks = sym (read_due (at_line 1) [] refl chunks) ∙ begin_tells (input_of chunks)

-- After any number of turns a prefix of the output is written, whatever chunks come later; and if the last write took only some of its bytes, still.
pub program_prefix : (turns room : ℕ) (chunks : List (List ℕ)) (taken : List ℕ) → Prefix taken (program turns room chunks) → Prefix taken (output (input_of chunks))
unfolding program
program_prefix turns room chunks taken p =
    let q = loop_prefix turns room (at_line 1) begin_good (chunk_of chunks) (chunks_after chunks) in
    record { rest = p.rest ++ q.rest; is = sym (begin_due chunks) ∙ q.is ∙ ap (λ (l : List ℕ). l ++ q.rest) p.is ∙ append_assoc taken p.rest q.rest }

-- ---- the program comes to an end

-- from so many turns on, all that is due is written
record Completes (room : ℕ) (r : Read) (left : List ℕ) (chunks : List (List ℕ)) : Type 0 where
  turns : ℕ
  all : (m : ℕ) → turns ≤ m → loop_output m room r left chunks ≡ due r left chunks

module _ (room : ℕ) (h : most_written ≤ room) where
  -- one turn, where from so many turns on all is written that is due after it
  by_turn : (r : Read) (g : Good r) (left : List ℕ) (chunks : List (List ℕ)) (turns : ℕ) → let w = work_of room r left in
      ((m : ℕ) → turns ≤ m → onward w.next (loop_output m room w.steps.read w.steps.left chunks) (loop_output m room w.steps.read (chunk_of chunks) (chunks_after chunks))
      ≡ onward w.next (due w.steps.read w.steps.left chunks) (due w.steps.read (chunk_of chunks) (chunks_after chunks)))
      → Completes room r left chunks
  unfolding loop_output
  by_turn r g left chunks turns f = record { turns = suc turns; all = all }
    where
      all : (m : ℕ) → suc turns ≤ m → loop_output m room r left chunks ≡ due r left chunks
      all zero k = absurd (omega arith)
      all (suc m) k = ap (λ (l : List ℕ). (work_of room r left).steps.bytes ++ l) (f m (omega arith)) ∙ sym (turn_tells room r g left chunks)

  -- by what comes after it
  turn_completes : (r : Read) (g : Good r) (left : List ℕ) (chunks : List (List ℕ)) (n : Next) → (work_of room r left).next ≡ n
      → (n ≡ Next.Again → Completes room (work_of room r left).steps.read (work_of room r left).steps.left chunks)
      → (n ≡ Next.Read → Completes room (work_of room r left).steps.read (chunk_of chunks) (chunks_after chunks))
      → Completes room r left chunks
  turn_completes r g left chunks Next.Again e again more = let c = again refl in by_turn r g left chunks c.turns (λ m k. rw e (c.all m k))
  turn_completes r g left chunks Next.Read e again more = let c = more refl in by_turn r g left chunks c.turns (λ m k. rw e (c.all m k))
  turn_completes r g left chunks Next.Stop e again more = by_turn r g left chunks 0 (λ m k. rw e)

  -- nothing is left to read
  ended_completes : (r : Read) → Good r → wants_step r.sweeping [] ≡ false → (chunks : List (List ℕ)) → Completes room r [] chunks
  unfolding work_of
  ended_completes r g w chunks = let stop : (work_of room r []).next ≡ Next.Stop = rw w in by_turn r g [] chunks 0 (λ m k. rw stop)

  -- a turn that goes on without a read leaves less to print
  fewer : (r : Read) (g : Good r) (left : List ℕ) (chunks : List (List ℕ)) → (work_of room r left).next ≡ Next.Again
      → length (due (work_of room r left).steps.read (work_of room r left).steps.left chunks) < length (due r left chunks)
  fewer r g left chunks e =
      let w = work_of room r left in
      let again = due w.steps.read w.steps.left chunks in
      let told : due r left chunks ≡ w.steps.bytes ++ again = turn_tells room r g left chunks ∙ rw e in
      omega (arith, again_writes room r g left h e, ap length told, length-append w.steps.bytes again)

  -- a chunk, of which less than so much is still to print
  chunk_completes : (chunks : List (List ℕ))
      → ((r : Read) → Good r → wants_step r.sweeping [] ≡ false → Completes room r (chunk_of chunks) (chunks_after chunks))
      → (n : ℕ) (r : Read) → Good r → (left : List ℕ) → length (due r left chunks) < n → Completes room r left chunks
  chunk_completes chunks later zero r g left k = absurd (omega arith)
  chunk_completes chunks later (suc n) r g left k =
      turn_completes r g left chunks (work_of room r left).next refl
      (λ e. chunk_completes chunks later n (work_of room r left).steps.read (after_good room r g left) (work_of room r left).steps.left (omega (arith, fewer r g left chunks e)))
      (λ e. later (work_of room r left).steps.read (after_good room r g left) (read_ended room r g left e))

  completes : (chunks : List (List ℕ)) (r : Read) → Good r → (left : List ℕ) → Completes room r left chunks
  completes [] r g left = chunk_completes [] (λ s q w. ended_completes s q w []) (suc (length (due r left []))) r g left (omega arith)
  completes (chunk ∷ chunks) r g left = chunk_completes (chunk ∷ chunks) (λ s q w. completes chunks s q chunk) (suc (length (due r left (chunk ∷ chunks)))) r g left (omega arith)

-- The program comes to an end, and has then written the output of its input: from so many turns on. Chunk sizes cannot matter.
pub record Ends (room : ℕ) (chunks : List (List ℕ)) : Type 0 where
  pub turns : ℕ
  pub all : (m : ℕ) → turns ≤ m → program m room chunks ≡ output (input_of chunks)

pub program_ends : (room : ℕ) → most_written ≤ room → (chunks : List (List ℕ)) → Ends room chunks
unfolding program
program_ends room h chunks =
    let c = completes room h (chunks_after chunks) (at_line 1) begin_good (chunk_of chunks) in
    record { turns = c.turns; all = λ m k. c.all m k ∙ begin_due chunks }
