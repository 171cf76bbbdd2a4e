-- The code's loop over steps, and what it comes to. Assumes nothing.
use Rattle.std.specs.Prelude.{◌≡◌, Bool, true, false, ◌&&◌, List, [], ◌++◌, ℕ, zero, suc, ◌+◌, ◌-◌, ◌≤◌, ◌<◌, leb, length, take, drop}
use Rattle.std.proofs.Math.Path.{refl, ap₂}
use Rattle.std.proofs.Common.{sym, ap, subst, ◌∙◌, append_assoc, append-nil, arith, length-drop, leb-true}
use Rattle.marks.specs.AnswerLaws.{and_true}
use Rattle.frame.specs.Written.{Written}
use Rattle.frame.specs.WrittenLaws.{written_then, written_none, written_front, written_length}
use Rattle.stream.specs.declared.Move.{Move}
use Rattle.stream.specs.declared.Next.{Next}
use Rattle.stream.specs.declared.Progress.{Progress}
use Rattle.stream.specs.declared.Worked.{Worked}
use Rattle.stream.specs.Step.{most_written, Read, Stepped, wants_step, read_of, step_of, end_of}
use Rattle.stream.specs.Good.{Fit}
use Rattle.stream.specs.Moves.{Moved, WorkedOff}
use Rattle.stream.specs.MoveLaws.{step_short}
use Rattle.stream.specs.Work.{no_step, and_then, steps_of, all_steps, Batch, next_of, work_of}
use Rattle.stream.specs.WorkLaws.{step_uses, steps_more, steps_over}

-- ---- the loop

-- Some steps are made of all of them: their bytes are written, and what is left to make, at most so many, comes to the rest.
pub record Begun (all : Stepped) (input out₀ : List ℕ) (m : Move) (out : List ℕ) : Type 0 where
  pub fit : Fit m.progress
  pub inside : m.at ≤ length input
  pub within : m.used ≤ length out₀
  pub done : List ℕ
  pub bytes : Written out₀ 0 done out m.used
  pub most : ℕ
  pub enough : length (drop m.at input) + (length out₀ - m.used) ≤ most
  pub is : all ≡ and_then done (steps_of most (length out₀ - m.used) (read_of m.progress) (drop m.at input))

-- bytes, more bytes, and steps
then_then : (done more : List ℕ) (s : Stepped) → and_then done (and_then more s) ≡ and_then (done ++ more) s
then_then done more s = ap (λ (l : List ℕ). record { read = s.read; left = s.left; bytes = l }) (sym (append_assoc done more s.bytes))

pub begin : (p : Progress) → Fit p → (input : List ℕ) (at : ℕ) → at ≤ length input → (out : List ℕ) → Begun (all_steps (length out) (read_of p) (drop at input)) input out (record { progress = p; at = at; used = 0 }) out
begin p fit input at h out =
    record {
      fit = fit;
      inside = h;
      within = omega arith;
      done = [];
      bytes = written_none out 0;
      most = length (drop at input) + length out;
      enough = omega arith;
      is = ap (λ (room : ℕ). steps_of (length (drop at input) + length out) room (read_of p) (drop at input)) whole;
    }
  where
    whole : length out ≡ length out - 0
    whole = omega arith

module _ (all : Stepped) (input out₀ : List ℕ) (m : Move) (out : List ℕ) (b : Begun all input out₀ m out) where
  abbrev r : Read
  r = read_of m.progress

  abbrev left : List ℕ
  left = drop m.at input

  abbrev room : ℕ
  room = length out₀ - m.used

  -- the loop's test
  abbrev test : Bool
  test = wants_step r.sweeping left && leb most_written (length out - m.used)

  same_size : length out ≡ length out₀
  same_size = written_length b.bytes

  pub used_within : m.used ≤ length out
  used_within = omega (arith, same_size, b.within)

  pub room_for_step : test ≡ true → m.used + most_written ≤ length out
  room_for_step t = omega (arith, used_within, leb-true most_written (length out - m.used) (and_true (wants_step r.sweeping left) (leb most_written (length out - m.used)) t).1)

  -- one step more
  module _ (t : test ≡ true) (n : Move) (out' : List ℕ) (moved : Moved (step_of r left) input n out m.used out') where
    abbrev s : Stepped
    s = step_of r left

    w : wants_step r.sweeping left ≡ true
    w = (and_true (wants_step r.sweeping left) (leb most_written (length out - m.used)) t).0

    h : most_written ≤ room
    h = omega (arith, same_size, room_for_step t)

    short : length s.bytes ≤ most_written
    short = step_short r left

    used : length s.left < length left + length s.bytes
    used = step_uses r b.fit.good left w

    room_after : room - length s.bytes ≡ length out₀ - n.used
    room_after = omega (arith, moved.bytes.place)

    -- the loop's measure
    pub one_less : length input - n.at + (length out₀ - n.used) < length input - m.at + (length out₀ - m.used)
    one_less = omega (arith, h, used, ap length moved.left, short, moved.bytes.place, length-drop m.at input, length-drop n.at input)

    further : (most : ℕ) → all ≡ and_then b.done (steps_of (suc most) room r left)
        → all ≡ and_then (b.done ++ s.bytes) (steps_of most (length out₀ - n.used) (read_of n.progress) (drop n.at input))
    further most e =
        let same : steps_of most (room - length s.bytes) s.read s.left ≡ steps_of most (length out₀ - n.used) (read_of n.progress) (drop n.at input) =
        λ i. steps_of most (room_after i) (sym moved.read i) (sym moved.left i) in
        e
        ∙ ap (and_then b.done) (steps_more most room r left w h)
        ∙ then_then b.done s.bytes (steps_of most (room - length s.bytes) s.read s.left)
        ∙ ap (and_then (b.done ++ s.bytes)) same

    pub one_more : Begun all input out₀ n out'
    one_more = go b.most b.enough b.is
      where
        go : (most : ℕ) → length left + room ≤ most → all ≡ and_then b.done (steps_of most room r left) → Begun all input out₀ n out'
        go zero e i = absurd (omega (arith, h))
        go (suc most) e i =
            record {
              fit = moved.fit;
              inside = moved.inside;
              within = omega (arith, h, moved.bytes.place, short);
              done = b.done ++ s.bytes;
              bytes = written_then b.bytes moved.bytes;
              most = most;
              enough = omega (arith, h, used, ap length moved.left, short, room_after);
              is = further most i;
            }

  -- no step is wanted, or there is no room for it
  pub all_done : test ≡ false → Moved all input m out₀ 0 out × (m.used ≤ length out₀)
  all_done t =
      let over : (wants_step r.sweeping left && leb most_written room) ≡ false = ap (λ (n : ℕ). wants_step r.sweeping left && leb most_written (n - m.used)) (sym same_size) ∙ t in
      let e : all ≡ and_then b.done (no_step r left) = b.is ∙ ap (and_then b.done) (steps_over b.most room r left over) in (
        record {
          fit = b.fit;
          read = sym (ap (λ (z : Stepped). z.read) e);
          inside = b.inside;
          left = sym (ap (λ (z : Stepped). z.left) e);
          bytes = subst (λ (l : List ℕ). Written out₀ 0 l out m.used) (sym (ap (λ (z : Stepped). z.bytes) e ∙ append-nil b.done)) b.bytes;
        },
        b.within,
      )

-- ---- what the program does

-- The first bytes of the output, as many as are used, are the steps'.
pub worked_front : (w : Batch) (input : List ℕ) (r : Worked) (out after : List ℕ) → WorkedOff w input r out after → take r.moved.used after ≡ w.steps.bytes
worked_front w input r out after d = written_front d.moved.bytes d.within

module _ (p : Progress) (fit : Fit p) (input : List ℕ) (at : ℕ) (h : at ≤ length input) (out after : List ℕ) where
  pub worked_ended : wants_step p.sweeping (drop at input) ≡ false → (used : ℕ) → Written out 0 (end_of (read_of p)) after used → used ≤ length out
      → WorkedOff (work_of (length out) (read_of p) (drop at input)) input (record { moved = record { progress = p; at = at; used = used }; next = Next.Stop }) out after
  unfolding work_of
  worked_ended w used e k = rw w (record { moved = record { fit = fit; read = refl; inside = h; left = refl; bytes = e }; within = k; next = refl })

  pub worked_made : wants_step p.sweeping (drop at input) ≡ true → (m : Move) (n : Next) → Moved (all_steps (length out) (read_of p) (drop at input)) input m out 0 after × (m.used ≤ length out)
      → n ≡ next_of (read_of m.progress) (drop m.at input)
      → WorkedOff (work_of (length out) (read_of p) (drop at input)) input (record { moved = m; next = n }) out after
  unfolding work_of
  worked_made w m n d e = rw w (record { moved = d.0; within = d.1; next = e ∙ ap₂ next_of d.0.read d.0.left })
