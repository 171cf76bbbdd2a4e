-- Laws of a call whose free tail is lent on: the call on the whole list is the one on the tail, moved. Assumes nothing.
use Rattle.std.specs.Prelude.{◌≡◌, Bool, take, drop}
use Rattle.std.proofs.Math.Path.{refl, ap}
use Rattle.std.proofs.Common.{sym, ◌∙◌, length-drop}
use mathlib.Core.List.{List, [], ◌∷◌, append-nil}
use Prim.Native.Nat.{ℕ, ◌+◌, ◌-◌, ◌/◌, ◌≤◌}
use native.Mathlib.Omega.{arith}
use Rattle.std.proofs.Math.ListN.{length}
use Rattle.std.proofs.lemmas.List.Edits.{sets}
use Rattle.std.proofs.Math.Seq.{take-length}
use borrow.Rule.Slice.PartMut.{put_mid, mid_of}
use Rattle.marks.specs.Answers.{none, judged, NoneHolds, Outcome, refused, accepted}
use Rattle.marks.specs.AnswerLaws.{judged_none, none_holds, pass_all}
use Rattle.calls.specs.State.{State, Call, terms_of, Listing, entries}
use Rattle.calls.specs.Engine.{Engine, handed, Lawful}
use Rattle.calls.specs.Call.{Result, ReplyOf, conditions, Run, run, run_of, replied, sweep_call}
use Rattle.calls.proofs.RefusalLaws.{Ready, ready}
use Rattle.calls.proofs.ListLaws.{put_tail}

-- The free tail of a list, as it is lent.
abbrev pub lent : List ℕ → (free : ℕ) → List ℕ
lent list free = mid_of free (length list - free) list

-- The call on it.
abbrev pub tail_call : Call → Call
tail_call c = record { cap = c.cap; width = c.width; list = lent c.list c.free; free = 0 }

-- An answer on the tail, its place counted in the whole list.
abbrev pub moved_answer : (free : ℕ) → Outcome Result → Outcome Result
moved_answer free (refused n) = refused n
moved_answer free (accepted r) = accepted (record { trials = r.trials; rounds = r.rounds; place = free + r.place })

-- A reply on the tail as one on the whole list, into which the tail comes back.
abbrev pub moved : {S : Type 0} → List ℕ → (free : ℕ) → ReplyOf S → ReplyOf S
moved list free r = record { answer = moved_answer free r.answer; state = r.state; list = put_mid free (length list - free) list r.list }

pub lent_length : (list : List ℕ) (free : ℕ) → length (lent list free) ≡ length list - free
lent_length list free =
    ap (λ (z : ℕ). length (take z (drop free list))) (sym (length-drop free list)) ∙ ap (λ (z : List ℕ). length z) (take-length (drop free list)) ∙ length-drop free list

-- Where none of a list holds, none is judged.
none_judged : (l : List (ℕ × Bool)) → NoneHolds l → judged l ≡ none
unfolding judged
none_judged l h = ap judged (sym (append-nil l)) ∙ pass_all l [] h

module _ {U : Type 0} {suspect : U → ℕ → Bool} {e : Engine U} {B : U → ℕ} (lawful : Lawful suspect e B) (s : State U) (c : Call) (q : judged (conditions e s (terms_of c)) ≡ none) where
  abbrev l : Listing
  l = e.listing s.over

  is_ready : Ready e s (terms_of c)
  is_ready = ready lawful s (terms_of c) q

  -- There is room for an entry.
  pub tail_free : l.places ≤ length c.list - c.free
  tail_free = is_ready.takes.places

  -- The call on the tail is not refused either.
  pub tail_taken : judged (conditions e s (terms_of (tail_call c))) ≡ none
  tail_taken =
      let n = judged_none (e.faults s) ((33, s.finished) ∷ l.refuses (terms_of c)) q in
      let k = judged_none ((33, s.finished) ∷ []) (l.refuses (terms_of c)) n.1 in
      let rest : NoneHolds (l.refuses (terms_of (tail_call c))) =
      rw (lent_length c.list c.free) (is_ready.lists.tails (terms_of c) (none_holds (l.refuses (terms_of c)) k.1)) in
      pass_all (e.faults s) ((33, s.finished) ∷ l.refuses (terms_of (tail_call c))) n.0 ∙ none_judged ((33, s.finished) ∷ l.refuses (terms_of (tail_call c))) (k.0.0, rest)

  -- The call is the one on the tail, moved.
  pub tail_moved : moved c.list c.free (sweep_call e s (tail_call c)) ≡ sweep_call e s c
  unfolding sweep_call
  tail_moved =
      let size : length (lent c.list c.free) - 0 ≡ length c.list - c.free = omega (arith, lent_length c.list c.free) in
      let same : run_of e s (tail_call c) ≡ run_of e s c = ap (λ (z : ℕ). run e s.over c.cap (z / l.places) s.next) size in
      rw (q, tail_taken, same) (whole (run_of e s c))
    where
      whole : (r : Run) → moved c.list c.free (replied e s (tail_call c) none r) ≡ replied e s c none r
      whole r =
          let words : List ℕ = entries l r.words in
          let place : c.free + (0 + length words) ≡ c.free + length words = omega arith in
          let written = put_tail c.list (sets (lent c.list c.free) 0 words) words c.free refl in
          λ i. record { answer = accepted (record { trials = r.trials; rounds = r.rounds; place = place i }); state = handed e s r.left; list = written i }
