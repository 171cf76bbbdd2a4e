-- One sweep call of the program: what it answers, read off the suspects that are left. Assumes nothing.
use Rattle.std.specs.Prelude.{◌≡◌, refl, List, ℕ, ◌+◌, ◌-◌, ◌≤◌, length, take, Result, Ok, Err}
use Rattle.std.proofs.Common.{sym, ap, ◌∙◌, arith}
use Rattle.std.proofs.lemmas.List.Edits.{sets}
use Rattle.std.proofs.Math.Seq.{length-sets}
use borrow.Author.Tests.{le-ltb}
use Rattle.marks.specs.declared.Mark.{Mark}
use Rattle.marks.specs.Answers.{none, judged, Outcome, refused, accepted}
use Rattle.factor.specs.declared.Factor.{Factor}
use Rattle.calls.specs.State.{Range}
use Rattle.calls.specs.Engine.{handed}
use Rattle.calls.specs.Call as calls
use Rattle.calls.specs.Call.{conditions, Reply, sweep_call}
use Rattle.calls.specs.Plain.{words_of}
use Rattle.calls.specs.ByRow.{head_of, row_run}
use Rattle.calls.proofs.TrialLaws.{tries_within, words_fit}
use Rattle.calls.proofs.ListLaws.{entries_are, read_back}
use Rattle.sweep.specs.declared.SweepState.{SweepState}
use Rattle.sweep.specs.declared.Swept.{Swept}
use Rattle.sweep.specs.declared.SweepRefusal.{SweepRefusal}
use Rattle.sweep.specs.Engine.{mark_of, engine}
use Rattle.sweep.specs.Answers.{view_of, code_of, call_of, terms_by, reply_of}
use Rattle.sweep.proofs.Demand3.{call_by_row}
use Rattle.stream.specs.declared.Tally.{Tally}
use Rattle.stream.specs.Output.{is_wrong, is_open, counted, odds}
use Rattle.stream.specs.SweepLaws.{length_lines, told}
use Rattle.stream.specs.Step.{list_size, no_cap, left_of, tried_by, tried_of, after_of, state_at, tallied, part_lines}
use Rattle.stream.specs.Good.{Going, Counted, added_to, Addable}

-- the words of the call
abbrev pub words_by : SweepState → List ℕ
words_by s = words_of (mark_of s.factor) (tried_of s)

-- the call on a list of 64 words, all of it free, is accepted
pub record Answered (s : SweepState) (after : SweepState) (t p : ℕ) (list : List ℕ) : Type 0 where
  pub state : after ≡ state_at s (head_of (after_of s))
  pub trials : t ≡ tried_by s
  pub place : p ≡ length (words_by s)
  pub words : take p list ≡ words_by s
  pub long : length list ≡ list_size
  pub fits : length (words_by s) ≤ list_size

abbrev pub AnsweredBy : SweepState → Result Swept SweepRefusal → List ℕ → Type 0
AnsweredBy s (Ok r) list = Answered s r.state r.trials r.place list
AnsweredBy s (Err r) list = ⊥

-- ---- the tally

module _ (t : Tally) (c : Counted t) (after : SweepState) (trials place : ℕ) (list : List ℕ) (a : Answered t.state after trials place list) (opens : ℕ) (e : opens ≡ odds (take place list)) where
  abbrev s : SweepState
  s = t.state

  abbrev mark : ℕ → Mark
  mark = mark_of s.factor

  open_ones : opens ≡ counted is_open mark (tried_of s)
  open_ones = e ∙ ap odds a.words ∙ sym (told mark (tried_of s)).0

  wrong_ones : place - opens ≡ counted is_wrong mark (tried_of s)
  wrong_ones = omega (arith, a.place, told mark (tried_of s), open_ones)

  pub addable : Addable t trials place opens
  addable =
      let k : tried_by s ≤ length (left_of s) = tries_within mark no_cap list_size (left_of s) in
      let o : opens ≤ place = omega (arith, a.place, told mark (tried_of s), open_ones) in
      let f = a.fits in
      record {
        tried = omega (arith, a.trials, c.few);
        failing = omega (arith, a.place, c.few, c.failing);
        odd = omega (arith, a.place, c.few, c.failing);
        some = o;
      }

  pub added_is : added_to t after trials place opens ≡ tallied t
  added_is = λ i. record { state = a.state i; trials = t.trials + a.trials i; wrongs = t.wrongs + wrong_ones i; opens = t.opens + open_ones i }

-- ---- the call

-- what a reply tells
abbrev result_in : Outcome calls.Result → calls.Result
result_in (refused n) = record { trials = 0; rounds = 0; place = 0 }
result_in (accepted r) = r

module _ (s : SweepState) (g : Going s) (list : List ℕ) (size : length list ≡ list_size) where
  not_refused : judged (conditions engine (view_of s) (terms_by no_cap (length list) 0)) ≡ none
  unfolding judged
  not_refused = rw (g.whole, g.inside, le-ltb s.next s.first g.from, le-ltb s.last s.next g.upto, g.going, size)

  few_words : length (words_by s) ≤ list_size
  few_words = words_fit (mark_of s.factor) no_cap list_size (left_of s)

  front : take (length (words_by s)) (sets list 0 (words_by s)) ≡ words_by s
  front =
      let e : 0 + length (words_by s) ≡ length (words_by s) = omega arith in
      ap (λ (k : ℕ). take k (sets list 0 (words_by s))) (sym e) ∙ read_back list (words_by s) 0 (omega (arith, few_words))

  reply_is :
      sweep_call engine (view_of s) (call_of no_cap list 0)
      ≡ record {
        answer = accepted (record { trials = tried_by s; rounds = (row_run engine (view_of s).over s.next (tried_by s) (left_of s)).rounds; place = 0 + length (words_by s) });
        state = handed engine (view_of s) (head_of (after_of s));
        list = sets list 0 (words_by s);
      }
  reply_is = call_by_row (view_of s) (call_of no_cap list 0) ∙ rw (not_refused, size, entries_are (words_by s)) refl

  -- What the call answers.
  pub answered : (a : Result Swept SweepRefusal) (left : List ℕ) → reply_of a left ≡ sweep_call engine (view_of s) (call_of no_cap list 0) → AnsweredBy s a left
  answered (Ok r) left e =
      let all = e ∙ reply_is in
      let p : r.place ≡ length (words_by s) = ap (λ (x : Reply (Range Factor)). (result_in x.answer).place) all ∙ omega arith in
      let l : left ≡ sets list 0 (words_by s) = ap (λ (x : Reply (Range Factor)). x.list) all in
      record {
        state = ap (λ (x : Reply (Range Factor)). code_of x.state) all;
        trials = ap (λ (x : Reply (Range Factor)). (result_in x.answer).trials) all;
        place = p;
        words = ap (λ (k : ℕ). take k left) p ∙ ap (take (length (words_by s))) l ∙ front;
        long = ap length l ∙ length-sets list 0 (words_by s) ∙ size;
        fits = few_words;
      }
  answered (Err r) left e = let z : ◌≡◌ {A = ℕ} 0 1 = cc (ap (λ (x : Reply (Range Factor)). x.answer) (e ∙ reply_is)) in omega arith

-- A part prints at most 576 bytes.
pub part_short : (s : SweepState) → length (part_lines s) ≤ 576
part_short s = omega (arith, length_lines (words_by s), words_fit (mark_of s.factor) no_cap list_size (left_of s))
