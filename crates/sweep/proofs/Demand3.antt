-- What sweeps of a factor promise, whatever calls are made: of every list of calls that were made from a new state, each of them keeping the contract of `sweep_call` at the state that the one before handed back.
-- `Whole` (in `calls`) has each part of it as a field. Assumes nothing.
use Rattle.std.specs.Prelude.{◌≡◌, refl, true, false, not, ◌↔◌, ℕ, suc, ◌+◌, ◌*◌, ◌≤◌, Result, Ok}
use Rattle.std.proofs.Common.{sym, ap, ◌∙◌, subst, arith}
use mathlib.Core.List.{List, Memᴰ}
use Rattle.marks.specs.Answers.{accepted}
use Rattle.marks.specs.AnswerLaws.{only_accepted, pass, end, accepts}
use Rattle.rounding.specs.Round.{HasBits}
use Rattle.factor.specs.declared.Description.{Description}
use Rattle.factor.specs.declared.Factor.{Factor}
use Rattle.factor.specs.Precision.{range_out}
use Rattle.factor.specs.Context.{context_of, lower_of, upper_of}
use Rattle.factor.specs.SetUp.{set_up, intact, Sound}
use Rattle.factor.proofs.SetUpLaws.{accepted_intact}
use Rattle.product.specs.Product.{product_by}
use Rattle.product.specs.Marks.{mark_by, SaysBy}
use Rattle.suspects.specs.Suspects.{Suspect}
use Rattle.calls.specs.State.{Range, State, Call}
use Rattle.calls.specs.Engine.{fresh}
use Rattle.calls.specs.Call as call
use Rattle.calls.specs.Call.{new_state, Reply, sweep_call}
use Rattle.calls.specs.ByRow.{row_call}
use Rattle.calls.specs.Plain.{row, untried, Seen}
use Rattle.calls.specs.Whole.{sweeps, state_after, IfAccepted, words_in, end_of, Ascends, Holds, fed_by, plain_end, Whole}
use Rattle.calls.proofs.RowLaws.{row_ascends, row_exactly}
use Rattle.calls.proofs.ListLaws.{entries_are}
use Rattle.calls.proofs.CallLaws.{if_accepted, by_row_lem, rounds_right}
use Rattle.calls.proofs.Demand3.{whole_sweep, each}
use Rattle.calls.proofs.Made as calls
use Rattle.calls.proofs.Made.{replies_by}
use Rattle.sweep.specs.declared.SweepState.{SweepState}
use Rattle.sweep.specs.declared.Swept.{Swept}
use Rattle.sweep.specs.declared.SweepRefusal.{SweepRefusal}
use Rattle.sweep.specs.Engine.{suspect, range, mark_of, engine, suspect_in, most_in}
use Rattle.sweep.proofs.EngineLaws.{sound_of, suspect_is, mark_is, lawful}
use Rattle.sweep.specs.Answers.{view_of, new_of, reply_of}

-- ---- where calls begin

-- Over every factor that 31 lets through and every range that 17 lets through, a new state is accepted: the one with the first significand as next, and not finished.
pub begins_always : (f : Factor) (first last : ℕ) → intact f ≡ true → range_out f.precision first last ≡ false → new_state engine (range f first last) ≡ accepted (fresh engine (range f first last))
begins_always f first last whole inside = sym (accepts (pass (ap not whole) (pass inside end)) (fresh engine (range f first last)))

-- 31 lets every factor through that set-up accepted.
pub set_up_begins : (d : Description) (f : Factor) (first last : ℕ) → set_up d ≡ accepted f → range_out f.precision first last ≡ false
    → new_state engine (range f first last) ≡ accepted (fresh engine (range f first last))
set_up_begins d f first last given inside = begins_always f first last (accepted_intact d f given) inside

-- ---- calls that were made

-- a call that was made: what was asked, what was answered, and the list that it left
pub record Made : Type 0 where
  pub asked : Call
  pub answer : Result Swept SweepRefusal
  pub left : List ℕ

abbrev asked : Made → Call
asked m = m.asked

abbrev pub reply_in : Made → Reply (Range Factor)
reply_in m = reply_of m.answer m.left

-- each call kept the contract of `sweep_call`, at the state that the one before handed back
abbrev pub Kept : State (Range Factor) → List Made → Type 0
Kept = calls.Kept asked reply_in (sweep_call engine)

-- what was asked, what was answered, what is seen of them, and the state that the last of them handed back
abbrev pub asked_in : List Made → List Call
asked_in = calls.asked_in asked reply_in

abbrev pub replies_in : List Made → List (Reply (Range Factor))
replies_in = calls.replies_in asked reply_in

abbrev pub seen_in : List Made → List (Seen (Range Factor))
seen_in = calls.seen_in asked reply_in

abbrev pub last_in : State (Range Factor) → List Made → State (Range Factor)
last_in = calls.last_in asked reply_in

-- P of each of them, with the state that it was given and its reply
abbrev pub EachIn : (State (Range Factor) → Call → Reply (Range Factor) → Type 0) → State (Range Factor) → List Made → Type 0
EachIn = calls.EachIn asked reply_in

-- ---- what they promise

-- the rounds of an accepted call are at most 64 × (its trials + 2)
abbrev pub FewRounds : (before : State (Range Factor)) → Call → Reply (Range Factor) → Type 0
FewRounds s c r = IfAccepted (λ (a : call.Result). a.rounds ≤ 64 * (a.trials + 2)) r.answer

-- The calls that were made from a state s.
pub record Demand3 (s : State (Range Factor)) (made : List Made) : Type 0 where
  -- part by part, of the calls that were asked
  pub whole : Whole suspect_in engine most_in (sweep_call engine) s (asked_in made)
  -- this speaks of the calls that were made: of their replies, of what is seen of them, and of the state that the last of them handed back
  pub replies : replies_in made ≡ replies_by (sweep_call engine) s (asked_in made)
  pub seen : seen_in made ≡ sweeps (sweep_call engine) s (asked_in made)
  pub last : last_in s made ≡ state_after (sweep_call engine) s (asked_in made)
  -- joined words hold exactly the significands in range that are not right below the first suspect not yet tried (all if none is left), once each, ascending, with marks: an entry is its word
  pub words : Holds (mark_of s.over.factor) s.over.first (end_of s.over.last (untried (fed_by suspect_in engine s.over) (plain_end suspect_in engine s.over (asked_in made)))) (words_in (seen_in made))
  -- the test for a suspect is the definition of one
  pub suspects : (X : ℕ) → suspect s.over.factor X ≡ true ↔ Suspect (context_of s.over.factor) (lower_of s.over.factor) (upper_of s.over.factor) X
  -- the row of all suspects in range, ascending
  pub row : (X : ℕ) → Memᴰ X (fed_by suspect_in engine s.over).suspects ↔ ((s.over.first ≤ X) × (X ≤ s.over.last) × Suspect (context_of s.over.factor) (lower_of s.over.factor) (upper_of s.over.factor) X)
  pub ascending : Ascends s.over.first (suc s.over.last) (fed_by suspect_in engine s.over).suspects
  -- marks are those of the product: each says what it must of every fraction between the ends
  pub marks : (X : ℕ) → (fed_by suspect_in engine s.over).mark X ≡ mark_by s.over.factor X (product_by s.over.factor X)
  pub tells : (X : ℕ) → HasBits s.over.factor.precision X → SaysBy s.over.factor X (product_by s.over.factor X) ((fed_by suspect_in engine s.over).mark X)
  -- rounds are few
  pub rounds : EachIn FewRounds s made

-- On every state, also one that no calls lead to.
pub few_rounds : (s : State (Range Factor)) (c : Call) → FewRounds s c (sweep_call engine s c)
few_rounds s c = if_accepted (λ a r. r.few) (sweep_call engine s c).answer (rounds_right lawful s c)

-- Entries are the listed words, so that the joined words themselves hold exactly the significands that are not right, once each, ascending, with their marks.
pub joined_words : {call : State (Range Factor) → Call → Reply (Range Factor)} {s : State (Range Factor)} {calls : List Call} → Whole suspect_in engine most_in call s calls
    → Holds (mark_of s.over.factor) s.over.first (end_of s.over.last (untried (fed_by suspect_in engine s.over) (plain_end suspect_in engine s.over calls))) (words_in (sweeps call s calls))
joined_words w = rw (w.words.are ∙ entries_are w.words.listed) w.words.holds

-- the row holds exactly the suspects, as they are defined
row_is : (f : Factor) → Sound f → (first last X : ℕ)
    → Memᴰ X (row (suspect f) first (suc last)) ↔ ((first ≤ X) × (X ≤ last) × Suspect (context_of f) (lower_of f) (upper_of f) X)
row_is f s first last X =
    let exactly = row_exactly (suspect f) first (suc last) X in (
      (λ m. let i = exactly.0 m in (i.0, omega (arith, i.1), (suspect_is f s X).0 i.2)),
      (λ i. exactly.1 (i.0, omega (arith, i.1), (suspect_is f s X).1 i.2)),
    )

-- All of it holds where `new_state` accepted s, and the calls made from it kept the contract of `sweep_call`.
pub demand_3 : (f : Factor) (first last : ℕ) (s : SweepState) → new_of (Ok s) ≡ new_state engine (range f first last) → (made : List Made) → Kept (view_of s) made → Demand3 (view_of s) made
demand_3 f first last s q made k =
    let good = only_accepted (engine.new_faults (range f first last)) (fresh engine (range f first last)) (view_of s) (sym q) in
    let sound : Sound s.factor = subst (λ (s : State (Range Factor)). Sound s.over.factor) good.1 (sound_of f good.0.0) in
    let whole = whole_sweep lawful (range f first last) (view_of s) (sym q) (asked_in made) in
    record {
      whole = whole;
      replies = calls.kept_replies asked reply_in (sweep_call engine) (view_of s) made k;
      seen = calls.kept_seen asked reply_in (sweep_call engine) (view_of s) made k;
      last = calls.kept_last asked reply_in (sweep_call engine) (view_of s) made k;
      words = rw (calls.kept_seen asked reply_in (sweep_call engine) (view_of s) made k) (joined_words whole);
      suspects = suspect_is s.factor sound;
      row = row_is s.factor sound s.first s.last;
      ascending = row_ascends (suspect s.factor) s.first (suc s.last);
      marks = λ X. refl;
      tells = mark_is s.factor sound;
      rounds = calls.kept_each asked reply_in (sweep_call engine) FewRounds (view_of s) made k (each FewRounds (sweep_call engine) few_rounds (view_of s) (asked_in made));
    }

-- ---- one call

-- On every state, also one that no calls lead to, what the searches make of a call is what is read off the row of suspects: answer, state, list and
-- counts. Its rounds are so given a second time, as the sum of those of its searches.
pub call_by_row : (s : State (Range Factor)) (c : Call) → sweep_call engine s c ≡ row_call suspect_in engine s c
call_by_row = by_row_lem lawful
