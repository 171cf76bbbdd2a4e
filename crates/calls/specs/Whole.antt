-- Definitions: lists of sweep calls, each on the state that the one before returned, and what whole sweeps owe, as one record.
use Rattle.std.specs.Prelude.{◌≡◌, Bool, true, cond, ◌⊎◌, ◌↔◌, ℕ, suc, ◌+◌, ◌*◌, ◌≤◌, ◌<◌, min, max, length, take, drop, Option, Some, None}
use mathlib.Core.List.{List, [], ◌∷◌, ◌++◌, Memᴰ}
use Rattle.std.proofs.Math.Seq.{slice}
use Rattle.marks.specs.declared.Mark.{Mark}
use Rattle.marks.specs.declared.Mark.TheVariants.{Open, Wrong}
use Rattle.marks.specs.Answers.{Outcome, refused, accepted}
use Rattle.search.specs.declared.Found.{Found}
use Rattle.calls.specs.State.{State, Call, Listing, entries, room_in}
use Rattle.calls.specs.Engine.{Engine}
use Rattle.calls.specs.Call.{Result, ReplyOf, Reply}
use Rattle.calls.specs.Plain.{span, row, words_of, Fed, Plain, begun, untried, Told, SeenOf, Seen, state_of, plains, plain_after}
use Rattle.calls.specs.ByRow.{trail, rounds_in, searches_of, row_ahead}

-- ---- what is seen of calls; `call` is any account of a call, good or bad

-- A call's words are those from its first free place up to but not including the place it returns, read as it returns; a refused call has none.
abbrev pub told_by : Call → List ℕ → Outcome Result → Outcome Told
told_by c list (refused n) = refused n
told_by c list (accepted r) = accepted (record { trials = r.trials; place = r.place; words = slice c.free r.place list })

-- What is compared of a call with the plain sweep.
abbrev pub seen : {S : Type 0} → Call → ReplyOf S → SeenOf S
seen c r = record { told = told_by c r.list r.answer; state = r.state }

-- What is seen of each call of a list. Each call is given the state that the one before returned, refused or not.
unfoldable pub sweeps : {S : Type 0} → (S → Call → ReplyOf S) → S → List Call → List (SeenOf S)
sweeps call s [] = []
sweeps call s (c ∷ cs) = seen c (call s c) ∷ sweeps call (call s c).state cs

-- The state that the last call of a list hands back.
unfoldable pub state_after : {S : Type 0} → (S → Call → ReplyOf S) → S → List Call → S
state_after call s [] = s
state_after call s (c ∷ cs) = state_after call (call s c).state cs

-- P of each call of a list, with the state that it is given and its reply.
abbrev pub Each : {S : Type 0} → (S → Call → ReplyOf S → Type 0) → (S → Call → ReplyOf S) → S → List Call → Type 0
Each P call s [] = Unit {0}
Each P call s (c ∷ cs) = P s c (call s c) × Each P call (call s c).state cs

-- P of what an accepted call answers; of a refused one there is nothing to say.
abbrev pub IfAccepted : {A : Type 0} → (A → Type 0) → Outcome A → Type 0
IfAccepted P (refused n) = Unit {0}
IfAccepted P (accepted a) = P a

-- ---- sums over calls

-- The trials of one call; a refused one has none.
abbrev pub trials_told : Outcome Told → ℕ
trials_told (refused n) = 0
trials_told (accepted t) = t.trials

-- The words of one call.
abbrev pub words_told : Outcome Told → List ℕ
words_told (refused n) = []
words_told (accepted t) = t.words

-- 1 for an accepted call.
abbrev pub accepted_told : Outcome Told → ℕ
accepted_told (refused n) = 0
accepted_told (accepted t) = 1

-- The trials of calls, added up.
unfoldable pub trials_in : {S : Type 0} → List (SeenOf S) → ℕ
trials_in [] = 0
trials_in (x ∷ l) = trials_told x.told + trials_in l

-- The words of calls, joined.
unfoldable pub words_in : {S : Type 0} → List (SeenOf S) → List ℕ
words_in [] = []
words_in (x ∷ l) = words_told x.told ++ words_in l

-- The number of accepted calls.
unfoldable pub accepted_in : {S : Type 0} → List (SeenOf S) → ℕ
accepted_in [] = 0
accepted_in (x ∷ l) = accepted_told x.told + accepted_in l

-- ---- the parts of what whole sweeps owe

-- The lent list after a call, over the list before it: places before it and unused ones keep their words.
pub record Tail (c : Call) (place : ℕ) (list : List ℕ) : Type 0 where
  pub before : take c.free list ≡ take c.free c.list
  pub unused : drop place list ≡ drop place c.list
  pub long : length list ≡ length c.list

-- A refused call leaves the whole list.
abbrev pub ListKept : Call → Outcome Result → List ℕ → Type 0
ListKept c (refused n) list = list ≡ c.list
ListKept c (accepted r) list = Tail c r.place list

-- The first suspect of those not yet tried; past the range if none is left.
abbrev pub end_of : (last : ℕ) → List ℕ → ℕ
end_of last [] = suc last
end_of last (x ∷ l) = x

-- w is the word of X, which is not right: it tells the mark too.
abbrev pub WordOf : (ℕ → Mark) → (X w : ℕ) → Type 0
WordOf mark X w = ((mark X ≡ Open) × (w ≡ 2 * X + 1)) ⊎ ((mark X ≡ Wrong) × (w ≡ 2 * X))

-- w is the word of a significand from a up to but not including b.
pub record Listed (mark : ℕ → Mark) (a b w : ℕ) : Type 0 where
  pub X : ℕ
  pub from : a ≤ X
  pub below : X < b
  pub word : WordOf mark X w

-- From a up to but not including b, each above the one before.
abbrev pub Ascends : (a b : ℕ) → List ℕ → Type 0
Ascends a b [] = Unit {0}
Ascends a b (x ∷ l) = (a ≤ x) × (x < b) × Ascends (suc x) b l

-- Words hold exactly the significands from a up to b that are not right, once each, ascending, with their marks.
pub record Holds (mark : ℕ → Mark) (a b : ℕ) (words : List ℕ) : Type 0 where
  -- the words of all of them, in order
  pub are : words ≡ words_of mark (span a b)
  -- which is: a word is there exactly if it is one of theirs
  pub exactly : (w : ℕ) → Memᴰ w words ↔ Listed mark a b w
  -- and each is above the one before, so that none stands twice
  pub ascending : Ascends (2 * a) (2 * b) words

-- They do so as entries: the words are the entries of listed words that do.
pub record HoldsAs (l : Listing) (mark : ℕ → Mark) (a b : ℕ) (words : List ℕ) : Type 0 where
  pub listed : List ℕ
  pub are : words ≡ entries l listed
  pub holds : Holds mark a b listed

-- An accepted call's searches, read off the row of suspects.
abbrev pub made_by : {U : Type 0} → (U → ℕ → Bool) → Engine U → State U → Result → List Found
made_by suspect e s r = trail (e.sections s.over) s.next r.trials (row_ahead suspect e s)

-- Where a call stopped, by the state that it hands back: at a suspect, or at none.
abbrev pub stop_of : {U : Type 0} → State U → Option ℕ
stop_of t = cond t.finished None (Some t.next)

-- How many searches an accepted call makes; t is the state that it hands back.
abbrev pub SearchesRight : {U : Type 0} → (U → ℕ → Bool) → Engine U → (s t : State U) → Result → Type 0
SearchesRight suspect e s t r = length (made_by suspect e s r) ≡ searches_of (suspect s.over) (e.sections s.over) s.next r.trials (stop_of t)

-- An accepted call's rounds are those of its searches, added up, and at most B for each trial and for as many searches more as the engine has it.
pub record RoundsRight {U : Type 0} (suspect : U → ℕ → Bool) (e : Engine U) (B : U → ℕ) (s t : State U) (r : Result) : Type 0 where
  pub are : r.rounds ≡ rounds_in (made_by suspect e s r)
  pub few : r.rounds ≤ B s.over * (r.trials + e.beyond s t)

-- Trials are capped: an accepted call tries at most its cap.
abbrev pub Capped : Call → Result → Type 0
Capped c r = r.trials ≤ c.cap

-- An accepted call tries at least the smallest of cap, room for entries and suspects left.
abbrev pub Ample : {U : Type 0} → (U → ℕ → Bool) → Engine U → State U → Call → Result → Type 0
Ample suspect e s c r = min c.cap (min (room_in (e.listing s.over) (length c.list) c.free) (length (row_ahead suspect e s))) ≤ r.trials

-- What the plain sweep is fed for what is swept.
abbrev pub fed_by : {U : Type 0} → (U → ℕ → Bool) → Engine U → U → Fed U
fed_by suspect e u =
    record { over = u; first = e.first u; last = e.last u; mark = e.mark u; suspects = row (suspect u) (e.first u) (suc (e.last u)); listing = e.listing u }

-- What it shows of calls from a new state on.
abbrev pub plainly : {U : Type 0} → (U → ℕ → Bool) → Engine U → U → List Call → List (Seen U)
plainly suspect e u calls = plains (state_of (fed_by suspect e u)) (fed_by suspect e u) (begun (fed_by suspect e u)) calls

-- Where it is after them.
abbrev pub plain_end : {U : Type 0} → (U → ℕ → Bool) → Engine U → U → List Call → Plain
plain_end suspect e u calls = plain_after (fed_by suspect e u) (begun (fed_by suspect e u)) calls

-- ---- what whole sweeps owe

-- For every list of sweep calls from a new state, refused ones included, whatever their caps, lists and free places. Each field says which of the engines that condition (c) names it shuts out.
pub record Whole {U : Type 0} (suspect : U → ℕ → Bool) (e : Engine U) (B : U → ℕ) (call : State U → Call → Reply U) (s : State U) (calls : List Call) : Type 0 where
  -- each call's answer, trials, words and state are those of the plain sweep
  -- (shut out: one that lists all in its first call past the cap; invented trials)
  pub same : sweeps call s calls ≡ plainly suspect e s.over calls
  -- the words of a call are all that it writes: places before its first free place and unused ones are as they were, and a refused call leaves the list
  pub lists : Each (λ s c r. ListKept c r.answer r.list) call s calls
  -- joined words hold exactly the significands in range that are not right below the first suspect not yet tried (all if none is left), once each, ascending, with marks
  pub words : HoldsAs (e.listing s.over) (e.mark s.over) (e.first s.over) (end_of (e.last s.over) (untried (fed_by suspect e s.over) (plain_end suspect e s.over calls))) (words_in (sweeps call s calls))
  -- trials add up, to the number of suspects tried
  pub trials : trials_in (sweeps call s calls) ≡ (plain_end suspect e s.over calls).tried
  -- it is finished exactly when all suspects are tried and a call was accepted
  -- (shut out: one that calls itself finished with nothing tried)
  pub finished : ((state_after call s calls).finished ≡ true) ↔ ((1 ≤ accepted_in (sweeps call s calls)) × (trials_in (sweeps call s calls) ≡ length (fed_by suspect e s.over).suspects))
  -- within as many accepted calls as suspects, or one where there are none
  pub latest : max 1 (length (fed_by suspect e s.over).suspects) ≤ accepted_in (sweeps call s calls) → (state_after call s calls).finished ≡ true
  -- trials are capped
  -- (shut out: one that lists all in its first call past the cap)
  pub capped : Each (λ s c r. IfAccepted (Capped c) r.answer) call s calls
  -- one search for each suspect tried, one search that finds none for each half completed, and one for the suspect stopped at
  pub searches : Each (λ s c r. IfAccepted (SearchesRight suspect e s r.state) r.answer) call s calls
  -- rounds are the searches' and few: at most B for each trial and for each search that the engine allows beyond them (of sweeps and of kits in numbers: `FewRounds` of either)
  -- (shut out: invented rounds)
  pub rounds : Each (λ s c r. IfAccepted (RoundsRight suspect e B s r.state) r.answer) call s calls
  -- the stop rule's least: an accepted call has a cap of at least 1 and room for an entry, so it tries its first suspect
  -- (shut out: one that stops before its first suspect)
  pub ample : Each (λ s c r. IfAccepted (Ample suspect e s c) r.answer) call s calls
