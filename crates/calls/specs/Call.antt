-- Definitions: a new state and a sweep call, by searches, for every state, also one that no calls lead to.
use Rattle.std.specs.Prelude.{Bool, cond, List, [], ◌∷◌, ◌++◌, ℕ, zero, suc, ◌+◌, ◌-◌, ltb, length, Option, Some, None}
use Rattle.std.proofs.lemmas.List.Edits.{sets}
use Rattle.marks.specs.declared.Mark.{Mark}
use Rattle.marks.specs.Answers.{Judgement, number, none, judged, Outcome, refused, accepted, answer}
use Rattle.search.specs.declared.Found.{Found}
use Rattle.calls.specs.State.{State, Call, Terms, terms_of, listed, entries, room_in}
use Rattle.calls.specs.Engine.{Section, start_in, Engine, fresh, handed}

-- ---- refusals and replies

-- A new state, or its refusal.
abbrev pub new_state : {U : Type 0} → Engine U → U → Outcome (State U)
new_state e u = answer (e.new_faults u) (fresh e u)

-- The conditions that refuse a call: state comes before input; within a list the smaller number comes first.
abbrev pub conditions : {U : Type 0} → Engine U → State U → Terms → List (ℕ × Bool)
conditions e s t = e.faults s ++ (33, s.finished) ∷ (e.listing s.over).refuses t

-- The call returns its trials and rounds as numbers. It also returns the place after the last word written, which is the next first free place.
pub record Result : Type 0 where
  pub trials : ℕ
  pub rounds : ℕ
  pub place : ℕ

-- What a call returns, and the caller's list as it then is. S is the type of states.
pub record ReplyOf (S : Type 0) : Type 0 where
  pub answer : Outcome Result
  pub state : S
  pub list : List ℕ

-- What a sweep call returns.
abbrev pub Reply : Type 0 → Type 0
Reply U = ReplyOf (State U)

-- ---- the searches

-- A place past the half or past the range is none found.
abbrev pub within : ℕ → Option ℕ → Option ℕ
within end (Some X) = cond (ltb X end) (Some X) None
within end None = None

-- None found, after some rounds.
abbrev pub none_after : ℕ → Found
none_after n = record { place = None; rounds = n }

-- The search in a section, on the way from a on.
-- A half in which no significand of the range is left is passed over without a search.
abbrev pub sought : Section → (a : ℕ) → Found
sought s a =
    cond (ltb (start_in s a) s.end) (record { place = within s.end (s.find (start_in s a)).place; rounds = (s.find (start_in s a)).rounds }) (none_after 0)

-- The first search, where its place is one; otherwise the other, with the rounds of both.
abbrev pub or_else : Option ℕ → Found → Found → Found
or_else (Some X) w other = w
or_else None w other = record { place = other.place; rounds = w.rounds + other.rounds }

-- The first suspect from a on in sections, one after another, with the rounds of the searches that lead to it.
unfoldable pub seek : List Section → (a : ℕ) → Found
seek [] a = none_after 0
seek (s ∷ l) a = or_else (sought s a).place (sought s a) (seek l a)

-- The first suspect from a on in all that is swept.
abbrev pub ahead : {U : Type 0} → Engine U → U → (a : ℕ) → Found
ahead e u a = seek (e.sections u) a

-- ---- the trials

-- What a call does: its trials, its rounds, its words in order, and the suspect that it stops at, or none if none remains.
pub record Run : Type 0 where
  pub trials : ℕ
  pub rounds : ℕ
  pub words : List ℕ
  pub left : Option ℕ

-- No suspect remains.
abbrev pub over : Run
over = record { trials = 0; rounds = 0; words = []; left = None }

-- The call stops before the suspect X.
abbrev pub stopped : ℕ → Run
stopped X = record { trials = 0; rounds = 0; words = []; left = Some X }

-- X is tried, and the call goes on: a trial takes the mark.
abbrev pub tried : Mark → ℕ → Run → Run
tried m X r = record { trials = suc r.trials; rounds = r.rounds; words = listed m X ++ r.words; left = r.left }

-- The call goes on as `go` says at a suspect; where there is none, it is over.
abbrev pub met : Option ℕ → (ℕ → Run) → Run
met (Some X) go = go X
met None go = over

-- Its rounds are those of its searches added up.
abbrev pub searched : Found → (ℕ → Run) → Run
searched w go =
    let r = met w.place go in
    record { trials = r.trials; rounds = w.rounds + r.rounds; words = r.words; left = r.left }

-- What a call does from a on, with a cap and room for a number of entries.
-- Before each suspect is tried, the call stops if the cap is reached or no place is free.
unfoldable pub run : {U : Type 0} → Engine U → U → (cap free a : ℕ) → Run
unfolding seek
run e u zero free a = searched (ahead e u a) stopped
run e u (suc cap) zero a = searched (ahead e u a) stopped
run e u (suc cap) (suc free) a =
    searched (ahead e u a) (λ X. tried (e.mark u X) X (run e u cap (suc free - length (listed (e.mark u X) X)) (suc X)))

-- ---- the call

-- A refusal returns the number, the state as given, no counts. The list is untouched. An accepted call writes the entries of its words from the first free place on.
abbrev pub replied : {U : Type 0} → Engine U → State U → Call → Judgement → Run → Reply U
replied e s c (number n) r = record { answer = refused n; state = s; list = c.list }
replied e s c none r =
    let words = entries (e.listing s.over) r.words in
    record {
      answer = accepted (record { trials = r.trials; rounds = r.rounds; place = c.free + length words });
      state = handed e s r.left;
      list = sets c.list c.free words;
    }

-- What a call does on a state, where nothing refuses it: it has room for as many entries as the free places hold.
abbrev pub run_of : {U : Type 0} → Engine U → State U → Call → Run
run_of e s c = run e s.over c.cap (room_in (e.listing s.over) (length c.list) c.free) s.next

-- A sweep call.
unfoldable pub sweep_call : {U : Type 0} → Engine U → State U → Call → Reply U
unfolding judged entries
sweep_call e s c = replied e s c (judged (conditions e s (terms_of c))) (run_of e s c)
