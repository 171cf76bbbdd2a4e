-- Definitions: a sweep call read off the row of suspects from the next significand on. It says which searches are made, so that a call's rounds are given a second time, and how many there are.
use Rattle.std.specs.Prelude.{Bool, cond, not, ◌&&◌, List, [], ◌∷◌, ◌++◌, ℕ, zero, suc, ◌+◌, ◌-◌, ltb, length, take, drop, Option, Some, None}
use Rattle.marks.specs.Answers.{judged}
use Rattle.search.specs.declared.Found.{Found}
use Rattle.calls.specs.State.{State, Call, terms_of, room_in}
use Rattle.calls.specs.Engine.{Section, start_in, past, stops_at, once, Engine}
use Rattle.calls.specs.Call.{Reply, Run, conditions, replied}
use Rattle.calls.specs.Plain.{keep, row, tries, words_of}

-- The first of a row, or none.
abbrev pub head_of : List ℕ → Option ℕ
head_of [] = None
head_of (x ∷ l) = Some x

-- The searches on the way from a to a place: one in each section that has a significand left, until the place does not lie past it.
unfoldable pub legs : List Section → (a : ℕ) → Option ℕ → List Found
legs [] a p = []
legs (s ∷ l) a p = keep (ltb (start_in s a) s.end) (s.find (start_in s a)) (cond (past s.end p) (legs l a p) [])

-- All searches of a call from a on that tries k of a row: those on the way to each tried one, and on that to the next, or past all sections.
unfoldable pub trail : List Section → (a k : ℕ) → List ℕ → List Found
unfolding legs
trail l a k [] = legs l a None
trail l a zero (x ∷ r) = legs l a (Some x)
trail l a (suc k) (x ∷ r) = legs l a (Some x) ++ trail l (suc x) k r

-- The rounds of searches, added up.
unfoldable pub rounds_in : List Found → ℕ
rounds_in [] = 0
rounds_in (w ∷ l) = w.rounds + rounds_in l

-- ---- how many searches

-- Whether a section that is completed takes a search that finds none. It has the significands from a up to but not including end left.
-- A half in which no significand of the range is left is passed over without a search: where a is past it, and where its last one is a suspect, which was then tried last.
abbrev pub closing : (ℕ → Bool) → (a end : ℕ) → Bool
closing suspect a end = ltb a end && not (suspect (end - 1))

-- How many of the sections that are completed on the way from a to a stop take one.
unfoldable pub closings : (ℕ → Bool) → List Section → (a : ℕ) → Option ℕ → ℕ
closings suspect [] a stop = 0
closings suspect (s ∷ l) a stop = once (past s.end stop && closing suspect (start_in s a) s.end) + closings suspect l a stop

-- The number of searches of a call from a on that tries k suspects and stops at a place, or at none: one search for each suspect tried, one search that finds none for each half
-- completed, and one for the suspect stopped at. A section is completed where the call stops past it.
abbrev pub searches_of : (ℕ → Bool) → List Section → (a k : ℕ) → Option ℕ → ℕ
searches_of suspect l a k stop = k + once (stops_at stop) + closings suspect l a stop

-- ---- the call

-- A call from a on that tries k of the row of suspects from a on.
abbrev pub row_run : {U : Type 0} → Engine U → U → (a k : ℕ) → List ℕ → Run
row_run e u a k l =
    record {
      trials = k;
      rounds = rounds_in (trail (e.sections u) a k l);
      words = words_of (e.mark u) (take k l);
      left = head_of (drop k l);
    }

-- The suspects from a state's next significand on.
abbrev pub row_ahead : {U : Type 0} → (U → ℕ → Bool) → Engine U → State U → List ℕ
row_ahead suspect e s = row (suspect s.over) s.next (suc (e.last s.over))

-- A sweep call, read off the row: it tries as many as the plain sweep would.
abbrev pub row_call : {U : Type 0} → (U → ℕ → Bool) → Engine U → State U → Call → Reply U
row_call suspect e s c =
    let tried = tries (e.mark s.over) c.cap (room_in (e.listing s.over) (length c.list) c.free) (row_ahead suspect e s) in
    replied e s c (judged (conditions e s (terms_of c))) (row_run e s.over s.next tried (row_ahead suspect e s))
