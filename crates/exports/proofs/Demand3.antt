-- What whole sweeps owe reaches callers who keep a sweep's state as words: calls on one list of words make the replies that `Demand3` of `sweep` speaks of. Assumes nothing.
use Rattle.std.specs.Prelude.{◌≡◌, refl, Bool, true, false, cond, List, [], ◌∷◌, ◌++◌, ℕ, ◌≤◌, ◌<◌, length, drop, ltb, Result as Either, Ok, Err}
use Rattle.std.proofs.Math.Path.{sym, ap}
use Rattle.std.proofs.Common.{ap₂, ◌∙◌, subst, ltb-false, lt-ltb, le-ltb}
use native.Mathlib.Omega.{arith}
use Rattle.std.proofs.lemmas.List.Edits.{sets}
use Rattle.std.proofs.Math.Seq.{sets-eq}
use Rattle.std.proofs.lemmas.Bool.{not-false}
use Rattle.marks.specs.Answers.{Judgement, number, none, judged, Outcome, refused, accepted, unless, answer, and_then}
use Rattle.marks.specs.AnswerLaws.{pass, stop, end, refuses, accepts, only_accepted}
use Rattle.factor.specs.declared.Factor.{Factor}
use Rattle.factor.specs.declared.Description.{Description}
use Rattle.factor.specs.Precision.{range_out}
use Rattle.factor.specs.SetUp.{set_up, intact}
use Rattle.calls.specs.State.{Range, State, Call, terms_of}
use Rattle.calls.specs.Engine.{fresh}
use Rattle.calls.specs.Call.{new_state, Result, Reply, Run, conditions, replied, run_of, sweep_call}
use Rattle.calls.proofs.RefusalLaws.{over_kept}
use Rattle.sweep.specs.declared.Swept.{Swept}
use Rattle.sweep.specs.declared.SweepRefusal.{SweepRefusal}
use Rattle.sweep.specs.Engine.{range, engine}
use Rattle.sweep.specs.Answers.{call_of, reply_of, code_of}
use Rattle.sweep.proofs.Demand3.{set_up_begins, Made, reply_in, Kept, asked_in, last_in, Demand3, demand_3}
use Rattle.exports.specs.Words.{factor_length, factor_from, factor_words, state_length, state_of, state_from, state_words}
use Rattle.exports.specs.Answers.{unfit, taken, Answer, leaves, new_sweep_answer, new_sweep_to, SweepWords, refused_with, reply_words, reply_to, sweep_to}
use Rattle.exports.proofs.Named.{refusal_at, Named, sweep_named}
use Rattle.exports.proofs.WordLaws.{Writable, set_up_writable, read_writable, not_damaged, factor_back, state_not_damaged, state_back}

-- ---- one call
-- on the words of a state, whatever stands behind them, it is the engine's call on that state
module _ (s : State (Range Factor)) (W : Writable s.over.factor) (rest : List ℕ) (cap : ℕ) (list : List ℕ) (free : ℕ) (counts : List ℕ) where
  abbrev ws : List ℕ
  ws = state_words s ++ rest

  abbrev reply : Reply (Range Factor)
  reply = sweep_call engine s (call_of cap list free)

  state_taken : 3 ≤ length counts → taken ws state_length (length counts) 3 ≡ accepted (factor_from ws)
  unfolding taken state_words
  state_taken room = sym (accepts (pass (le-ltb (length ws) 14 (omega arith)) (pass (le-ltb (length counts) 3 room) (pass (state_not_damaged s W rest) end))) (factor_from ws))

  pub call_to : 3 ≤ length counts → sweep_to ws cap list free counts ≡ reply_words reply
  unfolding sweep_to state_from
  call_to room =
      ap (λ (o : Outcome Factor). reply_to list o (λ f. sweep_call engine (state_of f ws) (call_of cap list free))) (state_taken room)
      ∙ ap (λ (t : State (Range Factor)). reply_words (sweep_call engine t (call_of cap list free))) (state_back s W rest)

-- the words that it leaves are those of the state handed back, which is over the same factor
pub words_left : (s : State (Range Factor)) (c : Call) (rest : List ℕ) → let r = sweep_call engine s c in sets (state_words s ++ rest) 0 (reply_words r).state ≡ state_words r.state ++ rest
unfolding sweep_call state_words
words_left s c rest = go (judged (conditions engine s (terms_of c))) (run_of engine s c)
  where
    go : (v : Judgement) (x : Run) → let r = replied engine s c v x in sets (state_words s ++ rest) 0 (reply_words r).state ≡ state_words r.state ++ rest
    go (number n) x = refl
    go none x = refl

pub factor_kept : (s : State (Range Factor)) (c : Call) → (sweep_call engine s c).state.over.factor ≡ s.over.factor
factor_kept s c = ap (λ (r : Range Factor). r.factor) (over_kept engine s c)

-- a call without room for its counts is none: it is answered with 255 and leaves all as it was
pub no_room_to : (state : List ℕ) (cap : ℕ) (list : List ℕ) (free : ℕ) (counts : List ℕ) → length counts < 3 → sweep_to state cap list free counts ≡ refused_with 255 list
unfolding sweep_to taken
no_room_to state cap list free counts h = go (ltb (length state) state_length) refl
  where
    go : (b : Bool) → ltb (length state) state_length ≡ b → reply_to list (taken state state_length (length counts) 3) (λ f. sweep_call engine (state_of f state) (call_of cap list free)) ≡ refused_with 255 list
    go true e = ap (λ (o : Outcome Factor). reply_to list o (λ f. sweep_call engine (state_of f state) (call_of cap list free))) (sym (refuses (stop e) (factor_from state)))
    go false e = ap (λ (o : Outcome Factor). reply_to list o (λ f. sweep_call engine (state_of f state) (call_of cap list free))) (sym (refuses (pass e (stop (lt-ltb (length counts) 3 h))) (factor_from state)))

-- ---- calls one after another

-- what a caller asks of a call: cap, list, first free place, and a list that has room for the counts
pub record Asked : Type 0 where
  pub cap : ℕ
  pub list : List ℕ
  pub free : ℕ
  pub counts : List ℕ
  pub room : 3 ≤ length counts

abbrev pub call_in : Asked → Call
call_in a = call_of a.cap a.list a.free

abbrev pub calls_in : List Asked → List Call
calls_in [] = []
calls_in (a ∷ asked) = call_in a ∷ calls_in asked

-- what is answered on one list of words, each call given the words that the one before left
abbrev pub answers_to : (state : List ℕ) → List Asked → List SweepWords
answers_to state [] = []
answers_to state (a ∷ asked) =
    let r = sweep_to state a.cap a.list a.free a.counts in
    r ∷ answers_to (sets state 0 r.state) asked

-- the replies of calls that were made, as words
abbrev pub answers_in : List Made → List SweepWords
answers_in [] = []
answers_in (m ∷ made) = reply_words (reply_in m) ∷ answers_in made

-- ---- the calls that were made

-- a reply as code gives it
abbrev code_answer : Outcome Result → State (Range Factor) → Either Swept SweepRefusal
code_answer (accepted r) s = Ok (record { state = code_of s; trials = r.trials; rounds = r.rounds; place = r.place })
code_answer (refused n) s = Err (record { state = code_of s; refusal = refusal_at n })

code_says : (o : Outcome Result) (s : State (Range Factor)) (list : List ℕ) → Named o → reply_of (code_answer o s) list ≡ record { answer = o; state = s; list = list }
code_says (accepted r) s list h = refl
code_says (refused n) s list h = λ i. record { answer = refused (h i); state = s; list = list }

-- the engine's calls on a state
abbrev made_from : State (Range Factor) → List Asked → List Made
made_from s [] = []
made_from s (a ∷ asked) =
    let r = sweep_call engine s (call_in a) in
    record { asked = call_in a; answer = code_answer r.answer r.state; left = r.list } ∷ made_from r.state asked

says : (s : State (Range Factor)) (a : Asked) → let r = sweep_call engine s (call_in a) in reply_of (code_answer r.answer r.state) r.list ≡ r
says s a = let r = sweep_call engine s (call_in a) in code_says r.answer r.state r.list (sweep_named s (call_in a))

kept : (s : State (Range Factor)) (asked : List Asked) → Kept s (made_from s asked)
kept s [] = tt
kept s (a ∷ asked) =
    let r = sweep_call engine s (call_in a) in
    (says s a, subst (λ (x : Reply (Range Factor)). Kept x.state (made_from r.state asked)) (sym (says s a)) (kept r.state asked))

asked_are : (s : State (Range Factor)) (asked : List Asked) → asked_in (made_from s asked) ≡ calls_in asked
asked_are s [] = refl
asked_are s (a ∷ asked) = ap (λ (l : List Call). call_in a ∷ l) (asked_are (sweep_call engine s (call_in a)).state asked)

-- on the words of a state, calls are answered with the replies of the engine's calls on that state
pub answers_are : (s : State (Range Factor)) → Writable s.over.factor → (rest : List ℕ) (asked : List Asked) → answers_to (state_words s ++ rest) asked ≡ answers_in (made_from s asked)
answers_are s W rest [] = refl
answers_are s W rest (a ∷ asked) =
    let r = sweep_call engine s (call_in a) in
    let next = subst Writable (sym (factor_kept s (call_in a))) W in
    ap (λ (x : SweepWords). x ∷ answers_to (sets (state_words s ++ rest) 0 x.state) asked) (call_to s W rest a.cap a.list a.free a.counts a.room)
    ∙ ap₂ (λ (x : SweepWords) (l : List SweepWords). x ∷ l) (ap reply_words (sym (says s a)))
    (ap (λ (ws : List ℕ). answers_to ws asked) (words_left s (call_in a) rest) ∙ answers_are r.state next rest asked)

-- the words that calls leave, one after another
abbrev pub left_to : (state : List ℕ) → List Asked → List ℕ
left_to state [] = state
left_to state (a ∷ asked) = left_to (sets state 0 (sweep_to state a.cap a.list a.free a.counts).state) asked

-- are those of the state that the last of them hands back
pub left_are : (s : State (Range Factor)) → Writable s.over.factor → (rest : List ℕ) (asked : List Asked) → left_to (state_words s ++ rest) asked ≡ state_words (last_in s (made_from s asked)) ++ rest
left_are s W rest [] = refl
left_are s W rest (a ∷ asked) =
    let r = sweep_call engine s (call_in a) in
    let next = subst Writable (sym (factor_kept s (call_in a))) W in
    ap (λ (x : SweepWords). left_to (sets (state_words s ++ rest) 0 x.state) asked) (call_to s W rest a.cap a.list a.free a.counts a.room)
    ∙ ap (λ (ws : List ℕ). left_to ws asked) (words_left s (call_in a) rest)
    ∙ left_are r.state next rest asked
    ∙ ap (λ (x : Reply (Range Factor)). state_words (last_in x.state (made_from r.state asked)) ++ rest) (sym (says s a))

-- ---- a new sweep

-- the numbers of conditions, none of them 0
abbrev pub Numbered : List (ℕ × Bool) → Type 0
Numbered [] = Unit {0}
Numbered (t ∷ l) = (0 < t.0) × Numbered l

-- what is told as 0 was accepted, where a refusal is told by its number
pub accepted_at : {A : Type 0} (tell : Outcome A → ℕ) → ((n : ℕ) → tell (refused n) ≡ n) → (l : List (ℕ × Bool)) → Numbered l → (a : A) → tell (answer l a) ≡ 0 → answer l a ≡ accepted a
unfolding answer judged
accepted_at tell same [] p a zero = refl
accepted_at tell same (t ∷ l) p a zero = go t.1 zero (accepted_at tell same l p.1 a)
  where
    go : (b : Bool) → tell (unless (cond b (number t.0) (judged l)) a) ≡ 0 → (tell (answer l a) ≡ 0 → answer l a ≡ accepted a) → unless (cond b (number t.0) (judged l)) a ≡ accepted a
    go true z ih = absurd (omega (arith, p.0, sym (same t.0) ∙ z))
    go false z ih = ih z

-- over the words of every factor that set-up accepted, whatever stands behind them, and every range that 17 lets through, it is answered with 0
pub begins_to : (d : Description) (f : Factor) → set_up d ≡ accepted f → (rest : List ℕ) (first last : ℕ) (out : List ℕ) → range_out f.precision first last ≡ false → state_length ≤ length out
    → (new_sweep_to (factor_words f ++ rest) first last out).number ≡ 0
unfolding new_sweep_to taken factor_words
begins_to d f e rest first last out inside room =
    let W = set_up_writable d f e in
    let ws = factor_words f ++ rest in
    ap (λ (o : Outcome Factor). (new_sweep_answer (and_then o (λ f. new_state engine (range f first last)))).number)
    (sym (accepts (pass (le-ltb (length ws) 10 (omega arith)) (pass (le-ltb (length out) 14 room) (pass (not_damaged f W rest) end))) (factor_from ws)))
    ∙ ap (λ (g : Factor). (new_sweep_answer (new_state engine (range g first last))).number) (factor_back f W rest)
    ∙ ap (λ (o : Outcome (State (Range Factor))). (new_sweep_answer o).number) (set_up_begins d f first last e inside)

-- where it is answered with 0, the words were taken and the engine accepted the state
module _ (factor : List ℕ) (first last : ℕ) (out : List ℕ) (zero : (new_sweep_to factor first last out).number ≡ 0) where
  abbrev f : Factor
  f = factor_from factor

  abbrev s : State (Range Factor)
  s = fresh engine (range f first last)

  -- what is answered, where the words are taken or not
  abbrev told : Outcome Factor → Answer
  told o = new_sweep_answer (and_then o (λ f. new_state engine (range f first last)))

  was_taken : taken factor factor_length (length out) state_length ≡ accepted f
  unfolding new_sweep_to
  was_taken = accepted_at (λ o. (told o).number) (λ n. refl) (unfit factor factor_length (length out) state_length) (omega arith, (omega arith, (omega arith, tt))) f zero

  was_begun : new_state engine (range f first last) ≡ accepted s
  unfolding new_sweep_to
  was_begun = accepted_at (λ o. (new_sweep_answer o).number) (λ n. refl) (engine.new_faults (range f first last)) (omega arith, (omega arith, tt)) s (ap (λ (o : Outcome Factor). (told o).number) (sym was_taken) ∙ zero)

  writable : Writable f
  writable = read_writable factor (not-false (intact f) (only_accepted (engine.new_faults (range f first last)) s s was_begun).0.0)

  state_words_lem : leaves (new_sweep_to factor first last out) out ≡ state_words s ++ drop state_length out
  unfolding new_sweep_to
  state_words_lem =
      let none = (only_accepted (unfit factor factor_length (length out) state_length) f f was_taken).0 in
      ap (λ (o : Outcome Factor). leaves (told o) out) was_taken
      ∙ ap (λ (o : Outcome (State (Range Factor))). leaves (new_sweep_answer o) out) was_begun
      ∙ sets-eq (state_words s) out 0 (ltb-false (length out) state_length none.1.0)

-- ---- what whole sweeps owe

-- The calls asked on the words that a new sweep left: they are answered as these calls are, the words left in the end are those of the last one's state, and of these calls `Demand3` holds.
pub record Demand3To (factor : List ℕ) (first last : ℕ) (out : List ℕ) (asked : List Asked) : Type 0 where
  pub made : List Made
  pub calls : asked_in made ≡ calls_in asked
  pub answers : answers_to (leaves (new_sweep_to factor first last out) out) asked ≡ answers_in made
  pub left : left_to (leaves (new_sweep_to factor first last out) out) asked ≡ state_words (last_in (fresh engine (range (factor_from factor) first last)) made) ++ drop state_length out
  pub demand : Demand3 (fresh engine (range (factor_from factor) first last)) made

pub demand_3_to : (factor : List ℕ) (first last : ℕ) (out : List ℕ) → (new_sweep_to factor first last out).number ≡ 0 → (asked : List Asked) → Demand3To factor first last out asked
demand_3_to factor first last out zero asked =
    let s = fresh engine (range (factor_from factor) first last) in
    record {
      made = made_from s asked;
      calls = asked_are s asked;
      answers = ap (λ (ws : List ℕ). answers_to ws asked) (state_words_lem factor first last out zero) ∙ answers_are s (writable factor first last out zero) (drop state_length out) asked;
      left = ap (λ (ws : List ℕ). left_to ws asked) (state_words_lem factor first last out zero) ∙ left_are s (writable factor first last out zero) (drop state_length out) asked;
      demand = demand_3 (factor_from factor) first last (code_of s) (sym (was_begun factor first last out zero)) (made_from s asked) (kept s asked);
    }
