-- What whole sweeps of kits owe reaches callers who keep a kit sweep's state as words: calls on one list of words make the replies that `KitDemand3` of `kit` speaks of. Assumes nothing.
use Rattle.std.specs.Prelude.{◌≡◌, Bool, true, false, cond, not, ◌||◌, ◌↔◌, Result as Either, Ok, Err}
use Rattle.std.specs.List.{list_any}
use Rattle.std.proofs.Math.Path.{refl, sym, ap, ap₂}
use Rattle.std.proofs.Common.{◌∙◌, subst, get_or-take, take_at, drop_at, get_or-append-add}
use mathlib.Core.List.{List, [], ◌∷◌, ◌++◌, append_assoc}
use Prim.Native.Nat.{ℕ, zero, suc, ◌+◌, ◌-◌, ◌*◌, ◌≤◌, ◌<◌}
use native.Mathlib.Omega.{arith}
use Rattle.std.proofs.Math.Nat.{sub-zero, suc-sub-suc, zero-sub}
use Rattle.std.proofs.Math.ListN.{length, take, drop, length-append}
use Rattle.std.proofs.Math.Seq.{sets, sets-eq, take-nil, length-take-le}
use Rattle.std.proofs.Math.Dec.{eqb, ltb}
use borrow.Author.Tests.{ltb-false, lt-ltb, le-ltb, ne_eqb}
use Rattle.marks.specs.declared.Refusal.{Refusal}
use Rattle.marks.specs.Answers.{Judgement, number, none, judged, NoneHolds, Outcome, refused, accepted, unless, answer, and_then}
use Rattle.marks.specs.AnswerLaws.{pass, stop, end, refuses, accepts, none_refuses, only_accepted, or_false}
use Rattle.factor.specs.declared.Description.{Description}
use Rattle.factor.specs.declared.Factor.{Factor}
use Rattle.factor.specs.SetUp.{set_up}
use Rattle.factor.proofs.SetUpLaws.{accepted_intact}
use Rattle.calls.specs.State.{State, Call, terms_of}
use Rattle.calls.specs.Engine.{AllOf, fresh}
use Rattle.calls.specs.Call.{new_state, Result, Reply, Run, conditions, replied, run_of, sweep_call}
use Rattle.calls.proofs.RefusalLaws.{over_kept}
use Rattle.calls.specs.Kit.{Kit, in_kit, two_alike, place_in, significand_in, position, first_in}
use Rattle.calls.proofs.KitLaws.{position_is}
use Rattle.calls.proofs.KitRows.{CleanKit}
use Rattle.sweep.specs.Answers.{call_of}
use Rattle.kit.specs.declared.KitState.{KitState}
use Rattle.kit.specs.declared.KitCounts.{KitCounts}
use Rattle.kit.specs.declared.KitReply.{KitReply}
use Rattle.kit.specs.declared.Verdict.{Verdict}
use Rattle.kit.specs.declared.Verdict.TheVariants.{Clean, NotClean, Unfinished}
use Rattle.kit.specs.Engine.{faulty, alike, factors, kits}
use Rattle.kit.specs.Answers.{reply_of, view_of, told, verdict_of}
use Rattle.kit.specs.Demand3.{Made, reply_in, Kept, asked_in, last_in, entries_in, KitDemand3, kit_demand_3}
use Rattle.exports.specs.Words.{word, flag_word, flag_from, factor_length, factor_from, factor_words, damaged}
use Rattle.exports.specs.Answers.{Answer, leaves, SweepWords, refused_with}
use Rattle.exports.proofs.WordLaws.{Writable, set_up_writable, flag_back, not_damaged, factor_back}
use Rattle.exports.proofs.Named.{refusal_at, Named, kit_named}
use Rattle.exports.proofs.Demand3.{Asked, call_in, calls_in, accepted_at}
use Rattle.exports.specs.Kits.{kit_length, factors_from, any_damaged, kit_from, kit_state_length, kit_state_of, behind_kit, kit_unfit, kit_taken, form_answer, form_to, new_kit_answer, new_kit_to, kit_reply_words, kit_reply_to, kit_sweep_to, told_number, clean_answer, clean_to}

-- ---- what stands behind a kit's words does not matter to it

drop_take : (a n : ℕ) (ws : List ℕ) → drop a (take n ws) ≡ take (n - a) (drop a ws)
drop_take zero n ws = ap (λ (k : ℕ). take k ws) (sym (sub-zero n))
drop_take (suc a) zero ws = ap (λ (k : ℕ). take k (drop (suc a) ws)) (sym (zero-sub (suc a)))
drop_take (suc a) (suc n) [] = sym (take-nil (suc n - suc a))
drop_take (suc a) (suc n) (w ∷ ws) = drop_take a n ws ∙ ap (λ (k : ℕ). take k (drop a ws)) (sym (suc-sub-suc n a))

-- to a factor,
module _ (n : ℕ) (ws : List ℕ) (h : factor_length ≤ n) where
  at : (i : ℕ) → i < factor_length → word (take n ws) i ≡ word ws i
  at i k = get_or-take n ws i 0 (omega (arith, h, k))

  factor_front : factor_from (take n ws) ≡ factor_from ws
  unfolding factor_from
  factor_front =
      rw (at 0 (omega arith), at 1 (omega arith), at 2 (omega arith), at 3 (omega arith), at 4 (omega arith), at 5 (omega arith), at 6 (omega arith), at 7 (omega arith), at 8 (omega arith), at 9 (omega arith))

  damage_front : damaged (take n ws) ≡ damaged ws
  unfolding damaged
  damage_front = rw (at 1 (omega arith), at 6 (omega arith), at 7 (omega arith), at 8 (omega arith), at 9 (omega arith))

-- to factors one after another,
factors_front : (k n : ℕ) (ws : List ℕ) → factor_length * k ≤ n → factors_from k (take n ws) ≡ factors_from k ws
unfolding factors_from
factors_front zero n ws h = refl
factors_front (suc k) n ws h =
    ap₂ (λ (f : Factor) (w : List ℕ). f ∷ factors_from k w) (factor_front n ws (omega arith)) (drop_take factor_length n ws)
    ∙ ap (λ (l : List Factor). factor_from ws ∷ l) (factors_front k (n - factor_length) (drop factor_length ws) (omega arith))

damages_front : (k n : ℕ) (ws : List ℕ) → factor_length * k ≤ n → any_damaged k (take n ws) ≡ any_damaged k ws
unfolding any_damaged
damages_front zero n ws h = refl
damages_front (suc k) n ws h =
    ap₂ (λ (b : Bool) (w : List ℕ). b || any_damaged k w) (damage_front n ws (omega arith)) (drop_take factor_length n ws)
    ∙ ap (λ (b : Bool). damaged ws || b) (damages_front k (n - factor_length) (drop factor_length ws) (omega arith))

-- and to a kit
pub kit_front : (ws : List ℕ) → kit_from (take kit_length ws) ≡ kit_from ws
kit_front ws =
    let places = ap (factors_from 96) (drop_take 1 961 ws) ∙ factors_front 96 960 (drop 1 ws) (omega arith) in
    λ i. record { factors = places i; count = get_or-take 961 ws 0 0 (omega arith) i }

-- ---- the words of a state: those of its kit, then those behind

module _ (kit : List ℕ) (long : length kit ≡ kit_length) where
  front : (rest : List ℕ) → take kit_length (kit ++ rest) ≡ kit
  front rest = take_at kit rest kit_length long

  -- the kit is read from its own
  pub kit_kept : (rest : List ℕ) → kit_from (kit ++ rest) ≡ kit_from kit
  kit_kept rest = sym (kit_front (kit ++ rest)) ∙ ap (λ (ws : List ℕ). kit_from ws) (front rest)

  -- and the word at i behind it is the one at 961 + i
  behind_at : (behind : List ℕ) (i : ℕ) → word (kit ++ behind) (kit_length + i) ≡ word behind i
  behind_at behind i = ap (λ (n : ℕ). word (kit ++ behind) (n + i)) (sym long) ∙ get_or-append-add kit behind i 0

  -- The state is read back, whatever stands behind its words.
  pub kit_state_back : (s : State (Kit Factor)) → s.over ≡ kit_from kit → (rest : List ℕ) → let ws = kit ++ behind_kit s ++ rest in kit_state_of (kit_from ws) ws ≡ s
  kit_state_back s e rest =
      let ws = kit ++ behind_kit s ++ rest in
      let same = append_assoc kit (behind_kit s) rest in
      let place : word ws 961 ≡ place_in s.next = ap (λ (ws : List ℕ). word ws 961) same ∙ behind_at (behind_kit s ++ rest) 0 in
      let significand : word ws 962 ≡ significand_in s.next = ap (λ (ws : List ℕ). word ws 962) same ∙ behind_at (behind_kit s ++ rest) 1 in
      let mark : word ws 963 ≡ flag_word s.finished = ap (λ (ws : List ℕ). word ws 963) same ∙ behind_at (behind_kit s ++ rest) 2 in
      let kits = ap (λ (ws : List ℕ). kit_from ws) same ∙ kit_kept (behind_kit s ++ rest) ∙ sym e in
      let next = ap₂ position place significand ∙ position_is s.next in
      let finished = ap flag_from mark ∙ flag_back s.finished in
      λ i. record { over = kits i; next = next i; finished = finished i }

-- What a call leaves: its words behind the kit's are written into the words of a state, and the state is read back.
pub kit_back : (ws : List ℕ) → kit_state_length ≤ length ws → (t : State (Kit Factor)) → t.over ≡ kit_from ws → let left = sets ws kit_length (behind_kit t) in kit_state_of (kit_from left) left ≡ t
kit_back ws h t e =
    let long = length-take-le kit_length ws (omega (arith, h)) in
    let left = sets-eq (behind_kit t) ws kit_length (omega (arith, h)) in
    ap (λ (vs : List ℕ). kit_state_of (kit_from vs) vs) left ∙ kit_state_back (take kit_length ws) long t (e ∙ sym (kit_front ws)) (drop kit_state_length ws)

-- What a new sweep leaves.
pub new_kit_back : (kit : List ℕ) → kit_length ≤ length kit → (s : State (Kit Factor)) → s.over ≡ kit_from kit → (rest : List ℕ)
    → let ws = take kit_length kit ++ behind_kit s ++ rest in kit_state_of (kit_from ws) ws ≡ s
new_kit_back kit h s e rest = kit_state_back (take kit_length kit) (length-take-le kit_length kit h) s (e ∙ sym (kit_front kit)) rest

-- ---- one call

-- The words of a kit that are taken: 961, the number from 1 to 96, and none of those counted damaged.
pub record FitKit (kit : List ℕ) : Type 0 where
  pub long : length kit ≡ kit_length
  pub number : eqb (word kit 0) 0 || ltb 96 (word kit 0) ≡ false
  pub intact : any_damaged (word kit 0) (drop 1 kit) ≡ false

-- They are so with any words behind them.
module _ (kit : List ℕ) (K : FitKit kit) (rest : List ℕ) where
  abbrev more : List ℕ
  more = kit ++ rest

  count_same : word more 0 ≡ word kit 0
  count_same = ap (λ (k : Kit Factor). k.count) (kit_kept kit K.long rest)

  number_in : eqb (word more 0) 0 || ltb 96 (word more 0) ≡ false
  number_in = ap (λ (n : ℕ). eqb n 0 || ltb 96 n) count_same ∙ K.number

  not_many : word kit 0 ≤ 96
  not_many = ltb-false 96 (word kit 0) (or_false (eqb (word kit 0) 0) (ltb 96 (word kit 0)) K.number).1

  still_intact : any_damaged (word more 0) (drop 1 more) ≡ false
  still_intact =
      let front = take_at kit rest kit_length K.long in
      let fewer : factor_length * word kit 0 ≤ 960 = omega (arith, not_many) in
      ap (λ (n : ℕ). any_damaged n (drop 1 more)) count_same
      ∙ sym (damages_front (word kit 0) 960 (drop 1 more) fewer)
      ∙ ap (any_damaged (word kit 0)) (sym (drop_take 1 961 more) ∙ ap (drop 1) front)
      ∙ K.intact

  -- So they are taken, as the kit that they are, where the lists are long enough.
  kit_taken_lem : (due room needed : ℕ) → due ≤ length more → needed ≤ room → kit_taken more due room needed ≡ accepted (kit_from more)
  unfolding kit_taken
  kit_taken_lem due room needed h k =
      sym (accepts (pass (le-ltb (length more) due h) (pass (le-ltb room needed k) (pass number_in (pass still_intact end)))) (kit_from more))

-- On the words of a state, whatever stands behind them, it is the engine's call on that state.
module _ (kit : List ℕ) (K : FitKit kit) (s : State (Kit Factor)) (over : s.over ≡ kit_from kit) (rest : List ℕ) where
  abbrev ws : List ℕ
  ws = kit ++ behind_kit s ++ rest

  ws_long : kit_state_length ≤ length ws
  ws_long = omega (arith, K.long, length-append kit (behind_kit s), length-append (kit ++ behind_kit s) rest)

  state_taken : (room needed : ℕ) → needed ≤ room → kit_taken ws kit_state_length room needed ≡ accepted (kit_from ws)
  state_taken room needed h =
      let same = append_assoc kit (behind_kit s) rest in
      subst (λ (vs : List ℕ). kit_state_length ≤ length vs → kit_taken vs kit_state_length room needed ≡ accepted (kit_from vs)) (sym same)
      (λ long. kit_taken_lem kit K (behind_kit s ++ rest) kit_state_length room needed long h) ws_long

  pub kit_call_to : (cap : ℕ) (list : List ℕ) (free : ℕ) (counts : List ℕ) → 3 ≤ length counts → kit_sweep_to ws cap list free counts ≡ kit_reply_words (sweep_call kits s (call_of cap list free))
  unfolding kit_sweep_to
  kit_call_to cap list free counts room =
      ap (λ (o : Outcome (Kit Factor)). kit_reply_to list o (λ k. sweep_call kits (kit_state_of k ws) (call_of cap list free))) (state_taken (length counts) 3 room)
      ∙ ap (λ (t : State (Kit Factor)). kit_reply_words (sweep_call kits t (call_of cap list free))) (kit_state_back kit K.long s over rest)

  -- The words behind the kit's are written over.
  behind_written : (t : State (Kit Factor)) → sets ws kit_length (behind_kit t) ≡ kit ++ behind_kit t ++ rest
  behind_written t =
      let same = append_assoc kit (behind_kit s) rest in
      let front = ap (take kit_length) same ∙ take_at kit (behind_kit s ++ rest) kit_length K.long in
      let back = drop_at (kit ++ behind_kit s) rest kit_state_length (omega (arith, K.long, length-append kit (behind_kit s))) in
      sets-eq (behind_kit t) ws kit_length ws_long ∙ ap₂ (λ (k r : List ℕ). k ++ behind_kit t ++ r) front back

  -- The words that a call leaves are those of the state handed back.
  pub kit_words_left : (c : Call) → let r = sweep_call kits s c in sets ws kit_length (kit_reply_words r).state ≡ kit ++ behind_kit r.state ++ rest
  unfolding sweep_call
  kit_words_left c = go (judged (conditions kits s (terms_of c))) (run_of kits s c)
    where
      go : (v : Judgement) (x : Run) → let r = replied kits s c v x in sets ws kit_length (kit_reply_words r).state ≡ kit ++ behind_kit r.state ++ rest
      go (number n) x = refl
      go none x = behind_written (replied kits s c none x).state

-- a call without room for its counts is none: it is answered with 255 and leaves all as it was
pub no_room_kit : (state : List ℕ) (cap : ℕ) (list : List ℕ) (free : ℕ) (counts : List ℕ) → length counts < 3 → kit_sweep_to state cap list free counts ≡ refused_with 255 list
unfolding kit_sweep_to kit_taken
no_room_kit state cap list free counts h = go (ltb (length state) kit_state_length) refl
  where
    told : Outcome (Kit Factor) → SweepWords
    told o = kit_reply_to list o (λ k. sweep_call kits (kit_state_of k state) (call_of cap list free))

    go : (b : Bool) → ltb (length state) kit_state_length ≡ b → told (kit_taken state kit_state_length (length counts) 3) ≡ refused_with 255 list
    go true e = ap told (sym (refuses (stop e) (kit_from state)))
    go false e = ap told (sym (refuses (pass e (stop (lt-ltb (length counts) 3 h))) (kit_from state)))

-- ---- calls one after another

-- what is answered on one list of words, each call given the words that the one before left
abbrev pub kit_answers_to : (state : List ℕ) → List Asked → List SweepWords
kit_answers_to state [] = []
kit_answers_to state (a ∷ asked) =
    let r = kit_sweep_to state a.cap a.list a.free a.counts in
    r ∷ kit_answers_to (sets state kit_length r.state) asked

-- the words that calls leave, one after another
abbrev pub kit_left_to : (state : List ℕ) → List Asked → List ℕ
kit_left_to state [] = state
kit_left_to state (a ∷ asked) = kit_left_to (sets state kit_length (kit_sweep_to state a.cap a.list a.free a.counts).state) asked

-- the replies of calls that were made, as words
abbrev pub kit_answers_in : List Made → List SweepWords
kit_answers_in [] = []
kit_answers_in (m ∷ made) = kit_reply_words (reply_in m) ∷ kit_answers_in made

-- ---- the calls that were made

-- a reply as code gives it
abbrev code_of : State (Kit Factor) → KitState
code_of s = record { kit = record { factors = s.over.factors; count = s.over.count }; place = place_in s.next; next = significand_in s.next; finished = s.finished }

abbrev code_answer : Outcome Result → Either KitCounts Refusal
code_answer (accepted r) = Ok (record { trials = r.trials; rounds = r.rounds; place = r.place })
code_answer (refused n) = Err (refusal_at n)

abbrev code_reply : Reply (Kit Factor) → KitReply
code_reply r = record { state = code_of r.state; answer = code_answer r.answer }

view_back : (s : State (Kit Factor)) → view_of (code_of s) ≡ s
view_back s = λ i. record { over = s.over; next = position_is s.next i; finished = s.finished }

code_says : (o : Outcome Result) (s : State (Kit Factor)) (list : List ℕ) → Named o → reply_of (record { state = code_of s; answer = code_answer o }) list ≡ record { answer = o; state = s; list = list }
code_says (accepted r) s list h = λ i. record { answer = accepted r; state = view_back s i; list = list }
code_says (refused n) s list h = λ i. record { answer = refused (h i); state = view_back s i; list = list }

-- the engine's calls on a state
abbrev made_from : State (Kit Factor) → List Asked → List Made
made_from s [] = []
made_from s (a ∷ asked) =
    let r = sweep_call kits s (call_in a) in
    record { asked = call_in a; reply = code_reply r; left = r.list } ∷ made_from r.state asked

says : (s : State (Kit Factor)) (a : Asked) → let r = sweep_call kits s (call_in a) in reply_of (code_reply r) r.list ≡ r
says s a = let r = sweep_call kits s (call_in a) in code_says r.answer r.state r.list (kit_named s (call_in a))

kept : (s : State (Kit Factor)) (asked : List Asked) → Kept s (made_from s asked)
kept s [] = tt
kept s (a ∷ asked) =
    let r = sweep_call kits s (call_in a) in
    (says s a, subst (λ (x : Reply (Kit Factor)). Kept x.state (made_from r.state asked)) (sym (says s a)) (kept r.state asked))

asked_are : (s : State (Kit Factor)) (asked : List Asked) → asked_in (made_from s asked) ≡ calls_in asked
asked_are s [] = refl
asked_are s (a ∷ asked) = ap (λ (l : List Call). call_in a ∷ l) (asked_are (sweep_call kits s (call_in a)).state asked)

module _ (kit : List ℕ) (K : FitKit kit) (rest : List ℕ) where
  -- every call hands back a state over the same kit
  still_over : (s : State (Kit Factor)) (c : Call) → s.over ≡ kit_from kit → (sweep_call kits s c).state.over ≡ kit_from kit
  still_over s c e = over_kept kits s c ∙ e

  -- On the words of a state, calls are answered with the replies of the engine's calls on that state,
  pub kit_answers_are : (s : State (Kit Factor)) → s.over ≡ kit_from kit → (asked : List Asked) → kit_answers_to (kit ++ behind_kit s ++ rest) asked ≡ kit_answers_in (made_from s asked)
  kit_answers_are s e [] = refl
  kit_answers_are s e (a ∷ asked) =
      let r = sweep_call kits s (call_in a) in
      ap (λ (x : SweepWords). x ∷ kit_answers_to (sets (kit ++ behind_kit s ++ rest) kit_length x.state) asked) (kit_call_to kit K s e rest a.cap a.list a.free a.counts a.room)
      ∙ ap₂ (λ (x : SweepWords) (l : List SweepWords). x ∷ l) (ap kit_reply_words (sym (says s a)))
      (ap (λ (ws : List ℕ). kit_answers_to ws asked) (kit_words_left kit K s e rest (call_in a)) ∙ kit_answers_are r.state (still_over s (call_in a) e) asked)

  -- and leave the words of the state that the last of them hands back.
  pub kit_left_are : (s : State (Kit Factor)) → s.over ≡ kit_from kit → (asked : List Asked) → kit_left_to (kit ++ behind_kit s ++ rest) asked ≡ kit ++ behind_kit (last_in s (made_from s asked)) ++ rest
  kit_left_are s e [] = refl
  kit_left_are s e (a ∷ asked) =
      let r = sweep_call kits s (call_in a) in
      ap (λ (x : SweepWords). kit_left_to (sets (kit ++ behind_kit s ++ rest) kit_length x.state) asked) (kit_call_to kit K s e rest a.cap a.list a.free a.counts a.room)
      ∙ ap (λ (ws : List ℕ). kit_left_to ws asked) (kit_words_left kit K s e rest (call_in a))
      ∙ kit_left_are r.state (still_over s (call_in a) e) asked
      ∙ ap (λ (x : Reply (Kit Factor)). kit ++ behind_kit (last_in x.state (made_from r.state asked)) ++ rest) (sym (says s a))

  -- The last of them, too, is over the same kit.
  last_over : (s : State (Kit Factor)) → s.over ≡ kit_from kit → (asked : List Asked) → (last_in s (made_from s asked)).over ≡ kit_from kit
  last_over s e [] = e
  last_over s e (a ∷ asked) =
      let r = sweep_call kits s (call_in a) in
      ap (λ (x : Reply (Kit Factor)). (last_in x.state (made_from r.state asked)).over) (says s a) ∙ last_over r.state (still_over s (call_in a) e) asked

-- ---- a new sweep

-- where it is answered with 0, the words were taken and the engine accepted the state
module _ (kit out : List ℕ) (zero : (new_kit_to kit out).number ≡ 0) where
  abbrev k : Kit Factor
  k = kit_from kit

  abbrev s : State (Kit Factor)
  s = fresh kits k

  abbrev head : List ℕ
  head = take kit_length kit

  -- what is answered, where the words are taken or not
  abbrev answered : Outcome (Kit Factor) → Answer
  answered o = new_kit_answer kit (and_then o (new_state kits))

  was_taken : kit_taken kit kit_length (length out) kit_state_length ≡ accepted k
  unfolding new_kit_to kit_taken
  was_taken = accepted_at (λ o. (answered o).number) (λ n. refl) (kit_unfit kit kit_length (length out) kit_state_length) (omega arith, (omega arith, (omega arith, (omega arith, tt)))) k zero

  was_begun : new_state kits k ≡ accepted s
  unfolding new_kit_to
  was_begun = accepted_at (λ o. (new_kit_answer kit o).number) (λ n. refl) (kits.new_faults k) (omega arith, (omega arith, (omega arith, tt))) s (ap (λ (o : Outcome (Kit Factor)). (answered o).number) (sym was_taken) ∙ zero)

  kit_long : kit_length ≤ length kit
  unfolding kit_taken
  kit_long = ltb-false (length kit) kit_length (only_accepted (kit_unfit kit kit_length (length out) kit_state_length) k k was_taken).0.0

  head_words : FitKit head
  unfolding kit_taken
  head_words =
      let none = (only_accepted (kit_unfit kit kit_length (length out) kit_state_length) k k was_taken).0 in
      let count = ap (λ (x : Kit Factor). x.count) (kit_front kit) in
      let most = ltb-false 96 (word kit 0) (or_false (eqb (word kit 0) 0) (ltb 96 (word kit 0)) none.1.1.0).1 in
      let fewer : factor_length * word kit 0 ≤ 960 = omega (arith, most) in
      record {
        long = length-take-le kit_length kit kit_long;
        number = ap (λ (n : ℕ). eqb n 0 || ltb 96 n) count ∙ none.1.1.0;
        intact =
            ap₂ any_damaged count (drop_take 1 961 kit)
            ∙ damages_front (word kit 0) 960 (drop 1 kit) fewer
            ∙ none.1.1.1.0;
      }

  head_kit : s.over ≡ kit_from head
  head_kit = sym (kit_front kit)

  new_words : leaves (new_kit_to kit out) out ≡ head ++ behind_kit s ++ drop kit_state_length out
  unfolding new_kit_to kit_taken
  new_words =
      let none = (only_accepted (kit_unfit kit kit_length (length out) kit_state_length) k k was_taken).0 in
      let room = ltb-false (length out) kit_state_length none.1.0 in
      let many : 0 + length (head ++ behind_kit s) ≡ kit_state_length = omega (arith, head_words.long, length-append head (behind_kit s)) in
      ap (λ (o : Outcome (Kit Factor)). leaves (answered o) out) was_taken
      ∙ ap (λ (o : Outcome (State (Kit Factor))). leaves (new_kit_answer kit o) out) was_begun
      ∙ sets-eq (head ++ behind_kit s) out 0 (omega (arith, many, room))
      ∙ ap (λ (n : ℕ). head ++ behind_kit s ++ drop n out) many

  -- the state as code gives it
  abbrev code_new : KitState
  code_new = record { kit = record { factors = k.factors; count = k.count }; place = 0; next = first_in factors (in_kit k); finished = false }

  demand_of : (asked : List Asked) → KitDemand3 s (made_from s asked)
  demand_of asked = kit_demand_3 code_new.kit (Ok code_new) (sym was_begun) code_new refl (made_from s asked) (kept s asked)

-- ---- whether the kit is clean

-- Where refusals have other numbers, what is told is known by its number.
same_told : (t u : Verdict) → told_number t ≡ told_number u → t ≡ u
same_told Clean Clean e = refl
same_told Clean NotClean e = absurd (omega arith)
same_told Clean Unfinished e = absurd (omega arith)
same_told NotClean Clean e = absurd (omega arith)
same_told NotClean NotClean e = refl
same_told NotClean Unfinished e = absurd (omega arith)
same_told Unfinished Clean e = absurd (omega arith)
same_told Unfinished NotClean e = absurd (omega arith)
same_told Unfinished Unfinished e = refl

told_most : (t : Verdict) → told_number t ≤ 3
told_most Clean = omega arith
told_most NotClean = omega arith
told_most Unfinished = omega arith

told_at : (l : List (ℕ × Bool)) → AllOf (λ t. 3 < t.0) l → (t u : Verdict) → (clean_answer (answer l t)).number ≡ told_number u → answer l t ≡ accepted u
unfolding answer judged
told_at [] p t u e = ap accepted (same_told t u e)
told_at (c ∷ l) p t u e = go c.1 e (told_at l p.1 t u)
  where
    go : (b : Bool) → (clean_answer (unless (cond b (number c.0) (judged l)) t)).number ≡ told_number u → ((clean_answer (answer l t)).number ≡ told_number u → answer l t ≡ accepted u)
        → unless (cond b (number c.0) (judged l)) t ≡ accepted u
    go true z ih = absurd (omega (arith, p.0, z, told_most u))
    go false z ih = ih z

told_is : (s : State (Kit Factor)) (n : ℕ) (u : Verdict) → ((clean_answer (verdict_of s n)).number ≡ told_number u) ↔ (verdict_of s n ≡ accepted u)
unfolding verdict_of
told_is s n u = (
  told_at (kits.faults s) (omega arith, (omega arith, (omega arith, (omega arith, tt)))) (told s.finished n) u,
  λ e. ap (λ (o : Outcome Verdict). (clean_answer o).number) e,
)

-- On the words of a state, whatever stands behind them, it is told what `kit` tells of that state.
pub clean_to_lem : (kit : List ℕ) → FitKit kit → (s : State (Kit Factor)) → s.over ≡ kit_from kit → (rest : List ℕ) (n : ℕ)
    → clean_to (kit ++ behind_kit s ++ rest) n ≡ (clean_answer (verdict_of s n)).number
unfolding clean_to
clean_to_lem kit K s e rest n =
    let ws = kit ++ behind_kit s ++ rest in
    ap (λ (o : Outcome (Kit Factor)). (clean_answer (and_then o (λ k. verdict_of (kit_state_of k ws) n))).number) (state_taken kit K s e rest 0 0 (omega arith))
    ∙ ap (λ (t : State (Kit Factor)). (clean_answer (verdict_of t n)).number) (kit_state_back kit K.long s e rest)

-- ---- what whole sweeps of kits owe

-- The calls asked on the words that a new kit sweep left: they are answered as these calls are, the words left in the end are those of the last one's state and are read as it, and of these calls `KitDemand3` holds.
-- With the number of their entries, 1 is told of those words at the finish exactly if the kit is clean, and 2 exactly if it is not; before the finish, 3.
pub record KitDemand3To (kit out : List ℕ) (asked : List Asked) : Type 0 where
  pub made : List Made
  pub calls : asked_in made ≡ calls_in asked
  pub answers : kit_answers_to (leaves (new_kit_to kit out) out) asked ≡ kit_answers_in made
  pub left : kit_left_to (leaves (new_kit_to kit out) out) asked ≡ take kit_length kit ++ behind_kit (last_in (fresh kits (kit_from kit)) made) ++ drop kit_state_length out
  pub back : let ws = kit_left_to (leaves (new_kit_to kit out) out) asked in kit_state_of (kit_from ws) ws ≡ last_in (fresh kits (kit_from kit)) made
  pub demand : KitDemand3 (fresh kits (kit_from kit)) made
  pub told_clean : (last_in (fresh kits (kit_from kit)) made).finished ≡ true
      → (clean_to (kit_left_to (leaves (new_kit_to kit out) out) asked) (entries_in made) ≡ 1) ↔ CleanKit factors (kit_from kit)
  pub told_not_clean : (last_in (fresh kits (kit_from kit)) made).finished ≡ true
      → (clean_to (kit_left_to (leaves (new_kit_to kit out) out) asked) (entries_in made) ≡ 2) ↔ ¬ CleanKit factors (kit_from kit)
  pub told_unfinished : (last_in (fresh kits (kit_from kit)) made).finished ≡ false → (n : ℕ) → clean_to (kit_left_to (leaves (new_kit_to kit out) out) asked) n ≡ 3

module _ (kit out : List ℕ) (zero : (new_kit_to kit out).number ≡ 0) (asked : List Asked) where
  abbrev begun : State (Kit Factor)
  begun = fresh kits (kit_from kit)

  abbrev last : State (Kit Factor)
  last = last_in begun (made_from begun asked)

  abbrev words : List ℕ
  words = kit_left_to (leaves (new_kit_to kit out) out) asked

  abbrev rest : List ℕ
  rest = drop kit_state_length out

  K : FitKit (take kit_length kit)
  K = head_words kit out zero

  over : begun.over ≡ kit_from (take kit_length kit)
  over = head_kit kit out zero

  words_are : words ≡ take kit_length kit ++ behind_kit last ++ rest
  words_are = ap (λ (ws : List ℕ). kit_left_to ws asked) (new_words kit out zero) ∙ kit_left_are (take kit_length kit) K rest begun over asked

  over_last : last.over ≡ kit_from (take kit_length kit)
  over_last = last_over (take kit_length kit) K rest begun over asked

  told_to : (n : ℕ) → clean_to words n ≡ (clean_answer (verdict_of last n)).number
  told_to n = ap (λ (ws : List ℕ). clean_to ws n) words_are ∙ clean_to_lem (take kit_length kit) K last over_last rest n

  says_to : (n : ℕ) (u : Verdict) → (clean_to words n ≡ told_number u) ↔ (verdict_of last n ≡ accepted u)
  says_to n u = let is = told_is last n u in ((λ e. is.0 (sym (told_to n) ∙ e)), (λ e. told_to n ∙ is.1 e))

  pub kit_demand_3_to : KitDemand3To kit out asked
  kit_demand_3_to =
      let made = made_from begun asked in
      let demand = demand_of kit out zero asked in
      record {
        made = made;
        calls = asked_are begun asked;
        answers = ap (λ (ws : List ℕ). kit_answers_to ws asked) (new_words kit out zero) ∙ kit_answers_are (take kit_length kit) K rest begun over asked;
        left = words_are;
        back = ap (λ (ws : List ℕ). kit_state_of (kit_from ws) ws) words_are ∙ kit_state_back (take kit_length kit) K.long last over_last rest;
        demand = demand;
        told_clean = λ h.
            let to = says_to (entries_in made) Clean in
            let is = demand.told_clean h in
            ((λ e. is.0 (to.0 e)), (λ c. to.1 (is.1 c)));
        told_not_clean = λ h.
            let to = says_to (entries_in made) NotClean in
            let is = demand.told_not_clean h in
            ((λ e. is.0 (to.0 e)), (λ c. to.1 (is.1 c)));
        told_unfinished = λ h n. (says_to n Unfinished).1 (demand.told_unfinished h n);
      }

-- ---- where calls begin

-- a factor that set-up accepted
pub record SetUp (f : Factor) : Type 0 where
  pub description : Description
  pub given : set_up description ≡ accepted f

-- the words of factors, one after another
abbrev pub factors_words : List Factor → List ℕ
factors_words [] = []
factors_words (f ∷ fs) = factor_words f ++ factors_words fs

-- a kit's words: the number of its factors, theirs, and whatever stands past them
abbrev pub kit_words : List Factor → (past : List ℕ) → List ℕ
kit_words fs past = length fs ∷ (factors_words fs ++ past)

words_writable : (f : Factor) → SetUp f → Writable f
words_writable f a = set_up_writable a.description f a.given

-- those past a factor's
past_factor : (f : Factor) (past : List ℕ) → drop factor_length (factor_words f ++ past) ≡ past
unfolding factor_words
past_factor f past = refl

module _ (past : List ℕ) where
  none_damaged : (fs : List Factor) → AllOf SetUp fs → any_damaged (length fs) (factors_words fs ++ past) ≡ false
  unfolding any_damaged
  none_damaged [] a = refl
  none_damaged (f ∷ fs) a =
      let rest = factors_words fs ++ past in
      ap (λ (ws : List ℕ). damaged ws || any_damaged (length fs) (drop factor_length ws)) (append_assoc (factor_words f) (factors_words fs) past)
      ∙ ap₂ (λ (b : Bool) (ws : List ℕ). b || any_damaged (length fs) ws) (not_damaged f (words_writable f a.0) rest) (past_factor f rest)
      ∙ none_damaged fs a.1

  factors_back : (n : ℕ) (fs : List Factor) → AllOf SetUp fs → length fs ≤ n → take (length fs) (factors_from n (factors_words fs ++ past)) ≡ fs
  unfolding factors_from
  factors_back n [] a h = refl
  factors_back zero (f ∷ fs) a h = absurd (omega arith)
  factors_back (suc n) (f ∷ fs) a h =
      let rest = factors_words fs ++ past in
      ap (λ (ws : List ℕ). factor_from ws ∷ take (length fs) (factors_from n (drop factor_length ws))) (append_assoc (factor_words f) (factors_words fs) past)
      ∙ ap₂ (λ (g : Factor) (ws : List ℕ). g ∷ take (length fs) (factors_from n ws)) (factor_back f (words_writable f a.0) rest) (past_factor f rest)
      ∙ ap (λ (l : List Factor). f ∷ l) (factors_back n fs a.1 (omega arith))

none_faulty : (fs : List Factor) → AllOf SetUp fs → list_any faulty fs ≡ false
none_faulty [] a = refl
none_faulty (f ∷ fs) a = ap₂ ◌||◌ (ap not (accepted_intact a.0.description f a.0.given)) (none_faulty fs a.1)

-- Up to 96 such factors are read back, in their order, as the factors of a kit.
pub kit_factors : (fs : List Factor) → AllOf SetUp fs → length fs ≤ 96 → (past : List ℕ) → in_kit (kit_from (kit_words fs past)) ≡ fs
kit_factors fs a few past = factors_back past 96 fs a few

-- 1 to 96 factors that set-up accepted, no two alike, written one after another, with any words past them up to 961 words or more
module _ (fs : List Factor) (a : AllOf SetUp fs) (some : 0 < length fs) (few : length fs ≤ 96) (apart : two_alike alike fs ≡ false) (past : List ℕ) (long : kit_length ≤ length (kit_words fs past)) where
  counted : eqb (length fs) 0 || ltb 96 (length fs) ≡ false
  counted = ap₂ ◌||◌ (ne_eqb (length fs) 0 (λ e. omega (arith, some, e))) (le-ltb 96 (length fs) few)

  words_taken : (room needed : ℕ) → needed ≤ room → kit_taken (kit_words fs past) kit_length room needed ≡ accepted (kit_from (kit_words fs past))
  unfolding kit_taken
  words_taken room needed h =
      let ws = kit_words fs past in
      sym (accepts (pass (le-ltb (length ws) kit_length long) (pass (le-ltb room needed h) (pass counted (pass (none_damaged past fs a) end)))) (kit_from ws))

  no_fault : NoneHolds (kits.new_faults (kit_from (kit_words fs past)))
  no_fault =
      let same = kit_factors fs a few past in (
        ap (λ (l : List Factor). eqb (length l) 0 || ltb 96 (length fs)) same ∙ counted,
        (ap (list_any faulty) same ∙ none_faulty fs a, (ap (two_alike alike) same ∙ apart, tt)),
      )

  -- They are formed,
  pub kit_forms_to : form_to (kit_words fs past) ≡ 0
  unfolding form_to
  kit_forms_to =
      let k = kit_from (kit_words fs past) in
      ap (λ (o : Outcome (Kit Factor)). (form_answer (and_then o (λ k. answer (kits.new_faults k) k))).number) (words_taken 0 0 (omega arith))
      ∙ ap (λ (o : Outcome (Kit Factor)). (form_answer o).number) (none_refuses (kits.new_faults k) k no_fault)

  -- and a new sweep over them is answered with 0.
  pub kit_begins_to : (out : List ℕ) → kit_state_length ≤ length out → (new_kit_to (kit_words fs past) out).number ≡ 0
  unfolding new_kit_to
  kit_begins_to out room =
      let k = kit_from (kit_words fs past) in
      ap (λ (o : Outcome (Kit Factor)). (new_kit_answer (kit_words fs past) (and_then o (new_state kits))).number) (words_taken (length out) kit_state_length room)
      ∙ ap (λ (o : Outcome (State (Kit Factor))). (new_kit_answer (kit_words fs past) o).number) (none_refuses (kits.new_faults k) (fresh kits k) no_fault)
