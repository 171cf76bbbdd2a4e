-- Kits and their states as lists of words, for callers in other languages, and what the exported functions of kits return and leave. Definitions only. Assumes nothing.
use Rattle.std.specs.Prelude.{Bool, false, ◌||◌, List, [], ◌∷◌, ◌++◌, ℕ, zero, suc, eqb, ltb, length, take, drop}
use Rattle.marks.specs.Answers.{Outcome, refused, accepted, answer, and_then}
use Rattle.factor.specs.declared.Factor.{Factor}
use Rattle.calls.specs.State.{State}
use Rattle.calls.specs.Call.{new_state, Result, Reply, sweep_call}
use Rattle.calls.specs.Kit.{Kit, position, place_in, significand_in}
use Rattle.sweep.specs.Answers.{call_of}
use Rattle.kit.specs.Engine.{kits}
use Rattle.kit.specs.declared.Verdict.{Verdict}
use Rattle.kit.specs.declared.Verdict.TheVariants.{Clean, NotClean, Unfinished}
use Rattle.kit.specs.Answers.{verdict_of}
use Rattle.exports.specs.Words.{word, flag_word, flag_from, factor_length, factor_from, damaged}
use Rattle.exports.specs.Answers.{too_short, Answer, to_words, plain_answer, SweepWords, refused_with}

-- ---- a kit as 961 words: the number, then the 10 words of each of 96 places
abbrev pub kit_length : ℕ
kit_length = 961

-- the factors of so many places, one after another
unfoldable pub factors_from : ℕ → List ℕ → List Factor
unfolding factor_from
factors_from zero ws = []
factors_from (suc n) ws = factor_from ws ∷ factors_from n (drop factor_length ws)

-- whether the words of one of so many are damaged
unfoldable pub any_damaged : ℕ → List ℕ → Bool
unfolding damaged
any_damaged zero ws = false
any_damaged (suc n) ws = damaged ws || any_damaged n (drop factor_length ws)

abbrev pub kit_from : List ℕ → Kit Factor
kit_from ws = record { factors = factors_from 96 (drop 1 ws); count = word ws 0 }

-- ---- a kit sweep's state as 964 words: the kit's, then the factor's place, the next significand and the finished mark
abbrev pub kit_state_length : ℕ
kit_state_length = 964

abbrev pub kit_state_of : Kit Factor → List ℕ → State (Kit Factor)
kit_state_of k ws = record { over = k; next = position (word ws 961) (word ws 962); finished = flag_from (word ws 963) }

-- the words behind the kit's
abbrev pub behind_kit : State (Kit Factor) → List ℕ
behind_kit s = place_in s.next ∷ significand_in s.next ∷ flag_word s.finished ∷ []

-- ---- what is taken
-- the conditions under which the words of a kit or of its state are not taken: they are too few, or the list for the answer is too short; 42 by the number; 31 where the words of a factor that is counted are damaged
abbrev pub kit_unfit : (words : List ℕ) (due room needed : ℕ) → List (ℕ × Bool)
kit_unfit words due room needed =
    too_short (length words) due
    ∷ too_short room needed
    ∷ (42, eqb (word words 0) 0 || ltb 96 (word words 0))
    ∷ (31, any_damaged (word words 0) (drop 1 words))
    ∷ []

-- the kit in such words
unfoldable pub kit_taken : (words : List ℕ) (due room needed : ℕ) → Outcome (Kit Factor)
unfolding factors_from any_damaged
kit_taken words due room needed = answer (kit_unfit words due room needed) (kit_from words)

-- ---- a kit is formed: 0, or the refusal
abbrev pub form_answer : Outcome (Kit Factor) → Answer
form_answer o = plain_answer (λ k. []) o

unfoldable pub form_to : (kit : List ℕ) → ℕ
unfolding kit_taken
form_to kit = (form_answer (and_then (kit_taken kit kit_length 0 0) (λ k. answer (kits.new_faults k) k))).number

-- ---- a new kit sweep: 0 and the state, its kit in the words that were given, or the refusal
abbrev pub new_kit_answer : (kit : List ℕ) → Outcome (State (Kit Factor)) → Answer
new_kit_answer kit o = plain_answer (λ s. take kit_length kit ++ behind_kit s) o

unfoldable pub new_kit_to : (kit out : List ℕ) → Answer
unfolding kit_taken
new_kit_to kit out = new_kit_answer kit (and_then (kit_taken kit kit_length (length out) kit_state_length) (new_state kits))

-- ---- a kit call: 0, the words behind the kit's, the list as it then is, and trials, rounds and place; or the refusal, and nothing written
abbrev pub kit_sweep_answer : Outcome Result → State (Kit Factor) → List ℕ → SweepWords
kit_sweep_answer (accepted r) s list = record { number = 0; state = behind_kit s; list = list; counts = r.trials ∷ r.rounds ∷ r.place ∷ [] }
kit_sweep_answer (refused k) s list = refused_with k list

abbrev pub kit_reply_words : Reply (Kit Factor) → SweepWords
kit_reply_words r = kit_sweep_answer r.answer r.state r.list

abbrev pub kit_reply_to : (list : List ℕ) → Outcome (Kit Factor) → (Kit Factor → Reply (Kit Factor)) → SweepWords
kit_reply_to list (accepted k) reply = kit_reply_words (reply k)
kit_reply_to list (refused n) reply = refused_with n list

unfoldable pub kit_sweep_to : (state : List ℕ) (cap : ℕ) (list : List ℕ) (free : ℕ) (counts : List ℕ) → SweepWords
unfolding kit_taken
kit_sweep_to state cap list free counts = kit_reply_to list (kit_taken state kit_state_length (length counts) 3) (λ k. sweep_call kits (kit_state_of k state) (call_of cap list free))

-- ---- whether a kit is clean: 1 clean, 2 not clean, 3 not finished, or the refusal
abbrev pub told_number : Verdict → ℕ
told_number Clean = 1
told_number NotClean = 2
told_number Unfinished = 3

abbrev pub clean_answer : Outcome Verdict → Answer
clean_answer o = to_words told_number (λ t. []) o

unfoldable pub clean_to : (state : List ℕ) (entries : ℕ) → ℕ
unfolding kit_taken verdict_of
clean_to state entries = (clean_answer (and_then (kit_taken state kit_state_length 0 0) (λ k. verdict_of (kit_state_of k state) entries))).number
