-- What an exported function returns and what it leaves in the caller's lists, by the engine's own answers. Definitions only. Assumes nothing.
use Rattle.std.specs.Prelude.{Bool, Float, List, [], ◌∷◌, ℕ, ltb, length}
use Rattle.std.proofs.lemmas.List.Edits.{sets}
use Rattle.std.specs.Float.{binary32}
use Rattle.std.specs.Float.Ieee.{to_bits, of_bits}
use Rattle.marks.specs.declared.Mark.{Mark}
use Rattle.marks.specs.declared.Marked.{Marked}
use Rattle.marks.specs.Answers.{Outcome, refused, accepted, answer, and_then}
use Rattle.rounding.specs.declared.Direction.{Direction}
use Rattle.factor.specs.declared.Description.{Description}
use Rattle.factor.specs.declared.Factor.{Factor}
use Rattle.factor.specs.SetUp.{set_up}
use Rattle.product.specs.declared.Device.{Device}
use Rattle.rounding.specs.declared.Directed.{Directed}
use Rattle.rounding.specs.declared.Signed.{Signed}
use Rattle.product.specs.declared.Product.{Product}
use Rattle.product.specs.Answer.{multiplied}
use Rattle.quotient.specs.declared.Quotient.{Quotient}
use Rattle.quotient.specs.Answer.{divided}
use Rattle.reading.specs.Reading.{applied}
use Rattle.reading.specs.Divided.{divided_reading}
use Rattle.words.specs.Words.{unsigned}
use Rattle.calls.specs.State.{Range, State}
use Rattle.calls.specs.Call.{new_state, Result, Reply, sweep_call}
use Rattle.sweep.specs.Engine.{range, engine}
use Rattle.sweep.specs.Answers.{call_of}
use Rattle.tally.specs.declared.Counts.{Counts}
use Rattle.tally.specs.Tally.{tallied}
use Rattle.exports.specs.Words.{flag_word, factor_length, factor_from, factor_words, damaged, state_length, state_of, state_words}

-- ---- what is taken from a caller's lists
-- a list is too short: it has fewer words than are due
abbrev pub too_short : (length due : ℕ) → ℕ × Bool
too_short length due = (255, ltb length due)

-- the conditions under which the words of a factor or of a state are not taken: they are too few, the list for the answer is too short, or they are damaged
abbrev pub unfit : (words : List ℕ) (due room needed : ℕ) → List (ℕ × Bool)
unfit words due room needed = too_short (length words) due ∷ too_short room needed ∷ (31, damaged words) ∷ []

-- the factor in such words
unfoldable pub taken : (words : List ℕ) (due room needed : ℕ) → Outcome Factor
taken words due room needed = answer (unfit words due room needed) (factor_from words)

-- ---- what is answered
-- the number returned, and the words written from the list's first place on
pub record Answer : Type 0 where
  pub number : ℕ
  pub words : List ℕ

-- what is left in a list
abbrev pub leaves : Answer → List ℕ → List ℕ
leaves a to = sets to 0 a.words

-- the number and the words of a value, or the refusal
abbrev pub to_words : {A : Type 0} → (A → ℕ) → (A → List ℕ) → Outcome A → Answer
to_words number words (accepted a) = record { number = number a; words = words a }
to_words number words (refused k) = record { number = k; words = [] }

-- a mark's number
abbrev pub mark_number : Mark → ℕ
mark_number Mark.Right = 1
mark_number Mark.Open = 2
mark_number Mark.Wrong = 3

-- a direction's number
abbrev pub direction_number : Direction → ℕ
direction_number Direction.Below = 1
direction_number Direction.Equal = 2
direction_number Direction.Above = 3

-- the number of the mark and the words of the value, or the refusal
abbrev pub marked_answer : {A : Type 0} → (A → List ℕ) → Outcome (Marked A) → Answer
marked_answer words o = to_words (λ a. mark_number a.mark) (λ a. words a.value) o

-- 0 and the words of a value that has no mark, or the refusal
abbrev pub plain_answer : {A : Type 0} → (A → List ℕ) → Outcome A → Answer
plain_answer words o = to_words (λ a. 0) words o

-- ---- set-up: 0 and the factor, or the refusal
abbrev pub set_up_answer : Outcome Factor → Answer
set_up_answer o = plain_answer factor_words o

unfoldable pub set_up_to : Description → (out : List ℕ) → Answer
unfolding set_up factor_words
set_up_to d out = set_up_answer (and_then (answer (too_short (length out) factor_length ∷ []) d) set_up)

-- ---- a product: 1 right, 2 open, 3 wrong, with significand, binade, direction and sign, or the refusal
abbrev pub product_words : Signed Product → List ℕ
product_words v = v.value.significand ∷ v.value.binade ∷ direction_number v.direction ∷ flag_word v.minus ∷ []

-- on a device
unfoldable pub multiply_to : Device → (factor : List ℕ) (X : ℕ) (out : List ℕ) → Answer
unfolding multiplied taken
multiply_to d factor X out = marked_answer product_words (and_then (taken factor factor_length (length out) 4) (λ f. multiplied d f X))

-- ---- a reading: 1 right, 2 open, 3 wrong, with the product's bits and direction, or the refusal
abbrev pub reading_words : Directed Float → List ℕ
reading_words y = to_bits binary32 y.value ∷ direction_number y.direction ∷ []

abbrev pub reading_answer : Outcome (Marked (Directed Float)) → Answer
reading_answer o = marked_answer reading_words o

-- on a device
unfoldable pub read_to : Device → (factor : List ℕ) (reading : ℕ) (out : List ℕ) → Answer
unfolding applied taken to_bits of_bits
read_to d factor reading out = reading_answer (and_then (taken factor factor_length (length out) 2) (λ f. applied d f (of_bits binary32 reading)))

-- ---- a tally: 0 with how many significands are right, wrong and open, or the refusal
abbrev pub tally_words : Counts → List ℕ
tally_words t = t.rights ∷ t.wrongs ∷ t.opens ∷ []

unfoldable pub tally_to : (factor : List ℕ) (first last : ℕ) (out : List ℕ) → Answer
unfolding tallied taken
tally_to factor first last out = plain_answer tally_words (and_then (taken factor factor_length (length out) 3) (λ f. tallied f first last))

-- ---- a quotient: 0 with significand, binade, which is a word in two's complement, direction and sign, or the refusal
abbrev pub quotient_words : Signed Quotient → List ℕ
quotient_words v = v.value.significand ∷ unsigned 64 v.value.binade ∷ direction_number v.direction ∷ flag_word v.minus ∷ []

unfoldable pub divide_to : (factor : List ℕ) (X : ℕ) (out : List ℕ) → Answer
unfolding divided taken
divide_to factor X out = plain_answer quotient_words (and_then (taken factor factor_length (length out) 4) (λ f. divided f X))

-- ---- a reading's quotient: 0 with its bits and direction, or the refusal
unfoldable pub divide_reading_to : (factor : List ℕ) (reading : ℕ) (out : List ℕ) → Answer
unfolding divided_reading taken to_bits of_bits
divide_reading_to factor reading out = plain_answer reading_words (and_then (taken factor factor_length (length out) 2) (λ f. divided_reading f (of_bits binary32 reading)))

-- ---- a new sweep: 0 and the state, or the refusal
abbrev pub new_sweep_answer : Outcome (State (Range Factor)) → Answer
new_sweep_answer o = plain_answer state_words o

unfoldable pub new_sweep_to : (factor : List ℕ) (first last : ℕ) (out : List ℕ) → Answer
unfolding taken state_words
new_sweep_to factor first last out = new_sweep_answer (and_then (taken factor factor_length (length out) state_length) (λ f. new_state engine (range f first last)))

-- ---- a sweep call: 0, the state handed back, the list as it then is, and trials, rounds and place; or the refusal, and nothing written
pub record SweepWords : Type 0 where
  pub number : ℕ
  pub state : List ℕ
  pub list : List ℕ
  pub counts : List ℕ

-- a refusal leaves all as it was
abbrev pub refused_with : ℕ → (list : List ℕ) → SweepWords
refused_with k list = record { number = k; state = []; list = list; counts = [] }

abbrev pub sweep_answer : Outcome Result → State (Range Factor) → List ℕ → SweepWords
sweep_answer (accepted r) s list = record { number = 0; state = state_words s; list = list; counts = r.trials ∷ r.rounds ∷ r.place ∷ [] }
sweep_answer (refused k) s list = refused_with k list

abbrev pub reply_words : Reply (Range Factor) → SweepWords
reply_words r = sweep_answer r.answer r.state r.list

-- the reply to a call, where its factor is taken
abbrev pub reply_to : (list : List ℕ) → Outcome Factor → (Factor → Reply (Range Factor)) → SweepWords
reply_to list (accepted f) reply = reply_words (reply f)
reply_to list (refused k) reply = refused_with k list

unfoldable pub sweep_to : (state : List ℕ) (cap : ℕ) (list : List ℕ) (free : ℕ) (counts : List ℕ) → SweepWords
unfolding taken state_words
sweep_to state cap list free counts = reply_to list (taken state state_length (length counts) 3) (λ f. sweep_call engine (state_of f state) (call_of cap list free))
