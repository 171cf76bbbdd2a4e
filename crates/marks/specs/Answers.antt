-- What an answer says, accepted or the refusal's number: the first of a list of conditions that holds, or a value. Definitions only. Assumes nothing.
use Rattle.std.specs.Prelude.{◌≡◌, Bool, false, cond, List, [], ◌∷◌, ℕ, Result, Ok, Err}
use Rattle.marks.specs.declared.Refusal.{Refusal}
pub use Rattle.marks.specs.declared.Marked.{Marked}

-- ---- refusals
-- the number of a refusal, or none
pub data Judgement : Type 0 where
  number : ℕ → Judgement
  none : Judgement

-- the first condition that holds, of a list of conditions with their numbers
unfoldable pub judged : List (ℕ × Bool) → Judgement
judged [] = none
judged (t ∷ l) = cond t.1 (number t.0) (judged l)

-- the number of a refusal, as code has it
abbrev pub number_of : Refusal → ℕ
number_of Refusal.PrecisionOutOfRange = 11
number_of Refusal.EndOutOfRange = 12
number_of Refusal.EndsOutOfOrder = 13
number_of Refusal.ScaleOutOfRange = 14
number_of Refusal.HighPartDiffers = 15
number_of Refusal.LowPartDiffers = 16
number_of Refusal.SignificandOutOfRange = 17
number_of Refusal.NoCap = 18
number_of Refusal.NoFreePlace = 19
number_of Refusal.OtherPrecision = 20
number_of Refusal.NotFinite = 21
number_of Refusal.Subnormal = 22
number_of Refusal.ExponentOutOfRange = 23
number_of Refusal.NotAFrame = 24
number_of Refusal.FactorDamaged = 31
number_of Refusal.StateOutOfRange = 32
number_of Refusal.SweepFinished = 33
number_of Refusal.RangeTooLong = 41
number_of Refusal.KitOutOfRange = 42
number_of Refusal.FactorsAlike = 43
number_of Refusal.TooFewPlaces = 44

-- what a result says of the refusals: its own, or none where there is a value
abbrev pub refusal_of : {A : Type 0} → Result A Refusal → Judgement
refusal_of (Ok a) = none
refusal_of (Err r) = number (number_of r)

-- v is what the first condition that holds says
pub record First (l : List (ℕ × Bool)) (v : Judgement) : Type 0 where
  pub is : judged l ≡ v

-- none of them holds
abbrev pub NoneHolds : List (ℕ × Bool) → Type 0
NoneHolds [] = Unit {0}
NoneHolds (t ∷ l) = (t.1 ≡ false) × NoneHolds l

-- ---- answers
-- a refusal's number, or a value
pub data Outcome (A : Type 0) : Type 0 where
  refused : ℕ → Outcome A
  accepted : A → Outcome A

-- what a result says: its value, or its refusal's number
abbrev pub said : {A : Type 0} → Result A Refusal → Outcome A
said (Ok a) = accepted a
said (Err r) = refused (number_of r)

-- what a refusal leaves of a value
abbrev pub unless : {A : Type 0} → Judgement → A → Outcome A
unless (number n) a = refused n
unless none a = accepted a

-- an answer: the value, unless a condition holds
unfoldable pub answer : {A : Type 0} → List (ℕ × Bool) → A → Outcome A
unfolding judged
answer l a = unless (judged l) a

-- one answer after another: a refusal stays
abbrev pub and_then : {A B : Type 0} → Outcome A → (A → Outcome B) → Outcome B
and_then (refused n) go = refused n
and_then (accepted a) go = go a

-- an answer with its value changed: a refusal stays
abbrev pub each : {A B : Type 0} → (A → B) → Outcome A → Outcome B
each g o = and_then o (λ a. accepted (g a))
