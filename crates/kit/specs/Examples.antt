-- Kits worked out by computation: three example factors, P1 to P3 at n = 4, as a kit, with the refusals of a kit and of a call. Assumes nothing.
use Rattle.std.specs.Prelude.{◌≡◌, refl, Bool, true, false, List, [], ◌∷◌, ℕ}
use Rattle.std.proofs.Math.Decide.{dec_le, dec_lt, ℕ_discrete}
use Rattle.std.specs.Float.Ieee
use Rattle.marks.specs.Answers.{Outcome, refused, accepted, answer}
use Rattle.rounding.specs.Grid.{nearest}
use Rattle.rounding.specs.Round.{rounded}
use Rattle.factor.specs.declared.Factor.{Factor}
use Rattle.factor.specs.Precision.{scale_of}
use Rattle.factor.specs.Context.{tie_rule}
use Rattle.factor.specs.Parts.{parts_at}
use Rattle.factor.specs.SetUp.{set_up, applied_of, intact}
use Rattle.product.specs.Product.{product}
use Rattle.product.specs.Marks.{mark}
use Rattle.search.specs.Search.{ceil_div, neg_mod, test, place_after, after_round, search_within, search_window, shift, search_from}
use Rattle.suspects.specs.Next.{next_in, first_high}
use Rattle.calls.specs.State.{State}
use Rattle.calls.specs.Call.{new_state, ReplyOf, seek, run, sweep_call}
use Rattle.calls.specs.Kit.{Kit, two_alike, position, has_in, mark_in, sections_from}
use Rattle.sweep.specs.Answers.{call_of}
use Rattle.sweep.proofs.Examples.{P1, P2, P3, damaged}
use Rattle.kit.specs.Engine.{alike, kits}
use Rattle.kit.specs.Answers.{Verdict, verdict_of}

-- the first of P1, P2, P3, P1 once more and a damaged one: three are a kit, and what stands past them is not looked at
abbrev first_of : (count : ℕ) → Kit Factor
first_of count = record { factors = P1 ∷ P2 ∷ P3 ∷ P1 ∷ damaged ∷ []; count = count }

-- a state of such a kit
abbrev state : (count place next : ℕ) → (finished : Bool) → State (Kit Factor)
state count place next finished = record { over = first_of count; next = position place next; finished = finished }

begun : (count : ℕ) → Outcome (State (Kit Factor))
unfolding answer intact set_up applied_of scale_of tie_rule parts_at rounded nearest Ieee.round Ieee.size Ieee.span Ieee.climb Ieee.to_bits two_alike alike
begun count = new_state kits (first_of count)

called : State (Kit Factor) → (cap : ℕ) → List ℕ → (free : ℕ) → ReplyOf (State (Kit Factor))
unfolding sweep_call run seek first_high next_in ceil_div neg_mod test place_after after_round search_within search_window shift search_from dec_le dec_lt ℕ_discrete intact answer set_up applied_of scale_of tie_rule parts_at rounded nearest product mark Ieee.round Ieee.size Ieee.span Ieee.climb Ieee.to_bits two_alike alike has_in mark_in sections_from
called s cap list free = sweep_call kits s (call_of cap list free)

-- what an accepted call answers
abbrev answered : (trials rounds place : ℕ) → State (Kit Factor) → List ℕ → ReplyOf (State (Kit Factor))
answered t r p s list = record { answer = accepted (record { trials = t; rounds = r; place = p }); state = s; list = list }

-- what a refused one answers
abbrev declined : (number : ℕ) → State (Kit Factor) → List ℕ → ReplyOf (State (Kit Factor))
declined n s list = record { answer = refused n; state = s; list = list }

-- ---- the kit of three

new : begun 3 ≡ accepted (state 3 0 8 false)
unfolding begun P1 P2 P3
new = refl

-- With eight places, one call finishes: 8 of P2 is wrong, 9 of P3 open, and P1's two suspects are right.
all : called (state 3 0 8 false) 100 (7 ∷ 7 ∷ 7 ∷ 7 ∷ 7 ∷ 7 ∷ 7 ∷ 7 ∷ []) 0 ≡ answered 4 3 4 (state 3 2 15 true) (1 ∷ 16 ∷ 2 ∷ 19 ∷ 7 ∷ 7 ∷ 7 ∷ 7 ∷ [])
unfolding called P1 P2 P3
all = refl

-- With three, there is room for one entry: the call stops before 9 of P3, and the third place is as it was. Another goes on from there.
part : called (state 3 0 8 false) 100 (7 ∷ 7 ∷ 7 ∷ []) 0 ≡ answered 3 1 2 (state 3 2 9 false) (1 ∷ 16 ∷ 7 ∷ [])
unfolding called P1 P2 P3
part = refl

rest : called (state 3 2 9 false) 100 (7 ∷ 7 ∷ 7 ∷ []) 1 ≡ answered 1 2 3 (state 3 2 15 true) (7 ∷ 2 ∷ 19 ∷ [])
unfolding called P1 P2 P3
rest = refl

-- A cap of 1 stops the call in P1; where nothing is listed, nothing is written.
capped : called (state 3 0 8 false) 1 (7 ∷ 7 ∷ []) 0 ≡ answered 1 0 0 (state 3 0 14 false) (7 ∷ 7 ∷ [])
unfolding called P1 P2 P3
capped = refl

-- P1 by itself lists nothing.
alone : called (state 1 0 8 false) 100 (7 ∷ 7 ∷ []) 0 ≡ answered 2 0 0 (state 1 0 15 true) (7 ∷ 7 ∷ [])
unfolding called P1 P2 P3
alone = refl

-- ---- refusals of a kit: its number first, then 31, then 43

new_42_empty : begun 0 ≡ refused 42
unfolding begun P1 P2 P3
new_42_empty = refl

new_42_above : begun 97 ≡ refused 42
unfolding begun P1 P2 P3
new_42_above = refl

-- P1 stands there twice too
new_31 : begun 5 ≡ refused 31
unfolding begun P1 P2 P3
new_31 = refl

new_43 : begun 4 ≡ refused 43
unfolding begun P1 P2 P3
new_43 = refl

-- ---- and of a call: it repeats these, then 32, 33, 18 and 44

call_42_empty : called (state 0 0 8 true) 0 [] 0 ≡ declined 42 (state 0 0 8 true) []
unfolding called P1 P2 P3
call_42_empty = refl

call_42_above : called (state 97 9 8 true) 0 [] 0 ≡ declined 42 (state 97 9 8 true) []
unfolding called P1 P2 P3
call_42_above = refl

call_31 : called (state 5 9 8 true) 0 [] 0 ≡ declined 31 (state 5 9 8 true) []
unfolding called P1 P2 P3
call_31 = refl

call_43 : called (state 4 9 8 true) 0 [] 0 ≡ declined 43 (state 4 9 8 true) []
unfolding called P1 P2 P3
call_43 = refl

-- a place with no factor
call_32_place : called (state 3 3 8 true) 0 [] 0 ≡ declined 32 (state 3 3 8 true) []
unfolding called P1 P2 P3
call_32_place = refl

-- a next significand outside that factor's
call_32_next : called (state 3 2 16 true) 0 [] 0 ≡ declined 32 (state 3 2 16 true) []
unfolding called P1 P2 P3
call_32_next = refl

call_33 : called (state 3 2 15 true) 0 [] 0 ≡ declined 33 (state 3 2 15 true) []
unfolding called P1 P2 P3
call_33 = refl

call_18 : called (state 3 0 8 false) 0 [] 0 ≡ declined 18 (state 3 0 8 false) []
unfolding called P1 P2 P3
call_18 = refl

-- one free place
call_44 : called (state 3 0 8 false) 100 (7 ∷ 7 ∷ 7 ∷ []) 2 ≡ declined 44 (state 3 0 8 false) (7 ∷ 7 ∷ 7 ∷ [])
unfolding called P1 P2 P3
call_44 = refl

-- a first free place past the end
call_44_past : called (state 3 0 8 false) 100 (7 ∷ 7 ∷ 7 ∷ []) 4 ≡ declined 44 (state 3 0 8 false) (7 ∷ 7 ∷ 7 ∷ [])
unfolding called P1 P2 P3
call_44_past = refl

-- ---- whether a kit is clean

-- what is told by a state and a number of entries
verdict : State (Kit Factor) → (entries : ℕ) → Outcome Verdict
unfolding verdict_of answer intact set_up applied_of scale_of tie_rule parts_at rounded nearest Ieee.round Ieee.size Ieee.span Ieee.climb Ieee.to_bits two_alike alike has_in
verdict s entries = verdict_of s entries

is_clean : verdict (state 1 0 15 true) 0 ≡ accepted Verdict.Clean
unfolding verdict P1 P2 P3
is_clean = refl

is_not_clean : verdict (state 3 2 15 true) 2 ≡ accepted Verdict.NotClean
unfolding verdict P1 P2 P3
is_not_clean = refl

is_unfinished : verdict (state 3 2 9 false) 1 ≡ accepted Verdict.Unfinished
unfolding verdict P1 P2 P3
is_unfinished = refl

verdict_32 : verdict (state 3 3 8 true) 0 ≡ refused 32
unfolding verdict P1 P2 P3
verdict_32 = refl
