-- Sweeps worked out by computation, of three factors at n = 4, over all significands, with the refusals of a call. Assumes nothing.
use Rattle.std.specs.Prelude.{◌≡◌, refl, Bool, true, false, List, [], ◌∷◌, ℕ, ◌*◌, ◌^◌, pos}
use Rattle.std.proofs.Math.Decide.{dec_le, dec_lt, ℕ_discrete}
use Rattle.std.specs.Float.Ieee
use Rattle.marks.specs.Answers.{Outcome, refused, accepted, answer}
use Rattle.rounding.specs.Grid.{nearest}
use Rattle.rounding.specs.Round.{rounded}
use Rattle.factor.specs.declared.Factor.{Factor}
use Rattle.factor.specs.Precision.{scale_of}
use Rattle.factor.specs.Context.{tie_rule}
use Rattle.factor.specs.Parts.{parts_at}
use Rattle.factor.specs.SetUp.{factor_of, set_up, applied_of, intact}
use Rattle.product.specs.Product.{product}
use Rattle.product.specs.Marks.{mark}
use Rattle.search.specs.Search.{ceil_div, neg_mod, test, place_after, after_round, search_within, search_window, shift, search_from}
use Rattle.suspects.specs.Next.{next_in, first_high}
use Rattle.calls.specs.State.{Range, State}
use Rattle.calls.specs.Call.{new_state, Reply, seek, run, sweep_call}
use Rattle.sweep.specs.Engine.{range, engine}
use Rattle.sweep.specs.Answers.{call_of}

-- the factors of P1 to P3
unfoldable pub P1 : Factor
unfolding Ieee.round
P1 = factor_of (record { minus = false; precision = 4; scale = pos 0; lower = 3 * 2 ^ 61; upper = 3 * 2 ^ 61 })

unfoldable pub P2 : Factor
unfolding Ieee.round
P2 = factor_of (record { minus = false; precision = 4; scale = pos 0; lower = 0x4BFFFC0000000000; upper = 0x4BFFFC0000000000 })

unfoldable pub P3 : Factor
unfolding Ieee.round
P3 = factor_of (record { minus = false; precision = 4; scale = pos 0; lower = 0x51C71C71C71C71C7; upper = 0x51C71C71C71C71C8 })

-- a state over all significands
abbrev state : Factor → (next : ℕ) → (finished : Bool) → State (Range Factor)
state f next finished = record { over = range f 8 15; next = next; finished = finished }

called : State (Range Factor) → (cap : ℕ) → List ℕ → (free : ℕ) → Reply (Range Factor)
unfolding sweep_call run seek first_high next_in ceil_div neg_mod test place_after after_round search_within search_window shift search_from dec_le dec_lt ℕ_discrete intact answer set_up applied_of scale_of tie_rule parts_at rounded nearest product mark Ieee.round Ieee.size Ieee.span Ieee.climb Ieee.to_bits
called s cap list free = sweep_call engine s (call_of cap list free)

begun : Factor → (first last : ℕ) → Outcome (State (Range Factor))
unfolding answer intact set_up applied_of scale_of tie_rule parts_at rounded nearest Ieee.round Ieee.size Ieee.span Ieee.climb Ieee.to_bits
begun f first last = new_state engine (range f first last)

-- what an accepted call answers
abbrev answered : (trials rounds place : ℕ) → State (Range Factor) → List ℕ → Reply (Range Factor)
answered t r p s list = record { answer = accepted (record { trials = t; rounds = r; place = p }); state = s; list = list }

-- what a refused one answers
abbrev declined : (number : ℕ) → State (Range Factor) → List ℕ → Reply (Range Factor)
declined n s list = record { answer = refused n; state = s; list = list }

-- P1: 9 and 14 are tried, and both are right. With a cap of 1 the first call stops at 14, and the second finishes.
P1_begun : begun P1 8 15 ≡ accepted (state P1 8 false)
unfolding begun P1
P1_begun = refl

P1_whole : called (state P1 8 false) 9 (7 ∷ []) 0 ≡ answered 2 0 0 (state P1 15 true) (7 ∷ [])
unfolding called P1
P1_whole = refl

P1_first : called (state P1 8 false) 1 (7 ∷ []) 0 ≡ answered 1 0 0 (state P1 14 false) (7 ∷ [])
unfolding called P1
P1_first = refl

P1_second : called (state P1 14 false) 1 (7 ∷ []) 0 ≡ answered 1 0 0 (state P1 15 true) (7 ∷ [])
unfolding called P1
P1_second = refl

-- P2: 8 is wrong; the search past it takes a round
P2_whole : called (state P2 8 false) 9 (7 ∷ 7 ∷ 7 ∷ []) 1 ≡ answered 1 1 2 (state P2 15 true) (7 ∷ 16 ∷ 7 ∷ [])
unfolding called P2
P2_whole = refl

-- P3: 9 is open; the searches past it take two rounds
P3_whole : called (state P3 8 false) 9 (7 ∷ []) 0 ≡ answered 1 2 1 (state P3 15 true) (19 ∷ [])
unfolding called P3
P3_whole = refl

-- ---- refusals, state before input, the smaller number first

-- the parts of another factor
abbrev pub damaged : Factor
damaged = record { minus = false; precision = P1.precision; lower = P1.lower; upper = P1.upper; parts = P2.parts; applied = P1.applied }

new_31 : begun damaged 15 8 ≡ refused 31
unfolding begun P1 P2
new_31 = refl

new_17 : begun P1 15 8 ≡ refused 17
unfolding begun P1
new_17 = refl

call_31 : called (state damaged 7 true) 0 [] 0 ≡ declined 31 (state damaged 7 true) []
unfolding called P1 P2
call_31 = refl

call_32 : called (state P1 7 true) 0 [] 0 ≡ declined 32 (state P1 7 true) []
unfolding called P1
call_32 = refl

call_33 : called (state P1 15 true) 0 [] 0 ≡ declined 33 (state P1 15 true) []
unfolding called P1
call_33 = refl

call_18 : called (state P1 8 false) 0 [] 0 ≡ declined 18 (state P1 8 false) []
unfolding called P1
call_18 = refl

call_19 : called (state P1 8 false) 1 (7 ∷ []) 1 ≡ declined 19 (state P1 8 false) (7 ∷ [])
unfolding called P1
call_19 = refl
