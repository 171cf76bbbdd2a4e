-- Examples: kits of the small engine's factors, of which what whole sweeps of kits owe holds, and calls of one worked out. Assumes nothing.
use Rattle.std.specs.Prelude.{◌≡◌, refl, true, false, List, [], ◌∷◌, ◌++◌, map, ℕ, eqb, leb}
use Rattle.std.proofs.Common.{ap, ◌∙◌, arith}
use Rattle.marks.specs.Answers.{refused, accepted, answer}
use Rattle.calls.specs.State.{Range, State, Call}
use Rattle.calls.specs.Engine.{Engine}
use Rattle.calls.specs.Call.{new_state, Reply, seek, run, sweep_call}
use Rattle.calls.specs.Plain.{tries, words_of, Fed, begun, plain_call, Seen, state_of, plains}
use Rattle.calls.specs.Whole.{fed_by, plainly}
use Rattle.calls.proofs.ListLaws.{word_laws}
use Rattle.calls.specs.Kit.{Kit, two_alike, position, Factors, suspect_in, has_in, mark_in, sections_from, entry_list, kit_engine}
use Rattle.calls.proofs.KitLaws.{FactorLaws}
use Rattle.calls.proofs.KitRows.{joined_rows, lists_from}
use Rattle.calls.proofs.KitDemand.{WholeKit, whole_kit}
use Rattle.calls.proofs.Toy as toy
use Rattle.calls.proofs.Toy.{ranged, asked}

-- A factor from 0 to 6, over all its significands, from 64 to 127; the same two are alike.
abbrev pub toys : Factors ℕ (Range ℕ)
toys = record { engine = toy.toy; whole = λ f. ranged f 64 127; faulty = λ f. leb 7 f; alike = eqb }

abbrev pub toy_kits : Engine (Kit ℕ)
toy_kits = kit_engine toys

-- What kits ask of factors holds of these, with at most 4 rounds a search.
pub toys_laws : FactorLaws toy.suspect_in toys (λ r. 4) 4
toys_laws =
    record {
      lawful = toy.toy_lawful word_laws;
      good = λ f q. (q, (refl, tt));
      short = λ f q. omega arith;
      halved = λ f. omega arith;
      few = λ f q. omega arith;
    }

-- So what whole sweeps of kits owe holds of their kits.
pub toy_kit_whole : (k : Kit ℕ) (s : State (Kit ℕ)) → new_state toy_kits k ≡ accepted s → (calls : List Call) → WholeKit toy.suspect_in toys 4 s calls
toy_kit_whole = whole_kit toys_laws

-- ---- calls over the kit of 2, 6 and 5; 7, which is no factor, stands past their number and is not looked at
-- 2 has the suspects 68, 75, 82, 89, 96, 103, 110, 117 and 124, of which 89 and 103 are wrong and 75 and 117 open; 6 has 64, 71 and so on to 127, and 5 has 65, 72 and so on to 121.

abbrev three : Kit ℕ
three = record { factors = 2 ∷ 6 ∷ 5 ∷ 7 ∷ []; count = 3 }

abbrev at : (place next : ℕ) → State (Kit ℕ)
at place next = record { over = three; next = position place next; finished = false }

abbrev end : State (Kit ℕ)
end = record { over = three; next = position 2 127; finished = true }

new : new_state toy_kits three ≡ accepted (at 0 64)
unfolding answer two_alike
new = refl

-- 31 comes before 43, and 43 looks at every two.
refused_31 : new_state toy_kits (record { factors = 7 ∷ 7 ∷ []; count = 2 }) ≡ refused 31
unfolding answer two_alike
refused_31 = refl

refused_43 : new_state toy_kits (record { factors = 2 ∷ 6 ∷ 6 ∷ []; count = 3 }) ≡ refused 43
unfolding answer two_alike
refused_43 = refl

called : State (Kit ℕ) → (cap : ℕ) → List ℕ → (free : ℕ) → Reply (Kit ℕ)
unfolding sweep_call run seek two_alike has_in mark_in sections_from
called s cap list free = sweep_call toy_kits s (asked cap list free)

-- The cap stops the first call in the second factor, at 78.
first_call : called (at 0 64) 11 (9 ∷ 9 ∷ 9 ∷ 9 ∷ 9 ∷ 9 ∷ 9 ∷ 9 ∷ 9 ∷ 9 ∷ 9 ∷ 9 ∷ 9 ∷ []) 1
    ≡ record {
      answer = accepted (record { trials = 11; rounds = 26; place = 11 });
      state = at 1 78;
      list = 9 ∷ 0 ∷ 151 ∷ 0 ∷ 178 ∷ 0 ∷ 206 ∷ 0 ∷ 235 ∷ 1 ∷ 142 ∷ 9 ∷ 9 ∷ [];
    }
unfolding called
first_call = refl

-- The next resumes there, tries 127, the last significand of 6, and is stopped by a full list at the next factor's first suspect; an odd place is left.
resumed_call : called (at 1 78) 99 (9 ∷ 9 ∷ 9 ∷ 9 ∷ 9 ∷ 9 ∷ 9 ∷ 9 ∷ 9 ∷ 9 ∷ []) 1
    ≡ record {
      answer = accepted (record { trials = 8; rounds = 19; place = 9 });
      state = at 2 65;
      list = 9 ∷ 1 ∷ 170 ∷ 1 ∷ 199 ∷ 1 ∷ 226 ∷ 1 ∷ 254 ∷ 9 ∷ [];
    }
unfolding called
resumed_call = refl

-- The last finishes, at the last factor's last significand.
last_call : called (at 2 65) 99 (9 ∷ 9 ∷ 9 ∷ 9 ∷ 9 ∷ 9 ∷ 9 ∷ 9 ∷ 9 ∷ 9 ∷ []) 0
    ≡ record {
      answer = accepted (record { trials = 9; rounds = 16; place = 10 });
      state = end;
      list = 2 ∷ 130 ∷ 2 ∷ 158 ∷ 2 ∷ 187 ∷ 2 ∷ 214 ∷ 2 ∷ 242 ∷ [];
    }
unfolding called
last_call = refl

-- A factor in which no suspect is left is passed: the call tries the next one's first, and its rounds are those of both.
passing_call : called (at 0 125) 1 (9 ∷ 9 ∷ []) 0
    ≡ record { answer = accepted (record { trials = 1; rounds = 6; place = 0 }); state = at 1 71; list = 9 ∷ 9 ∷ [] }
unfolding called
passing_call = refl

-- Where none is left in the last one, the kit is finished with nothing tried.
closing_call : called (at 2 127) 1 (9 ∷ 9 ∷ []) 0
    ≡ record { answer = accepted (record { trials = 0; rounds = 1; place = 0 }); state = end; list = 9 ∷ 9 ∷ [] }
unfolding called
closing_call = refl

-- A finished state is refused before a cap of 0; fewer than two free places after it; and a place with no factor before both.
finished_call : called end 0 [] 0 ≡ record { answer = refused 33; state = end; list = [] }
unfolding called
finished_call = refl

full_call : called (at 2 65) 1 (9 ∷ 9 ∷ []) 1 ≡ record { answer = refused 44; state = at 2 65; list = 9 ∷ 9 ∷ [] }
unfolding called
full_call = refl

placeless_call : called (at 3 64) 0 [] 0 ≡ record { answer = refused 32; state = at 3 64; list = [] }
unfolding called
placeless_call = refl

-- ---- the plain kit sweep

-- It is fed the rows of the three, joined in kit order.
abbrev fed : Fed (Kit ℕ)
fed = fed_by (suspect_in toy.suspect_in toys) toy_kits three

abbrev of_two : List ℕ
of_two = 68 ∷ 75 ∷ 82 ∷ 89 ∷ 96 ∷ 103 ∷ 110 ∷ 117 ∷ 124 ∷ []

abbrev of_six : List ℕ
of_six = 64 ∷ 71 ∷ 78 ∷ 85 ∷ 92 ∷ 99 ∷ 106 ∷ 113 ∷ 120 ∷ 127 ∷ []

abbrev of_five : List ℕ
of_five = 65 ∷ 72 ∷ 79 ∷ 86 ∷ 93 ∷ 100 ∷ 107 ∷ 114 ∷ 121 ∷ []

joined : joined_rows toy.suspect_in toys 0 (2 ∷ 6 ∷ 5 ∷ []) ≡ map (position 0) of_two ++ (map (position 1) of_six ++ map (position 2) of_five)
unfolding joined_rows
joined = refl

pub fed_rows : fed.suspects ≡ map (position 0) of_two ++ (map (position 1) of_six ++ map (position 2) of_five)
fed_rows = (toy_kit_whole three (at 0 64) new []).rows ∙ joined

-- What the separate sweeps list, in kit order, is what the three calls listed.
lists : lists_from toys 0 (2 ∷ 6 ∷ 5 ∷ [])
    ≡ 0 ∷ 151 ∷ 0 ∷ 178 ∷ 0 ∷ 206 ∷ 0 ∷ 235 ∷ 1 ∷ 142
    ∷ 1 ∷ 170 ∷ 1 ∷ 199 ∷ 1 ∷ 226 ∷ 1 ∷ 254
    ∷ 2 ∷ 130 ∷ 2 ∷ 158 ∷ 2 ∷ 187 ∷ 2 ∷ 214 ∷ 2 ∷ 242
    ∷ []
unfolding lists_from
lists = refl

-- Fed a row, what the plain sweep shows of calls.
by_row : List ℕ → List Call → List (Seen (Kit ℕ))
unfolding plains plain_call tries words_of mark_in
by_row suspects calls =
    let w : Fed (Kit ℕ) = record { over = three; first = position 0 64; last = position 2 127; mark = mark_in toys three; suspects = suspects; listing = entry_list } in
    plains (state_of w) w (begun w) calls

-- the three calls, and one past the finish
abbrev four : List Call
four =
    asked 11 (9 ∷ 9 ∷ 9 ∷ 9 ∷ 9 ∷ 9 ∷ 9 ∷ 9 ∷ 9 ∷ 9 ∷ 9 ∷ 9 ∷ 9 ∷ []) 1
    ∷ asked 99 (9 ∷ 9 ∷ 9 ∷ 9 ∷ 9 ∷ 9 ∷ 9 ∷ 9 ∷ 9 ∷ 9 ∷ []) 1
    ∷ asked 99 (9 ∷ 9 ∷ 9 ∷ 9 ∷ 9 ∷ 9 ∷ 9 ∷ 9 ∷ 9 ∷ 9 ∷ []) 0
    ∷ asked 0 [] 0
    ∷ []

-- The plain kit sweep shows of them what they answered.
plain_calls :
    plainly (suspect_in toy.suspect_in toys) toy_kits three four
    ≡ record { told = accepted (record { trials = 11; place = 11; words = 0 ∷ 151 ∷ 0 ∷ 178 ∷ 0 ∷ 206 ∷ 0 ∷ 235 ∷ 1 ∷ 142 ∷ [] }); state = at 1 78 }
    ∷ record { told = accepted (record { trials = 8; place = 9; words = 1 ∷ 170 ∷ 1 ∷ 199 ∷ 1 ∷ 226 ∷ 1 ∷ 254 ∷ [] }); state = at 2 65 }
    ∷ record { told = accepted (record { trials = 9; place = 10; words = 2 ∷ 130 ∷ 2 ∷ 158 ∷ 2 ∷ 187 ∷ 2 ∷ 214 ∷ 2 ∷ 242 ∷ [] }); state = end }
    ∷ record { told = refused 33; state = end }
    ∷ []
unfolding by_row
plain_calls = ap (λ (row : List ℕ). by_row row four) fed_rows
