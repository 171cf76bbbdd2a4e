-- Examples: a small engine of which the laws hold, so that what whole sweeps owe holds of it, and calls of it worked out. Assumes nothing.
use Rattle.std.specs.Prelude.{◌≡◌, refl, Bool, true, false, cond, not, ◌||◌, ◌≢◌, List, [], ◌∷◌, ℕ, suc, ◌+◌, ◌-◌, ◌*◌, ◌/◌, ◌%◌, ◌≤◌, eqb, ltb, leb, Some, None}
use Rattle.std.proofs.Common.{arith, eq-eqb, ne_eqb, le-ltb, ltb-false}
use Rattle.std.proofs.lemmas.Bool.{eqb-false}
use Rattle.marks.specs.declared.Mark.{Mark}
use Rattle.marks.specs.declared.Mark.TheVariants.{Right, Open, Wrong}
use Rattle.marks.specs.Answers.{refused, accepted, answer}
use Rattle.marks.specs.AnswerLaws.{or_false}
use Rattle.search.specs.declared.Found.{Found}
use Rattle.search.specs.Finds.{LeastFrom}
use Rattle.calls.specs.State.{Range, State, in_range, out_of_range, Call, Listing, word_list}
use Rattle.calls.specs.Engine.{Half, low, high, halves, Engine, fresh, ListingLaws, Lawful}
use Rattle.calls.specs.Call.{new_state, seek, run, sweep_call}
use Rattle.calls.specs.Plain.{row, tries, words_of, Fed, begun, plain_call, Seen, state_of, plains}
use Rattle.calls.specs.ByRow.{closings, searches_of}
use Rattle.calls.specs.Whole.{fed_by, Whole}
use Rattle.calls.proofs.ListLaws.{word_laws}
use Rattle.calls.proofs.RefusalLaws.{between, in_range_lem}
use Rattle.calls.proofs.HalfLaws.{halves_chain, halves_tiled, halves_span, halves_finds}
use Rattle.calls.proofs.Demand3.{whole_sweep}

-- X is a suspect for the factor f, from 0 to 6, if X + f is a multiple of 7.
abbrev pub toy_suspect : ℕ → ℕ → Bool
toy_suspect f X = eqb ((X + f) % 7) 0

abbrev toy_mark : ℕ → ℕ → Mark
toy_mark f X = cond (toy_suspect f X) (cond (eqb (X % 2) 0) Right (cond (eqb (X % 3) 0) Open Wrong)) Right

abbrev toy_rounds : Half → ℕ → ℕ
toy_rounds low a = a % 5
toy_rounds high a = a % 3

abbrev toy_find : ℕ → Half → ℕ → Found
toy_find f h a = record { place = Some (a + (6 * (a + f)) % 7); rounds = toy_rounds h a }

abbrev bad_range : ℕ → ℕ → Bool
bad_range first last = ltb first 64 || leb 128 last || ltb last first

-- Significands from 64 to 127, of which those from 100 on are high, and lists kept in some way.
abbrev pub toy_by : Listing → Engine (Range ℕ)
toy_by l =
    record {
      new_faults = λ r. (31, leb 7 r.factor) ∷ (17, bad_range r.first r.last) ∷ [];
      faults = λ s. (31, leb 7 s.over.factor) ∷ (32, out_of_range (bad_range s.over.first s.over.last) s) ∷ [];
      listing = λ r. l;
      first = λ r. r.first;
      last = λ r. r.last;
      has = in_range;
      mark = λ r. toy_mark r.factor;
      sections = λ r. halves 100 r.first r.last (toy_find r.factor);
      beyond = λ s t. 2;
    }

-- An entry has two words, the significand and 1 for open. Refused are lists of other words than 32-bit ones, by a number before 18, and fewer than two free places.
abbrev pub two_words : Listing
two_words =
    record {
      refuses = λ t. (49, not (eqb t.width 32)) ∷ (18, eqb t.cap 0) ∷ (44, ltb (t.size - t.free) 2) ∷ [];
      places = 2;
      entry = λ w. w / 2 ∷ w % 2 ∷ [];
    }

abbrev pub toy : Engine (Range ℕ)
toy = toy_by word_list

abbrev pub pairs : Engine (Range ℕ)
pairs = toy_by two_words

two_laws : ListingLaws two_words
two_laws =
    record {
      some = omega arith;
      long = λ w. refl;
      tells = λ v w e. let a : v / 2 ≡ w / 2 = cc in let b : v % 2 ≡ w % 2 = cc in omega arith;
      takes = λ t h. (omega (arith, eqb-false t.cap 0 h.1.0), ltb-false (t.size - t.free) 2 h.1.1.0);
      tails = λ t h. (h.0, (h.1.0, (le-ltb (t.size - t.free - 0) 2 (omega (arith, ltb-false (t.size - t.free) 2 h.1.1.0)), tt)));
    }

least : (f end a : ℕ) → LeastFrom (toy_suspect f) end a (Some (a + (6 * (a + f)) % 7))
least f end a = (omega arith, (λ h. eq-eqb ((a + (6 * (a + f)) % 7 + f) % 7) 0 (omega arith)), λ Y u v w. ne_eqb ((Y + f) % 7) 0 (λ z. omega arith))

few : (h : Half) (a : ℕ) → toy_rounds h a ≤ 4
few low a = omega arith
few high a = omega arith

suspected : (X : ℕ) (t : Bool) → cond t (cond (eqb (X % 2) 0) Right (cond (eqb (X % 3) 0) Open Wrong)) Right ≢ Right → t ≡ true
suspected X true q = refl
suspected X false q = absurd (q refl)

-- whether a significand is a suspect of what is swept
abbrev pub suspect_in : Range ℕ → ℕ → Bool
suspect_in r X = toy_suspect r.factor X

-- The laws hold of it, with at most 4 rounds a search.
pub toy_lawful : {l : Listing} → ListingLaws l → Lawful suspect_in (toy_by l) (λ r. 4)
toy_lawful {l} lists =
    record {
      states = λ s.
          let r = in_range_lem (bad_range s.over.first s.over.last) s in (
            (λ h. let i = r.0 h.1.0 in record { sound = (h.0, (i.0, tt)); there = i.1 }),
            (λ h. (h.sound.0, (r.1 (h.sound.1.0, h.there), tt))),
          );
      laws = λ r h.
          let i = or_false (ltb r.first 64 || leb 128 r.last) (ltb r.last r.first) h.1.0 in
          let o = ltb-false r.last r.first i.1 in
          record {
            ordered = o;
            begins = (between r r.first).1 (omega arith, o);
            ends = (between r r.last).1 (o, omega arith);
            between = λ X. (between r X).0;
            had = λ X h k t. (between r X).1 (h, k);
            lists = lists;
            suspected = λ X h k q. suspected X (suspect_in r X) q;
            chain = halves_chain 100 r.first r.last o (toy_find r.factor);
            tiled = λ X h k t. halves_tiled 100 r.first r.last o (toy_find r.factor) X h k;
            finds = halves_finds 100 r.first r.last o (toy_find r.factor) (suspect_in r) 4 (λ a end h k i. least r.factor end a) (λ a h k i. least r.factor (suc r.last) a) few;
          };
      spans = λ s h p q. let i = (between s.over s.next).0 h.there in halves_span 100 s.over.first s.over.last (omega arith) (toy_find s.over.factor) (suspect_in s.over) s.next p i.0 q;
    }

-- What whole sweeps owe holds of it, however its lists are kept.
pub toy_whole : (r : Range ℕ) (s : State (Range ℕ)) → new_state toy r ≡ accepted s → (calls : List Call) → Whole suspect_in toy (λ r. 4) (sweep_call toy) s calls
toy_whole = whole_sweep (toy_lawful word_laws)

pub pairs_whole : (r : Range ℕ) (s : State (Range ℕ)) → new_state pairs r ≡ accepted s → (calls : List Call) → Whole suspect_in pairs (λ r. 4) (sweep_call pairs) s calls
pairs_whole = whole_sweep (toy_lawful two_laws)

-- ---- calls over 81 to 127 for the factor 2, with the suspects 82, 89, 96, 103, 110, 117 and 124, of which 89 and 103 are wrong and 117 is open

abbrev pub asked : (cap : ℕ) → List ℕ → (free : ℕ) → Call
asked cap list free = record { cap = cap; width = 32; list = list; free = free }

abbrev pub ranged : (f first last : ℕ) → Range ℕ
ranged f first last = record { factor = f; first = first; last = last }

abbrev before : ℕ → State (Range ℕ)
before next = record { over = ranged 2 81 127; next = next; finished = false }

abbrev end : State (Range ℕ)
end = record { over = ranged 2 81 127; next = 127; finished = true }

-- 31 comes before 17.
new_refused : new_state toy (ranged 7 127 81) ≡ refused 31
unfolding answer
new_refused = refl

-- The cap stops the first call, at 96.
first_call : sweep_call toy (before 81) (asked 2 (9 ∷ 9 ∷ 9 ∷ []) 1)
    ≡ record { answer = accepted (record { trials = 2; rounds = 4; place = 2 }); state = before 96; list = 9 ∷ 178 ∷ 9 ∷ [] }
unfolding sweep_call run seek
first_call = refl

-- A refused call changes nothing.
refused_call : sweep_call toy (before 96) (asked 0 (9 ∷ 9 ∷ 9 ∷ []) 3)
    ≡ record { answer = refused 18; state = before 96; list = 9 ∷ 9 ∷ 9 ∷ [] }
unfolding sweep_call run seek
refused_call = refl

-- The call resumes at 96, goes on into the high half, and is stopped by a full list at 124.
resumed_call : sweep_call toy (before 96) (asked 5 (9 ∷ 9 ∷ []) 0)
    ≡ record { answer = accepted (record { trials = 4; rounds = 7; place = 2 }); state = before 124; list = 206 ∷ 235 ∷ [] }
unfolding sweep_call run seek
resumed_call = refl

-- The last suspect is the last of the range: no search is made past it.
closing_call : sweep_call toy (fresh toy (ranged 2 121 124)) (asked 5 (9 ∷ []) 0)
    ≡ record {
      answer = accepted (record { trials = 1; rounds = 1; place = 0 });
      state = record { over = ranged 2 121 124; next = 124; finished = true };
      list = 9 ∷ [];
    }
unfolding sweep_call run seek
closing_call = refl

-- The searches of these three: one for each trial and one for the suspect stopped at; of the second call also one that finds none in the low half, from 97 to 99; of the last no more than its trial's.
first_searches : searches_of (toy_suspect 2) (toy.sections (ranged 2 81 127)) 81 2 (Some 96) ≡ 3
unfolding closings
first_searches = refl

resumed_searches : searches_of (toy_suspect 2) (toy.sections (ranged 2 81 127)) 96 4 (Some 124) ≡ 6
unfolding closings
resumed_searches = refl

closing_searches : searches_of (toy_suspect 2) (toy.sections (ranged 2 121 124)) 121 1 None ≡ 1
unfolding closings
closing_searches = refl

-- A finished state is refused before a cap of 0.
finished_call : sweep_call toy end (asked 0 [] 0) ≡ record { answer = refused 33; state = end; list = [] }
unfolding sweep_call run seek
finished_call = refl

-- The plain sweep of calls over the range, and what it shows.
fed_in : Listing → Fed (Range ℕ)
fed_in l = fed_by suspect_in (toy_by l) (ranged 2 81 127)

plain_calls : Listing → List Call → List (Seen (Range ℕ))
unfolding fed_in plains plain_call row tries words_of
plain_calls l calls = plains (state_of (fed_in l)) (fed_in l) (begun (fed_in l)) calls

-- four calls, the last of them past the finish
plain_calls_lem :
    plain_calls word_list
    (asked 2 (9 ∷ 9 ∷ 9 ∷ []) 1
    ∷ asked 5 (9 ∷ 9 ∷ []) 0
    ∷ asked 9 (9 ∷ []) 0
    ∷ asked 0 [] 0
    ∷ [])
    ≡ record { told = accepted (record { trials = 2; place = 2; words = 178 ∷ [] }); state = before 96 }
    ∷ record { told = accepted (record { trials = 4; place = 2; words = 206 ∷ 235 ∷ [] }); state = before 124 }
    ∷ record { told = accepted (record { trials = 1; place = 0; words = [] }); state = end }
    ∷ record { told = refused 33; state = end }
    ∷ []
unfolding plain_calls
plain_calls_lem = refl

-- ---- the same with two words to an entry

-- Five places hold two entries, so that the call is stopped by a full list at 124, and the fifth place is left.
pair_call : sweep_call pairs (before 96) (asked 5 (9 ∷ 9 ∷ 9 ∷ 9 ∷ 9 ∷ []) 0)
    ≡ record { answer = accepted (record { trials = 4; rounds = 7; place = 4 }); state = before 124; list = 103 ∷ 0 ∷ 117 ∷ 1 ∷ 9 ∷ [] }
unfolding sweep_call run seek
pair_call = refl

-- One free place is not enough.
pair_refused : sweep_call pairs (before 124) (asked 5 (9 ∷ 9 ∷ 9 ∷ 9 ∷ 9 ∷ []) 4)
    ≡ record { answer = refused 44; state = before 124; list = 9 ∷ 9 ∷ 9 ∷ 9 ∷ 9 ∷ [] }
unfolding sweep_call run seek
pair_refused = refl

-- Words of another width are refused before a cap of 0.
pair_width : sweep_call pairs (before 124) (record { cap = 0; width = 64; list = 9 ∷ 9 ∷ []; free = 0 })
    ≡ record { answer = refused 49; state = before 124; list = 9 ∷ 9 ∷ [] }
unfolding sweep_call run seek
pair_width = refl

-- The plain sweep has the same.
pair_calls :
    plain_calls two_words
    (asked 3 (9 ∷ 9 ∷ 9 ∷ []) 0
    ∷ asked 5 (9 ∷ 9 ∷ 9 ∷ 9 ∷ 9 ∷ []) 4
    ∷ asked 5 (9 ∷ 9 ∷ 9 ∷ 9 ∷ 9 ∷ []) 0
    ∷ [])
    ≡ record { told = accepted (record { trials = 2; place = 2; words = 89 ∷ 0 ∷ [] }); state = before 96 }
    ∷ record { told = refused 44; state = before 96 }
    ∷ record { told = accepted (record { trials = 4; place = 4; words = 103 ∷ 0 ∷ 117 ∷ 1 ∷ [] }); state = before 124 }
    ∷ []
unfolding plain_calls
pair_calls = refl
