-- Laws for a loop over the factors of a kit: what the search in a factor finds is what the kit's search finds, and where it finds none, the kit's goes on in the next. Assumes nothing.
use Rattle.std.specs.Prelude.{◌≡◌, Bool, cond, ◌⊎◌, ltb, drop, Option, Some, None}
use Rattle.std.proofs.Math.Path.{refl, sym, ap, ap₂, subst}
use Rattle.std.proofs.Common.{◌∙◌, inl, inr, add_assoc, lt-ltb, le-ltb}
use mathlib.Core.List.{List, [], ◌∷◌, ◌++◌, map, append_assoc, append-nil}
use Prim.Native.Nat.{ℕ, zero, suc, ◌+◌, ◌-◌, ◌*◌, ◌≤◌, ◌<◌}
use native.Mathlib.Omega.{arith}
use Rattle.std.proofs.Math.Nat.{add-zero, zero-add, sub-zero}
use Rattle.std.proofs.Math.Decide.{dec_lt}
use Rattle.std.proofs.Math.ListN.{length, length-append}
use Rattle.marks.specs.declared.Mark.{Mark}
use Rattle.marks.specs.declared.Mark.TheVariants.{Right, Open, Wrong}
use Rattle.marks.specs.Answers.{NoneHolds}
use Rattle.search.specs.declared.Found.{Found}
use Rattle.calls.specs.State.{listed}
use Rattle.calls.specs.Engine.{Section, start_in, Engine, AllOf, Chain}
use Rattle.calls.specs.Call.{within, none_after, sought, or_else, seek, ahead, Run, over, stopped, run}
use Rattle.calls.proofs.SearchLaws.{chain_ends}
use Rattle.calls.proofs.LoopLaws.{run_halts, tried_after, run_tries, run_passes}
use Rattle.calls.proofs.RunLaws.{ahead_found}
use Rattle.calls.proofs.TrialLaws.{listed_length}
use Rattle.calls.specs.Kit.{Kit, in_kit, kit_faults, place_size, position, Factors, mark_in, place_at, found_at, section_at, sections_from, kit_engine}
use Rattle.calls.proofs.KitLaws.{significand_of_lem, all_at, all_drop, drop_next, chain_within, at_chain, sections_chain, FactorLaws, laws_of, Passed, kit_through}
use Rattle.calls.proofs.KitRows.{same_marks}

-- ---- searches in lists of sections

-- One search, or else another, or else a third.
or_else_lem : (p : Option ℕ) (m : ℕ) (q : Option ℕ) (n : ℕ) (x : Found)
    → let v : Found = record { place = p; rounds = m } in let w : Found = record { place = q; rounds = n } in
    or_else p v (or_else q w x) ≡ or_else (or_else p v w).place (or_else p v w) x
or_else_lem (Some X) m q n x = refl
or_else_lem None m (Some Y) n x = refl
or_else_lem None m None n x = λ i. record { place = x.place; rounds = sym (add_assoc m n x.rounds) i }

-- The search in joined sections is that in the first ones, or else that in the others.
seek_join : (k l : List Section) (a : ℕ) → seek (k ++ l) a ≡ or_else (seek k a).place (seek k a) (seek l a)
unfolding seek
seek_join [] l a = λ i. record { place = (seek l a).place; rounds = sym (zero-add (seek l a).rounds) i }
seek_join (s ∷ k) l a =
    ap (or_else (sought s a).place (sought s a)) (seek_join k l a) ∙ or_else_lem (sought s a).place (sought s a).rounds (seek k a).place (seek k a).rounds (seek l a)

-- Past all sections there is none, and no search.
seek_past : (c b a : ℕ) (l : List Section) → Chain c b l → b ≤ a → seek l a ≡ none_after 0
unfolding seek
seek_past c b a [] q h = refl
seek_past c b a (s ∷ l) q h = rw (le-ltb (start_in s a) s.end (omega (arith, chain_ends l s.end b q.2)), seek_past s.end b a l q.2 h)

-- Before all sections it does not matter where the search begins.
seek_before : (c b a x : ℕ) (l : List Section) → Chain c b l → a ≤ c → x ≤ c → seek l a ≡ seek l x
unfolding seek
seek_before c b a x [] q h k = refl
seek_before c b a x (s ∷ l) q h k =
    let e : start_in s a ≡ start_in s x = omega (arith, q.0) in
    λ i. or_else (sought_from (e i)).place (sought_from (e i)) (seek_before s.end b a x l q.2 (omega (arith, q.0, q.1)) (omega (arith, q.0, q.1)) i)
  where
    sought_from : ℕ → Found
    sought_from z = cond (ltb z s.end) (record { place = within s.end (s.find z).place; rounds = (s.find z).rounds }) (none_after 0)

-- ---- at a place

module _ (i : ℕ) where
  within_at : (end : ℕ) (p : Option ℕ) → within (position i end) (place_at i p) ≡ place_at i (within end p)
  within_at end None = refl
  within_at end (Some X) = go (dec_lt X end)
    where
      go : Dec (X < end) → within (position i end) (Some (position i X)) ≡ place_at i (within end (Some X))
      go (yes k) = rw (lt-ltb X end k, lt-ltb (position i X) (position i end) (omega arith))
      go (no k) = rw (le-ltb X end (omega arith), le-ltb (position i X) (position i end) (omega arith))

  or_else_at : (p : Option ℕ) (m : ℕ) (x : Found) → or_else (place_at i p) (record { place = place_at i p; rounds = m }) (found_at i x) ≡ found_at i (or_else p (record { place = p; rounds = m }) x)
  or_else_at (Some X) m x = refl
  or_else_at None m x = refl

  sought_at : (s : Section) (a : ℕ) → s.end ≤ place_size → sought (section_at i s) (position i a) ≡ found_at i (sought s a)
  sought_at s a h = go (dec_lt (start_in s a) s.end)
    where
      start : start_in (section_at i s) (position i a) ≡ position i (start_in s a)
      start = omega arith

      go : Dec (start_in s a < s.end) → sought (section_at i s) (position i a) ≡ found_at i (sought s a)
      go (yes k) =
          rw (
            start,
            lt-ltb (start_in s a) s.end k,
            lt-ltb (position i (start_in s a)) (position i s.end) (omega arith),
            significand_of_lem i (start_in s a) (omega arith),
            within_at s.end (s.find (start_in s a)).place,
          )
      go (no k) = rw (start, le-ltb (start_in s a) s.end (omega arith), le-ltb (position i (start_in s a)) (position i s.end) (omega arith))

  seek_at : (first b a : ℕ) (l : List Section) → AllOf (λ s. (first ≤ s.from) × (s.end ≤ b)) l → b ≤ place_size → seek (map (section_at i) l) (position i a) ≡ found_at i (seek l a)
  unfolding seek
  seek_at first b a [] w h = refl
  seek_at first b a (s ∷ l) w h =
      ap₂ (λ (v x : Found). or_else v.place v x) (sought_at s a (omega (arith, w.0.1))) (seek_at first b a l w.1 h)
      ∙ or_else_at (sought s a).place (sought s a).rounds (seek l a)

-- ---- in a kit

module _ {F U : Type 0} {suspect : U → ℕ → Bool} {d : Factors F U} {B : U → ℕ} {M : ℕ} (laws : FactorLaws suspect d B M) where
  abbrev e : Engine U
  e = d.engine

  -- a factor that a is past
  own_past : (i : ℕ) (f : F) (a : ℕ) → Passed laws f → position i (suc (e.last (d.whole f))) ≤ a → seek (map (section_at i) (e.sections (d.whole f))) a ≡ none_after 0
  own_past i f a passes h =
      seek_past (position i (e.first (d.whole f))) (position i (suc (e.last (d.whole f)))) a (map (section_at i) (e.sections (d.whole f)))
      (at_chain i (e.first (d.whole f)) (suc (e.last (d.whole f))) (e.sections (d.whole f)) (laws_of laws f passes).chain) h

  -- factors before the place of a are passed over without a search
  seek_from : (j i : ℕ) (l : List F) (a : ℕ) → AllOf (Passed laws) l → position (i + j) 0 ≤ a → seek (sections_from d i l) a ≡ seek (sections_from d (i + j) (drop j l)) a
  unfolding sections_from
  seek_from zero i l a t h = rw (add-zero i)
  seek_from (suc j) i [] a t h = refl
  seek_from (suc j) i (f ∷ l) a t h =
      let past : i + suc j ≡ suc i + j = omega arith in
      seek_join (map (section_at i) (e.sections (d.whole f))) (sections_from d (suc i) l) a
      ∙ ap (λ (w : Found). or_else w.place w (seek (sections_from d (suc i) l) a)) (own_past i f a t.0 (omega (arith, laws.short f t.0)))
      ∙ (λ k. record { place = (seek (sections_from d (suc i) l) a).place; rounds = zero-add (seek (sections_from d (suc i) l) a).rounds k })
      ∙ seek_from j (suc i) l a t.1 (omega arith)
      ∙ ap (λ (n : ℕ). seek (sections_from d n (drop j l)) a) (sym past)

  module _ (k : Kit F) (good : NoneHolds (kit_faults d.faulty d.alike k)) (i : ℕ) (f : F) (r : List F) (at : drop i (in_kit k) ≡ f ∷ r) (a : ℕ) where
    through : AllOf (Passed laws) (in_kit k)
    through = kit_through laws k good

    passes : Passed laws f
    passes = all_at (Passed laws) i (in_kit k) r f through at

    -- the search in the factor, and that in those past it
    abbrev own : Found
    own = ahead e (d.whole f) a

    abbrev others : Found
    others = seek (sections_from d (suc i) r) (position i a)

    -- The kit's search from a significand of a factor on is the factor's, or else that in the factors past it.
    pub ahead_at : ahead (kit_engine d) k (position i a) ≡ or_else (place_at i own.place) (found_at i own) others
    unfolding sections_from
    ahead_at =
        let law = laws_of laws f passes in
        let last : ℕ = e.last (d.whole f) in
        let bounds = chain_within (e.first (d.whole f)) (suc last) (e.sections (d.whole f)) law.chain in
        seek_from i 0 (in_kit k) (position i a) through (omega arith)
        ∙ ap₂ (λ (n : ℕ) (l : List F). seek (sections_from d n l) (position i a)) (zero-add i) at
        ∙ seek_join (map (section_at i) (e.sections (d.whole f))) (sections_from d (suc i) r) (position i a)
        ∙ ap (λ (w : Found). or_else w.place w others) (seek_at i (e.first (d.whole f)) (suc last) a (e.sections (d.whole f)) bounds (laws.short f passes))

    -- Its rounds are no fewer than the factor's.
    pub own_rounds : own.rounds ≤ (ahead (kit_engine d) k (position i a)).rounds
    own_rounds = rw ahead_at (go own.place own.rounds)
      where
        go : (p : Option ℕ) (n : ℕ) → n ≤ (or_else (place_at i p) (record { place = place_at i p; rounds = n }) others).rounds
        go (Some X) n = omega arith
        go None n = omega arith

    -- A suspect that the factor's search finds is the one that the kit's finds.
    pub kit_found : (X : ℕ) → own.place ≡ Some X → ahead (kit_engine d) k (position i a) ≡ record { place = Some (position i X); rounds = own.rounds }
    kit_found X q = ahead_at ∙ rw q refl

    none_here : own.place ≡ None → ahead (kit_engine d) k (position i a) ≡ record { place = others.place; rounds = own.rounds + others.rounds }
    none_here q = ahead_at ∙ rw q refl

  module _ (k : Kit F) (good : NoneHolds (kit_faults d.faulty d.alike k)) where
    -- Where the last factor's search finds none, neither does the kit's.
    pub kit_over : (i : ℕ) (f : F) → drop i (in_kit k) ≡ f ∷ [] → (a : ℕ) → (ahead e (d.whole f) a).place ≡ None
        → ahead (kit_engine d) k (position i a) ≡ none_after (ahead e (d.whole f) a).rounds
    unfolding sections_from seek
    kit_over i f at a q = none_here k good i f [] at a q ∙ (λ j. record { place = None; rounds = add-zero (ahead e (d.whole f) a).rounds j })

    -- Where another's finds none, the kit's goes on from the first significand of the next one.
    pub kit_next : (i : ℕ) (f g : F) (r : List F) → drop i (in_kit k) ≡ f ∷ g ∷ r → (a : ℕ) → a ≤ suc (e.last (d.whole f)) → (ahead e (d.whole f) a).place ≡ None
        → let b = position (suc i) (e.first (d.whole g)) in
        ahead (kit_engine d) k (position i a) ≡ record { place = (ahead (kit_engine d) k b).place; rounds = (ahead e (d.whole f) a).rounds + (ahead (kit_engine d) k b).rounds }
    unfolding sections_from
    kit_next i f g r at a upto q =
        let through = kit_through laws k good in
        let short = laws.short f (all_at (Passed laws) i (in_kit k) (g ∷ r) f through at) in
        let next = drop_next i (in_kit k) (g ∷ r) f at in
        let later = all_drop (Passed laws) (suc i) (in_kit k) through in
        let b : ℕ = position (suc i) (e.first (d.whole g)) in
        let same : seek (sections_from d (suc i) (g ∷ r)) (position i a) ≡ seek (sections_from d 0 (in_kit k)) b =
        seek_before b _ (position i a) b (sections_from d (suc i) (g ∷ r)) (sections_chain laws (suc i) g r (subst (AllOf (Passed laws)) next later)) (omega arith) (omega arith)
        ∙ sym (seek_from (suc i) 0 (in_kit k) b through (omega arith) ∙ ap₂ (λ (n : ℕ) (l : List F). seek (sections_from d n l) b) (zero-add (suc i)) next) in
        none_here k good i f (g ∷ r) at a q ∙ ap (λ (w : Found). record { place = w.place; rounds = (ahead e (d.whole f) a).rounds + w.rounds }) same

-- ---- runs

-- A listed word at a place.
abbrev pub word_at : (i w : ℕ) → ℕ
word_at i w = i * (2 * place_size) + w

-- What is done in a factor at a place, and, where no suspect is left there, what is done past it.
abbrev pub join_at : (i : ℕ) → Run → Option ℕ → Run → Run
join_at i r (Some X) q = record { trials = r.trials; rounds = r.rounds; words = map (word_at i) r.words; left = Some (position i X) }
join_at i r None q = record { trials = r.trials + q.trials; rounds = r.rounds + q.rounds; words = map (word_at i) r.words ++ q.words; left = q.left }

-- What is left to do past a factor: nothing, where the call stops at a suspect.
abbrev pub after_at : (i : ℕ) → Option ℕ → Run → Run
after_at i (Some X) q = stopped (position i X)
after_at i None q = q

-- What is done in the factor comes first.
pub join_adds : (i : ℕ) (r : Run) (p : Option ℕ) (q : Run)
    → join_at i r p q
    ≡ record {
      trials = r.trials + (after_at i p q).trials;
      rounds = r.rounds + (after_at i p q).rounds;
      words = map (word_at i) r.words ++ (after_at i p q).words;
      left = (after_at i p q).left;
    }
join_adds i r None q = refl
join_adds i r (Some X) q =
    λ j. record {
      trials = sym (add-zero r.trials) j;
      rounds = sym (add-zero r.rounds) j;
      words = sym (append-nil (map (word_at i) r.words)) j;
      left = Some (position i X);
    }

-- The listed word of a position is that of its significand, at the place.
listed_at : (i X : ℕ) (m : Mark) → listed m (position i X) ≡ map (word_at i) (listed m X)
listed_at i X Right = refl
listed_at i X Open = let e : 2 * position i X + 1 ≡ word_at i (2 * X + 1) = omega arith in rw e
listed_at i X Wrong = let e : 2 * position i X ≡ word_at i (2 * X) = omega arith in rw e

map_join : (i : ℕ) (k l : List ℕ) → map (word_at i) (k ++ l) ≡ map (word_at i) k ++ map (word_at i) l
map_join i [] l = refl
map_join i (x ∷ k) l = ap (λ (m : List ℕ). word_at i x ∷ m) (map_join i k l)

-- One more is tried before what is joined.
join_tried : (i X n : ℕ) (m : Mark) (r q : Run) (p : Option ℕ)
    → record {
      trials = suc (join_at i r p q).trials;
      rounds = n + (join_at i r p q).rounds;
      words = listed m (position i X) ++ (join_at i r p q).words;
      left = (join_at i r p q).left;
    }
    ≡ join_at i (record { trials = suc r.trials; rounds = n + r.rounds; words = listed m X ++ r.words; left = r.left }) p q
join_tried i X n m r q (Some Y) = rw (listed_at i X m, map_join i (listed m X) r.words)
join_tried i X n m r q None =
    λ j. record { trials = sums j; rounds = sym (add_assoc n r.rounds q.rounds) j; words = words j; left = q.left }
  where
    sums : suc (r.trials + q.trials) ≡ suc r.trials + q.trials
    sums = omega arith

    words : listed m (position i X) ++ (map (word_at i) r.words ++ q.words) ≡ map (word_at i) (listed m X ++ r.words) ++ q.words
    words =
        ap (λ (l : List ℕ). l ++ (map (word_at i) r.words ++ q.words)) (listed_at i X m)
        ∙ sym (append_assoc (map (word_at i) (listed m X)) (map (word_at i) r.words) q.words)
        ∙ ap (λ (l : List ℕ). l ++ q.words) (sym (map_join i (listed m X) r.words))

module _ {F U : Type 0} {suspect : U → ℕ → Bool} {d : Factors F U} {B : U → ℕ} {M : ℕ} (laws : FactorLaws suspect d B M)
    (k : Kit F) (good : NoneHolds (kit_faults d.faulty d.alike k)) (i : ℕ) (f : F) (r : List F) (at : drop i (in_kit k) ≡ f ∷ r) where
  -- what is done in the factor from a significand on
  abbrev here : (cap room a : ℕ) → Run
  here cap room a = run d.engine (d.whole f) cap room a

  -- what is done past it, from the first significand of the next one on
  abbrev past_it : List F → (cap room : ℕ) → Run
  past_it [] cap room = over
  past_it (g ∷ l) cap room = run (kit_engine d) k cap room (position (suc i) (d.engine.first (d.whole g)))

  -- where the search in the factor finds none, whatever cap and room are
  passed_on : (cap room a : ℕ) → a ≤ suc (d.engine.last (d.whole f)) → (ahead d.engine (d.whole f) a).place ≡ None
      → run (kit_engine d) k cap room (position i a)
      ≡ join_at i (record { trials = 0; rounds = (ahead d.engine (d.whole f) a).rounds + 0; words = []; left = None }) None (past_it r cap room)
  passed_on cap room a upto q = go r at
    where
      n : ℕ
      n = (ahead d.engine (d.whole f) a).rounds

      go : (l : List F) → drop i (in_kit k) ≡ f ∷ l
          → run (kit_engine d) k cap room (position i a) ≡ join_at i (record { trials = 0; rounds = n + 0; words = []; left = None }) None (past_it l cap room)
      go [] e =
          let none = kit_over laws k good i f e a q in
          run_halts (kit_engine d) k cap room (position i a) (inl (ap (λ (w : Found). w.place) none))
          ∙ (λ j. record { trials = 0; rounds = rounds none j; words = []; left = (none j).place })
        where
          rounds : ahead (kit_engine d) k (position i a) ≡ none_after n → (ahead (kit_engine d) k (position i a)).rounds + 0 ≡ n + 0 + 0
          rounds none = omega (arith, ap (λ (w : Found). w.rounds) none)
      go (g ∷ l) e =
          let b : ℕ = position (suc i) (d.engine.first (d.whole g)) in
          run_passes (kit_engine d) k cap room (position i a) b n (kit_next laws k good i f g l e a upto q)
          ∙ (λ j. record {
            trials = sym (zero-add (run (kit_engine d) k cap room b).trials) j;
            rounds = ap (λ (m : ℕ). m + (run (kit_engine d) k cap room b).rounds) (sym (add-zero n)) j;
            words = (run (kit_engine d) k cap room b).words;
            left = (run (kit_engine d) k cap room b).left;
          })

  abbrev found_here : ℕ → Found
  found_here a = ahead d.engine (d.whole f) a

  -- what a kit call does from a on is what is done in the factor, x, and past it
  abbrev Joined : (cap room a : ℕ) → Run → Type 0
  Joined cap room a x = run (kit_engine d) k cap room (position i a) ≡ join_at i x x.left (past_it r (cap - x.trials) (room - length x.words))

  -- nothing is tried in the factor
  halted_at : (cap room a : ℕ) → a ≤ suc (d.engine.last (d.whole f)) → ((found_here a).place ≡ None) ⊎ (cap ≡ 0) ⊎ (room ≡ 0) → Joined cap room a (here cap room a)
  halted_at cap room a upto h = subst (Joined cap room a) (sym (run_halts d.engine (d.whole f) cap room a h)) (go (found_here a).place refl h)
    where
      go : (p : Option ℕ) → (found_here a).place ≡ p → ((found_here a).place ≡ None) ⊎ (cap ≡ 0) ⊎ (room ≡ 0) → Joined cap room a (record { trials = 0; rounds = (found_here a).rounds + 0; words = []; left = p })
      go (Some X) q (inl e) = let z : ◌≡◌ {A = ℕ} 0 1 = cc in absurd (omega arith)
      go (Some X) q (inr e) =
          let there = kit_found laws k good i f r at a X q in
          run_halts (kit_engine d) k cap room (position i a) (inr e) ∙ (λ j. record { trials = 0; rounds = (there j).rounds + 0; words = []; left = (there j).place })
      go None q e =
          passed_on cap room a upto q
          ∙ ap₂ (λ (c m : ℕ). join_at i (record { trials = 0; rounds = (found_here a).rounds + 0; words = []; left = None }) None (past_it r c m)) (sym (sub-zero cap)) (sym (sub-zero room))

  -- a suspect of the factor is tried
  tried_at : (cap room a X : ℕ) → d.engine.first (d.whole f) ≤ a → a ≤ suc (d.engine.last (d.whole f)) → (found_here a).place ≡ Some X
      → ((room b : ℕ) → d.engine.first (d.whole f) ≤ b → b ≤ suc (d.engine.last (d.whole f)) → Joined cap room b (here cap room b)) → Joined (suc cap) (suc room) a (here (suc cap) (suc room) a)
  unfolding mark_in
  tried_at cap room a X from upto q ih =
      let through = kit_through laws k good in
      let passes = all_at (Passed laws) i (in_kit k) r f through at in
      let inside = ahead_found (laws_of laws f passes) a from upto X q in
      let m : Mark = d.engine.mark (d.whole f) X in
      let less : ℕ = suc room - length (listed m X) in
      let marked : mark_in d k (position i X) ≡ m = same_marks laws (in_kit k) through i f r at passes X (omega (arith, inside.0)) (omega (arith, inside.1)) in
      let there = kit_found laws k good i f r at a X q in
      let one : suc (position i X) ≡ position i (suc X) = omega arith in
      let long : length (listed m (position i X)) ≡ length (listed m X) = listed_length m (position i X) ∙ sym (listed_length m X) in
      let rest : Run = here cap less (suc X) in
      let next = ih less (suc X) (omega (arith, inside.0)) (omega (arith, inside.1)) in
      let words : suc room - length (listed m X) - length rest.words ≡ suc room - length (listed m X ++ rest.words) = omega (arith, length-append (listed m X) rest.words) in
      let caps : cap - rest.trials ≡ suc cap - suc rest.trials = omega arith in
      subst (Joined (suc cap) (suc room) a) (sym (run_tries d.engine (d.whole f) cap room a X q))
      (run_tries (kit_engine d) k cap room (position i a) (position i X) (ap (λ (w : Found). w.place) there)
      ∙ (λ j. tried_after (there j).rounds (marked j) (position i X) (run (kit_engine d) k cap (suc room - length (listed (marked j) (position i X))) (one j)))
      ∙ ap (λ (x : ℕ). tried_after (found_here a).rounds m (position i X) (run (kit_engine d) k cap (suc room - x) (position i (suc X)))) long
      ∙ ap (tried_after (found_here a).rounds m (position i X)) next
      ∙ join_tried i X (found_here a).rounds m rest (past_it r (cap - rest.trials) (less - length rest.words)) rest.left
      ∙ ap₂ (λ (c x : ℕ). join_at i (tried_after (found_here a).rounds m X rest) rest.left (past_it r c x)) caps words)

  -- What a kit call does from a significand of a factor on is what is done in the factor, and, where no suspect is left there, what is done past it with the cap and the room that remain.
  pub run_at : (cap room a : ℕ) → d.engine.first (d.whole f) ≤ a → a ≤ suc (d.engine.last (d.whole f)) → Joined cap room a (here cap room a)
  run_at zero room a from upto = halted_at zero room a upto (inr (inl refl))
  run_at (suc cap) zero a from upto = halted_at (suc cap) zero a upto (inr (inr refl))
  run_at (suc cap) (suc room) a from upto = go (found_here a).place refl (λ room b i j. run_at cap room b i j)
    where
      go : (p : Option ℕ) → (found_here a).place ≡ p → ((room b : ℕ) → d.engine.first (d.whole f) ≤ b → b ≤ suc (d.engine.last (d.whole f)) → Joined cap room b (here cap room b))
          → Joined (suc cap) (suc room) a (here (suc cap) (suc room) a)
      go None q ih = halted_at (suc cap) (suc room) a upto (inl q)
      go (Some X) q ih = tried_at cap room a X from upto q ih
