-- Laws of sections: the row of suspects is made of theirs, the searches in them lead to its first, and how many searches a call makes. Assumes nothing.
use Rattle.std.specs.Prelude.{◌≡◌, Bool, cond, ◌&&◌, ltb, drop, Option, Some, None}
use Rattle.std.proofs.Math.Path.{refl, sym, ap}
use Rattle.std.proofs.Common.{◌∙◌, subst, inl, inr, zero-add, mul-add, mul-suc}
use Rattle.std.proofs.Math.Bool.{true, false, not, not-eq-not}
use mathlib.Core.List.{List, [], ◌∷◌, ◌++◌}
use Prim.Native.Nat.{ℕ, zero, suc, ◌+◌, ◌-◌, ◌*◌, ◌≤◌, ◌<◌, max}
use native.Mathlib.Omega.{arith}
use Rattle.std.proofs.Math.Nat.{add-zero}
use Rattle.std.proofs.Math.Decide.{dec_le, dec_lt}
use borrow.Author.Tests.{lt-ltb, le-ltb, le-leb, lt-leb, leb-true}
use Rattle.std.proofs.Math.ListN.{length, length-append}
use Rattle.search.specs.declared.Found.{Found}
use Rattle.search.specs.Finds.{LeastFrom}
use Rattle.calls.specs.Engine.{Section, start_in, past, stops_at, once, passed, AllOf, Chain, InSome, Finds}
use Rattle.calls.specs.Call.{within, or_else, seek}
use Rattle.calls.specs.Plain.{keep, row}
use Rattle.calls.specs.ByRow.{head_of, legs, trail, rounds_in, closing, closings, searches_of}
use Rattle.calls.proofs.RowLaws.{row_empty, row_at, row_none, row_skip, row_split, row_clear, first_suspect, begins}

-- ---- places and ends

-- What lies past an end lies past an earlier one.
past_before : (c d : ℕ) (p : Option ℕ) → c ≤ d → past d p ≡ true → past c p ≡ true
past_before c d (Some X) h q = le-leb c X (omega (arith, leb-true d X q))
past_before c d None h q = refl

-- ---- counts

-- A test counts once at most, and a section is passed once at most.
pub once_few : (t : Bool) → once t ≤ 1
once_few true = omega arith
once_few false = omega arith

pub passed_few : (l : List Section) (a : ℕ) (p : Option ℕ) → passed l a p ≤ length l
unfolding passed
passed_few [] a p = omega arith
passed_few (s ∷ l) a p = omega (arith, passed_few l a p, once_few (past s.end p && ltb (start_in s a) s.end))

-- The section that the stop lies in is not passed.
pub passed_in : (l : List Section) (a X : ℕ) → InSome X l → suc (passed l a (Some X)) ≤ length l
unfolding passed
passed_in [] a X i = absurd i
passed_in (s ∷ l) a X (inl i) = rw (lt-leb s.end X i.1) (omega (arith, passed_few l a (Some X)))
passed_in (s ∷ l) a X (inr i) = omega (arith, passed_in l a X i, once_few (past s.end (Some X) && ltb (start_in s a) s.end))

-- ---- sections that follow one another

-- They end before the end.
pub chain_ends : (l : List Section) (a b : ℕ) → Chain a b l → a ≤ b
chain_ends [] a b c = c
chain_ends (s ∷ l) a b c = omega (arith, c.0, c.1, chain_ends l s.end b c.2)

-- What lies in one of them lies between their beginning and their end.
in_some : (l : List Section) (a b X : ℕ) → Chain a b l → InSome X l → (a ≤ X) × (X < b)
in_some [] a b X c i = absurd i
in_some (s ∷ l) a b X c (inl i) = (omega (arith, c.0, i.0), omega (arith, i.1, chain_ends l s.end b c.2))
in_some (s ∷ l) a b X c (inr i) = let z = in_some l s.end b X c.2 i in (omega (arith, c.0, c.1), z.1)

-- ---- the row of sections

-- The suspects from a on in sections, one after another.
unfoldable pub row_in : (ℕ → Bool) → List Section → (a : ℕ) → List ℕ
unfolding row
row_in suspect [] a = []
row_in suspect (s ∷ l) a = row suspect (start_in s a) s.end ++ row_in suspect l a

module _ (suspect : ℕ → Bool) where
  -- It lies past the beginning of the sections.
  rows_past : (l : List Section) (c b a : ℕ) → Chain c b l → past c (head_of (row_in suspect l a)) ≡ true
  unfolding row_in
  rows_past [] c b a q = refl
  rows_past (s ∷ l) c b a q = go (row suspect (start_in s a) s.end) refl (rows_past l s.end b a q.2)
    where
      go : (r : List ℕ) → row suspect (start_in s a) s.end ≡ r → past s.end (head_of (row_in suspect l a)) ≡ true → past c (head_of (r ++ row_in suspect l a)) ≡ true
      go [] e ih = past_before c s.end (head_of (row_in suspect l a)) (omega (arith, q.0, q.1)) ih
      go (x ∷ r) e ih = le-leb c x (omega (arith, q.0, (begins suspect (start_in s a) s.end 0 x r e).from))

  -- Where every suspect lies in one of the sections, it is the row of all.
  pub rows_are : (l : List Section) (c a b : ℕ) → Chain c b l → a ≤ b → ((X : ℕ) → max a c ≤ X → X < b → suspect X ≡ true → InSome X l) → row_in suspect l a ≡ row suspect (max a c) b
  unfolding row_in
  rows_are [] c a b q h tiled = sym (row_none suspect (max a c) b (λ Y u v. (not-eq-not {b = false}).0 (λ t. tiled Y u v t)))
  rows_are (s ∷ l) c a b q h tiled =
      let k : ℕ = max a s.end in
      let e = chain_ends l s.end b q.2 in
      let before : (Y : ℕ) → max a c ≤ Y → Y < start_in s a → suspect Y ≡ false =
      λ Y u v. (not-eq-not {b = false}).0 (λ t. skipped Y u v (tiled Y u (omega (arith, q.1)) t)) in
      ap (λ (z : List ℕ). row suspect (start_in s a) s.end ++ z) (rows_are l s.end a b q.2 h (λ X u v t. later X u (tiled X (omega (arith, q.0, q.1)) v t)))
      ∙ ap (λ (z : List ℕ). z ++ row suspect k b) (cut (dec_le a s.end))
      ∙ sym (row_split suspect (start_in s a) k b (omega (arith, q.1)) (omega arith))
      ∙ sym (row_skip suspect (max a c) (start_in s a) b (omega (arith, q.0)) (omega (arith, q.1)) before)
    where
      skipped : (Y : ℕ) → max a c ≤ Y → Y < start_in s a → InSome Y (s ∷ l) → ⊥
      skipped Y u v (inl i) = omega arith
      skipped Y u v (inr i) = let z = in_some l s.end b Y q.2 i in omega (arith, q.1)

      later : (X : ℕ) → max a s.end ≤ X → InSome X (s ∷ l) → InSome X l
      later X u (inl i) = absurd (omega arith)
      later X u (inr i) = i

      cut : Dec (a ≤ s.end) → row suspect (start_in s a) s.end ≡ row suspect (start_in s a) (max a s.end)
      cut (yes k) = let e : max a s.end ≡ s.end = omega arith in rw e refl
      cut (no k) =
          row_empty suspect (start_in s a) s.end (omega arith) ∙ sym (row_empty suspect (start_in s a) (max a s.end) (omega (arith, q.1)))

  -- ---- the searches

  -- The least suspect is the head of the row.
  within_head : (end a : ℕ) (p : Option ℕ) → LeastFrom suspect end a p → within end p ≡ head_of (row suspect a end)
  within_head end a None l = rw (row_none suspect a end l)
  within_head end a (Some X) l = go (dec_lt X end)
    where
      go : Dec (X < end) → within end (Some X) ≡ head_of (row suspect a end)
      go (yes k) =
          rw (
            lt-ltb X end k,
            row_skip suspect a X end l.0 (omega arith) (λ Y u v. l.2 Y u v (omega arith)),
            row_at suspect X end k (l.1 k),
          )
      go (no k) = rw (le-ltb X end (omega arith), row_none suspect a end (λ Y u v. l.2 Y u (omega arith) v))

  -- The searches from a on lead to the first of the row, and are those on the way to it.
  pub seek_is : (B : ℕ) (l : List Section) (c b a : ℕ) → Chain c b l → AllOf (Finds suspect B) l
      → seek l a ≡ record { place = head_of (row_in suspect l a); rounds = rounds_in (legs l a (head_of (row_in suspect l a))) }
  unfolding seek row_in legs rounds_in
  seek_is B [] c b a q f = refl
  seek_is B (s ∷ l) c b a q f = go (dec_lt (start_in s a) s.end) (seek_is B l s.end b a q.2 f.1)
    where
      -- the rest of the sections, which lies past this one
      rest : List ℕ
      rest = row_in suspect l a

      -- this section's search, if it is made, and what follows it
      to : Bool → List ℕ → Found
      to t r =
          record {
            place = head_of (r ++ rest);
            rounds = rounds_in (keep t (s.find (start_in s a)) (cond (past s.end (head_of (r ++ rest))) (legs l a (head_of (r ++ rest))) []));
          }

      go : Dec (start_in s a < s.end) → seek l a ≡ record { place = head_of rest; rounds = rounds_in (legs l a (head_of rest)) }
          → seek (s ∷ l) a ≡ to (ltb (start_in s a) s.end) (row suspect (start_in s a) s.end)
      go (no k) ih =
          rw (
            le-ltb (start_in s a) s.end (omega arith),
            row_empty suspect (start_in s a) s.end (omega arith),
            rows_past l s.end b a q.2,
            ih,
          )
          (λ i. record { place = head_of rest; rounds = zero-add (rounds_in (legs l a (head_of rest))) i })
      go (yes k) ih =
          rw (
            lt-ltb (start_in s a) s.end k,
            within_head s.end (start_in s a) (s.find (start_in s a)).place (f.0.least (start_in s a) (omega arith) k),
            ih,
          )
          (found (row suspect (start_in s a) s.end) refl)
        where
          found : (r : List ℕ) → row suspect (start_in s a) s.end ≡ r
              → or_else (head_of r) (record { place = head_of r; rounds = (s.find (start_in s a)).rounds }) (record { place = head_of rest; rounds = rounds_in (legs l a (head_of rest)) })
              ≡ to true r
          found [] e = rw (rows_past l s.end b a q.2)
          found (x ∷ r) e = rw (lt-leb s.end x (begins suspect (start_in s a) s.end 0 x r e).below, add-zero (s.find (start_in s a)).rounds)

  -- ---- how many searches

  -- A section of which nothing is left.
  closing_past : (a end : ℕ) → end ≤ a → closing suspect a end ≡ false
  closing_past a end h = rw (le-ltb a end h)

  -- One of which the last significand is left, and is no suspect.
  closing_clear : (a end : ℕ) → a < end → suspect (end - 1) ≡ false → closing suspect a end ≡ true
  closing_clear a end h s = λ i. lt-ltb a end h i && not (s i)

  -- A suspect of it is tried: whether its last significand is left does not change.
  closing_past_one : (a x end : ℕ) → a ≤ x → x < end → suspect x ≡ true → closing suspect a end ≡ closing suspect (suc x) end
  closing_past_one a x end h k s = go (dec_lt (suc x) end)
    where
      go : Dec (suc x < end) → closing suspect a end ≡ closing suspect (suc x) end
      go (yes u) = rw (lt-ltb a end (omega arith), lt-ltb (suc x) end u)
      go (no u) =
          let e : end - 1 ≡ x = omega arith in
          rw (lt-ltb a end (omega arith), le-ltb (suc x) end (omega arith), e, s)

  -- Sections past the stop are not completed.
  closings_later : (l : List Section) (c b a x : ℕ) → Chain c b l → x < c → closings suspect l a (Some x) ≡ 0
  unfolding closings
  closings_later [] c b a x q h = refl
  closings_later (s ∷ l) c b a x q h =
      rw (lt-leb s.end x (omega (arith, q.0, q.1)), closings_later l s.end b a x q.2 (omega (arith, q.0, q.1)))

  -- On the way to the first of the row there is one search for it, if it is one, and one that finds none for each section completed.
  legs_are : (l : List Section) (c b a : ℕ) → Chain c b l
      → length (legs l a (head_of (row_in suspect l a))) ≡ once (stops_at (head_of (row_in suspect l a))) + closings suspect l a (head_of (row_in suspect l a))
  unfolding row_in legs closings
  legs_are [] c b a q = refl
  legs_are (s ∷ l) c b a q = go (dec_lt (start_in s a) s.end) (row suspect (start_in s a) s.end) refl (legs_are l s.end b a q.2)
    where
      rest : List ℕ
      rest = row_in suspect l a

      go : Dec (start_in s a < s.end) → (r : List ℕ) → row suspect (start_in s a) s.end ≡ r
          → length (legs l a (head_of rest)) ≡ once (stops_at (head_of rest)) + closings suspect l a (head_of rest)
          → length (legs (s ∷ l) a (head_of (r ++ rest))) ≡ once (stops_at (head_of (r ++ rest))) + closings suspect (s ∷ l) a (head_of (r ++ rest))
      go (no k) [] e ih =
          rw (le-ltb (start_in s a) s.end (omega arith), rows_past l s.end b a q.2, zero-add (closings suspect l a (head_of rest))) ih
      go (no k) (x ∷ r) e ih = let z = begins suspect (start_in s a) s.end 0 x r e in absurd (omega (arith, z.from, z.below))
      go (yes k) [] e ih =
          rw (
            lt-ltb (start_in s a) s.end k,
            rows_past l s.end b a q.2,
            row_clear suspect (start_in s a) s.end (s.end - 1) e (omega arith) (omega arith),
          )
          (omega (arith, ih))
      go (yes k) (x ∷ r) e ih =
          let z = (begins suspect (start_in s a) s.end 0 x r e).below in
          rw (lt-ltb (start_in s a) s.end k, lt-leb s.end x z, closings_later l s.end b a x q.2 z)

  -- Where x is a suspect from a on and the call stops past it, the sections that are completed are those before x, and those from past x on.
  closings_split : (l : List Section) (a x : ℕ) (stop : Option ℕ) → a ≤ x → suspect x ≡ true → past (suc x) stop ≡ true
      → closings suspect l a (Some x) + closings suspect l (suc x) stop ≡ closings suspect l a stop
  unfolding closings
  closings_split [] a x stop h t q = refl
  closings_split (s ∷ l) a x stop h t q =
      omega (arith, closings_split l a x stop h t q, one (dec_le s.end x) (dec_le s.from x))
    where
      -- this section's part
      one : Dec (s.end ≤ x) → Dec (s.from ≤ x)
          → once (past s.end (Some x) && closing suspect (start_in s a) s.end) + once (past s.end stop && closing suspect (start_in s (suc x)) s.end)
          ≡ once (past s.end stop && closing suspect (start_in s a) s.end)
      one (yes k) d =
          rw (
            le-leb s.end x k,
            past_before s.end (suc x) stop (omega arith) q,
            closing_past (start_in s (suc x)) s.end (omega arith),
            add-zero (once (closing suspect (start_in s a) s.end)),
          )
      one (no k) (yes d) =
          let e : start_in s (suc x) ≡ suc x = omega arith in
          rw (
            lt-leb s.end x (omega arith),
            e,
            closing_past_one (start_in s a) x s.end (omega arith) (omega arith) t,
          )
          (zero-add (once (past s.end stop && closing suspect (suc x) s.end)))
      one (no k) (no d) =
          let e : start_in s (suc x) ≡ s.from = omega arith in
          let g : start_in s a ≡ s.from = omega arith in
          rw (lt-leb s.end x (omega arith), e, g) (zero-add (once (past s.end stop && closing suspect s.from s.end)))

  -- No more are completed than are passed.
  closings_few : (l : List Section) (a : ℕ) (stop : Option ℕ) → closings suspect l a stop ≤ passed l a stop
  unfolding closings passed
  closings_few [] a stop = omega arith
  closings_few (s ∷ l) a stop = omega (arith, closings_few l a stop, go (past s.end stop) (ltb (start_in s a) s.end) (suspect (s.end - 1)))
    where
      go : (p t u : Bool) → once (p && (t && not u)) ≤ once (p && t)
      go true true true = omega arith
      go true true false = omega arith
      go true false u = omega arith
      go false t u = omega arith

-- ---- all searches of a call

module _ (suspect : ℕ → Bool) (sections : List Section) (first last : ℕ) (chain : Chain first (suc last) sections)
    (tiled : (X : ℕ) → first ≤ X → X ≤ last → suspect X ≡ true → InSome X sections) where
  -- the suspects from a on
  abbrev row_from : ℕ → List ℕ
  row_from a = row suspect a (suc last)

  -- They are those of the sections.
  pub rows_whole : (a : ℕ) → first ≤ a → a ≤ suc last → row_in suspect sections a ≡ row_from a
  rows_whole a h k =
      rows_are suspect sections first a (suc last) chain k (λ X u v t. tiled X (omega arith) (omega arith) t)
      ∙ ap (λ (z : ℕ). row_from z) (omega arith)

  abbrev Counted : (a k : ℕ) → List ℕ → Type 0
  Counted a k l = length (trail sections a k l) ≡ searches_of suspect sections a k (head_of (drop k l))

  -- none is tried
  none_tried : (a : ℕ) → first ≤ a → a ≤ suc last → length (legs sections a (head_of (row_from a))) ≡ searches_of suspect sections a 0 (head_of (row_from a))
  none_tried a h k =
      subst (λ (r : List ℕ). length (legs sections a (head_of r)) ≡ 0 + once (stops_at (head_of r)) + closings suspect sections a (head_of r)) (rows_whole a h k)
      (legs_are suspect sections first (suc last) a chain ∙ ap (λ (z : ℕ). z + closings suspect sections a (head_of (row_in suspect sections a))) (sym (zero-add _)))

  -- what is left past x lies past it
  rest_past : (x k : ℕ) → past (suc x) (head_of (drop k (row_from (suc x)))) ≡ true
  rest_past x k = go (drop k (row_from (suc x))) refl
    where
      go : (l : List ℕ) → drop k (row_from (suc x)) ≡ l → past (suc x) (head_of l) ≡ true
      go [] q = refl
      go (y ∷ l) q = le-leb (suc x) y (begins suspect (suc x) (suc last) k y l q).from

  -- How many searches a call from a on makes that tries k suspects.
  pub searches_are : (k a : ℕ) → first ≤ a → a ≤ suc last → k ≤ length (row_from a) → Counted a k (row_from a)
  unfolding trail
  searches_are zero a h u fits = go (row_from a) (none_tried a h u)
    where
      go : (l : List ℕ) → length (legs sections a (head_of l)) ≡ searches_of suspect sections a 0 (head_of l) → Counted a 0 l
      go [] q = q
      go (x ∷ l) q = q
  searches_are (suc k) a h u fits = go (row_from a) refl fits (none_tried a h u) (searches_are k)
    where
      go : (l : List ℕ) → row_from a ≡ l → suc k ≤ length l → length (legs sections a (head_of l)) ≡ searches_of suspect sections a 0 (head_of l)
          → ((b : ℕ) → first ≤ b → b ≤ suc last → k ≤ length (row_from b) → Counted b k (row_from b)) → Counted a (suc k) l
      go [] e f one ih = absurd (omega arith)
      go (x ∷ l) e f one ih =
          let z = begins suspect a (suc last) 0 x l e in
          let rest = z.rest in
          let later : Counted (suc x) k l = rw rest (ih (suc x) (omega (arith, z.from)) z.below (rw (← rest) (omega arith))) in
          let stops : past (suc x) (head_of (drop k l)) ≡ true = rw rest (rest_past x k) in
          let split = closings_split suspect sections a x (head_of (drop k l)) z.from (first_suspect suspect a (suc last) x l e) stops in
          omega (arith, length-append (legs sections a (Some x)) (trail sections (suc x) k l))

  -- They are at most one for each trial, for the suspect stopped at and for each section passed.
  pub searches_few : (k a : ℕ) → first ≤ a → a ≤ suc last → k ≤ length (row_from a)
      → length (trail sections a k (row_from a)) ≤ k + (once (stops_at (head_of (drop k (row_from a)))) + passed sections a (head_of (drop k (row_from a))))
  searches_few k a h u fits =
      let stop : Option ℕ = head_of (drop k (row_from a)) in
      omega (arith, searches_are k a h u fits, closings_few suspect sections a stop)

-- ---- the rounds

-- at most B rounds for each search
abbrev Few : ℕ → List Found → Type 0
Few B l = rounds_in l ≤ B * length l

pub rounds_append : (k l : List Found) → rounds_in (k ++ l) ≡ rounds_in k + rounds_in l
unfolding rounds_in
rounds_append [] l = sym (zero-add (rounds_in l))
rounds_append (w ∷ k) l = omega (arith, rounds_append k l)

legs_few : (suspect : ℕ → Bool) (B : ℕ) (l : List Section) (a : ℕ) (p : Option ℕ) → AllOf (Finds suspect B) l → Few B (legs l a p)
unfolding legs rounds_in
legs_few suspect B [] a p f = omega arith
legs_few suspect B (s ∷ l) a p f = go (dec_lt (start_in s a) s.end) (past s.end p) (legs_few suspect B l a p f.1)
  where
    more : (w : Found) (l : List Found) → w.rounds ≤ B → Few B l → Few B (w ∷ l)
    more w l i k = omega (arith, mul-suc B (length l))

    cut : (t : Bool) → Few B (legs l a p) → Few B (cond t (legs l a p) [])
    cut true k = k
    cut false k = omega arith

    go : Dec (start_in s a < s.end) → (t : Bool) → Few B (legs l a p) → Few B (keep (ltb (start_in s a) s.end) (s.find (start_in s a)) (cond t (legs l a p) []))
    go (no k) t ih = rw (le-ltb (start_in s a) s.end (omega arith)) (cut t ih)
    go (yes k) t ih =
        rw (lt-ltb (start_in s a) s.end k) (more (s.find (start_in s a)) (cond t (legs l a p) []) (f.0.few (start_in s a) (omega arith) k) (cut t ih))

-- They are few of all searches of a call too.
pub trail_few : (suspect : ℕ → Bool) (B : ℕ) (l : List Section) (a k : ℕ) (r : List ℕ) → AllOf (Finds suspect B) l → Few B (trail l a k r)
unfolding trail
trail_few suspect B l a k [] f = legs_few suspect B l a None f
trail_few suspect B l a zero (x ∷ r) f = legs_few suspect B l a (Some x) f
trail_few suspect B l a (suc k) (x ∷ r) f =
    rw (rounds_append (legs l a (Some x)) (trail l (suc x) k r), length-append (legs l a (Some x)) (trail l (suc x) k r), mul-add B)
    (omega (arith, legs_few suspect B l a (Some x) f, trail_few suspect B l (suc x) k r f))
