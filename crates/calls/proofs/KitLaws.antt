-- The engine of kits is lawful where that of its factors is: so what whole sweeps owe holds of kits by the theorem of sweeps. Assumes nothing.
use Rattle.std.specs.Prelude.{◌≡◌, Bool, true, false, cond, not, ◌&&◌, ◌≢◌, eqb, ltb, Option, Some, None}
use Rattle.std.proofs.Math.Path.{refl, ap, subst}
use Rattle.std.proofs.Common.{sym, ◌∙◌, true≢false, inl, inr, add-zero, ltb-false, le-ltb}
use Rattle.std.proofs.Math.Bool.{and-false}
use mathlib.Core.List.{List, [], ◌∷◌, ◌++◌, map}
use Prim.Native.Nat.{ℕ, zero, suc, ◌+◌, ◌-◌, ◌*◌, ◌/◌, ◌%◌, ◌≤◌, ◌<◌}
use native.Mathlib.Omega.{arith}
use Rattle.std.proofs.Math.Nat.{zero-add}
use Rattle.std.proofs.Math.Decide.{dec_lt}
use Rattle.std.proofs.lemmas.Bool.{eqb-false, lt-leb, not-false}
use Rattle.std.proofs.Math.ListN.{length, drop, length-append, length-drop}
use Rattle.std.proofs.Math.Seq.{drop-drop}
use Rattle.marks.specs.declared.Mark.TheVariants.{Right}
use Rattle.marks.specs.Answers.{NoneHolds}
use Rattle.marks.specs.AnswerLaws.{and_true, or_false}
use Rattle.search.specs.Finds.{LeastFrom}
use Rattle.calls.specs.State.{State}
use Rattle.calls.specs.Engine.{Section, start_in, past, stops_at, once, passed, Engine, handed, ListingLaws, AllOf, Chain, InSome, Finds, Laws, AtSuspect, Standing, Lawful}
use Rattle.calls.proofs.SearchLaws.{passed_few, passed_in, chain_ends}
use Rattle.std.specs.List.{list_any}
use Rattle.calls.specs.Kit.{Kit, in_kit, kit_faults, place_size, position, place_in, significand_in, Factors, first_in, last_of, last_in, has_at, suspect_at, mark_at, has_in, suspect_in, mark_in, place_at, section_at, sections_from, entry_list, searched_in, kit_engine}

-- ---- positions

pub place_of : (i X : ℕ) → X < place_size → place_in (position i X) ≡ i
place_of i X h = omega arith

pub significand_of_lem : (i X : ℕ) → X < place_size → significand_in (position i X) ≡ X
significand_of_lem i X h = omega arith

-- A position is that of its place and its significand.
pub position_is : (z : ℕ) → position (place_in z) (significand_in z) ≡ z
position_is z = omega arith

-- ---- lists of factors

-- What holds of all of a list holds of the one at a place.
pub all_at : {A : Type 0} (P : A → Type 0) (i : ℕ) (l r : List A) (f : A) → AllOf P l → drop i l ≡ f ∷ r → P f
all_at P zero (g ∷ l) r f a e = let q : g ≡ f = cc in subst P q a.0
all_at P zero [] r f a e = let z : ◌≡◌ {A = ℕ} 0 1 = cc in absurd (omega arith)
all_at P (suc i) (g ∷ l) r f a e = all_at P i l r f a.1 e
all_at P (suc i) [] r f a e = let z : ◌≡◌ {A = ℕ} 0 1 = cc in absurd (omega arith)

-- Where none of a list passes a test, each fails it.
pub none_of : {F : Type 0} (t : F → Bool) (l : List F) → list_any t l ≡ false → AllOf (λ f. t f ≡ false) l
none_of t [] q = tt
none_of t (f ∷ l) q = let o = or_false (t f) (list_any t l) q in (o.0, none_of t l o.1)

-- The last of a list stands at its last place.
pub drop_last : {F : Type 0} (f : F) (l : List F) → drop (length l) (f ∷ l) ≡ last_of f l ∷ []
drop_last f [] = refl
drop_last f (g ∷ l) = drop_last g l

-- Past the last place there is none.
pub drop_short : {A : Type 0} (i : ℕ) (l r : List A) (f : A) → drop i l ≡ f ∷ r → i < length l
drop_short zero (g ∷ l) r f e = omega arith
drop_short zero [] r f e = let z : ◌≡◌ {A = ℕ} 0 1 = cc in absurd (omega arith)
drop_short (suc i) (g ∷ l) r f e = omega (arith, drop_short i l r f e)
drop_short (suc i) [] r f e = let z : ◌≡◌ {A = ℕ} 0 1 = cc in absurd (omega arith)

-- What stands alone at a place is the last.
pub only_last : {F U : Type 0} (d : Factors F U) (i : ℕ) (l : List F) (f : F) → drop i l ≡ f ∷ [] → last_in d l ≡ d.engine.last (d.whole f)
only_last d zero [] f e = let z : ◌≡◌ {A = ℕ} 0 1 = cc in absurd (omega arith)
only_last d zero (g ∷ []) f e = let q : g ≡ f = cc in rw q refl
only_last d zero (g ∷ h ∷ l) f e = let z : ◌≡◌ {A = ℕ} 0 1 = cc in absurd (omega arith)
only_last d (suc i) [] f e = let z : ◌≡◌ {A = ℕ} 0 1 = cc in absurd (omega arith)
only_last d (suc i) (g ∷ []) f e = absurd (omega (arith, drop_short i [] [] f e))
only_last d (suc i) (g ∷ h ∷ l) f e = only_last d i (h ∷ l) f e

-- Those past a place.
pub drop_next : {A : Type 0} (i : ℕ) (l r : List A) (f : A) → drop i l ≡ f ∷ r → drop (suc i) l ≡ r
drop_next zero (g ∷ l) r f e = cc
drop_next zero [] r f e = let z : ◌≡◌ {A = ℕ} 0 1 = cc in absurd (omega arith)
drop_next (suc i) (g ∷ l) r f e = drop_next i l r f e
drop_next (suc i) [] r f e = let z : ◌≡◌ {A = ℕ} 0 1 = cc in absurd (omega arith)

pub all_drop : {A : Type 0} (P : A → Type 0) (i : ℕ) (l : List A) → AllOf P l → AllOf P (drop i l)
all_drop P zero l a = a
all_drop P (suc i) [] a = tt
all_drop P (suc i) (x ∷ l) a = all_drop P i l a.1

-- ---- sections of lists

all_join : {A : Type 0} (P : A → Type 0) (k l : List A) → AllOf P k → AllOf P l → AllOf P (k ++ l)
all_join P [] l a b = b
all_join P (x ∷ k) l a b = (a.0, all_join P k l a.1 b)

in_left : (X : ℕ) (k l : List Section) → InSome X k → InSome X (k ++ l)
in_left X [] l i = absurd i
in_left X (s ∷ k) l (inl i) = inl i
in_left X (s ∷ k) l (inr i) = inr (in_left X k l i)

in_right : (X : ℕ) (k l : List Section) → InSome X l → InSome X (k ++ l)
in_right X [] l i = i
in_right X (s ∷ k) l i = inr (in_right X k l i)

chain_from : (a b c : ℕ) (l : List Section) → a ≤ c → Chain c b l → Chain a b l
chain_from a b c [] h q = omega arith
chain_from a b c (s ∷ l) h q = (omega (arith, q.0), q.1, q.2)

chain_join : (a b c d : ℕ) (k l : List Section) → Chain a b k → b ≤ c → Chain c d l → Chain a d (k ++ l)
chain_join a b c d [] l p h q = chain_from a d c l (omega arith) q
chain_join a b c d (s ∷ k) l p h q = (p.0, p.1, chain_join s.end b c d k l p.2 h q)

-- Each lies between the beginning and the end.
pub chain_within : (a b : ℕ) (l : List Section) → Chain a b l → AllOf (λ s. (a ≤ s.from) × (s.end ≤ b)) l
chain_within a b [] q = tt
chain_within a b (s ∷ l) q =
    ((q.0, chain_ends l s.end b q.2), chain_within a b l (chain_from a b s.end l (omega (arith, q.0, q.1)) q.2))

-- A section past the stop is not passed.
passed_after : (c b a z : ℕ) (l : List Section) → Chain c b l → z < c → passed l a (Some z) ≡ 0
unfolding passed
passed_after c b a z [] q h = refl
passed_after c b a z (s ∷ l) q h = rw (lt-leb s.end z (omega (arith, q.0, q.1)), passed_after s.end b a z l q.2 (omega (arith, q.0, q.1)))

passed_join : (k l : List Section) (a : ℕ) (p : Option ℕ) → passed (k ++ l) a p ≡ passed k a p + passed l a p
unfolding passed
passed_join [] l a p = omega arith
passed_join (s ∷ k) l a p = omega (arith, passed_join k l a p)

-- ---- sections at a place

module _ (i : ℕ) where
  pub at_chain : (a b : ℕ) (l : List Section) → Chain a b l → Chain (position i a) (position i b) (map (section_at i) l)
  at_chain a b [] q = omega arith
  at_chain a b (s ∷ l) q = (omega (arith, q.0), omega (arith, q.1), at_chain s.end b l q.2)

  at_some : (X : ℕ) (l : List Section) → InSome X l → InSome (position i X) (map (section_at i) l)
  at_some X [] q = absurd q
  at_some X (s ∷ l) (inl q) = inl (omega (arith, q.0), omega (arith, q.1))
  at_some X (s ∷ l) (inr q) = inr (at_some X l q)

  -- one that a is past is not passed again
  at_passed : (first b a : ℕ) (p : Option ℕ) (l : List Section) → AllOf (λ s. (first ≤ s.from) × (s.end ≤ b)) l → position i b ≤ a → passed (map (section_at i) l) a p ≡ 0
  unfolding passed
  at_passed first b a p [] w h = refl
  at_passed first b a p (s ∷ l) w h =
      rw (le-ltb (start_in (section_at i s) a) (position i s.end) (omega (arith, w.0.1)), and-false (past (position i s.end) p), at_passed first b a p l w.1 h)

  at_length : (l : List Section) → length (map (section_at i) l) ≡ length l
  at_length [] = refl
  at_length (s ∷ l) = ap suc (at_length l)

  -- A search at a place finds what the factor's search finds, where the suspects there are the factor's.
  module _ (own all : ℕ → Bool) (first last B M : ℕ) (short : last < place_size) (less : B ≤ M) (same : (X : ℕ) → first ≤ X → X ≤ last → all (position i X) ≡ own X) where
    clear : (X end : ℕ) → first ≤ X → end ≤ suc last → ((Y : ℕ) → X ≤ Y → Y < end → own Y ≡ false) → (Z : ℕ) → position i X ≤ Z → Z < position i end → all Z ≡ false
    clear X end h k q Z u v =
        let Y : ℕ = Z - position i 0 in
        let e : position i Y ≡ Z = omega arith in
        subst (λ (z : ℕ). all z ≡ false) e (same Y (omega arith) (omega arith) ∙ q Y (omega arith) (omega arith))

    at_least : (X end : ℕ) (p : Option ℕ) → first ≤ X → end ≤ suc last → LeastFrom own end X p → LeastFrom all (position i end) (position i X) (place_at i p)
    at_least X end None h k q = clear X end h k q
    at_least X end (Some Y) h k q = (
      omega (arith, q.0),
      (λ u. same Y (omega (arith, q.0)) (omega arith) ∙ q.1 (omega arith)),
      (λ Z u v w.
          let W : ℕ = Z - position i 0 in
          let e : position i W ≡ Z = omega arith in
          subst (λ (z : ℕ). all z ≡ false) e (same W (omega arith) (omega arith) ∙ q.2 W (omega arith) (omega arith) (omega arith))),
    )

    at_finds : (l : List Section) → AllOf (λ s. (first ≤ s.from) × (s.end ≤ suc last)) l → AllOf (Finds own B) l → AllOf (Finds all M) (map (section_at i) l)
    at_finds [] w f = tt
    at_finds (s ∷ l) w f = (
      record {
        least = λ a h k.
            let X : ℕ = significand_in a in
            let e : position i X ≡ a = omega (arith, w.0) in
            subst (λ (z : ℕ). LeastFrom all (position i s.end) z (place_at i (s.find X).place)) e
            (at_least X s.end (s.find X).place (omega (arith, w.0)) w.0.1 (f.0.least X (omega arith) (omega arith)));
        few = λ a h k.
            let X : ℕ = significand_in a in
            let e : position i X ≡ a = omega (arith, w.0) in
            omega (arith, f.0.few X (omega arith) (omega arith));
      },
      at_finds l w.1 f.1,
    )

-- ---- the engine of kits

-- What the numerics must supply of factors, besides that their engine is lawful: 31 lets those through of which a new sweep over all significands is not refused; these are short; they have two
-- sections at most; and M is the most rounds of a search, whatever the factor.
pub record FactorLaws {F U : Type 0} (suspect : U → ℕ → Bool) (d : Factors F U) (B : U → ℕ) (M : ℕ) : Type 0 where
  pub lawful : Lawful suspect d.engine B
  pub good : (f : F) → d.faulty f ≡ false → NoneHolds (d.engine.new_faults (d.whole f))
  pub short : (f : F) → d.faulty f ≡ false → d.engine.last (d.whole f) < place_size
  pub halved : (f : F) → length (d.engine.sections (d.whole f)) ≤ 2
  pub few : (f : F) → d.faulty f ≡ false → B (d.whole f) ≤ M

-- Entries of two words are kept as lists must be.
pub entry_laws : ListingLaws entry_list
entry_laws =
    record {
      some = omega arith;
      long = λ w. refl;
      tells = λ v w e. let a : v / (2 * place_size) ≡ w / (2 * place_size) = cc in let b : v % (2 * place_size) ≡ w % (2 * place_size) = cc in omega arith;
      takes = λ t h. (omega (arith, eqb-false t.cap 0 h.0), ltb-false (t.size - t.free) 2 h.1.0);
      tails = λ t h. (h.0, (le-ltb (t.size - t.free - 0) 2 (omega (arith, ltb-false (t.size - t.free) 2 h.1.0)), tt));
    }

module _ {F U : Type 0} {suspect : U → ℕ → Bool} {d : Factors F U} {B : U → ℕ} {M : ℕ} (laws : FactorLaws suspect d B M) where
  abbrev e : Engine U
  e = d.engine

  -- 31 lets a factor through
  abbrev pub Passed : F → Type 0
  Passed f = d.faulty f ≡ false

  pub laws_of : (f : F) → Passed f → Laws (suspect (d.whole f)) e (d.whole f) (B (d.whole f))
  laws_of f q = laws.lawful.laws (d.whole f) (laws.good f q)

  -- ---- factors from a place on

  pub sections_chain : (i : ℕ) (f : F) (l : List F) → AllOf Passed (f ∷ l)
      → Chain (position i (e.first (d.whole f))) (suc (position (i + length l) (e.last (d.whole (last_of f l))))) (sections_from d i (f ∷ l))
  unfolding sections_from
  sections_chain i f [] a =
      chain_join (position i (e.first (d.whole f))) (position i (suc (e.last (d.whole f)))) (position i (suc (e.last (d.whole f)))) (suc (position (i + 0) (e.last (d.whole f)))) (map (section_at i) (e.sections (d.whole f))) []
      (at_chain i (e.first (d.whole f)) (suc (e.last (d.whole f))) (e.sections (d.whole f)) (laws_of f a.0).chain) (omega arith) (omega arith)
  sections_chain i f (g ∷ l) a =
      chain_join (position i (e.first (d.whole f))) (position i (suc (e.last (d.whole f)))) (position (suc i) (e.first (d.whole g))) (suc (position (i + length (g ∷ l)) (e.last (d.whole (last_of g l)))))
      (map (section_at i) (e.sections (d.whole f))) (sections_from d (suc i) (g ∷ l))
      (at_chain i (e.first (d.whole f)) (suc (e.last (d.whole f))) (e.sections (d.whole f)) (laws_of f a.0).chain) (omega (arith, laws.short f a.0))
      (subst (λ (z : ℕ). Chain (position (suc i) (e.first (d.whole g))) (suc (position z (e.last (d.whole (last_of g l))))) (sections_from d (suc i) (g ∷ l))) (omega arith) (sections_chain (suc i) g l a.1))

  -- what lies in a section of a factor lies in one of all
  sections_some : (j i : ℕ) (l r : List F) (f : F) (X : ℕ) → drop j l ≡ f ∷ r → InSome X (e.sections (d.whole f)) → InSome (position (i + j) X) (sections_from d i l)
  unfolding sections_from
  sections_some j i [] r f X q s = absurd (omega (arith, drop_short j [] r f q))
  sections_some zero i (g ∷ l) r f X q s =
      let same : g ≡ f = cc in
      rw same
      (in_left (position (i + 0) X) (map (section_at i) (e.sections (d.whole f))) (sections_from d (suc i) l)
      (rw (add-zero i) (at_some i X (e.sections (d.whole f)) s)))
  sections_some (suc j) i (g ∷ l) r f X q s =
      in_right (position (i + suc j) X) (map (section_at i) (e.sections (d.whole g))) (sections_from d (suc i) l)
      (subst (λ (z : ℕ). InSome (position z X) (sections_from d (suc i) l)) (omega arith) (sections_some j (suc i) l r f X q s))

  -- those of later places lie past a stop
  passed_later : (i : ℕ) (l : List F) (a z : ℕ) → AllOf Passed l → z < position i 0 → passed (sections_from d i l) a (Some z) ≡ 0
  unfolding sections_from passed
  passed_later i [] a z t h = refl
  passed_later i (f ∷ l) a z t h = passed_after _ _ a z (sections_from d i (f ∷ l)) (sections_chain i f l t) (omega arith)

  pub sections_few : (i : ℕ) (l : List F) → length (sections_from d i l) ≤ 2 * length l
  unfolding sections_from
  sections_few i [] = omega arith
  sections_few i (f ∷ l) =
      omega (arith, length-append (map (section_at i) (e.sections (d.whole f))) (sections_from d (suc i) l), at_length i (e.sections (d.whole f)), laws.halved f, sections_few (suc i) l)

  -- ---- what stands at a position; fs are the factors of a kit

  module _ (fs : List F) (through : AllOf Passed fs) where
    -- a position that a factor has
    pub record Placed (z : ℕ) : Type 0 where
      pub factor : F
      pub rest : List F
      pub at : drop (place_in z) fs ≡ factor ∷ rest
      pub passes : Passed factor
      pub there : e.has (d.whole factor) (significand_in z) ≡ true
      pub from : e.first (d.whole factor) ≤ significand_in z
      pub upto : significand_in z ≤ e.last (d.whole factor)

    placed : (z : ℕ) (f : F) (r : List F) → drop (place_in z) fs ≡ f ∷ r → e.has (d.whole f) (significand_in z) ≡ true → Placed z
    placed z f r q h =
        let p = all_at Passed (place_in z) fs r f through q in
        let i = (laws_of f p).between (significand_in z) h in
        record { factor = f; rest = r; at = q; passes = p; there = h; from = i.0; upto = i.1 }

    pub has_placed : (z : ℕ) → has_at d (drop (place_in z) fs) (significand_in z) ≡ true → Placed z
    has_placed z = go (drop (place_in z) fs) refl
      where
        go : (l : List F) → drop (place_in z) fs ≡ l → has_at d l (significand_in z) ≡ true → Placed z
        go [] q h = absurd (true≢false (sym h))
        go (f ∷ r) q h = placed z f r q h

    pub suspect_placed : (z : ℕ) → suspect_at suspect d (drop (place_in z) fs) (significand_in z) ≡ true
        → Placed z × (has_at d (drop (place_in z) fs) (significand_in z) ≡ true)
    suspect_placed z = go (drop (place_in z) fs) refl
      where
        go : (l : List F) → drop (place_in z) fs ≡ l → suspect_at suspect d l (significand_in z) ≡ true → Placed z × (has_at d l (significand_in z) ≡ true)
        go [] q h = absurd (true≢false (sym h))
        go (f ∷ r) q h = let i = and_true (e.has (d.whole f) (significand_in z)) (suspect (d.whole f) (significand_in z)) h in (placed z f r q i.0, i.0)

    -- a suspect at a position is one of the factor's
    pub own_suspect : (z : ℕ) (p : Placed z) → suspect_at suspect d (drop (place_in z) fs) (significand_in z) ≡ true → suspect (d.whole p.factor) (significand_in z) ≡ true
    own_suspect z p h =
        (and_true (e.has (d.whole p.factor) (significand_in z)) (suspect (d.whole p.factor) (significand_in z))
        (subst (λ (l : List F). suspect_at suspect d l (significand_in z) ≡ true) p.at h)).1

    -- it lies in a section
    suspect_some : (z : ℕ) → suspect_at suspect d (drop (place_in z) fs) (significand_in z) ≡ true → InSome z (sections_from d 0 fs)
    suspect_some z h =
        let p = (suspect_placed z h).0 in
        let s = (laws_of p.factor p.passes).tiled (significand_in z) p.from p.upto (own_suspect z p h) in
        let q : position (0 + place_in z) (significand_in z) ≡ z = omega arith in
        subst (λ (y : ℕ). InSome y (sections_from d 0 fs)) q (sections_some (place_in z) 0 fs p.rest p.factor (significand_in z) p.at s)

    -- what is not right is a suspect
    failing_suspect : (z : ℕ) → mark_at d (drop (place_in z) fs) (significand_in z) ≢ Right → suspect_at suspect d (drop (place_in z) fs) (significand_in z) ≡ true
    unfolding placed
    failing_suspect z = go (drop (place_in z) fs) refl
      where
        X : ℕ
        X = significand_in z

        go : (l : List F) → drop (place_in z) fs ≡ l → mark_at d l X ≢ Right → suspect_at suspect d l X ≡ true
        go [] q m = absurd (m refl)
        go (f ∷ r) q m = had (e.has (d.whole f) X) refl m
          where
            had : (t : Bool) → e.has (d.whole f) X ≡ t → cond t (e.mark (d.whole f) X) Right ≢ Right → t && suspect (d.whole f) X ≡ true
            had false h n = absurd (n refl)
            had true h n = let p = placed z f r q h in (laws_of f p.passes).suspected X p.from p.upto n

    -- the suspects of a factor, as positions
    pub same_suspects : (i : ℕ) (f : F) (r : List F) → drop i fs ≡ f ∷ r → Passed f → (X : ℕ) → e.first (d.whole f) ≤ X → X ≤ e.last (d.whole f)
        → suspect_at suspect d (drop (place_in (position i X)) fs) (significand_in (position i X)) ≡ suspect (d.whole f) X
    same_suspects i f r q p X h k =
        let short = laws.short f p in
        rw (place_of i X (omega arith), significand_of_lem i X (omega arith), q) (go (suspect (d.whole f) X) refl)
      where
        go : (t : Bool) → suspect (d.whole f) X ≡ t → e.has (d.whole f) X && t ≡ t
        go true s = rw ((laws_of f p).had X h k s)
        go false s = and-false (e.has (d.whole f) X)

    sections_find : (i : ℕ) (l : List F) → drop i fs ≡ l → AllOf (Finds (λ z. suspect_at suspect d (drop (place_in z) fs) (significand_in z)) M) (sections_from d i l)
    unfolding sections_from
    sections_find i [] q = tt
    sections_find i (f ∷ l) q =
        let p = all_at Passed i fs l f through q in
        let law = laws_of f p in
        let first : ℕ = e.first (d.whole f) in
        let last : ℕ = e.last (d.whole f) in
        all_join _ (map (section_at i) (e.sections (d.whole f))) (sections_from d (suc i) l)
        (at_finds i (suspect (d.whole f)) (λ z. suspect_at suspect d (drop (place_in z) fs) (significand_in z)) first last (B (d.whole f)) M (laws.short f p) (laws.few f p)
        (same_suspects i f l q p) (e.sections (d.whole f)) (chain_within first (suc last) (e.sections (d.whole f)) law.chain) law.finds)
        (sections_find (suc i) l (drop_next i fs l f q))

    -- ---- how many sections are passed

    -- those before the place of a
    passed_from : (j i : ℕ) (l : List F) (a : ℕ) (p : Option ℕ) → AllOf Passed l → position (i + j) 0 ≤ a → passed (sections_from d i l) a p ≡ passed (sections_from d (i + j) (drop j l)) a p
    unfolding sections_from passed
    passed_from zero i l a p t h = rw (add-zero i)
    passed_from (suc j) i [] a p t h = refl
    passed_from (suc j) i (f ∷ l) a p t h =
        let law = laws_of f t.0 in
        let own = at_passed i (e.first (d.whole f)) (suc (e.last (d.whole f))) a p (e.sections (d.whole f)) (chain_within (e.first (d.whole f)) (suc (e.last (d.whole f))) (e.sections (d.whole f)) law.chain) (omega (arith, laws.short f t.0)) in
        let past : i + suc j ≡ suc i + j = omega arith in
        passed_join (map (section_at i) (e.sections (d.whole f))) (sections_from d (suc i) l) a p
        ∙ ap (λ (n : ℕ). n + passed (sections_from d (suc i) l) a p) own
        ∙ zero-add (passed (sections_from d (suc i) l) a p)
        ∙ passed_from j (suc i) l a p t.1 (omega arith)
        ∙ ap (λ (n : ℕ). passed (sections_from d n (drop j l)) a p) (sym past)

    -- up to a stop in the factor m places on
    passed_to : (m i : ℕ) (l r : List F) (g : F) (a X : ℕ) → AllOf Passed l → drop m l ≡ g ∷ r → X ≤ e.last (d.whole g) → InSome X (e.sections (d.whole g))
        → suc (passed (sections_from d i l) a (Some (position (i + m) X))) ≤ 2 * suc m
    unfolding sections_from
    passed_to m i [] r g a X t q k s = absurd (omega (arith, drop_short m [] r g q))
    passed_to zero i (f ∷ l) r g a X t q k s =
        let same : f ≡ g = cc in
        let z : ℕ = position (i + 0) X in
        let own : List Section = map (section_at i) (e.sections (d.whole f)) in
        let inside : InSome z own = subst (λ (y : F). InSome z (map (section_at i) (e.sections (d.whole y)))) (sym same) (rw (add-zero i) (at_some i X (e.sections (d.whole g)) s)) in
        let short = laws.short g (subst Passed same t.0) in
        omega (
          arith,
          passed_join own (sections_from d (suc i) l) a (Some z),
          passed_in own a z inside,
          at_length i (e.sections (d.whole f)),
          laws.halved f,
          passed_later (suc i) l a z t.1 (omega arith),
        )
    passed_to (suc m) i (f ∷ l) r g a X t q k s =
        let own : List Section = map (section_at i) (e.sections (d.whole f)) in
        let past : position (suc i + m) X ≡ position (i + suc m) X = omega arith in
        let z : ℕ = position (i + suc m) X in
        let rest : suc (passed (sections_from d (suc i) l) a (Some z)) ≤ 2 * suc m = subst (λ (y : ℕ). suc (passed (sections_from d (suc i) l) a (Some y)) ≤ 2 * suc m) past (passed_to m (suc i) l r g a X t.1 q k s) in
        omega (arith, passed_join own (sections_from d (suc i) l) a (Some z), passed_few own a (Some z), at_length i (e.sections (d.whole f)), laws.halved f)

    -- ---- first and last

    module _ (some : 0 < length fs) where
      first_there : has_at d (drop (place_in (position 0 (first_in d fs))) fs) (significand_in (position 0 (first_in d fs))) ≡ true
      first_there = go fs refl
        where
          go : (l : List F) → fs ≡ l → has_at d (drop (place_in (position 0 (first_in d l))) l) (significand_in (position 0 (first_in d l))) ≡ true
          go [] q = absurd (omega (arith, ap length q))
          go (f ∷ l) q =
              let p : Passed f = (subst (AllOf Passed) q through).0 in
              let law = laws_of f p in
              let short : e.first (d.whole f) < place_size = omega (arith, law.ordered, laws.short f p) in
              rw (place_of 0 (e.first (d.whole f)) short, significand_of_lem 0 (e.first (d.whole f)) short) law.begins

      last_there : has_at d (drop (place_in (position (length fs - 1) (last_in d fs))) fs) (significand_in (position (length fs - 1) (last_in d fs))) ≡ true
      last_there = go fs refl
        where
          go : (l : List F) → fs ≡ l → has_at d (drop (place_in (position (length l - 1) (last_in d l))) l) (significand_in (position (length l - 1) (last_in d l))) ≡ true
          go [] q = absurd (omega (arith, ap length q))
          go (f ∷ l) q =
              let p : Passed (last_of f l) = all_at Passed (length l) (f ∷ l) [] (last_of f l) (subst (AllOf Passed) q through) (drop_last f l) in
              let short = laws.short (last_of f l) p in
              let n : suc (length l) - 1 ≡ length l = omega arith in
              rw (
                n,
                place_of (length l) (e.last (d.whole (last_of f l))) short,
                significand_of_lem (length l) (e.last (d.whole (last_of f l))) short,
                drop_last f l,
              )
              (laws_of (last_of f l) p).ends

      pub last_place : place_in (position (length fs - 1) (last_in d fs)) ≡ length fs - 1
      last_place = go fs refl
        where
          go : (l : List F) → fs ≡ l → place_in (position (length l - 1) (last_in d l)) ≡ length l - 1
          go [] q = absurd (omega (arith, ap length q))
          go (f ∷ l) q =
              place_of (length (f ∷ l) - 1) (e.last (d.whole (last_of f l)))
              (laws.short (last_of f l) (all_at Passed (length l) (f ∷ l) [] (last_of f l) (subst (AllOf Passed) q through) (drop_last f l)))

      pub last_significand : significand_in (position (length fs - 1) (last_in d fs)) ≡ last_in d fs
      last_significand = go fs refl
        where
          go : (l : List F) → fs ≡ l → significand_in (position (length l - 1) (last_in d l)) ≡ last_in d l
          go [] q = absurd (omega (arith, ap length q))
          go (f ∷ l) q =
              significand_of_lem (length (f ∷ l) - 1) (e.last (d.whole (last_of f l)))
              (laws.short (last_of f l) (all_at Passed (length l) (f ∷ l) [] (last_of f l) (subst (AllOf Passed) q through) (drop_last f l)))

      placed_between : (z : ℕ) → Placed z → (position 0 (first_in d fs) ≤ z) × (z ≤ position (length fs - 1) (last_in d fs))
      placed_between z p = go fs refl
        where
          go : (l : List F) → fs ≡ l → (position 0 (first_in d l) ≤ z) × (z ≤ position (length l - 1) (last_in d l))
          go [] q = absurd (omega (arith, ap length q))
          go (f ∷ l) q = (begun (place_in z) refl at, closed (dec_lt (place_in z) (length l)))
            where
              at : drop (place_in z) (f ∷ l) ≡ p.factor ∷ p.rest
              at = subst (λ (l : List F). drop (place_in z) l ≡ p.factor ∷ p.rest) q p.at

              begun : (i : ℕ) → place_in z ≡ i → drop (place_in z) (f ∷ l) ≡ p.factor ∷ p.rest → position 0 (e.first (d.whole f)) ≤ z
              begun zero u v =
                  let w : drop 0 (f ∷ l) ≡ p.factor ∷ p.rest = ap (λ (i : ℕ). drop i (f ∷ l)) (sym u) ∙ v in
                  let same : f ≡ p.factor = cc in
                  omega (arith, p.from, ap (λ (g : F). e.first (d.whole g)) same)
              begun (suc i) u v =
                  let x : Passed f = (subst (AllOf Passed) q through).0 in
                  omega (arith, (laws_of f x).ordered, laws.short f x)

              closed : Dec (place_in z < length l) → z ≤ position (length (f ∷ l) - 1) (e.last (d.whole (last_of f l)))
              closed (yes k) = omega arith
              closed (no k) =
                  let i = drop_short (place_in z) (f ∷ l) p.rest p.factor at in
                  let u : place_in z ≡ length l = omega arith in
                  let w : last_of f l ∷ [] ≡ p.factor ∷ p.rest = sym (drop_last f l) ∙ ap (λ (i : ℕ). drop i (f ∷ l)) (sym u) ∙ at in
                  let same : last_of f l ≡ p.factor = cc in
                  omega (arith, p.upto, ap (λ (g : F). e.last (d.whole g)) same)

      all_chain : Chain (position 0 (first_in d fs)) (suc (position (length fs - 1) (last_in d fs))) (sections_from d 0 fs)
      all_chain = go fs refl
        where
          go : (l : List F) → fs ≡ l → Chain (position 0 (first_in d l)) (suc (position (length l - 1) (last_in d l))) (sections_from d 0 l)
          go [] q = absurd (omega (arith, ap length q))
          go (f ∷ l) q =
              let n : 0 + length l ≡ suc (length l) - 1 = omega arith in
              subst (λ (m : ℕ). Chain (position 0 (e.first (d.whole f))) (suc (position m (e.last (d.whole (last_of f l))))) (sections_from d 0 (f ∷ l))) n
              (sections_chain 0 f l (subst (AllOf Passed) q through))

  -- ---- the laws

  -- the factors of a kit that is not refused
  pub kit_through : (k : Kit F) → NoneHolds (kit_faults d.faulty d.alike k) → AllOf Passed (in_kit k)
  kit_through k good = none_of d.faulty (in_kit k) good.1.0

  pub kit_some : (k : Kit F) → NoneHolds (kit_faults d.faulty d.alike k) → 0 < length (in_kit k)
  kit_some k good = omega (arith, eqb-false (length (in_kit k)) 0 (or_false (eqb (length (in_kit k)) 0) (ltb 96 k.count) good.0).0)

  pub kit_laws : (k : Kit F) → NoneHolds (kit_faults d.faulty d.alike k) → Laws (suspect_in suspect d k) (kit_engine d) k M
  unfolding has_in suspect_in mark_in
  kit_laws k good =
      let fs = in_kit k in
      let through = kit_through k good in
      let some = kit_some k good in
      record {
        ordered = (placed_between fs through some _ (has_placed fs through _ (first_there fs through some))).1;
        begins = first_there fs through some;
        ends = last_there fs through some;
        between = λ z h. placed_between fs through some z (has_placed fs through z h);
        had = λ z h k s. (suspect_placed fs through z s).1;
        lists = entry_laws;
        suspected = λ z h k m. failing_suspect fs through z m;
        chain = all_chain fs through some;
        tiled = λ z h k s. suspect_some fs through z s;
        finds = sections_find fs through 0 fs refl;
      }

  kit_spans : (s : State (Kit F)) → Standing (kit_engine d) s → (p : Option ℕ) → AtSuspect (suspect_in suspect d s.over) s.next ((kit_engine d).last s.over) p
      → once (stops_at p) + passed (sections_from d 0 (in_kit s.over)) s.next p ≤ 2 * searched_in s (handed (kit_engine d) s p)
  unfolding has_in suspect_in
  kit_spans s stands (Some z) q =
      let fs = in_kit s.over in
      let through = kit_through s.over stands.sound in
      let i : ℕ = place_in s.next in
      let p = (suspect_placed fs through z q.2).0 in
      let before = passed_from fs through i 0 fs s.next (Some z) through (omega arith) in
      let m : ℕ = place_in z - i in
      let sum : i + m ≡ place_in z = omega (arith, q.0) in
      let at : drop m (drop i fs) ≡ p.factor ∷ p.rest = drop-drop m i fs ∙ ap (λ (n : ℕ). drop n fs) sum ∙ p.at in
      let inside = (laws_of p.factor p.passes).tiled (significand_in z) p.from p.upto (own_suspect fs through z p q.2) in
      let to = passed_to fs through m (0 + i) (drop i fs) p.rest p.factor s.next (significand_in z) (all_drop Passed i fs through) at p.upto inside in
      let same : position (0 + i + m) (significand_in z) ≡ z = omega (arith, q.0) in
      let few : suc (passed (sections_from d (0 + i) (drop i fs)) s.next (Some z)) ≤ 2 * suc m = subst (λ (y : ℕ). suc (passed (sections_from d (0 + i) (drop i fs)) s.next (Some y)) ≤ 2 * suc m) same to in
      omega (arith, before, q.0)
  kit_spans s stands None q =
      let fs = in_kit s.over in
      let through = kit_through s.over stands.sound in
      let some = kit_some s.over stands.sound in
      let i : ℕ = place_in s.next in
      let before = passed_from fs through i 0 fs s.next None through (omega arith) in
      let rest = passed_few (sections_from d (0 + i) (drop i fs)) s.next None in
      let last = last_place fs through some in
      omega (arith, before, rest, sections_few (0 + i) (drop i fs), length-drop i fs)

  -- The engine of kits is lawful.
  pub kit_lawful : Lawful (suspect_in suspect d) (kit_engine d) (λ k. M)
  kit_lawful =
      record {
        states = λ s. (
          (λ h. record { sound = (h.0, (h.1.0, (h.1.1.0, tt))); there = not-false _ h.1.1.1.0 }),
          (λ h. (h.sound.0, (h.sound.1.0, (h.sound.1.1.0, (ap not h.there, tt))))),
        );
        laws = kit_laws;
        spans = kit_spans;
      }
