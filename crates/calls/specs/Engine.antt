-- Definitions: what is swept as a sweep sees it, and the few facts that the numerics must supply of it.
use Rattle.std.specs.Prelude.{◌≡◌, Bool, true, false, cond, ◌&&◌, ◌≢◌, ◌⊎◌, ◌↔◌, List, [], ◌∷◌, ℕ, suc, ◌+◌, ◌-◌, ◌≤◌, ◌<◌, min, max, leb, ltb, length, Option, Some, None}
use Rattle.marks.specs.declared.Mark.{Mark}
use Rattle.marks.specs.declared.Mark.TheVariants.{Right}
use Rattle.marks.specs.Answers.{NoneHolds}
use Rattle.search.specs.declared.Found.{Found}
use Rattle.search.specs.Finds.{LeastFrom}
use Rattle.calls.specs.State.{State, Terms, tail_terms, Listing}

-- ---- sections

-- A part of the significands that is searched by itself, as a half is: from one up to but not including an end, and what a search from one of them on comes to: the place that it
-- finds, be it past the end, and its rounds.
pub record Section : Type 0 where
  pub from : ℕ
  pub end : ℕ
  pub find : ℕ → Found

-- The halves of the significands: X is low if L × X < 2^(62+n), L being the lower end, else high.
pub data Half : Type 0 where
  low high : Half

-- Where the low half's part of a range ends: before the first high significand, or past the last of the range; at its first, where all of it is high.
abbrev pub low_end : (first_high first last : ℕ) → ℕ
low_end first_high first last = max first (min first_high (suc last))

-- Both halves of a range: low X are searched before high X.
abbrev pub halves : (first_high first last : ℕ) → (Half → ℕ → Found) → List Section
halves first_high first last find =
    record { from = first; end = low_end first_high first last; find = find low }
    ∷ record { from = low_end first_high first last; end = suc last; find = find high }
    ∷ []

-- Where the search of a section starts, on the way from a on: at the larger of a and its first significand.
abbrev pub start_in : Section → ℕ → ℕ
start_in s a = max a s.from

-- Whether a place, or its absence, lies past an end.
abbrev pub past : (end : ℕ) → Option ℕ → Bool
past end (Some X) = leb end X
past end None = true

-- Whether a call stops at a suspect, and so leaves some.
abbrev pub stops_at : Option ℕ → Bool
stops_at (Some X) = true
stops_at None = false

-- 1 where a test holds.
abbrev pub once : Bool → ℕ
once t = cond t 1 0

-- How many sections with a significand from a on lie before a place.
unfoldable pub passed : List Section → (a : ℕ) → Option ℕ → ℕ
passed [] a p = 0
passed (s ∷ l) a p = once (past s.end p && ltb (start_in s a) s.end) + passed l a p

-- ---- engines

-- What a sweep asks of what is swept. U is its type.
pub record Engine (U : Type 0) : Type 0 where
  -- the conditions that refuse a new state, with their numbers
  pub new_faults : U → List (ℕ × Bool)
  -- the conditions on a state, finished or not, that refuse a call
  pub faults : State U → List (ℕ × Bool)
  -- how the lists of its calls are kept
  pub listing : U → Listing
  -- the first and the last significand, and whether a number is one of them
  pub first : U → ℕ
  pub last : U → ℕ
  pub has : U → ℕ → Bool
  -- the mark of a significand's product
  pub mark : U → ℕ → Mark
  -- the sections, in the order in which they are searched
  pub sections : U → List Section
  -- how many searches more than trials a call may make, by the states before and after it
  pub beyond : State U → State U → ℕ

-- A new state has the first as next and is not finished.
abbrev pub fresh : {U : Type 0} → Engine U → U → State U
fresh e u = record { over = u; next = e.first u; finished = false }

-- where a suspect is stopped at, it is the next significand; the state is finished exactly when no suspect remains, and the next significand is then the last of the range
abbrev pub handed : {U : Type 0} → Engine U → State U → Option ℕ → State U
handed e s (Some X) = record { over = s.over; next = X; finished = false }
handed e s None = record { over = s.over; next = e.last s.over; finished = true }

-- ---- what is asked of lists

-- What is asked of how lists are kept. Which calls are refused is the listing's own: what whole sweeps owe is about those that are not.
pub record ListingLaws (l : Listing) : Type 0 where
  -- an entry takes a place
  pub some : 0 < l.places
  -- and all take as many
  pub long : (w : ℕ) → length (l.entry w) ≡ l.places
  -- and each tells its word
  pub tells : (v w : ℕ) → l.entry v ≡ l.entry w → v ≡ w
  -- a call that is not refused has a cap of at least 1 and room for an entry
  pub takes : (t : Terms) → NoneHolds (l.refuses t) → (0 < t.cap) × (l.places ≤ t.size - t.free)
  -- nor is the same one on the free tail of its list
  pub tails : (t : Terms) → NoneHolds (l.refuses t) → NoneHolds (l.refuses (tail_terms t))

-- ---- what is asked of sections

-- P of each of a list.
abbrev pub AllOf : {A : Type 0} → (A → Type 0) → List A → Type 0
AllOf P [] = Unit {0}
AllOf P (x ∷ l) = P x × AllOf P l

-- Sections follow one another, from a up to b.
abbrev pub Chain : (a b : ℕ) → List Section → Type 0
Chain a b [] = a ≤ b
Chain a b (s ∷ l) = (a ≤ s.from) × (s.from ≤ s.end) × Chain s.end b l

-- X lies in one of them.
abbrev pub InSome : ℕ → List Section → Type 0
InSome X [] = ⊥
InSome X (s ∷ l) = ((s.from ≤ X) × (X < s.end)) ⊎ InSome X l

-- A section's search from one of its significands on finds the least suspect, as far as the section goes, in at most B rounds.
pub record Finds (suspect : ℕ → Bool) (B : ℕ) (s : Section) : Type 0 where
  pub least : (a : ℕ) → s.from ≤ a → a < s.end → LeastFrom suspect s.end a (s.find a).place
  pub few : (a : ℕ) → s.from ≤ a → a < s.end → (s.find a).rounds ≤ B

-- ---- what is asked of engines

-- What the numerics must supply of u, over which a new state is not refused. B is the most rounds that a search takes.
pub record Laws {U : Type 0} (suspect : ℕ → Bool) (e : Engine U) (u : U) (B : ℕ) : Type 0 where
  -- the first and the last are significands of it, the one not above the other, and all others lie between
  pub ordered : e.first u ≤ e.last u
  pub begins : e.has u (e.first u) ≡ true
  pub ends : e.has u (e.last u) ≡ true
  pub between : (X : ℕ) → e.has u X ≡ true → (e.first u ≤ X) × (X ≤ e.last u)
  -- suspects are significands of it
  pub had : (X : ℕ) → e.first u ≤ X → X ≤ e.last u → suspect X ≡ true → e.has u X ≡ true
  -- the lists are kept as they must be
  pub lists : ListingLaws (e.listing u)
  -- every X that is not right is a suspect
  pub suspected : (X : ℕ) → e.first u ≤ X → X ≤ e.last u → e.mark u X ≢ Right → suspect X ≡ true
  -- the sections follow one another, every suspect lies in one, and each is searched as it must be
  pub chain : Chain (e.first u) (suc (e.last u)) (e.sections u)
  pub tiled : (X : ℕ) → e.first u ≤ X → X ≤ e.last u → suspect X ≡ true → InSome X (e.sections u)
  pub finds : AllOf (Finds suspect B) (e.sections u)

-- A place is a suspect from a to the last, or none.
abbrev pub AtSuspect : (ℕ → Bool) → (a last : ℕ) → Option ℕ → Type 0
AtSuspect suspect a last (Some X) = (a ≤ X) × (X ≤ last) × (suspect X ≡ true)
AtSuspect suspect a last None = Unit {0}

-- A state over what a new one is not refused over, its next significand being one of that.
pub record Standing {U : Type 0} (e : Engine U) (s : State U) : Type 0 where
  pub sound : NoneHolds (e.new_faults s.over)
  pub there : e.has s.over s.next ≡ true

-- An engine is lawful if just such states are not refused, and the laws hold wherever a new state is not refused.
pub record Lawful {U : Type 0} (suspect : U → ℕ → Bool) (e : Engine U) (B : U → ℕ) : Type 0 where
  pub states : (s : State U) → NoneHolds (e.faults s) ↔ Standing e s
  pub laws : (u : U) → NoneHolds (e.new_faults u) → Laws (suspect u) e u (B u)
  -- the sections that a call from a state to its stop completes, and the one of the suspect stopped at, are as few as they may be
  pub spans : (s : State U) → Standing e s → (p : Option ℕ) → AtSuspect (suspect s.over) s.next (e.last s.over) p
      → once (stops_at p) + passed (e.sections s.over) s.next p ≤ e.beyond s (handed e s p)
