-- Definitions: a kit of factors and its sweep, over any type of factors. A kit is swept as a factor is: its significands are positions, a place and a significand as one number, and its sections are those of its factors, one after another.
-- So a kit call is `sweep_call`, a plain kit sweep is the plain sweep, and what whole sweeps owe is owed of kits too.
use Rattle.std.specs.Prelude.{Bool, false, cond, not, ◌&&◌, ◌||◌, List, [], ◌∷◌, ◌++◌, map, ℕ, suc, ◌+◌, ◌-◌, ◌*◌, ◌/◌, ◌%◌, ◌^◌, eqb, ltb, length, take, drop, Option, Some, None}
use Rattle.std.specs.List.{list_any}
use Rattle.marks.specs.declared.Mark.{Mark}
use Rattle.marks.specs.declared.Mark.TheVariants.{Right}
use Rattle.search.specs.declared.Found.{Found}
use Rattle.calls.specs.State.{State, Listing}
use Rattle.calls.specs.Engine.{Section, Engine}

-- ---- kits

-- A kit holds up to 96 factors, stored by value with their number. F is the type of factors.
pub record Kit (F : Type 0) : Type 0 where
  pub factors : List F
  pub count : ℕ

-- The factors of a kit, in kit order. What stands past the number is not in it.
abbrev pub in_kit : {F : Type 0} → Kit F → List F
in_kit k = take k.count k.factors

-- Whether two of a list are alike.
unfoldable pub two_alike : {F : Type 0} → (F → F → Bool) → List F → Bool
two_alike alike [] = false
two_alike alike (f ∷ l) = list_any (alike f) l || two_alike alike l

-- Checks when a kit is formed: 42, kit empty or above 96, then 31, then 43, two factors alike
abbrev pub kit_faults : {F : Type 0} → (faulty : F → Bool) (alike : F → F → Bool) → Kit F → List (ℕ × Bool)
kit_faults faulty alike k =
    (42, eqb (length (in_kit k)) 0 || ltb 96 k.count)
    ∷ (31, list_any faulty (in_kit k))
    ∷ (43, two_alike alike (in_kit k))
    ∷ []

-- ---- positions

-- A significand is below this, so that a place and a significand are one number.
abbrev pub place_size : ℕ
place_size = 2 ^ 64

-- A position: the factor's place and a significand. Positions ascend in kit order.
abbrev pub position : (place X : ℕ) → ℕ
position i X = i * place_size + X

abbrev pub place_in : ℕ → ℕ
place_in z = z / place_size

abbrev pub significand_in : ℕ → ℕ
significand_in z = z % place_size

-- ---- what a kit asks of its factors

-- How a factor is swept, as something of type U: over all its significands; whether 31 refuses it; and whether two are alike.
pub record Factors (F U : Type 0) : Type 0 where
  pub engine : Engine U
  pub whole : F → U
  pub faulty : F → Bool
  pub alike : F → F → Bool

-- The first significand of the first of a list of factors, and the last one of the last.
abbrev pub first_in : {F U : Type 0} → Factors F U → List F → ℕ
first_in d [] = 0
first_in d (f ∷ l) = d.engine.first (d.whole f)

abbrev pub last_of : {F : Type 0} → F → List F → F
last_of f [] = f
last_of f (g ∷ l) = last_of g l

abbrev pub last_in : {F U : Type 0} → Factors F U → List F → ℕ
last_in d [] = 0
last_in d (f ∷ l) = d.engine.last (d.whole (last_of f l))

-- Whether the first of a list of factors has a significand, whether that is a suspect, and its mark. Where there is none, nothing can fail.
abbrev pub has_at : {F U : Type 0} → Factors F U → List F → ℕ → Bool
has_at d [] X = false
has_at d (f ∷ l) X = d.engine.has (d.whole f) X

abbrev pub suspect_at : {F U : Type 0} → (U → ℕ → Bool) → Factors F U → List F → ℕ → Bool
suspect_at suspect d [] X = false
suspect_at suspect d (f ∷ l) X = d.engine.has (d.whole f) X && suspect (d.whole f) X

abbrev pub mark_at : {F U : Type 0} → Factors F U → List F → ℕ → Mark
mark_at d [] X = Right
mark_at d (f ∷ l) X = cond (d.engine.has (d.whole f) X) (d.engine.mark (d.whole f) X) Right

-- The same of a position in a kit.
unfoldable pub has_in : {F U : Type 0} → Factors F U → Kit F → ℕ → Bool
has_in d k z = has_at d (drop (place_in z) (in_kit k)) (significand_in z)

unfoldable pub suspect_in : {F U : Type 0} → (U → ℕ → Bool) → Factors F U → Kit F → ℕ → Bool
suspect_in suspect d k z = suspect_at suspect d (drop (place_in z) (in_kit k)) (significand_in z)

unfoldable pub mark_in : {F U : Type 0} → Factors F U → Kit F → ℕ → Mark
mark_in d k z = mark_at d (drop (place_in z) (in_kit k)) (significand_in z)

-- ---- sections

-- What a search finds, in a factor at a place.
abbrev pub place_at : ℕ → Option ℕ → Option ℕ
place_at i (Some X) = Some (position i X)
place_at i None = None

abbrev pub found_at : ℕ → Found → Found
found_at i w = record { place = place_at i w.place; rounds = w.rounds }

-- A section of a factor at a place.
abbrev pub section_at : ℕ → Section → Section
section_at i s = record { from = position i s.from; end = position i s.end; find = λ a. found_at i (s.find (significand_in a)) }

-- The sections of factors from a place on: a kit sweep goes through them in order, over all significands of each.
unfoldable pub sections_from : {F U : Type 0} → Factors F U → (i : ℕ) → List F → List Section
sections_from d i [] = []
sections_from d i (f ∷ l) = map (section_at i) (d.engine.sections (d.whole f)) ++ sections_from d (suc i) l

-- ---- lists

-- An entry takes two words, the factor's place from 0 and the word that a sweep lists: a position's listed word is place × 2^65 plus its significand's. 18, cap 0, and 44, fewer than two free places.
abbrev pub entry_list : Listing
entry_list =
    record {
      refuses = λ t. (18, eqb t.cap 0) ∷ (44, ltb (t.size - t.free) 2) ∷ [];
      places = 2;
      entry = λ w. w / (2 * place_size) ∷ w % (2 * place_size) ∷ [];
    }

-- ---- the engine of kits

-- The number of factors that a call searched in: from the one that it began in to the one that it ended in. In each of them a search is made: in the first since its next significand is one of that factor's,
-- in each later one from its first significand on.
abbrev pub searched_in : {F : Type 0} → (before after : State (Kit F)) → ℕ
searched_in s t = suc (place_in t.next) - place_in s.next

-- A kit call repeats the checks of a kit, then 32, also for a place with no factor.
abbrev pub kit_engine : {F U : Type 0} → Factors F U → Engine (Kit F)
kit_engine d =
    record {
      new_faults = kit_faults d.faulty d.alike;
      faults = λ s. kit_faults d.faulty d.alike s.over ++ (32, not (has_in d s.over s.next)) ∷ [];
      listing = λ k. entry_list;
      first = λ k. position 0 (first_in d (in_kit k));
      last = λ k. position (length (in_kit k) - 1) (last_in d (in_kit k));
      has = has_in d;
      mark = mark_in d;
      sections = λ k. sections_from d 0 (in_kit k);
      beyond = λ s t. 2 * searched_in s t;
    }
