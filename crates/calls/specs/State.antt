-- Definitions: states, calls, words and how a list keeps them, which the call by searches and the plain sweep share.
use Rattle.std.specs.Prelude.{Bool, ◌&&◌, ◌||◌, List, [], ◌∷◌, ◌++◌, ℕ, ◌+◌, ◌-◌, ◌*◌, ◌/◌, eqb, leb, ltb, length}
use Rattle.marks.specs.declared.Mark.{Mark}
use Rattle.marks.specs.declared.Mark.TheVariants.{Right, Open, Wrong}

-- ---- states

-- A factor and a range of its significands. F is the type of factors.
pub record Range (F : Type 0) : Type 0 where
  pub factor : F
  pub first : ℕ
  pub last : ℕ

-- A sweep state has the factor, the first, last and next significand and a finished mark. U is the type of what is swept: here a factor and a range, elsewhere a kit.
pub record State (U : Type 0) : Type 0 where
  pub over : U
  pub next : ℕ
  pub finished : Bool

-- Whether a significand lies in a range.
abbrev pub in_range : {F : Type 0} → Range F → ℕ → Bool
in_range r X = leb r.first X && leb X r.last

-- the range is one that 17 refuses, or the next significand lies outside it
abbrev pub out_of_range : {F : Type 0} → (bad : Bool) → State (Range F) → Bool
out_of_range bad s = bad || ltb s.next s.over.first || ltb s.over.last s.next

-- ---- calls

-- A call has the state, a cap on trials, a list of 32-bit words and its first free place. The state stands beside it, and the width of the words in bits is named.
pub record Call : Type 0 where
  pub cap : ℕ
  pub width : ℕ
  pub list : List ℕ
  pub free : ℕ

-- What a call is judged by, and all that the plain sweep is told of it: its cap, list length and first free place, and the width.
pub record Terms : Type 0 where
  pub cap : ℕ
  pub width : ℕ
  pub size : ℕ
  pub free : ℕ

abbrev pub terms_of : Call → Terms
terms_of c = record { cap = c.cap; width = c.width; size = length c.list; free = c.free }

-- Those of the same call on the free tail of its list.
abbrev pub tail_terms : Terms → Terms
tail_terms t = record { cap = t.cap; width = t.width; size = t.size - t.free; free = 0 }

-- ---- words

-- X is listed if open or wrong, as 2X, plus 1 for open.
abbrev pub listed : Mark → ℕ → List ℕ
listed Right X = []
listed Open X = (2 * X + 1) ∷ []
listed Wrong X = (2 * X) ∷ []

-- How a list keeps listed words, as entries, and which calls it refuses.
pub record Listing : Type 0 where
  -- the conditions on a call, judged after 33, with their numbers
  pub refuses : Terms → List (ℕ × Bool)
  -- how many places an entry takes
  pub places : ℕ
  -- the entry of a listed word
  pub entry : ℕ → List ℕ

-- The entries of listed words, one after another.
unfoldable pub entries : Listing → List ℕ → List ℕ
entries l [] = []
entries l (w ∷ ws) = l.entry w ++ entries l ws

-- For how many entries a list of a size has room from a place on.
abbrev pub room_in : Listing → (size place : ℕ) → ℕ
room_in l size place = (size - place) / l.places

-- A sweep's lists: an entry is the listed word, in one place; 18, cap 0, and 19, first free place at or past the list's end.
abbrev pub word_list : Listing
word_list = record { refuses = λ t. (18, eqb t.cap 0) ∷ (19, leb t.size t.free) ∷ []; places = 1; entry = λ w. w ∷ [] }
