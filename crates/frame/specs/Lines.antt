-- Lines of fields: one blank between the fields, and what ends the line. Definitions only. Assumes nothing.
use Rattle.std.specs.Prelude.{List, [], ◌∷◌, ◌++◌, ℕ}

-- the byte between fields
abbrev pub blank : ℕ
blank = 32

-- the byte at the end of a line
abbrev pub line_feed : ℕ
line_feed = 10

-- fields, one blank between, and what follows the last
abbrev pub joined : List (List ℕ) → List ℕ → List ℕ
joined [] end = end
joined (f ∷ []) end = f ++ end
joined (f ∷ (g ∷ fs)) end = f ++ (blank ∷ joined (g ∷ fs) end)

-- a line with its line feed
abbrev pub line_of : List (List ℕ) → List ℕ
line_of fs = joined fs (line_feed ∷ [])
