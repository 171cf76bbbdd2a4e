-- What is kept of a line while its bytes come in, chunk by chunk: its first 40, which tell whether it is a frame. Definitions only. Assumes nothing.
use Rattle.std.specs.Prelude.{◌≡◌, cond, List, [], ◌∷◌, ◌++◌, ℕ, ◌≤◌, eqb, ltb, length}
use Rattle.frame.specs.Lines.{line_feed}

-- so many bytes are kept, one more than a frame has
abbrev pub most_kept : ℕ
most_kept = 40

-- a byte more of a line of which h is kept
abbrev pub keep : List ℕ → ℕ → List ℕ
keep h b = cond (ltb (length h) most_kept) (h ++ (b ∷ [])) h

-- what is kept after the bytes up to the first line feed, or all of them
unfoldable pub kept : List ℕ → List ℕ → List ℕ
kept h [] = h
kept h (b ∷ input) = cond (eqb b line_feed) h (kept (keep h b) input)

-- what stands after those bytes: the line feed and the rest, or nothing
unfoldable pub up_to_feed : List ℕ → List ℕ
up_to_feed [] = []
up_to_feed (b ∷ input) = cond (eqb b line_feed) (b ∷ input) (up_to_feed input)

-- no line feed among bytes
abbrev pub NoFeed : List ℕ → Type 0
NoFeed [] = Unit {0}
NoFeed (b ∷ l) = ¬ (b ≡ line_feed) × NoFeed l

-- a kept part has no line feed and at most 40 bytes
pub record Part (h : List ℕ) : Type 0 where
  pub plain : NoFeed h
  pub short : length h ≤ most_kept
