-- What a search has to find: the least place that is wanted. Nothing here says how it is found. Definitions only.
use Rattle.std.specs.Prelude.{◌≡◌, Bool, true, false, ℕ, ◌+◌, ◌-◌, ◌*◌, ◌%◌, ◌^◌, ◌≤◌, ◌<◌, Option, Some, None}
use Rattle.search.specs.declared.Found.{Found}

-- place k is wanted: its remainder, counted from `base`, lies in the window l to r
abbrev pub Wanted : (m step base l r k : ℕ) → Type 0
Wanted m step base l r k = (l ≤ (base + k * step) % m) × ((base + k * step) % m ≤ r)

-- the least place of those that are wanted, or nowhere where none is
abbrev pub Least : (ℕ → Type 0) → Option ℕ → Type 0
Least W (Some k) = W k × ((x : ℕ) → x < k → ¬ W x)
Least W None = (x : ℕ) → ¬ W x

-- the place is the least from a on of which a test holds, as far as it lies before the end; a place at or past the end says that none lies before the end
abbrev pub LeastFrom : (ℕ → Bool) → (end a : ℕ) → Option ℕ → Type 0
LeastFrom test end a (Some X) = (a ≤ X) × (X < end → test X ≡ true) × ((Y : ℕ) → a ≤ Y → Y < X → Y < end → test Y ≡ false)
LeastFrom test end a None = (Y : ℕ) → a ≤ Y → Y < end → test Y ≡ false

-- a search's answer is right: its place is the least one wanted and below the modulus, and a modulus of b binary digits takes at most b - 2 rounds
pub record Finds (m step base l r : ℕ) (f : Found) : Type 0 where
  pub least : Least (Wanted m step base l r) f.place
  pub below : (k : ℕ) → f.place ≡ Some k → k < m
  pub few : (b : ℕ) → m < 2 ^ b → f.rounds ≤ b - 2
