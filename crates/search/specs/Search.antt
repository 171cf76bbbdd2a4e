-- The search by remainders: of the places k = 0, 1, 2, .. the least whose remainder, k * step modulo m,
-- lies in a window l to r, both included, with the rounds that are counted on the way. Definitions only.
use Rattle.std.specs.Prelude.{ℕ, zero, suc, ◌+◌, ◌-◌, ◌*◌, ◌/◌, ◌%◌, Option, Some, None}
use Rattle.std.proofs.Math.Decide.{dec_le, dec_lt, ℕ_discrete}
use Rattle.search.specs.declared.Found.{Found}

-- a / s, rounded up: the least k with a ≤ k * s
unfoldable pub ceil_div : (a s : ℕ) → ℕ
ceil_div a s = (a + (s - 1)) / s

-- −a modulo s
unfoldable pub neg_mod : (a s : ℕ) → ℕ
neg_mod a s = (s - a % s) % s

-- an answer by a test; only the arm that the test picks is computed
unfoldable pub test : {P : Type 0} → Dec P → (P → Found) → (¬ P → Found) → Found
test (yes p) f g = f p
test (no n) f g = g n

-- an answer without a round
abbrev pub at_once : Option ℕ → Found
at_once p = record { place = p; rounds = 0 }

-- where the multiples of the step first reach l, having passed the modulus as often as the place that is given says
unfoldable pub place_after : (m step l : ℕ) → Option ℕ → Option ℕ
place_after m step l (Some j) = Some (ceil_div (l + j * m) step)
place_after m step l None = None

-- the answer of the search that goes on, read in this one, with one round counted
unfoldable pub after_round : (m step l : ℕ) → Found → Found
after_round m step l f = record { place = place_after m step l f.place; rounds = suc f.rounds }

-- the search, a line for each case; the fuel is at least modulus and step together, which fall each time that it goes on
unfoldable pub search_within : (fuel m step l r : ℕ) → Found
search_within zero m step l r = at_once None
search_within (suc fuel) m step l r =
    test (ℕ_discrete l 0) (λ _. at_once (Some 0)) λ _.
    test (ℕ_discrete step 0) (λ _. at_once None) λ _.
    test (dec_lt m (2 * step)) (λ _. search_within fuel m (m - step) (m - r) (m - l)) λ _.
    test (dec_le (ceil_div l step * step) r) (λ _. at_once (Some (ceil_div l step))) λ _.
    after_round m step l (search_within fuel step (m % step) (neg_mod r step) (neg_mod l step))

-- the search for a window l to r
unfoldable pub search_window : (m step l r : ℕ) → Found
search_window m step l r = search_within (m + step) m step l r

-- x − base modulo m
unfoldable pub shift : (m base x : ℕ) → ℕ
shift m base x = (x + (m - base)) % m

-- the search from a start whose remainder is `base`: the window is shifted accordingly; if it then passes over 0, the start itself is found
unfoldable pub search_from : (m step base l r : ℕ) → Found
search_from m step base l r =
    test (dec_lt (shift m base r) (shift m base l)) (λ _. at_once (Some 0)) λ _.
    search_window m step (shift m base l) (shift m base r)
