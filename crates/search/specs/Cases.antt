-- The search by cases. Laws go by them and so know of no fuel. Definitions only.
use Rattle.std.specs.Prelude.{◌≡◌, ℕ, ◌+◌, ◌-◌, ◌*◌, ◌%◌, ◌≤◌, ◌<◌, Some, None}
use Rattle.search.specs.declared.Found.{Found}
use Rattle.search.specs.Search.{ceil_div, neg_mod, at_once, after_round}

-- what a search may be asked: a window, and a step, below the modulus
abbrev pub Ready : (m step l r : ℕ) → Type 0
Ready m step l r = (l ≤ r) × (r < m) × (step < m)

-- past the first three sentences: 0 is not in the window, and the step is neither 0 nor above half of the modulus
abbrev pub Straight : (m step l : ℕ) → Type 0
Straight m step l = (0 < l) × (0 < step) × (2 * step ≤ m)

-- a search and its answer, by the sentence that decides it
pub data Searched : (m step l r : ℕ) → Found → Type 0 where
  start : {m step l r : ℕ} → l ≡ 0 → Searched m step l r (at_once (Some 0))
  still : {m step l r : ℕ} → 0 < l → step ≡ 0 → Searched m step l r (at_once None)
  mirrored : {m step l r : ℕ} {f : Found} → 0 < l → m < 2 * step → Searched m (m - step) (m - r) (m - l) f → Searched m step l r f
  multiple : {m step l r : ℕ} → Straight m step l → ceil_div l step * step ≤ r → Searched m step l r (at_once (Some (ceil_div l step)))
  rounded :
      {m step l r : ℕ} {f : Found}
      → Straight m step l
      → ¬ (ceil_div l step * step ≤ r)
      → Searched step (m % step) (neg_mod r step) (neg_mod l step) f
      → Searched m step l r (after_round m step l f)

-- no multiple of the step lies in the window: it ends below c * step, the first multiple from l on, and measured down from there it is the window
-- that a round goes on with
pub record Between (step l r c : ℕ) : Type 0 where
  pub low : c * step < l + step
  pub high : r < c * step
  pub next_low : neg_mod r step ≡ c * step - r
  pub next_high : neg_mod l step ≡ c * step - l
