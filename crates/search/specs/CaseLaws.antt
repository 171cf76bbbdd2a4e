-- The search by fuel and the search by cases are one. Assumes nothing.
use Rattle.std.specs.Prelude.{◌≡◌, refl, ℕ, zero, suc, ◌+◌, ◌-◌, ◌*◌, ◌%◌, ◌≤◌, ◌<◌}
use Rattle.std.proofs.Common.{ap, ◌∙◌, mod-lt, le_refl, arith}
use Rattle.std.proofs.Math.Decide.{dec_le, dec_lt, ℕ_discrete}
use Rattle.search.specs.declared.Found.{Found}
use Rattle.search.specs.Search.{ceil_div, neg_mod, test, after_round, search_within, search_window}
use Rattle.search.specs.Cases.{Ready, Straight, Searched, start, still, mirrored, multiple, rounded, Between}
use Rattle.search.specs.MultipleLaws.{between}

-- What holds of both arms holds of the answer.
pub test_cases :
    {P : Type 0} {f : P → Found} {g : ¬ P → Found} (Q : Found → Type 0) (t : Dec P) → ((p : P) → Q (f p)) → ((n : ¬ P) → Q (g n)) → Q (test t f g)
unfolding test
test_cases Q (yes p) a b = a p
test_cases Q (no n) a b = b n

-- A test that holds picks the first arm.
pub test_yes : {P : Type 0} {x : Found} (g : ¬ P → Found) (t : Dec P) → P → test t (λ _. x) g ≡ x
unfolding test
test_yes g (yes p) h = refl
test_yes g (no n) h = absurd (n h)

-- A test that fails picks the second arm.
pub test_no : {P : Type 0} {x : Found} (f : P → Found) (t : Dec P) → ¬ P → test t f (λ _. x) ≡ x
unfolding test
test_no f (yes p) h = absurd (h p)
test_no f (no n) h = refl

-- The mirrored search may be asked.
pub mirror_ready : (m s l r : ℕ) → Ready m s l r → 0 < l → m < 2 * s → Ready m (m - s) (m - r) (m - l)
mirror_ready m s l r h pos above = omega arith

-- The window of a round lies between two multiples of the step.
pub round_between : (m s l r : ℕ) → Ready m s l r → Straight m s l → ¬ (ceil_div l s * s ≤ r) → Between s l r (ceil_div l s)
round_between m s l r h straight none = between s l r straight.1 h.0 none

-- The search that a round goes on with may be asked.
pub round_ready : (m s l r : ℕ) → Ready m s l r → Straight m s l → ¬ (ceil_div l s * s ≤ r) → Ready s (m % s) (neg_mod r s) (neg_mod l s)
round_ready m s l r h straight none =
    let b = round_between m s l r h straight none in omega (arith, b.low, b.high, b.next_low, b.next_high, mod-lt m straight.1)

within_searched : (fuel m s l r : ℕ) → m + s ≤ fuel → Ready m s l r → Searched m s l r (search_within fuel m s l r)
unfolding search_within
within_searched zero m s l r enough h = absurd (omega arith)
within_searched (suc fuel) m s l r enough h =
    test_cases (Searched m s l r) (ℕ_discrete l 0) (λ z. start z) λ pos.
    test_cases (Searched m s l r) (ℕ_discrete s 0) (λ z. still (omega arith) z) λ moves.
    test_cases (Searched m s l r) (dec_lt m (2 * s))
    (λ above.
    mirrored (omega arith) above
    (within_searched fuel m (m - s) (m - r) (m - l) (omega arith) (mirror_ready m s l r h (omega arith) above)))
    λ half.
    let straight : Straight m s l = omega arith in
    test_cases (Searched m s l r) (dec_le (ceil_div l s * s) r) (λ near. multiple straight near) λ none.
    rounded straight none
    (within_searched fuel s (m % s) (neg_mod r s) (neg_mod l s) (omega (arith, mod-lt m straight.1)) (round_ready m s l r h straight none))

searched_within : {m s l r : ℕ} {f : Found} (fuel : ℕ) → Searched m s l r f → m + s ≤ fuel → Ready m s l r → search_within fuel m s l r ≡ f
unfolding search_within
searched_within zero t enough h = absurd (omega arith)
searched_within {l} (suc fuel) (start z) enough h = test_yes _ (ℕ_discrete l 0) z
searched_within {s} {l} (suc fuel) (still pos z) enough h = test_no _ (ℕ_discrete l 0) (omega arith) ∙ test_yes _ (ℕ_discrete s 0) z
searched_within {m} {s} {l} {r} (suc fuel) (mirrored pos above t) enough h =
    test_no _ (ℕ_discrete l 0) (omega arith) ∙ test_no _ (ℕ_discrete s 0) (omega arith) ∙ test_yes _ (dec_lt m (2 * s)) above
    ∙ searched_within {s = m - s} {l = m - r} {r = m - l} fuel t (omega arith) (mirror_ready m s l r h pos above)
searched_within {m} {s} {l} {r} (suc fuel) (multiple straight near) enough h =
    test_no _ (ℕ_discrete l 0) (omega arith) ∙ test_no _ (ℕ_discrete s 0) (omega arith) ∙ test_no _ (dec_lt m (2 * s)) (omega arith)
    ∙ test_yes _ (dec_le (ceil_div l s * s) r) near
searched_within {m} {s} {l} {r} (suc fuel) (rounded straight none t) enough h =
    test_no _ (ℕ_discrete l 0) (omega arith) ∙ test_no _ (ℕ_discrete s 0) (omega arith) ∙ test_no _ (dec_lt m (2 * s)) (omega arith)
    ∙ test_no _ (dec_le (ceil_div l s * s) r) none
    ∙ ap (after_round m s l) (searched_within {m = s} {s = m % s} {l = neg_mod r s} {r = neg_mod l s} fuel t (omega (arith, mod-lt m straight.1)) (round_ready m s l r h straight none))

-- The search goes by the cases.
pub searched : (m s l r : ℕ) → Ready m s l r → Searched m s l r (search_window m s l r)
unfolding search_window
searched m s l r h = within_searched (m + s) m s l r (le_refl (m + s)) h

-- The cases leave no choice: their answer is the search's.
pub searched_unique : {m s l r : ℕ} {f : Found} → Searched m s l r f → Ready m s l r → search_window m s l r ≡ f
unfolding search_window
searched_unique {m} {s} t h = searched_within (m + s) t (le_refl (m + s)) h
