-- What the cases find: the least place that ends in the window, and in how many rounds. Assumes nothing.
use Rattle.std.specs.Prelude.{ℕ, zero, suc, ◌+◌, ◌-◌, ◌*◌, ◌%◌, ◌^◌, ◌≤◌, ◌<◌, Option, Some, None}
use Rattle.std.proofs.Common.{zero-le, suc-le-suc, mul-le-mul_left}
use Rattle.std.proofs.Math.Nat.{mul-le-mul_right}
use native.Mathlib.Omega.{arith}
use Rattle.search.specs.declared.Found.{Found}
use Rattle.search.specs.Search.{ceil_div, neg_mod, place_after, after_round}
use Rattle.search.specs.Finds.{Least}
use Rattle.search.specs.Cases.{Ready, Searched, start, still, mirrored, multiple, rounded, Between}
use Rattle.search.specs.Winding.{Meets, Hits}
use Rattle.search.specs.MultipleLaws.{ceil_div_ge, ceil_div_le}
use Rattle.search.specs.TurnLaws.{mirror_meets, round_up, round_down, round_place_lem}
use Rattle.search.specs.CaseLaws.{mirror_ready, round_between, round_ready}

-- Where the same places are wanted, the least one is the same.
pub least_same : {A B : ℕ → Type 0} → ((x : ℕ) → A x → B x) → ((x : ℕ) → B x → A x) → (p : Option ℕ) → Least A p → Least B p
least_same to back (Some k) h = (to k h.0, λ x lt g. h.1 x lt (back x g))
least_same to back None h = λ x g. h x (back x g)

mirror_least : (m s l r : ℕ) → Ready m s l r → 0 < l → (p : Option ℕ) → Least (Hits m (m - s) (m - r) (m - l)) p → Least (Hits m s l r) p
mirror_least m s l r h pos =
    least_same
    (λ x g. (_, (mirror_meets m (m - s) s (m - r) r (m - l) l x g.0 (omega arith) (omega arith) (omega arith) (omega arith) g.1).1))
    (λ x g. (_, (mirror_meets m s (m - s) l (m - l) r (m - r) x g.0 (omega arith) (omega arith) (omega arith) pos g.1).1))

module _ (m s l r : ℕ) (lr : l ≤ r) (p : 0 < s) (b : Between s l r (ceil_div l s)) where
  -- The place after a round is met with the winding that the round's search found.
  pub round_meets : (j : ℕ) → Hits s (m % s) (neg_mod r s) (neg_mod l s) j → Meets m s l r (ceil_div (l + j * m) s) j
  round_meets j h = rw (round_place_lem m s l r (ceil_div l s) lr b j h.0 p h.1) (round_up m s l r (ceil_div l s) lr b j h.0 h.1)

  round_least : (q : Option ℕ) → Least (Hits s (m % s) (neg_mod r s) (neg_mod l s)) q → Least (Hits m s l r) (place_after m s l q)
  unfolding place_after
  round_least None g = λ x h. g h.0 (_, round_down m s l r (ceil_div l s) lr b x h.0 h.1)
  round_least (Some j) g = (
    (j, round_meets j g.0),
    λ x lt h.
        let w = h.0 in
        let no_less : ¬ (w < j) = λ less. g.1 w less (_, round_down m s l r (ceil_div l s) lr b x w h.1) in
        let here : ceil_div (l + j * m) s ≤ x = ceil_div_le (l + j * m) s x p (omega (arith, mul-le-mul_right {m = j} {n = w} m (omega arith))) in
        omega arith,
  )

-- What the cases answer is the least place that ends in the window.
pub searched_least : {m s l r : ℕ} {f : Found} → Searched m s l r f → Ready m s l r → Least (Hits m s l r) f.place
unfolding after_round
searched_least (start z) h = ((0, omega arith), λ x lt g. omega arith)
searched_least {s} (still pos z) h = λ x g. omega (arith, mul-le-mul_left {m = s} {n = 0} x (omega arith))
searched_least {m} {s} {l} {r} {f} (mirrored pos above t) h =
    mirror_least m s l r h pos f.place (searched_least t (mirror_ready m s l r h pos above))
searched_least {s} {l} (multiple straight near) h = (
  (0, omega (arith, ceil_div_ge l s straight.1)),
  λ x lt g. omega (arith, ceil_div_le l s x straight.1 (omega arith)),
)
searched_least {m} {s} {l} {r} (rounded {f = f} straight none t) h =
    round_least m s l r h.0 straight.1 (round_between m s l r h straight none) f.place
    (searched_least t (round_ready m s l r h straight none))

-- A round halves the modulus and leaves at least 2 of it, so a modulus below 2 ^ (b + 2) takes at most b rounds.
pub searched_few : {m s l r : ℕ} {f : Found} → Searched m s l r f → Ready m s l r → (b : ℕ) → m < 2 ^ suc (suc b) → f.rounds ≤ b
unfolding after_round
searched_few (start z) h b small = zero-le
searched_few (still pos z) h b small = zero-le
searched_few {m} {s} {l} {r} (mirrored pos above t) h b small = searched_few t (mirror_ready m s l r h pos above) b small
searched_few (multiple straight near) h b small = zero-le
searched_few {m} {s} {l} {r} (rounded straight none t) h zero small =
    let b = round_between m s l r h straight none in absurd (omega (arith, b.low, b.high))
searched_few {m} {s} {l} {r} (rounded straight none t) h (suc b) small =
    suc-le-suc (searched_few t (round_ready m s l r h straight none) b (omega arith))
