-- What the code carries back is the search's answer with its winding, by each of its ways to return. Assumes nothing.
use Rattle.std.specs.Prelude.{◌≡◌, refl, ℕ, zero, suc, ◌+◌, ◌-◌, ◌*◌, ◌/◌, ◌%◌, ◌^◌, ◌≤◌, ◌<◌, Option, Some, None}
use Rattle.std.proofs.Math.Path.{sym, ap}
use Rattle.std.proofs.Common.{ap₂, ◌∙◌, arith}
use Rattle.std.proofs.Math.Nat.{div-eq_of_lt}
use Rattle.std.proofs.Math.Numerals.{add-one}
use Rattle.std.proofs.Math.Arith.{digits_div}
use Rattle.search.specs.declared.Trace.{Trace}
use Rattle.search.specs.Search.{ceil_div, neg_mod, at_once, place_after, after_round, search_window}
use Rattle.search.specs.Finds.{Least}
use Rattle.search.specs.Cases.{Ready, Straight, Searched, mirrored, rounded}
use Rattle.search.specs.Winding.{Meets, Hits}
use Rattle.search.specs.Trace.{winding, wound, unwound, WindsBelow, mirror_winding, mirror_back, number, round_place, round_back, Below}
use Rattle.search.specs.TurnLaws.{mirror_meets, round_place_lem}
use Rattle.search.specs.CaseLaws.{mirror_ready, round_between, round_ready, searched, searched_unique}
use Rattle.search.specs.PlaceLaws.{round_meets, searched_least}
use Rattle.search.specs.SearchLaws.{search_window_finds}

winding_meets : (m s l r k w : ℕ) → r < m → Meets m s l r k w → (k * s) / m ≡ w
winding_meets m s l r k w rm h = ap (λ (n : ℕ). n / m) (omega arith) ∙ digits_div w {m = m} {r = k * s - w * m} (omega arith)

module _ (m s l r : ℕ) (h : Ready m s l r) where
  -- A place that is found at once, before the modulus is passed, has no winding.
  pub wound_at : (k : ℕ) → k * s < m → Searched m s l r (at_once (Some k)) → unwound (Some k) ≡ wound m s (search_window m s l r)
  wound_at k lt t =
      ap (λ (w : ℕ). record { found = at_once (Some k); winding = w }) (sym (div-eq_of_lt lt)) ∙ ap (wound m s) (sym (searched_unique t h))

  -- none has no winding.
  pub wound_none : Searched m s l r (at_once None) → unwound None ≡ wound m s (search_window m s l r)
  wound_none t = ap (wound m s) (sym (searched_unique t h))

  mirror_winding_lem :
      0 < l → (p : Option ℕ) → Least (Hits m (m - s) (m - r) (m - l)) p
      → WindsBelow p (winding m (m - s) p) × (mirror_winding p (winding m (m - s) p) ≡ winding m s p)
  mirror_winding_lem pos None g = (tt, refl)
  mirror_winding_lem pos (Some k) g =
      let w = g.0.0 in
      let turned = mirror_meets m (m - s) s (m - r) r (m - l) l k w (omega arith) (omega arith) (omega arith) (omega arith) g.0.1 in
      let before = winding_meets m (m - s) (m - r) (m - l) k w (omega arith) g.0.1 in
      let after = winding_meets m s l r k (k - suc w) h.1 turned.1 in
      (omega (arith, before, turned), omega (arith, before, after))

  -- The mirrored answer may be read back, and is then the search's.
  pub wound_mirror :
      0 < l → m < 2 * s → (t : Trace) → t ≡ wound m (m - s) (search_window m (m - s) (m - r) (m - l))
      → WindsBelow t.found.place t.winding × (mirror_back t ≡ wound m s (search_window m s l r))
  wound_mirror pos above t e =
      let f = search_window m (m - s) (m - r) (m - l) in
      let ready = mirror_ready m s l r h pos above in
      let inner = searched m (m - s) (m - r) (m - l) ready in
      let back = mirror_winding_lem pos f.place (searched_least inner ready) in
      rw e (back.0, ap (λ (w : ℕ). record { found = f; winding = w }) back.1 ∙ ap (wound m s) (sym (searched_unique (mirrored pos above inner) h)))

  module _ (straight : Straight m s l) (none : ¬ (ceil_div l s * s ≤ r)) where
    round_winding :
        (p : Option ℕ) → Least (Hits s (m % s) (neg_mod r s) (neg_mod l s)) p
        → (round_place (ceil_div l s) (m / s) (winding s (m % s) p) p ≡ place_after m s l p) × (number p ≡ winding m s (place_after m s l p))
    unfolding place_after
    round_winding None g = (refl, refl)
    round_winding (Some j) g =
        let i = g.0.0 in
        let apart = round_between m s l r h straight none in
        let before = winding_meets s (m % s) (neg_mod r s) (neg_mod l s) j i (round_ready m s l r h straight none).1 g.0.1 in
        let place = round_place_lem m s l r (ceil_div l s) h.0 apart j i straight.1 g.0.1 in
        let after = winding_meets m s l r (ceil_div (l + j * m) s) j h.1 (round_meets m s l r h.0 straight.1 apart j g.0) in
        (ap Some (omega (arith, before, place)), sym after)

    -- The answer of the search that a round goes on with, read back, is the search's.
    pub wound_round :
        (t : Trace) → t ≡ wound s (m % s) (search_window s (m % s) (ceil_div l s * s - r) (ceil_div l s * s - l))
        → round_back (ceil_div l s) (m / s) t ≡ wound m s (search_window m s l r)
    unfolding after_round
    wound_round t e =
        let f = search_window s (m % s) (neg_mod r s) (neg_mod l s) in
        let apart = round_between m s l r h straight none in
        let ready = round_ready m s l r h straight none in
        let inner = searched s (m % s) (neg_mod r s) (neg_mod l s) ready in
        let back = round_winding f.place (searched_least inner ready) in
        ap (round_back (ceil_div l s) (m / s)) (e ∙ ap (wound s (m % s)) (ap₂ (search_window s (m % s)) (sym apart.next_low) (sym apart.next_high)))
        ∙ (λ i. record { found = record { place = back.0 i; rounds = add-one f.rounds i }; winding = back.1 i })
        ∙ ap (wound m s) (sym (searched_unique (rounded straight none inner) h))

below_power : (n : ℕ) → n < 2 ^ n
below_power zero = omega arith
below_power (suc n) = omega (arith, below_power n)

-- A search's place and rounds are below its modulus.
pub search_window_below : (m s l r : ℕ) → Ready m s l r → Below m (search_window m s l r)
search_window_below m s l r h =
    let all = search_window_finds m s l r h in
    (place (search_window m s l r).place all.below, omega (arith, all.few m (below_power m)))
  where
    place : (p : Option ℕ) → ((k : ℕ) → p ≡ Some k → k < m) → number p < m
    place (Some k) below = below k refl
    place None below = omega arith
