-- Laws of the factors of a kit, over any list of which the first n count, and of tests of a list. Assumes nothing.
use Rattle.std.specs.Prelude.{◌≡◌, refl, Bool, true, false, ◌||◌, ℕ, ◌+◌, ◌≤◌, ◌<◌, length, get_or, take, drop}
use Rattle.std.specs.List.{list_any}
use Rattle.std.proofs.Math.Path.{sym, ap}
use Rattle.std.proofs.Math.Bool.{or-false}
use Rattle.std.proofs.Common.{◌∙◌, arith, add-one, length-take, drop_of_length-le, drop-cons, get_or-take}
use mathlib.Core.List.{List, [], ◌∷◌}
use Rattle.calls.specs.Kit.{two_alike}

-- ---- places
module _ {F : Type 0} (xs : List F) (n i : ℕ) where
  -- the one at a place, and those past it
  pub first_at : (d : F) → n ≤ length xs → i < n → drop i (take n xs) ≡ get_or xs i d ∷ drop (i + 1) (take n xs)
  first_at d full h = drop-cons (take n xs) i d (omega (arith, length-take n xs)) ∙ rw (get_or-take n xs i d h, add-one i)

  -- past the last there is none
  pub first_past : n ≤ i → drop i (take n xs) ≡ []
  first_past h = drop_of_length-le (take n xs) {i = i} (omega (arith, length-take n xs))

-- ---- two alike
module _ {F : Type 0} (alike : F → F → Bool) (f : F) (l : List F) where
  -- two of a list are alike where the first is like one of the others
  pub alike_first : list_any (alike f) l ≡ true → two_alike alike (f ∷ l) ≡ true
  unfolding two_alike
  alike_first e = ap (λ (b : Bool). b || two_alike alike l) e

  -- and where it is like none, the others decide
  pub alike_others : list_any (alike f) l ≡ false → two_alike alike (f ∷ l) ≡ two_alike alike l
  unfolding two_alike
  alike_others e = ap (λ (b : Bool). b || two_alike alike l) e

-- of none, no two are alike
pub none_alike_in : {F : Type 0} (alike : F → F → Bool) (l : List F) → length l ≡ 0 → two_alike alike l ≡ false
unfolding two_alike
none_alike_in alike [] e = refl
none_alike_in alike (f ∷ l) e = absurd (omega arith)

-- ---- one of the first n
-- A loop that asks whether one of them passes t, or else `rest`, before its turn at i: none passed so far, so what is left decides.
pub record Seeking {F : Type 0} (t : F → Bool) (xs : List F) (n : ℕ) (rest whole : Bool) (i : ℕ) : Type 0 where
  pub full : n ≤ length xs
  pub same : whole ≡ list_any t (drop i (take n xs)) || rest

-- it begins at the first
pub seek : {F : Type 0} {t : F → Bool} {xs : List F} {n : ℕ} → n ≤ length xs → Seeking t xs n false (list_any t (take n xs)) 0
seek {F} {t} {xs} {n} full = record { full = full; same = sym (or-false (list_any t (take n xs))) }

module _ {F : Type 0} {t : F → Bool} {xs : List F} {n : ℕ} {rest whole : Bool} {i : ℕ} (s : Seeking t xs n rest whole i) where
  -- the turn at i
  turn : (d : F) → i < n → whole ≡ (t (get_or xs i d) || list_any t (drop (i + 1) (take n xs))) || rest
  turn d h = s.same ∙ ap (λ (l : List F). list_any t l || rest) (first_at xs n i d s.full h)

  pub seek_hit : (d : F) → i < n → t (get_or xs i d) ≡ true → true ≡ whole
  seek_hit d h z = sym (turn d h ∙ ap (λ (b : Bool). (b || list_any t (drop (i + 1) (take n xs))) || rest) z)

  pub seek_miss : (d : F) → i < n → t (get_or xs i d) ≡ false → Seeking t xs n rest whole (i + 1)
  seek_miss d h z = record { full = s.full; same = turn d h ∙ ap (λ (b : Bool). (b || list_any t (drop (i + 1) (take n xs))) || rest) z }

  -- past the last, the rest decides
  pub seek_end : n ≤ i → whole ≡ rest
  seek_end h = s.same ∙ ap (λ (l : List F). list_any t l || rest) (first_past xs n i h)

-- ---- two of the first n
-- A loop over pairs, before its turn at i: none before i is like a later one, so what is left decides.
pub record Pairing {F : Type 0} (alike : F → F → Bool) (xs : List F) (n : ℕ) (i : ℕ) : Type 0 where
  pub full : n ≤ length xs
  pub same : two_alike alike (take n xs) ≡ two_alike alike (drop i (take n xs))

-- it begins at the first
pub pair : {F : Type 0} {alike : F → F → Bool} {xs : List F} {n : ℕ} → n ≤ length xs → Pairing alike xs n 0
pair full = record { full = full; same = refl }

module _ {F : Type 0} {alike : F → F → Bool} {xs : List F} {n i : ℕ} (p : Pairing alike xs n i) where
  -- its turn is a loop over those past i
  pub pair_seek : (d : F) → i < n → Seeking (alike (get_or xs i d)) xs n (two_alike alike (drop (i + 1) (take n xs))) (two_alike alike (take n xs)) (i + 1)
  unfolding two_alike
  pair_seek d h = record { full = p.full; same = p.same ∙ ap (two_alike alike) (first_at xs n i d p.full h) }

  -- past the last there is no pair
  pub pair_end : n ≤ i → false ≡ two_alike alike (take n xs)
  unfolding two_alike
  pair_end h = sym (p.same ∙ ap (two_alike alike) (first_past xs n i h))

-- where that loop is over, the turn at the next is due
pub pair_next : {F : Type 0} {alike : F → F → Bool} {t : F → Bool} {xs : List F} {n i j : ℕ}
    → Seeking t xs n (two_alike alike (drop i (take n xs))) (two_alike alike (take n xs)) j → n ≤ j → Pairing alike xs n i
pair_next s h = record { full = s.full; same = seek_end s h }
