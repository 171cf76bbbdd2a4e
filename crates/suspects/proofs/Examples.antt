-- Suspects and searches worked out by computation, of two factors at n = 4 and E = 62. Assumes nothing.
use Rattle.std.specs.Prelude.{◌≡◌, refl, Bool, true, false, List, [], ◌∷◌, map, ℕ, ◌*◌, ◌^◌, Option, Some}
use Rattle.std.proofs.Math.Decide.{dec_le, dec_lt, ℕ_discrete}
use Rattle.search.specs.declared.Found.{Found}
use Rattle.search.specs.Search.{ceil_div, neg_mod, test, place_after, after_round, search_within, search_window, shift, search_from}
use Rattle.factor.specs.Precision.{scale_of}
use Rattle.factor.specs.Context.{context_at}
use Rattle.suspects.specs.Suspects.{is_suspect}
use Rattle.suspects.specs.Next.{next_in, next_from, first_high}

-- all significands of four bits, and whether each is a suspect of the factor C = c / 2 ^ 62
abbrev row : ℕ → List Bool
row c = map (is_suspect (context_at 4) c c) (8 ∷ 9 ∷ 10 ∷ 11 ∷ 12 ∷ 13 ∷ 14 ∷ 15 ∷ [])

-- the next suspect from a on, in the half of h
next : (h c a : ℕ) → Found
unfolding ceil_div neg_mod test place_after after_round search_within search_window shift search_from dec_le dec_lt ℕ_discrete next_in scale_of
next h c a = next_from (context_at 4) c c h a

abbrev after : ℕ → Option ℕ → Found
after rounds place = record { place = place; rounds = rounds }

-- ---- P1: C = 3/2, suspects 9 and 14
abbrev P1 : ℕ
P1 = 3 * 2 ^ 61

P1_row : row P1 ≡ (false ∷ true ∷ false ∷ false ∷ false ∷ false ∷ true ∷ false ∷ [])
unfolding is_suspect scale_of
P1_row = refl

P1_first_high : first_high (context_at 4) P1 ≡ 11
unfolding first_high scale_of
P1_first_high = refl

P1_low : next (2 ^ 61) P1 8 ≡ after 0 (Some 9)
unfolding next
P1_low = refl

-- past the half
P1_low_none : next (2 ^ 61) P1 10 ≡ after 0 (Some 11)
unfolding next
P1_low_none = refl

P1_high : next (2 ^ 62) P1 11 ≡ after 0 (Some 14)
unfolding next
P1_high = refl

-- past the range
P1_high_none : next (2 ^ 62) P1 15 ≡ after 0 (Some 18)
unfolding next
P1_high_none = refl

-- ---- P2: C = 19/16 - 2 ^ -20, the only suspect is 8, a power of two
abbrev P2 : ℕ
P2 = 0x4BFFFC0000000000

P2_row : row P2 ≡ (true ∷ false ∷ false ∷ false ∷ false ∷ false ∷ false ∷ false ∷ [])
unfolding is_suspect scale_of
P2_row = refl

P2_first_high : first_high (context_at 4) P2 ≡ 14
unfolding first_high scale_of
P2_first_high = refl

-- the start itself
P2_low : next (2 ^ 61) P2 8 ≡ after 0 (Some 8)
unfolding next
P2_low = refl

-- past the half, and a round
P2_low_none : next (2 ^ 61) P2 9 ≡ after 1 (Some 19)
unfolding next
P2_low_none = refl

-- past the range
P2_high_none : next (2 ^ 62) P2 14 ≡ after 0 (Some 16)
unfolding next
P2_high_none = refl
