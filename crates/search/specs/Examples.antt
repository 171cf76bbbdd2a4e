-- Searches worked out by computation, up to 62 bits. Assumes nothing.
use Rattle.std.specs.Prelude.{◌≡◌, refl, ℕ, ◌+◌, ◌-◌, ◌*◌, ◌%◌, ◌^◌, Option, Some, None}
use Rattle.std.proofs.Math.Decide.{dec_le, dec_lt, ℕ_discrete}
use Rattle.search.specs.declared.Found.{Found}
use Rattle.search.specs.Search.{ceil_div, neg_mod, test, at_once, place_after, after_round, search_within, search_window, shift, search_from}

abbrev after : ℕ → Option ℕ → Found
after n p = record { place = p; rounds = n }

-- what has to be unfolded for a search to compute
whole : (m step base l r : ℕ) → Found
unfolding ceil_div neg_mod test place_after after_round search_within search_window shift search_from dec_le dec_lt ℕ_discrete
whole m step base l r = search_from m step base l r

-- Two rounds, the second mirrored: 11 * 37 is 7 modulo 100.
two_rounds : search_window 100 37 5 7 ≡ after 2 (Some 11)
unfolding whole
two_rounds = refl

-- The same search mirrored: 11 * 63 is 93 modulo 100.
mirror : search_window 100 63 93 95 ≡ after 2 (Some 11)
unfolding whole
mirror = refl

-- The multiples of 40 modulo 100 are the multiples of 20.
none : search_window 100 40 5 7 ≡ after 2 None
unfolding whole
none = refl

-- The start's remainder lies in the window.
at_start : search_from 100 37 50 45 55 ≡ at_once (Some 0)
unfolding whole
at_start = refl

-- √2 at n = 24: the first suspect from X = 2 ^ 23 on is past the low significands.
root_two :
    search_from (2 ^ 62) (0x5A827999FCEF3242 % 2 ^ 62) (0x5A827999FCEF3242 * 2 ^ 23 % 2 ^ 62) (2 ^ 61 - 2 ^ 38 - 2 ^ 24 + 1) (2 ^ 61 + 2 ^ 38 - 1)
    ≡ after 17 (Some 6233715)
unfolding whole
root_two = refl
