-- The search finds the least place wanted, from the first place or from any start. Assumes nothing.
use Rattle.std.specs.Prelude.{◌≡◌, ℕ, zero, suc, ◌+◌, ◌-◌, ◌*◌, ◌/◌, ◌%◌, ◌^◌, ◌≤◌, ◌<◌, Some}
use Rattle.std.proofs.Common.{ap, ◌∙◌, subst, zero-le, div-add-mod', mod-lt, mod-eq_of_lt, mul-le-mul_right, lt_of_not-le, arith}
use Rattle.std.proofs.Math.Decide.{dec_le, dec_lt}
use Rattle.std.proofs.Math.Nat.{add-mul-mod_self_right}
use Rattle.std.proofs.Math.Arith.{digits_mod}
use Rattle.search.specs.declared.Found.{Found}
use Rattle.search.specs.Search.{at_once, search_window, shift, search_from}
use Rattle.search.specs.Finds.{Wanted, Least, Finds}
use Rattle.search.specs.Cases.{Ready}
use Rattle.search.specs.Winding.{Hits}
use Rattle.search.specs.CaseLaws.{test_cases, test_yes, test_no, searched}
use Rattle.search.specs.PlaceLaws.{least_same, searched_least, searched_few}

-- ---- the window and the one that it is shifted to

module _ (m l r n : ℕ) where
  remainder_out : (l ≤ n % m) × (n % m ≤ r) → (l + n / m * m ≤ n) × (n ≤ r + n / m * m)
  remainder_out h = omega (arith, div-add-mod' n m)

  remainder_in : (w : ℕ) → r < m → l + w * m ≤ n → n ≤ r + w * m → (l ≤ n % m) × (n % m ≤ r)
  remainder_in w rm low high =
      let rem : n % m ≡ n - w * m = ap (λ (x : ℕ). x % m) (omega arith) ∙ digits_mod w {m = m} {r = n - w * m} (omega arith) in
      omega (arith, rem)

-- shifted by `base`, with c moduli added
module _ (m s base l r l' r' c : ℕ) (rm : r < m) (rm' : r' < m) (low : l' + base ≡ l + c * m) (high : r' + base ≡ r + c * m) where
  hits_wanted : (k : ℕ) → Hits m s l' r' k → Wanted m s base l r k
  hits_wanted k g = remainder_in m l r (base + k * s) (g.0 + c) rm (omega arith) (omega arith)

  wanted_hits : (k : ℕ) → Wanted m s base l r k → Hits m s l' r' k
  wanted_hits k g =
      let w : ℕ = (base + k * s) / m in
      let out = remainder_out m l r (base + k * s) g in
      let enough = lt_of_not-le λ (less : suc w ≤ c). omega (arith, out, mul-le-mul_right m less) in
      let parts : w ≡ c + (w - c) = omega (arith, enough) in
      (w - c, omega (arith, out, ap (λ (n : ℕ). n * m) parts))

-- ---- every answer

-- after as many steps as the modulus the remainders come again
least_below : (m s base l r k : ℕ) → r < m → Least (Wanted m s base l r) (Some k) → k < m
least_below m s base l r k rm g =
    let parts : base + k * s ≡ base + k % m * s + k / m * s * m = omega (arith, ap (λ (n : ℕ). n * s) (div-add-mod' k m)) in
    let again = ap (λ (n : ℕ). n % m) parts ∙ add-mul-mod_self_right (base + k % m * s) (k / m * s) m in
    lt_of_not-le λ (far : m ≤ k). g.1 (k % m) (omega (arith, mod-lt k {m = m} (omega arith))) (omega (arith, g.0, again))

finds :
    (m s base l r : ℕ) (f : Found) → r < m → Least (Wanted m s base l r) f.place → ((b : ℕ) → m < 2 ^ suc (suc b) → f.rounds ≤ b)
    → Finds m s base l r f
finds m s base l r f rm least few =
    record { least = least; below = λ k e. least_below m s base l r k rm (subst (Least (Wanted m s base l r)) e least); few = digits }
  where
    digits : (b : ℕ) → m < 2 ^ b → f.rounds ≤ b - 2
    digits zero small = omega (arith, few 0 (omega arith))
    digits (suc zero) small = omega (arith, few 0 (omega arith))
    digits (suc (suc b)) small = omega (arith, few b small)

window_finds :
    (m s base l r l' r' c : ℕ) → Ready m s l' r' → r < m → l' + base ≡ l + c * m → r' + base ≡ r + c * m
    → Finds m s base l r (search_window m s l' r')
window_finds m s base l r l' r' c h rm low high =
    finds m s base l r (search_window m s l' r') rm
    (least_same (hits_wanted m s base l r l' r' c rm h.1 low high) (wanted_hits m s base l r l' r' c rm h.1 low high)
    (search_window m s l' r').place (searched_least (searched m s l' r' h) h))
    (searched_few (searched m s l' r' h) h)

-- THE SEARCH FINDS the least place whose remainder lies in the window, and none only where there is none.
pub search_window_finds : (m s l r : ℕ) → Ready m s l r → Finds m s 0 l r (search_window m s l r)
search_window_finds m s l r h = window_finds m s 0 l r l r 0 h h.1 (omega arith) (omega arith)

-- ---- the shift

-- A shifted number is below the modulus.
pub shift_lt : (m base x : ℕ) → 0 < m → shift m base x < m
unfolding shift
shift_lt m base x p = mod-lt (x + (m - base)) p

-- A number from `base` on is shifted down by it.
pub shift_over : (m base x : ℕ) → base ≤ x → x < m → shift m base x ≡ x - base
unfolding shift
shift_over m base x le xm = ap (λ (n : ℕ). n % m) (omega arith) ∙ digits_mod 1 {m = m} {r = x - base} (omega arith)

-- A number below `base` is shifted down by it from one modulus further on.
pub shift_under : (m base x : ℕ) → x < base → base < m → shift m base x ≡ x + (m - base)
unfolding shift
shift_under m base x lt bm = mod-eq_of_lt (omega arith)

-- both ends are shifted with as many moduli added
abbrev Alike : (m base l r : ℕ) → Type 0
Alike m base l r = (c : ℕ) × (shift m base l + base ≡ l + c * m) × (shift m base r + base ≡ r + c * m)

module _ (m base l r : ℕ) (lr : l ≤ r) (rm : r < m) (bm : base < m) where
  across : shift m base r < shift m base l → (l ≤ base) × (base ≤ r)
  across over =
      omega (
        arith,
        lt_of_not-le λ (g : suc base ≤ l). omega (arith, shift_over m base l (omega arith) (omega arith), shift_over m base r (omega arith) rm),
        lt_of_not-le λ (g : suc r ≤ base). omega (arith, shift_under m base l (omega arith) bm, shift_under m base r g bm),
      )

  aside : ¬ (shift m base r < shift m base l) → Alike m base l r
  aside apart = go (dec_le base l) (dec_lt r base)
    where
      go : Dec (base ≤ l) → Dec (r < base) → Alike m base l r
      go (yes le) t = (0, omega (arith, shift_over m base l le (omega arith)), omega (arith, shift_over m base r (omega arith) rm))
      go (no gt) (yes lt) = (1, omega (arith, shift_under m base l (omega arith) bm), omega (arith, shift_under m base r lt bm))
      go (no gt) (no ge) = absurd (apart (omega (arith, shift_under m base l (omega arith) bm, shift_over m base r (omega arith) rm)))

-- ---- the search from a start

-- Where the shifted window passes over 0, the start is found.
pub search_from_start : (m s base l r : ℕ) → shift m base r < shift m base l → search_from m s base l r ≡ at_once (Some 0)
unfolding search_from
search_from_start m s base l r over = test_yes _ (dec_lt (shift m base r) (shift m base l)) over

-- Otherwise the shifted window is searched.
pub search_from_window :
    (m s base l r : ℕ) → shift m base l ≤ shift m base r → search_from m s base l r ≡ search_window m s (shift m base l) (shift m base r)
unfolding search_from
search_from_window m s base l r apart = test_no _ (dec_lt (shift m base r) (shift m base l)) (omega arith)

-- THE SEARCH FROM A START FINDS the least place whose remainder, counted from the start's, lies in the window, and none only where there is none.
pub search_from_finds : (m s base l r : ℕ) → Ready m s l r → base < m → Finds m s base l r (search_from m s base l r)
unfolding search_from
search_from_finds m s base l r h bm =
    test_cases (Finds m s base l r) (dec_lt (shift m base r) (shift m base l))
    (λ over.
    let g = across m base l r h.0 h.1 bm over in
    let steps : base + 0 * s ≡ base = omega arith in
    finds m s base l r (at_once (Some 0)) h.1 (omega (arith, ap (λ (n : ℕ). n % m) steps ∙ mod-eq_of_lt bm), λ x lt g. omega arith)
    (λ b small. zero-le))
    (λ apart.
    let a = aside m base l r h.0 h.1 bm apart in
    window_finds m s base l r (shift m base l) (shift m base r) a.0 (omega arith, shift_lt m base r (omega arith), h.2) h.1 a.1 a.2)
