-- The search in a half finds the least suspect from its start on, and takes few rounds. Assumes nothing.
use Rattle.std.specs.Prelude.{◌≡◌, ◌↔◌, Bool, true, false, cond, ℕ, suc, ◌+◌, ◌-◌, ◌*◌, ◌/◌, ◌%◌, ◌^◌, ◌≤◌, ◌<◌, ltb, Option, Some, None}
use Rattle.std.proofs.Common.{sym, ◌∙◌, mul-le-mul_right, le_refl, le_trans, mod-lt, lt_of_not-le, div-add-mod', pow_mono, lt-ltb, le-ltb}
use Rattle.std.proofs.Math.Path.{ap}
use Rattle.std.proofs.Math.Bool.{not-eq-not}
use Rattle.std.proofs.Math.Nat.{mod-add-mod, add-mul-mod_self_right}
use Rattle.std.proofs.Math.Decide.{dec_lt}
use native.Mathlib.Omega.{arith}
use Rattle.std.proofs.Math.Pow.{pow-add, pow_pos}
use Rattle.search.specs.declared.Found.{Found}
use Rattle.search.specs.Search.{search_from, ceil_div}
use Rattle.search.specs.Finds.{Wanted, Least, LeastFrom, Finds}
use Rattle.search.specs.MultipleLaws.{ceil_div_ge, ceil_div_le}
use Rattle.search.specs.SearchLaws.{search_from_finds}
use Rattle.factor.specs.Context.{Context, Fine}
use Rattle.factor.specs.Parts.{parts_at}
use Rattle.factor.specs.Ends.{End}
use Rattle.suspects.specs.declared.Window.{Window}
use Rattle.suspects.specs.Suspects.{window_w, widening, is_low, half_step, in_window, is_suspect}
use Rattle.suspects.proofs.SuspectLaws.{in_window_lem, room}
use Rattle.suspects.specs.Next.{window_near, moved_by, next_in, next_from, first_high}

-- ---- where the halves meet
-- X is low exactly if it is below the first high significand.
pub low_is_below : (K : Context) (L X : ℕ) → 0 < L → is_low K L X ≡ ltb X (first_high K L)
unfolding first_high
low_is_below K L X p = go (dec_lt X (ceil_div (2 ^ (K.E + K.n)) L))
  where
    T : ℕ
    T = 2 ^ (K.E + K.n)

    go : Dec (X < ceil_div T L) → ltb (L * X) T ≡ ltb X (ceil_div T L)
    go (yes lt) =
        let low : L * X < T = lt_of_not-le λ (h : T ≤ L * X). omega (arith, ceil_div_le T L X p (omega arith)) in
        lt-ltb (L * X) T low ∙ sym (lt-ltb X (ceil_div T L) lt)
    go (no ge) =
        let le : ceil_div T L ≤ X = omega arith in
        let high : T ≤ L * X = omega (arith, ceil_div_ge T L p, mul-le-mul_right L le) in
        le-ltb (L * X) T high ∙ sym (le-ltb X (ceil_div T L) le)

module _ (K : Context) (L X : ℕ) (p : 0 < L) where
  open K use {rule, n, E}

  half_is : (b : Bool) → ltb X (first_high K L) ≡ b → half_step K L X ≡ cond b (2 ^ (E - 1)) (2 ^ E)
  half_is b e = ap (λ (t : Bool). cond t (2 ^ (E - 1)) (2 ^ E)) (low_is_below K L X p ∙ e)

  -- Half the distance of two midpoints is 2 ^ (E - 1) below the first high significand, and 2 ^ E from it on.
  pub half_low : X < first_high K L → half_step K L X ≡ 2 ^ (E - 1)
  half_low h = half_is true (lt-ltb _ _ h)

  pub half_high : first_high K L ≤ X → half_step K L X ≡ 2 ^ E
  half_high h = half_is false (le-ltb _ _ h)

-- ---- remainders
-- with the step L mod m, the remainder of place k from a is that of L * (a + k)
counted_from : (m L a k : ℕ) → (L % m * a % m + k * (L % m)) % m ≡ L * (a + k) % m
counted_from m L a k =
    mod-add-mod (L % m * a) m (k * (L % m))
    ∙ sym (add-mul-mod_self_right (L % m * a + k * (L % m)) (L / m * (a + k)) m)
    ∙ ap (λ (z : ℕ). z % m) (omega (arith, ap (λ (z : ℕ). z * (a + k)) (div-add-mod' L m)))

-- ---- the search for remainders near h
module _ (L h W D : ℕ) (some : 0 < W) (fits : W + D ≤ h) where
  abbrev m : ℕ
  m = 2 * h

  abbrev s : Window
  s = window_near L h W D

  abbrev WantedFrom : (a k : ℕ) → Type 0
  WantedFrom a = Wanted m s.step (s.step * a % m) s.from s.to

  abbrev searched : ℕ → Found
  searched a = search_from m s.step (s.step * a % m) s.from s.to

  found : (a : ℕ) → Finds m s.step (s.step * a % m) s.from s.to (searched a)
  found a =
      let p : 0 < m = omega arith in
      search_from_finds m s.step (s.step * a % m) s.from s.to (omega arith, omega arith, mod-lt L p) (mod-lt (s.step * a) p)

  -- few rounds
  near_few : (E a : ℕ) → h ≤ 2 ^ E → (next_in s a).rounds ≤ E
  unfolding next_in
  near_few E a le = omega (arith, (found a).few (suc (suc E)) (omega (arith, pow-add 2 2 E, pow_pos E)))

  -- a place is wanted exactly if the remainder of L * X is
  wanted_near : (a k : ℕ) → WantedFrom a k ↔ (in_window (L * (a + k) % m) h W D ≡ true)
  wanted_near a k = (
    λ w. (in_window_lem (L * (a + k) % m) h W D).1 (omega (arith, counted_from m L a k)),
    λ e. omega (arith, counted_from m L a k, (in_window_lem (L * (a + k) % m) h W D).0 e),
  )

  -- the least significand from a on is found of those with `suspect`, as far as this is told by the remainder of L * X
  module _ (suspect : ℕ → Bool) (a end : ℕ) (told : (X : ℕ) → a ≤ X → X < end → suspect X ≡ in_window (L * X % m) h W D) where
    clear : (Y : ℕ) → a ≤ Y → Y < end → ¬ WantedFrom a (Y - a) → suspect Y ≡ false
    clear Y l u none =
        told Y l u ∙ ap (λ (z : ℕ). in_window (L * z % m) h W D) (omega arith) ∙ (not-eq-not {b = false}).0 (λ e. none ((wanted_near a (Y - a)).1 e))

    near_least : LeastFrom suspect end a (next_in s a).place
    unfolding next_in
    near_least = go (searched a).place (found a).least
      where
        go : (p : Option ℕ) → Least (WantedFrom a) p → LeastFrom suspect end a (moved_by a p)
        go (Some k) w = (
          omega arith,
          λ u. told (a + k) (omega arith) u ∙ (wanted_near a k).0 w.0,
          λ Y l x u. clear Y l u (w.1 (Y - a) (omega arith)),
        )
        go None w = λ Y l u. clear Y l u (w (Y - a))

-- ---- ends with the same parts, at two bits or more
module _ (K : Context) (ok : Fine K) (two : 2 ≤ K.n) (L U : ℕ) (le : End K L) (ue : End K U) (same : parts_at K L ≡ parts_at K U) where
  open K use {rule, n, E}
  open ok use {some as P, room as F}

  low_room : window_w K + widening K L U ≤ 2 ^ (E - 1)
  low_room = room K ok two L U le ue same

  low_high : 2 ^ (E - 1) ≤ 2 ^ E
  low_high = pow_mono {i = E - 1} {j = E} (omega arith)

  high_room : window_w K + widening K L U ≤ 2 ^ E
  high_room = le_trans low_room low_high

  some : 0 < L
  some = le_trans (pow_pos E) le.from

  -- In the half of h the search finds the least suspect from a on, as far as the half goes.
  pub finds_in : (h a end : ℕ) → window_w K + widening K L U ≤ h → ((X : ℕ) → a ≤ X → X < end → half_step K L X ≡ h)
      → LeastFrom (is_suspect K L U) end a (next_from K L U h a).place
  unfolding is_suspect
  finds_in h a end fits half =
      near_least L h (window_w K) (widening K L U) (pow_pos (E - n)) fits (is_suspect K L U) a end
      (λ X l u. ap (λ (z : ℕ). in_window (L * X % (2 * z)) z (window_w K) (widening K L U)) (half X l u))

  -- In the low half, as far as the first high significand.
  pub finds_low : (a end : ℕ) → end ≤ first_high K L → LeastFrom (is_suspect K L U) end a (next_from K L U (2 ^ (E - 1)) a).place
  finds_low a end x = finds_in (2 ^ (E - 1)) a end low_room (λ X l u. half_low K L X some (omega arith))

  -- In the high half, however far.
  pub finds_high : (a end : ℕ) → first_high K L ≤ a → LeastFrom (is_suspect K L U) end a (next_from K L U (2 ^ E) a).place
  finds_high a end x = finds_in (2 ^ E) a end high_room (λ X l u. half_high K L X some (omega arith))

  few_in : (h a : ℕ) → window_w K + widening K L U ≤ h → h ≤ 2 ^ E → (next_from K L U h a).rounds ≤ E
  few_in h a fits = near_few L h (window_w K) (widening K L U) (pow_pos (E - n)) fits E a

  -- A search takes at most E rounds, in the low half and in the high half.
  pub few_low : (a : ℕ) → (next_from K L U (2 ^ (E - 1)) a).rounds ≤ E
  few_low a = few_in (2 ^ (E - 1)) a low_room low_high

  pub few_high : (a : ℕ) → (next_from K L U (2 ^ E) a).rounds ≤ E
  few_high a = few_in (2 ^ E) a high_room (le_refl (2 ^ E))
