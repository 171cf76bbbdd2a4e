-- Laws of kits as words: each place's words, loops over the places of a kit, and copies of words. Assumes nothing.
use Rattle.std.specs.Prelude.{◌≡◌, refl, Bool, true, false, ◌||◌, List, [], ◌∷◌, ◌++◌, ℕ, zero, suc, ◌+◌, ◌-◌, ◌*◌, ◌≤◌, ◌<◌, length, get_or, set, take, drop, replicate, map}
use Rattle.std.proofs.Common.{sym, ap, ap₂, ◌∙◌, add-one, length-set, length-drop, take-suc, take-suc-set, take_all, drop-drop, length-take-le, arith}
use Rattle.std.specs.List.{list_any, range_with_len}
use Rattle.std.proofs.lemmas.List.{length-replicate}
use Rattle.std.proofs.lemmas.List.Edits.{sets}
use Rattle.factor.specs.declared.Factor.{Factor}
use Rattle.calls.proofs.ListLaws.{sets_append}
use Rattle.exports.specs.Words.{factor_length, factor_from, damaged}
use Rattle.exports.specs.Kits.{factors_from, any_damaged}

-- ---- parts of words
-- the words from a on, as they are lent
pub lent_from : (ws : List ℕ) (a : ℕ) → take (length ws - a) (drop a ws) ≡ drop a ws
lent_from ws a = take_all (length ws - a) (drop a ws) (omega (arith, length-drop a ws))

pub lent_long : (ws : List ℕ) (a n : ℕ) → a + n ≤ length ws → n ≤ length (take (length ws - a) (drop a ws))
lent_long ws a n h = omega (arith, ap length (lent_from ws a), length-drop a ws)

-- the words of the place i
abbrev pub place_words : List ℕ → (i : ℕ) → List ℕ
place_words ws i = drop (1 + factor_length * i) ws

next_place : (ws : List ℕ) (i : ℕ) → drop factor_length (place_words ws i) ≡ place_words ws (i + 1)
next_place ws i = let e : 1 + factor_length * i + factor_length ≡ 1 + factor_length * (i + 1) = omega arith in drop-drop factor_length (1 + factor_length * i) ws ∙ ap (λ (n : ℕ). drop n ws) e

-- ---- factors
-- the factors of so many places, from one on
pub factors_each : (ws : List ℕ) (n a : ℕ) → factors_from n (place_words ws a) ≡ map (λ i. factor_from (place_words ws i)) (range_with_len a n)
unfolding factors_from
factors_each ws zero a = refl
factors_each ws (suc n) a = ap (λ (l : List Factor). factor_from (place_words ws a) ∷ l) (ap (factors_from n) (next_place ws a) ∙ factors_each ws n (a + 1))

factors_length : (n : ℕ) (ws : List ℕ) → length (factors_from n ws) ≡ n
unfolding factors_from
factors_length zero ws = refl
factors_length (suc n) ws = ap suc (factors_length n (drop factor_length ws))

-- the one at i, and those past it
factors_at : (i n a : ℕ) (ws : List ℕ) → i < n → drop i (factors_from n (place_words ws a)) ≡ factor_from (place_words ws (a + i)) ∷ drop (suc i) (factors_from n (place_words ws a))
unfolding factors_from
factors_at i zero a ws h = absurd (omega arith)
factors_at zero (suc n) a ws h = let e : a + 0 ≡ a = omega arith in rw e
factors_at (suc i) (suc n) a ws h =
    let e : a + 1 + i ≡ a + suc i = omega arith in
    ap (λ (w : List ℕ). drop i (factors_from n w)) (next_place ws a)
    ∙ factors_at i n (a + 1) ws (omega arith)
    ∙ ap₂ (λ (k : ℕ) (w : List ℕ). factor_from (place_words ws k) ∷ drop (suc i) (factors_from n w)) e (sym (next_place ws a))

-- A loop that fills the places, before its turn at i: those before are filled.
pub record Filling (ws : List ℕ) (xs : List Factor) (i : ℕ) : Type 0 where
  pub inside : i ≤ 96
  pub long : length xs ≡ 96
  pub same : take i xs ≡ take i (factors_from 96 (drop 1 ws))

take_next : (xs : List Factor) (i : ℕ) (f : Factor) (r : List Factor) → drop i xs ≡ f ∷ r → take (suc i) xs ≡ take i xs ++ f ∷ []
take_next [] zero f r e = let z : ◌≡◌ {A = ℕ} 0 1 = cc in absurd (omega arith)
take_next [] (suc i) f r e = let z : ◌≡◌ {A = ℕ} 0 1 = cc in absurd (omega arith)
take_next (x ∷ xs) zero f r e = let q : x ≡ f = cc in rw q
take_next (x ∷ xs) (suc i) f r e = ap (λ (l : List Factor). x ∷ l) (take_next xs i f r e)

all_next : (ws : List ℕ) (i : ℕ) → i < 96 → take (suc i) (factors_from 96 (drop 1 ws)) ≡ take i (factors_from 96 (drop 1 ws)) ++ factor_from (place_words ws i) ∷ []
all_next ws i h =
    let e : 0 + i ≡ i = omega arith in
    take_next (factors_from 96 (drop 1 ws)) i (factor_from (place_words ws i)) (drop (suc i) (factors_from 96 (drop 1 ws)))
    (factors_at i 96 0 ws h ∙ ap (λ (k : ℕ). factor_from (place_words ws k) ∷ drop (suc i) (factors_from 96 (drop 1 ws))) e)

pub fill_start : {ws : List ℕ} {f : Factor} → f ≡ factor_from (take (length ws - 1) (drop 1 ws)) → Filling ws (replicate 96 f) 1
fill_start {ws} {f} q =
    record {
      inside = omega arith;
      long = length-replicate {A = Factor} 96 f;
      same = ap (λ (g : Factor). g ∷ []) (q ∙ ap factor_from (lent_from ws 1)) ∙ sym (all_next ws 0 (omega arith));
    }

module _ {ws : List ℕ} {xs : List Factor} {i : ℕ} (l : Filling ws xs i) where
  pub fill_next : {f : Factor} → i < 96 → f ≡ factor_from (take (length ws - (1 + factor_length * i)) (place_words ws i)) → Filling ws (set xs i f) (i + 1)
  fill_next {f} h q =
      record {
        inside = omega arith;
        long = length-set xs i f ∙ l.long;
        same =
            ap (λ (n : ℕ). take n (set xs i f)) (add-one i)
            ∙ take-suc-set xs i f (omega (arith, l.long))
            ∙ ap₂ (λ (k : List Factor) (g : Factor). k ++ g ∷ []) l.same (q ∙ ap factor_from (lent_from ws (1 + factor_length * i)))
            ∙ sym (all_next ws i h)
            ∙ ap (λ (n : ℕ). take n (factors_from 96 (drop 1 ws))) (sym (add-one i));
      }

  pub fill_end : 96 ≤ i → xs ≡ factors_from 96 (drop 1 ws)
  fill_end h =
      sym (take_all i xs (omega (arith, l.long))) ∙ l.same ∙ take_all i (factors_from 96 (drop 1 ws)) (omega (arith, factors_length 96 (drop 1 ws)))

-- ---- damaged words
-- whether the words of one of them are damaged
pub damages_each : (ws : List ℕ) (n a : ℕ) → any_damaged n (place_words ws a) ≡ list_any (λ i. damaged (place_words ws i)) (range_with_len a n)
unfolding any_damaged
damages_each ws zero a = refl
damages_each ws (suc n) a = ap (λ (b : Bool). damaged (place_words ws a) || b) (ap (any_damaged n) (next_place ws a) ∙ damages_each ws n (a + 1))

-- A loop over the factors counted, before its turn at i: none before was damaged, so those that are left decide.
pub record Looking (ws : List ℕ) (count i : ℕ) : Type 0 where
  pub inside : i ≤ count
  pub same : any_damaged count (drop 1 ws) ≡ any_damaged (count - i) (place_words ws i)

pub look_start : (ws : List ℕ) (count : ℕ) → Looking ws count 0
look_start ws count = let e : count - 0 ≡ count = omega arith in record { inside = omega arith; same = rw e }

module _ {ws : List ℕ} {count i : ℕ} (l : Looking ws count i) where
  turn : i < count → any_damaged count (drop 1 ws) ≡ damaged (place_words ws i) || any_damaged (count - (i + 1)) (place_words ws (i + 1))
  unfolding any_damaged
  turn h =
      let e : count - i ≡ suc (count - (i + 1)) = omega arith in
      l.same ∙ ap (λ (n : ℕ). any_damaged n (place_words ws i)) e ∙ ap (λ (w : List ℕ). damaged (place_words ws i) || any_damaged (count - (i + 1)) w) (next_place ws i)

  pub look_hit : {t : Bool} → i < count → t ≡ damaged (take (length ws - (1 + factor_length * i)) (place_words ws i)) → t ≡ true → true ≡ any_damaged count (drop 1 ws)
  look_hit h q z =
      let d : damaged (place_words ws i) ≡ true = ap damaged (sym (lent_from ws (1 + factor_length * i))) ∙ sym q ∙ z in
      sym (turn h ∙ ap (λ (b : Bool). b || any_damaged (count - (i + 1)) (place_words ws (i + 1))) d)

  pub look_miss : {t : Bool} → i < count → t ≡ damaged (take (length ws - (1 + factor_length * i)) (place_words ws i)) → t ≡ false → Looking ws count (i + 1)
  look_miss h q z =
      let d : damaged (place_words ws i) ≡ false = ap damaged (sym (lent_from ws (1 + factor_length * i))) ∙ sym q ∙ z in
      record { inside = omega arith; same = turn h ∙ ap (λ (b : Bool). b || any_damaged (count - (i + 1)) (place_words ws (i + 1))) d }

  pub look_end : count ≤ i → false ≡ any_damaged count (drop 1 ws)
  unfolding any_damaged
  look_end h = let e : count - i ≡ 0 = omega arith in sym (l.same ∙ ap (λ (n : ℕ). any_damaged n (place_words ws i)) e)

-- ---- copies
-- A loop that copies words, before its turn at i.
pub record Copying (from to₀ to : List ℕ) (i : ℕ) : Type 0 where
  pub inside : i ≤ 961
  pub long : length to ≡ length to₀
  pub same : to ≡ sets to₀ 0 (take i from)

pub copy_start : (from to : List ℕ) → Copying from to to 0
copy_start from to = record { inside = omega arith; long = refl; same = refl }

module _ {from to₀ to : List ℕ} {i : ℕ} (l : Copying from to₀ to i) where
  pub copy_next : i < 961 → 961 ≤ length from → Copying from to₀ (set to i (get_or from i 0)) (i + 1)
  copy_next h room =
      let n : i ≡ 0 + length (take i from) = omega (arith, length-take-le i from (omega arith)) in
      record {
        inside = omega arith;
        long = length-set to i (get_or from i 0) ∙ l.long;
        same =
            ap (λ (t : List ℕ). set t i (get_or from i 0)) l.same
            ∙ ap (λ (n : ℕ). set (sets to₀ 0 (take i from)) n (get_or from i 0)) n
            ∙ sym (sets_append (take i from) (get_or from i 0 ∷ []) to₀ 0)
            ∙ ap (sets to₀ 0) (sym (take-suc from i 0 (omega arith)) ∙ ap (λ (n : ℕ). take n from) (sym (add-one i)));
      }

  pub copy_end : 961 ≤ i → to ≡ sets to₀ 0 (take 961 from)
  copy_end h = let e : i ≡ 961 = omega (arith, l.inside) in l.same ∙ ap (λ (n : ℕ). sets to₀ 0 (take n from)) e
