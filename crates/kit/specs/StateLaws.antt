-- Laws of kits and states as code tests them. Assumes nothing.
use Rattle.std.specs.Prelude.{◌≡◌, ◌≢◌, ◌⊎◌, refl, Bool, true, false, not, ◌&&◌, ◌||◌, List, [], ◌∷◌, ℕ, zero, suc, ◌+◌, ◌-◌, ◌^◌, ◌≤◌, ◌<◌, eqb, leb, ltb, length, get_or, take, drop, Result, Ok, Err, IsErrAnd}
use Rattle.std.proofs.Common.{sym, subst, ap, ap₂, ◌∙◌, inl, inr, arith, eq-eqb, ne_eqb, ltb-false, lt-ltb, le-ltb, le-leb, length-take, pow_pos}
use Rattle.std.proofs.Math.Decide.{dec_lt}
use Rattle.std.proofs.lemmas.Bool.{eqb-false, lt-leb}
use Rattle.marks.specs.declared.Refusal.{Refusal}
use Rattle.marks.specs.Answers.{number, number_of, refusal_of, First, NoneHolds, refused, accepted}
use Rattle.marks.specs.AnswerLaws.{refuses, none_refuses, judged_refused, or_false}
use Rattle.factor.specs.declared.Factor.{Factor}
use Rattle.factor.specs.Precision.{least_of, most_of, significand_out}
use Rattle.factor.specs.SetUp.{Sound}
use Rattle.calls.specs.Engine.{fresh}
use Rattle.calls.specs.Call.{new_state}
use Rattle.calls.specs.Kit.{Kit, in_kit, place_size, position, first_in, has_at, has_in}
use Rattle.calls.proofs.KitLaws.{place_of, significand_of_lem, all_at, none_of}
use Rattle.kit.specs.declared.Kit as code
use Rattle.kit.specs.declared.KitState.{KitState}
use Rattle.kit.specs.Engine.{faulty, factors, kits}
use Rattle.kit.specs.Answers.{Verdict, kit_of, no_factor, view_of, new_of, told, verdict_of}
use Rattle.kit.specs.EngineLaws.{passed_sound}
use Rattle.kit.specs.LoopLaws.{first_at, first_past}

-- ---- refusals that are handed on
pub handed_on : {A : Type 0} {l : List (ℕ × Bool)} (k : Refusal) (r : Result A Refusal) → IsErrAnd r (λ (e : Refusal). e ≡ k) → First l (number (number_of k)) → First l (refusal_of r)
handed_on k (Ok a) h f = absurd h
handed_on {l = l} k (Err e) h f = subst (λ (k : Refusal). First l (number (number_of k))) (sym h) f

-- ---- 42
-- none of an array with places counts exactly if the number is 0
none_taken : {F : Type 0} (xs : List F) (n : ℕ) → 0 < length xs → eqb n 0 ≡ eqb (length (take n xs)) 0
none_taken xs zero h = refl
none_taken [] (suc n) h = absurd (omega arith)
none_taken (x ∷ xs) (suc n) h = ne_eqb (suc n) 0 (λ q. omega arith) ∙ sym (ne_eqb (suc (length (take n xs))) 0 (λ q. omega arith))

-- so the number tells whether the kit is empty
pub number_out : {F : Type 0} (k : Kit F) → 0 < length k.factors → eqb k.count 0 || ltb 96 k.count ≡ eqb (length (in_kit k)) 0 || ltb 96 k.count
number_out k h = ap (λ (b : Bool). b || ltb 96 k.count) (none_taken k.factors k.count h)

-- 42 stands if it is 0 or above 96
pub number_refused : {F : Type 0} (k : Kit F) → 0 < length k.factors → (k.count ≡ 0) ⊎ (k.count ≢ 0) × (96 < k.count) → eqb (length (in_kit k)) 0 || ltb 96 k.count ≡ true
number_refused k h out =
    sym (number_out k h)
    ∙ elim out [
      | inl none ↦ rw (eq-eqb k.count 0 none)
      | inr many ↦ ap₂ ◌||◌ (ne_eqb k.count 0 many.0) (lt-ltb 96 k.count many.1)
    ]

-- and not else
pub number_passed : {F : Type 0} (k : Kit F) → 0 < length k.factors → k.count ≢ 0 → k.count ≤ 96 → eqb (length (in_kit k)) 0 || ltb 96 k.count ≡ false
number_passed k h some few = sym (number_out k h) ∙ ap₂ ◌||◌ (ne_eqb k.count 0 some) (le-ltb 96 k.count few)

-- ---- a kit that is not refused, in an array of 96 places
module _ (k : Kit Factor) (long : length k.factors ≡ 96) (good : NoneHolds (kits.new_faults k)) where
  -- its number
  pub number_few : k.count ≤ 96
  number_few = ltb-false 96 k.count (or_false (eqb (length (in_kit k)) 0) (ltb 96 k.count) good.0).1

  pub number_some : 0 < k.count
  number_some = omega (arith, length-take k.count k.factors, eqb-false (length (in_kit k)) 0 (or_false (eqb (length (in_kit k)) 0) (ltb 96 k.count) good.0).0)

  -- the factor at a place, and those past it
  pub factor_at : (i : ℕ) → i < k.count → drop i (in_kit k) ≡ get_or k.factors i no_factor ∷ drop (i + 1) (in_kit k)
  factor_at i h = first_at k.factors k.count i no_factor (omega (arith, number_few)) h

  -- each factor is sound
  pub sound_at : (i : ℕ) → i < k.count → Sound (get_or k.factors i no_factor)
  sound_at i h =
      let f = get_or k.factors i no_factor in
      passed_sound f (all_at (λ f. faulty f ≡ false) i (in_kit k) (drop (i + 1) (in_kit k)) f (none_of faulty (in_kit k) good.1.0) (factor_at i h))

-- ---- 32
-- a position of a kit, by its place and its significand
has_at_lem : (k : Kit Factor) (i X : ℕ) → X < place_size → has_in factors k (position i X) ≡ has_at factors (drop i (in_kit k)) X
unfolding has_in
has_at_lem k i X short = ap₂ (λ (j Y : ℕ). has_at factors (drop j (in_kit k)) Y) (place_of i X short) (significand_of_lem i X short)

-- past the number there is no factor
pub out_past : (k : Kit Factor) (i X : ℕ) → X < place_size → k.count ≤ i → true ≡ not (has_in factors k (position i X))
out_past k i X short h = sym (ap not (has_at_lem k i X short ∙ ap (λ (l : List Factor). has_at factors l X) (first_past k.factors k.count i h)))

-- not at most is above
above : (m X : ℕ) → ltb m X ≡ not (leb X m)
above m X = go (dec_lt m X)
  where
    go : Dec (m < X) → ltb m X ≡ not (leb X m)
    go (yes h) = rw (lt-ltb m X h, lt-leb X m h)
    go (no h) = rw (le-ltb m X (omega arith), le-leb X m (omega arith))

-- one of two does not hold
not_both : (a b : Bool) → not a || not b ≡ not (a && b)
not_both true b = refl
not_both false b = refl

-- outside the significands of n bits
out_bits : (n X : ℕ) → significand_out n X ≡ not (leb (least_of n) X && leb X (most_of n))
out_bits n X =
    let some = pow_pos n in
    let next : 2 ^ n ≡ suc (2 ^ n - 1) = omega arith in
    ap₂ (λ (a b : Bool). a || b) (above X (2 ^ (n - 1))) (ap (λ (m : ℕ). leb m X) next ∙ above (2 ^ n - 1) X) ∙ not_both (leb (least_of n) X) (leb X (most_of n))

-- at a place with a factor: outside its significands
pub out_at : (k : Kit Factor) → length k.factors ≡ 96 → NoneHolds (kits.new_faults k) → (i X : ℕ) → X < place_size → i < k.count
    → significand_out (get_or k.factors i no_factor).precision X ≡ not (has_in factors k (position i X))
out_at k long good i X short at =
    out_bits (get_or k.factors i no_factor).precision X ∙ sym (ap not (has_at_lem k i X short ∙ ap (λ (l : List Factor). has_at factors l X) (factor_at k long good i at)))

-- a place with a factor: its significands
module _ (k : Kit Factor) (long : length k.factors ≡ 96) (good : NoneHolds (kits.new_faults k)) (i X : ℕ) (short : X < place_size) (at : i < k.count) where
  abbrev bits : ℕ
  bits = (get_or k.factors i no_factor).precision

  out_is : not (has_in factors k (position i X)) ≡ not (leb (least_of bits) X && leb X (most_of bits))
  out_is = ap not (has_at_lem k i X short ∙ ap (λ (l : List Factor). has_at factors l X) (factor_at k long good i at))

  -- below the least
  pub out_below : X < least_of bits → true ≡ not (has_in factors k (position i X))
  out_below h = sym (out_is ∙ ap (λ (b : Bool). not (b && leb X (most_of bits))) (lt-leb (least_of bits) X h))

  -- from the least on, what lies above the largest
  pub out_above : least_of bits ≤ X → ltb (most_of bits) X ≡ not (has_in factors k (position i X))
  out_above h = sym (out_is ∙ ap (λ (b : Bool). not (b && leb X (most_of bits))) (le-leb (least_of bits) X h) ∙ sym (above (most_of bits) X))

-- ---- new states
-- a kit that is not refused begins at its first factor's least significand
first_is : (k : Kit Factor) → length k.factors ≡ 96 → NoneHolds (kits.new_faults k) → position 0 (least_of (get_or k.factors 0 no_factor).precision) ≡ kits.first k
first_is k long good = ap (λ (l : List Factor). position 0 (first_in factors l)) (sym (factor_at k long good 0 (number_some k long good)))

-- a refused kit has no state
pub new_refused : (k : code.Kit) {r : Result KitState Refusal} → First (kits.new_faults (kit_of k)) (refusal_of r) → {e : Refusal} → r ≡ Err e → new_of r ≡ new_state kits (kit_of k)
new_refused k {r} is {e} q = ap new_of q ∙ judged_refused is q (fresh kits (kit_of k))

-- a new state at its first significand is that of the logic
pub new_passed : (k : code.Kit) {first : ℕ} → length k.factors ≡ 96 → NoneHolds (kits.new_faults (kit_of k)) → first ≡ least_of (get_or k.factors 0 no_factor).precision
    → new_of (Ok (record { kit = k; place = 0; next = first; finished = false })) ≡ new_state kits (kit_of k)
new_passed k long good least =
    ap (λ (z : ℕ). accepted (record { over = kit_of k; next = z; finished = false })) (ap (position 0) least ∙ first_is (kit_of k) long good)
    ∙ sym (none_refuses (kits.new_faults (kit_of k)) (fresh kits (kit_of k)) good)

-- ---- verdicts
-- of a state that is refused
pub verdict_refused : {n : ℕ} (s : KitState) (entries : ℕ) → First (kits.faults (view_of s)) (number n) → refused n ≡ verdict_of (view_of s) entries
unfolding verdict_of
verdict_refused s entries is = refuses is (told s.finished entries)

-- of one that is not: by its finished mark and the entries
pub verdict_told : (s : KitState) (entries : ℕ) {v : Verdict} → NoneHolds (kits.faults (view_of s)) → told s.finished entries ≡ v → accepted v ≡ verdict_of (view_of s) entries
unfolding verdict_of
verdict_told s entries good e = ap accepted (sym e) ∙ sym (none_refuses (kits.faults (view_of s)) (told s.finished entries) good)
