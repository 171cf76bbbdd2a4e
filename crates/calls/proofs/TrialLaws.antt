-- Laws of how many suspects a plain call tries, and of the words that it has. Assumes nothing.
use Rattle.std.specs.Prelude.{◌≡◌, refl, List, [], ◌∷◌, ◌++◌, ℕ, zero, suc, ◌-◌, ◌≤◌, ◌<◌, length, take}
use Rattle.std.proofs.Common.{sym, append_assoc, arith, length-append}
use Rattle.marks.specs.declared.Mark.{Mark}
use Rattle.marks.specs.declared.Mark.TheVariants.{Right, Open, Wrong}
use Rattle.calls.specs.State.{listed}
use Rattle.calls.specs.Plain.{not_right, tries, words_of}

-- A listed significand has one word, and a right one none.
pub listed_length : (m : Mark) (X : ℕ) → length (listed m X) ≡ not_right m
listed_length Right X = refl
listed_length Open X = refl
listed_length Wrong X = refl

-- A trial writes at most one word.
not_right_few : (m : Mark) → not_right m ≤ 1
not_right_few Right = omega arith
not_right_few Open = omega arith
not_right_few Wrong = omega arith

pub listed_few : (m : Mark) (X : ℕ) → length (listed m X) ≤ 1
listed_few m X = rw (listed_length m X) (not_right_few m)

-- With no place free none is tried.
pub no_place : (mark : ℕ → Mark) (c : ℕ) (l : List ℕ) → tries mark (suc c) 0 l ≡ 0
unfolding tries
no_place mark c [] = refl
no_place mark c (x ∷ l) = refl

-- A call tries no more than the row has.
pub tries_within : (mark : ℕ → Mark) (c f : ℕ) (l : List ℕ) → tries mark c f l ≤ length l
unfolding tries
tries_within mark c f [] = omega arith
tries_within mark zero f (x ∷ l) = omega arith
tries_within mark (suc c) zero (x ∷ l) = omega arith
tries_within mark (suc c) (suc f) (x ∷ l) = omega (arith, tries_within mark c (suc f - not_right (mark x)) l)

-- A call tries no more than its cap.
pub tries_capped : (mark : ℕ → Mark) (c f : ℕ) (l : List ℕ) → tries mark c f l ≤ c
unfolding tries
tries_capped mark c f [] = omega arith
tries_capped mark zero f (x ∷ l) = omega arith
tries_capped mark (suc c) zero (x ∷ l) = omega arith
tries_capped mark (suc c) (suc f) (x ∷ l) = omega (arith, tries_capped mark c (suc f - not_right (mark x)) l)

-- With no cap none is tried.
pub no_cap : (mark : ℕ → Mark) (free : ℕ) (l : List ℕ) → tries mark 0 free l ≡ 0
no_cap mark free l = omega (arith, tries_capped mark 0 free l)

-- A call tries as many as the cap, the places and the row all allow.
pub tries_ample : (mark : ℕ → Mark) (m c f : ℕ) (l : List ℕ) → m ≤ c → m ≤ f → m ≤ length l → m ≤ tries mark c f l
unfolding tries
tries_ample mark m c f [] a b d = d
tries_ample mark m zero f (x ∷ l) a b d = a
tries_ample mark m (suc c) zero (x ∷ l) a b d = b
tries_ample mark zero (suc c) (suc f) (x ∷ l) a b d = omega arith
tries_ample mark (suc m) (suc c) (suc f) (x ∷ l) a b d =
    omega (arith, tries_ample mark m c (suc f - not_right (mark x)) l (omega arith) (omega (arith, not_right_few (mark x))) (omega arith))

-- What is written fits the free places.
pub words_fit : (mark : ℕ → Mark) (c f : ℕ) (l : List ℕ) → length (words_of mark (take (tries mark c f l) l)) ≤ f
unfolding tries words_of
words_fit mark c f [] = omega arith
words_fit mark zero f (x ∷ l) = omega arith
words_fit mark (suc c) zero (x ∷ l) = omega arith
words_fit mark (suc c) (suc f) (x ∷ l) =
    rw (length-append (listed (mark x) x), listed_length (mark x) x) (omega (arith, not_right_few (mark x), words_fit mark c (suc f - not_right (mark x)) l))

-- A call that leaves some of the row, though its cap is not reached, has filled its places.
pub tries_full : (mark : ℕ → Mark) (c f : ℕ) (l : List ℕ) → tries mark c f l < c → tries mark c f l < length l → f ≤ length (words_of mark (take (tries mark c f l) l))
unfolding tries words_of
tries_full mark c f [] a b = absurd (omega arith)
tries_full mark zero f (x ∷ l) a b = absurd (omega arith)
tries_full mark (suc c) zero (x ∷ l) a b = omega arith
tries_full mark (suc c) (suc f) (x ∷ l) a b =
    rw (length-append (listed (mark x) x), listed_length (mark x) x) (omega (arith, tries_full mark c (suc f - not_right (mark x)) l (omega arith) (omega arith)))

-- The words of a joined row are the words of its parts, joined.
pub words_append : (mark : ℕ → Mark) (k l : List ℕ) → words_of mark (k ++ l) ≡ words_of mark k ++ words_of mark l
unfolding words_of
words_append mark [] l = refl
words_append mark (x ∷ k) l = rw (words_append mark k l) (sym (append_assoc (listed (mark x) x) (words_of mark k) (words_of mark l)))
