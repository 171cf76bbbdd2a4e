-- Small laws that the proofs of several functions cite. Assumes nothing.
use mathlib.Core.Path.{◌≡◌, refl, sym, ap, ◌∙◌, subst}
use mathlib.Core.Bool.{Bool, true, false, cond, true≢false}
use Prim.Native.Nat.{ℕ, zero, suc, ◌+◌, ◌-◌, ◌*◌, ◌/◌, ◌%◌, ◌^◌, ◌≤◌, ◌<◌, zero-le}
use native.Mathlib.Nat.{pos_of_ne-zero, not-suc-le-zero, lt_of_not-le, lt_of_lt_of_le, le_of_eq, mul-le-mul_right, div-lt_iff_lt-mul, mul_comm, le_trans, mul-le-mul_left, div-mul-le_self, div-add-mod', mod-lt}
use native.Mathlib.Omega.{arith}
use lib.IntN.{ℤ, pos, negsuc, neg_ℤ, nat_abs, ◌+ℤ◌, ◌-ℤ◌, +ℤ_idl}
use lib.Dec.{T, ltb}
use lib.Signed.{non_neg, lt_z}
use lib.Ieee.{size}
use lib.Ieee.Digits.{size-lt}
use lib.Pow.{pow_mono, pow-add, pow_pos}
use borrow.Author.Tests.{ltb-true, lt-ltb, le-ltb}
use Rattle.rounding.specs.declared.Location.{Location}
use Rattle.rounding.specs.declared.Location.TheVariants.{Exact, BelowHalf, Half, AboveHalf}
use Rattle.rounding.specs.Grid.{Rule, location, upward}
use Rattle.rounding.proofs.GridLaws.{Lies, location_lies}
use Rattle.rounding.specs.Signed.{negative}
use mir.Syntax.{Width, w64}
use mir.Val.{SFits, Fits, hbits, bool_byte}
use Rattle.rounding.proofs.Digits.{pow_half}
use Rattle.wide.specs.declared.Wide.{Wide}
use Rattle.wide.specs.Value.{word_bits, value_of}
use Rattle.wide.specs.OrderLaws.{high_lt}
use Rattle.round.specs.Neighbour.{neighbour_at, neighbour}
use Rattle.round.specs.NeighbourLaws.{neighbour_by}

-- the half of 2 ^ k
pub half_of : (k h : ℕ) → 1 ≤ k → h ≡ 2 ^ (k - 1) → h * 2 ≡ 2 ^ k
half_of k h p e = ap (λ (z : ℕ). z * 2) e ∙ mul_comm (2 ^ (k - 1)) 2 ∙ sym (pow_half k p)

-- a quotient by 2 ^ k leaves room for one more
pub quotient_room : (x u k : ℕ) → u ≡ 2 ^ k → 1 ≤ k → x / u * 2 ≤ x
quotient_room x u k e h = let t : 2 ≤ u = rw e (pow_mono {i = 1} {j = k} h) in le_trans (mul-le-mul_left (x / u) t) (div-mul-le_self x u)

-- the high word of a number of one word, or of twice one, leaves room
pub one_word : (w : Wide) (x : ℕ) → value_of w ≡ x → x < 2 ^ word_bits → w.hi ≡ 0
one_word w x e l = omega arith

pub high_few : (w : Wide) (x : ℕ) → value_of w ≡ x → x < 2 * 2 ^ word_bits → w.hi + 1 < 2 ^ word_bits
high_few w x e l = let h = high_lt (2 ^ word_bits) w.hi w.lo 2 (subst (λ (z : ℕ). z < 2 * 2 ^ word_bits) (sym e) l) in few w.hi h
  where
    few : (h : ℕ) → h < 2 → h + 1 < 2 ^ word_bits
    few h l = omega arith

-- quotient and remainder of one division tell the neighbour
pub by_division : (rule : Rule) (N d : ℕ) → 0 < d → neighbour_at rule (N / d) (N % d) d ≡ neighbour rule N d
by_division rule N d D = neighbour_by rule N d (N / d) (N % d) (div-add-mod' N d) (mod-lt N D)

-- a test as a number, 1 or 0
pub test_most : (b : Bool) → bool_byte b ≤ 1
test_most true = omega arith
test_most false = omega arith

-- q, or one more where a test says so
pub one_more : (q : ℕ) (b : Bool) → q + bool_byte b ≡ cond b (suc q) q
one_more q true = omega arith
one_more q false = omega arith

-- whether a fraction goes up is one comparison with the half, h: at a tie the rule adds one to the remainder
pub up_by_half : (rule : Rule) (q r h : ℕ) → 0 < h → ltb h (r + bool_byte (rule q)) ≡ upward rule q (location r (h * 2))
up_by_half rule q r h H = go (location r (h * 2)) (location_lies r (h * 2))
  where
    tie : (b : Bool) → r ≡ h → ltb h (r + bool_byte b) ≡ b
    tie true e = lt-ltb h (r + 1) (omega arith)
    tie false e = le-ltb h (r + 0) (omega arith)

    go : (l : Location) → Lies l r (h * 2) → ltb h (r + bool_byte (rule q)) ≡ upward rule q l
    go Exact a = le-ltb h (r + bool_byte (rule q)) (omega (arith, test_most (rule q)))
    go BelowHalf a = le-ltb h (r + bool_byte (rule q)) (omega (arith, test_most (rule q)))
    go Half a = tie (rule q) (omega arith)
    go AboveHalf a = lt-ltb h (r + bool_byte (rule q)) (omega arith)

-- ---- signed numbers
pub neg_is : (z : ℤ) → pos 0 -ℤ z ≡ neg_ℤ z
neg_is z = +ℤ_idl (neg_ℤ z)

-- a number has a negative that fits, unless it is the least
pub neg_fits : (w : Width) (z : ℤ) → nat_abs z < 2 ^ hbits w → SFits w (neg_ℤ z)
neg_fits w (pos zero) h = record { sfits = h }
neg_fits w (pos (suc n)) h = record { sfits = omega arith }
neg_fits w (negsuc n) h = record { sfits = h }

-- ---- numbers of more than w digits
pub longer : (h l w : ℕ) → ¬ (h ≡ 0) → w < size (h * 2 ^ w + l)
longer h l w z = lt_of_not-le λ (g : size (h * 2 ^ w + l) ≤ w). omega (arith, pow_mono g, size-lt (h * 2 ^ w + l), mul-le-mul_right (2 ^ w) (pos_of_ne-zero z))

-- and of fewer than 2 * w, whose high part leaves room for a carry
pub high_room : (h l w k : ℕ) → h * 2 ^ w + l < 2 ^ k → k < 2 * w → h < 2 ^ (w - 1)
high_room h l w k a b =
    high_lt (2 ^ w) h l (2 ^ (w - 1)) (lt_of_lt_of_le a (le_trans (pow_mono {i = k} {j = w - 1 + w} (omega arith)) (le_of_eq (pow-add 2 (w - 1) w))))

-- what is left of b digits when all but n are dropped
pub kept_digits : (x b n : ℕ) → b ≡ size x → n ≤ b → x / 2 ^ (b - n) < 2 ^ n
kept_digits x b n e h =
    let w : 2 ^ b ≡ 2 ^ n * 2 ^ (b - n) = ap (λ (z : ℕ). 2 ^ z) (omega arith) ∙ pow-add 2 n (b - n) in
    (div-lt_iff_lt-mul (pow_pos (b - n))).1 (lt_of_lt_of_le (size-lt x) (le_of_eq (ap (λ (z : ℕ). 2 ^ z) (sym e) ∙ w)))

-- a number below zero, one step up, and a number that is not
pub below_zero : (z : ℤ) → lt_z z (pos 0) ≡ true → (m : ℕ) × (z ≡ negsuc m)
below_zero (pos n) h = absurd (not-suc-le-zero (ltb-true n 0 h))
below_zero (negsuc m) h = (m, refl)

pub up_one : (m : ℕ) → negsuc m +ℤ pos 1 ≡ neg_ℤ (pos m)
up_one zero = refl
up_one (suc m) = rw (lt-ltb 1 (suc (suc m)) (omega arith)) (ap negsuc (omega arith))

pub not_below : (z : ℤ) → lt_z z (pos 0) ≡ false → T (non_neg z)
not_below (pos n) h = tt
not_below (negsuc m) h = absurd (true≢false h)

-- the test is `negative`
pub negative_is : (z : ℤ) → lt_z z (pos 0) ≡ negative z
negative_is (pos n) = le-ltb n 0 zero-le
negative_is (negsuc m) = refl

pub size_fits : (z : ℤ) → SFits w64 z → Fits w64 (nat_abs z)
size_fits (pos n) h = record { fits = omega (arith, h.sfits) }
size_fits (negsuc m) h = record { fits = omega (arith, h.sfits) }
