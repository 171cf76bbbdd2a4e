-- Laws: RN with ties to even is the toolchain's own account of the standard: over a format of 24 or 53 bits, wherever RN is one of its normal numbers,
-- the value that `lib.Ieee.round` gives. Assumes nothing.
use Rattle.std.specs.Prelude.{◌≡◌, refl, Bool, cond, T}
use Rattle.std.proofs.Common.{sym, ap, ◌∙◌, subst, div-add-mod', mod-lt, mul-pos, mul-le-mul, mul-le-mul_left, mul_right_comm, lt_of_le_of_lt, arith, lit<, pow-add, pow_pos, pow_mono, leb-true, leb-false, eqb-true}
use Prim.Native.Nat.{ℕ, ◌+◌, ◌-◌, ◌*◌, ◌/◌, ◌%◌, ◌^◌, ◌≤◌, ◌<◌, compare, Ordering}
use Rattle.std.proofs.Math.Nat.{eq_of_mul-eq-mul_right}
use Rattle.std.proofs.Math.Dec.{is_le, compare_is_eq}
use Rattle.std.proofs.Math.Pow.{le_ones}
use lib.Ieee
use lib.Ieee.{Float, nan, inf, fin, Format, binary32, binary64, prec, emax, low, up, down, hid, top, size, fits, to_bits, of_bits}
use Rattle.std.specs.Float.Ieee.Bits.{of_bits-to_bits}
use Rattle.std.specs.Float.Ieee.Exact.{HasValue, units_val}
use Rattle.std.specs.Float.Ieee.Fits.{round_is, two, two-le_pos, down_pos}
use Rattle.std.specs.Float.Ieee.Nearest.{closest, div_same}
use Rattle.std.specs.Float.Ieee.Order
use Rattle.std.specs.Float.Ieee.Order.{drop}
use Rattle.std.specs.Float.Ieee.Scale.{grid, overflow}
use Rattle.std.proofs.lemmas.Bool.{eqb-false}
use Rattle.rounding.specs.declared.Location.TheVariants.{Half, AboveHalf}
use Rattle.rounding.specs.Grid.{nearest, to_even}
use Rattle.rounding.proofs.GridLaws.{even_up, Nearest, tie_remainder, choose_nearest, nearest_only}
use Rattle.rounding.proofs.Digits.{enough_digits}
use Rattle.rounding.specs.Unit.{kept, rn}
use Rattle.rounding.proofs.UnitLaws.{rn_fixed, rn_coarser}
use Rattle.rounding.specs.Round.{rounded, Equals, HasBits}
use Rattle.rounding.proofs.RoundLaws.{rounded_value}

-- ---- the nearest whole number
module _ (N d q r : ℕ) (e : q * d + r ≡ N) (R : r < d) where
  by_order : (o : Ordering) → compare (r * 2) d ≡ o → Nearest to_even N d (Ieee.nearest q o)
  by_order Ordering.lt c =
      let l = leb-true (r * 2) d (ap is_le c) in
      let f : r * 2 < d = omega (arith, l, eqb-false (r * 2) d (ap compare_is_eq c)) in
      record { low = omega arith; high = omega arith; tie = λ p t. absurd (omega (arith, tie_remainder N d q r p e R t)) }
  by_order Ordering.eq c = rw (even_up q) (choose_nearest to_even N d q r Half e R (eqb-true (r * 2) d (ap compare_is_eq c)))
  by_order Ordering.gt c = choose_nearest to_even N d q r AboveHalf e R (leb-false (r * 2) d (ap is_le c))

pub closest_is : (N d : ℕ) → 0 < d → nearest to_even N d ≡ closest N d
closest_is N d D = nearest_only to_even N d (closest N d) D (by_order N d (N / d) (N % d) (div-add-mod' N d) (mod-lt N D) (compare (N % d * 2) d) refl)

-- ---- a format's grid, in units of its smallest value
pub rn_grid : (f : Format) (a c : ℕ) → 0 < c → rn to_even (prec f) (a * 2 ^ low f) c ≡ grid f a c
unfolding rn kept
rn_grid f a c C =
    let N = a * 2 ^ low f in
    let k = drop (prec f) N c in
    ap (λ (z : ℕ). z * 2 ^ k) (closest_is N (c * 2 ^ k) (mul-pos C (pow_pos k)))

-- ---- values
pub revalue : (x : Float) (s : Bool) (a c b d : ℕ) → 0 < c → a * d ≡ b * c → HasValue x s a c → HasValue x s b d
revalue nan s a c b d p h v = v
revalue (inf t) s a c b d p h v = v
revalue (fin t m e) s a c b d p h v = (
  v.0,
  eq_of_mul-eq-mul_right c p (m * up e * d) (b * down e)
      (mul_right_comm (m * up e) d c ∙ ap (λ (x : ℕ). x * d) v.1 ∙ mul_right_comm a (down e) d ∙ ap (λ (x : ℕ). x * down e) h ∙ mul_right_comm b c (down e)),
)

-- a float has one value
pub one_value : (x : Float) (s t : Bool) (a c b d : ℕ) → HasValue x s a c → HasValue x t b d → (s ≡ t) × (a * d ≡ b * c)
one_value nan s t a c b d v w = absurd v
one_value (inf u) s t a c b d v w = absurd v
one_value (fin u m e) s t a c b d v w = (
  sym v.0 ∙ w.0,
  eq_of_mul-eq-mul_right (down e) (down_pos e) (a * d) (b * c) (omega (arith, ap (λ (z : ℕ). z * d) v.1, ap (λ (z : ℕ). z * c) w.1)),
)

pub round_value : (f : Format) (s : Bool) (a c : ℕ) → grid f a c < overflow f → HasValue (Ieee.round f s a c) s (grid f a c) (2 ^ low f)
round_value f s a c h =
    subst (λ (z : Float). HasValue z s (grid f a c) (2 ^ low f)) (sym (round_is f s a c)) (units_val f s (Order.kept (prec f) (a * 2 ^ low f) c) (drop (prec f) (a * 2 ^ low f) c) h)

-- the format's largest number, in units of its smallest, is below the overflow
largest : (f : Format) → (2 ^ prec f - 1) * 2 ^ (2 * emax f - 1) < overflow f
largest binary32 = lit< tt
largest binary64 = lit< tt

-- where RN of N / d, with exponents unbounded, is a normal number of the format, m * 2 ^ j times its smallest value, that is what the format rounds to; N / d itself may lie below the least one
pub rounded_is_ieee : (f : Format) (s : Bool) (N d m j : ℕ) → 0 < N → 0 < d → HasBits (prec f) m → j ≤ 2 * emax f - 1 → Equals (rounded to_even (prec f) N d) (m * 2 ^ j) (2 ^ low f) → HasValue (Ieee.round f s N d) s (m * 2 ^ j) (2 ^ low f)
rounded_is_ieee f s N d m j M D bits few is =
    let p = prec f in
    let P : 0 < p = two-le_pos p (two f) in
    let r = rounded to_even p N d in
    let t = p + size d in
    let A = N * 2 ^ low f in
    let v : Equals r (rn to_even p (A * 2 ^ t) d) (2 ^ (low f + t)) = rounded_value to_even p P N d (low f + t) (A * 2 ^ t) d D D (finer N (2 ^ low f) (2 ^ t) (2 ^ (low f + t)) d (pow-add 2 (low f) t)) (enough_digits p A d t (mul-pos M (pow_pos (low f))) (omega arith)) in
    let e : rn to_even p (A * 2 ^ t) d ≡ m * 2 ^ j * 2 ^ t = eq_of_mul-eq-mul_right (down r.exponent) (down_pos r.exponent) (rn to_even p (A * 2 ^ t) d) (m * 2 ^ j * 2 ^ t) (same (r.significand * up r.exponent) (2 ^ low f) (2 ^ t) (2 ^ (low f + t)) (rn to_even p (A * 2 ^ t) d) (m * 2 ^ j) (down r.exponent) (pow-add 2 (low f) t) v is) in
    let g : grid f N d ≡ m * 2 ^ j = sym (rn_grid f N d D) ∙ rn_coarser to_even p P A d t (m * 2 ^ j) D e (omega (arith, bits.least, mul-le-mul_left m (pow_pos j))) in
    subst (λ (z : ℕ). HasValue (Ieee.round f s N d) s z (2 ^ low f)) g (round_value f s N d (rw g (lt_of_le_of_lt (mul-le-mul (le_ones p bits.most) (pow_mono few)) (largest f))))
  where
    finer : (N A B C d : ℕ) → C ≡ A * B → N * C * d ≡ N * A * B * d
    finer N A B C d e = omega (arith, ap (λ (z : ℕ). N * z * d) e)

    same : (a A B C R U g : ℕ) → C ≡ A * B → a * C ≡ R * g → a * A ≡ U * g → R * g ≡ U * B * g
    same a A B C R U g c v w = omega (arith, ap (λ (z : ℕ). a * z) c, ap (λ (z : ℕ). z * B) w)

-- ---- floats by their values
-- the bit pattern of a number of units of the smallest value
pattern_of : Format → Bool → ℕ → ℕ
pattern_of f s n = cond s (top f) 0 + (size n - prec f) * hid f + n / 2 ^ (size n - prec f)

bits_of_value : (f : Format) (x : Float) (s : Bool) (a c : ℕ) → 0 < c → HasValue x s a c → to_bits f x ≡ pattern_of f s (a * 2 ^ low f / c)
unfolding to_bits pattern_of
bits_of_value f nan s a c p v = absurd v
bits_of_value f (inf t) s a c p v = absurd v
bits_of_value f (fin t m e) s a c p v =
    ap (λ (u : Bool). pattern_of f u (m * up e * 2 ^ low f / down e)) v.0
    ∙ ap (λ (n : ℕ). pattern_of f s n)
    (div_same (m * up e * 2 ^ low f) (down e) (a * 2 ^ low f) c (down_pos e) p
    (mul_right_comm (m * up e) (2 ^ low f) c ∙ ap (λ (z : ℕ). z * 2 ^ low f) v.1 ∙ mul_right_comm a (down e) (2 ^ low f)))

-- two values of a format that are the same number with the same sign are the same value
pub value_unique : (f : Format) (x y : Float) (s : Bool) (a c : ℕ) → 0 < c → T (fits f x) → T (fits f y) → HasValue x s a c → HasValue y s a c → x ≡ y
value_unique f x y s a c p hx hy v w =
    sym (of_bits-to_bits f x hx) ∙ ap (λ (n : ℕ). of_bits f n) (bits_of_value f x s a c p v ∙ sym (bits_of_value f y s a c p w)) ∙ of_bits-to_bits f y hy

-- a number with a significand of at most `prec` bits, the carry included, is rounded to itself
pub round_itself : (f : Format) (s : Bool) (a c m j : ℕ) → 0 < c → m ≤ 2 ^ prec f → a * 2 ^ low f ≡ m * 2 ^ j * c → m * 2 ^ j < overflow f → HasValue (Ieee.round f s a c) s a c
round_itself f s a c m j C small e fine =
    let g : grid f a c ≡ m * 2 ^ j = sym (rn_grid f a c C) ∙ ap (λ (z : ℕ). rn to_even (prec f) z c) e ∙ rn_fixed to_even (prec f) (two-le_pos (prec f) (two f)) m j c C small in
    revalue (Ieee.round f s a c) s (grid f a c) (2 ^ low f) a c (pow_pos (low f)) (ap (λ (z : ℕ). z * c) g ∙ sym e) (round_value f s a c (rw g fine))
