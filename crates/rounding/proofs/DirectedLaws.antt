-- Laws of a rounding's direction: exactly one of the three holds, and it is `direction_of`; it is symmetric in sign; equal means exact; a sign put on later mirrors it, and a scale changes nothing; and it is what `rounded` hands back. Assumes nothing.
use Rattle.std.specs.Prelude.{◌≡◌, Bool, true, not, ℤ, pos, negsuc}
use Rattle.std.proofs.Math.Path.{refl, sym, ap}
use Rattle.std.proofs.Common.{ap₂, ◌∙◌, subst, zero-lt-suc, le_refl, mul-one, pow_pos}
use Rattle.std.proofs.Math.Bool.{false}
use Prim.Native.Nat.{ℕ, zero, suc, ◌+◌, ◌*◌, ◌^◌, ◌≤◌, ◌<◌}
use Rattle.std.proofs.Math.Nat.{mul-pos}
use native.Mathlib.Omega.{arith}
use Rattle.std.proofs.Math.IntN.{nat_abs}
use Rattle.std.specs.Float.Ieee.{size, up, down, unlike}
use Rattle.std.specs.Float.Ieee.Fits.{up_pos, down_pos}
use Rattle.rounding.specs.declared.Direction.{Direction}
use Rattle.rounding.specs.declared.Direction.TheVariants.{Below, Equal, Above}
use Rattle.rounding.specs.Direction.{side_of, mirrored, signed_direction}
use Rattle.rounding.proofs.DirectionLaws.{side_holds, side_only, side_mirrored, side_equal, side_alike}
use Rattle.rounding.specs.Grid.{Rule, side_at}
use Rattle.rounding.proofs.Digits.{enough_digits}
use Rattle.rounding.specs.Unit.{rn}
use Rattle.rounding.proofs.UnitLaws.{rn_fixed}
use Rattle.rounding.specs.Round.{rounded}
use Rattle.rounding.proofs.RoundLaws.{rounded_in_direction}
use Rattle.rounding.specs.Signed.{negative, signed_of, rounded_signed}
use Rattle.rounding.specs.Fraction.{Fraction, negated, signed_as, RN, Same, beside, scaled_as, Falls, direction, direction_of, Directs}
use Rattle.rounding.proofs.FractionLaws.{InUnits, RN_some, RN_in_units, RN_in_units_fraction, units_finer}

-- ---- signs, and signed numbers by their sizes
pub size_of : (s : Bool) (m : ℕ) → nat_abs (signed_of s m) ≡ m
size_of true zero = refl
size_of true (suc m) = refl
size_of false m = refl

-- two numbers of the same sign, by their sizes
signed_side : (s : Bool) (a b : ℕ) → side_of (signed_of s a) (signed_of s b) ≡ signed_direction s (side_of (pos a) (pos b))
signed_side true a b = side_mirrored (pos a) (pos b)
signed_side false a b = refl

pub turned_again : (s : Bool) (d : Direction) → signed_direction (not s) d ≡ mirrored (signed_direction s d)
turned_again false d = refl
turned_again true Below = refl
turned_again true Equal = refl
turned_again true Above = refl

pub signed_again : (s t : Bool) (d : Direction) → signed_direction (unlike s t) d ≡ signed_direction s (signed_direction t d)
signed_again false false d = refl
signed_again false true d = refl
signed_again true false d = refl
signed_again true true d = turned_again true d

-- ---- exactly one of the three holds, whatever the two fractions are, and equal means exact
pub directs : (x y : Fraction) → Directs (direction x y) x y
directs x y =
    let a = beside x y in
    let b = beside y x in
    record {
      falls = side_holds a b;
      alone = λ e h. side_only a b e h;
      exact = λ s e. (s, sym (size_of x.minus (x.num * y.den)) ∙ ap nat_abs (sym (subst (λ (d : Direction). Falls d x y) e (side_holds a b))) ∙ size_of y.minus (y.num * x.den));
      equal = λ s. side_only a b Equal (ap₂ signed_of (sym s.0) (sym s.1));
    }

-- ---- two of the same sign
direction_sizes : (x y : Fraction) → x.minus ≡ y.minus → direction x y ≡ signed_direction x.minus (side_of (pos (x.num * y.den)) (pos (y.num * x.den)))
direction_sizes x y alike = ap (λ (m : Bool). side_of (beside x y) (signed_of m (y.num * x.den))) (sym alike) ∙ signed_side x.minus (x.num * y.den) (y.num * x.den)

module _ (x y : Fraction) (alike : x.minus ≡ y.minus) where
  -- it depends on the number alone
  direction_same : (z : Fraction) → 0 < y.den → 0 < z.den → Same y z → direction x y ≡ direction x z
  direction_same z Y Z s =
      direction_sizes x y alike
      ∙ ap (signed_direction x.minus) (side_alike (x.num * y.den) (y.num * x.den) z.den (x.num * z.den) (z.num * x.den) y.den Z Y (omega arith) (omega (arith, ap (λ (k : ℕ). k * x.den) s.1)))
      ∙ sym (direction_sizes x z (alike ∙ s.0))

-- a sign put on both mirrors it if it is minus
direction_turned : (s : Bool) (x y : Fraction) → x.minus ≡ false → y.minus ≡ false → direction (signed_as s x) (signed_as s y) ≡ signed_direction s (direction x y)
direction_turned s x y p q =
    signed_side s (x.num * y.den) (y.num * x.den) ∙ ap (signed_direction s) (ap₂ (λ (m k : Bool). side_of (signed_of m (x.num * y.den)) (signed_of k (y.num * x.den))) (sym p) (sym q))

-- and a scale changes nothing
direction_scaled : (s : Bool) (z : ℤ) (x y : Fraction) → direction (scaled_as s z x) (scaled_as s z y) ≡ direction (signed_as s x) (signed_as s y)
direction_scaled s z x y =
    let b = up z * down z in
    signed_side s (x.num * up z * (y.den * down z)) (y.num * up z * (x.den * down z))
    ∙ ap (signed_direction s) (side_alike (x.num * up z * (y.den * down z)) (y.num * up z * (x.den * down z)) 1 (x.num * y.den) (y.num * x.den) b (omega arith) (mul-pos (up_pos z) (down_pos z)) (omega arith) (omega arith))
    ∙ sym (signed_side s (x.num * y.den) (y.num * x.den))

-- ---- whatever tells how y lies as seen from x
module _ (d : Direction) (x y : Fraction) (tells : Directs d x y) where
  told : direction x y ≡ d
  told = sym (tells.alone (direction x y) (directs x y).falls)

  -- tells it of every number that is the same as y
  pub directs_same : (z : Fraction) → x.minus ≡ y.minus → 0 < y.den → 0 < z.den → Same y z → Directs d x z
  directs_same z alike Y Z s = subst (λ (e : Direction). Directs e x z) (sym (direction_same x y alike z Y Z s) ∙ told) (directs x z)

  -- and, mirrored where the sign is minus, with a sign put on both, and with a scale too
  module _ (s : Bool) (p : x.minus ≡ false) (q : y.minus ≡ false) where
    pub directs_signed : Directs (signed_direction s d) (signed_as s x) (signed_as s y)
    directs_signed = subst (λ (e : Direction). Directs e (signed_as s x) (signed_as s y)) (direction_turned s x y p q ∙ ap (signed_direction s) told) (directs (signed_as s x) (signed_as s y))

    pub directs_scaled : (z : ℤ) → Directs (signed_direction s d) (scaled_as s z x) (scaled_as s z y)
    directs_scaled z =
        subst (λ (e : Direction). Directs e (scaled_as s z x) (scaled_as s z y)) (direction_scaled s z x y ∙ direction_turned s x y p q ∙ ap (signed_direction s) told) (directs (scaled_as s z x) (scaled_as s z y))

-- ---- of a rounding
module _ (rule : Rule) (n : ℕ) where
  pub rounding_directs : (x : Fraction) → Directs (direction_of rule n x) x (RN rule n x)
  unfolding direction_of
  rounding_directs x = directs x (RN rule n x)

  -- it tells how whatever is the same number as RN(x) lies
  pub directs_to : (x y : Fraction) → 0 < y.den → Same (RN rule n x) y → Directs (direction_of rule n x) x y
  directs_to x y Y s = directs_same (direction_of rule n x) x (RN rule n x) (rounding_directs x) y refl (RN_some rule n x) Y s

  -- by that of the size
  direction_signed : (x : Fraction) → direction_of rule n x ≡ signed_direction x.minus (direction_of rule n (signed_as false x))
  unfolding direction_of
  direction_signed x = direction_sizes x (RN rule n x) refl

  -- symmetric in sign
  pub direction_mirrored : (x : Fraction) → direction_of rule n (negated x) ≡ mirrored (direction_of rule n x)
  direction_mirrored x = direction_signed (negated x) ∙ turned_again x.minus (direction_of rule n (signed_as false x)) ∙ ap mirrored (sym (direction_signed x))

  -- of a zero it is equal
  pub zero_equal : (x : Fraction) → x.num ≡ 0 → direction_of rule n x ≡ Equal
  unfolding rounded
  zero_equal x z = (rounding_directs x).equal (refl, rw z (omega arith))

-- ---- counted in a unit
direction_in_units : (T : ℕ) (m : Bool) (a b : ℕ) (x y : Fraction) → InUnits T m a x → InUnits T m b y → direction x y ≡ signed_direction m (side_of (pos a) (pos b))
direction_in_units T m a b x y c d =
    let e = x.den * y.den in
    direction_sizes x y (c.sign ∙ sym d.sign)
    ∙ ap₂ signed_direction c.sign
    (side_alike (x.num * y.den) (y.num * x.den) T a b e c.unit (mul-pos c.some d.some) (omega (arith, ap (λ (z : ℕ). z * y.den) c.count)) (omega (arith, ap (λ (z : ℕ). z * x.den) d.count)))

module _ (rule : Rule) (n : ℕ) (P : 0 < n) where
  -- of a whole number of the unit
  pub direction_whole : (t : ℕ) (m : Bool) (a : ℕ) (x : Fraction) → InUnits (2 ^ t) m a x → direction_of rule n x ≡ signed_direction m (side_of (pos a) (pos (rn rule n a 1)))
  unfolding direction_of
  direction_whole t m a x k = direction_in_units (2 ^ t) m a (rn rule n a 1) x (RN rule n x) k (RN_in_units rule n P t m a x k)

  -- of a fraction a / e of it, if that has n digits
  direction_fraction : (t e : ℕ) (m : Bool) (a : ℕ) (x : Fraction) → 0 < e → 2 ^ n * e ≤ 2 * a → InUnits (2 ^ t * e) m a x → direction_of rule n x ≡ signed_direction m (side_at a e (rn rule n a e))
  unfolding direction_of
  direction_fraction t e m a x E fine k =
      direction_in_units (2 ^ t * e) m a (rn rule n a e * e) x (RN rule n x) k (units_finer (2 ^ t) e E m (rn rule n a e) (RN rule n x) (RN_in_units_fraction rule n P t e m a x E fine k))

  -- ---- it is what rounding hands back, of every size N / d
  pub rounded_direction : (N d : ℕ) → 0 < d → (rounded rule n N d).direction ≡ direction_of rule n (record { minus = false; num = N; den = d })
  unfolding rounded
  rounded_direction zero d D = sym (zero_equal rule n (record { minus = false; num = 0; den = d }) refl)
  rounded_direction (suc K) d D =
      let t = n + size d in
      let A = suc K * 2 ^ t in
      rounded_in_direction rule n P t A d
      ∙ sym (direction_fraction t d false A (record { minus = false; num = suc K; den = d }) D (enough_digits n (suc K) d t (zero-lt-suc K) (le_refl t)) (record { unit = mul-pos (pow_pos t) D; some = D; sign = refl; count = omega arith }))

  -- and of every whole number, sign included
  pub rounded_signed_direction : (z : ℤ) → (rounded_signed rule n z).direction ≡ direction_of rule n (record { minus = negative z; num = nat_abs z; den = 1 })
  unfolding rounded_signed
  rounded_signed_direction z = ap (signed_direction (negative z)) (rounded_direction (nat_abs z) 1 (omega arith)) ∙ sym (direction_signed rule n (record { minus = negative z; num = nat_abs z; den = 1 }))

  -- in whole numbers
  pub rounded_side : (N : ℕ) → (rounded rule n N 1).direction ≡ side_of (pos N) (pos (rn rule n N 1))
  rounded_side N = rounded_direction N 1 (omega arith) ∙ direction_whole 0 false N (record { minus = false; num = N; den = 1 }) (record { unit = pow_pos 0; some = omega arith; sign = refl; count = refl })

  -- ---- of every number of n bits, s * 2 ^ z, it is equal: RN leaves it as it is
  whole_fixed : (t : ℕ) (s j : ℕ) (x : Fraction) → s ≤ 2 ^ n → InUnits (2 ^ t) x.minus (s * 2 ^ j) x → direction_of rule n x ≡ Equal
  whole_fixed t s j x h k =
      direction_whole t x.minus (s * 2 ^ j) x k
      ∙ ap (signed_direction x.minus) (side_equal (s * 2 ^ j) (rn rule n (s * 2 ^ j) 1) (ap (λ (z : ℕ). rn rule n z 1) (sym (mul-one (s * 2 ^ j))) ∙ rn_fixed rule n P s j 1 (omega arith) h))
      ∙ go x.minus
    where
      go : (m : Bool) → signed_direction m Equal ≡ Equal
      go true = refl
      go false = refl

  pub number_equal : (x : Fraction) (s : ℕ) (z : ℤ) → 0 < x.den → s ≤ 2 ^ n → x.num * down z ≡ s * up z * x.den → direction_of rule n x ≡ Equal
  number_equal x s (pos j) D h e = whole_fixed 0 s j x h (record { unit = pow_pos 0; some = D; sign = refl; count = e })
  number_equal x s (negsuc j) D h e = whole_fixed (suc j) s 0 x h (record { unit = pow_pos (suc j); some = D; sign = refl; count = e })
