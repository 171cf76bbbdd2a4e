-- Signed fractions counted in a unit: sums, products and RN of them are those of whole numbers. Assumes nothing.
use Rattle.std.specs.Prelude.{◌≡◌, refl, Bool, true, false, not, ℕ, suc, ◌+◌, ◌*◌, ◌^◌, ◌≤◌, ◌<◌, ltb, eqb, ℤ, pos, negsuc}
use Rattle.std.proofs.Common.{sym, ap, ap₂, ◌∙◌, mul_assoc, mul-pos, mul-lt-mul_of_pos_right, mul-le-mul_right, le_of_mul-le-mul_right, lt_of_mul-lt-mul_right, le_antisymm, le_of_eq, arith, pow-add, pow_pos}
use Rattle.std.proofs.Math.Nat.{eq_of_mul-eq-mul_right}
use Rattle.std.specs.Float.Ieee.{size, minus, up, down, unlike}
use Rattle.std.specs.Float.Ieee.Digits.{minus_val}
use Rattle.std.specs.Float.Ieee.Fits.{down_pos}
use Rattle.rounding.specs.Apart.{apart}
use Rattle.rounding.proofs.ApartLaws.{apart_mul, ltb_scale, eqb_scale}
use Rattle.rounding.specs.Grid.{Rule}
use Rattle.rounding.proofs.Digits.{enough_digits}
use Rattle.rounding.specs.Unit.{rn}
use Rattle.rounding.specs.Round.{rounded}
use Rattle.rounding.proofs.RoundLaws.{rounded_whole, rounded_value}
use Rattle.rounding.specs.Fraction.{Fraction, over, power, negated, times, joined, plus, less, distance, RN, Same, below, equal, Below, AtMost, ratio, Positive}

-- x is a / T in size, and negative where m
pub record InUnits (T : ℕ) (m : Bool) (a : ℕ) (x : Fraction) : Type 0 where
  pub unit : 0 < T
  pub some : 0 < x.den
  pub sign : x.minus ≡ m
  pub count : x.num * T ≡ a * x.den

pub over_in_units : (a t : ℕ) → InUnits (2 ^ t) false a (over a t)
over_in_units a t = record { unit = pow_pos t; some = pow_pos t; sign = refl; count = refl }

pub power_in_units : (a t : ℕ) → InUnits (2 ^ t) false (2 ^ a) (power (minus a t))
power_in_units a t = record { unit = pow_pos t; some = down_pos (minus a t); sign = refl; count = omega (arith, minus_val 1 a t) }

-- in a finer unit
pub units_finer : (T c : ℕ) → 0 < c → (m : Bool) (a : ℕ) (x : Fraction) → InUnits T m a x → InUnits (T * c) m (a * c) x
units_finer T c C m a x k = record { unit = mul-pos k.unit C; some = k.some; sign = k.sign; count = omega (arith, ap (λ (z : ℕ). z * c) k.count) }

-- ---- RN
pub RN_some : (rule : Rule) (n : ℕ) (x : Fraction) → 0 < (RN rule n x).den
RN_some rule n x = down_pos (rounded rule n x.num x.den).exponent

pub RN_in_units : (rule : Rule) (n : ℕ) → 0 < n → (t : ℕ) (m : Bool) (a : ℕ) (x : Fraction) → InUnits (2 ^ t) m a x → InUnits (2 ^ t) m (rn rule n a 1) (RN rule n x)
RN_in_units rule n P t m a x k =
    record {
      unit = pow_pos t;
      some = RN_some rule n x;
      sign = k.sign;
      count = rounded_whole rule n P x.num x.den t a k.some k.count;
    }

-- and of a fraction a / e of the unit, if that has n digits
pub RN_in_units_fraction : (rule : Rule) (n : ℕ) → 0 < n → (t e : ℕ) (m : Bool) (a : ℕ) (x : Fraction) → 0 < e → 2 ^ n * e ≤ 2 * a → InUnits (2 ^ t * e) m a x → InUnits (2 ^ t) m (rn rule n a e) (RN rule n x)
RN_in_units_fraction rule n P t e m a x E fine k =
    record {
      unit = pow_pos t;
      some = RN_some rule n x;
      sign = k.sign;
      count = rounded_value rule n P x.num x.den t a e k.some E (mul_assoc x.num (2 ^ t) e ∙ k.count) fine;
    }

-- y is x times 2 ^ z in size
abbrev pub Scaled : ℤ → Fraction → Fraction → Type 0
Scaled z x y = y.num * (x.den * down z) ≡ x.num * up z * y.den

module _ (rule : Rule) (n : ℕ) (P : 0 < n) (x y : Fraction) (X : 0 < x.num) (D : 0 < x.den) (Y : 0 < y.den) where
  -- 2 ^ z being 2 ^ a / 2 ^ b, both are counted by the same number
  scaled_by : (z : ℤ) (a b : ℕ) → up z * 2 ^ b ≡ 2 ^ a * down z → Scaled z x y → Scaled z (RN rule n x) (RN rule n y)
  scaled_by z a b w e =
      let s = n + size x.den in
      let N = x.num * 2 ^ (s + a) in
      let fine = enough_digits n x.num x.den (s + a) X (omega arith) in
      let cx : InUnits (2 ^ (s + a) * x.den) x.minus N x = record { unit = mul-pos (pow_pos (s + a)) D; some = D; sign = refl; count = omega arith } in
      let cy : InUnits (2 ^ (s + b) * x.den) y.minus N y = record { unit = mul-pos (pow_pos (s + b)) D; some = Y; sign = refl; count = shifted y.num y.den x.num x.den (2 ^ s) (2 ^ a) (2 ^ b) (up z) (down z) (2 ^ (s + a)) (2 ^ (s + b)) (down_pos z) (pow-add 2 s a) (pow-add 2 s b) w e } in
      let rx = RN_in_units_fraction rule n P (s + a) x.den x.minus N x D fine cx in
      let ry = RN_in_units_fraction rule n P (s + b) x.den y.minus N y D fine cy in
      unshifted (RN rule n y).num (RN rule n y).den (RN rule n x).num (RN rule n x).den (rn rule n N x.den) (2 ^ s) (2 ^ a) (2 ^ b) (up z) (down z) (2 ^ (s + a)) (2 ^ (s + b)) ry.unit (pow-add 2 s a) (pow-add 2 s b) w rx.count ry.count
    where
      shifted : (N d M e S A B u v SA SB : ℕ) → 0 < v → SA ≡ S * A → SB ≡ S * B → u * B ≡ A * v → N * (e * v) ≡ M * u * d → N * (SB * e) ≡ M * SA * d
      shifted N d M e S A B u v SA SB some p q w h =
          eq_of_mul-eq-mul_right v some (N * (SB * e)) (M * SA * d)
          (omega (arith, ap (λ (k : ℕ). N * e * v * k) q, ap (λ (k : ℕ). M * d * v * k) p, ap (λ (k : ℕ). k * (S * B)) h, ap (λ (k : ℕ). k * (M * d * S)) w))

      unshifted : (N d M e c S A B u v SA SB : ℕ) → 0 < SB → SA ≡ S * A → SB ≡ S * B → u * B ≡ A * v → M * SA ≡ c * e → N * SB ≡ c * d → N * (e * v) ≡ M * u * d
      unshifted N d M e c S A B u v SA SB G p q w g h =
          eq_of_mul-eq-mul_right SB G (N * (e * v)) (M * u * d)
          (omega (arith, ap (λ (k : ℕ). k * (e * v)) h, ap (λ (k : ℕ). k * (v * d)) g, ap (λ (k : ℕ). M * u * d * k) q, ap (λ (k : ℕ). M * d * v * k) p, ap (λ (k : ℕ). k * (M * d * S)) w))

  -- with exponents unbounded RN goes along with powers of two
  pub RN_scaled : (z : ℤ) → Scaled z x y → Scaled z (RN rule n x) (RN rule n y)
  RN_scaled (pos a) = scaled_by (pos a) a 0 refl
  RN_scaled (negsuc b) = scaled_by (negsuc b) 0 (suc b) (omega arith)

-- and so do the order and equality of two fractions
at_most_scaled : (z : ℤ) (x y a b : Fraction) → 0 < x.den → 0 < y.den → Scaled z x a → Scaled z y b → AtMost x y → AtMost a b
at_most_scaled z x y a b X Y c d h =
    le_of_mul-le-mul_right {k = x.den * y.den * down z}
    (omega (arith, ap (λ (t : ℕ). t * (y.den * b.den)) c, ap (λ (t : ℕ). t * (x.den * a.den)) d, mul-le-mul_right (up z * a.den * b.den) h)) (mul-pos (mul-pos X Y) (down_pos z))

pub same_scaled : (z : ℤ) (x y a b : Fraction) → 0 < x.den → 0 < y.den → Scaled z x a → Scaled z y b → x.num * y.den ≡ y.num * x.den → a.num * b.den ≡ b.num * a.den
same_scaled z x y a b X Y c d e = le_antisymm (at_most_scaled z x y a b X Y c d (le_of_eq e)) (at_most_scaled z y x b a Y X d c (le_of_eq (sym e)))

-- RN is symmetric in sign
pub RN_negated : (rule : Rule) (n : ℕ) (x : Fraction) → RN rule n (negated x) ≡ negated (RN rule n x)
RN_negated rule n x = refl

-- ---- signs
pub unlike_plus : (s : Bool) → unlike s false ≡ s
unlike_plus true = refl
unlike_plus false = refl

pub unlike_comm : (s t : Bool) → unlike s t ≡ unlike t s
unlike_comm true true = refl
unlike_comm true false = refl
unlike_comm false true = refl
unlike_comm false false = refl

unlike_assoc : (s t u : Bool) → unlike (unlike s t) u ≡ unlike s (unlike t u)
unlike_assoc true true true = refl
unlike_assoc true true false = refl
unlike_assoc true false true = refl
unlike_assoc true false false = refl
unlike_assoc false true true = refl
unlike_assoc false true false = refl
unlike_assoc false false true = refl
unlike_assoc false false false = refl

-- ---- products
pub times_in_units : (T S : ℕ) (a b : ℕ) (m : Bool) (x y : Fraction) → InUnits T m a x → InUnits S false b y → InUnits (T * S) m (a * b) (times x y)
times_in_units T S a b m x y c d =
    record {
      unit = mul-pos c.unit d.unit;
      some = mul-pos c.some d.some;
      sign = ap₂ unlike c.sign d.sign ∙ unlike_plus m;
      count = regroup x.num y.num T S ∙ ap₂ (λ (p q : ℕ). p * q) c.count d.count ∙ regroup a x.den b y.den;
    }
  where
    regroup : (p q u v : ℕ) → p * q * (u * v) ≡ p * u * (q * v)
    regroup p q u v = omega arith

-- ---- products and quotients of positive fractions
pub times_positive : (x y : Fraction) → Positive x → Positive y → Positive (times x y)
times_positive x y p q = record { sign = ap₂ unlike p.sign q.sign; above = mul-pos p.above q.above; some = mul-pos p.some q.some }

pub ratio_positive : (x y : Fraction) → Positive x → Positive y → Positive (ratio x y)
ratio_positive x y p q = record { sign = ap₂ unlike p.sign q.sign; above = mul-pos p.above q.some; some = mul-pos p.some q.above }

-- dividing twice is dividing by the product, and so with multiplying
pub ratio_twice : (x y z : Fraction) → ratio (ratio x y) z ≡ ratio x (times z y)
ratio_twice x y z =
    let n : x.num * y.den * z.den ≡ x.num * (z.den * y.den) = omega arith in
    let d : x.den * y.num * z.num ≡ x.den * (z.num * y.num) = omega arith in
    λ i. record { minus = (unlike_assoc x.minus y.minus z.minus ∙ ap (unlike x.minus) (unlike_comm y.minus z.minus)) i; num = n i; den = d i }

pub times_twice : (x y z : Fraction) → times z (times y x) ≡ times (times z y) x
times_twice x y z =
    let n : z.num * (y.num * x.num) ≡ z.num * y.num * x.num = omega arith in
    let d : z.den * (y.den * x.den) ≡ z.den * y.den * x.den = omega arith in
    λ i. record { minus = sym (unlike_assoc z.minus y.minus x.minus) i; num = n i; den = d i }

-- ---- sums
-- the sign and the size of ± a ± b
abbrev pub sum_sign : Bool → Bool → (a b : ℕ) → Bool
sum_sign true true a b = true
sum_sign false false a b = false
sum_sign true false a b = ltb b a
sum_sign false true a b = ltb a b

abbrev pub sum_size : Bool → Bool → (a b : ℕ) → ℕ
sum_size true true a b = a + b
sum_size false false a b = a + b
sum_size true false a b = apart a b
sum_size false true a b = apart a b

joined_is : (m k : Bool) (a b d : ℕ) → joined m k a b d ≡ record { minus = sum_sign m k a b; num = sum_size m k a b; den = d }
joined_is true true a b d = refl
joined_is true false a b d = refl
joined_is false true a b d = refl
joined_is false false a b d = refl

pub plus_some : (x y : Fraction) → 0 < x.den → 0 < y.den → 0 < (plus x y).den
plus_some x y X Y = rw (joined_is x.minus y.minus (x.num * y.den) (y.num * x.den) (x.den * y.den)) (mul-pos X Y)

sign_scale : (m k : Bool) (a b c : ℕ) → 0 < c → sum_sign m k (a * c) (b * c) ≡ sum_sign m k a b
sign_scale true true a b c C = refl
sign_scale false false a b c C = refl
sign_scale true false a b c C = ltb_scale b a c C
sign_scale false true a b c C = ltb_scale a b c C

size_scale : (m k : Bool) (a b c : ℕ) → sum_size m k (a * c) (b * c) ≡ sum_size m k a b * c
size_scale true true a b c = omega arith
size_scale false false a b c = omega arith
size_scale true false a b c = sym (apart_mul a b c)
size_scale false true a b c = sym (apart_mul a b c)

pub plus_in_units : (T : ℕ) (a b : ℕ) (m k : Bool) (x y : Fraction) → InUnits T m a x → InUnits T k b y → InUnits T (sum_sign m k a b) (sum_size m k a b) (plus x y)
plus_in_units T a b m k x y c d =
    let p = x.num * y.den in
    let q = y.num * x.den in
    let e = x.den * y.den in
    let u : p * T ≡ a * e = omega (arith, ap (λ (z : ℕ). z * y.den) c.count) in
    let v : q * T ≡ b * e = omega (arith, ap (λ (z : ℕ). z * x.den) d.count) in
    let E : 0 < e = mul-pos c.some d.some in
    rw (joined_is x.minus y.minus p q e, c.sign, d.sign)
    (record {
      unit = c.unit;
      some = E;
      sign = sym (sign_scale m k p q T c.unit) ∙ ap₂ (λ (f g : ℕ). sum_sign m k f g) u v ∙ sign_scale m k a b e E;
      count = sym (size_scale m k p q T) ∙ ap₂ (λ (f g : ℕ). sum_size m k f g) u v ∙ size_scale m k a b e;
    })

pub less_in_units : (T : ℕ) (a b : ℕ) (x y : Fraction) → InUnits T false a x → InUnits T false b y → InUnits T (ltb a b) (apart a b) (less x y)
less_in_units T a b x y c d = plus_in_units T a b false true x (negated y) c (record { unit = d.unit; some = d.some; sign = ap not d.sign; count = d.count })

pub distance_in_units : (T : ℕ) (a b : ℕ) (x y : Fraction) → InUnits T false a x → InUnits T false b y → InUnits T false (apart a b) (distance x y)
distance_in_units T a b x y c d = let z = less_in_units T a b x y c d in record { unit = z.unit; some = z.some; sign = refl; count = z.count }

-- ---- order and equality
pub units_same : (T : ℕ) (m : Bool) (a : ℕ) (x y : Fraction) → InUnits T m a x → InUnits T m a y → Same x y
units_same T m a x y c d = (
  c.sign ∙ sym d.sign,
  eq_of_mul-eq-mul_right T c.unit (x.num * y.den) (y.num * x.den) (omega (arith, ap (λ (z : ℕ). z * y.den) c.count, ap (λ (z : ℕ). z * x.den) d.count)),
)

pub units_unique : (T : ℕ) (m : Bool) (a b : ℕ) (x y : Fraction) → InUnits T m a x → InUnits T m b y → Same x y → a ≡ b
units_unique T m a b x y c d s =
    eq_of_mul-eq-mul_right (x.den * y.den) (mul-pos c.some d.some) a b
    (omega (arith, ap (λ (z : ℕ). z * y.den) c.count, ap (λ (z : ℕ). z * x.den) d.count, ap (λ (z : ℕ). z * T) s.1))

-- sums of the same are the same
pub plus_same : (x y a b : Fraction) → 0 < x.den → 0 < y.den → 0 < a.den → 0 < b.den → Same x a → Same y b → Same (plus x y) (plus a b)
plus_same x y a b X Y A B p q =
    let T = x.den * y.den in
    let U = mul-pos X Y in
    units_same T _ _ (plus x y) (plus a b)
    (plus_in_units T (x.num * y.den) (y.num * x.den) x.minus y.minus x y (record { unit = U; some = X; sign = refl; count = omega arith }) (record { unit = U; some = Y; sign = refl; count = omega arith }))
    (plus_in_units T (x.num * y.den) (y.num * x.den) x.minus y.minus a b
    (record { unit = U; some = A; sign = sym p.0; count = omega (arith, ap (λ (z : ℕ). z * y.den) p.1) })
    (record { unit = U; some = B; sign = sym q.0; count = omega (arith, ap (λ (z : ℕ). z * x.den) q.1) }))

-- and so are distances, so that one that is below u is so whatever the fraction is written as
pub distance_same : (x y v u : Fraction) → 0 < x.den → 0 < y.den → 0 < v.den → Same x y → Below (distance x v) u → Below (distance y v) u
distance_same x y v u X Y D s h =
    let e = (plus_same x (negated v) y (negated v) X D Y D s (refl, refl)).1 in
    lt_of_mul-lt-mul_right (distance x v).den (omega (arith, ap (λ (z : ℕ). z * u.den) e, mul-lt-mul_of_pos_right h (plus_some y (negated v) Y D)))

module _ (T a b : ℕ) (x y : Fraction) (c : InUnits T false a x) (d : InUnits T false b y) where
  left : x.num * y.den * T ≡ a * (x.den * y.den)
  left = omega (arith, ap (λ (z : ℕ). z * y.den) c.count)

  right : y.num * x.den * T ≡ b * (x.den * y.den)
  right = omega (arith, ap (λ (z : ℕ). z * x.den) d.count)

  pub below_in_units : below x y ≡ ltb a b
  below_in_units = sym (ltb_scale (x.num * y.den) (y.num * x.den) T c.unit) ∙ ap₂ ltb left right ∙ ltb_scale a b (x.den * y.den) (mul-pos c.some d.some)

  pub equal_in_units : equal x y ≡ eqb a b
  equal_in_units = sym (eqb_scale (x.num * y.den) (y.num * x.den) T c.unit) ∙ ap₂ eqb left right ∙ eqb_scale a b (x.den * y.den) (mul-pos c.some d.some)

-- the order, also where they are counted in two units
module _ (T S a b : ℕ) (x y : Fraction) (c : InUnits T false a x) (d : InUnits S false b y) where
  across : (x.num * y.den * (T * S) ≡ a * S * (x.den * y.den)) × (y.num * x.den * (T * S) ≡ b * T * (x.den * y.den))
  across = (omega (arith, ap (λ (z : ℕ). z * (y.den * S)) c.count), omega (arith, ap (λ (z : ℕ). z * (x.den * T)) d.count))

  pub units_at_most : a * S ≤ b * T → AtMost x y
  units_at_most h = le_of_mul-le-mul_right {k = T * S} (omega (arith, across, mul-le-mul_right (x.den * y.den) h)) (mul-pos c.unit d.unit)

  pub at_most_units : AtMost x y → a * S ≤ b * T
  at_most_units h = le_of_mul-le-mul_right {k = x.den * y.den} (omega (arith, across, mul-le-mul_right (T * S) h)) (mul-pos c.some d.some)

  pub units_below : a * S < b * T → Below x y
  units_below h = lt_of_mul-lt-mul_right (T * S) (omega (arith, across, mul-lt-mul_of_pos_right h (mul-pos c.some d.some)))
