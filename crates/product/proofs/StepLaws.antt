-- The steps of the product as code takes them, in the unit 2 ^ - (E + n - 1): how far u1 is shifted, how large each number grows, and that rounding the
-- fused sum gives the product. Assumes nothing.
use Rattle.std.specs.Prelude.{◌≡◌, false, ℕ, zero, suc, ◌+◌, ◌-◌, ◌*◌, ◌^◌, ◌≤◌, ◌<◌, ℤ, pos}
use Rattle.std.proofs.Math.Path.{sym, ap, subst}
use Rattle.std.proofs.Common.{◌∙◌, mul-le-mul, mul-le-mul_left, mul-pos, le_trans, le_of_eq, le_of_lt, lt_of_lt_of_le, lt_of_not-le, not-le_of_lt, mul-lt-mul_of_pos_right, one-mul, div-one, le-div_iff_mul-le, div-lt_iff_lt-mul, arith, pow-add, pow_pos, pow_mono}
use Rattle.std.proofs.Math.Nat.{eq_of_mul-eq-mul_right, pow-succ'}
use Rattle.std.proofs.Math.Decide.{dec_le, dec_lt}
use Rattle.std.proofs.Math.IntN.{nat_abs}
use Rattle.std.specs.Float.Ieee.{size, minus}
use Rattle.std.specs.Float.Ieee.Digits.{size-lt, size-le}
use Rattle.std.specs.Float.Ieee.Order.{drop}
use Rattle.rounding.specs.Apart.{apart}
use Rattle.rounding.specs.declared.Rounded.{Rounded}
use Rattle.rounding.specs.Grid.{nearest}
use Rattle.rounding.proofs.Digits.{pow_half}
use Rattle.rounding.specs.Unit.{rn}
use Rattle.rounding.proofs.UnitLaws.{rn_le, rn_in_binade, rn_scale_whole, rn_whole_small}
use Rattle.rounding.specs.Round.{rounded, rounded_in, HasBits}
use Rattle.rounding.proofs.RoundLaws.{rounded_at, rounded_bits, rounded_in_exponent, minus_zero}
use Rattle.rounding.specs.Signed.{signed_of}
use Rattle.rounding.specs.Fraction.{direction_of}
use Rattle.rounding.proofs.FractionLaws.{InUnits}
use Rattle.rounding.proofs.DirectedLaws.{direction_whole}
use Rattle.round.specs.Cuts.{cut_at}
use Rattle.factor.specs.declared.Parts.{Parts}
use Rattle.factor.specs.Precision.{most_precision, ValidPrecision}
use Rattle.factor.specs.Context.{Context, Fine}
use Rattle.factor.specs.Parts.{parts_at}
use Rattle.factor.specs.UnitParts.{UnitParts, step, unit_parts, unit_parts_of}
use Rattle.factor.specs.Ends.{End}
use Rattle.factor.proofs.PartsLaws.{high_most, low_kept, low_tells, units_of_parts}
use Rattle.factor.proofs.LowForm.{top_is}
use Rattle.product.specs.Product.{fused, product}
use Rattle.product.specs.Units.{first_units, fused_units, second_units, rounded_units, directed_units, Within, PartsAtEnd}
use Rattle.product.proofs.ProductLaws.{IsProduct, is_product, rn_from, exponent_from, product_only, product_is, first_most, first_under, fused_least, fused_in_units, second_most}

-- a significand fits in half a word
pub significand_word : (n X : ℕ) → ValidPrecision n → HasBits n X → X < 2 ^ 32
significand_word n X N x = lt_of_lt_of_le x.most (pow_mono {i = n} {j = 32} (omega (arith, N)))

-- two numbers of at most 2 ^ n have a product that fits in a word
pub product_word : (n a b : ℕ) → ValidPrecision n → a ≤ 2 ^ n → b ≤ 2 ^ n → a * b ≤ 2 ^ 48
product_word n a b N p q = let t : 2 ^ n ≤ 2 ^ most_precision = pow_mono N.most in mul-le-mul (le_trans p t) (le_trans q t)

-- ---- RN of a whole number N of the unit, at least 1
module _ (K : Context) (P : 0 < K.n) (N : ℕ) (from : 2 ^ (K.n - 1) * 2 ^ K.E ≤ N) where
  open K use {rule, n, E}

  abbrev r : Rounded ℕ
  r = rounded rule n N 1

  some : 0 < N
  some = le_trans (mul-pos (pow_pos (n - 1)) (pow_pos E)) from

  bits : HasBits n r.significand
  bits = rounded_bits rule n P N 1 some (omega arith)

  -- at least E digits are dropped
  pub record Dropped : Type 0 where
    pub count : ℕ
    pub exponent : r.exponent ≡ pos count
    pub value : r.significand * 2 ^ count ≡ rn rule n N 1
    pub least : E ≤ count

  pub dropped : Dropped
  dropped = of (rounded_in_exponent rule n P 0 N 1)
    where
      fine : 2 ^ n * 1 ≤ 2 * N
      fine = omega (arith, pow_half n P, mul-le-mul_left (2 ^ (n - 1)) (pow_pos E), from)

      at : r ≡ rounded_in rule n 0 N 1
      at = rounded_at rule n P N 1 0 N 1 (omega arith) (omega arith) (omega arith) fine

      of : (i : ℕ) × ((rounded_in rule n 0 N 1).exponent ≡ minus i 0) × ((rounded_in rule n 0 N 1).significand * 2 ^ i ≡ rn rule n N 1) → Dropped
      of (i, e, v) =
          let v' : r.significand * 2 ^ i ≡ rn rule n N 1 = ap (λ (z : Rounded ℕ). z.significand * 2 ^ i) at ∙ v in
          record {
            count = i;
            exponent = ap (λ (z : Rounded ℕ). z.exponent) at ∙ e ∙ minus_zero i;
            value = v';
            least = exponent_from K P (rn rule n N 1) (rn_from K P N from) r.significand i bits v';
          }

  -- so the form of `rounded_units` is the number's
  pub rounded_units_is : rn rule n N 1 ≤ (2 ^ n - 1) * 2 ^ suc E → IsProduct K (rn rule n N 1) (rounded_units K N)
  unfolding rounded_units
  rounded_units_is to =
      let d = dropped in
      subst (λ (z : ℤ). IsProduct K (rn rule n N 1) (record { significand = r.significand; binade = nat_abs z - E })) (sym d.exponent) (is_product K P (rn rule n N 1) (rn_from K P N from) r.significand d.count bits d.value to)

-- ---- and of one that is also below 4
module _ (K : Context) (P : 0 < K.n) (N : ℕ) (N-in : Within K N) where
  open K use {rule, n, E}

  pub within_is : IsProduct K (rn rule n N 1) (rounded_units K N)
  within_is = rounded_units_is K P N N-in.from (rn_le rule n P N 1 (2 ^ n - 1) (suc E) (omega arith) (omega arith) (omega (arith, N-in.to)))

-- where it is cut behind its step of binade 0, n digits are kept, or one more
pub kept_bits : (K : Context) (N : ℕ) → Within K N → let c = cut_at K.E N in (2 ^ (K.n - 1) ≤ c.kept) × (c.kept < 2 ^ suc K.n)
kept_bits K N i =
    let E = K.E in
    let n = K.n in
    let less : (2 ^ n - 1) * 2 ^ suc E < 2 ^ n * 2 ^ suc E = mul-lt-mul_of_pos_right (omega (arith, pow_pos n)) (pow_pos (suc E)) in
    ((le-div_iff_mul-le (pow_pos E)).1 i.from, (div-lt_iff_lt-mul (pow_pos E)).1 (omega (arith, i.to, less, ap (λ (z : ℕ). 2 ^ n * z) (pow-succ' 2 E), ap (λ (z : ℕ). z * 2 ^ E) (pow-succ' 2 n))))

-- C * x at an end c, with X a significand, is such a one
pub end_within : (K : Context) (c : ℕ) → End K c → (X : ℕ) → HasBits K.n X → Within K (c * X)
end_within K c ce X xb =
    let u : X ≤ 2 ^ K.n - 1 = omega (arith, xb.most) in
    record { from = omega (arith, mul-le-mul ce.from xb.least); to = omega (arith, mul-le-mul u (le_of_lt ce.to)) }

-- u1 = u as code has it: m is |s| * X of d digits, for the low significand s of q places. All but n digits are dropped, and what is kept is shifted into the unit
module _ (K : Context) where
  open K use {rule, n, E}

  pub record FirstStep (q m d u : ℕ) : Type 0 where
    pub digits : 2 * n ≤ suc d
    pub reach : q ≤ d - n + E
    pub room : d - n + E - q ≤ E
    pub value : u ≡ nearest rule m (2 ^ (d - n)) * 2 ^ (d - n + E - q)

-- ---- p are the parts at an end
module _ (K : Context) (p : Parts) (at : PartsAtEnd K p) where
  open K use {rule, n, E}

  abbrev ok : Fine K
  ok = at.fine

  open ok use {some as P}

  abbrev c : ℕ
  c = at.end

  abbrev ce : End K c
  ce = at.is_end

  abbrev kept : p ≡ parts_at K c
  kept = at.parts

  abbrev w : UnitParts
  w = unit_parts_of K p

  w_is : unit_parts K c ≡ w
  w_is = units_of_parts K ok c ce ∙ ap (unit_parts_of K) (sym kept)

  abbrev s : ℕ
  s = nat_abs p.low

  abbrev q : ℕ
  q = p.places

  pub high_le : p.high ≤ 2 ^ n
  high_le = subst (λ (v : UnitParts). v.high ≤ 2 ^ n) w_is (high_most K ok c ce)

  -- the low significand has n bits where it is not zero, and its places have a range
  pub low_some : 0 < s → HasBits n s × (2 * n ≤ suc q) × (q < E + n)
  low_some h = subst (λ (z : Parts). HasBits n (nat_abs z.low) × (2 * n ≤ suc z.places) × (z.places < E + n)) (sym kept) (go (dec_le (nat_abs z) 0))
    where
      z : ℤ
      z = signed_of (unit_parts K c).minus (apart c ((unit_parts K c).high * step K))

      go : Dec (nat_abs z ≤ 0) → HasBits n (nat_abs (parts_at K c).low) × (2 * n ≤ suc (parts_at K c).places) × ((parts_at K c).places < E + n)
      go (yes g) = let none = (low_tells K ok c ce).none (omega arith) in absurd (omega (arith, ap (λ (y : Parts). nat_abs y.low) kept, ap nat_abs none.0))
      go (no g) = (low_tells K ok c ce).some (lt_of_not-le g)

  pub low_lt : s < 2 ^ n
  low_lt = go (dec_lt 0 s)
    where
      go : Dec (0 < s) → s < 2 ^ n
      go (yes h) = (low_some h).0.most
      go (no h) = omega (arith, pow_pos n)

  pub low_value : s * 2 ^ E ≡ w.low * 2 ^ q
  low_value = subst (λ (v : UnitParts). s * 2 ^ E ≡ v.low * 2 ^ q) w_is (subst (λ (z : Parts). nat_abs z.low * 2 ^ E ≡ (unit_parts K c).low * 2 ^ z.places) (sym kept) (low_kept K ok c ce))

  module _ (X : ℕ) (xb : HasBits n X) where
    abbrev u : ℕ
    u = first_units K w X

    -- ---- u1
    pub first_lt : u < 2 ^ E
    first_lt =
        let m = subst (λ (v : UnitParts). first_units K v X ≤ X * 2 ^ (E - n)) w_is (first_most K ok c ce X xb.most) in
        omega (arith, m, mul-lt-mul_of_pos_right xb.most (pow_pos (E - n)), top_is K ok)

    pub first_le : u ≤ p.high * step K * X
    first_le = subst (λ (v : UnitParts). first_units K v X ≤ v.high * step K * X) w_is (first_under K ok c ce X xb.most)

    first_scaled : u * 2 ^ q ≡ rn rule n (s * X) 1 * 2 ^ E
    unfolding first_units
    first_scaled =
        sym (rn_scale_whole rule n P (w.low * X) q)
        ∙ ap (λ (z : ℕ). rn rule n z 1) (omega (arith, ap (λ (z : ℕ). z * X) low_value))
        ∙ rn_scale_whole rule n P (s * X) E

    pub first_none : s * X ≡ 0 → u ≡ 0
    first_none e =
        eq_of_mul-eq-mul_right (2 ^ q) (pow_pos q) u 0
        (first_scaled ∙ ap (λ (z : ℕ). rn rule n z 1 * 2 ^ E) e ∙ ap (λ (z : ℕ). z * 2 ^ E) (rn_whole_small rule n P 0 (omega arith)) ∙ omega arith)

    pub first_some : (m d : ℕ) → m ≡ s * X → d ≡ size m → 0 < m → FirstStep K q m d u
    first_some m d e f h =
        let low = low_some (pos_of s X (le_trans h (le_of_eq e))) in
        -- m has 2 * n - 1 digits or one more
        let least : 2 ^ (n - 1 + (n - 1)) ≤ m = le_trans (le_of_eq (pow-add 2 (n - 1) (n - 1))) (le_trans (mul-le-mul low.0.least xb.least) (le_of_eq (sym e))) in
        let more : n - 1 + (n - 1) < size m = lt_of_not-le λ (g : size m ≤ n - 1 + (n - 1)). not-le_of_lt (lt_of_lt_of_le (size-lt m) (pow_mono g)) least in
        let less : m < 2 ^ (n + n) = omega (arith, mul-le-mul_left s (le_of_lt xb.most), mul-lt-mul_of_pos_right low.0.most (pow_pos n), pow-add 2 n n) in
        let digits : 2 * n ≤ suc d = omega arith in
        let reach : q ≤ d - n + E = omega (arith, digits, low.2) in
        let k : ℕ = d - n in
        let dropped_k : drop n m 1 ≡ k = ap (λ (z : ℕ). size z - n) (div-one m) ∙ ap (λ (z : ℕ). z - n) (sym f) in
        let r : rn rule n m 1 ≡ nearest rule m (2 ^ k) * 2 ^ k = rn_in_binade rule n P m 1 k dropped_k ∙ ap (λ (z : ℕ). nearest rule m z * 2 ^ k) (one-mul (2 ^ k)) in
        let t : 2 ^ k * 2 ^ E ≡ 2 ^ (k + E - q) * 2 ^ q = sym (pow-add 2 k E) ∙ ap (λ (z : ℕ). 2 ^ z) (omega (arith, reach)) ∙ pow-add 2 (k + E - q) q in
        record {
          digits = digits;
          reach = reach;
          room = omega (arith, f, size-le m (n + n) less, low.1, at.two);
          value =
              eq_of_mul-eq-mul_right (2 ^ q) (pow_pos q) u (nearest rule m (2 ^ k) * 2 ^ (k + E - q))
              (first_scaled ∙ ap (λ (z : ℕ). rn rule n z 1 * 2 ^ E) (sym e) ∙ omega (arith, ap (λ (z : ℕ). z * 2 ^ E) r, ap (λ (z : ℕ). nearest rule m (2 ^ k) * z) t));
        }
      where
        pos_of : (a b : ℕ) → 0 < a * b → 0 < a
        pos_of zero b g = absurd (omega arith)
        pos_of (suc a) b g = omega arith

    -- ---- u2
    pub fused_from : 2 ^ (n - 1) * 2 ^ E ≤ fused_units K w X
    fused_from = subst (λ (v : UnitParts). 2 ^ (n - 1) * 2 ^ E ≤ fused_units K v X) w_is (omega (arith, fused_least K ok c ce X xb.most, mul-le-mul_left (2 ^ E) xb.least))

    pub product_of_parts : IsProduct K (second_units K w X) (product K p X)
    product_of_parts =
        subst (λ (v : UnitParts). IsProduct K (second_units K v X) (product K p X)) w_is
        (subst (λ (z : Parts). IsProduct K (second_units K (unit_parts K c) X) (product K z X)) (sym kept) (product_is K ok c ce X xb.most xb.least))

    second_le : second_units K w X ≤ (2 ^ n - 1) * 2 ^ suc E
    second_le = subst (λ (v : UnitParts). second_units K v X ≤ (2 ^ n - 1) * 2 ^ suc E) w_is (second_most K ok c ce X xb.most xb.least)

    -- rounding the fused sum gives the product
    pub product_rounds : rounded_units K (fused_units K w X) ≡ product K p X
    unfolding second_units
    product_rounds =
        let y = fused_units K w X in
        product_only K P (rn rule n y 1) (rounded_units K y) (product K p X) (rounded_units_is K P y fused_from second_le) product_of_parts

    -- and its direction
    pub fused_counts : InUnits (2 ^ (E + (n - 1))) false (fused_units K w X) (fused K p X)
    fused_counts =
        subst (λ (v : UnitParts). InUnits (2 ^ (E + (n - 1))) false (fused_units K v X) (fused K p X)) w_is
        (subst (λ (z : Parts). InUnits (2 ^ (E + (n - 1))) false (fused_units K (unit_parts K c) X) (fused K z X)) (sym kept) (fused_in_units K ok c ce X xb.most))

    pub direction_rounds : direction_of rule n (fused K p X) ≡ (directed_units K (fused_units K w X)).direction
    direction_rounds = direction_whole rule n P (E + (n - 1)) false (fused_units K w X) (fused K p X) fused_counts
