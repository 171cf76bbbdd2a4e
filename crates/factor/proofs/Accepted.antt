-- Laws of ends with the same parts: they are close, and every fraction between them has these parts. Assumes nothing.
use Rattle.std.specs.Prelude.{◌≡◌, refl, Bool, true, false, ltb, ℕ, ◌+◌, ◌-◌, ◌*◌, ◌^◌, ◌≤◌, ◌<◌}
use Rattle.std.proofs.Common.{sym, ap, ◌∙◌, subst, inl, inr, pos_of_ne-zero, eq-zero-or-pos, mul-le-mul_right, mul-lt-mul_of_pos_right, mul-pos, le_trans, le_of_eq, le_antisymm, arith, pow-add, pow_pos, pow_mono, ltb-true, ltb-false, lt-ltb, le-ltb}
use Rattle.std.proofs.Math.Nat.{eq_of_mul-eq-mul_right}
use Rattle.std.specs.Float.Ieee.{size}
use Rattle.rounding.specs.Apart.{apart}
use Rattle.rounding.proofs.ApartLaws.{apart_mul}
use Rattle.rounding.proofs.Digits.{enough_digits}
use Rattle.rounding.proofs.GridLaws.{nearest_mono}
use Rattle.rounding.specs.Unit.{rn}
use Rattle.rounding.proofs.UnitLaws.{rn_mono, rn_scale_whole, rn_whole_small, rn_fixed}
use Rattle.rounding.specs.Fraction.{Fraction, over, less, distance, RN, Same, AtMost}
use Rattle.rounding.proofs.FractionLaws.{InUnits, RN_in_units, RN_in_units_fraction, over_in_units, less_in_units, distance_in_units, units_finer, units_same, units_at_most}
use Rattle.factor.specs.Context.{Context, Fine}
use Rattle.factor.specs.Parts.{high_part, low_part, parts_at}
use Rattle.factor.specs.UnitParts.{UnitParts, step, plus_or_minus, unit_parts, worth, unit_parts_of}
use Rattle.factor.specs.Ends.{End, Between}
use Rattle.factor.proofs.PartsLaws.{top_is, width_is, high_near, worth_near, high_in_units, high_kept, low_in_units, rn_high, units_of_parts}

-- it is above zero, as L is
pub between_positive : (K : Context) (L U : ℕ) → 0 < L → (C : Fraction) → Between K L U C → 0 < C.num
between_positive K L U l C k = pos_of_ne-zero (λ (e : C.num ≡ 0). omega (arith, ap (λ (z : ℕ). z * 2 ^ K.E) e, mul-pos l k.some, k.least))

module _ (K : Context) (ok : Fine K) (L U : ℕ) (le : End K L) (ue : End K U) (same : parts_at K L ≡ parts_at K U) where
  open K use {rule, n, E}
  open ok use {some as P, room as F}

  pub unit_parts_same : unit_parts K L ≡ unit_parts K U
  unit_parts_same = units_of_parts K ok L le ∙ ap (unit_parts_of K) same ∙ sym (units_of_parts K ok U ue)

  -- ---- the ends are close
  pub close : U ≤ L + 2 ^ (E - 2 * n)
  close =
      let e = ap (worth K) unit_parts_same in
      omega (arith, (worth_near K ok L le).0, (worth_near K ok L le).1, (worth_near K ok U ue).0, (worth_near K ok U ue).1)

  -- D ≤ W
  pub spread : (U - L) * 2 ^ n ≤ 2 ^ (E - n)
  spread = let c : U - L ≤ 2 ^ (E - 2 * n) = omega (arith, close) in omega (arith, mul-le-mul_right (2 ^ n) c, width_is K ok)

  -- ---- a fraction between them, num / den of the unit 2 ^ - E
  module _ (num den : ℕ) (d : 0 < den) (l : L * den ≤ num) (u : num ≤ U * den) where
    abbrev p : UnitParts
    p = unit_parts K L

    abbrev t : ℕ
    t = p.high * step K

    -- its high part
    high_between : rn rule n num den ≡ t
    high_between =
        le_antisymm
        (le_trans (rn_mono rule n P num den U 1 d (omega arith) (omega arith)) (le_of_eq (rn_high K ok U ue ∙ ap (λ (w : UnitParts). w.high * step K) (sym unit_parts_same))))
        (le_trans (le_of_eq (sym (rn_high K ok L le))) (rn_mono rule n P L 1 num den (omega arith) d (omega arith)))

    minus_U : ltb U t ≡ p.minus
    unfolding unit_parts
    minus_U = ap (λ (w : UnitParts). ltb U (w.high * step K)) unit_parts_same ∙ sym (ap (λ (w : UnitParts). w.minus) unit_parts_same)

    low_U : rn rule n (apart U t) 1 ≡ p.low
    unfolding unit_parts
    low_U = ap (λ (w : UnitParts). rn rule n (apart U (w.high * step K)) 1) unit_parts_same ∙ sym (ap (λ (w : UnitParts). w.low) unit_parts_same)

    -- in a finer unit, 2 ^ - (E + s)
    scaled : (a b e f s : ℕ) → 0 < e → 0 < f → a * f ≤ b * e → rn rule n (a * 2 ^ s) e ≤ rn rule n (b * 2 ^ s) f
    scaled a b e f s p q k = rn_mono rule n P (a * 2 ^ s) e (b * 2 ^ s) f p q (omega (arith, mul-le-mul_right (2 ^ s) k))

    at_end : (c s : ℕ) → rn rule n (apart c t) 1 ≡ p.low → rn rule n (apart c t * 2 ^ s) 1 ≡ p.low * 2 ^ s
    at_end c s e = rn_scale_whole rule n P (apart c t) s ∙ ap (λ (z : ℕ). z * 2 ^ s) e

    by_sign : (b : Bool) → ltb L t ≡ b → ltb U t ≡ b → (s : ℕ)
        → (ltb num (t * den) ≡ b) × (rn rule n (apart L t) 1 ≡ p.low → rn rule n (apart num (t * den) * 2 ^ s) den ≡ p.low * 2 ^ s)
    by_sign true x y s =
        let b = mul-lt-mul_of_pos_right (ltb-true U t y) d in
        let v : num < t * den = omega arith in (
          lt-ltb num (t * den) v,
          λ e. le_antisymm
              (le_trans (scaled (apart num (t * den)) (apart L t) den 1 s d (omega arith) (omega (arith, apart_mul L t den))) (le_of_eq (at_end L s e)))
              (le_trans (le_of_eq (sym (at_end U s low_U))) (scaled (apart U t) (apart num (t * den)) 1 den s (omega arith) d (omega (arith, apart_mul U t den)))),
        )
    by_sign false x y s =
        let a = mul-le-mul_right den (ltb-false L t x) in
        let v : t * den ≤ num = omega arith in (
          le-ltb num (t * den) v,
          λ e. le_antisymm
              (le_trans (scaled (apart num (t * den)) (apart U t) den 1 s d (omega arith) (omega (arith, apart_mul U t den))) (le_of_eq (at_end U s low_U)))
              (le_trans (le_of_eq (sym (at_end L s e))) (scaled (apart L t) (apart num (t * den)) 1 den s (omega arith) d (omega (arith, apart_mul L t den)))),
        )

    minus_between : ltb num (t * den) ≡ p.minus
    unfolding unit_parts
    minus_between = (by_sign (ltb L t) refl minus_U 0).0

    low_between : (s : ℕ) → rn rule n (apart num (t * den) * 2 ^ s) den ≡ p.low * 2 ^ s
    unfolding unit_parts
    low_between s = (by_sign (ltb L t) refl minus_U s).1 refl

  -- ---- Ch is RN(C) and Cl is RN(C - Ch) for every fraction C between the ends
  module _ (C : Fraction) (k : Between K L U C) where
    abbrev N : ℕ
    N = C.num * 2 ^ E

    abbrev D : ℕ
    D = C.den

    C_in_units : InUnits (2 ^ E * D) false N C
    C_in_units = record { unit = mul-pos (pow_pos E) k.some; some = k.some; sign = k.sign; count = omega arith }

    fine : 2 ^ n * D ≤ 2 * N
    fine =
        let w : 2 ^ n ≤ 2 ^ E = pow_mono {i = n} {j = E} (omega arith) in
        omega (arith, k.least, mul-le-mul_right D le.from, mul-le-mul_right D w)

    high_in_units_C : InUnits (2 ^ E) false ((p N D k.some k.least k.most).high * step K) (RN rule n C)
    high_in_units_C = subst (λ (z : ℕ). InUnits (2 ^ E) false z (RN rule n C)) (high_between N D k.some k.least k.most) (RN_in_units_fraction rule n P E D false N C k.some fine C_in_units)

    pub high_everywhere : Same (RN rule n C) (high_part K L)
    high_everywhere = units_same (2 ^ E) false ((unit_parts K L).high * step K) (RN rule n C) (high_part K L) high_in_units_C (high_in_units K ok L le)

    abbrev T : ℕ
    T = (unit_parts K L).high * step K

    -- Ch, as it is kept, is at most 2 ^ - n away
    pub high_close : AtMost (distance (over (parts_at K L).high (n - 1)) C) (over 1 n)
    high_close =
        let below_upper : U ≤ T + 2 ^ (E - n) = subst (λ (w : UnitParts). U ≤ w.high * step K + 2 ^ (E - n)) (sym unit_parts_same) (high_near K ok U ue).0 in
        let H = over (parts_at K L).high (n - 1) in
        units_at_most (2 ^ E * D) (2 ^ n) (apart (T * D) N) 1 (distance H C) (over 1 n)
        (distance_in_units (2 ^ E * D) (T * D) N H C (units_finer (2 ^ E) D k.some false T H (high_kept K ok L le)) C_in_units) (over_in_units 1 n)
        (far (apart (T * D) N) (omega (arith, k.least, k.most, mul-le-mul_right D below_upper, mul-le-mul_right D (high_near K ok L le).1)))
      where
        far : (a : ℕ) → a ≤ 2 ^ (E - n) * D → a * 2 ^ n ≤ 1 * (2 ^ E * D)
        far a h = omega (arith, mul-le-mul_right (2 ^ n) h, ap (λ (z : ℕ). z * D) (top_is K ok))

    abbrev A : ℕ
    A = apart N (T * D)

    abbrev m : Bool
    m = (unit_parts K L).minus

    abbrev l : ℕ
    l = (unit_parts K L).low

    abbrev rest_C : Fraction
    rest_C = less C (RN rule n C)

    pub rest_in_units_C : InUnits (2 ^ E * D) m A rest_C
    rest_in_units_C =
        subst (λ (b : Bool). InUnits (2 ^ E * D) b A rest_C) (minus_between N D k.some k.least k.most)
        (less_in_units (2 ^ E * D) N (T * D) C (RN rule n C) C_in_units (units_finer (2 ^ E) D k.some false T (RN rule n C) high_in_units_C))

    low_is : (s : ℕ) → rn rule n (A * 2 ^ s) D ≡ l * 2 ^ s
    low_is = low_between N D k.some k.least k.most

    -- C is Ch
    none_left : A ≡ 0 → Same (RN rule n rest_C) (low_part K L)
    none_left e =
        let c = rest_in_units_C in
        let z : rest_C.num ≡ 0 = eq_of_mul-eq-mul_right (2 ^ E * D) c.unit rest_C.num 0 (omega (arith, c.count, ap (λ (x : ℕ). x * rest_C.den) e)) in
        let a : InUnits (2 ^ E) m 0 rest_C = record { unit = pow_pos E; some = c.some; sign = c.sign; count = ap (λ (x : ℕ). x * 2 ^ E) z ∙ omega arith } in
        let w : rn rule n (A * 2 ^ 0) D ≡ 0 * 2 ^ 0 = ap (λ (x : ℕ). rn rule n x D) (omega arith) ∙ rn_fixed rule n P 0 0 D k.some (omega arith) in
        let b : l ≡ rn rule n 0 1 = omega (arith, low_is 0, w, rn_whole_small rule n P 0 (omega arith)) in
        units_same (2 ^ E) m l (RN rule n rest_C) (low_part K L) (subst (λ (x : ℕ). InUnits (2 ^ E) m x (RN rule n rest_C)) (sym b) (RN_in_units rule n P E m 0 rest_C a)) (low_in_units K ok L le)

    some_left : 0 < A → Same (RN rule n rest_C) (low_part K L)
    some_left h =
        let s = n + size D in
        let w : 2 ^ E * D * 2 ^ s ≡ 2 ^ (E + s) * D = omega (arith, ap (λ (x : ℕ). x * D) (pow-add 2 E s)) in
        let a : InUnits (2 ^ (E + s) * D) m (A * 2 ^ s) rest_C = subst (λ (x : ℕ). InUnits x m (A * 2 ^ s) rest_C) w (units_finer (2 ^ E * D) (2 ^ s) (pow_pos s) m A rest_C rest_in_units_C) in
        let g = enough_digits n A D s h (omega arith) in
        let b : InUnits (2 ^ (E + s)) m (l * 2 ^ s) (RN rule n rest_C) = subst (λ (x : ℕ). InUnits (2 ^ (E + s)) m x (RN rule n rest_C)) (low_is s) (RN_in_units_fraction rule n P (E + s) D m (A * 2 ^ s) rest_C k.some g a) in
        let c : InUnits (2 ^ (E + s)) m (l * 2 ^ s) (low_part K L) = subst (λ (x : ℕ). InUnits x m (l * 2 ^ s) (low_part K L)) (sym (pow-add 2 E s)) (units_finer (2 ^ E) (2 ^ s) (pow_pos s) m l (low_part K L) (low_in_units K ok L le)) in
        units_same (2 ^ (E + s)) m (l * 2 ^ s) (RN rule n rest_C) (low_part K L) b c

    pub low_everywhere : Same (RN rule n rest_C) (low_part K L)
    low_everywhere = elim (eq-zero-or-pos A) [ inl h ↦ none_left h | inr h ↦ some_left h ]

-- ---- in one direction: the high part in the end, and the low part under one high part
module _ (K : Context) (P : 0 < K.n) (a b : ℕ) (ab : a ≤ b) where
  open K use {rule, n, E}

  pub high_mono : (unit_parts K a).high ≤ (unit_parts K b).high
  unfolding unit_parts
  high_mono = nearest_mono rule a (step K) b (step K) (pow_pos (E + 1 - n)) (pow_pos (E + 1 - n)) (mul-le-mul_right (step K) ab)

  pub low_mono : (unit_parts K a).high ≡ (unit_parts K b).high → worth K (unit_parts K a) ≤ worth K (unit_parts K b)
  unfolding unit_parts
  low_mono e =
      let t = (unit_parts K a).high * step K in
      subst (λ (h : ℕ). worth K (unit_parts K a) ≤ plus_or_minus (ltb b (h * step K)) (h * step K) (rn rule n (apart b (h * step K)) 1)) e (go t (ltb a t) (ltb b t) refl refl)
    where
      round_mono : (x y : ℕ) → x ≤ y → rn rule n x 1 ≤ rn rule n y 1
      round_mono x y h = rn_mono rule n P x 1 y 1 (omega arith) (omega arith) (omega arith)

      go : (t : ℕ) (x y : Bool) → ltb a t ≡ x → ltb b t ≡ y → plus_or_minus x t (rn rule n (apart a t) 1) ≤ plus_or_minus y t (rn rule n (apart b t) 1)
      go t true true p q = let u = ltb-true a t p in let v = ltb-true b t q in omega (arith, round_mono (apart b t) (apart a t) (omega arith))
      go t true false p q = omega arith
      go t false true p q = absurd (omega (arith, ltb-false a t p, ltb-true b t q))
      go t false false p q = let u = ltb-false a t p in let v = ltb-false b t q in omega (arith, round_mono (apart a t) (apart b t) (omega arith))
