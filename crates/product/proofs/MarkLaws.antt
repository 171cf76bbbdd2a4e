-- The mark, taken at the two ends alone, tells of every fraction between them. Assumes nothing.
use Rattle.std.specs.Prelude.{◌≡◌, refl, Bool, true, false, ◌&&◌, ℕ, ◌+◌, ◌-◌, ◌*◌, ◌^◌, ◌≤◌, ◌<◌, ltb, eqb}
use Rattle.std.proofs.Common.{sym, ap, ◌∙◌, subst, arith, pow-add, pow_pos, ltb-true, ltb-false, eqb-true, lt-ltb, le-ltb, eq-eqb}
use Rattle.std.proofs.Math.Bool.{cond}
use native.Mathlib.Nat.{mul-le-mul_right, mul-pos, le_trans, le_of_eq, le_of_lt, lt_of_not-le, not-le_of_lt, eq_of_mul-eq-mul_right}
use Rattle.std.proofs.lemmas.Bool.{eqb-false}
use Rattle.marks.specs.declared.Mark.{Mark}
use Rattle.marks.specs.declared.Mark.TheVariants.{Right, Open, Wrong}
use Rattle.marks.specs.SaysLaws.{says_only}
use Rattle.rounding.proofs.Digits.{pow_half}
use Rattle.rounding.specs.Unit.{rn}
use Rattle.rounding.proofs.UnitLaws.{rn_mono, rn_fixed}
use Rattle.rounding.specs.Fraction.{Fraction, over, times}
use Rattle.rounding.proofs.FractionLaws.{InUnits, over_in_units, RN_in_units, RN_in_units_fraction, times_in_units, units_same, units_unique, below_in_units, equal_in_units}
use Rattle.factor.specs.Context.{Context}
use Rattle.factor.specs.Ends.{Between}
use Rattle.product.specs.declared.Product.{Product}
use Rattle.product.specs.Product.{argument, value_of}
use Rattle.product.specs.Units.{units, mark_units}
use Rattle.product.proofs.ProductLaws.{value_in_units}
use Rattle.product.specs.Marks.{exact, mark, Gives, SaysAt}

-- right if v is both, wrong if it is below the first or above the second, else open
module _ (a b v : ℕ) where
  pub right_units : a ≡ v → b ≡ v → mark_units a b v ≡ Right
  right_units p q = rw (le-ltb v a (omega arith), le-ltb b v (omega arith), eq-eqb a v p, eq-eqb b v q)

  pub wrong_below : v < a → mark_units a b v ≡ Wrong
  wrong_below h = rw (lt-ltb v a h)

  pub wrong_above : b < v → mark_units a b v ≡ Wrong
  wrong_above h = rw (lt-ltb b v h) (go (ltb v a))
    where
      go : (p : Bool) → cond p Wrong Wrong ≡ Wrong
      go true = refl
      go false = refl

  pub open_else : eqb a v && eqb b v ≡ false → a ≤ v → v ≤ b → mark_units a b v ≡ Open
  open_else e p q = rw (le-ltb v a p, le-ltb b v q, e)

module _ (K : Context) (P : 0 < K.n) (L U X : ℕ) (v : Product) where
  open K use {rule, n, E}

  abbrev t : ℕ
  t = E + (n - 1)

  abbrev N : ℕ
  N = units K v

  abbrev a : ℕ
  a = rn rule n (L * X) 1

  abbrev b : ℕ
  b = rn rule n (U * X) 1

  unit : 2 ^ E * 2 ^ (n - 1) ≡ 2 ^ t
  unit = sym (pow-add 2 E (n - 1))

  -- ---- the mark by whole numbers
  end_in_units : (c : ℕ) → InUnits (2 ^ t) false (rn rule n (c * X) 1) (exact K X (over c E))
  end_in_units c =
      RN_in_units rule n P t false (c * X) (times (over c E) (argument n X))
      (subst (λ (z : ℕ). InUnits z false (c * X) (times (over c E) (argument n X))) unit (times_in_units (2 ^ E) (2 ^ (n - 1)) c X false (over c E) (argument n X) (over_in_units c E) (over_in_units X (n - 1))))

  mark_in_units : (T i j m : ℕ) → InUnits T false i (exact K X (over L E)) → InUnits T false j (exact K X (over U E)) → InUnits T false m (value_of n v) → mark K L U X v ≡ mark_units i j m
  unfolding mark
  mark_in_units T i j m p q r =
      let wrong_below = below_in_units T m i (value_of n v) (exact K X (over L E)) r p in
      let wrong_above = below_in_units T j m (exact K X (over U E)) (value_of n v) q r in
      let at_lower = equal_in_units T i m (exact K X (over L E)) (value_of n v) p r in
      let at_upper = equal_in_units T j m (exact K X (over U E)) (value_of n v) q r in
      λ k. cond (wrong_below k) Wrong (cond (wrong_above k) Wrong (cond (at_lower k && at_upper k) Right Open))

  pub mark_units_lem : mark K L U X v ≡ mark_units a b N
  mark_units_lem = mark_in_units (2 ^ t) a b N (end_in_units L) (end_in_units U) (value_in_units K v)

  -- and by whole numbers of the step 2 ^ (1 - n) of binade 0, i and j being those of the ends
  pub mark_steps : (i j : ℕ) → i * 2 ^ E ≡ a → j * 2 ^ E ≡ b → mark K L U X v ≡ mark_units i j (v.significand * 2 ^ v.binade)
  mark_steps i j p q = mark_in_units (2 ^ (n - 1)) i j (v.significand * 2 ^ v.binade) (at L i p) (at U j q) (over_in_units (v.significand * 2 ^ v.binade) (n - 1))
    where
      at : (c k : ℕ) → k * 2 ^ E ≡ rn rule n (c * X) 1 → InUnits (2 ^ (n - 1)) false k (exact K X (over c E))
      at c k e =
          let x = exact K X (over c E) in
          let w = end_in_units c in
          record {
            unit = pow_pos (n - 1);
            some = w.some;
            sign = w.sign;
            count = eq_of_mul-eq-mul_right (2 ^ E) (pow_pos E) (x.num * 2 ^ (n - 1)) (k * x.den) (omega (arith, w.count, ap (λ (z : ℕ). x.num * z) unit, ap (λ (z : ℕ). z * x.den) e));
          }

  -- ---- every fraction between
  module _ (le : 2 ^ E ≤ L) (lu : L ≤ U) (x1 : 2 ^ (n - 1) ≤ X) (bits : v.significand ≤ 2 ^ n) where
    x0 : 0 < X
    x0 = le_trans (pow_pos (n - 1)) x1

    -- C * x, and what it rounds to
    abbrev rounds : Fraction → ℕ
    rounds C = rn rule n (C.num * 2 ^ E * X) C.den

    exact_in_units : (C : Fraction) → Between K L U C → InUnits (2 ^ t) false (rounds C) (exact K X C)
    exact_in_units C k =
        RN_in_units_fraction rule n P t C.den false (C.num * 2 ^ E * X) (times C (argument n X)) k.some fine
        (record {
          unit = mul-pos (pow_pos t) k.some;
          some = mul-pos k.some (pow_pos (n - 1));
          sign = rw k.sign;
          count = omega (arith, ap (λ (z : ℕ). C.num * X * (z * C.den)) unit);
        })
      where
        fine : 2 ^ n * C.den ≤ 2 * (C.num * 2 ^ E * X)
        fine =
            let one : 1 ≤ 2 ^ E = pow_pos E in
            let f = mul-le-mul_right X (le_trans (mul-le-mul_right C.den (le_trans one le)) k.least) in
            omega (arith, f, mul-le-mul_right C.den x1, ap (λ (z : ℕ). z * C.den) (pow_half n P))

    gives : (C : Fraction) → Between K L U C → rounds C ≡ N → Gives K X v C
    gives C k e = units_same (2 ^ t) false N (exact K X C) (value_of n v) (subst (λ (z : ℕ). InUnits (2 ^ t) false z (exact K X C)) e (exact_in_units C k)) (value_in_units K v)

    given : (C : Fraction) → Between K L U C → Gives K X v C → rounds C ≡ N
    given C k = units_unique (2 ^ t) false (rounds C) N (exact K X C) (value_of n v) (exact_in_units C k) (value_in_units K v)

    from_L : (C : Fraction) → Between K L U C → a ≤ rounds C
    from_L C k = rn_mono rule n P (L * X) 1 (C.num * 2 ^ E * X) C.den (omega arith) k.some (omega (arith, mul-le-mul_right X k.least))

    to_U : (C : Fraction) → Between K L U C → rounds C ≤ b
    to_U C k = rn_mono rule n P (C.num * 2 ^ E * X) C.den (U * X) 1 k.some (omega arith) (omega (arith, mul-le-mul_right X k.most))

    -- the ends themselves
    at_L : Between K L U (over L E)
    at_L = record { some = pow_pos E; sign = refl; least = le_of_eq refl; most = mul-le-mul_right (2 ^ E) lu }

    at_U : Between K L U (over U E)
    at_U = record { some = pow_pos E; sign = refl; least = mul-le-mul_right (2 ^ E) lu; most = le_of_eq refl }

    end_rounds : (c : ℕ) → rounds (over c E) ≡ rn rule n (c * X) 1
    end_rounds c =
        native.Mathlib.Nat.le_antisymm (rn_mono rule n P (c * 2 ^ E * X) (2 ^ E) (c * X) 1 (pow_pos E) (omega arith) (omega arith))
        (rn_mono rule n P (c * X) 1 (c * 2 ^ E * X) (2 ^ E) (omega arith) (pow_pos E) (omega arith))

    -- a value strictly between what the ends round to is itself v / x times x
    fixed : (d : ℕ) → 0 < d → rn rule n (N * d) d ≡ N
    fixed d D = rn_fixed rule n P v.significand (E + v.binade) d D bits

    abbrev C_v : Fraction
    C_v = record { minus = false; num = N; den = X * 2 ^ E }

    at_v : a < N → N < b → Between K L U C_v
    at_v p q = record {
      some = mul-pos x0 (pow_pos E);
      sign = refl;
      least =
          let g : L * X ≤ N = le_of_lt (lt_of_not-le (λ (k : N ≤ L * X). not-le_of_lt p (le_trans (le_of_eq (sym (fixed 1 (omega arith)))) (rn_mono rule n P (N * 1) 1 (L * X) 1 (omega arith) (omega arith) (omega arith))))) in
          omega (arith, mul-le-mul_right (2 ^ E) g);
      most =
          let g : N ≤ U * X = le_of_lt (lt_of_not-le (λ (k : U * X ≤ N). not-le_of_lt q (le_trans (rn_mono rule n P (U * X) 1 (N * 1) 1 (omega arith) (omega arith) (omega arith)) (le_of_eq (fixed 1 (omega arith)))))) in
          omega (arith, mul-le-mul_right (2 ^ E) g);
    }

    v_rounds : rounds C_v ≡ N
    v_rounds = ap (λ (z : ℕ). rn rule n z (X * 2 ^ E)) (omega arith) ∙ fixed (X * 2 ^ E) (mul-pos x0 (pow_pos E))

    says_units : SaysAt K L U X v (mark_units a b N)
    says_units = go (ltb N a) (ltb b N) (eqb a N) (eqb b N) refl refl refl refl
      where
        end_gives : (c : ℕ) → Between K L U (over c E) → rn rule n (c * X) 1 ≡ N → Gives K X v (over c E)
        end_gives c k e = gives (over c E) k (end_rounds c ∙ e)

        end_not : (c : ℕ) → Between K L U (over c E) → (rn rule n (c * X) 1 ≡ N → ⊥) → ¬ Gives K X v (over c E)
        end_not c k e g = e (sym (end_rounds c) ∙ given (over c E) k g)

        go : (p q r s : Bool) → ltb N a ≡ p → ltb b N ≡ q → eqb a N ≡ r → eqb b N ≡ s → SaysAt K L U X v (cond p Wrong (cond q Wrong (cond (r && s) Right Open)))
        go true q r s e f g h = λ C k z. omega (arith, ltb-true N a e, from_L C k, given C k z)
        go false true r s e f g h = λ C k z. omega (arith, ltb-true b N f, to_U C k, given C k z)
        go false false true true e f g h = λ C k. gives C k (omega (arith, eqb-true a N g, eqb-true b N h, from_L C k, to_U C k))
        go false false true false e f g h = ((over L E, at_L, end_gives L at_L (eqb-true a N g)), (over U E, at_U, end_not U at_U (eqb-false b N h)))
        go false false false true e f g h = ((over U E, at_U, end_gives U at_U (eqb-true b N h)), (over L E, at_L, end_not L at_L (eqb-false a N g)))
        go false false false false e f g h =
            let k = at_v (omega (arith, ltb-false N a e, eqb-false a N g)) (omega (arith, ltb-false b N f, eqb-false b N h)) in
            ((C_v, k, gives C_v k v_rounds), (over L E, at_L, end_not L at_L (eqb-false a N g)))

    -- the mark says so
    pub mark_says : SaysAt K L U X v (mark K L U X v)
    mark_says = subst (SaysAt K L U X v) (sym mark_units_lem) says_units

    -- and it is the only one that does
    pub mark_only : (m : Mark) → SaysAt K L U X v m → mark K L U X v ≡ m
    mark_only m s = says_only (Between K L U) (Gives K X v) (over L E) at_L (mark K L U X v) m mark_says s
