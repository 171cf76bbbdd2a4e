-- Numbers of a high and a low part to any base W, compared by their parts; and the order and equality that Wide derives. Assumes nothing.
use Rattle.std.specs.Prelude.{◌≡◌, Bool, true, false, ◌&&◌, ◌^◌, cond, ℕ, ◌+◌, ◌*◌, ◌/◌, ◌<◌, ltb, eqb}
use Rattle.std.proofs.Common.{refl, sym, ap, ◌∙◌, le_of_lt, lt_of_lt_of_le, le-add_right, lt_of_mul-lt-mul_right, arith, lt-ltb, le-ltb, eq-eqb, ne_eqb}
use Rattle.std.proofs.Math.Decide.{dec_lt, ℕ_discrete}
use Rattle.std.proofs.Math.Arith.{digits_lt, digits_div}
use Rattle.std.specs.Ordering.{ordering_then, nat_cmp, is_lt}
use Rattle.std.specs.declared.cmp.Ordering.TheVariants.{Less, Equal, Greater}
use Rattle.wide.specs.declared.Wide.{Wide}
use Rattle.wide.specs.contracts.WideOrd.TheImpl as ord
use Rattle.wide.specs.contracts.WidePartialEq.TheImpl as eq
use Rattle.wide.specs.Value.{word_bits, value_of}

-- A number below the base is its low part.
pub below_base : (W h l : ℕ) → h * W + l < W → l ≡ h * W + l
below_base W h l below =
    let none : h < 1 = lt_of_mul-lt-mul_right W (omega arith) in
    let zero : h ≡ 0 = omega arith in
    omega (arith, ap (λ (x : ℕ). x * W) zero)

-- A number below A times the base has a high part below A.
pub high_lt : (W h l A : ℕ) → h * W + l < A * W → h < A
high_lt W h l A lt = lt_of_mul-lt-mul_right W (omega arith)

-- The number with the smaller high part is the smaller one.
below_by_high : (W uh ul vh vl : ℕ) → ul < W → uh < vh → uh * W + ul < vh * W + vl
below_by_high W uh ul vh vl hu h = lt_of_lt_of_le (digits_lt h hu) (le-add_right (vh * W) vl)

module _ (W uh ul vh vl : ℕ) (hu : ul < W) (hv : vl < W) where
  abbrev u : ℕ
  u = uh * W + ul

  abbrev v : ℕ
  v = vh * W + vl

  -- The high parts decide, and the low parts where the high ones are the same.
  pub below_by_parts : ltb (uh * W + ul) (vh * W + vl) ≡ cond (eqb uh vh) (ltb ul vl) (ltb uh vh)
  below_by_parts = go (ℕ_discrete uh vh) (dec_lt uh vh) (dec_lt ul vl)
    where
      go : Dec (uh ≡ vh) → Dec (uh < vh) → Dec (ul < vl) → ltb (uh * W + ul) (vh * W + vl) ≡ cond (eqb uh vh) (ltb ul vl) (ltb uh vh)
      go (yes e) h (yes l) = let p = ap (λ (x : ℕ). x * W) e in simp (eq-eqb uh vh e, lt-ltb ul vl l) (lt-ltb u v (omega arith))
      go (yes e) h (no l) = let p = ap (λ (x : ℕ). x * W) e in simp (eq-eqb uh vh e, le-ltb ul vl (omega arith)) (le-ltb u v (omega arith))
      go (no n) (yes h) l = simp (ne_eqb uh vh n, lt-ltb uh vh h) (lt-ltb u v (below_by_high W uh ul vh vl hu h))
      go (no n) (no h) l = simp (ne_eqb uh vh n, le-ltb uh vh (omega arith)) (le-ltb u v (le_of_lt (below_by_high W vh vl uh ul hv (omega arith))))

  -- The same number has the same parts.
  pub same_by_parts : eqb (uh * W + ul) (vh * W + vl) ≡ cond (eqb uh vh) (eqb ul vl) false
  same_by_parts = go (ℕ_discrete uh vh) (ℕ_discrete ul vl)
    where
      high : u ≡ v → uh ≡ vh
      high e = sym (digits_div uh hu) ∙ ap (λ (x : ℕ). x / W) e ∙ digits_div vh hv

      go : Dec (uh ≡ vh) → Dec (ul ≡ vl) → eqb (uh * W + ul) (vh * W + vl) ≡ cond (eqb uh vh) (eqb ul vl) false
      go (yes e) (yes l) = let p = ap (λ (x : ℕ). x * W) e in simp (eq-eqb uh vh e, eq-eqb ul vl l) (eq-eqb u v (omega arith))
      go (yes e) (no n) = let p = ap (λ (x : ℕ). x * W) e in simp (eq-eqb uh vh e, ne_eqb ul vl n) (ne_eqb u v (omega arith))
      go (no n) l = simp (ne_eqb uh vh n) (ne_eqb u v (λ e. n (high e)))

  -- High part, then low part, as a derived order compares them: that is the numbers' order.
  pub order_by_parts : ordering_then (nat_cmp uh vh) (nat_cmp ul vl) ≡ nat_cmp (uh * W + ul) (vh * W + vl)
  order_by_parts = go (ℕ_discrete uh vh) (dec_lt uh vh)
    where
      go : Dec (uh ≡ vh) → Dec (uh < vh) → ordering_then (nat_cmp uh vh) (nat_cmp ul vl) ≡ nat_cmp (uh * W + ul) (vh * W + vl)
      go (yes e) h = simp (eq-eqb uh vh e, le-ltb uh vh (omega arith), below_by_parts, same_by_parts) refl
      go (no n) (yes h) = simp (ne_eqb uh vh n, lt-ltb uh vh h, below_by_parts) refl
      go (no n) (no h) = simp (ne_eqb uh vh n, le-ltb uh vh (omega arith), below_by_parts, same_by_parts) refl

  -- Both parts the same, as a derived equality compares them: that is the same number.
  pub equal_by_parts : eqb uh vh && eqb ul vl ≡ eqb (uh * W + ul) (vh * W + vl)
  equal_by_parts = go (ℕ_discrete uh vh)
    where
      go : Dec (uh ≡ vh) → eqb uh vh && eqb ul vl ≡ eqb (uh * W + ul) (vh * W + vl)
      go (yes e) = simp (eq-eqb uh vh e, same_by_parts) refl
      go (no n) = simp (ne_eqb uh vh n, same_by_parts) refl

-- The derived order of numbers of two words is that of what they are worth,
pub wide_order : (u v : Wide) → u.lo < 2 ^ word_bits → v.lo < 2 ^ word_bits → (ord.ghosts).cmp u v ≡ nat_cmp (value_of u) (value_of v)
wide_order u v hu hv = order_by_parts (2 ^ word_bits) u.hi u.lo v.hi v.lo hu hv

-- so that `<` says which is worth less,
pub wide_below : (u v : Wide) → u.lo < 2 ^ word_bits → v.lo < 2 ^ word_bits → is_lt ((ord.ghosts).cmp u v) ≡ ltb (value_of u) (value_of v)
wide_below u v hu hv = ap is_lt (wide_order u v hu hv) ∙ less (ltb (value_of u) (value_of v)) (eqb (value_of u) (value_of v))
  where
    less : (below same : Bool) → is_lt (cond below Less (cond same Equal Greater)) ≡ below
    less true same = refl
    less false true = refl
    less false false = refl

-- and `==` whether they are worth the same.
pub wide_equal : (u v : Wide) → u.lo < 2 ^ word_bits → v.lo < 2 ^ word_bits → (eq.ghosts).eq u v ≡ eqb (value_of u) (value_of v)
wide_equal u v hu hv = equal_by_parts (2 ^ word_bits) u.hi u.lo v.hi v.lo hu hv
