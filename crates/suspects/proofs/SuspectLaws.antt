-- A suspect is told by the remainder of L * X, so the test decides it; and whatever is not right is a suspect. Assumes nothing.
use Rattle.std.specs.Prelude.{◌≡◌, refl, ◌↔◌, Bool, true, false, cond, ℕ, suc, ◌+◌, ◌-◌, ◌*◌, ◌/◌, ◌%◌, ◌^◌, ◌≤◌, ◌<◌, ltb}
use Rattle.std.proofs.Common.{sym, ap, ◌∙◌, true≢false, mul-le-mul_right, le_trans, le_of_eq, le_antisymm, lt_of_mul-lt-mul_right, div-add-mod', mod-lt, arith, pow_pos, pow_mono, ltb-true, lt-ltb}
use Rattle.std.proofs.Math.Bool.{not-eq-not}
use Rattle.marks.specs.declared.Mark.TheVariants.{Right}
use Rattle.marks.specs.AnswerLaws.{and_true}
use Rattle.rounding.proofs.Digits.{pow_half}
use Rattle.rounding.specs.Unit.{rn}
use Rattle.factor.specs.Context.{Context, Fine}
use Rattle.factor.specs.Parts.{parts_at}
use Rattle.factor.specs.Ends.{End}
use Rattle.factor.proofs.PartsLaws.{top_is}
use Rattle.factor.proofs.Accepted.{spread}
use Rattle.product.specs.Product.{product}
use Rattle.product.specs.Marks.{mark}
use Rattle.product.proofs.ProductLaws.{product_is}
use Rattle.product.proofs.MarkLaws.{mark_units_lem, right_units}
use Rattle.suspects.specs.Suspects.{window_w, widening, is_low, half_step, midpoint, Suspect, in_window, is_suspect}
use Rattle.suspects.proofs.RightLaws.{ends_alike, product_alike}

-- ---- an odd multiple of h strictly between N - W and N + W + D, by the remainder of N modulo 2 * h
module _ (N h W D : ℕ) (H : 0 < h) (room : W + D ≤ h) where
  abbrev r : ℕ
  r = N % (2 * h)

  multiple_of_window : h < r + W + D → r < h + W → (q : ℕ) × (N < (2 * q + 1) * h + W) × ((2 * q + 1) * h < N + W + D)
  multiple_of_window x y = let e = div-add-mod' N (2 * h) in (N / (2 * h), omega arith, omega arith)

  window_of_multiple : (q : ℕ) → N < (2 * q + 1) * h + W → (2 * q + 1) * h < N + W + D → (h < r + W + D) × (r < h + W)
  window_of_multiple q x y =
      let e = div-add-mod' N (2 * h) in
      let l : N % (2 * h) < 2 * h = mod-lt N (omega arith) in
      let p = N / (2 * h) in
      let s : p ≡ q = le_antisymm (omega (arith, lt_of_mul-lt-mul_right h {m = p} {n = suc q} (omega arith))) (omega (arith, lt_of_mul-lt-mul_right h {m = q} {n = suc p} (omega arith))) in
      let t = ap (λ (z : ℕ). z * h) s in
      (omega arith, omega arith)

-- The test is what it says.
pub in_window_lem : (r h W D : ℕ) → in_window r h W D ≡ true ↔ ((h < r + W + D) × (r < h + W))
in_window_lem r h W D = (
  λ e. let i = and_true (ltb h (r + W + D)) (ltb r (h + W)) e in (ltb-true h (r + W + D) i.0, ltb-true r (h + W) i.1),
  λ x. rw (lt-ltb h (r + W + D) x.0, lt-ltb r (h + W) x.1),
)

-- ---- ends with the same parts, at two bits or more
-- The window lies between two multiples of the distance of two midpoints, in the low half and so in both.
pub room : (K : Context) → Fine K → 2 ≤ K.n → (L U : ℕ) → End K L → End K U → parts_at K L ≡ parts_at K U → window_w K + widening K L U ≤ 2 ^ (K.E - 1)
room K ok two L U le ue same =
    omega (arith, spread K ok L U le ue same, top_is K ok, mul-le-mul_right (window_w K) (pow_mono {i = 2} {j = K.n} two), pow_half K.E (omega arith))

module _ (K : Context) (ok : Fine K) (two : 2 ≤ K.n) (L U : ℕ) (le : End K L) (ue : End K U) (lu : L ≤ U) (same : parts_at K L ≡ parts_at K U) (X : ℕ) where
  open K use {rule, n, E}
  open ok use {some as P, room as F}

  abbrev W : ℕ
  W = window_w K

  abbrev D : ℕ
  D = widening K L U

  abbrev h : ℕ
  h = half_step K L X

  half_ge : 2 ^ (E - 1) ≤ h
  half_ge = go (is_low K L X)
    where
      go : (b : Bool) → 2 ^ (E - 1) ≤ cond b (2 ^ (E - 1)) (2 ^ E)
      go true = le_of_eq refl
      go false = pow_mono {i = E - 1} {j = E} (omega arith)

  window_room : W + D ≤ h
  window_room = le_trans (room K ok two L U le ue same) half_ge

  half_pos : 0 < h
  half_pos = le_trans (pow_pos (E - 1)) half_ge

  -- the test is the definition
  pub suspect_iff : is_suspect K L U X ≡ true ↔ Suspect K L U X
  unfolding is_suspect Suspect midpoint
  suspect_iff = (
    λ e. let w = (in_window_lem ((L * X) % (2 * h)) h W D).0 e in multiple_of_window (L * X) h W D half_pos window_room w.0 w.1,
    λ s. (in_window_lem ((L * X) % (2 * h)) h W D).1 (window_of_multiple (L * X) h W D half_pos window_room s.0 s.1 s.2),
  )

  -- every significand that is not right is a suspect
  pub not_right_suspect : 2 ^ (n - 1) ≤ X → X < 2 ^ n → ¬ (mark K L U X (product K (parts_at K L) X) ≡ Right) → Suspect K L U X
  not_right_suspect x1 xe m =
      suspect_iff.0
      ((not-eq-not {b = true}).0
      (λ e.
      let clear : ¬ Suspect K L U X = λ s. true≢false (sym (suspect_iff.1 s) ∙ e) in
      let v_is = (product_is K ok L le X xe x1).value in
      let p = product_alike K ok L U le ue lu same X x1 xe clear in
      let q = ends_alike K ok L U le ue lu same X x1 xe clear in
      m (mark_units_lem K P L U X (product K (parts_at K L) X) ∙ right_units (rn rule n (L * X) 1) (rn rule n (U * X) 1) _ (p ∙ sym v_is) (sym q ∙ p ∙ sym v_is))))
