-- The parts at one end: their bounds, how near they are to the end, and that the whole numbers are the parts of the definition. Assumes nothing.
use Rattle.std.specs.Prelude.{◌≡◌, refl, Bool, true, false, ltb, ℕ, ◌+◌, ◌-◌, ◌*◌, ◌/◌, ◌^◌, ◌≤◌, nat_abs}
use Rattle.std.proofs.Common.{sym, ap, ap₂, ◌∙◌, subst, mul-le-mul_right, le_of_eq, le_trans, arith, pow_pos, pow_mono, pow-add, ltb-true, ltb-false}
use Rattle.std.proofs.Math.Nat.{pow-succ', eq_of_mul-eq-mul_right, mul-div_cancel}
use Rattle.rounding.specs.Apart.{apart}
use Rattle.rounding.specs.Grid.{nearest}
use Rattle.rounding.proofs.GridLaws.{nearest_is, nearest_le, nearest_ge}
use Rattle.rounding.proofs.Digits.{pow_half}
use Rattle.rounding.specs.Unit.{rn}
use Rattle.rounding.proofs.UnitLaws.{rn_error, rn_le, rn_at}
use Rattle.rounding.specs.declared.Rounded.{Rounded}
use Rattle.rounding.specs.Round.{rounded}
use Rattle.rounding.proofs.RoundLaws.{rounded_same}
use Rattle.rounding.specs.Fraction.{over}
use Rattle.rounding.proofs.FractionLaws.{InUnits, over_in_units, units_finer, RN_in_units, less_in_units}
use Rattle.rounding.specs.Signed.{negative, signed_of}
use Rattle.rounding.proofs.DirectedLaws.{size_of}
use Rattle.factor.specs.declared.Parts.{Parts}
pub use Rattle.factor.proofs.LowForm.{top_is, width_is}
use Rattle.factor.proofs.LowForm.{sign_of, keep_sign, Tells, from_tells}
use Rattle.factor.specs.Context.{Context, Fine}
use Rattle.factor.specs.Parts.{high_part, rest, low_part, parts_at}
use Rattle.factor.specs.UnitParts.{UnitParts, step, plus_or_minus, unit_parts, worth, unit_parts_of, parts_from}
use Rattle.factor.specs.Ends.{End}

-- ---- the powers of two: W = 2 ^ (E - n) is half a step
module _ (K : Context) (ok : Fine K) where
  open K use {rule, n, E}
  open ok use {some as P, room as F}

  pub step_is : step K ≡ 2 * 2 ^ (E - n)
  step_is = ap (λ (z : ℕ). 2 ^ z) (omega arith) ∙ pow-succ' 2 (E - n)

  pub bottom_is : 2 ^ E ≡ 2 ^ (n - 1) * step K
  bottom_is = omega (arith, ap (λ (z : ℕ). 2 ^ (n - 1) * z) step_is, top_is K ok, ap (λ (z : ℕ). z * 2 ^ (E - n)) (pow_half n P))

module _ (K : Context) (ok : Fine K) (c : ℕ) (ce : End K c) where
  open K use {rule, n, E}
  open ok use {some as P, room as F}

  abbrev G : ℕ
  G = step K

  abbrev W : ℕ
  W = 2 ^ (E - n)

  abbrev Q : ℕ
  Q = 2 ^ (E - 2 * n)

  abbrev p : UnitParts
  p = unit_parts K c

  pub high_most : p.high ≤ 2 ^ n
  unfolding unit_parts
  high_most = nearest_le rule c G (2 ^ n) (pow_pos (E + 1 - n)) (omega (arith, ce.to, ap (λ (z : ℕ). 2 ^ n * z) (step_is K ok), top_is K ok, pow-succ' 2 E))

  pub high_least : 2 ^ (n - 1) ≤ p.high
  unfolding unit_parts
  high_least = nearest_ge rule c G (2 ^ (n - 1)) (pow_pos (E + 1 - n)) (omega (arith, ce.from, bottom_is K ok))

  -- |C - Ch| is at most 2 ^ - n
  pub high_near : (c ≤ p.high * G + W) × (p.high * G ≤ c + W)
  unfolding unit_parts
  high_near = let r = nearest_is rule c G (pow_pos (E + 1 - n)) in let s = step_is K ok in (omega (arith, r.high), omega (arith, r.low))

  pub rest_le : apart c (p.high * G) ≤ W
  rest_le = let h = high_near in omega (arith, h.0, h.1)

  pub high_from_lem : 2 ^ E ≤ p.high * G
  high_from_lem = omega (arith, mul-le-mul_right G high_least, bottom_is K ok)

  pub low_most : p.low ≤ W
  unfolding unit_parts
  low_most =
      le_trans (rn_le rule n P (apart c (p.high * G)) 1 (2 ^ n) (E - 2 * n) (omega arith) (le_of_eq refl) (omega (arith, rest_le, width_is K ok))) (le_of_eq (sym (width_is K ok)))

  -- Cl is within 2 ^ - (2 * n + 1) of C - Ch
  pub low_near : (2 * p.low ≤ 2 * apart c (p.high * G) + Q) × (2 * apart c (p.high * G) ≤ 2 * p.low + Q)
  unfolding unit_parts
  low_near =
      let r = rn_error rule n P (apart c (p.high * G)) 1 (E - 2 * n) (omega arith) (omega (arith, rest_le, width_is K ok, pow-add 2 n (E - 2 * n))) in
      (omega (arith, r.0), omega (arith, r.1))

  pub width_le : W ≤ 2 ^ E
  width_le = pow_mono {i = E - n} {j = E} (omega arith)

  -- so Ch + Cl is within 2 ^ - (2 * n + 1) of C
  pub worth_near : (2 * worth K p ≤ 2 * c + Q) × (2 * c ≤ 2 * worth K p + Q)
  unfolding unit_parts
  worth_near = go (ltb c (p.high * G)) refl
    where
      go : (b : Bool) → ltb c (p.high * G) ≡ b → (2 * plus_or_minus b (p.high * G) p.low ≤ 2 * c + Q) × (2 * c ≤ 2 * plus_or_minus b (p.high * G) p.low + Q)
      go true e =
          let l = ltb-true c (p.high * G) e in
          let x = low_near in
          let y : p.low ≤ p.high * G = le_trans low_most (le_trans width_le high_from_lem) in
          (omega (arith, x.0, x.1), omega (arith, x.0, x.1))
      go false e =
          let l = ltb-false c (p.high * G) e in
          let x = low_near in
          (omega (arith, x.0, x.1), omega (arith, x.0, x.1))

  -- ---- these are the parts, as fractions
  pub rn_high : rn rule n c 1 ≡ p.high * G
  unfolding unit_parts
  rn_high =
      let k = E + 1 - n in
      let a : 2 ^ (n + k) ≡ 2 * 2 ^ E = ap (λ (z : ℕ). 2 ^ z) (omega arith) ∙ pow-succ' 2 E in
      rn_at rule n P c 1 k (omega arith) (omega (arith, ce.from)) (omega (arith, ce.to, pow-succ' 2 E)) ∙ ap (λ (z : ℕ). nearest rule c z * 2 ^ k) (omega arith)

  pub high_in_units : InUnits (2 ^ E) false (p.high * G) (high_part K c)
  high_in_units = subst (λ (z : ℕ). InUnits (2 ^ E) false z (high_part K c)) rn_high (RN_in_units rule n P E false c (over c E) (over_in_units c E))

  pub rest_in_units : InUnits (2 ^ E) p.minus (apart c (p.high * G)) (rest K c)
  unfolding unit_parts
  rest_in_units = less_in_units (2 ^ E) c (p.high * G) (over c E) (high_part K c) (over_in_units c E) high_in_units

  pub low_in_units : InUnits (2 ^ E) p.minus p.low (low_part K c)
  unfolding unit_parts
  low_in_units = RN_in_units rule n P E p.minus (apart c (p.high * G)) (rest K c) rest_in_units

  -- ---- the high significand
  pub high_count : (high_part K c).num * 2 ^ (n - 1) ≡ p.high * (high_part K c).den
  high_count =
      let x = high_part K c in
      eq_of_mul-eq-mul_right G (pow_pos (E + 1 - n)) (x.num * 2 ^ (n - 1)) (p.high * x.den) (omega (arith, high_in_units.count, ap (λ (z : ℕ). x.num * z) (bottom_is K ok)))

  pub high_is : (parts_at K c).high ≡ p.high
  unfolding parts_at
  high_is = ap (λ (z : ℕ). z / (high_part K c).den) high_count ∙ mul-div_cancel p.high high_in_units.some

  -- as it is kept
  pub high_kept : InUnits (2 ^ E) false (p.high * G) (over (parts_at K c).high (n - 1))
  high_kept =
      let H = (parts_at K c).high in
      subst (λ (z : ℕ). InUnits (2 ^ E) false (z * G) (over H (n - 1))) high_is
      (subst (λ (z : ℕ). InUnits z false (H * G) (over H (n - 1))) (sym (bottom_is K ok)) (units_finer (2 ^ (n - 1)) G (pow_pos (E + 1 - n)) false H (over H (n - 1)) (over_in_units H (n - 1))))

  -- ---- the low significand. R is |C - Ch|
  abbrev R : ℕ
  R = apart c (p.high * G)

  abbrev s : Parts
  s = parts_at K c

  -- the parts, from the high significand and the signed rest
  pub parts_from_lem : s ≡ parts_from K p.high (signed_of p.minus R)
  unfolding parts_at parts_from
  parts_from_lem =
      let d = rest K c in
      let k = rest_in_units in
      let r : rounded rule n d.num d.den ≡ rounded rule n R (2 ^ E) = rounded_same rule n P d.num d.den R (2 ^ E) k.some (pow_pos E) k.count in
      let size : R ≡ nat_abs (signed_of p.minus R) = sym (size_of p.minus R) in
      let t : rounded rule n d.num d.den ≡ rounded rule n (nat_abs (signed_of p.minus R)) (2 ^ E) = r ∙ ap (λ (z : ℕ). rounded rule n z (2 ^ E)) size in
      let low : signed_of d.minus (rounded rule n d.num d.den).significand ≡ signed_of (negative (signed_of p.minus R)) (rounded rule n (nat_abs (signed_of p.minus R)) (2 ^ E)).significand =
      ap₂ (λ (b : Bool) (q : Rounded ℕ). signed_of b q.significand) k.sign r
      ∙ keep_sign K p.minus R
      ∙ ap (λ (z : ℕ). signed_of (negative (signed_of p.minus R)) (rounded rule n z (2 ^ E)).significand) size in
      λ i. record { high = high_is i; low = low i; places = nat_abs (t i).exponent }

  rest_size : p.low ≡ rn rule n (nat_abs (signed_of p.minus R)) 1
  unfolding unit_parts
  rest_size = ap (λ (z : ℕ). rn rule n z 1) (sym (size_of p.minus R))

  -- no rest is not negative
  sign_is : p.minus ≡ negative (signed_of p.minus R)
  unfolding unit_parts
  sign_is = go (ltb c (p.high * G)) refl
    where
      go : (b : Bool) → ltb c (p.high * G) ≡ b → b ≡ negative (signed_of b R)
      go true e = let l = ltb-true c (p.high * G) e in sym (sign_of true R (omega arith))
      go false e = refl

  -- s = q = 0 where there is no rest; else |s| has n bits, and the range of q is known
  pub low_tells : Tells K p.high (signed_of p.minus R) (rn rule n (nat_abs (signed_of p.minus R)) 1) s
  low_tells = rw parts_from_lem (from_tells K ok p.high (signed_of p.minus R) (rw (size_of p.minus R) rest_le))

  -- so the parts that are kept tell the whole numbers
  pub units_of_parts : p ≡ unit_parts_of K s
  units_of_parts i = record { high = sym low_tells.high i; minus = (sign_is ∙ low_tells.sign) i; low = (rest_size ∙ low_tells.size) i }

  -- s / 2 ^ places is the low part
  pub low_kept : nat_abs s.low * 2 ^ E ≡ p.low * 2 ^ s.places
  low_kept = rw rest_size low_tells.value
