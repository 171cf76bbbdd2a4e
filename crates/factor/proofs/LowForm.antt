-- Laws of the low part as a signed whole number over a power of two, the form in which it is kept. Assumes nothing.
use Rattle.std.specs.Prelude.{◌≡◌, refl, Bool, true, false, ℕ, zero, suc, ◌+◌, ◌-◌, ◌*◌, ◌/◌, ◌^◌, ◌≤◌, ◌<◌, ℤ, pos, negsuc, neg_ℤ, nat_abs}
use Rattle.std.proofs.Common.{sym, ap, ◌∙◌, arith, mul-le-mul_right, mul-le-mul_left, mul-pos, mul-lt-mul_of_pos_right, le_trans, le_of_suc-le-suc, le_of_eq, lt_of_not-le, pow-add, pow_pos, pow_mono}
use Rattle.std.proofs.Math.Nat.{mul-div_cancel, pow-succ'}
use Rattle.rounding.specs.declared.Rounded.{Rounded}
use Rattle.rounding.specs.Unit.{rn}
use Rattle.rounding.proofs.UnitLaws.{rn_le, rn_ge, rn_whole_small}
use Rattle.rounding.specs.Round.{rounded, Equals, HasBits}
use Rattle.rounding.proofs.RoundLaws.{rounded_bits, rounded_whole}
use Rattle.rounding.specs.Signed.{negative, signed_of}
use Rattle.rounding.proofs.DirectedLaws.{size_of}
use Rattle.factor.specs.declared.Parts.{Parts}
use Rattle.factor.specs.Context.{Context, Fine}
use Rattle.factor.specs.UnitParts.{parts_from}

-- ---- sign and size
pub sign_of : (b : Bool) (m : ℕ) → 0 < m → negative (signed_of b m) ≡ b
sign_of true zero h = absurd (omega arith)
sign_of true (suc m) h = refl
sign_of false m h = refl

no_sign : (b : Bool) → signed_of b 0 ≡ pos 0
no_sign true = refl
no_sign false = refl

module _ (K : Context) where
  open K use {rule, n, E}

  -- the sign of a rest goes to its significand, where that is not zero
  pub keep_sign : (b : Bool) (R : ℕ) → signed_of b (rounded rule n R (2 ^ E)).significand ≡ signed_of (negative (signed_of b R)) (rounded rule n R (2 ^ E)).significand
  unfolding rounded
  keep_sign b zero = no_sign b ∙ sym (no_sign (negative (signed_of b 0)))
  keep_sign b (suc R) = ap (λ (z : Bool). signed_of z (rounded rule n (suc R) (2 ^ E)).significand) (sym (sign_of b (suc R) (omega arith)))

  -- ---- the powers of two
  module _ (ok : Fine K) where
    open ok use {some as P, room as F}

    pub top_is : 2 ^ E ≡ 2 ^ n * 2 ^ (E - n)
    top_is = ap (λ (z : ℕ). 2 ^ z) (omega arith) ∙ pow-add 2 n (E - n)

    pub width_is : 2 ^ (E - n) ≡ 2 ^ n * 2 ^ (E - 2 * n)
    width_is = ap (λ (z : ℕ). 2 ^ z) (omega arith) ∙ pow-add 2 n (E - 2 * n)

  -- a low part l of the unit 2 ^ - E, not zero, as s / 2 ^ places
  pub record LowForm (l : ℕ) (r : Rounded ℕ) : Type 0 where
    pub places : ℕ
    pub exponent : r.exponent ≡ neg_ℤ (pos places)
    pub bits : HasBits n r.significand
    pub value : r.significand * 2 ^ E ≡ l * 2 ^ places
    pub least : 2 * n ≤ suc places
    pub most : places < E + n

  -- of a rest R, not zero and at most half a step
  module _ (ok : Fine K) (R : ℕ) (R0 : 0 < R) (R1 : R ≤ 2 ^ (E - n)) where
    open ok use {some as P, room as F}

    abbrev W : ℕ
    W = 2 ^ (E - n)

    abbrev r : Rounded ℕ
    r = rounded rule n R (2 ^ E)

    abbrev l : ℕ
    l = rn rule n R 1

    bits : HasBits n r.significand
    bits = rounded_bits rule n P R (2 ^ E) R0 (pow_pos E)

    value : Equals r l (2 ^ E)
    value = rounded_whole rule n P R (2 ^ E) E R (pow_pos E) refl

    l_pos : 0 < l
    l_pos = rn_ge rule n P R 1 1 0 (omega arith) (pow_pos n) (omega arith)

    l_most : l ≤ W
    l_most = le_trans (rn_le rule n P R 1 (2 ^ n) (E - 2 * n) (omega arith) (le_of_eq refl) (omega (arith, R1, width_is ok))) (le_of_eq (sym (width_is ok)))

    -- s * 2 ^ E = l * 2 ^ (i + 1) bounds i on both sides
    module _ (i : ℕ) (v : r.significand * 1 * 2 ^ E ≡ l * 2 ^ suc i) where
      least : 2 * n ≤ suc (suc i)
      least =
          le_of_suc-le-suc (lt_of_not-le λ (y : suc (suc (suc i)) ≤ 2 * n).
          omega (
            arith,
            mul-le-mul_left W (pow_mono {i = suc (suc i)} {j = n - 1 + n} (omega arith)),
            mul-le-mul_right (2 ^ suc i) l_most,
            mul-le-mul_right (2 ^ E) bits.least,
            ap (λ (z : ℕ). 2 ^ (n - 1) * z) (top_is ok),
            ap (λ (z : ℕ). W * z) (pow-add 2 (n - 1) n),
            ap (λ (z : ℕ). W * z) (pow-succ' 2 (suc i)),
            mul-pos (pow_pos (E - n)) (pow_pos (suc i)),
          ))

      most : suc i < E + n
      most = lt_of_not-le λ (g : E + n ≤ suc i). omega (arith, pow_mono g, mul-le-mul_right (2 ^ suc i) l_pos, mul-lt-mul_of_pos_right bits.most (pow_pos E), pow-add 2 E n)

    pub low_form : LowForm l r
    low_form = of r.exponent refl
      where
        of : (e : ℤ) → r.exponent ≡ e → LowForm l r
        of (pos i) e =
            let v : r.significand * 2 ^ i * 2 ^ E ≡ l * 1 = rw e at value in
            let a : 1 ≤ r.significand * 2 ^ i = mul-pos (le_trans (pow_pos (n - 1)) bits.least) (pow_pos i) in
            absurd (omega (arith, mul-le-mul_right (2 ^ E) a, l_most, top_is ok, mul-le-mul_right W (pow_mono {i = 1} {j = n} P), pow_pos (E - n)))
        of (negsuc i) e =
            let v : r.significand * 1 * 2 ^ E ≡ l * 2 ^ suc i = rw e at value in
            record { places = suc i; exponent = e; bits = bits; value = omega arith; least = least i v; most = most i v }

  -- ---- what the kept form tells of a signed rest z
  pub record Tells (h : ℕ) (z : ℤ) (l : ℕ) (p : Parts) : Type 0 where
    pub high : p.high ≡ h
    pub sign : negative z ≡ negative p.low
    pub size : l ≡ nat_abs p.low * 2 ^ E / 2 ^ p.places
    pub value : nat_abs p.low * 2 ^ E ≡ l * 2 ^ p.places
    pub none : nat_abs z ≡ 0 → (p.low ≡ pos 0) × (p.places ≡ 0)
    pub some : 0 < nat_abs z → HasBits n (nat_abs p.low) × (2 * n ≤ suc p.places) × (p.places < E + n)

  module _ (ok : Fine K) (h : ℕ) where
    open ok use {some as P, room as F}

    -- a rest that is not zero
    telling : (z : ℤ) → 0 < nat_abs z → nat_abs z ≤ 2 ^ (E - n) → Tells h z (rn rule n (nat_abs z) 1) (parts_from K h z)
    unfolding parts_from
    telling z m w =
        let l = rn rule n (nat_abs z) 1 in
        let f = low_form ok (nat_abs z) m w in
        let s = size_of (negative z) (rounded rule n (nat_abs z) (2 ^ E)).significand in
        let q : (parts_from K h z).places ≡ f.places = ap nat_abs f.exponent ∙ size_of true f.places in
        let v : nat_abs (parts_from K h z).low * 2 ^ E ≡ l * 2 ^ (parts_from K h z).places = ap (λ (x : ℕ). x * 2 ^ E) s ∙ f.value ∙ ap (λ (x : ℕ). l * 2 ^ x) (sym q) in
        record {
          high = refl;
          sign = sym (sign_of (negative z) (rounded rule n (nat_abs z) (2 ^ E)).significand (le_trans (pow_pos (n - 1)) f.bits.least));
          size = sym (ap (λ (x : ℕ). x / 2 ^ (parts_from K h z).places) v ∙ mul-div_cancel l (pow_pos (parts_from K h z).places));
          value = v;
          none = λ y. absurd (omega arith);
          some = λ _. (rw s f.bits, rw q f.least, rw q f.most);
        }

    pub from_tells : (z : ℤ) → nat_abs z ≤ 2 ^ (E - n) → Tells h z (rn rule n (nat_abs z) 1) (parts_from K h z)
    unfolding parts_from rounded
    from_tells (pos zero) m =
        let l : rn rule n 0 1 ≡ 0 = rn_whole_small rule n P 0 (omega arith) in
        let z : 0 * 2 ^ E ≡ 0 = omega arith in
        record { high = refl; sign = refl; size = l ∙ sym (ap (λ (x : ℕ). x / 2 ^ 0) z); value = omega (arith, l); none = λ _. (refl, refl); some = λ y. absurd (omega arith) }
    from_tells (pos (suc k)) m = telling (pos (suc k)) (omega arith) m
    from_tells (negsuc k) m = telling (negsuc k) (omega arith) m
