-- The parts as floats: those that are stored have exactly the values Ch and Cl. Over a format and a context. Assumes nothing.
use Rattle.std.specs.Prelude.{◌≡◌, refl, Bool, true, false, not, ℕ, ◌-◌, ◌*◌, ◌^◌, ◌<◌, T, ℤ, nat_abs, Float}
use Rattle.std.proofs.Common.{sym, ap, ◌∙◌, subst, inl, inr, eq-zero-or-pos, le_of_lt, arith, pow_pos}
use Rattle.std.proofs.Math.Nat.{eq_of_mul-eq-mul_right}
use Rattle.std.specs.Float.Ieee
use Rattle.std.specs.Float.{Format}
use Rattle.std.specs.Float.Ieee.{binary32, is_nan, fits}
use Rattle.std.specs.Float.Ieee.Exact.{HasValue}
use Rattle.std.specs.Float.Ieee.Fits.{round-fits}
use Rattle.std.specs.Float.Ieee.Scale.{round_same}
use Rattle.marks.specs.Answers.{accepted}
use Rattle.rounding.specs.Fraction.{Fraction}
use Rattle.rounding.proofs.Ieee.{revalue}
use Rattle.rounding.specs.Signed.{negative}
use Rattle.floats.proofs.Narrow.{stored_exactly}
use Rattle.floats.proofs.Numbers.{value_number, same_number, same_bits}
use Rattle.factor.specs.declared.Parts.{Parts}
use Rattle.factor.specs.declared.Description.{Description}
use Rattle.factor.specs.declared.Factor.{Factor}
use Rattle.factor.specs.Precision.{ValidPrecision}
use Rattle.factor.specs.Context.{Context, Fine, context_at, context_for, context_of, lower_of}
use Rattle.factor.proofs.ContextLaws.{fine_at}
use Rattle.factor.specs.Parts.{high_part, low_part, parts_at}
use Rattle.factor.specs.Ends.{End}
use Rattle.factor.proofs.LowForm.{Tells}
use Rattle.factor.proofs.PartsLaws.{high_in_units, high_count, high_is, high_least, high_most, low_in_units, low_kept, low_tells, units_of_parts}
use Rattle.factor.specs.SetUp.{float_in, applied_of, factor_of, set_up, described, intact, Sound}
use Rattle.factor.specs.Stored.{high_from, low_from, applied_from, LowStorable, Storable, Held}
use Rattle.factor.proofs.SetUpLaws.{applied_is, set_up_sound, intact_accepted, intact_sound}

module _ (K : Context) (ok : Fine K) (c : ℕ) (ce : End K c) where
  open K use {n, E}

  abbrev p : Parts
  p = parts_at K c

  -- Ch is the high significand over 2 ^ (n - 1)
  pub high_over : (high_part K c).num * 2 ^ (n - 1) ≡ p.high * (high_part K c).den
  high_over = high_count K ok c ce ∙ ap (λ (z : ℕ). z * (high_part K c).den) (sym (high_is K ok c ce))

  -- Cl is s over 2 ^ places
  pub low_over : (low_part K c).num * 2 ^ p.places ≡ nat_abs p.low * (low_part K c).den
  low_over =
      let x = low_part K c in
      let k = low_in_units K ok c ce in
      eq_of_mul-eq-mul_right (2 ^ E) (pow_pos E) (x.num * 2 ^ p.places) (nat_abs p.low * x.den)
      (omega (arith, ap (λ (z : ℕ). z * 2 ^ p.places) k.count, ap (λ (z : ℕ). z * x.den) (low_kept K ok c ce)))

  pub low_sign : (low_part K c).minus ≡ negative p.low
  low_sign = (low_in_units K ok c ce).sign ∙ ap (λ w. w.minus) (units_of_parts K ok c ce)

  pub storable : Storable K p
  storable = let h = high_is K ok c ce in record { least = rw h (high_least K ok c ce); most = rw h (high_most K ok c ce); low = low (low_tells K ok c ce) }
    where
      low : {h l : ℕ} {z : ℤ} → Tells K h z l p → LowStorable K p.low p.places
      low {z = z} t = elim (eq-zero-or-pos (nat_abs z)) [
        | inl y ↦
            let e = t.none y in
            record { none = λ _. e; some = λ m. absurd (omega (arith, ap nat_abs e.0)); deep = λ m. absurd (omega (arith, ap nat_abs e.0)); shallow = omega (arith, e.1) }
        | inr y ↦
            let b = t.some y in
            record { none = λ e. absurd (omega (arith, b.0.least, pow_pos (n - 1))); some = λ _. b.0; deep = λ _. omega (arith, b.1); shallow = b.2 }
      ]

pub valid_held : {n : ℕ} → ValidPrecision n → Held binary32 (context_at n)
valid_held N = record { short = N.most; near = omega (arith, N.scale) }

module _ (f : Format) (K : Context) (ok : Fine K) (held : Held f K) where
  open K use {n}

  -- the floats have the values of the kept parts
  module _ (p : Parts) (st : Storable K p) where
    high_held : HasValue (high_from f n p) false p.high (2 ^ (n - 1))
    high_held = stored_exactly f n ok.some held.short false p.high (2 ^ (n - 1)) p.high (n - 1) (pow_pos (n - 1)) st.most (omega arith) (omega (arith, held.near)) refl

    pub low_held : HasValue (low_from f p) (negative p.low) (nat_abs p.low) (2 ^ p.places)
    low_held = elim (eq-zero-or-pos (nat_abs p.low)) [
      | inl none ↦
          stored_exactly f n ok.some held.short (negative p.low) (nat_abs p.low) (2 ^ p.places) 0 n (pow_pos p.places) (omega arith) (omega arith) (omega (arith, ok.some, ok.room, held.near)) (omega (arith, ap (λ (m : ℕ). m * 2 ^ n) none))
      | inr some ↦
          stored_exactly f n ok.some held.short (negative p.low) (nat_abs p.low) (2 ^ p.places) (nat_abs p.low) p.places (pow_pos p.places) (le_of_lt (st.low.some some).most) (st.low.deep some) (omega (arith, st.low.shallow, held.near)) refl
    ]

  -- the float of a fraction that is m / 2 ^ q, and its value where m / 2 ^ q is stored exactly
  module _ (x : Fraction) (s : Bool) (m q : ℕ) (some : 0 < x.den) (sign : x.minus ≡ s) (same : x.num * 2 ^ q ≡ m * x.den) where
    float_over : float_in f x ≡ Ieee.round f s m (2 ^ q)
    float_over = ap (λ (b : Bool). Ieee.round f b x.num x.den) sign ∙ round_same f s x.num x.den m (2 ^ q) some (pow_pos q) same

    value_over : HasValue (Ieee.round f s m (2 ^ q)) s m (2 ^ q) → HasValue (float_in f x) x.minus x.num x.den
    value_over v = rw (float_over, sign) (revalue (Ieee.round f s m (2 ^ q)) s m (2 ^ q) x.num x.den (pow_pos q) (sym same) v)

  -- and are those of Ch and Cl, with exactly their values
  module _ (c : ℕ) (ce : End K c) where
    abbrev h : Fraction
    h = high_part K c

    abbrev l : Fraction
    l = low_part K c

    pub high_from_lem : float_in f h ≡ high_from f n (parts_at K c)
    high_from_lem = let k = high_in_units K ok c ce in float_over h false (parts_at K c).high (n - 1) k.some k.sign (high_over K ok c ce)

    pub low_from_lem : float_in f l ≡ low_from f (parts_at K c)
    low_from_lem = let p = parts_at K c in float_over l (negative p.low) (nat_abs p.low) p.places (low_in_units K ok c ce).some (low_sign K ok c ce) (low_over K ok c ce)

    pub stored_high : HasValue (float_in f h) false h.num h.den
    stored_high =
        let p = parts_at K c in
        let k = high_in_units K ok c ce in
        rw k.sign at (value_over h false p.high (n - 1) k.some k.sign (high_over K ok c ce) (high_held p (storable K ok c ce)))

    pub stored_low : HasValue (float_in f l) l.minus l.num l.den
    stored_low =
        let p = parts_at K c in
        value_over l (negative p.low) (nat_abs p.low) p.places (low_in_units K ok c ce).some (low_sign K ok c ce) (low_over K ok c ce) (low_held p (storable K ok c ce))

-- ---- what set-up stores
pub applied_from_lem : (d : Description) → ValidPrecision d.precision → End (context_for d) d.lower → applied_of d ≡ applied_from d.precision d.scale (parts_at (context_for d) d.lower)
applied_from_lem d N ce = applied_is d ∙ λ i. record { high = high_from_lem binary32 (context_for d) (fine_at N) (valid_held N) d.lower ce i; low = low_from_lem binary32 (context_for d) (fine_at N) (valid_held N) d.lower ce i; scale = d.scale }

-- they are numbers
pub accepted_numbers : (d : Description) (f : Factor) → set_up d ≡ accepted f → T (not (is_nan f.applied.high)) × T (not (is_nan f.applied.low))
accepted_numbers d f e =
    let t = set_up_sound d f e in
    let K = context_for d in
    let fine = fine_at t.1.precision in
    let held = valid_held t.1.precision in
    subst (λ (g : Factor). T (not (is_nan g.applied.high)) × T (not (is_nan g.applied.low))) t.0
    (rw applied_is (value_number _ _ _ _ (stored_high binary32 K fine held d.lower t.1.lower_end), value_number _ _ _ _ (stored_low binary32 K fine held d.lower t.1.lower_end)))

-- so 31 refuses a factor that stores a NaN
pub intact_numbers : (f : Factor) → intact f ≡ true → T (not (is_nan f.applied.high)) × T (not (is_nan f.applied.low))
intact_numbers f e =
    let s = intact_sound f e in
    let d = described f in
    let h = high_part (context_for d) d.lower in
    let l = low_part (context_for d) d.lower in
    let n = rw applied_is at (accepted_numbers d (factor_of d) (intact_accepted f e).0) in (
      same_number binary32 f.applied.high (float_in binary32 h) (round-fits binary32 h.minus h.num h.den) (rw applied_is at s.high_stored) n.0,
      same_number binary32 f.applied.low (float_in binary32 l) (round-fits binary32 l.minus l.num l.den) (rw applied_is at s.low_stored) n.1,
    )

-- ---- what a sound factor stores, in floats of the format: exactly Ch and Cl
module _ (f : Factor) (s : Sound f) where
  storable_parts : Storable (context_of f) f.parts
  storable_parts = subst (Storable (context_of f)) (sym s.parts) (storable (context_of f) (fine_at s.precision) (lower_of f) s.lower_end)

  pub high_number : T (fits binary32 f.applied.high) → HasValue f.applied.high false f.parts.high (2 ^ (f.precision - 1))
  high_number h =
      let K = context_of f in
      let ok = fine_at s.precision in
      let held = valid_held s.precision in
      let x = high_part K (lower_of f) in
      let is = same_bits binary32 f.applied.high (float_in binary32 x) h (round-fits binary32 x.minus x.num x.den) (rw applied_is at s.high_stored) ∙ high_from_lem binary32 K ok held (lower_of f) s.lower_end ∙ ap (high_from binary32 K.n) (sym s.parts) in
      subst (λ (z : Float). HasValue z false f.parts.high (2 ^ (f.precision - 1))) (sym is) (high_held binary32 K ok held f.parts storable_parts)

  pub low_number : T (fits binary32 f.applied.low) → HasValue f.applied.low (negative f.parts.low) (nat_abs f.parts.low) (2 ^ f.parts.places)
  low_number h =
      let K = context_of f in
      let ok = fine_at s.precision in
      let held = valid_held s.precision in
      let x = low_part K (lower_of f) in
      let is = same_bits binary32 f.applied.low (float_in binary32 x) h (round-fits binary32 x.minus x.num x.den) (rw applied_is at s.low_stored) ∙ low_from_lem binary32 K ok held (lower_of f) s.lower_end ∙ ap (low_from binary32) (sym s.parts) in
      subst (λ (z : Float). HasValue z (negative f.parts.low) (nat_abs f.parts.low) (2 ^ f.parts.places)) (sym is) (low_held binary32 K ok held f.parts storable_parts)

-- and what set-up stores are floats of the format
pub accepted_fits : (d : Description) (f : Factor) → set_up d ≡ accepted f → T (fits binary32 f.applied.high) × T (fits binary32 f.applied.low)
accepted_fits d f e =
    let h = high_part (context_for d) d.lower in
    let l = low_part (context_for d) d.lower in
    subst (λ (g : Factor). T (fits binary32 g.applied.high) × T (fits binary32 g.applied.low)) (set_up_sound d f e).0
    (rw applied_is (round-fits binary32 h.minus h.num h.den, round-fits binary32 l.minus l.num l.den))
