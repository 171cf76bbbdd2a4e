-- Laws: the sign of an answer is the one that the standard's operation gives the reading and any number with the factor's sign, and a zero is answered with what it gives. Assumes nothing.
use Rattle.std.specs.Prelude.{◌≡◌, refl, Bool, true, false, not, cond, ℕ, ◌*◌, ◌^◌, ◌<◌, T, ℤ, Float}
use Rattle.std.proofs.Common.{sym, ap, ap₂, ◌∙◌, subst, true≢false, pow_pos, eq-eqb}
use Rattle.std.specs.Float.Ieee.{binary32, prec, low, hid, unlike, up, down, neg, to_bits, fits}
use Rattle.std.specs.Float.Ieee.Exact.{HasValue}
use Rattle.marks.specs.Answers.{NoneHolds, accepted}
use Rattle.rounding.specs.Fraction.{Fraction, signed_as}
use Rattle.floats.specs.Fields.{zero_of, is_sign_minus, sign_of, zero_bits, exponent_of}
use Rattle.floats.proofs.Signs.{round_keeps, round_zero, neg_value}
use Rattle.floats.proofs.Classes.{zero_value}
use Rattle.floats.proofs.NormalLaws.{number_some}
use Rattle.factor.specs.declared.Factor.{Factor}
use Rattle.factor.specs.Ends.{signed_by}
use Rattle.factor.specs.SetUp.{float_in, intact, Sound}
use Rattle.factor.proofs.SetUpLaws.{intact_sound}
use Rattle.factor.proofs.StoredLaws.{high_number}
use Rattle.product.proofs.SoundLaws.{sound_high_positive}
use Rattle.product.specs.Product.{high}
use Rattle.reading.specs.Reading.{unreadable, sign_with, number_of, Made, answer_to}
use Rattle.reading.proofs.AnswerLaws.{is_intact, precision_is, zeros_answered}
use Rattle.reading.specs.OneOperation.{Is, reading_at, applied_high, Operation, signed_high, LikeFactor, StandardSign}
use Rattle.reading.proofs.OneOperationLaws.{Lawful, reading_is, sized_positive, applied_held}

module _ (o : Operation) (lawful : Lawful o) (f : Factor) (b : ℕ) (h : NoneHolds (unreadable f b)) where
  -- a zero as a number, with the reading's sign
  abbrev zero_number : Fraction
  zero_number = record { minus = sign_of binary32 b; num = 0; den = 2 ^ low binary32 }

  -- the reading's value has its sign, whether it is a zero or not
  record Valued (x : Float) : Type 0 where
    p : Fraction
    is : Is x p
    sign : p.minus ≡ sign_of binary32 b
    some : 0 < p.den

  is_zero : zero_bits binary32 b ≡ true → (x : Float) → T (fits binary32 x) → to_bits binary32 x ≡ b → Is x zero_number
  is_zero z x fit e = subst (λ (c : ℕ). HasValue x (sign_of binary32 c) 0 (2 ^ low binary32)) e (zero_value binary32 x fit (ap (zero_bits binary32) e ∙ z))

  valued : (x : Float) → T (fits binary32 x) → to_bits binary32 x ≡ b → Valued x
  valued x fit e = go (zero_bits binary32 b) refl
    where
      go : (z : Bool) → zero_bits binary32 b ≡ z → Valued x
      go true z = record { p = zero_number; is = is_zero z x fit e; sign = refl; some = pow_pos (low binary32) }
      go false z = record { p = reading_at b; is = reading_is f b h z x fit e; sign = refl; some = number_some binary32 (exponent_of binary32 b) }

  -- the sign of the exact value, before it is rounded
  exact_sign : (p c : Fraction) → p.minus ≡ sign_of binary32 b → c.minus ≡ f.minus → (o.exactly p c).minus ≡ sign_with f b
  exact_sign p c s t = ap (λ (q : Fraction). q.minus) (lawful.signs p.minus c.minus p c) ∙ ap₂ unlike s t

  operation_sign : (x g : Float) → T (fits binary32 x) → to_bits binary32 x ≡ b → LikeFactor f g → is_sign_minus (o.in_format x g) ≡ sign_with f b
  operation_sign x g fit e l =
      let v = valued x fit e in
      let c = l.value in
      ap is_sign_minus (lawful.value x g v.p c v.some l.above l.some v.is l.is) ∙ round_keeps binary32 _ _ _ ∙ exact_sign v.p c v.sign l.sign

  operation_zero : zero_bits binary32 b ≡ true → (x g : Float) → T (fits binary32 x) → to_bits binary32 x ≡ b → LikeFactor f g → o.in_format x g ≡ zero_of (sign_with f b)
  operation_zero z x g fit e l =
      let c = l.value in
      let low_some = pow_pos (low binary32) in
      let t = lawful.zero zero_number c low_some l.above l.some refl in
      lawful.value x g zero_number c low_some l.above l.some (is_zero z x fit e) l.is ∙ round_zero binary32 _ _ _ t.0 t.1 ∙ ap zero_of (exact_sign zero_number c refl l.sign)

  -- ---- the numbers of a factor that have its sign
  sound : Sound f
  sound = intact_sound f (is_intact f b h)

  -- the stored high part, with a sign put on it
  with_sign_lem : (m : Bool) (g : Float) (c : Fraction) → Is g (signed_as false c) → Is (cond m (neg g) g) (signed_as m c)
  with_sign_lem true g c i = neg_value g false c.num c.den i
  with_sign_lem false g c i = i

  stored : T (fits binary32 f.applied.high) → LikeFactor f (signed_high f)
  stored i =
      let C = sound_high_positive f sound in
      let c = high f.precision f.parts in
      record { value = signed_by f c; is = with_sign_lem f.minus f.applied.high c (high_number f sound i); sign = refl; above = C.above; some = C.some }

  scaled : LikeFactor f (float_in binary32 (applied_high f))
  scaled =
      let n = precision_is f b h in
      let C = sized_positive f sound n in
      record { value = applied_high f; is = applied_held f sound n; sign = refl; above = C.above; some = C.some }

  standard_sign : (y : Float) → is_sign_minus y ≡ sign_with f b → (zero_bits binary32 b ≡ true → y ≡ zero_of (sign_with f b)) → StandardSign o f b y
  standard_sign y s z = record { sign = λ x g fit e l. s ∙ sym (operation_sign x g fit e l); zero = λ t x g fit e l. z t ∙ sym (operation_zero t x g fit e l); stored = stored; scaled = scaled }

  -- of a zero, and of any other reading with a significand and an exponent put on
  pub zero_sign : StandardSign o f b (zero_of (sign_with f b))
  zero_sign = standard_sign (zero_of (sign_with f b)) refl (λ z. refl)

  pub number_sign : zero_bits binary32 b ≡ false → (S : ℕ) (e : ℤ) → StandardSign o f b (number_of binary32 (sign_with f b) S e)
  unfolding number_of
  number_sign nonzero S e = standard_sign (number_of binary32 (sign_with f b) S e) (round_keeps binary32 (sign_with f b) (S * up e) (hid binary32 * down e)) (λ z. absurd (true≢false (sym z ∙ nonzero)))

-- ---- the zero of either sign as a reading, with an intact factor of the format's precision
zero_bits_lem : (s : Bool) → zero_bits binary32 (to_bits binary32 (zero_of s)) ≡ true
unfolding to_bits
zero_bits_lem true = refl
zero_bits_lem false = refl

zero_fits : (s : Bool) → T (fits binary32 (zero_of s))
unfolding fits
zero_fits s = tt

zero_through : (f : Factor) → intact f ≡ true → f.precision ≡ prec binary32 → (s : Bool) → NoneHolds (unreadable f (to_bits binary32 (zero_of s)))
unfolding to_bits
zero_through f i n true = (ap not i, (ap not (eq-eqb _ _ n), (refl, (refl, tt))))
zero_through f i n false = (ap not i, (ap not (eq-eqb _ _ n), (refl, (refl, tt))))

-- where g of a zero with the answer's sign is made of it, it is answered with g of what the operation gives it and the stored high part with the factor's sign
pub zero_is_operation : {A : Type 0} (o : Operation) → Lawful o → (f : Factor) → intact f ≡ true → f.precision ≡ prec binary32 → T (fits binary32 f.applied.high) → (s : Bool) (m : Made A) (g : Float → A)
    → m.of_zero ≡ g (zero_of (sign_with f (to_bits binary32 (zero_of s)))) → answer_to f (to_bits binary32 (zero_of s)) m ≡ accepted (g (o.in_format (zero_of s) (signed_high f)))
zero_is_operation o lawful f i n high_fits s m g e =
    let b = to_bits binary32 (zero_of s) in
    let h = zero_through f i n s in
    let z = zero_bits_lem s in
    let t = zero_sign o lawful f b h in
    sym (zeros_answered f b h m z) ∙ ap accepted (e ∙ ap g (t.zero z (zero_of s) (signed_high f) (zero_fits s) refl (t.stored high_fits)))
