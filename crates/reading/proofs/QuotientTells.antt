-- What an answer to a reading's division tells, for every factor and every reading (`divided_reading_answered`, `divided_reading_tells`): its sign is that of the standard's quotient, which of a zero is the whole answer (`zero_divided`), equal; any other is RN(x / Ch) with sign and exponent
-- put on, exactly; one division of the standard, of significands and of the reading itself by ± Ch * 2 ^ k, gives the same; it is less than 3/2 units in the last place from the reading / (± C * 2 ^ k) for every fraction C between the ends; and its direction tells how it lies as seen from x / Ch, sign and scale on. Assumes nothing.
use Rattle.std.specs.Prelude.{◌≡◌, refl, Bool, true, false, cond, ◌⊎◌, ℕ, ◌-◌, ◌*◌, ◌<◌, T, ℤ, neg_ℤ, ◌+ℤ◌, ◌-ℤ◌, Float}
use Rattle.std.proofs.Common.{sym, ap, ◌∙◌, subst, inl, inr, mul-pos, arith, pow_pos}
use Rattle.std.proofs.Math.Decide.{dec_lt}
use Rattle.std.proofs.Math.IntN.{+ℤ_assoc, +ℤ_comm}
use Rattle.std.specs.Float.{binary32}
use Rattle.std.specs.Float.Ieee.{prec, hid, to_bits, up, down, fits, div}
use Rattle.std.specs.Float.Ieee.Fits.{down_pos}
use Rattle.marks.specs.Answers.{NoneHolds, Outcome, refused, accepted}
use Rattle.marks.specs.AnswerLaws.{none_refuses}
use Rattle.rounding.specs.declared.Directed.{Directed}
use Rattle.rounding.specs.declared.Direction.TheVariants.{Equal}
use Rattle.rounding.specs.Direction.{signed_direction}
use Rattle.rounding.specs.Grid.{to_even}
use Rattle.rounding.specs.Round.{HasBits}
use Rattle.rounding.specs.Fraction.{Fraction, signed_as, RN, Same, scaled_as, Directs}
use Rattle.rounding.proofs.DirectedLaws.{directs_same, directs_scaled}
use Rattle.floats.specs.Fields.{zero_of, zero_bits, Normal, significand_of, exponent_of}
use Rattle.floats.proofs.Powers.{powers_add}
use Rattle.floats.proofs.Pattern.{significand_bits}
use Rattle.floats.proofs.NormalLaws.{number_at, number_some}
use Rattle.factor.specs.declared.Factor.{Factor}
use Rattle.factor.specs.SetUp.{intact, Sound}
use Rattle.factor.proofs.SetUpLaws.{intact_sound}
use Rattle.quotient.specs.declared.Quotient.{Quotient}
use Rattle.quotient.specs.Quotient.{by_high, quotient_by, direction_by, directed_by, signed_quotient, value_of}
use Rattle.quotient.specs.Tells.{Tells as TellsOf, sound_quotient}
use Rattle.reading.specs.Reading.{unreadable, sign_with, exponent_out, number_of, directed_number, conditions}
use Rattle.reading.specs.Divided.{quotient_exponent, quotient_of, divided_reading}
use Rattle.reading.proofs.Exponents.{let_through}
use Rattle.reading.proofs.ReadingLaws.{number_value, number_normal}
use Rattle.reading.proofs.AnswerLaws.{is_intact, precision_is, of_reading}
use Rattle.reading.specs.OneOperation.{Is, reading_at, dividing, OneOperation, signed_high, StandardSign}
use Rattle.reading.proofs.OneOperationLaws.{reading_is, divides, one_operation}
use Rattle.reading.proofs.SignLaws.{zero_sign, number_sign, zero_is_operation}

-- ---- what is said
-- RN(x / Ch) of the reading's significand
abbrev pub quotient_at : Factor → ℕ → Quotient
quotient_at f b = quotient_by f (significand_of binary32 b)

-- with sign and exponent put on: sign * RN(x / Ch) * 2 ^ (e - k)
abbrev pub answer_at : Factor → ℕ → Fraction
answer_at f b = let v = quotient_at f b in signed_as (sign_with f b) (number_at binary32 v.significand (quotient_exponent f b v))

-- the number with its direction, or a zero
abbrev pub numbered : Factor → ℕ → Directed Float
numbered f b = cond (zero_bits binary32 b) (quotient_of f b).of_zero (quotient_of f b).value

-- x / Ch with the same put on
abbrev pub last_at : Factor → ℕ → Fraction
last_at f b = scaled_as (sign_with f b) (exponent_of binary32 b -ℤ f.applied.scale) (by_high f.precision f.parts (significand_of binary32 b))

-- what the answer a to a reading with the bits b tells, unless it is a zero
pub record Tells (f : Factor) (b : ℕ) (a : Directed Float) : Type 0 where
  -- the reading is a normal number
  pub reading : (x : Float) → T (fits binary32 x) → to_bits binary32 x ≡ b → Is x (reading_at b)
  -- its number is sign * RN(x / Ch) * 2 ^ (e - k), exactly, and a normal number
  pub value : Is a.value (answer_at f b)
  pub normal : Normal binary32 (to_bits binary32 a.value)
  -- and one division of the standard: of x by Ch it is RN(x / Ch), and of the reading by ± Ch * 2 ^ k that number; it is less than 3/2 ulp from the reading / (± C * 2 ^ k) for every C between the ends
  pub division : OneOperation dividing f b (value_of (prec binary32) (quotient_at f b)) (answer_at f b) a.value
  -- its direction tells how it lies as seen from x / Ch
  pub directs : Directs a.direction (last_at f b) (answer_at f b)

-- of every answer: its sign is that of the standard's quotient, of a zero too, which is equal; a refusal tells nothing
abbrev pub AnswerTells : Factor → ℕ → Outcome (Directed Float) → Type 0
AnswerTells f b (refused k) = Unit {0}
AnswerTells f b (accepted a) = StandardSign dividing f b a.value × (((zero_bits binary32 b ≡ true) × (a.value ≡ zero_of (sign_with f b)) × (a.direction ≡ Equal)) ⊎ ((zero_bits binary32 b ≡ false) × Tells f b a))

-- ---- a reading that is let through, and not a zero
module _ (f : Factor) (b : ℕ) (h : NoneHolds (unreadable f b)) (nonzero : zero_bits binary32 b ≡ false) (o : exponent_out binary32 (quotient_exponent f b (quotient_at f b)) ≡ false) where
  abbrev X : ℕ
  X = significand_of binary32 b

  abbrev e : ℤ
  e = exponent_of binary32 b

  abbrev k : ℤ
  k = f.applied.scale

  abbrev u : Quotient
  u = quotient_at f b

  abbrev c : ℤ
  c = quotient_exponent f b u

  abbrev y : Float
  y = number_of binary32 (sign_with f b) u.significand c

  sound : Sound f
  sound = intact_sound f (is_intact f b h)

  bits_are : f.precision ≡ prec binary32
  bits_are = precision_is f b h

  -- of its size
  told : TellsOf f X (signed_quotient false (directed_by f X))
  told = sound_quotient f sound X (subst (λ (m : ℕ). HasBits m X) (sym bits_are) (significand_bits binary32 b)) false

  u_bits : HasBits (prec binary32) u.significand
  u_bits = subst (λ (m : ℕ). HasBits m u.significand) bits_are told.bits

  -- the exponent of a quotient of significands is one of the format
  significand_in : exponent_out binary32 u.binade ≡ false
  significand_in = go (dec_lt X f.parts.high)
    where
      go : Dec (X < f.parts.high) → exponent_out binary32 u.binade ≡ false
      go (yes l) = rw (told.below_one l)
      go (no l) = rw (told.from_one (omega arith))

  turned : c ≡ e -ℤ k +ℤ u.binade
  turned = ap (λ (z : ℤ). e +ℤ z) (+ℤ_comm u.binade (neg_ℤ k)) ∙ sym (+ℤ_assoc e (neg_ℤ k) u.binade)

  division : OneOperation dividing f b (value_of (prec binary32) u) (answer_at f b) y
  division =
      let S = u.significand in
      let z = u.binade in
      let q = RN to_even (prec binary32) (by_high (prec binary32) f.parts X) in
      let rounds = subst (λ (m : ℕ). Same (RN to_even m (by_high m f.parts X)) (value_of m u)) bits_are (told.value to_even) in
      one_operation f sound bits_are dividing divides b S z c (turn q.num q.den S (up z) (down z) (hid binary32) rounds.1) turned u_bits significand_in o
      (value_of (prec binary32) u) (answer_at f b) (refl, swap S (up z) (down z) (hid binary32)) (number_some binary32 c) (refl, refl)
    where
      turn : (N D S a c H : ℕ) → N * (c * H) ≡ a * S * D → N * (H * c) ≡ S * a * D
      turn N D S a c H e = omega (arith, e)

      swap : (S a c H : ℕ) → S * a * (c * H) ≡ a * S * (H * c)
      swap S a c H = omega arith

  -- sign and scale put on RN(x / Ch), as they are put on x / Ch
  direct : Directs (signed_direction (sign_with f b) (direction_by f X)) (last_at f b) (answer_at f b)
  direct =
      let w = value_of (prec binary32) u in
      let x = by_high f.precision f.parts X in
      let s = sign_with f b in
      directs_same (signed_direction s (direction_by f X)) (last_at f b) (scaled_as s (e -ℤ k) w)
      (directs_scaled (direction_by f X) x w (subst (λ (m : ℕ). Directs (direction_by f X) x (value_of m u)) bits_are told.directs) s refl refl (e -ℤ k))
      (answer_at f b) refl (mul-pos (mul-pos (down_pos u.binade) (pow_pos (prec binary32 - 1))) (down_pos (e -ℤ k))) (number_some binary32 c)
      (refl, subst (λ (c : ℤ). w.num * up (e -ℤ k) * (hid binary32 * down c) ≡ u.significand * up c * (w.den * down (e -ℤ k))) (sym turned) (omega (arith, ap (λ (t : ℕ). t * (u.significand * hid binary32)) (powers_add (e -ℤ k) u.binade))))

  tells : Tells f b (directed_number (sign_with f b) u.significand c (direction_by f X))
  tells =
      let t = let_through binary32 c o in
      record {
        reading = reading_is f b h nonzero;
        value = number_value binary32 (sign_with f b) u.significand c u_bits t.0 t.1 t.2 t.3;
        normal = number_normal binary32 (sign_with f b) u.significand c u_bits t.0 t.1 t.2 t.3;
        division = division;
        directs = direct;
      }

-- every answer to a reading tells the truth, whatever the factor and the reading
pub divided_reading_tells : (f : Factor) (x : Float) → AnswerTells f (to_bits binary32 x) (divided_reading f x)
unfolding divided_reading
divided_reading_tells f x = let b = to_bits binary32 x in of_reading (AnswerTells f b) f b (quotient_of f b) (λ k. tt)
    (λ h z. (zero_sign dividing divides f b h, inl (z, refl, refl)))
    (λ h z o. (let v = quotient_at f b in number_sign dividing divides f b h z v.significand (quotient_exponent f b v), inr (z, tells f b h z o)))

-- and a reading that none of 31 and 20 to 23 refuses is answered, with a zero or the number
pub divided_reading_answered : (f : Factor) (x : Float) → let b = to_bits binary32 x in NoneHolds (conditions f b (quotient_of f b).exponent) → divided_reading f x ≡ accepted (numbered f b)
unfolding divided_reading
divided_reading_answered f x h = let b = to_bits binary32 x in none_refuses (conditions f b (quotient_of f b).exponent) (numbered f b) h

-- a zero of either sign is answered, equal, with the standard's quotient of it by the stored high part with the factor's sign, which as every f32 fits the format
pub zero_divided : (f : Factor) → intact f ≡ true → f.precision ≡ prec binary32 → T (fits binary32 f.applied.high) → (s : Bool) → divided_reading f (zero_of s) ≡ accepted (record { value = div binary32 (zero_of s) (signed_high f); direction = Equal })
unfolding divided_reading
zero_divided f i n h s = zero_is_operation dividing divides f i n h s (quotient_of f (to_bits binary32 (zero_of s))) (λ y. record { value = y; direction = Equal }) refl
