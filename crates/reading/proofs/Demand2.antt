-- What the mark of a reading's answer tells (`reading_answered`, `reading_tells`), for every device, factor and reading: the answer is the device's product with sign and exponent put on, exactly, and its
-- mark tells of every fraction C between the ends whether C * 2 ^ k, with the factor's sign, times the reading rounds to it; its sign is that of the standard's product, which of a zero is the whole answer (`zero_multiplied`); its direction
-- tells how it lies as seen from what the device rounded last, sign and scale on. Assumes nothing.
use Rattle.std.specs.Prelude.{◌≡◌, refl, Bool, true, false, cond, ◌⊎◌, ℕ, ◌+◌, ◌-◌, ◌*◌, ◌^◌, ◌<◌, T, ℤ, pos, ◌+ℤ◌, Float}
use Rattle.std.proofs.Common.{sym, ap, subst, inl, inr, mul-pos, le_trans, arith, pow_pos}
use Rattle.std.proofs.Math.Nat.{eq_of_mul-eq-mul_right}
use Rattle.std.proofs.Math.IntN.{+ℤ_assoc}
use Rattle.std.specs.Float.{binary32}
use Rattle.std.specs.Float.Ieee.{prec, emax, hid, to_bits, up, down, unlike, fits, mul}
use Rattle.std.specs.Float.Ieee.Exact.{HasValue}
use Rattle.std.specs.Float.Ieee.Fits.{up_pos, down_pos, two, two-le_pos}
use Rattle.marks.specs.declared.Mark.{Mark}
use Rattle.marks.specs.declared.Marked.{Marked}
use Rattle.marks.specs.Answers.{NoneHolds, Outcome, refused, accepted}
use Rattle.marks.specs.AnswerLaws.{none_refuses}
use Rattle.marks.specs.Says.{Says}
use Rattle.marks.specs.SaysLaws.{says_alike}
use Rattle.rounding.specs.declared.Directed.{Directed}
use Rattle.rounding.specs.declared.Direction.TheVariants.{Equal}
use Rattle.rounding.specs.Direction.{signed_direction}
use Rattle.rounding.specs.Grid.{to_even}
use Rattle.rounding.specs.Round.{HasBits}
use Rattle.rounding.specs.Fraction.{Fraction, times, RN, Same, scaled_as, Directs}
use Rattle.rounding.proofs.FractionLaws.{RN_some, Scaled, RN_scaled, same_scaled, unlike_comm}
use Rattle.rounding.proofs.DirectedLaws.{directs_scaled}
use Rattle.rounding.proofs.Ieee.{revalue, one_value}
use Rattle.floats.specs.Fields.{zero_of, sign_of, zero_bits, Normal, significand_of, exponent_of}
use Rattle.floats.proofs.Powers.{powers_add}
use Rattle.floats.proofs.Pattern.{significand_bits}
use Rattle.floats.proofs.Times.{times_scaled}
use Rattle.floats.proofs.NormalLaws.{number_at, number_some}
use Rattle.factor.specs.declared.Factor.{Factor}
use Rattle.factor.specs.Context.{tie_rule, context_of, lower_of, upper_of}
use Rattle.factor.proofs.Accepted.{between_positive}
use Rattle.factor.specs.Ends.{Between}
use Rattle.factor.specs.SetUp.{intact, Sound}
use Rattle.factor.proofs.SetUpLaws.{intact_sound}
use Rattle.product.specs.declared.Device.{Device}
use Rattle.product.specs.declared.Product.{Product}
use Rattle.product.specs.Product.{argument, value_of}
use Rattle.product.specs.Marks.{Gives, mark_by}
use Rattle.product.specs.OneStep.{by_high, one_step_by}
use Rattle.product.specs.Devices.{last_on, direction_on}
use Rattle.product.specs.Answer.{marked}
use Rattle.product.proofs.DeviceLaws.{formed}
use Rattle.product.proofs.OneStepTells.{sound_value}
use Rattle.product.proofs.Demand2.{mark_tells, mark_alone}
use Rattle.product.proofs.DirectionTells.{last_plus, sound_directs}
use Rattle.reading.specs.Reading.{unreadable, sign_with, exponent_out, number_of, conditions, product_exponent, put_on, product_of, product_at, directed_at, applied}
use Rattle.reading.proofs.Exponents.{let_through, out_none}
use Rattle.reading.proofs.ReadingLaws.{number_value, number_normal}
use Rattle.reading.proofs.AnswerLaws.{is_intact, precision_is, of_reading}
use Rattle.reading.proofs.Standard.{StoredSteps, stored_steps}
use Rattle.reading.specs.OneOperation.{Is, reading_at, scaled_by, multiplying, OneOperation, signed_high, StandardSign}
use Rattle.reading.proofs.OneOperationLaws.{reading_is, multiplies, one_operation}
use Rattle.reading.proofs.SignLaws.{zero_sign, number_sign, zero_is_operation}

-- ---- what is said
-- a reading's exponent plus k
abbrev pub scaled : Factor → ℕ → ℤ
scaled f b = exponent_of binary32 b +ℤ f.applied.scale

-- the factor, with C for its size, times the reading: ± C * 2 ^ k times it
abbrev pub exact : Factor → ℕ → Fraction → Fraction
exact f b C = times (scaled_by f C) (reading_at b)

-- rounded as a binary32 number with unbounded exponents it is y
abbrev pub GivesNumber : Factor → ℕ → Float → Fraction → Type 0
GivesNumber f b y C = Is y (RN (context_of f).rule (prec binary32) (exact f b C))

-- what a mark says of y and every fraction between the ends
abbrev pub SaysOf : Factor → ℕ → Float → Mark → Type 0
SaysOf f b y m = Says (Between (context_of f) (lower_of f) (upper_of f)) (GivesNumber f b y) m

-- the number with its mark and its direction, or a zero, right
abbrev pub numbered : Device → Factor → ℕ → Marked (Directed Float)
numbered d f b = let m = product_of f b (directed_at d f b) in cond (zero_bits binary32 b) m.of_zero m.value

-- sign * value * 2 ^ (e + k)
abbrev pub answer_at : Device → Factor → ℕ → Fraction
answer_at d f b = let v = product_at d f b in record { minus = sign_with f b; num = v.significand * 2 ^ v.binade * up (scaled f b); den = hid binary32 * down (scaled f b) }

-- what the device rounded last, Ch * x + u1 or Ch * x, with the same put on
abbrev pub last_at : Device → Factor → ℕ → Fraction
last_at d f b = scaled_as (sign_with f b) (scaled f b) (last_on d f (significand_of binary32 b))

-- what is a device's own: both steps of the two-step device are those of the reading's significand and of the stored parts' own values; the one-step device's answer is one multiplication of the standard
abbrev pub Own : Device → Factor → ℕ → Float → Type 0
Own Device.TwoStep f b y =
    T (fits binary32 f.applied.high) → T (fits binary32 f.applied.low) → (x : Float) → HasValue x false (significand_of binary32 b) (hid binary32) → StoredSteps f (significand_of binary32 b) x
Own Device.OneStep f b y = OneOperation multiplying f b (value_of (prec binary32) (product_at Device.OneStep f b)) (answer_at Device.OneStep f b) y

-- what the answer a to a reading with the bits b tells, unless it is a zero
pub record Tells (d : Device) (f : Factor) (b : ℕ) (a : Marked (Directed Float)) : Type 0 where
  -- the reading is a normal number
  pub reading : (x : Float) → T (fits binary32 x) → to_bits binary32 x ≡ b → Is x (reading_at b)
  -- the answer is sign * value * 2 ^ (e + k), exactly, and a normal number
  pub value : Is a.value.value (answer_at d f b)
  pub normal : Normal binary32 (to_bits binary32 a.value.value)
  -- its mark says what is true of every fraction between the ends, sign and scale on, and no other mark does
  pub says : SaysOf f b a.value.value a.mark
  pub alone : (m : Mark) → SaysOf f b a.value.value m → a.mark ≡ m
  -- and it has what is its device's own
  pub own : Own d f b a.value.value
  -- its direction tells how it lies as seen from what was rounded last
  pub directs : Directs a.value.direction (last_at d f b) (answer_at d f b)

-- of every answer: its sign is that of the standard's product, of a zero too, which is marked right and equal; a refusal tells nothing
abbrev pub AnswerTells : Device → Factor → ℕ → Outcome (Marked (Directed Float)) → Type 0
AnswerTells d f b (refused k) = Unit {0}
AnswerTells d f b (accepted a) = StandardSign multiplying f b a.value.value × (((zero_bits binary32 b ≡ true) × (a.mark ≡ Mark.Right) × (a.value.value ≡ zero_of (sign_with f b)) × (a.value.direction ≡ Equal)) ⊎ ((zero_bits binary32 b ≡ false) × Tells d f b a))

-- ---- sign and scale change nothing of what a mark says
module _ (f : Factor) (b : ℕ) (v : Product) (y : Float) (is : HasValue y (sign_with f b) (v.significand * 2 ^ v.binade * up (scaled f b)) (hid binary32 * down (scaled f b))) (C : Fraction) (positive : 0 < C.num) (some : 0 < C.den) (sign : C.minus ≡ false) where
  abbrev z : ℤ
  z = scaled f b

  -- C * x rounded, and C * 2 ^ k times the reading rounded
  abbrev r : Fraction
  r = RN (context_of f).rule (prec binary32) (times C (argument (prec binary32) (significand_of binary32 b)))

  abbrev q : Fraction
  q = RN (context_of f).rule (prec binary32) (exact f b C)

  along : Scaled z r q
  along =
      let e = exponent_of binary32 b in
      let k = f.applied.scale in
      RN_scaled (context_of f).rule (prec binary32) (two-le_pos (prec binary32) (two binary32)) (times C (argument (prec binary32) (significand_of binary32 b))) (exact f b C)
      (mul-pos positive (le_trans (pow_pos (prec binary32 - 1)) (significand_bits binary32 b).least))
      (mul-pos some (pow_pos (prec binary32 - 1)))
      (mul-pos (mul-pos some (down_pos k)) (number_some binary32 e)) z (times_scaled C (argument (prec binary32) (significand_of binary32 b)) e k)

  q_sign : sign_with f b ≡ q.minus
  q_sign = unlike_comm (sign_of binary32 b) f.minus

  pub to_reading : Same r (value_of (prec binary32) v) → GivesNumber f b y C
  to_reading e =
      let N = v.significand * 2 ^ v.binade in
      let H = pow_pos (prec binary32 - 1) in
      subst (λ (s : Bool). HasValue y s q.num q.den) q_sign
      (revalue y (sign_with f b) _ _ q.num q.den (mul-pos H (down_pos z))
      (sym (same_scaled z r (value_of (prec binary32) v) q (number_at binary32 N z) (RN_some (context_of f).rule (prec binary32) (times C (argument (prec binary32) (significand_of binary32 b)))) H along refl e.1)) is)

  pub from_reading : GivesNumber f b y C → Same r (value_of (prec binary32) v)
  from_reading g = (
    ap (λ (m : Bool). unlike m false) sign,
    meet (v.significand * 2 ^ v.binade) (hid binary32) (up z) (down z) q.num q.den r.num r.den (mul-pos (up_pos z) (RN_some (context_of f).rule (prec binary32) (exact f b C))) (one_value y _ _ _ _ q.num q.den is g).1 along,
  )
    where
      meet : (N H u c Q d R g : ℕ) → 0 < u * d → N * u * d ≡ Q * (H * c) → Q * (g * c) ≡ R * u * d → R * H ≡ N * g
      meet N H u c Q d R g G e w = eq_of_mul-eq-mul_right (u * d) G (R * H) (N * g) (omega (arith, ap (λ (t : ℕ). t * g) e, ap (λ (t : ℕ). t * H) w))

-- the binade as a power of its own
binade_apart : (S B H : ℕ) (e k : ℤ) → S * up (e +ℤ (k +ℤ pos B)) * (H * down (e +ℤ k)) ≡ S * 2 ^ B * up (e +ℤ k) * (H * down (e +ℤ (k +ℤ pos B)))
binade_apart S B H e k =
    let z = e +ℤ k in
    subst (λ (w : ℤ). S * up w * (H * down z) ≡ S * 2 ^ B * up z * (H * down w)) (+ℤ_assoc e k (pos B)) (omega (arith, ap (λ (t : ℕ). t * (S * H)) (powers_add z (pos B))))

-- ---- what is a device's own
-- the one-step product is RN(Ch * x), ties to even
one_step_rounds : (f : Factor) → Sound f → (X : ℕ) → HasBits f.precision X → Same (RN to_even f.precision (by_high f.precision f.parts X)) (value_of f.precision (one_step_by f X))
unfolding tie_rule
one_step_rounds = sound_value

own : (d : Device) (f : Factor) (b : ℕ) → NoneHolds (unreadable f b) → let v = product_at d f b in exponent_out binary32 (product_exponent f b v) ≡ false → Own d f b (number_of binary32 (sign_with f b) v.significand (product_exponent f b v))
own Device.TwoStep f b h o = stored_steps f (intact_sound f (is_intact f b h)) (precision_is f b h) (significand_of binary32 b) (significand_bits binary32 b)
own Device.OneStep f b h o =
    let X = significand_of binary32 b in
    let v = product_at Device.OneStep f b in
    let sound = intact_sound f (is_intact f b h) in
    let n = precision_is f b h in
    let x_bits = subst (λ (m : ℕ). HasBits m X) (sym n) (significand_bits binary32 b) in
    let is = formed Device.OneStep f sound X x_bits in
    let rounds = subst (λ (m : ℕ). Same (RN to_even m (by_high m f.parts X)) (value_of m v)) n (one_step_rounds f sound X x_bits) in
    one_operation f sound n multiplying multiplies b v.significand (pos v.binade) (product_exponent f b v) (omega (arith, rounds.1)) (sym (+ℤ_assoc (exponent_of binary32 b) f.applied.scale (pos v.binade)))
    (subst (λ (m : ℕ). HasBits m v.significand) n is.bits) (out_none binary32 (pos v.binade) (v.binade + emax binary32) refl (omega arith) (omega (arith, is.binade))) o
    (value_of (prec binary32) v) (answer_at Device.OneStep f b) (refl, omega arith) (number_some binary32 (scaled f b)) (refl, binade_apart v.significand v.binade (hid binary32) (exponent_of binary32 b) f.applied.scale)

-- ---- a reading that is let through, and not a zero
module _ (d : Device) (f : Factor) (b : ℕ) (h : NoneHolds (unreadable f b)) (nonzero : zero_bits binary32 b ≡ false) (o : exponent_out binary32 (product_exponent f b (product_at d f b)) ≡ false) where
  abbrev X : ℕ
  X = significand_of binary32 b

  abbrev v : Product
  v = product_at d f b

  abbrev y : Float
  y = number_of binary32 (sign_with f b) v.significand (product_exponent f b v)

  sound : Sound f
  sound = intact_sound f (is_intact f b h)

  n : f.precision ≡ prec binary32
  n = precision_is f b h

  x_bits : HasBits f.precision X
  x_bits = subst (λ (k : ℕ). HasBits k X) (sym n) (significand_bits binary32 b)

  v_bits : HasBits (prec binary32) v.significand
  v_bits = subst (λ (k : ℕ). HasBits k v.significand) n (formed d f sound X x_bits).bits

  y_value : Is y (answer_at d f b)
  y_value =
      let c = product_exponent f b v in
      let t = let_through binary32 c o in
      revalue y (sign_with f b) (v.significand * up c) (hid binary32 * down c) _ _ (number_some binary32 c) (binade_apart v.significand v.binade (hid binary32) (exponent_of binary32 b) f.applied.scale)
      (number_value binary32 (sign_with f b) v.significand c v_bits t.0 t.1 t.2 t.3)

  y_normal : Normal binary32 (to_bits binary32 y)
  y_normal = let t = let_through binary32 (product_exponent f b v) o in number_normal binary32 (sign_with f b) v.significand (product_exponent f b v) v_bits t.0 t.1 t.2 t.3

  abbrev Ends : Fraction → Type 0
  Ends C = Between (context_of f) (lower_of f) (upper_of f) C

  above_zero : (C : Fraction) → Ends C → 0 < C.num
  above_zero C k = between_positive (context_of f) (lower_of f) (upper_of f) (le_trans (pow_pos (context_of f).E) sound.lower_end.from) C k

  to : (C : Fraction) → Ends C → Gives (context_of f) X v C → GivesNumber f b y C
  to C k g = to_reading f b v y y_value C (above_zero C k) k.some k.sign (subst (λ (m : ℕ). Same (RN (context_of f).rule m (times C (argument m X))) (value_of m v)) n g)

  from : (C : Fraction) → Ends C → GivesNumber f b y C → Gives (context_of f) X v C
  from C k g = subst (λ (m : ℕ). Same (RN (context_of f).rule m (times C (argument m X))) (value_of m v)) (sym n) (from_reading f b v y y_value C (above_zero C k) k.some k.sign g)

  direct : Directs (signed_direction (sign_with f b) (direction_on d f X)) (last_at d f b) (answer_at d f b)
  direct =
      directs_scaled (direction_on d f X) (last_on d f X) (value_of (prec binary32) v) (subst (λ (m : ℕ). Directs (direction_on d f X) (last_on d f X) (value_of m v)) n (sound_directs f sound X x_bits d)) (sign_with f b)
      (last_plus f sound X x_bits d) refl (scaled f b)

  tells : Tells d f b (put_on f b (marked f X (directed_at d f b)))
  tells =
      record {
        reading = reading_is f b h nonzero;
        value = y_value;
        normal = y_normal;
        says = says_alike Ends (Gives (context_of f) X v) (GivesNumber f b y) to from (mark_by f X v) (mark_tells f sound X x_bits v (formed d f sound X x_bits).bits);
        alone = λ m s. mark_alone f sound X x_bits v (formed d f sound X x_bits).bits m (says_alike Ends (GivesNumber f b y) (Gives (context_of f) X v) from to m s);
        own = own d f b h o;
        directs = direct;
      }

-- every answer to a reading tells the truth, whatever the device, the factor and the reading
pub reading_tells : (d : Device) (f : Factor) (x : Float) → AnswerTells d f (to_bits binary32 x) (applied d f x)
unfolding applied
reading_tells d f x = let b = to_bits binary32 x in of_reading (AnswerTells d f b) f b (product_of f b (directed_at d f b)) (λ k. tt)
    (λ h z. (zero_sign multiplying multiplies f b h, inl (z, refl, refl, refl)))
    (λ h z o. (let v = product_at d f b in number_sign multiplying multiplies f b h z v.significand (product_exponent f b v), inr (z, tells d f b h z o)))

-- and a reading that none of 31 and 20 to 23 refuses is answered, with a zero or the number with its mark
pub reading_answered : (d : Device) (f : Factor) (x : Float) → let b = to_bits binary32 x in NoneHolds (conditions f b (product_exponent f b (product_at d f b))) → applied d f x ≡ accepted (numbered d f b)
unfolding applied
reading_answered d f x h = let b = to_bits binary32 x in none_refuses (conditions f b (product_exponent f b (product_at d f b))) (numbered d f b) h

-- a zero of either sign is answered, right and equal, with the standard's product of it and the stored high part with the factor's sign, which as every f32 fits the format
pub zero_multiplied : (d : Device) (f : Factor) → intact f ≡ true → f.precision ≡ prec binary32 → T (fits binary32 f.applied.high) → (s : Bool) → applied d f (zero_of s) ≡ accepted (record { mark = Mark.Right; value = record { value = mul binary32 (zero_of s) (signed_high f); direction = Equal } })
unfolding applied
zero_multiplied d f i n h s = let b = to_bits binary32 (zero_of s) in zero_is_operation multiplying multiplies f i n h s (product_of f b (directed_at d f b)) (λ y. record { mark = Mark.Right; value = record { value = y; direction = Equal } }) refl
