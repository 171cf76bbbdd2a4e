-- Laws: answers are symmetric in sign, of zeros and of factors too. A reading with its sign turned is answered, on either device and divided, with the sign turned and the direction mirrored (`reading_mirrored`, `divided_reading_mirrored`);
-- and so is whatever is asked of a negative factor answered as its size would be (`negative_mirrored`: one law for products on both devices and quotients, of significands and of readings). Marks and refusals stay. Assumes nothing.
use Rattle.std.specs.Prelude.{◌≡◌, refl, Bool, cond, List, [], ◌∷◌, ℕ, ◌*◌, T, ℤ, pos, ◌+ℤ◌, ◌-ℤ◌, Float}
use Rattle.std.proofs.Common.{sym, ◌∙◌, true≢false}
use Rattle.std.proofs.Math.Path.{ap, ap₂}
use Rattle.std.proofs.Math.Bool.{true, false, not}
use Rattle.std.specs.Float.{nan, inf, fin}
use Rattle.std.specs.Float.Ieee.{is_nan, binary32, hid, unlike, up, down, neg, fits, to_bits}
use Rattle.marks.specs.declared.Mark.{Mark}
use Rattle.marks.specs.declared.Marked.{Marked}
use Rattle.marks.specs.Answers.{NoneHolds, Outcome, answer, each}
use Rattle.marks.specs.AnswerLaws.{answer_each}
use Rattle.rounding.specs.declared.Direction.{Direction}
use Rattle.rounding.specs.Direction.{mirrored}
use Rattle.rounding.proofs.DirectedLaws.{turned_again}
use Rattle.rounding.proofs.FractionLaws.{unlike_comm}
use Rattle.floats.specs.Fields.{sign_of, zero_bits, significand_of, exponent_of}
use Rattle.floats.proofs.Signs.{Turned, round_turned, turned_bits}
use Rattle.floats.proofs.Classes.{nan_class}
use Rattle.factor.specs.declared.Factor.{Factor}
use Rattle.factor.specs.Precision.{significand_out}
use Rattle.factor.proofs.Signs.{factor_as, intact_signed}
use Rattle.product.specs.declared.Device.{Device}
use Rattle.rounding.specs.declared.Directed.{Directed}
use Rattle.product.specs.declared.Product.{Product}
use Rattle.rounding.specs.declared.Signed.{Signed}
use Rattle.product.specs.Devices.{directed_on, signed_product}
use Rattle.product.proofs.DeviceLaws.{sized}
use Rattle.product.specs.Marks.{mark_by}
use Rattle.product.specs.Answer.{conditions as significand_conditions, multiplied}
use Rattle.quotient.specs.declared.Quotient.{Quotient}
use Rattle.quotient.specs.Quotient.{directed_by, signed_quotient}
use Rattle.quotient.specs.Answer.{divided}
use Rattle.reading.specs.Reading.{unreadable, sign_with, number_of, directed_number, directed_zero, Made, conditions, answer_to, product_of, applied}
use Rattle.reading.specs.Divided.{divided_reading}
use Rattle.reading.proofs.AnswerLaws.{of_reading}

-- ---- what is said
-- a number with its sign turned and its direction mirrored; a product and a quotient of a significand alike
abbrev pub turned : Directed Float → Directed Float
turned y = record { value = neg y.value; direction = mirrored y.direction }

abbrev pub turned_product : Signed Product → Signed Product
turned_product v = record { minus = not v.minus; value = v.value; direction = mirrored v.direction }

abbrev pub turned_quotient : Signed Quotient → Signed Quotient
turned_quotient v = record { minus = not v.minus; value = v.value; direction = mirrored v.direction }

-- a value with its mark: the mark stays
abbrev pub under : {A : Type 0} → (A → A) → Marked A → Marked A
under g a = record { mark = a.mark; value = g a.value }

-- ---- all that is asked of a factor: a significand or a reading, multiplied on a device or divided
pub data Question : Type 0 where
  multiply : Device → ℕ → Question
  divide : ℕ → Question
  read : Device → Float → Question
  divide_reading : Float → Question

-- the value of its answer, the answer, and that value turned
abbrev pub ValueOf : Question → Type 0
ValueOf (multiply d X) = Marked (Signed Product)
ValueOf (divide X) = Signed Quotient
ValueOf (read d x) = Marked (Directed Float)
ValueOf (divide_reading x) = Directed Float

abbrev pub answer_of : (q : Question) → Factor → Outcome (ValueOf q)
answer_of (multiply d X) f = multiplied d f X
answer_of (divide X) f = divided f X
answer_of (read d x) f = applied d f x
answer_of (divide_reading x) f = divided_reading f x

abbrev pub turned_value : (q : Question) → ValueOf q → ValueOf q
turned_value (multiply d X) = under turned_product
turned_value (divide X) = turned_quotient
turned_value (read d x) = under turned
turned_value (divide_reading x) = turned

-- ---- one law for all: where a value is g of another, so is its answer, under the same conditions
by_value : {A : Type 0} (g : A → A) (l : List (ℕ × Bool)) (a c : A) → a ≡ g c → answer l a ≡ each g (answer l c)
by_value g l a c e = ap (answer l) e ∙ answer_each g l c

-- ---- signs and numbers
unlike_turned : (s t : Bool) → unlike (not s) t ≡ not (unlike s t)
unlike_turned true true = refl
unlike_turned true false = refl
unlike_turned false true = refl
unlike_turned false false = refl

number_turned : (s : Bool) (S : ℕ) (e : ℤ) (d : Direction) → directed_number (not s) S e d ≡ turned (directed_number s S e d)
unfolding number_of
number_turned s S e d = λ i. record { value = round_turned binary32 s (S * up e) (hid binary32 * down e) i; direction = turned_again s d i }

zero_turned : (s : Bool) → directed_zero (not s) ≡ turned (directed_zero s)
unfolding neg
zero_turned s = refl

choice_each : {A : Type 0} (g : A → A) (z : Bool) (x y : A) → cond z (g x) (g y) ≡ g (cond z x y)
choice_each g true x y = refl
choice_each g false x y = refl

-- ---- whatever is made of a reading: `zero` of the answer's sign, or `value` of its significand, that sign and the exponent that it gets; with the sign turned it is g of what it was
record Symmetric {A : Type 0} (g : A → A) : Type 0 where
  zero : Bool → A
  exponent : ℕ → ℤ → ℤ
  value : ℕ → Bool → ℤ → A
  zero_turns : (s : Bool) → zero (not s) ≡ g (zero s)
  value_turns : (X : ℕ) (s : Bool) (z : ℤ) → value X (not s) z ≡ g (value X s z)

module _ {A : Type 0} (g : A → A) (S : Symmetric g) where
  -- of a reading by its bits, for an answer with the sign s, and for one of a factor
  abbrev made_with : Bool → ℕ → Made A
  made_with s b = let X = significand_of binary32 b in let z = S.exponent X (exponent_of binary32 b) in record { of_zero = S.zero s; exponent = z; value = S.value X s z }

  abbrev made : Factor → ℕ → Made A
  made f b = made_with (sign_with f b) b

  -- with the answer's sign turned
  sign_turned : (f : Factor) (b : ℕ) (s : Bool) → answer_to f b (made_with (not s) b) ≡ each g (answer_to f b (made_with s b))
  sign_turned f b s =
      let m = made_with s b in
      let z = zero_bits binary32 b in
      by_value g (conditions f b m.exponent) _ (cond z m.of_zero m.value) (ap₂ (cond z) (S.zero_turns s) (S.value_turns (significand_of binary32 b) s m.exponent) ∙ choice_each g z m.of_zero m.value)

  -- of two readings that differ in the sign alone
  two_readings : (f : Factor) (b c : ℕ) → Turned b c → answer_to f c (made f c) ≡ each g (answer_to f b (made f b))
  two_readings f b c t =
      let sign : sign_with f c ≡ not (sign_with f b) = ap (λ (s : Bool). unlike s f.minus) t.sign ∙ unlike_turned (sign_of binary32 b) f.minus in
      rw (t.biased, t.trailing, sign) (sign_turned f b (sign_with f b))

  -- and of two factors that do
  two_factors : (f : Factor) (b : ℕ) → answer_to (factor_as true f) b (made (factor_as true f) b) ≡ each g (answer_to (factor_as false f) b (made (factor_as false f) b))
  two_factors f b =
      let s = sign_of binary32 b in
      let sign : unlike s true ≡ not (unlike s false) = unlike_comm s true ∙ unlike_turned false s ∙ ap not (unlike_comm false s) in
      rw (intact_signed true f, intact_signed false f, sign) (sign_turned f b (unlike s false))

  -- a NaN, which has no sign, is refused
  nan_stays : (f : Factor) → let b = to_bits binary32 nan in answer_to f b (made f b) ≡ each g (answer_to f b (made f b))
  nan_stays f =
      let b = to_bits binary32 nan in
      let through : NoneHolds (unreadable f b) → ⊥ = λ h. true≢false (sym (nan_class binary32) ∙ h.1.1.0) in
      of_reading (λ o. o ≡ each g o) f b (made f b) (λ k. refl) (λ h z. absurd (through h)) (λ h z o. absurd (through h))

  -- so of every reading and its opposite, as every f32 fits the format
  opposite_readings : (f : Factor) (x : Float) → T (fits binary32 x) → answer_to f (to_bits binary32 (neg x)) (made f (to_bits binary32 (neg x))) ≡ each g (answer_to f (to_bits binary32 x) (made f (to_bits binary32 x)))
  opposite_readings f nan fit = unfold neg in nan_stays f
  opposite_readings f (inf s) fit = two_readings f (to_bits binary32 (inf s)) (to_bits binary32 (neg (inf s))) (turned_bits (inf s) fit (unfold is_nan in refl))
  opposite_readings f (fin s m z) fit = two_readings f (to_bits binary32 (fin s m z)) (to_bits binary32 (neg (fin s m z))) (turned_bits (fin s m z) fit (unfold is_nan in refl))

-- a reading's product on a device, and its quotient
unfoldable product_made : Device → Factor → Symmetric (under turned)
product_made d f =
    record {
      zero = λ s. record { mark = Mark.Right; value = directed_zero s };
      exponent = λ X z. z +ℤ (f.applied.scale +ℤ pos (directed_on d f X).value.binade);
      value = λ X s z. let v = directed_on d f X in record { mark = mark_by f X v.value; value = directed_number s v.value.significand z v.direction };
      zero_turns = λ s i. record { mark = Mark.Right; value = zero_turned s i };
      value_turns = λ X s z i. let v = directed_on d f X in record { mark = mark_by f X v.value; value = number_turned s v.value.significand z v.direction i };
    }

unfoldable quotient_made : Factor → Symmetric turned
quotient_made f =
    record {
      zero = directed_zero;
      exponent = λ X z. z +ℤ ((directed_by f X).value.binade -ℤ f.applied.scale);
      value = λ X s z. let v = directed_by f X in directed_number s v.value.significand z v.direction;
      zero_turns = zero_turned;
      value_turns = λ X s z. let v = directed_by f X in number_turned s v.value.significand z v.direction;
    }

-- ---- a reading with its sign turned, multiplied on either device, and divided
pub reading_mirrored : (d : Device) (f : Factor) (x : Float) → T (fits binary32 x) → applied d f (neg x) ≡ each (under turned) (applied d f x)
unfolding applied product_made
reading_mirrored d f = opposite_readings (under turned) (product_made d f) f

pub divided_reading_mirrored : (f : Factor) (x : Float) → T (fits binary32 x) → divided_reading f (neg x) ≡ each turned (divided_reading f x)
unfolding divided_reading quotient_made
divided_reading_mirrored f = opposite_readings turned (quotient_made f) f

-- ---- a negative factor's answers are its size's, the sign turned and the direction mirrored; which sign that is, each answer's own theorems tell
module _ (s : Bool) (f : Factor) where
  -- a factor with a sign: what it answers, by its size and that sign
  product_signed : (d : Device) (X : ℕ) → let v = directed_on d f X in multiplied d (factor_as s f) X ≡ answer (significand_conditions f X) (record { mark = mark_by f X v.value; value = signed_product s v })
  unfolding multiplied
  product_signed d X =
      ap₂ (λ (i : Bool) (v : Directed Product). answer ((31, not i) ∷ (17, significand_out f.precision X) ∷ []) (record { mark = mark_by f X v.value; value = signed_product s v })) (intact_signed s f) (sized s d f X)

  -- the same of a reading, both signs making the answer's
  reading_signed : (d : Device) (x : Float) → let b = to_bits binary32 x in applied d (factor_as s f) x ≡ answer_to (factor_as s f) b (made (under turned) (product_made d f) (factor_as s f) b)
  unfolding applied product_made
  reading_signed d x = let b = to_bits binary32 x in ap (λ (v : Directed Product). answer_to (factor_as s f) b (product_of (factor_as s f) b v)) (sized s d f (significand_of binary32 b))

pub negative_mirrored : (q : Question) (f : Factor) → answer_of q (factor_as true f) ≡ each (turned_value q) (answer_of q (factor_as false f))
negative_mirrored (multiply d X) f =
    let v = directed_on d f X in
    let value : Bool → Marked (Signed Product) = λ s. record { mark = mark_by f X v.value; value = signed_product s v } in
    product_signed true f d X ∙ by_value (under turned_product) (significand_conditions f X) (value true) (value false) refl ∙ ap (each (under turned_product)) (sym (product_signed false f d X))
negative_mirrored (divide X) f =
    let v = directed_by f X in
    unfold divided in rw (intact_signed true f, intact_signed false f) (by_value turned_quotient (significand_conditions f X) (signed_quotient true v) (signed_quotient false v) refl)
negative_mirrored (read d x) f = reading_signed true f d x ∙ two_factors (under turned) (product_made d f) f (to_bits binary32 x) ∙ ap (each (under turned)) (sym (reading_signed false f d x))
negative_mirrored (divide_reading x) f = unfold divided_reading quotient_made in two_factors turned (quotient_made f) f (to_bits binary32 x)
