-- What a product tells, for every factor that set-up accepted or 31 lets through and every significand in range (`demand_2`): what the parts and the two steps are, and
-- what the mark tells of every fraction between the ends, the factor's sign on it. Of readings it is said in `reading`.
-- Assumes nothing.
use Rattle.std.specs.Prelude.{◌≡◌, Bool, true, false, ℕ, ◌-◌, ◌*◌, ◌^◌, ◌≤◌, ◌<◌, nat_abs}
use Rattle.std.proofs.Math.Path.{sym}
use Rattle.std.proofs.Common.{ap, ◌∙◌, subst, mul-pos, le_trans, le_of_lt, pow_pos}
use Rattle.std.proofs.Math.Bool.{not}
use Rattle.std.proofs.Math.Nat.{eq_of_mul-eq-mul_right}
use native.Mathlib.Omega.{arith}
use Rattle.std.specs.Float.Ieee.{up, unlike}
use Rattle.marks.specs.declared.Mark.{Mark}
use Rattle.marks.specs.Answers.{accepted}
use Rattle.marks.specs.AnswerLaws.{of_answer, pass, end, accepts}
use Rattle.marks.specs.SaysLaws.{says_alike}
use Rattle.rounding.specs.Round.{rounded, HasBits}
use Rattle.rounding.proofs.Standard.{RoundsTo, rounds_to}
use Rattle.rounding.specs.Fraction.{Fraction, times, less, RN, Same}
use Rattle.rounding.proofs.FractionLaws.{unlike_plus}
use Rattle.factor.specs.declared.Parts.{Parts}
use Rattle.factor.specs.declared.Description.{Description}
use Rattle.factor.specs.declared.Factor.{Factor}
use Rattle.factor.specs.Precision.{significand_out}
use Rattle.factor.specs.Parts.{parts_at, high_part, low_part}
use Rattle.factor.specs.Context.{Context, Fine, context_of, lower_of, upper_of}
use Rattle.factor.proofs.ContextLaws.{fine_at}
use Rattle.factor.proofs.PartsLaws.{high_in_units, low_in_units}
use Rattle.factor.proofs.Accepted.{between_positive, high_everywhere, rest_in_units_C, low_everywhere}
use Rattle.factor.proofs.StoredLaws.{high_over, low_over, low_sign}
use Rattle.factor.specs.Ends.{End, Between}
use Rattle.factor.specs.SetUp.{set_up, intact, Sound}
use Rattle.factor.proofs.SetUpLaws.{intact_sound, accepted_intact}
use Rattle.product.specs.declared.Product.{Product}
use Rattle.rounding.specs.declared.Directed.{Directed}
use Rattle.rounding.specs.declared.Signed.{Signed}
use Rattle.product.specs.declared.Device.{Device}
use Rattle.product.specs.Product.{argument, high, low, first, fused, second, product, value_of}
use Rattle.product.specs.Marks.{Gives, mark_by, SaysBy}
use Rattle.product.proofs.ProductLaws.{fused_some, product_is, product_value}
use Rattle.product.proofs.MarkLaws.{mark_says, mark_only}
use Rattle.product.specs.Answer.{conditions, marked, answered, multiplied, GivesSigned, SaysSigned, Tells}
use Rattle.product.proofs.AnswerLaws.{significand_in, let_through}
use Rattle.product.proofs.SoundLaws.{sound_fine}
use Rattle.product.specs.Devices.{directed_on, signed_product, mark_on}
use Rattle.product.proofs.DeviceLaws.{formed}

-- RN of x is x rounded to nearest in the sense of IEEE 754-2019, 4.3.1: it has n bits, no number of n bits is nearer, and half way between two the rule decides
abbrev pub ToNearest : Context → Fraction → Type 0
ToNearest K x = RoundsTo K.rule K.n x.num x.den (rounded K.rule K.n x.num x.den)

-- ---- the parts

module _ (K : Context) where
  open K use {rule, n}

  -- what the parts p are to a fraction C
  pub record PartsTell (p : Parts) (C : Fraction) : Type 0 where
    -- Ch is C rounded to nearest
    pub high_is : Same (RN rule n C) (high n p)
    pub high_nearest : ToNearest K C
    -- Cl is C - Ch rounded to nearest, and zero where nothing is left
    pub low_is : Same (RN rule n (less C (RN rule n C))) (low p)
    pub low_nearest : 0 < (less C (RN rule n C)).num → ToNearest K (less C (RN rule n C))

same_trans : (x y z : Fraction) → 0 < y.den → Same x y → Same y z → Same x z
same_trans x y z d a b = (
  a.0 ∙ b.0,
  eq_of_mul-eq-mul_right y.den d (x.num * z.den) (z.num * x.den)
      (omega (arith, ap (λ (k : ℕ). k * z.den) a.1, ap (λ (k : ℕ). k * x.den) b.1)),
)

module _ (f : Factor) (s : Sound f) (C : Fraction) (k : Between (context_of f) (lower_of f) (upper_of f) C) where
  -- the parts of a factor are those of every fraction between its ends
  pub parts_tell : PartsTell (context_of f) f.parts C
  parts_tell =
      let K = context_of f in
      let ok = fine_at s.precision in
      let L = lower_of f in
      let U = upper_of f in
      let le = s.lower_end in
      let ue = s.upper_end in
      let hc = high_in_units K ok L le in
      let lc = low_in_units K ok L le in
      let high_C : Fraction = RN K.rule K.n C in
      let rest : Fraction = less C high_C in
      let some = between_positive K L U (le_trans (pow_pos K.E) le.from) C k in
      subst (λ (p : Parts). PartsTell K p C) (sym s.parts)
      (record {
        high_is = same_trans high_C (high_part K L) (high K.n (parts_at K L)) hc.some (high_everywhere K ok L U le ue s.same C k) (hc.sign, high_over K ok L le);
        high_nearest = rounds_to K.rule K.n ok.some C.num C.den some k.some;
        low_is = same_trans (RN K.rule K.n rest) (low_part K L) (low (parts_at K L)) lc.some (low_everywhere K ok L U le ue s.same C k) (low_sign K ok L le, low_over K ok L le);
        low_nearest = λ h. rounds_to K.rule K.n ok.some rest.num rest.den h (rest_in_units_C K ok L U le ue s.same C k).some;
      })

-- ---- the steps

module _ (K : Context) where
  open K use {rule, n}

  -- what the two steps with the parts p are
  pub record TwoSteps (p : Parts) (X : ℕ) : Type 0 where
    -- u1 is Cl * x rounded to nearest, and zero where Cl is zero
    pub first_nearest : 0 < nat_abs p.low → ToNearest K (times (low p) (argument n X))
    pub first_zero : nat_abs p.low ≡ 0 → (first K p X).num ≡ 0
    -- u2 is Ch * x + u1 rounded to nearest, that product and that sum being exact
    pub second_nearest : ToNearest K (fused K p X)
    -- the product is u2, and has a significand of n bits and the binade 0 or 1
    pub value : Same (second K p X) (value_of n (product K p X))
    pub bits : HasBits n (product K p X).significand
    pub binade : (product K p X).binade ≤ 1

  at_end : (ok : Fine K) (c : ℕ) → End K c → (X : ℕ) → HasBits n X → TwoSteps (parts_at K c) X
  at_end ok c ce X x =
      let p = parts_at K c in
      let y = fused K p X in
      let some = fused_some K ok c ce X x.most x.least in
      let is = product_is K ok c ce X x.most x.least in
      record {
        first_nearest = λ h. rounds_to rule n ok.some (nat_abs p.low * X) (2 ^ p.places * 2 ^ (n - 1)) (mul-pos h (le_trans (pow_pos (n - 1)) x.least)) (mul-pos (pow_pos p.places) (pow_pos (n - 1)));
        first_zero = λ e. of_zero (nat_abs p.low * X) (2 ^ p.places * 2 ^ (n - 1)) (ap (λ (z : ℕ). z * X) e ∙ omega arith);
        second_nearest = rounds_to rule n ok.some y.num y.den some.0 some.1;
        value = product_value K ok c ce X x.most x.least;
        bits = is.bits;
        binade = is.binade;
      }
    where
      of_zero : (N d : ℕ) → N ≡ 0 → (rounded rule n N d).significand * up (rounded rule n N d).exponent ≡ 0
      of_zero N d e = ap (λ (z : ℕ). (rounded rule n z d).significand * up (rounded rule n z d).exponent) e ∙ unfold rounded in omega arith

-- both steps of a factor's product
pub two_steps : (f : Factor) → Sound f → (X : ℕ) → HasBits f.precision X → TwoSteps (context_of f) f.parts X
two_steps f s X x = let K = context_of f in subst (λ (p : Parts). TwoSteps K p X) (sym s.parts) (at_end K (fine_at s.precision) (lower_of f) s.lower_end X x)

-- ---- the mark, of a value v of n bits, whoever made it
module _ (f : Factor) (s : Sound f) (X : ℕ) (x : HasBits f.precision X) (v : Product) (bits : HasBits f.precision v.significand) where
  -- it says what a mark is to say: right, every fraction between the ends gives v; wrong, none does; open, one does and another does not
  pub mark_tells : SaysBy f X v (mark_by f X v)
  mark_tells = mark_says (context_of f) (sound_fine f s).some (lower_of f) (upper_of f) X v s.lower_end.from s.ordered x.least (le_of_lt bits.most)

  -- and no other mark would be true
  pub mark_alone : (m : Mark) → SaysBy f X v m → mark_by f X v ≡ m
  mark_alone = mark_only (context_of f) (sound_fine f s).some (lower_of f) (upper_of f) X v s.lower_end.from s.ordered x.least (le_of_lt bits.most)

-- ---- with the factor's sign on the value and on every fraction, it says the same
module _ (f : Factor) (s : Sound f) (X : ℕ) (x : HasBits f.precision X) (w : Directed Product) (bits : HasBits f.precision w.value.significand) where
  abbrev v : Signed Product
  v = signed_product f.minus w

  abbrev Ends : Fraction → Type 0
  Ends = Between (context_of f) (lower_of f) (upper_of f)

  abbrev size : Fraction → Type 0
  size = Gives (context_of f) X w.value

  to : (C : Fraction) → Ends C → size C → GivesSigned f X v C
  to C k g = (unlike_plus f.minus, g.1)

  from : (C : Fraction) → Ends C → GivesSigned f X v C → size C
  from C k g = (ap (λ (m : Bool). unlike m false) k.sign, g.1)

  pub signed_tells : SaysSigned f X v (mark_by f X w.value)
  signed_tells = says_alike Ends size (GivesSigned f X v) to from (mark_by f X w.value) (mark_tells f s X x w.value bits)

  pub signed_alone : (m : Mark) → SaysSigned f X v m → mark_by f X w.value ≡ m
  signed_alone m t = mark_alone f s X x w.value bits m (says_alike Ends (GivesSigned f X v) size from to m t)

-- so every answer to a multiplication tells the truth, whatever the device, the factor and the significand
pub answer_tells : (d : Device) (f : Factor) (X : ℕ) → Tells f X (multiplied d f X)
unfolding multiplied
answer_tells d f X =
    let v = directed_on d f X in
    of_answer (Tells f X) (conditions f X) (answered f (marked f X v)) (λ k. tt) (λ h. let t = let_through f X h in signed_tells f t.0 X t.1 v (formed d f t.0 X t.1).bits)

-- ---- from the entry points
pub record Demand2 (f : Factor) : Type 0 where
  -- the parts are those of every fraction between the ends
  pub parts : (C : Fraction) → Between (context_of f) (lower_of f) (upper_of f) C → PartsTell (context_of f) f.parts C
  -- every significand that 17 lets through is answered with its product on the device, the factor's sign, a direction and a mark
  pub answers : (d : Device) (X : ℕ) → significand_out f.precision X ≡ false → multiplied d f X ≡ accepted (answered f (marked f X (directed_on d f X)))
  -- that of the two-step device is made by both steps
  pub steps : (X : ℕ) → significand_out f.precision X ≡ false → TwoSteps (context_of f) f.parts X
  -- the mark says what is true of every fraction between the ends, and no other mark does
  pub marks : (d : Device) (X : ℕ) → significand_out f.precision X ≡ false → SaysSigned f X (signed_product f.minus (directed_on d f X)) (mark_on d f X)
  pub alone : (d : Device) (X : ℕ) → significand_out f.precision X ≡ false → (m : Mark) → SaysSigned f X (signed_product f.minus (directed_on d f X)) m → mark_on d f X ≡ m

-- of every factor that 31 lets through
pub demand_2 : (f : Factor) → intact f ≡ true → Demand2 f
demand_2 f i =
    let s = intact_sound f i in
    record {
      parts = parts_tell f s;
      answers = λ d X h. unfold multiplied in sym (accepts (pass (ap not i) (pass h end)) (answered f (marked f X (directed_on d f X))));
      steps = λ X h. two_steps f s X (significand_in f.precision X h);
      marks = λ d X h. let x = significand_in f.precision X h in signed_tells f s X x (directed_on d f X) (formed d f s X x).bits;
      alone = λ d X h. let x = significand_in f.precision X h in signed_alone f s X x (directed_on d f X) (formed d f s X x).bits;
    }

-- and so of every one that set-up accepted
pub demand_2_accepted : (d : Description) (f : Factor) → set_up d ≡ accepted f → Demand2 f
demand_2_accepted d f e = demand_2 f (accepted_intact d f e)
