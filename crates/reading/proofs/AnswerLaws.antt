-- Readings that are let through to their product or quotient, and what they are answered with. Assumes nothing.
use Rattle.std.specs.Prelude.{◌≡◌, refl, Bool, true, false, not, ◌&&◌, cond, [], ◌∷◌, ℕ}
use Rattle.std.proofs.Common.{sym, ap, ◌∙◌, subst, eqb-true}
use Rattle.std.specs.Float.{binary32}
use Rattle.std.specs.Float.Ieee.{prec}
use Rattle.std.proofs.lemmas.Bool.{not-false}
use Rattle.marks.specs.Answers.{NoneHolds, Outcome, refused, accepted, answer}
use Rattle.marks.specs.AnswerLaws.{pass, end, accepts, rest_answers, only_accepted, refused_first, none_apart, of_answer}
use Rattle.rounding.specs.Round.{HasBits}
use Rattle.floats.specs.Fields.{zero_bits, Normal, significand_of}
use Rattle.floats.proofs.Pattern.{significand_bits}
use Rattle.floats.proofs.Classes.{normal_others}
use Rattle.factor.specs.declared.Factor.{Factor}
use Rattle.factor.specs.SetUp.{intact, Sound}
use Rattle.factor.proofs.SetUpLaws.{intact_sound}
use Rattle.reading.specs.declared.Kind.{Kind}
use Rattle.reading.specs.Reading.{unreadable, kind_of, exponent_out, Made, conditions, answer_to}

-- ---- readings that are let through
module _ (f : Factor) (b : ℕ) (h : NoneHolds (unreadable f b)) where
  -- the factor is intact, and of the format's precision
  pub is_intact : intact f ≡ true
  is_intact = not-false _ h.0

  pub precision_is : f.precision ≡ prec binary32
  precision_is = eqb-true f.precision (prec binary32) (not-false _ h.1.0)

  -- a zero is answered with what is made of a zero
  pub zeros_answered : {A : Type 0} (m : Made A) → zero_bits binary32 b ≡ true → accepted m.of_zero ≡ answer_to f b m
  zeros_answered m z = rw z (accepts (pass refl end) _ ∙ sym (rest_answers (unreadable f b) _ h _))

  -- any other with what is made of it, if 23 does not refuse that
  pub others_answered : {A : Type 0} (m : Made A) → zero_bits binary32 b ≡ false → answer ((23, exponent_out binary32 m.exponent) ∷ []) m.value ≡ answer_to f b m
  others_answered m z = rw z (sym (rest_answers (unreadable f b) _ h _))

  -- and it is a normal number
  pub is_normal : zero_bits binary32 b ≡ false → Normal binary32 b
  is_normal z = normal_others binary32 b h.1.1.0 z h.1.1.1.0

-- what holds of every answer to a reading: of a refusal, of what is made of a zero, and of what is made of any other that is let through
pub of_reading : {A : Type 0} (P : Outcome A → Type 0) (f : Factor) (b : ℕ) (m : Made A) → ((k : ℕ) → P (refused k)) → (NoneHolds (unreadable f b) → zero_bits binary32 b ≡ true → P (accepted m.of_zero))
    → (NoneHolds (unreadable f b) → zero_bits binary32 b ≡ false → exponent_out binary32 m.exponent ≡ false → P (accepted m.value)) → P (answer_to f b m)
of_reading P f b m none of_zero others =
    of_answer P (conditions f b m.exponent) (cond (zero_bits binary32 b) m.of_zero m.value) none
    (λ h. let t = none_apart (unreadable f b) ((23, not (zero_bits binary32 b) && exponent_out binary32 m.exponent) ∷ []) h in go (zero_bits binary32 b) refl t.0 t.1.0)
  where
    go : (z : Bool) → zero_bits binary32 b ≡ z → NoneHolds (unreadable f b) → not (zero_bits binary32 b) && exponent_out binary32 m.exponent ≡ false → P (accepted (cond (zero_bits binary32 b) m.of_zero m.value))
    go true z h o = rw z (of_zero h z)
    go false z h o = let in_range_lem : exponent_out binary32 m.exponent ≡ false = rw z at o in rw z (others h z in_range_lem)

-- what the work on a reading asks for
pub record Ready (f : Factor) (b : ℕ) : Type 0 where
  pub sound : Sound f
  pub precision : f.precision ≡ prec binary32
  pub bits : HasBits f.precision (significand_of binary32 b)

pub ready : (f : Factor) (b : ℕ) → NoneHolds (unreadable f b) → Ready f b
ready f b h =
    let n = precision_is f b h in
    record { sound = intact_sound f (is_intact f b h); precision = n; bits = subst (λ (n : ℕ). HasBits n (significand_of binary32 b)) (sym n) (significand_bits binary32 b) }

-- ---- a reading as it was taken
-- a kind tells whether its reading is a zero
abbrev KindTells : ℕ → Kind → Type 0
KindTells b Kind.Zero = zero_bits binary32 b ≡ true
KindTells b Kind.Normal = zero_bits binary32 b ≡ false

kind_tells : (b : ℕ) → KindTells b (kind_of b)
kind_tells b = go (zero_bits binary32 b) refl
  where
    go : (z : Bool) → zero_bits binary32 b ≡ z → KindTells b (cond z Kind.Zero Kind.Normal)
    go true e = e
    go false e = e

-- f and the bits c, as they are judged
abbrev taken : Factor → ℕ → Outcome (Factor × ℕ)
taken f c = answer (unreadable f c) (f, c)

-- a refusal before any work is the answer's
pub refused_answered : {A : Type 0} {k : ℕ} (f : Factor) (c : ℕ) (m : Made A) → refused k ≡ taken f c → refused k ≡ answer_to f c m
refused_answered {k = k} f c m e = refused_first (unreadable f c) _ _ _ k e

-- f and c, let through as g and b, g being f and b being c; and what is made of a reading by its factor and its bits
module _ {A : Type 0} (f : Factor) (c : ℕ) (g : Factor) (b : ℕ) (is : ◌≡◌ {A = Outcome (Factor × ℕ)} (accepted (g, b)) (taken f c)) (h : NoneHolds (unreadable g b)) (made : Factor → ℕ → Made A) where
  same : ◌≡◌ {A = Factor × ℕ} (g, b) (f, c)
  same = sym (only_accepted (unreadable f c) (f, c) (g, b) (sym is)).1

  of_same : answer_to g b (made g b) ≡ answer_to f c (made f c)
  of_same = ap (λ (p : Factor × ℕ). answer_to p.0 p.1 (made p.0 p.1)) same

  -- a normal reading is answered with what is made of it, unless 23 refuses that
  pub normal_answered : kind_of b ≡ Kind.Normal → answer ((23, exponent_out binary32 (made g b).exponent) ∷ []) (made g b).value ≡ answer_to f c (made f c)
  normal_answered e = others_answered g b h (made g b) (subst (KindTells b) e (kind_tells b)) ∙ of_same

  -- a zero with what is made of it
  pub zero_answered : kind_of b ≡ Kind.Zero → accepted (made g b).of_zero ≡ answer_to f c (made f c)
  zero_answered e = zeros_answered g b h (made g b) (subst (KindTells b) e (kind_tells b)) ∙ of_same
