-- What acceptance tells of a factor: whatever set-up gave, and whatever 31 lets through, is sound. Assumes nothing.
use Rattle.std.specs.Prelude.{◌≡◌, refl, true, false, ℕ, suc, ◌^◌, eqb, ltb, leb, ℤ}
use Rattle.std.proofs.Common.{sym, ap, ◌∙◌, subst, true≢false, ltb-false, eqb-true}
use Rattle.std.specs.Float.Ieee.{binary32, to_bits}
use Rattle.std.proofs.lemmas.Bool.Decides.{Decides-int_eq}
use store.Seg.{eqb_same}
use borrow.Author.Tests.{leb-false, not-false}
use Rattle.marks.specs.Answers.{NoneHolds, Outcome, refused, accepted, answer, each}
use Rattle.marks.specs.AnswerLaws.{answer_each, only_accepted, none_refuses, or_false, and_true}
use Rattle.floats.specs.Fields.{same_float}
use Rattle.factor.specs.declared.Description.{Description}
use Rattle.factor.specs.declared.Parts.{Parts}
use Rattle.factor.specs.declared.Stored.{Stored}
use Rattle.factor.specs.declared.Factor.{Factor}
use Rattle.factor.specs.Precision.{least_precision, most_precision, ValidPrecision, precision_out}
use Rattle.factor.specs.Context.{Context, context_for}
use Rattle.factor.proofs.ContextLaws.{valid_of}
use Rattle.factor.specs.Parts.{high_part, low_part, parts_at}
use Rattle.factor.specs.Ends.{End}
use Rattle.factor.specs.SetUp.{end_out, same_high, same_z, same_low, float_in, applied_of, stored_by, factor_with, factor_of, conditions, stored_of, set_up, stores_just, given, described, intact, Sound}

-- ---- tests
pub same_z_true : (x y : ℤ) → same_z x y ≡ true → x ≡ y
same_z_true x y e = (Decides-int_eq x y).0 e

pub same_z_same : (x : ℤ) → same_z x x ≡ true
same_z_same x = (Decides-int_eq x x).1 refl

pub same_parts : (p q : Parts) → same_high p q ≡ true → same_low p q ≡ true → p ≡ q
same_parts p q h l =
    let t = and_true (same_z p.low q.low) (eqb p.places q.places) l in
    let a = eqb-true p.high q.high h in
    let b = same_z_true p.low q.low t.0 in
    let c = eqb-true p.places q.places t.1 in
    λ i. record { high = a i; low = b i; places = c i }

pub end_in : (K : Context) (c : ℕ) → end_out K c ≡ false → End K c
end_in K c e = let t = or_false (ltb c (2 ^ K.E)) (leb (2 ^ suc K.E) c) e in record { from = ltb-false c (2 ^ K.E) t.0; to = leb-false (2 ^ suc K.E) c t.1 }

-- a precision that 11 lets through
pub valid_in : (n : ℕ) → precision_out n ≡ false → ValidPrecision n
valid_in n e = let t = or_false (ltb n least_precision) (ltb most_precision n) e in valid_of (ltb-false n least_precision t.0) (ltb-false most_precision n t.1)

-- ---- what is stored, and what 31 looks at: each opens here, as rounding to a float opens with them
pub applied_is : (d : Description) → applied_of d ≡ record { high = float_in binary32 (high_part (context_for d) d.lower); low = float_in binary32 (low_part (context_for d) d.lower); scale = d.scale }
unfolding applied_of
applied_is d = refl

pub stored_is : (d : Description) → stored_of d ≡ answer (conditions d) (stored_by d)
unfolding stored_of
stored_is d = refl

pub intact_is : (f : Factor) → intact f ≡ given f (stored_of (described f))
unfolding intact
intact_is f = refl

-- ---- set-up gives what is stored of the size, with sign, precision and ends as described beside it
pub set_up_stores : (d : Description) → set_up d ≡ each (factor_with d) (stored_of d)
unfolding set_up stored_of
set_up_stores d = answer_each (factor_with d) (conditions d) (stored_by d)

-- ---- set-up gave f
pub set_up_sound : (d : Description) (f : Factor) → set_up d ≡ accepted f → (factor_of d ≡ f) × Sound (factor_of d)
unfolding set_up
set_up_sound d f e =
    let t = only_accepted (conditions d) (factor_of d) f e in
    (t.1, sound t.0)
  where
    sound : NoneHolds (conditions d) → Sound (factor_of d)
    sound h =
        let K = context_for d in
        let ends = or_false (end_out K d.lower) (end_out K d.upper) h.1.0 in
        record {
          precision = valid_in d.precision h.0;
          lower_end = end_in K d.lower ends.0;
          upper_end = end_in K d.upper ends.1;
          ordered = ltb-false d.upper d.lower h.1.1.0;
          scale = h.1.1.1.0;
          same = same_parts (parts_at K d.lower) (parts_at K d.upper) (not-false _ h.1.1.1.1.0) (not-false _ h.1.1.1.1.1.0);
          parts = refl;
          high_stored = refl;
          low_stored = refl;
        }

-- ---- 31 lets f through
module _ (f : Factor) (e : intact f ≡ true) where
  abbrev g : Factor
  g = factor_of (described f)

  from_stored : (s : Outcome Stored) → given f s ≡ true → (h : Stored) × (s ≡ accepted h) × (stores_just f h ≡ true)
  from_stored (accepted h) q = (h, refl, q)
  from_stored (refused j) q = absurd (true≢false (sym q))

  pub intact_accepted : (set_up (described f) ≡ accepted g) × (stores_just f (stored_by (described f)) ≡ true)
  unfolding intact set_up
  intact_accepted =
      let d = described f in
      let t = from_stored (stored_of d) e in
      let r = only_accepted (conditions d) (stored_by d) t.0 t.1 in
      (none_refuses (conditions d) (factor_of d) r.0, subst (λ (h : Stored). stores_just f h ≡ true) (sym r.1) t.2)

  pub intact_sound : Sound f
  unfolding applied_of
  intact_sound =
      let s = (set_up_sound (described f) g intact_accepted.0).1 in
      let h = and_true (same_high f.parts g.parts) _ intact_accepted.1 in
      let l = and_true (same_low f.parts g.parts) _ h.1 in
      let x = and_true (same_float binary32 f.applied.high g.applied.high) _ l.1 in
      let y = and_true (same_float binary32 f.applied.low g.applied.low) _ x.1 in
      record {
        precision = s.precision;
        lower_end = s.lower_end;
        upper_end = s.upper_end;
        ordered = s.ordered;
        scale = s.scale;
        same = s.same;
        parts = same_parts f.parts g.parts h.0 l.0;
        high_stored = eqb-true (to_bits binary32 f.applied.high) (to_bits binary32 g.applied.high) x.0;
        low_stored = eqb-true (to_bits binary32 f.applied.low) (to_bits binary32 g.applied.low) y.0;
      }

-- ---- what set-up gives is let through
pub accepted_intact : (d : Description) (f : Factor) → set_up d ≡ accepted f → intact f ≡ true
unfolding set_up
accepted_intact d f e =
    let t = only_accepted (conditions d) (factor_of d) f e in
    subst (λ (h : Factor). intact h ≡ true) t.1 (own t.0)
  where
    itself : (s : Stored) → stores_just (factor_with d s) s ≡ true
    itself s = simp (eqb_same, same_z_same)

    own : NoneHolds (conditions d) → intact (factor_of d) ≡ true
    own h = unfold intact applied_of in ap (given (factor_of d)) (none_refuses (conditions d) (stored_by d) h) ∙ itself (stored_by d)
