-- The engine of all factors is lawful: each search finds the least suspect of its half, in few rounds, and every significand that is not right is a suspect.
-- Assumes nothing.
use Rattle.std.specs.Prelude.{◌≡◌, [], ◌∷◌, true, false, not, ◌≢◌, ◌↔◌, ℕ, suc, ◌≤◌}
use Rattle.std.proofs.Common.{sym, subst, arith}
use Rattle.std.proofs.lemmas.Bool.{not-false}
use Rattle.marks.specs.declared.Mark.TheVariants.{Right}
use Rattle.marks.specs.Answers.{accepted}
use Rattle.marks.specs.AnswerLaws.{only_accepted}
use Rattle.rounding.specs.Round.{HasBits}
use Rattle.factor.specs.declared.Parts.{Parts}
use Rattle.factor.specs.declared.Factor.{Factor}
use Rattle.factor.specs.Precision.{range_out}
use Rattle.factor.specs.Context.{Context, Fine, context_of, lower_of, upper_of}
use Rattle.factor.proofs.ContextLaws.{fine_at}
use Rattle.factor.specs.Parts.{parts_at}
use Rattle.factor.specs.SetUp.{intact, Sound, checked}
use Rattle.factor.proofs.SetUpLaws.{intact_sound}
use Rattle.product.specs.Product.{product, product_by}
use Rattle.product.specs.Marks.{mark, SaysBy}
use Rattle.product.proofs.Demand2.{two_steps, mark_tells}
use Rattle.product.proofs.AnswerLaws.{in_range_lem}
use Rattle.suspects.specs.Suspects.{Suspect}
use Rattle.suspects.proofs.SuspectLaws.{suspect_iff, not_right_suspect}
use Rattle.suspects.proofs.NextLaws as next
use Rattle.calls.specs.Engine.{Half, low, high, Lawful}
use Rattle.calls.proofs.HalfLaws.{halves_chain, halves_tiled, halves_span, halves_finds}
use Rattle.calls.proofs.RefusalLaws as calls
use Rattle.calls.proofs.ListLaws.{word_laws}
use Rattle.sweep.specs.Engine.{suspect, high_from, find_in, most_rounds, mark_of, engine, suspect_in, most_in}

-- A factor that 31 does not refuse is sound.
pub sound_of : (f : Factor) → not (intact f) ≡ false → Sound f
sound_of f q = intact_sound f (not-false _ q)

-- What the check of a factor answers where it accepts one: that factor, which 31 does not refuse.
pub check_passed : {f g : Factor} → accepted g ≡ checked f → (not (intact f) ≡ false) × (f ≡ g)
check_passed {f} {g} is = let o = only_accepted ((31, not (intact f)) ∷ []) f g (sym is) in (o.0.0, o.1)

module _ (f : Factor) (s : Sound f) where
  abbrev n : ℕ
  n = f.precision

  abbrev K : Context
  K = context_of f

  abbrev L : ℕ
  L = lower_of f

  abbrev U : ℕ
  U = upper_of f

  two : 2 ≤ n
  two = omega (arith, s.precision)

  fine : Fine K
  fine = fine_at s.precision

  -- The test for a suspect is the definition of one.
  pub suspect_is : (X : ℕ) → suspect f X ≡ true ↔ Suspect K L U X
  suspect_is = suspect_iff K fine two L U s.lower_end s.upper_end s.ordered s.same

  -- The mark of a significand in range says what it must of every fraction between the ends.
  pub mark_is : (X : ℕ) → HasBits n X → SaysBy f X (product_by f X) (mark_of f X)
  mark_is X x = mark_tells f s X x (product_by f X) (two_steps f s X x).bits

  -- A search takes few rounds.
  pub few : (h : Half) (a : ℕ) → (find_in f h a).rounds ≤ most_rounds f
  few low a = omega (arith, s.precision, next.few_low K fine two L U s.lower_end s.upper_end s.same a)
  few high a = omega (arith, s.precision, next.few_high K fine two L U s.lower_end s.upper_end s.same a)

  not_right : (X : ℕ) → HasBits n X → mark_of f X ≢ Right → suspect f X ≡ true
  not_right X x q =
      let z : ¬ (mark K L U X (product K (parts_at K L) X) ≡ Right) = subst (λ (p : Parts). ¬ (mark K L U X (product K p X) ≡ Right)) s.parts q in
      (suspect_is X).1
      (not_right_suspect K fine two L U s.lower_end s.upper_end s.ordered s.same X x.least x.most z)

-- The engine is lawful.
pub lawful : Lawful suspect_in engine most_in
lawful =
    record {
      states = λ s.
          let r = calls.in_range_lem (range_out s.over.factor.precision s.over.first s.over.last) s in (
            (λ h. let i = r.0 h.1.0 in record { sound = (h.0, (i.0, tt)); there = i.1 }),
            (λ h. (h.sound.0, (r.1 (h.sound.1.0, h.there), tt))),
          );
      laws = λ u good.
          let f = u.factor in
          let s = sound_of f good.0 in
          let r = in_range_lem f.precision u.first u.last good.1.0 in
          record {
            ordered = r.ordered;
            begins = (calls.between u u.first).1 (omega arith, r.ordered);
            ends = (calls.between u u.last).1 (r.ordered, omega arith);
            between = λ X. (calls.between u X).0;
            had = λ X h k t. (calls.between u X).1 (h, k);
            lists = word_laws;
            suspected = λ X h k q. not_right f s X (record { least = omega (arith, r.first_bits.least); most = omega (arith, r.last_bits.most) }) q;
            chain = halves_chain (high_from f) u.first u.last r.ordered (find_in f);
            tiled = λ X h k t. halves_tiled (high_from f) u.first u.last r.ordered (find_in f) X h k;
            finds =
                halves_finds (high_from f) u.first u.last r.ordered (find_in f) (suspect f) (most_rounds f)
                (λ a end h k i. next.finds_low (context_of f) (fine f s) (two f s) (lower_of f) (upper_of f) s.lower_end s.upper_end s.same a end i)
                (λ a h k i. next.finds_high (context_of f) (fine f s) (two f s) (lower_of f) (upper_of f) s.lower_end s.upper_end s.same a (suc u.last) i)
                (few f s);
          };
      spans = λ s h p q.
          let i = (calls.between s.over s.next).0 h.there in
          halves_span (high_from s.over.factor) s.over.first s.over.last (omega arith) (find_in s.over.factor) (suspect_in s.over) s.next p i.0 q;
    }
