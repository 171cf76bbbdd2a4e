-- Laws of the tally: its counts add up to the length of the span, and those of adjoining spans to the whole's, for any list of adjoining calls; and a factor's sign does not matter to it. Assumes nothing.
use Rattle.std.specs.Prelude.{◌≡◌, refl, Bool, true, false, [], ◌∷◌, ℕ, zero, suc, ◌+◌, ◌-◌, ◌≤◌, ◌<◌, ltb}
use Rattle.std.proofs.Math.Path.{sym}
use Rattle.std.proofs.Common.{ap, ap₂, ◌∙◌, add-zero, add_assoc, lt_of_not-le, arith, ltb-false, lt-ltb, le-ltb}
use Rattle.std.proofs.Math.Bool.{not}
use Rattle.std.proofs.Math.Decide.{dec_le}
use Rattle.std.proofs.lemmas.Bool.{not-false}
use Rattle.marks.specs.declared.Mark.{Mark}
use Rattle.marks.specs.declared.Mark.TheVariants.{Right, Open, Wrong}
use Rattle.marks.specs.Answers.{NoneHolds, refused, accepted, answer}
use Rattle.marks.specs.AnswerLaws.{pass, stop, end, refuses, accepts, only_accepted, refused_first}
use Rattle.factor.specs.declared.Factor.{Factor}
use Rattle.factor.specs.Precision.{range_out}
use Rattle.factor.specs.SetUp.{intact, checked, Sound}
use Rattle.factor.proofs.SetUpLaws.{intact_sound}
use Rattle.factor.proofs.Signs.{factor_as, intact_signed}
use Rattle.product.specs.Answer.{InRange}
use Rattle.product.proofs.AnswerLaws.{in_range_lem, range_in}
use Rattle.tally.specs.declared.Counts.{Counts}
use Rattle.tally.specs.Tally.{one, how_many, counts_of, nothing, together, mark_once, most_tallied, span_length, conditions, tallied}

-- ---- whoever marks
module _ (marks : ℕ → Mark) where
  -- a significand has just one mark
  just_one : (m : Mark) → one Right m + one Wrong m + one Open m ≡ 1
  just_one Right = refl
  just_one Wrong = refl
  just_one Open = refl

  -- so the three counts add up to the length of the span
  pub adds_up : (first count : ℕ) → how_many marks Right first count + how_many marks Wrong first count + how_many marks Open first count ≡ count
  adds_up first zero = omega arith
  adds_up first (suc count) = omega (arith, adds_up first count, just_one (marks (first + count)))

  -- and those of two spans, the second behind the first, to those of both
  pub joined : (m : Mark) (first i j : ℕ) → how_many marks m first i + how_many marks m (first + i) j ≡ how_many marks m first (i + j)
  joined m first i zero = add-zero (how_many marks m first i) ∙ ap (how_many marks m first) (sym (add-zero i))
  joined m first i (suc j) =
      let next : i + suc j ≡ suc (i + j) = omega arith in
      omega (arith, joined m first i j, ap (λ (z : ℕ). one m (marks z)) (add_assoc first i j), ap (how_many marks m first) next)

  pub joined_counts : (first i j : ℕ) → together (counts_of marks first i) (counts_of marks (first + i) j) ≡ counts_of marks first (i + j)
  joined_counts first i j = λ k. record { rights = joined Right first i j k; wrongs = joined Wrong first i j k; opens = joined Open first i j k }

-- ---- calls
-- what 31 and 17 let through: a sound factor, and a range of its significands
pub range_through : (f : Factor) (first last : ℕ) → NoneHolds (conditions f first last) → Sound f × InRange f.precision first last
range_through f first last h = (intact_sound f (not-false _ h.0), in_range_lem f.precision first last h.1.0)

-- what a call answers, by its three tests: 31 by the factor alone, then 17, then 41, and else the counts
module _ (f : Factor) (first last : ℕ) where
  pub damaged : {k : ℕ} → refused k ≡ checked f → refused k ≡ tallied f first last
  unfolding tallied
  damaged {k} e = refused_first ((31, not (intact f)) ∷ []) _ f _ k e

  module _ (sound : not (intact f) ≡ false) where
    pub out_of_range : range_out f.precision first last ≡ true → refused 17 ≡ tallied f first last
    unfolding tallied
    out_of_range e = refuses (pass sound (stop e)) (counts_of (mark_once f) first (span_length first last))

    module _ (within : range_out f.precision first last ≡ false) where
      pub too_long : most_tallied < span_length first last → refused 41 ≡ tallied f first last
      unfolding tallied
      too_long h = refuses (pass sound (pass within (stop (lt-ltb most_tallied (span_length first last) h)))) (counts_of (mark_once f) first (span_length first last))

      pub counted : span_length first last ≤ most_tallied → accepted (counts_of (mark_once f) first (span_length first last)) ≡ tallied f first last
      unfolding tallied
      counted h = accepts (pass sound (pass within (pass (le-ltb most_tallied (span_length first last) h) end))) (counts_of (mark_once f) first (span_length first last))

-- an accepted one is the counts of its range, which has at most 65,536 significands
pub record Told (f : Factor) (first last : ℕ) (t : Counts) : Type 0 where
  pub sound : Sound f
  pub range : InRange f.precision first last
  pub short : span_length first last ≤ most_tallied
  pub counts : t ≡ counts_of (mark_once f) first (span_length first last)
  -- which add up to its length
  pub sum : t.rights + t.wrongs + t.opens ≡ span_length first last

pub told : (f : Factor) (first last : ℕ) (t : Counts) → tallied f first last ≡ accepted t → Told f first last t
unfolding tallied
told f first last t e =
    let o = only_accepted (conditions f first last) (counts_of (mark_once f) first (span_length first last)) t e in
    let r = range_through f first last o.0 in
    record { sound = r.0; range = r.1; short = ltb-false most_tallied (span_length first last) o.0.1.1.0; counts = sym o.1; sum = rw (sym o.1) (adds_up (mark_once f) first (span_length first last)) }

-- ---- adjoining calls
-- calls, all accepted, each over the range right behind that of the one before, from `first` to below `end`, and their counts added up
pub data Adjoining (f : Factor) : (first end : ℕ) → Counts → Type 0 where
  none_left : (end : ℕ) → Adjoining f end end nothing
  call : (first last end : ℕ) (t rest : Counts) → tallied f first last ≡ accepted t → Adjoining f (suc last) end rest → Adjoining f first end (together t rest)

-- they add up to the counts of the whole, however long it is
pub tallies_add : (f : Factor) (first end : ℕ) (t : Counts) → Adjoining f first end t → (first ≤ end) × (t ≡ counts_of (mark_once f) first (end - first))
tallies_add f first end t (none_left _) = let none : 0 ≡ end - end = omega arith in (omega arith, ap (counts_of (mark_once f) end) none)
tallies_add f first end t (call _ last _ own others answered rest) =
    let a = told f first last own answered in
    let b = tallies_add f (suc last) end others rest in
    let i = span_length first last in
    let j = end - suc last in
    let next : first + i ≡ suc last = omega (arith, a.range.ordered) in
    let whole : i + j ≡ end - first = omega (arith, a.range.ordered, b.0) in (
      omega (arith, a.range.ordered, b.0),
      ap₂ together a.counts (b.1 ∙ ap (λ (z : ℕ). counts_of (mark_once f) z j) (sym next)) ∙ joined_counts (mark_once f) first i j ∙ ap (counts_of (mark_once f) first) whole,
    )

-- ---- and every range that 17 lets through is covered so, however long: by calls of 65,536 significands, and a last one of what is left
module _ (f : Factor) (good : intact f ≡ true) (last : ℕ) where
  abbrev Covered : ℕ → Type 0
  Covered first = (t : Counts) × Adjoining f first (suc last) t

  one_call : (first to : ℕ) → InRange f.precision first to → span_length first to ≤ most_tallied → tallied f first to ≡ accepted (counts_of (mark_once f) first (span_length first to))
  one_call first to r short = sym (counted f first to (ap not good) (range_in f.precision first to r) short)

  last_call : (first : ℕ) → InRange f.precision first last → span_length first last ≤ most_tallied → Covered first
  last_call first r short = (_, call first last (suc last) _ nothing (one_call first last r short) (none_left (suc last)))

  full_call : (first : ℕ) → InRange f.precision first last → most_tallied < span_length first last → Covered (suc (first + (most_tallied - 1))) → Covered first
  full_call first r long (t, rest) =
      let to = first + (most_tallied - 1) in
      let r' : InRange f.precision first to = record { first_bits = r.first_bits; last_bits = record { least = omega (arith, r.first_bits.least); most = omega (arith, r.last_bits.most) }; ordered = omega arith } in
      (_, call first to (suc last) _ t (one_call first to r' (omega arith)) rest)

  -- from `first` on, where so many calls are enough
  covered : (calls first : ℕ) → InRange f.precision first last → last ≤ calls + first → Covered first
  covered zero first r enough = last_call first r (omega arith)
  covered (suc calls) first r enough = by (dec_le (span_length first last) most_tallied) (λ long. covered calls (suc (first + (most_tallied - 1))) (after long) (omega arith))
    where
      after : most_tallied < span_length first last → InRange f.precision (suc (first + (most_tallied - 1))) last
      after long = record { first_bits = record { least = omega (arith, r.first_bits.least); most = omega (arith, r.last_bits.most) }; last_bits = r.last_bits; ordered = omega arith }

      by : Dec (span_length first last ≤ most_tallied) → (most_tallied < span_length first last → Covered (suc (first + (most_tallied - 1)))) → Covered first
      by (yes short) rest = last_call first r short
      by (no long) rest = full_call first r (lt_of_not-le long) (rest (lt_of_not-le long))

  pub tallies_reach : (first : ℕ) → range_out f.precision first last ≡ false → Covered first
  tallies_reach first e = covered last first (in_range_lem f.precision first last e) (omega arith)

  -- where one call may take the whole, it answers the same
  pub tallies_whole : (first : ℕ) (t : Counts) → Adjoining f first (suc last) t → range_out f.precision first last ≡ false → span_length first last ≤ most_tallied → tallied f first last ≡ accepted t
  tallies_whole first t calls e short = one_call first last (in_range_lem f.precision first last e) short ∙ ap accepted (sym (tallies_add f first (suc last) t calls).1)

-- a factor with another sign is tallied alike
pub tally_signed : (s : Bool) (f : Factor) (first last : ℕ) → tallied (factor_as s f) first last ≡ tallied f first last
unfolding tallied
tally_signed s f first last = ap (λ (i : Bool). answer ((31, not i) ∷ (17, range_out f.precision first last) ∷ (41, ltb most_tallied (span_length first last)) ∷ []) (counts_of (mark_once f) first (span_length first last))) (intact_signed s f)
