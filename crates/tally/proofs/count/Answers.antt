-- The first significand's cuts, and what one significand more makes of the counts and of both cuts.
use Rattle.std.proofs.Common.{◌≡◌, sym, ap, ap₂, ◌∙◌, le_trans, ℕ, suc, ◌+◌, ◌-◌, ◌*◌, ◌^◌, ◌≤◌, ◌<◌, arith}
use Rattle.marks.specs.declared.Mark.{Mark}
use Rattle.rounding.specs.Round.{HasBits}
use Rattle.wide.specs.Value.{word_bits, value_of}
use Rattle.wide.specs.declared.Wide.{Wide}
use Rattle.round.specs.declared.Cut.{Cut}
use Rattle.round.specs.Cuts.{cut_at}
use Rattle.factor.specs.declared.Factor.{Factor}
use Rattle.factor.specs.Precision.{scale_of}
use Rattle.factor.specs.Context.{context_of, lower_of, upper_of}
use Rattle.factor.specs.Ends.{End}
use Rattle.factor.specs.SetUp.{Sound}
use Rattle.product.specs.Answer.{InRange}
use Rattle.product.proofs.StepLaws.{significand_word}
use Rattle.tally.specs.declared.Counts.{Counts}
use Rattle.tally.specs.Tally.{with_one, counts_of, mark_once}
use Rattle.tally.proofs.TallyLaws.{adds_up}
use Rattle.tally.proofs.Laws.{kept_word, addable, next_cut}
use Rattle.tally.proofs.count.Goals as goal

-- ---- the counts
module _ (marks : ℕ → Mark) (first : ℕ) (t : Counts) (x : ℕ) (from : first ≤ x) (is : t ≡ counts_of marks first (x - first)) where
  one_more : with_one t (marks x) ≡ counts_of marks first (x + 1 - first)
  one_more =
      let next : x + 1 - first ≡ suc (x - first) = omega arith in
      let at : first + (x - first) ≡ x = omega arith in
      ap₂ (λ (t : Counts) (z : ℕ). with_one t (marks z)) is (sym at) ∙ ap (counts_of marks first) (sym next)

  small : x < 2 ^ 32 → (t.rights < 2 ^ 32) × (t.wrongs < 2 ^ 32) × (t.opens < 2 ^ 32)
  small h =
      let sum = adds_up marks first (x - first) in
      rw is (omega (arith, sum), omega (arith, sum), omega (arith, sum))

-- ---- a significand of the range
module _ (f : Factor) (s : Sound f) (first last : ℕ) (r : InRange f.precision first last) (x : ℕ) (lo : first ≤ x) (hi : x ≤ last) where
  x_bits : HasBits f.precision x
  x_bits = record { least = le_trans r.first_bits.least lo; most = omega (arith, r.last_bits.most) }

  x_small : x < 2 ^ 32
  x_small = significand_word f.precision x s.precision x_bits

-- ---- an end's product with the first significand, e being the scale of the ends
cuttable : (f : Factor) (s : Sound f) (L : ℕ) → End (context_of f) L → (e : ℕ) → e ≡ scale_of f.precision → (X : ℕ) → HasBits f.precision X → (u : Wide) → value_of u ≡ L * X → (e < word_bits) × (value_of u < 2 ^ (word_bits + e))
cuttable f s L end e at X x u is = (rw at (omega (arith, s.precision)), rw is (kept_word f s L end e at X x))

cut_is : (n e : ℕ) → e ≡ scale_of n → (c : Cut) (u : Wide) (y : ℕ) → c ≡ cut_at e (value_of u) → value_of u ≡ y → c ≡ cut_at (scale_of n) y
cut_is n e at c u y c_is u_is = c_is ∙ ap₂ cut_at at u_is

pub cut_wide-lower-requires : goal.cut_wide-lower-requires
cut_wide-lower-requires c =
    let f = c.args.f.factor in
    let s = c.args.f.sound in
    cuttable f s (lower_of f) s.lower_end _ (c.scale-e.ensures ∙ ap scale_of c.precision.ensures) c.args.first c.requires.first_bits c.product_by_digit.result c.product_by_digit.ensures

pub cut_wide-upper-requires : goal.cut_wide-upper-requires
cut_wide-upper-requires c =
    let f = c.args.f.factor in
    let s = c.args.f.sound in
    cuttable f s (upper_of f) s.upper_end _ (c.scale-e.ensures ∙ ap scale_of c.precision.ensures) c.args.first c.requires.first_bits c.product_by_digit-2.result c.product_by_digit-2.ensures

pub loop-x-init : goal.loop-x-init
loop-x-init c =
    let f = c.args.f.factor in
    let none : 0 ≡ c.args.first - c.args.first = omega arith in
    let at = c.scale-e.ensures ∙ ap scale_of c.precision.ensures in
    record {
      from = omega arith;
      counts = ap (counts_of (mark_once f) c.args.first) none;
      lower_is = cut_is f.precision _ at _ _ _ c.cut_wide-lower.ensures c.product_by_digit.ensures;
      upper_is = cut_is f.precision _ at _ _ _ c.cut_wide-upper.ensures c.product_by_digit-2.ensures;
    }

pub mark_once-requires : goal.mark_once-requires
mark_once-requires c = let i = c.loop-x.invariant in (i.lower_is, i.upper_is)

pub with_one-t-requires : goal.with_one-t-requires
with_one-t-requires c =
    let a = c.args in
    let hi : c.loop-x.x ≤ a.last = omega arith in
    let i = c.loop-x.invariant in
    small (mark_once a.f.factor) a.first _ _ i.from i.counts (x_small a.f.factor a.f.sound a.first a.last c.requires _ i.from hi)

pub cut_sum-lower-requires : goal.cut_sum-lower-requires
cut_sum-lower-requires c =
    let a = c.args in
    let hi : c.loop-x.x ≤ a.last = omega arith in
    let f = a.f.factor in
    let s = a.f.sound in
    let i = c.loop-x.invariant in
    addable f s (lower_of f) s.lower_end _ (c.scale-e.ensures ∙ ap scale_of c.precision.ensures) _ (x_bits f s a.first a.last c.requires _ i.from hi) _ i.lower_is _ c.cut_word-lower_step.ensures

pub cut_sum-upper-requires : goal.cut_sum-upper-requires
cut_sum-upper-requires c =
    let a = c.args in
    let hi : c.loop-x.x ≤ a.last = omega arith in
    let f = a.f.factor in
    let s = a.f.sound in
    let i = c.loop-x.invariant in
    addable f s (upper_of f) s.upper_end _ (c.scale-e.ensures ∙ ap scale_of c.precision.ensures) _ (x_bits f s a.first a.last c.requires _ i.from hi) _ i.upper_is _ c.cut_word-upper_step.ensures

pub loop-x-preserved : goal.loop-x-preserved
loop-x-preserved c =
    let a = c.args in
    let hi : c.loop-x.x ≤ a.last = omega arith in
    let f = a.f.factor in
    let s = a.f.sound in
    let i = c.loop-x.invariant in
    let at = c.scale-e.ensures ∙ ap scale_of c.precision.ensures in
    let bits = x_bits f s a.first a.last c.requires c.loop-x.x i.from hi in
    record {
      from = omega (arith, i.from);
      counts = rw (c.with_one-t.ensures, c.mark_once.ensures) (one_more (mark_once f) a.first _ _ i.from i.counts);
      lower_is = next_cut f s (lower_of f) s.lower_end _ at _ bits _ i.lower_is _ c.cut_word-lower_step.ensures _ c.cut_sum-lower.ensures;
      upper_is = next_cut f s (upper_of f) s.upper_end _ at _ bits _ i.upper_is _ c.cut_word-upper_step.ensures _ c.cut_sum-upper.ensures;
    }

pub returns-2 : goal.returns-2
returns-2 c =
    let a = c.args in
    let i = c.loop-x.invariant in
    let whole : c.loop-x.x + 1 - a.first ≡ suc a.last - a.first = omega arith in
    rw (c.with_one-t.ensures, c.mark_once.ensures) (one_more (mark_once a.f.factor) a.first _ _ i.from i.counts) ∙ ap (counts_of (mark_once a.f.factor) a.first) whole
