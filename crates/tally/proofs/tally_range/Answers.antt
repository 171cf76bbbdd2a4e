-- Refused, or the counts of what 31, 17 and 41 let through.
use Rattle.std.proofs.Common.{◌≡◌, sym, ap, ◌∙◌, ℕ, ◌+◌, ◌-◌, ◌≤◌, ◌<◌, Bool, false, not, [], ◌∷◌, arith}
use Rattle.marks.specs.Answers.{accepted}
use Rattle.marks.specs.AnswerLaws.{only_accepted, said_err}
use Rattle.factor.specs.declared.Factor.{Factor}
use Rattle.factor.specs.Precision.{range_out}
use Rattle.factor.specs.SetUp.{intact, checked}
use Rattle.product.proofs.AnswerLaws.{in_range_lem}
use Rattle.tally.specs.Tally.{counts_of, mark_once, most_tallied, span_length}
use Rattle.tally.proofs.TallyLaws.{damaged, out_of_range, too_long, counted}
use Rattle.tally.proofs.tally_range.Goals as goal

-- f, which 31 let through as g
module _ (f g : Factor) (is : accepted g ≡ checked f) where
  intact_is : not (intact f) ≡ false
  intact_is = (only_accepted ((31, not (intact f)) ∷ []) f g (sym is)).0.0

  same : f ≡ g
  same = (only_accepted ((31, not (intact f)) ∷ []) f g (sym is)).1

  -- 17 as it was judged, by a precision of g
  judged : {n : ℕ} {b r : Bool} (first last : ℕ) → n ≡ g.precision → r ≡ range_out n first last → r ≡ b → range_out f.precision first last ≡ b
  judged first last n_is r_is e = ap (λ (n : ℕ). range_out n first last) (ap (λ (z : Factor). z.precision) same ∙ sym n_is) ∙ sym r_is ∙ e

-- a range that 17 let through, by what its last is above its first
long : (n first last : ℕ) → range_out n first last ≡ false → most_tallied < last - first + 1 → most_tallied < span_length first last
long n first last e h = omega (arith, (in_range_lem n first last e).ordered)

short : (n first last : ℕ) → range_out n first last ≡ false → last - first + 1 ≤ most_tallied → span_length first last ≤ most_tallied
short n first last e h = omega (arith, (in_range_lem n first last e).ordered)

pub returns-in_err-sound : goal.returns-in_err-sound
returns-in_err-sound c = said_err _ c.from_residual.result c.from_residual.ensures.1 ∙ damaged c.args.f c.args.first c.args.last c.in_err-sound.ensures

pub returns-then-range_out : goal.returns-then-range_out
returns-then-range_out c =
    let a = c.args in
    let is = c.in_ok-sound.ensures in
    out_of_range a.f a.first a.last (intact_is a.f _ is) (judged a.f _ is a.first a.last c.precision.ensures c.range_out.ensures c.if-range_out.true)

pub returns-then-last-first-gt-MOST_TALLIED : goal.returns-then-last-first-gt-MOST_TALLIED
returns-then-last-first-gt-MOST_TALLIED c =
    let a = c.args in
    let is = c.in_ok-sound.ensures in
    let within = judged a.f _ is a.first a.last c.precision.ensures c.range_out.ensures c.if-range_out.false in
    too_long a.f a.first a.last (intact_is a.f _ is) within (long a.f.precision a.first a.last within c.if-last-first-gt-MOST_TALLIED.true)

pub returns : goal.returns
returns c =
    let a = c.args in
    let is = c.in_ok-sound.ensures in
    let within = judged a.f _ is a.first a.last c.precision.ensures c.range_out.ensures c.if-range_out.false in
    ap accepted (c.count.ensures ∙ ap (λ (f : Factor). counts_of (mark_once f) a.first (span_length a.first a.last)) (sym (same a.f _ is)))
    ∙ counted a.f a.first a.last (intact_is a.f _ is) within (short a.f.precision a.first a.last within c.if-last-first-gt-MOST_TALLIED.false)
