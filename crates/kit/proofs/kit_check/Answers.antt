-- The first refusal of a kit whose condition holds: 42, 31, 43.
use Rattle.std.proofs.Common.{sym, ◌∙◌, rules}
use Rattle.marks.specs.AnswerLaws.{pass, stop, end}
use Rattle.kit.specs.Answers.{kit_of}
use Rattle.kit.specs.StateLaws.{number_refused, number_passed}
use Rattle.kit.proofs.kit_check.Goals as goal

pub returns-then-k-eq0 : goal.returns-then-k-eq0
returns-then-k-eq0 c = stop (number_refused (kit_of c.args.k) (search rules) c.then-k-eq0.either)

pub returns-then-any_faulty : goal.returns-then-any_faulty
returns-then-any_faulty c =
    pass (number_passed (kit_of c.args.k) (search rules) c.if-k-eq0.false c.if-k-gt-MOST_FACTORS.false) (stop (sym c.any_faulty.ensures ∙ c.if-any_faulty.true))

pub returns-then-two_alike : goal.returns-then-two_alike
returns-then-two_alike c =
    pass (number_passed (kit_of c.args.k) (search rules) c.if-k-eq0.false c.if-k-gt-MOST_FACTORS.false)
    (pass (sym c.any_faulty.ensures ∙ c.if-any_faulty.false) (stop (sym c.two_alike.ensures ∙ c.if-two_alike.true)))

pub returns : goal.returns
returns c =
    pass (number_passed (kit_of c.args.k) (search rules) c.if-k-eq0.false c.if-k-gt-MOST_FACTORS.false)
    (pass (sym c.any_faulty.ensures ∙ c.if-any_faulty.false) (pass (sym c.two_alike.ensures ∙ c.if-two_alike.false) end))
