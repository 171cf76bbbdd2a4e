-- Each refusal stands under its condition.
use Rattle.std.proofs.Common.{sym, ap, ◌∙◌, lt-ltb, le-ltb}
use Rattle.marks.specs.Answers.{accepted}
use Rattle.marks.specs.AnswerLaws.{pass, stop, end, refuses, accepts}
use Rattle.exports.specs.Answers.{taken}
use Rattle.exports.proofs.take_factor.Goals as goal
use Rattle.exports.proofs.take_factor.Goals.{then-words-due-via-then-words-due, then-words-due-via-else-words-due+then-room-needed}

pub returns-then-words-due : goal.returns-then-words-due
unfolding taken
returns-then-words-due c =
    elim c.then-words-due.branch [
      | then-words-due-via-then-words-due w ↦ refuses (stop (lt-ltb _ _ w.if-words-due.true)) _
      | then-words-due-via-else-words-due+then-room-needed w ↦ refuses (pass (le-ltb _ _ w.if-words-due.false) (stop (lt-ltb _ _ w.if-room-needed.true))) _
    ]

pub returns-then-is_damaged : goal.returns-then-is_damaged
unfolding taken
returns-then-is_damaged c =
    refuses (pass (le-ltb _ _ c.if-words-due.false) (pass (le-ltb _ _ c.if-room-needed.false) (stop (sym c.is_damaged.ensures ∙ c.if-is_damaged.true)))) _

pub returns : goal.returns
unfolding taken
returns c =
    ap accepted c.factor_from.ensures
    ∙ accepts (pass (le-ltb _ _ c.if-words-due.false) (pass (le-ltb _ _ c.if-room-needed.false) (pass (sym c.is_damaged.ensures ∙ c.if-is_damaged.false) end))) _
