-- 24 is judged first.
use Rattle.std.proofs.Common.{ap, ◌∙◌}
use Rattle.marks.specs.Answers.{Outcome, and_then}
use Rattle.marks.specs.AnswerLaws.{said_err}
use Rattle.factor.specs.declared.Description.{Description}
use Rattle.factor.specs.SetUp.{set_up}
use Rattle.stream.specs.Output.{judged_line}
use Rattle.stream.proofs.judge.Goals as goal

pub returns : goal.returns
unfolding judged_line
returns c = c.set_up.ensures ∙ ap (λ (a : Outcome Description). and_then a set_up) c.in_ok-read_frame.ensures

pub returns-in_err-read_frame : goal.returns-in_err-read_frame
unfolding judged_line
returns-in_err-read_frame c =
    said_err _ c.from_residual.result c.from_residual.ensures.1 ∙ ap (λ (a : Outcome Description). and_then a set_up) c.in_err-read_frame.ensures
