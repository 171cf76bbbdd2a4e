-- The input from a place on is its byte there and the rest.
use Rattle.std.proofs.Common.{sym, ap, ◌∙◌, drop-cons, lt-ltb}
use Rattle.stream.specs.Step.{wants_step}
use Rattle.stream.proofs.wants_step.Goals as goal

pub returns-then-at-input : goal.returns-then-at-input
returns-then-at-input c = lt-ltb _ _ c.if-at-input.true ∙ sym (ap (wants_step _) (drop-cons _ _ 0 c.if-at-input.true))
