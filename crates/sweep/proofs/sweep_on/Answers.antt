-- The steps from the next significand on are the call.
use Rattle.std.proofs.Common.{ap, ◌∙◌, arith}
use Rattle.marks.specs.Answers.{accepted}
use Rattle.calls.specs.Call.{Result}
use Rattle.sweep.proofs.LoopLaws.{whole_asked, whole_done}
use Rattle.sweep.proofs.sweep_on.Goals as goal

pub steps_on-requires : goal.steps_on-requires
steps_on-requires c = let a = c.args in whole_asked a.s a.cap a.tail.now c.requires c.begun.ensures

pub returns : goal.returns
returns c =
    let a = c.args in
    let made = whole_done a.s a.cap a.tail.now c.requires c.begun.ensures c.steps_on.ensures.0 c.steps_on.ensures.1 in
    let e = c.ended.ensures in (
      (λ i. record { answer = accepted (e.1 i); state = e.0 i; list = c.steps_on.new.tail }) ∙ made.0,
      omega (arith, ap (λ (r : Result). r.place) e.1, made.1),
    )
