-- The search ahead, and the trial where the call does not stop.
use Rattle.std.proofs.Common.{arith}
use Rattle.sweep.proofs.StepLaws.{step_sound, step_last, step_rounds, found_bits, step_room, stop_step, trial_step, over_step}
use Rattle.sweep.proofs.step.Goals as goal

pub ahead-found-requires : goal.ahead-found-requires
ahead-found-requires c =
    let k = c.requires in
    (record { of = c.args.s.factor; sound = step_sound k; are = k.are }, omega (arith, step_last k))

pub overflow_add-rounds : goal.overflow_add-rounds
overflow_add-rounds c = record { fits = step_rounds c.requires c.ahead-found.ensures }

pub returns-in-Some : goal.returns-in-Some
returns-in-Some c = stop_step c.requires c.ahead-found.ensures c.in-Some.is c.must_stop.ensures c.if-must_stop.true c.halted.ensures

pub invariant_of-suspect : goal.invariant_of-suspect
invariant_of-suspect c = record { sound = step_sound c.requires; in_range = found_bits c.requires c.ahead-found.ensures c.in-Some-2.is }

pub tried-requires : goal.tried-requires
tried-requires c =
    step_room c.requires c.ahead-found.ensures c.in-Some-2.is c.must_stop.ensures c.if-must_stop.false (omega arith) (omega arith)

pub returns-in-Some-2 : goal.returns-in-Some-2
returns-in-Some-2 c =
    trial_step c.requires c.ahead-found.ensures c.in-Some-2.is c.must_stop.ensures c.if-must_stop.false c.trial.ensures c.tried.ensures

pub returns-in-None : goal.returns-in-None
returns-in-None c = over_step c.requires c.ahead-found.ensures c.in-None.is c.halted-in-None.ensures
