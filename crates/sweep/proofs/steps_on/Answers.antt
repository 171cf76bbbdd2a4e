-- A step may be made, its entry fits where it is written, and what is done so far and what is left to do are still all.
use Rattle.sweep.proofs.EngineLaws.{sound_of}
use Rattle.sweep.proofs.LoopLaws.{part_steps, part_stepped}
use Rattle.sweep.proofs.steps_on.Goals as goal

pub windows_of-windows-requires : goal.windows_of-windows-requires
windows_of-windows-requires c = sound_of c.args.s.factor c.requires.sound.0

pub step-requires : goal.step-requires
step-requires c = part_steps c.loop-next.invariant c.windows_of-windows.ensures

pub loop-next-smaller-in-Passed : goal.loop-next-smaller-in-Passed
loop-next-smaller-in-Passed c = (part_stepped c.loop-next.invariant c.step.ensures c.in-Passed.is).less

pub loop-next-preserved-in-Passed : goal.loop-next-preserved-in-Passed
loop-next-preserved-in-Passed c = (part_stepped c.loop-next.invariant c.step.ensures c.in-Passed.is).goes

pub overflow_cast-word : goal.overflow_cast-word
overflow_cast-word c = record { fits = (part_stepped c.loop-next.invariant c.step.ensures c.in-Listed.is).1 }

pub put_entry-requires : goal.put_entry-requires
put_entry-requires c = (part_stepped c.loop-next.invariant c.step.ensures c.in-Listed.is).0

pub loop-next-smaller : goal.loop-next-smaller
loop-next-smaller c = (part_stepped c.loop-next.invariant c.step.ensures c.in-Listed.is).2.less

pub loop-next-preserved : goal.loop-next-preserved
loop-next-preserved c = rw c.put_entry.ensures (part_stepped c.loop-next.invariant c.step.ensures c.in-Listed.is).2.goes

pub returns-in-Halted : goal.returns-in-Halted
returns-in-Halted c = part_stepped c.loop-next.invariant c.step.ensures c.in-Halted.is
