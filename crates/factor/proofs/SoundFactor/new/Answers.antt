-- What a factor answers: whether the one condition holds.
use Rattle.std.proofs.Common.{sym, ap, not}
use Rattle.marks.specs.AnswerLaws.{pass, stop, end, refuses, accepts}
use Rattle.factor.proofs.SetUpLaws.{intact_sound}
use Rattle.factor.proofs.SoundFactor.new.Goals as goal

pub returns-then-not-is_intact : goal.returns-then-not-is_intact
returns-then-not-is_intact c = refuses (stop (ap not (sym (c.if-not-is_intact.ensures)))) c.args.factor

pub invariant_of-result : goal.invariant_of-result
invariant_of-result c = record { sound = intact_sound c.args.factor (sym (c.if-not-is_intact.ensures)) }

pub returns : goal.returns
returns c = accepts (pass (ap not (sym (c.if-not-is_intact.ensures))) end) c.args.factor
