-- What is let through has a sound factor, and a significand of its digits.
use Rattle.reading.proofs.AnswerLaws.{ready}
use Rattle.reading.proofs.Taken.operands.Goals as goal

pub invariant_of-result : goal.invariant_of-result
invariant_of-result c =
    let r = ready _ _ c.args.self.readable in
    record { sound = r.sound; in_range = rw c.significand_of.ensures r.bits }
