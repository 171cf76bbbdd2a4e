-- The law of the digits by parts at the width 64.
use Rattle.std.proofs.Common.{sym, ap, ◌∙◌, ℕ, ◌+◌, arith}
use Rattle.wide.specs.DigitLaws.{size_by_parts}
use Rattle.wide.proofs.Wide.digits.Goals as goal

pub returns-else-self-eq0-clause-count : goal.returns-else-self-eq0-clause-count
returns-else-self-eq0-clause-count c =
    let u = c.args.self in
    ap (λ (n : ℕ). 64 + n) c.word_digits-else-self-eq0.ensures.count ∙ sym (size_by_parts 64 u.hi u.lo (omega arith) (omega arith))
