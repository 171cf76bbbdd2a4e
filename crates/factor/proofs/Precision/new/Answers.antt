-- What a precision answers: whether the one condition holds.
use Rattle.std.proofs.Common.{◌≡◌, ◌||◌, true, ltb, ap₂, inl, inr, lt-ltb, le-ltb}
use Rattle.marks.specs.AnswerLaws.{pass, stop, end, refuses, accepts}
use Rattle.factor.proofs.ContextLaws.{valid_of}
use Rattle.factor.proofs.Precision.new.Goals as goal

pub returns-then-bits-lt-LEAST : goal.returns-then-bits-lt-LEAST
returns-then-bits-lt-LEAST c =
    let n = c.args.bits in
    let out : ltb n 4 || ltb 24 n ≡ true = elim c.then-bits-lt-LEAST.either [
      | inl low ↦ rw (lt-ltb n 4 low)
      | inr high ↦ ap₂ ◌||◌ (le-ltb _ _ high.0) (lt-ltb _ _ high.1)
    ] in
    refuses (stop out) _

pub invariant_of-result : goal.invariant_of-result
invariant_of-result c = record { valid = valid_of c.if-bits-lt-LEAST.false c.if-bits-gt-MOST.false }

pub returns : goal.returns
returns c = accepts (pass (ap₂ ◌||◌ (le-ltb _ _ c.if-bits-lt-LEAST.false) (le-ltb _ _ c.if-bits-gt-MOST.false)) end) _
