-- The laws of an estimated digit at the base 2 ^ 32.
use Rattle.std.proofs.Common.{ℕ, ◌+◌, ◌*◌, ◌/◌, ◌%◌, ◌≤◌, ◌<◌, arith}
use Rattle.wide.specs.Value.{half_word}
use Rattle.wide.specs.Division.{Estimate}
use Rattle.wide.specs.DivisionLaws.{estimated, estimate_right, one_too_large, two_too_large}
use Rattle.wide.proofs.Base.{B}
use Rattle.wide.proofs.quotient_digit.Goals as goal

-- The high part over the divisor's upper digit, which is at least half the base.
known : (high low d : ℕ) → half_word ≤ d → high < d → low < B
    → Estimate (high * B + low) d (high / (d / B)) (high % (d / B) * B + low) (high / (d / B) * (d % B))
known high low d top less digit = estimated B d high low (omega arith) less digit

pub returns-then-taken-left : goal.returns-then-taken-left
returns-then-taken-left c =
    let right = estimate_right (known c.args.high c.args.low c.args.d c.requires.0 c.requires.1 c.requires.2) c.if-taken-left.true in
    record { quotient = right.0; remainder = right.1 }

pub returns-then-taken-left-2 : goal.returns-then-taken-left-2
returns-then-taken-left-2 c =
    let one = one_too_large (known c.args.high c.args.low c.args.d c.requires.0 c.requires.1 c.requires.2) c.if-taken-left.false c.if-taken-left-2.true in
    record { quotient = one.0; remainder = one.1 }

pub returns-else-taken-left-2 : goal.returns-else-taken-left-2
returns-else-taken-left-2 c =
    let two = two_too_large (known c.args.high c.args.low c.args.d c.requires.0 c.requires.1 c.requires.2) c.if-taken-left-2.false in
    record { quotient = two.0; remainder = two.1 }
