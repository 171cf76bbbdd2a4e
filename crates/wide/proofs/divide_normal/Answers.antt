-- The law of digit after digit at the base 2 ^ 32.
use Rattle.std.proofs.Common.{◌≡◌, ℕ, ◌+◌, ◌*◌, ◌/◌, ◌%◌, ◌^◌, ◌<◌, arith}
use Rattle.wide.specs.declared.Wide.{Wide}
use Rattle.wide.specs.Value.{value_of}
use Rattle.wide.specs.DivisionLaws.{quotient_lt, divided_next}
use Rattle.wide.proofs.Base.{B}
use Rattle.wide.proofs.divide_normal.Goals as goal

-- A number by its high word and the two digits of its low word.
by_digits : (u : Wide) → (u.hi * B + u.lo / B) * B + u.lo % B ≡ value_of u
by_digits u = omega arith

divided : (u : Wide) (d q r q' r' : ℕ) → u.hi < d → q ≡ (u.hi * B + u.lo / B) / d → r ≡ (u.hi * B + u.lo / B) % d
    → q' ≡ (r * B + u.lo % B) / d → r' ≡ (r * B + u.lo % B) % d → (q * B + q' ≡ value_of u / d) × (r' ≡ value_of u % d)
divided u d q r q' r' high eq er eq' er' =
    rw (by_digits u) at (divided_next B d (u.hi * B + u.lo / B) (u.lo % B) q r q' r' (omega arith) eq er eq' er')

pub overflow_add-result : goal.overflow_add-result
overflow_add-result c =
    let u = c.args.u in
    let first = c.quotient_digit-first in
    let second = c.quotient_digit-second in
    let whole = divided u c.args.d first.result.quotient first.result.remainder second.result.quotient second.result.remainder c.requires.1 first.ensures.quotient first.ensures.remainder second.ensures.quotient second.ensures.remainder in
    record { fits = rw whole.0 (quotient_lt (2 ^ 64) u.hi u.lo c.args.d c.requires.1 (omega arith)) }

pub returns : goal.returns
returns c =
    let first = c.quotient_digit-first in
    let second = c.quotient_digit-second in
    let whole = divided c.args.u c.args.d first.result.quotient first.result.remainder second.result.quotient second.result.remainder c.requires.1 first.ensures.quotient first.ensures.remainder second.ensures.quotient second.ensures.remainder in
    record { quotient = whole.0; remainder = whole.1 }
