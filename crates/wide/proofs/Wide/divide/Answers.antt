-- Times 2 ^ k, with k the divisor's leading zeros, the divisor has its highest digit set, and the quotient is the same.
use Rattle.std.proofs.Common.{sym, ap, ◌∙◌, ℕ, ◌/◌, ◌%◌, ◌^◌, mod-eq_of_lt, pow_pos, arith}
use Rattle.std.proofs.lemmas.Nat.{shl-shr}
use Rattle.std.specs.Int.Count.{count_leading_zeros}
use Rattle.wide.specs.Value.{value_of}
use Rattle.wide.specs.DigitLaws.{normal_by_zeros}
use Rattle.wide.specs.DivisionLaws.{divided_scaled, raised_high_lt, raised_room}
use Rattle.wide.proofs.Wide.divide.Goals as goal

pub shl-requires : goal.shl-requires
shl-requires c =
    let u = c.args.self in
    let d = c.args.d in
    let normal = normal_by_zeros 64 d (omega arith) c.ranges.d.fits in
    (omega (arith, normal.shift_lt), raised_room 64 u.hi u.lo d (count_leading_zeros 64 d) c.requires (omega arith) normal)

pub divide_normal-divided-requires : goal.divide_normal-divided-requires
divide_normal-divided-requires c =
    let u = c.args.self in
    let d = c.args.d in
    let k = count_leading_zeros 64 d in
    let normal = normal_by_zeros 64 d (omega arith) c.ranges.d.fits in
    let raised = c.shl.result in
    let half = normal.half in
    rw (mod-eq_of_lt normal.fits)
    (omega arith, raised_high_lt (2 ^ 64) u.hi u.lo d (2 ^ k) raised.hi raised.lo c.requires (omega arith) (pow_pos k) c.shl.ensures)

pub returns : goal.returns
returns c =
    let u = value_of c.args.self in
    let d = c.args.d in
    let k = count_leading_zeros 64 d in
    let normal = normal_by_zeros 64 d (omega arith) c.ranges.d.fits in
    let divided = c.divide_normal-divided.ensures in
    let scaled = divided_scaled u d (2 ^ k) (omega arith) (pow_pos k) in
    record {
      quotient = rw (c.shl.ensures, mod-eq_of_lt normal.fits) at divided.quotient ∙ sym scaled.0;
      remainder = ap (λ (x : ℕ). x / 2 ^ k) (rw (c.shl.ensures, mod-eq_of_lt normal.fits) at divided.remainder ∙ sym scaled.1) ∙ shl-shr (u % d) k;
    }
