-- The shift loses nothing, and the exponent is the shift's negative.
use Rattle.std.proofs.Common.{◌-◌, ◌^◌, ◌<◌, w32, pos, to_z-of_z, shl_exact, arith}
use Rattle.std.proofs.lemmas.Int.{to_z_pos}
use Rattle.round.proofs.Laws.{neg_is, neg_fits}
use Rattle.round.proofs.widened.Goals as goal

pub returns : goal.returns
returns c =
    let shift = c.args.n - c.args.b in
    let small : shift < 2 ^ 31 = omega arith in
    rw (to_z_pos w32 shift small, neg_is, to_z-of_z (neg_fits w32 (pos shift) small), shl_exact c.args.b shift 64 c.requires.2 (omega arith))
