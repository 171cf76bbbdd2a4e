-- Shifted by less than 128 places, 1 stays within two words.
use Rattle.std.proofs.Common.{pow_mono, ◌<◌, ◌-◌, ◌^◌, arith}
use Rattle.wide.proofs.wide_power.Goals as goal

pub shl-requires : goal.shl-requires
shl-requires c =
    let room : 1 < 2 ^ (128 - c.args.k) = omega (arith, pow_mono {i = 1} {j = 128 - c.args.k} (omega arith)) in
    (c.requires, rw c.from.ensures room)
