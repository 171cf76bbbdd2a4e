-- A field for each word.
use Rattle.std.proofs.Common.{◌≡◌, rules, w32, w64, to_z, of_z}
use Rattle.words.specs.Words.{low32}
use Rattle.words.specs.WordLaws.{cast_signed_is}
use Rattle.exports.specs.Words.{word, factor_from}
use Rattle.exports.proofs.factor_from.Goals as goal

pub returns : goal.returns
unfolding factor_from
returns c =
    let ws = c.args.words.now in
    let low : to_z w64 (of_z w64 c.low_from.result) ≡ c.low_from.result = search rules in
    let scale : to_z w32 (of_z w32 c.cast_signed.result) ≡ c.cast_signed.result = search rules in
    rw (
      low,
      scale,
      c.low_half.ensures,
      c.low_from.ensures,
      c.low_half-2.ensures,
      c.float_from.ensures,
      c.low_half-3.ensures,
      c.float_from-2.ensures,
      c.low_half-4.ensures,
      c.cast_signed.ensures,
      c.low_half-5.ensures,
      cast_signed_is w32 (low32 (word ws 9)),
    )
