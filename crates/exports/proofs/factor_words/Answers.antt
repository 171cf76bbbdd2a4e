-- A word for each field.
use Rattle.std.proofs.Common.{◌≡◌, refl, ◌∙◌, rules, w32, w64, to_z, of_z}
use Rattle.words.specs.WordLaws.{cast_unsigned_is}
use Rattle.exports.specs.Words.{factor_words}
use Rattle.exports.proofs.Laws.{flag_is, ten_words}
use Rattle.exports.proofs.factor_words.Goals as goal

pub returns : goal.returns
unfolding factor_words
returns c =
    let f = c.args.f in
    let low : to_z w64 (of_z w64 f.parts.low) ≡ f.parts.low = search rules in
    let scale : to_z w32 (of_z w32 f.applied.scale) ≡ f.applied.scale = search rules in
    ten_words
    (c.from.ensures ∙ flag_is f.minus)
    c.from-2.ensures
    refl
    refl
    refl
    (rw (c.cast_unsigned.ensures, low) (cast_unsigned_is w64 f.parts.low))
    c.from-3.ensures
    (c.from-4.ensures ∙ c.bits_of.ensures)
    (c.from-5.ensures ∙ c.bits_of-2.ensures)
    (rw (c.scale_word.ensures, scale))
