-- Each factor's words are looked at, and one of them is damaged or none is.
use Rattle.std.proofs.Common.{◌≡◌, sym, ap, ◌∙◌, ◌+◌, ◌-◌, ◌*◌, length, take, rules, arith, tests}
use Rattle.std.specs.List.{list_any, range_with_len}
use Rattle.std.proofs.lemmas.Iterator.{YieldsList-from_range}
use Rattle.std.proofs.lemmas.Iterator.Search.{any_from_yields_List}
use Rattle.exports.specs.Words.{damaged}
use Rattle.exports.proofs.KitWordLaws.{lent_from, place_words, damages_each}
use Rattle.exports.proofs.any_damaged.Goals as goal

pub returns : goal.returns
returns c =
    let ws = c.args.words.now in
    let n = c.args.count in
    let by_call : c.any.result ≡ list_any (λ i. damaged (place_words ws i)) (range_with_len 0 n) =
    any_from_yields_List (λ i. damaged (place_words ws i)) _ _ c.any.result c.any.ensures.ran (YieldsList-from_range 0 n n (search rules) (omega arith)) (λ i b q k.
    let e : b ≡ damaged (take (length ws - (1 + 10 * i)) (place_words ws i)) = search (rules, tests) in
    (search (rules, tests), e ∙ ap damaged (lent_from ws (1 + 10 * i)))) in
    by_call ∙ sym (damages_each ws n 0)
