-- Each place has the factor of its words.
use Rattle.std.proofs.Common.{◌≡◌, sym, ap, ◌∙◌, ◌+◌, ◌-◌, ◌*◌, length, take, map, rules, tests}
use Rattle.std.specs.List.{range_with_len}
use Rattle.exports.specs.Words.{word, factor_from}
use Rattle.exports.proofs.FromFn.{from_fn_is}
use Rattle.exports.proofs.KitWordLaws.{lent_from, place_words, factors_each}
use Rattle.exports.proofs.kit_from.Goals as goal

pub returns : goal.returns
returns c =
    let ws = c.args.words.now in
    let all : c.from_fn.result ≡ map (λ i. factor_from (place_words ws i)) (range_with_len 0 96) =
    from_fn_is _ _ (λ i. factor_from (place_words ws i)) (λ i y q k.
    let e : y ≡ factor_from (take (length ws - (1 + 10 * i)) (place_words ws i)) = search (rules, tests) in
    (search (rules, tests), e ∙ ap factor_from (lent_from ws (1 + 10 * i)))) (factor_from ws) c.from_fn.result 96 c.from_fn.ensures.items in
    let places = all ∙ sym (factors_each ws 96 0) in
    λ j. record { factors = places j; count = word ws 0 }
