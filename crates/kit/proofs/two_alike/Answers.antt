-- The first of those that are left is like another of them, or the others decide.
use Rattle.std.proofs.Common.{◌≡◌, rules, sym, ap, ◌∙◌, ◌∷◌}
use Rattle.calls.specs.Kit.{two_alike}
use Rattle.kit.specs.Engine.{alike}
use Rattle.kit.specs.LoopLaws.{alike_first, alike_others, none_alike_in}
use Rattle.kit.proofs.two_alike.Goals as goal

pub returns-then-is_like_one : goal.returns-then-is_like_one
returns-then-is_like_one c =
    let f = c.in-Some.f.now in
    let l = c.in-Some.others.now in
    let at : c.loop-f.rest.now ≡ f ∷ l = search rules in
    sym (c.loop-f.invariant ∙ ap (two_alike alike) at ∙ alike_first alike f l (sym c.is_like_one.ensures ∙ c.if-is_like_one.true))

pub loop-f-preserved : goal.loop-f-preserved
loop-f-preserved c =
    let f = c.in-Some.f.now in
    let l = c.in-Some.others.now in
    let at : c.loop-f.rest.now ≡ f ∷ l = search rules in
    c.loop-f.invariant ∙ ap (two_alike alike) at ∙ alike_others alike f l (sym c.is_like_one.ensures ∙ c.if-is_like_one.false)

pub returns : goal.returns
returns c = sym (c.loop-f.invariant ∙ none_alike_in alike c.loop-f.rest.now (search rules))
