-- Each way to return answers the search with its winding, by the law of that way.
use Rattle.std.proofs.Common.{◌∙◌, sym, subst, arith}
use Rattle.search.specs.declared.Trace.{Trace}
use Rattle.search.specs.Search.{ceil_div}
use Rattle.search.specs.Cases.{start, still, multiple}
use Rattle.search.specs.Trace.{Below}
use Rattle.search.specs.TraceLaws.{wound_at, wound_none, wound_mirror, wound_round, search_window_below}
use Rattle.search.proofs.+first_place.Goals as goal

-- l is 0
pub returns-then-l-eq0 : goal.returns-then-l-eq0
returns-then-l-eq0 t c =
    let a = c.args in
    c.at_once.ensures ∙ wound_at a.m a.step a.l a.r c.requires.0 0 (omega arith) (start c.if-l-eq0.true)

-- the step is 0
pub returns-then-step-eq0 : goal.returns-then-step-eq0
returns-then-step-eq0 t c =
    let a = c.args in
    c.at_once-then-step-eq0.ensures ∙ wound_none a.m a.step a.l a.r c.requires.0 (still (omega arith) c.if-step-eq0.true)

-- the step is above half of the modulus
pub mirror_back-requires : goal.mirror_back-requires
mirror_back-requires t c =
    let a = c.args in
    let mirrored = c.first_place in
    (wound_mirror a.m a.step a.l a.r c.requires.0 (omega arith) (omega arith) mirrored.result mirrored.ensures).0

pub returns-then-m-step : goal.returns-then-m-step
returns-then-m-step t c =
    let a = c.args in
    let mirrored = c.first_place in
    c.mirror_back.ensures ∙ (wound_mirror a.m a.step a.l a.r c.requires.0 (omega arith) (omega arith) mirrored.result mirrored.ensures).1

-- the first multiple from l on lies in the window
pub returns-then-multiple-r : goal.returns-then-multiple-r
unfolding ceil_div
returns-then-multiple-r t c =
    let a = c.args in
    c.at_once-then-multiple-r.ensures
    ∙ wound_at a.m a.step a.l a.r c.requires.0 (ceil_div a.l a.step) (omega arith) (multiple (omega arith) (omega arith))

-- it does not
pub round_back-requires : goal.round_back-requires
unfolding ceil_div
round_back-requires t c =
    let a = c.args in
    let next = c.first_place-next in
    let back = wound_round a.m a.step a.l a.r c.requires.0 (omega arith) (omega arith) next.result next.ensures in
    omega (arith, subst (λ (t : Trace). Below a.m t.found) (sym back) (search_window_below a.m a.step a.l a.r c.requires.0))

pub returns : goal.returns
unfolding ceil_div
returns t c =
    let a = c.args in
    let next = c.first_place-next in
    c.round_back.ensures ∙ wound_round a.m a.step a.l a.r c.requires.0 (omega arith) (omega arith) next.result next.ensures
