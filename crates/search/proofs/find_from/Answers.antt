-- The shifted window passes over 0, and the start is found, or it is searched.
use Rattle.std.proofs.Common.{◌∙◌, sym, ap₂, arith}
use Rattle.search.specs.Search.{search_window}
use Rattle.search.specs.SearchLaws.{shift_lt, search_from_start, search_from_window}
use Rattle.search.proofs.find_from.Goals as goal

pub returns-then-to-from : goal.returns-then-to-from
returns-then-to-from c =
    let a = c.args in sym (search_from_start a.m a.step a.base a.l a.r (omega arith))

pub find-requires : goal.find-requires
find-requires c =
    let a = c.args in omega (arith, shift_lt a.m a.base a.r (omega arith))

pub returns : goal.returns
returns c =
    let a = c.args in
    c.find.ensures
    ∙ ap₂ (search_window a.m a.step) c.shifted-from.ensures c.shifted-to.ensures
    ∙ sym (search_from_window a.m a.step a.base a.l a.r (omega arith))
