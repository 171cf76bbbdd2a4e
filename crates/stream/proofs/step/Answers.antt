-- What a step comes to, by what the program is at and where the line stops.
use Rattle.std.proofs.Common.{◌≡◌, refl, subst, ℕ, Option, Some}
use Rattle.stream.specs.declared.Tally.{Tally}
use Rattle.stream.specs.Good.{GoodTask}
use Rattle.stream.specs.MoveLaws.{with_room, moved_swept, moved_past, moved_kept, moved_line}
use Rattle.stream.proofs.step.Goals as goal

-- the sweep that is on its way is a good one
good_sweep : (i : ℕ) (s : Option Tally) (t : Tally) → s ≡ Some t → GoodTask i s → GoodTask i (Some t)
good_sweep i s t e g = subst (GoodTask i) e g

pub sweep_step-requires : goal.sweep_step-requires
sweep_step-requires c = (good_sweep c.args.p.number _ _ c.in-Some.is c.requires.0.good.sweeping, c.requires.2)

pub returns-in-Some : goal.returns-in-Some
returns-in-Some c =
    with_room c.args.p _ c.args.at _ _ _ _ (moved_swept c.args.p c.requires.0 _ c.args.at _ _ _ c.in-Some.is c.requires.1 _ _ c.sweep_step.ensures)

pub returns-then-p-gt-MOST_LINES : goal.returns-then-p-gt-MOST_LINES
returns-then-p-gt-MOST_LINES c =
    with_room c.args.p _ c.args.at _ _ _ _ (moved_past c.args.p c.requires.0 _ c.args.at _ _ c.in_default.is c.if-p-gt-MOST_LINES.true)

pub returns-then-end-input : goal.returns-then-end-input
returns-then-end-input c =
    let line = c.keep_line-end.ensures in
    with_room c.args.p _ c.args.at _ _ _ _
    (moved_kept c.args.p c.requires.0 _ c.args.at _ _ c.in_default.is c.if-p-gt-MOST_LINES.false c.keep_line-end.new.held _ line.line line.rest.0 line.rest.1 c.if-end-input.true)

pub returns : goal.returns
returns c =
    let line = c.keep_line-end.ensures in
    with_room c.args.p _ c.args.at _ _ _ _
    (moved_line c.args.p c.requires.0 _ c.args.at _ _ c.in_default.is c.if-p-gt-MOST_LINES.false c.keep_line-end.new.held _ line.line line.rest.0 line.rest.1 c.if-end-input.false _ _ _ (rw c.as_slice.ensures at c.line_step.ensures) refl)
