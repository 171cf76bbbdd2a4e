-- The state's refusals come first, then 33, 18 and 44.
use Rattle.std.proofs.Common.{◌≡◌, ◌-◌, true, false, nat_lt, rules, eq-eqb, ne_eqb, lt-ltb, le-ltb}
use Rattle.marks.specs.AnswerLaws.{pass, stop, end, pass_first, stop_first, none_holds}
use Rattle.kit.specs.Engine.{kits}
use Rattle.kit.specs.Answers.{view_of}
use Rattle.kit.specs.StateLaws.{handed_on}
use Rattle.kit.proofs.refusal_of.Goals as goal

pub returns-in_err-state_check : goal.returns-in_err-state_check
returns-in_err-state_check c = handed_on _ c.from_residual.result c.from_residual.ensures.1 (stop_first (kits.faults (view_of c.args.s)) _ c.in_err-state_check.ensures)

pub returns-then-s : goal.returns-then-s
returns-then-s c =
    let l = kits.faults (view_of c.args.s) in
    pass_first l _ (none_holds l c.in_ok-state_check.ensures.is) (stop c.if-s.true)

pub returns-then-cap-eq0 : goal.returns-then-cap-eq0
returns-then-cap-eq0 c =
    let l = kits.faults (view_of c.args.s) in
    pass_first l _ (none_holds l c.in_ok-state_check.ensures.is) (pass c.if-s.false (stop (eq-eqb c.args.cap 0 c.if-cap-eq0.true)))

pub returns-then-saturating_sub-lt2 : goal.returns-then-saturating_sub-lt2
returns-then-saturating_sub-lt2 c =
    let l = kits.faults (view_of c.args.s) in
    let few : nat_lt (c.args.size - c.args.free) 2 ≡ true = lt-ltb _ 2 (search rules) in
    pass_first l _ (none_holds l c.in_ok-state_check.ensures.is) (pass c.if-s.false (pass (ne_eqb c.args.cap 0 c.if-cap-eq0.false) (stop few)))

pub returns : goal.returns
returns c =
    let l = kits.faults (view_of c.args.s) in
    let some : nat_lt (c.args.size - c.args.free) 2 ≡ false = le-ltb _ 2 (search rules) in
    pass_first l _ (none_holds l c.in_ok-state_check.ensures.is) (pass c.if-s.false (pass (ne_eqb c.args.cap 0 c.if-cap-eq0.false) (pass some end)))
