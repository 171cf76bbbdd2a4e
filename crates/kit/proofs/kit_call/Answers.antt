-- Refused, or the steps on the free tail that is lent on.
use Rattle.std.proofs.Common.{◌*◌, ◌^◌, ◌<◌, length, ap, ◌∙◌, arith, rules}
use Rattle.calls.proofs.RefusalLaws.{call_refused}
use Rattle.calls.proofs.TailLaws.{moved, lent_length, tail_free, tail_taken, tail_moved}
use Rattle.sweep.specs.Answers.{call_of}
use Rattle.kit.specs.Engine.{kits}
use Rattle.kit.specs.EngineLaws.{kits_lawful}
use Rattle.kit.specs.Answers.{view_of}
use Rattle.kit.proofs.kit_call.Goals as goal

-- ---- the free tail

pub offset_bounds-list-free : goal.offset_bounds-list-free
offset_bounds-list-free c =
    let short : length c.args.list.now * 4 < 2 ^ 64 = search rules in
    omega (arith, tail_free kits_lawful (view_of c.args.state) (call_of c.args.cap c.args.list.now c.args.free) c.in-Ok.ensures.is)

pub slice_bounds-sweep_on-count : goal.slice_bounds-sweep_on-count
slice_bounds-sweep_on-count c =
    omega (arith, tail_free kits_lawful (view_of c.args.state) (call_of c.args.cap c.args.list.now c.args.free) c.in-Ok.ensures.is)

pub slice_bounds-sweep_on-start : goal.slice_bounds-sweep_on-start
slice_bounds-sweep_on-start c = slice_bounds-sweep_on-count c

pub sweep_on-requires : goal.sweep_on-requires
sweep_on-requires c = tail_taken kits_lawful (view_of c.args.state) (call_of c.args.cap c.args.list.now c.args.free) c.in-Ok.ensures.is

pub overflow_add-result : goal.overflow_add-result
overflow_add-result c =
    let short : length c.args.list.now < 2 ^ 64 = search rules in
    omega (
      arith,
      tail_free kits_lawful (view_of c.args.state) (call_of c.args.cap c.args.list.now c.args.free) c.in-Ok.ensures.is,
      c.sweep_on.ensures.1,
      lent_length c.args.list.now c.args.free,
    )

-- ---- the reply

pub returns-in-Err : goal.returns-in-Err
returns-in-Err c =
    call_refused kits (view_of c.args.state) (call_of c.args.cap c.args.list.now c.args.free) _ c.in-Err.ensures.is

pub returns-in-Ok : goal.returns-in-Ok
returns-in-Ok c =
    ap (moved c.args.list.now c.args.free) c.sweep_on.ensures.0
    ∙ tail_moved kits_lawful (view_of c.args.state) (call_of c.args.cap c.args.list.now c.args.free) c.in-Ok.ensures.is
