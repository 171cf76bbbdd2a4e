-- The call is accepted, its words are printed, and the tally is that of the suspects tried.
use Rattle.std.proofs.Common.{◌≡◌, sym, ap, ◌∙◌, List, ℕ, ◌≤◌, length, length-take-le, arith}
use Rattle.std.specs.Prelude.{Result, Ok, Err}
use Rattle.std.proofs.lemmas.List.{length-replicate}
use Rattle.std.proofs.Math.ListN.{replicate}
use Rattle.calls.specs.Call.{sweep_call}
use Rattle.sweep.specs.declared.SweepState.{SweepState}
use Rattle.sweep.specs.declared.Swept.{Swept}
use Rattle.sweep.specs.declared.SweepRefusal.{SweepRefusal}
use Rattle.sweep.specs.Engine.{engine}
use Rattle.sweep.specs.Answers.{view_of, call_of, reply_of}
use Rattle.stream.specs.Step.{no_cap}
use Rattle.stream.specs.Good.{Going}
use Rattle.stream.specs.PartLaws.{AnsweredBy, answered, addable, added_is}
use Rattle.stream.proofs.sweep_part.Goals as goal

-- what the call on a list of noughts answers
by_call : (s : SweepState) → Going s → (a : Result Swept SweepRefusal) (list : List ℕ) → reply_of a list ≡ sweep_call engine (view_of s) (call_of no_cap (replicate 64 0) 0) → AnsweredBy s a list
by_call s g = answered s g (replicate 64 0) (length-replicate {A = ℕ} 64 0)

pub unreachable-requires : goal.unreachable-requires
unreachable-requires c = by_call _ c.requires.0 (Err c.in_default.field-0) _ c.in_default.ensures

pub slice_bounds-put_words-end : goal.slice_bounds-put_words-end
slice_bounds-put_words-end c =
    let a = by_call _ c.requires.0 (Ok c.in-Ok.swept) _ c.in-Ok.ensures in
    let inside : c.in-Ok.swept.place ≤ length c.sweep_call.new.list = omega (arith, a.place, a.fits, a.long) in
    sym (length-take-le c.in-Ok.swept.place c.sweep_call.new.list inside)

pub slice_bounds-list-end : goal.slice_bounds-list-end
slice_bounds-list-end c =
    let a = by_call _ c.requires.0 (Ok c.in-Ok.swept) _ c.in-Ok.ensures in
    omega (arith, a.place, a.fits, a.long)

pub put_words-printed-requires : goal.put_words-printed-requires
put_words-printed-requires c =
    let a = by_call _ c.requires.0 (Ok c.in-Ok.swept) _ c.in-Ok.ensures in
    omega (arith, a.place, a.fits, ap length a.words)

pub added-requires : goal.added-requires
added-requires c =
    let a = by_call _ c.requires.0 (Ok c.in-Ok.swept) _ c.in-Ok.ensures in
    addable _ c.requires.1 _ _ _ _ a _ c.put_words-printed.ensures.opens_value

pub returns : goal.returns
returns c =
    let a = by_call _ c.requires.0 (Ok c.in-Ok.swept) _ c.in-Ok.ensures in
    (c.added.ensures ∙ added_is _ c.requires.1 _ _ _ _ a _ c.put_words-printed.ensures.opens_value, rw a.words at c.put_words-printed.ensures.written)
