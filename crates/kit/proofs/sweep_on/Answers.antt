-- A call makes its steps factor by factor: what is done so far and what is left to do are what the call does.
use Rattle.std.proofs.Common.{◌≡◌, true, false, ◌-◌, ◌*◌, ◌^◌, ◌<◌, length, refl, ap, ◌∙◌, arith, rules}
use Rattle.sweep.specs.declared.SweepState.{SweepState}
use Rattle.sweep.specs.declared.Work.{Work}
use Rattle.kit.specs.declared.KitState.{KitState}
use Rattle.kit.specs.declared.KitCounts.{KitCounts}
use Rattle.kit.specs.Steps.{counts_of, end_of}
use Rattle.kit.specs.SweepLaws.{kit_number, last_sound, work_start, begun_is, work_fits, count_few, place_sound, work_steps, went_fits, work_stops, work_goes, work_ends}
use Rattle.kit.proofs.sweep_on.Goals as goal

-- ---- the start

pub loop-place-init : goal.loop-place-init
loop-place-init c = work_start c.args.s c.args.cap (length c.args.tail.now) c.requires refl (search rules) (search rules)

-- ---- a turn

pub bounds-s-place : goal.bounds-s-place
bounds-s-place c = omega (arith, c.loop-place-test.true, count_few c.loop-place.invariant)

pub offset_bounds-s-place : goal.offset_bounds-s-place
offset_bounds-s-place c = omega (arith, bounds-s-place c)

pub invariant_of-whole : goal.invariant_of-whole
invariant_of-whole c = record { sound = place_sound c.loop-place.invariant (search rules) c.loop-place-test.true }

pub overflow_cast-place : goal.overflow_cast-place
overflow_cast-place c = omega (arith, c.loop-place-test.true, count_few c.loop-place.invariant)

pub steps_on-halt-requires : goal.steps_on-halt-requires
steps_on-halt-requires c =
    let is = c.whole-part.ensures in
    work_steps c.loop-place.invariant (search rules) c.loop-place-test.true is (begun_is c.loop-place.work is c.max.ensures)

pub counts-requires : goal.counts-requires
counts-requires c =
    let short : length c.args.tail.now * 4 < 2 ^ 64 = search rules in
    let is = c.whole-part.ensures in
    let fits = went_fits c.loop-place.invariant (search rules) c.loop-place-test.true is (begun_is c.loop-place.work is c.max.ensures) c.steps_on-halt.ensures.0 c.steps_on-halt.ensures.1 in
    omega (arith, short, ap (λ (w : Work). w.place) c.resumed-work.ensures, fits)

pub returns-in-Some : goal.returns-in-Some
returns-in-Some c =
    let s = c.args.s in
    let long : length s.kit.factors ≡ 96 = search rules in
    let k = c.loop-place.invariant in
    let is = c.whole-part.ensures in
    let begun = begun_is c.loop-place.work is c.max.ensures in
    let did = c.steps_on-halt.ensures in
    let state : KitState = record { kit = s.kit; place = c.loop-place.place; next = c.in-Some.next; finished = false } in
    let counts = c.counts.ensures ∙ ap counts_of c.resumed-work.ensures in (
      ap (λ (x : KitCounts). end_of (state, x) c.steps_on-halt.new.tail) counts ∙ work_stops k long c.loop-place-test.true is begun did.0 did.1 c.in-Some.is,
      omega (arith, ap (λ (x : KitCounts). x.place) counts, went_fits k long c.loop-place-test.true is begun did.0 did.1),
    )

pub loop-place-preserved : goal.loop-place-preserved
loop-place-preserved c =
    let is = c.whole-part.ensures in
    let did = c.steps_on-halt.ensures in
    rw c.resumed-work.ensures
    (work_goes c.loop-place.invariant (search rules) c.loop-place-test.true is (begun_is c.loop-place.work is c.max.ensures) did.0 did.1 c.in_default.is)

-- ---- the end

pub overflow_sub-place : goal.overflow_sub-place
overflow_sub-place c = omega (arith, kit_number c.args.s c.args.cap (length c.args.tail.now) c.requires)

pub bounds-s-place-2 : goal.bounds-s-place-2
bounds-s-place-2 c = omega (arith, kit_number c.args.s c.args.cap (length c.args.tail.now) c.requires, count_few c.loop-place.invariant)

pub offset_bounds-s-place-2 : goal.offset_bounds-s-place-2
offset_bounds-s-place-2 c = omega (arith, bounds-s-place-2 c)

pub invariant_of-whole-2 : goal.invariant_of-whole-2
invariant_of-whole-2 c = record { sound = last_sound c.args.s c.args.cap (length c.args.tail.now) c.requires (search rules) }

pub counts-requires-2 : goal.counts-requires-2
counts-requires-2 c =
    let short : length c.args.tail.now * 4 < 2 ^ 64 = search rules in
    omega (arith, short, work_fits c.loop-place.invariant)

pub returns : goal.returns
returns c =
    let s = c.args.s in
    let k = c.loop-place.invariant in
    let state : KitState = record { kit = s.kit; place = s.kit.count - 1; next = c.whole-last.result.last; finished = true } in (
      ap (λ (x : KitCounts). end_of (state, x) c.loop-place.tail) c.counts-2.ensures
          ∙ work_ends k (search rules) c.loop-place-test.false (ap (λ (p : SweepState). p.last) c.whole-last.ensures),
      omega (arith, ap (λ (x : KitCounts). x.place) c.counts-2.ensures, work_fits k),
    )
