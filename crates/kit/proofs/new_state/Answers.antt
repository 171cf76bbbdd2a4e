-- Refused, or at the first factor's least significand.
use Rattle.std.proofs.Common.{ap, ◌∙◌, rules}
use Rattle.marks.specs.Answers.{each}
use Rattle.marks.specs.AnswerLaws.{refuses, none_holds, said_err}
use Rattle.calls.specs.Engine.{fresh}
use Rattle.sweep.specs.declared.SweepState.{SweepState}
use Rattle.kit.specs.Engine.{kits}
use Rattle.kit.specs.Answers.{kit_of, view_of}
use Rattle.kit.specs.StateLaws.{number_some, sound_at, new_passed}
use Rattle.kit.proofs.new_state.Goals as goal

pub returns-in_err-kit_check : goal.returns-in_err-kit_check
returns-in_err-kit_check c =
    ap (each view_of) (said_err _ c.from_residual.result c.from_residual.ensures.1) ∙ refuses c.in_err-kit_check.ensures (fresh kits (kit_of c.args.k))

pub invariant_of-whole : goal.invariant_of-whole
invariant_of-whole c =
    let k = kit_of c.args.k in
    let good = none_holds (kits.new_faults k) c.in_ok-kit_check.ensures.is in
    record { sound = sound_at k (search rules) good 0 (number_some k (search rules) good) }

pub returns : goal.returns
returns c =
    let good = none_holds (kits.new_faults (kit_of c.args.k)) c.in_ok-kit_check.ensures.is in
    new_passed c.args.k (search rules) good (ap (λ (s : SweepState). s.first) c.whole-part.ensures)
