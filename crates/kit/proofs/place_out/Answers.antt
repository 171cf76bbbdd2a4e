-- Refusal 32: no factor is at the place, or the significand is none of its own.
use Rattle.std.proofs.Common.{◌∙◌, rules}
use Rattle.kit.specs.Answers.{kit_of}
use Rattle.kit.specs.StateLaws.{sound_at, out_past, out_at}
use Rattle.kit.proofs.place_out.Goals as goal

pub returns-then-s : goal.returns-then-s
returns-then-s c = let s = c.args.s in out_past (kit_of s.kit) s.place s.next (search rules) c.if-s.true

pub invariant_of-f : goal.invariant_of-f
invariant_of-f c = let s = c.args.s in record { sound = sound_at (kit_of s.kit) (search rules) c.requires s.place c.if-s.false }

pub returns : goal.returns
returns c =
    let s = c.args.s in
    (rw c.precision.ensures at c.significand_out.ensures) ∙ out_at (kit_of s.kit) (search rules) c.requires s.place s.next (search rules) c.if-s.false
