-- The part's words, and at the end the report, for which there is room.
use Rattle.std.proofs.Common.{refl, arith}
use Rattle.frame.specs.WrittenLaws.{written_length}
use Rattle.stream.specs.PartLaws.{part_short}
use Rattle.stream.specs.MoveLaws.{part_ends, part_goes_on}
use Rattle.stream.proofs.sweep_step.Goals as goal

pub put_report-end-requires : goal.put_report-end-requires
put_report-end-requires c = omega (arith, written_length c.sweep_part-part.ensures.1, c.sweep_part-part.ensures.1.place, part_short c.args.t.state)

pub returns-then-tally : goal.returns-then-tally
returns-then-tally c =
    part_ends _ _ c.requires.0 _ c.sweep_part-part.ensures.0 c.args.at _ _ _ _ c.sweep_part-part.ensures.1 _ _ refl c.if-tally.true c.put_report-end.ensures c.at_line.ensures.0 c.at_line.ensures.1

pub returns : goal.returns
returns c = part_goes_on _ _ c.requires.0 _ c.sweep_part-part.ensures.0 c.args.at _ _ _ _ c.sweep_part-part.ensures.1 c.at_line-2.result c.at_line-2.ensures.1 c.if-tally.false
