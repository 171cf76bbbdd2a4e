-- Where the line stops, what is held is what was to be kept; else one byte more of it is kept.
use Rattle.std.proofs.Common.{◌≡◌, sym, ap, ap₂, ◌∙◌, List, ℕ, add-one, length, drop, arith}
use Rattle.stream.specs.Keep.{kept, up_to_feed}
use Rattle.stream.specs.Step.{kept_of}
use Rattle.stream.specs.KeepLaws.{at_end, at_feed, at_byte}
use Rattle.stream.proofs.keep_line.Goals as goal

pub returns-then-b-eq-LINE_FEED-clause-line : goal.returns-then-b-eq-LINE_FEED-clause-line
returns-then-b-eq-LINE_FEED-clause-line c = sym (at_feed _ _ _ c.loop-place-test.true c.if-b-eq-LINE_FEED.true).0 ∙ c.loop-place.invariant.line

pub returns-then-b-eq-LINE_FEED-clause-rest : goal.returns-then-b-eq-LINE_FEED-clause-rest
returns-then-b-eq-LINE_FEED-clause-rest c =
    (omega arith, sym (at_feed (kept_of c.loop-place.held) _ _ c.loop-place-test.true c.if-b-eq-LINE_FEED.true).1 ∙ c.loop-place.invariant.rest)

pub loop-place-preserved : goal.loop-place-preserved
loop-place-preserved c =
    let b = c.loop-place.invariant in
    let next = at_byte (kept_of c.loop-place.held) _ _ c.loop-place-test.true c.if-b-eq-LINE_FEED.false in
    record {
      line = ap₂ (λ (l : List ℕ) (p : ℕ). kept l (drop p c.args.input.now)) c.keep.ensures (add-one c.loop-place.place) ∙ sym next.0 ∙ b.line;
      rest = ap (λ (p : ℕ). up_to_feed (drop p c.args.input.now)) (add-one c.loop-place.place) ∙ sym next.1 ∙ b.rest;
    }

pub returns-clause-line : goal.returns-clause-line
returns-clause-line c = sym (at_end _ _ _ c.loop-place-test.false).0 ∙ c.loop-place.invariant.line

pub returns-clause-rest : goal.returns-clause-rest
returns-clause-rest c =
    let all : c.loop-place.place ≡ length c.args.input.now = omega (arith, c.loop-place.auto.place-end c.requires) in
    let end = at_end (kept_of c.loop-place.held) _ _ c.loop-place-test.false in
    (omega arith, ap (λ (k : ℕ). drop k c.args.input.now) (sym all) ∙ sym end.1 ∙ c.loop-place.invariant.rest)
