-- A line that has begun is refused at the end of the input.
use Rattle.std.proofs.Common.{◌≡◌, refl, sym, subst, ◌∙◌, ◌<◌, ◌==◌, Bool, false, List, ℕ, length, Option, Some, None, is_some, true≢false, arith}
use Rattle.std.proofs.lemmas.Bool.Decides.{nat_tests}
use Rattle.frame.specs.Written.{Written}
use Rattle.frame.specs.Report.{refusal_line}
use Rattle.stream.specs.declared.Tally.{Tally}
use Rattle.stream.specs.MoveLaws.{end_room, end_refused}
use Rattle.stream.proofs.finish.Goals as goal

no_sweep : (s : Option Tally) (b : Bool) → b ≡ is_some s → b ≡ false → s ≡ None
no_sweep None b e f = refl
no_sweep (Some t) b e f = absurd (true≢false (sym e ∙ f))

some_bytes : (kept l : List ℕ) (b : Bool) → l ≡ kept → b ≡ (length l == 0) → b ≡ false → 0 < length kept
some_bytes kept l b k e f = let some : 0 < length l = grind (arith, nat_tests) in rw k at some

pub returns : goal.returns
returns c =
    let p = c.args.p.now in
    let line = subst (λ (k : ℕ). Written c.args.out.now 0 (refusal_line p.number k) c.put_refusal.new.buf c.put_refusal.result) c.into.ensures c.put_refusal.ensures in
    end_room p _ 0 _ _
    (end_refused p _ 0 (no_sweep _ _ c.is_some.ensures c.if-is_some.false) (some_bytes _ _ _ c.as_slice.ensures c.is_empty.ensures c.if-is_empty.false) c.if-p-gt-MOST_LINES.false _ _ line)
