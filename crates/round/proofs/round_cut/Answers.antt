-- The law of n digits kept, and of one more.
use Rattle.std.proofs.Common.{◌≡◌, sym, ap, ap₂, ◌∙◌, subst, ℕ, suc, ◌+◌, ◌*◌, ◌/◌, ◌%◌, ◌^◌, ◌≤◌, ◌<◌, arith}
use Rattle.std.proofs.Math.Nat.{pow-succ'}
use Rattle.rounding.specs.Grid.{rule_of}
use Rattle.wide.specs.Value.{value_of}
use Rattle.round.specs.Neighbour.{neighbour_at}
use Rattle.round.specs.Cuts.{uncut, RoundedCut}
use Rattle.round.specs.CutLaws.{doubled, round_short, round_long}
use Rattle.round.proofs.Laws.{half_of}
use Rattle.round.proofs.round_cut.Goals as goal

pub returns-then-c-power : goal.returns-then-c-power
returns-then-c-power c =
    let rule = rule_of c.args.rule in
    let n = c.args.n in
    let k = c.args.k in
    let cut = c.args.c in
    let e : value_of c.from-then-c-power.result * 2 ≡ 2 ^ k = half_of k (value_of c.from-then-c-power.result) c.requires.2 (c.from-then-c-power.ensures ∙ c.power-then-c-power.ensures) in
    subst (RoundedCut rule n k (uncut k cut)) (sym (c.nearest.ensures ∙ ap₂ (neighbour_at rule cut.kept) c.from.ensures e))
    (round_short rule n c.requires.0 k cut c.requires.4 c.requires.5 (subst (λ (u : ℕ). cut.kept < u) c.power.ensures c.if-c-power.true))

pub returns-else-c-power : goal.returns-else-c-power
returns-else-c-power c =
    let rule = rule_of c.args.rule in
    let n = c.args.n in
    let k = c.args.k in
    let cut = c.args.c in
    let e = c.power-step.ensures in
    let twice : value_of c.from-else-c-power-2.result * 2 ≡ 2 ^ suc k = omega (arith, c.from-else-c-power-2.ensures, e, pow-succ' 2 k) in
    let rest : value_of c.from-else-c-power.result ≡ cut.kept % 2 * 2 ^ k + cut.rest = c.from-else-c-power.ensures ∙ ap (λ (u : ℕ). cut.kept % 2 * u + cut.rest) e in
    subst (RoundedCut rule n k (uncut k cut))
    (sym (ap doubled (c.nearest-near.ensures ∙ ap₂ (neighbour_at rule (cut.kept / 2)) rest twice)))
    (round_long rule n c.requires.0 k cut c.requires.4 (subst (λ (u : ℕ). u ≤ cut.kept) c.power.ensures c.if-c-power.false) c.requires.6)
