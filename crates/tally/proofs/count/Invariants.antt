-- Before each significand the counts are those of the span up to it, and the cuts those of both ends times it.
use Rattle.std.proofs.Common.{◌≡◌, ℕ, ◌-◌, ◌*◌, ◌≤◌}
use Rattle.round.specs.declared.Cut.{Cut}
use Rattle.round.specs.Cuts.{cut_at}
use Rattle.factor.specs.declared.Factor.{Factor}
use Rattle.factor.specs.Precision.{scale_of}
use Rattle.factor.specs.Context.{lower_of, upper_of}
use Rattle.tally.specs.declared.Counts.{Counts}
use Rattle.tally.specs.Tally.{counts_of, mark_once}
use Rattle.tally.proofs.count.Given as goal

-- t counts the significands from `first` to below x, and both ends times x are cut
pub record Running (f : Factor) (first : ℕ) (t : Counts) (lower upper : Cut) (x : ℕ) : Type 0 where
  pub from : first ≤ x
  pub counts : t ≡ counts_of (mark_once f) first (x - first)
  pub lower_is : lower ≡ cut_at (scale_of f.precision) (lower_of f * x)
  pub upper_is : upper ≡ cut_at (scale_of f.precision) (upper_of f * x)

abbrev pub invariant-loop-x : goal.invariant-loop-x
invariant-loop-x l = Running l.factor l.first l.t l.lower l.upper l.x
