-- A precision from 4 to 24 is valid, and its context is one that the laws are about. Assumes nothing.
use Rattle.std.specs.Prelude.{refl, ℕ, ◌≤◌}
use Rattle.std.proofs.Common.{arith}
use Rattle.factor.specs.Precision.{least_precision, most_precision, scale_of, ValidPrecision}
use Rattle.factor.specs.Context.{Fine, context_at}

pub valid_of : {n : ℕ} → least_precision ≤ n → n ≤ most_precision → ValidPrecision n
unfolding scale_of
valid_of a b = record { least = a; most = b; scale = refl }

pub fine_at : {n : ℕ} → ValidPrecision n → Fine (context_at n)
fine_at k = record { some = omega arith; room = omega arith }
