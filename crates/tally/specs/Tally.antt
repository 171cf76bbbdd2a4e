-- The tally of a range: how many of its significands are right, wrong and open on the one-step device. Definitions only. Assumes nothing.
use Rattle.std.specs.Prelude.{Bool, not, List, [], ◌∷◌, ℕ, zero, suc, ◌+◌, ◌-◌, ltb}
use Rattle.marks.specs.declared.Mark.{Mark}
use Rattle.marks.specs.declared.Mark.TheVariants.{Right, Open, Wrong}
use Rattle.marks.specs.Answers.{Outcome, answer}
use Rattle.factor.specs.declared.Factor.{Factor}
use Rattle.factor.specs.Precision.{range_out}
use Rattle.factor.specs.SetUp.{intact}
use Rattle.product.specs.declared.Device.{Device}
use Rattle.product.specs.Marks.{mark}
use Rattle.tally.specs.declared.Counts.{Counts}
use Rattle.product.specs.OneStep.{one_step}
use Rattle.product.specs.Devices.{mark_on}

-- ---- counting
-- 1 if a mark is m, and else 0
abbrev pub one : (m : Mark) → Mark → ℕ
one Right Right = 1
one Right Wrong = 0
one Right Open = 0
one Wrong Right = 0
one Wrong Wrong = 1
one Wrong Open = 0
one Open Right = 0
one Open Wrong = 0
one Open Open = 1

-- how many of the `count` significands from `first` on have the mark m, whoever marks them
abbrev pub how_many : (marks : ℕ → Mark) (m : Mark) (first count : ℕ) → ℕ
how_many marks m first zero = 0
how_many marks m first (suc count) = how_many marks m first count + one m (marks (first + count))

-- of every mark
abbrev pub counts_of : (marks : ℕ → Mark) (first count : ℕ) → Counts
counts_of marks first count = record { rights = how_many marks Right first count; wrongs = how_many marks Wrong first count; opens = how_many marks Open first count }

-- a tally with one significand more, of the mark m
abbrev pub with_one : Counts → Mark → Counts
with_one t m = record { rights = t.rights + one Right m; wrongs = t.wrongs + one Wrong m; opens = t.opens + one Open m }

-- no significands, and those of two spans together
abbrev pub nothing : Counts
nothing = record { rights = 0; wrongs = 0; opens = 0 }

abbrev pub together : Counts → Counts → Counts
together t u = record { rights = t.rights + u.rights; wrongs = t.wrongs + u.wrongs; opens = t.opens + u.opens }

-- ---- the one-step device
-- its mark of a significand
unfoldable pub mark_once : Factor → ℕ → Mark
unfolding one_step mark
mark_once f X = mark_on Device.OneStep f X

-- ---- a call
-- so many significands go into one
abbrev pub most_tallied : ℕ
most_tallied = 65536

-- how many significands a range has
abbrev pub span_length : (first last : ℕ) → ℕ
span_length first last = suc last - first

-- 31 by the factor, then 17 by the range, then 41: "tally range longer than 65,536"
abbrev pub conditions : Factor → (first last : ℕ) → List (ℕ × Bool)
conditions f first last = (31, not (intact f)) ∷ (17, range_out f.precision first last) ∷ (41, ltb most_tallied (span_length first last)) ∷ []

-- the tally of a range, unless one of them holds
unfoldable pub tallied : Factor → (first last : ℕ) → Outcome Counts
unfolding intact mark_once
tallied f first last = answer (conditions f first last) (counts_of (mark_once f) first (span_length first last))
