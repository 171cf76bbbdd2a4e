-- What a mark says of those who might have given an answer: all, none, or some of them did. Definitions only. Assumes nothing.
use Rattle.marks.specs.declared.Mark.{Mark}

-- right: everyone in B gives it; wrong: none does; open: one does and another does not
abbrev pub Says : {A : Type 0} → (B gives : A → Type 0) → Mark → Type 0
Says {A} B gives Mark.Right = (a : A) → B a → gives a
Says {A} B gives Mark.Wrong = (a : A) → B a → ¬ gives a
Says {A} B gives Mark.Open = ((a : A) × B a × gives a) × ((a : A) × B a × ¬ gives a)
