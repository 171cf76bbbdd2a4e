-- Definitions: a factor as a sweep sees it. Assumes nothing.
use Rattle.std.specs.Prelude.{Bool, not, [], ◌∷◌, ℕ, ◌-◌, ◌^◌}
use Rattle.marks.specs.declared.Mark.{Mark}
use Rattle.search.specs.declared.Found.{Found}
use Rattle.factor.specs.declared.Factor.{Factor}
use Rattle.factor.specs.Precision.{rounds_of, range_out}
use Rattle.factor.specs.Context.{context_of, lower_of, upper_of}
use Rattle.factor.specs.SetUp.{intact}
use Rattle.product.specs.Product.{product_by}
use Rattle.product.specs.Marks.{mark_by}
use Rattle.suspects.specs.declared.Windows.{Windows}
use Rattle.suspects.specs.Suspects.{is_suspect}
use Rattle.suspects.specs.Next.{next_from, first_high, windows}
use Rattle.calls.specs.State.{Range, State, in_range, out_of_range, word_list}
use Rattle.calls.specs.Engine.{Half, low, high, halves, Engine}

-- whether X is a suspect of a factor
abbrev pub suspect : Factor → ℕ → Bool
suspect f X = is_suspect (context_of f) (lower_of f) (upper_of f) X

-- what a sweep is made over: a factor and a range of its significands
abbrev pub range : Factor → (first last : ℕ) → Range Factor
range f first last = record { factor = f; first = first; last = last }

-- 32: the range is one that 17 refuses, or the next significand lies outside it
abbrev pub state_out : State (Range Factor) → Bool
state_out s = out_of_range (range_out s.over.factor.precision s.over.first s.over.last) s

-- the window of each half, and the first high significand
abbrev pub windows_of : Factor → Windows
windows_of f = windows (context_of f) (lower_of f) (upper_of f)

-- the first high significand
abbrev pub high_from : Factor → ℕ
high_from f = first_high (context_of f) (lower_of f)

-- the search in a half, from a significand on
abbrev pub find_in : Factor → Half → ℕ → Found
find_in f low a = next_from (context_of f) (lower_of f) (upper_of f) (2 ^ ((context_of f).E - 1)) a
find_in f high a = next_from (context_of f) (lower_of f) (upper_of f) (2 ^ (context_of f).E) a

-- the most rounds of a search
abbrev pub most_rounds : Factor → ℕ
most_rounds f = rounds_of f.precision

-- the mark of a significand's product
abbrev pub mark_of : Factor → ℕ → Mark
mark_of f X = mark_by f X (product_by f X)

-- the engine of all factors and ranges; at most 64 × (trials + 2) rounds are two searches more than trials
abbrev pub engine : Engine (Range Factor)
engine =
    record {
      new_faults = λ r. (31, not (intact r.factor)) ∷ (17, range_out r.factor.precision r.first r.last) ∷ [];
      faults = λ s. (31, not (intact s.over.factor)) ∷ (32, state_out s) ∷ [];
      listing = λ r. word_list;
      first = λ r. r.first;
      last = λ r. r.last;
      has = in_range;
      mark = λ r. mark_of r.factor;
      sections = λ r. halves (high_from r.factor) r.first r.last (find_in r.factor);
      beyond = λ s t. 2;
    }

-- its suspects, and the most rounds of a search
abbrev pub suspect_in : Range Factor → ℕ → Bool
suspect_in r = suspect r.factor

abbrev pub most_in : Range Factor → ℕ
most_in r = most_rounds r.factor
