-- What the code carries back from a search: the answer with its winding, so that no number in it grows past twice the modulus. Definitions only.
use Rattle.std.specs.Prelude.{ℕ, ◌+◌, ◌-◌, ◌*◌, ◌/◌, ◌<◌, Option, Some, None}
use Rattle.search.specs.declared.Found.{Found}
use Rattle.search.specs.declared.Trace.{Trace}
use Rattle.search.specs.Search.{at_once}

-- a place's winding, 0 where there is no place
abbrev pub winding : (m step : ℕ) → Option ℕ → ℕ
winding m step (Some k) = (k * step) / m
winding m step None = 0

-- an answer with its winding
abbrev pub wound : (m step : ℕ) → Found → Trace
wound m step f = record { found = f; winding = winding m step f.place }

-- an answer without a round and without a winding
abbrev pub unwound : Option ℕ → Trace
unwound p = record { found = at_once p; winding = 0 }

-- the winding w of a place is less than the place
abbrev pub WindsBelow : Option ℕ → ℕ → Type 0
WindsBelow (Some k) w = w < k
WindsBelow None w = Unit {0}

-- the winding of a place whose winding is w in the mirrored search
abbrev pub mirror_winding : Option ℕ → ℕ → ℕ
mirror_winding (Some k) w = k - 1 - w
mirror_winding None w = w

-- the mirrored search's answer, read in this one
abbrev pub mirror_back : Trace → Trace
mirror_back t = record { found = t.found; winding = mirror_winding t.found.place t.winding }

-- a place as a number, 0 where there is none
abbrev pub number : Option ℕ → ℕ
number (Some k) = k
number None = 0

-- the place whose winding is the place that is given: `first` steps to the first multiple from l on, `turns` for each time the modulus is passed,
-- and as many as the place that is given itself winds
abbrev pub round_place : (first turns w : ℕ) → Option ℕ → Option ℕ
round_place first turns w (Some j) = Some (first + (j * turns + w))
round_place first turns w None = None

-- the answer of the search that a round goes on with, read in this one
abbrev pub round_back : (first turns : ℕ) → Trace → Trace
round_back first turns t =
    record {
      found = record { place = round_place first turns t.winding t.found.place; rounds = t.found.rounds + 1 };
      winding = number t.found.place;
    }

-- the place and the rounds of an answer are below a limit
abbrev pub Below : ℕ → Found → Type 0
Below limit f = (number f.place < limit) × (f.rounds < limit)
