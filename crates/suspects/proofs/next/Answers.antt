-- The next suspect from the start on is the place that is found, moved by the start.
use Rattle.std.specs.Prelude.{Option, Some, None, MatchOption, IsSomeAnd}
use Rattle.std.proofs.Common.{◌≡◌, ℕ, ◌+◌, ◌*◌, ◌%◌, ◌<◌, sym, ap, ◌∙◌, mod-lt, arith, rules}
use Rattle.search.specs.declared.Found.{Found}
use Rattle.search.specs.Search.{search_from}
use Rattle.search.specs.SearchLaws.{search_from_finds}
use Rattle.suspects.specs.declared.Window.{Window}
use Rattle.suspects.specs.Next.{moved_by, found_from, next_in, Askable}
use Rattle.suspects.proofs.next.Goals as goal

-- a place that is moved where it is one
moved_as : {Gives : ℕ → ℕ → Type 0} (start : ℕ) (p r : Option ℕ) → MatchOption p (r ≡ None) (λ x. IsSomeAnd r (Gives x)) → ((x y : ℕ) → Gives x y → y ≡ start + x)
    → r ≡ moved_by start p
moved_as start (Some k) (Some x) e told = ap Some (told k x e)
moved_as start (Some k) None e told = elim e [ ]
moved_as start None r e told = e

-- the search's answer, by what the calls ensure
module _ (s : Window) (start : ℕ) {base : ℕ} {f : Found} (counted : base ≡ s.step * start % s.modulus) (searched : f ≡ search_from s.modulus s.step base s.from s.to) where
  place_below : Askable s → (k : ℕ) → f.place ≡ Some k → k < s.modulus
  place_below a k e =
      (search_from_finds s.modulus s.step base s.from s.to (a.window, a.below, a.step_below) (omega (arith, mod-lt (s.step * start) {m = s.modulus} (omega arith)))
      ).below k (ap (λ (g : Found). g.place) (sym searched) ∙ e)

  moved : found_from start f ≡ next_in s start
  unfolding next_in
  moved = ap (found_from start) (searched ∙ ap (λ (b : ℕ). search_from s.modulus s.step b s.from s.to) counted)

pub map-requires : goal.map-requires
map-requires c = λ k e. let a = c.args in omega (arith, place_below a.w a.start c.remainder-base.ensures c.find_from-found.ensures c.requires.0 k e)

pub returns : goal.returns
returns c =
    let a = c.args in
    let f = c.find_from-found in
    (λ i. record { place = moved_as a.start f.result.place c.map.result c.map.ensures.cases (λ x y h. search rules) i; rounds = f.result.rounds }) ∙ moved a.w a.start c.remainder-base.ensures f.ensures
