-- Laws of the two halves as sections of a range: they are searched one after the other, every significand lies in one, and a call completes two at most. Assumes nothing.
use Rattle.std.specs.Prelude.{Bool, ℕ, suc, ◌+◌, ◌≤◌, ◌<◌, Option, Some, None}
use Rattle.std.proofs.Common.{inl, inr, arith}
use Rattle.std.proofs.Math.Decide.{dec_lt}
use Rattle.search.specs.declared.Found.{Found}
use Rattle.search.specs.Finds.{LeastFrom}
use Rattle.calls.specs.Engine.{Half, low, high, low_end, halves, stops_at, once, passed, AllOf, Chain, InSome, Finds, AtSuspect}
use Rattle.calls.proofs.SearchLaws.{passed_few, passed_in}

module _ (first_high first last : ℕ) (ordered : first ≤ last) (find : Half → ℕ → Found) where
  -- They follow one another.
  pub halves_chain : Chain first (suc last) (halves first_high first last find)
  halves_chain = (omega arith, omega arith, (omega arith, omega arith, omega arith))

  -- Every significand of the range lies in one.
  pub halves_tiled : (X : ℕ) → first ≤ X → X ≤ last → InSome X (halves first_high first last find)
  halves_tiled X h k = go (dec_lt X (low_end first_high first last))
    where
      go : Dec (X < low_end first_high first last) → InSome X (halves first_high first last find)
      go (yes u) = inl (omega arith, u)
      go (no u) = inr (inl (omega arith, omega arith))

  -- A call completes at most both, or the low one where it stops at a suspect.
  pub halves_span : (suspect : ℕ → Bool) (a : ℕ) (p : Option ℕ) → first ≤ a → AtSuspect suspect a last p → once (stops_at p) + passed (halves first_high first last find) a p ≤ 2
  halves_span suspect a (Some X) h q = omega (arith, passed_in (halves first_high first last find) a X (halves_tiled X (omega (arith, q.0)) q.1))
  halves_span suspect a None h q = omega (arith, passed_few (halves first_high first last find) a None)

  -- Each is searched as it must be, where the search in the low half finds the least suspect before the first high significand, and that in the high half from there on.
  pub halves_finds : (suspect : ℕ → Bool) (B : ℕ)
      → ((a end : ℕ) → first ≤ a → a ≤ last → end ≤ first_high → LeastFrom suspect end a (find low a).place)
      → ((a : ℕ) → first ≤ a → a ≤ last → first_high ≤ a → LeastFrom suspect (suc last) a (find high a).place)
      → ((h : Half) (a : ℕ) → (find h a).rounds ≤ B) → AllOf (Finds suspect B) (halves first_high first last find)
  halves_finds suspect B finds_low finds_high few = (
    record { least = λ a k i. finds_low a (low_end first_high first last) k (omega arith) (omega arith); few = λ a k i. few low a },
    (record { least = λ a k i. finds_high a (omega arith) (omega arith) (omega arith); few = λ a k i. few high a }, tt),
  )
