-- Laws: what a call does by searches is what the row of suspects says, and its rounds are few. Assumes nothing.
use Rattle.std.specs.Prelude.{◌≡◌, Bool, drop, Some}
use Rattle.std.proofs.Math.Path.{refl}
use Rattle.std.proofs.Common.{sym, ap, ◌∙◌, arith, mul-le-mul_left}
use mathlib.Core.List.{List, [], ◌∷◌}
use Prim.Native.Nat.{ℕ, zero, suc, ◌+◌, ◌-◌, ◌*◌, ◌≤◌}
use Rattle.std.proofs.Math.Nat.{add-zero}
use Rattle.std.proofs.Math.ListN.{length}
use Rattle.search.specs.declared.Found.{Found}
use Rattle.calls.specs.Engine.{stops_at, once, passed, Engine, Laws, AtSuspect}
use Rattle.calls.specs.State.{listed}
use Rattle.calls.specs.Call.{ahead, Run, stopped, tried, searched, run}
use Rattle.calls.specs.Plain.{row, not_right, tries, words_of}
use Rattle.calls.specs.ByRow.{head_of, legs, trail, rounds_in, row_run}
use Rattle.calls.proofs.TrialLaws.{listed_length, no_cap, no_place}
use Rattle.calls.proofs.RowLaws.{begins, first_suspect}
use Rattle.calls.proofs.SearchLaws.{rows_whole, seek_is, searches_few, rounds_append, trail_few}

module _ {U : Type 0} {suspect : ℕ → Bool} {e : Engine U} {u : U} {B : ℕ} (laws : Laws suspect e u B) where
  abbrev first : ℕ
  first = e.first u

  abbrev last : ℕ
  last = e.last u

  -- the suspects from a on
  abbrev row_from : ℕ → List ℕ
  row_from a = row suspect a (suc last)

  -- ---- one step ahead

  -- the step from a to the first of a row
  abbrev to : ℕ → List ℕ → Found
  to a l = record { place = head_of l; rounds = rounds_in (legs (e.sections u) a (head_of l)) }

  -- The searches from a on lead to the first suspect from a on, and are those on the way to it.
  pub ahead_is : (a : ℕ) → first ≤ a → a ≤ suc last → ahead e u a ≡ to a (row_from a)
  ahead_is a h k =
      seek_is suspect B (e.sections u) first (suc last) a laws.chain laws.finds
      ∙ ap (to a) (rows_whole suspect (e.sections u) first last laws.chain laws.tiled a h k)

  -- A suspect that is found lies from a on, up to the last.
  pub ahead_found : (a : ℕ) → first ≤ a → a ≤ suc last → (X : ℕ) → (ahead e u a).place ≡ Some X → (a ≤ X) × (X ≤ last)
  ahead_found a h k X q = go (row_from a) refl (sym (ap (λ (w : Found). w.place) (ahead_is a h k)) ∙ q)
    where
      go : (l : List ℕ) → row_from a ≡ l → head_of l ≡ Some X → (a ≤ X) × (X ≤ last)
      go [] r q = let z : ◌≡◌ {A = ℕ} 0 1 = cc in absurd (omega arith)
      go (x ∷ l) r q = let z = begins suspect a (suc last) 0 x l r in let e : x ≡ X = cc in (omega arith, omega arith)

  -- ---- the run

  -- the call that the row of suspects from a on says
  abbrev said : (c free a : ℕ) → List ℕ → Run
  said c free a l = row_run e u a (tries (e.mark u) c free l) l

  halted : (a : ℕ) (l : List ℕ) → searched (to a l) stopped ≡ row_run e u a 0 l
  unfolding trail words_of
  halted a [] = rw add-zero
  halted a (x ∷ l) = rw add-zero

  -- What a call does by searches is what the row of suspects from a on says.
  pub run_is : (c free a : ℕ) → first ≤ a → a ≤ suc last → run e u c free a ≡ said c free a (row_from a)
  unfolding run trail tries words_of
  run_is zero free a h k = rw (ahead_is a h k, no_cap (e.mark u) free (row_from a)) (halted a (row_from a))
  run_is (suc c) zero a h k = rw (ahead_is a h k, no_place (e.mark u) c (row_from a)) (halted a (row_from a))
  run_is (suc c) (suc free) a h k = rw (ahead_is a h k) (go (row_from a) refl (λ free b i j. run_is c free b i j))
    where
      go : (l : List ℕ) → row_from a ≡ l → ((free b : ℕ) → first ≤ b → b ≤ suc last → run e u c free b ≡ said c free b (row_from b))
          → searched (to a l) (λ X. tried (e.mark u X) X (run e u c (suc free - length (listed (e.mark u X) X)) (suc X)))
          ≡ said (suc c) (suc free) a l
      go [] q ih = rw add-zero
      go (x ∷ l) q ih =
          let z = begins suspect a (suc last) 0 x l q in
          rw (
            listed_length (e.mark u x) x,
            ih (suc free - not_right (e.mark u x)) (suc x) (omega (arith, z.from)) z.below,
            ← z.rest,
            rounds_append (legs (e.sections u) a (Some x)) (trail (e.sections u) (suc x) (tries (e.mark u) c (suc free - not_right (e.mark u x)) l) l),
          )

  -- ---- the rounds

  -- What is left of the row begins at a suspect, or there is none.
  pub left_is : (a k : ℕ) → AtSuspect suspect a last (head_of (drop k (row_from a)))
  left_is a k = go (drop k (row_from a)) refl
    where
      go : (l : List ℕ) → drop k (row_from a) ≡ l → AtSuspect suspect a last (head_of l)
      go [] q = tt
      go (x ∷ l) q =
          let z = begins suspect a (suc last) k x l q in
          (z.from, omega (arith, z.below), first_suspect suspect x (suc last) x l (sym z.is))

  -- The rounds of a call from a on that tries k are at most B for each trial, for the suspect stopped at and for each section passed.
  pub rounds_few : (a k : ℕ) → first ≤ a → a ≤ suc last → k ≤ length (row_from a)
      → rounds_in (trail (e.sections u) a k (row_from a)) ≤ B * (k + (once (stops_at (head_of (drop k (row_from a)))) + passed (e.sections u) a (head_of (drop k (row_from a)))))
  rounds_few a k h i fits =
      omega (
        arith,
        trail_few suspect B (e.sections u) a k (row_from a) laws.finds,
        mul-le-mul_left B (searches_few suspect (e.sections u) first last laws.chain laws.tiled k a h i fits),
      )
