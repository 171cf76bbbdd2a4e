-- Laws for a loop that makes a call's steps one by one: what a run comes to from where it is. Assumes nothing.
use Rattle.std.specs.Prelude.{◌≡◌, refl, Bool, ◌⊎◌, List, [], ◌++◌, ℕ, zero, suc, ◌+◌, ◌-◌, ◌*◌, ◌≤◌, length, Option, Some, None}
use Rattle.std.proofs.Common.{sym, ap, subst, inl, inr, arith, add_assoc, length-append}
use Rattle.marks.specs.declared.Mark.{Mark}
use Rattle.marks.specs.declared.Mark.TheVariants.{Right, Open, Wrong}
use Rattle.marks.specs.Answers.{Judgement, none, judged}
use Rattle.search.specs.declared.Found.{Found}
use Rattle.calls.specs.State.{State, Call, terms_of, listed}
use Rattle.calls.specs.Engine.{Engine, AllOf, Laws}
use Rattle.calls.specs.Call.{conditions, ahead, Run, stopped, tried, met, searched, run, replied, run_of, sweep_call}
use Rattle.calls.proofs.RunLaws.{ahead_found}
use Rattle.calls.proofs.TrialLaws.{listed_few}

halt : (p : Option ℕ) (n : ℕ) → searched (record { place = p; rounds = n }) stopped ≡ record { trials = 0; rounds = n + 0; words = []; left = p }
halt (Some X) n = refl
halt None n = refl

-- A run that tries nothing.
pub run_halts : {U : Type 0} (e : Engine U) (u : U) (cap room a : ℕ) → ((ahead e u a).place ≡ None) ⊎ (cap ≡ 0) ⊎ (room ≡ 0)
    → run e u cap room a ≡ record { trials = 0; rounds = (ahead e u a).rounds + 0; words = []; left = (ahead e u a).place }
unfolding run
run_halts e u zero room a q = halt (ahead e u a).place (ahead e u a).rounds
run_halts e u (suc cap) zero a q = halt (ahead e u a).place (ahead e u a).rounds
run_halts e u (suc cap) (suc room) a (inl q) = rw q
run_halts e u (suc cap) (suc room) a (inr (inl q)) = absurd (omega arith)
run_halts e u (suc cap) (suc room) a (inr (inr q)) = absurd (omega arith)

-- A run that goes on past a suspect, X, after n rounds.
abbrev pub tried_after : (n : ℕ) → Mark → (X : ℕ) → Run → Run
tried_after n m X r = record { trials = suc r.trials; rounds = n + r.rounds; words = listed m X ++ r.words; left = r.left }

-- A run that tries the first suspect.
pub run_tries : {U : Type 0} (e : Engine U) (u : U) (cap room a X : ℕ) → (ahead e u a).place ≡ Some X
    → run e u (suc cap) (suc room) a ≡ tried_after (ahead e u a).rounds (e.mark u X) X (run e u cap (suc room - length (listed (e.mark u X) X)) (suc X))
unfolding run
run_tries e u cap room a X q = rw q

-- A run's rounds begin with those of its first search.
pub run_rounds : {U : Type 0} (e : Engine U) (u : U) (cap room a : ℕ) → (ahead e u a).rounds ≤ (run e u cap room a).rounds
unfolding run
run_rounds e u zero room a = omega arith
run_rounds e u (suc cap) zero a = omega arith
run_rounds e u (suc cap) (suc room) a = omega arith

-- A run whose rounds are n more.
abbrev pub later_by : ℕ → Run → Run
later_by n r = record { trials = r.trials; rounds = n + r.rounds; words = r.words; left = r.left }

sums : (w : Found) (go : ℕ → Run) (n : ℕ) → searched (record { place = w.place; rounds = n + w.rounds }) go ≡ later_by n (searched w go)
sums w go n = let r = met w.place go in λ i. record { trials = r.trials; rounds = add_assoc n w.rounds r.rounds i; words = r.words; left = r.left }

-- Where the searches from a lead on to b after n rounds, so does the run.
pub run_passes : {U : Type 0} (e : Engine U) (u : U) (cap room a b n : ℕ) → ahead e u a ≡ record { place = (ahead e u b).place; rounds = n + (ahead e u b).rounds }
    → run e u cap room a ≡ later_by n (run e u cap room b)
unfolding run
run_passes e u zero room a b n q = rw q (sums (ahead e u b) stopped n)
run_passes e u (suc cap) zero a b n q = rw q (sums (ahead e u b) stopped n)
run_passes e u (suc cap) (suc room) a b n q =
    rw q (sums (ahead e u b) (λ X. tried (e.mark u X) X (run e u cap (suc room - length (listed (e.mark u X) X)) (suc X))) n)

-- A run keeps to its cap and its room.
pub run_bounded : {U : Type 0} (e : Engine U) (u : U) (cap room a : ℕ) → ((run e u cap room a).trials ≤ cap) × (length (run e u cap room a).words ≤ room)
run_bounded {U} e u cap room a = go cap room a
  where
    Bounded : (cap room : ℕ) → Run → Type 0
    Bounded cap room r = (r.trials ≤ cap) × (length r.words ≤ room)

    none_tried : (cap room a : ℕ) → ((ahead e u a).place ≡ None) ⊎ (cap ≡ 0) ⊎ (room ≡ 0) → Bounded cap room (run e u cap room a)
    none_tried cap room a h = subst (Bounded cap room) (sym (run_halts e u cap room a h)) (omega arith, omega arith)

    go : (cap room a : ℕ) → Bounded cap room (run e u cap room a)
    go zero room a = none_tried zero room a (inr (inl refl))
    go (suc cap) zero a = none_tried (suc cap) zero a (inr (inr refl))
    go (suc cap) (suc room) a = at (ahead e u a).place refl (λ room b. go cap room b)
      where
        at : (p : Option ℕ) → (ahead e u a).place ≡ p → ((room b : ℕ) → Bounded cap room (run e u cap room b)) → Bounded (suc cap) (suc room) (run e u (suc cap) (suc room) a)
        at None q ih = none_tried (suc cap) (suc room) a (inl q)
        at (Some X) q ih =
            let l : List ℕ = listed (e.mark u X) X in
            let rest : Run = run e u cap (suc room - length l) (suc X) in
            let z = ih (suc room - length l) (suc X) in
            subst (Bounded (suc cap) (suc room)) (sym (run_tries e u cap room a X q))
            (omega (arith, z.0), omega (arith, z.1, listed_few (e.mark u X) X, length-append l rest.words))

-- The words of a run are listed words of significands up to the last.
module _ {U : Type 0} {suspect : ℕ → Bool} {e : Engine U} {u : U} {B : ℕ} (laws : Laws suspect e u B) where
  abbrev Within : List ℕ → Type 0
  Within l = AllOf (λ (w : ℕ). w ≤ 2 * e.last u + 1) l

  with_listed : (m : Mark) (X : ℕ) → X ≤ e.last u → (l : List ℕ) → Within l → Within (listed m X ++ l)
  with_listed Right X h l z = z
  with_listed Open X h l z = (omega (arith, h), z)
  with_listed Wrong X h l z = (omega (arith, h), z)

  none_tried : (cap room a : ℕ) → ((ahead e u a).place ≡ None) ⊎ (cap ≡ 0) ⊎ (room ≡ 0) → Within (run e u cap room a).words
  none_tried cap room a h = subst (λ (r : Run). Within r.words) (sym (run_halts e u cap room a h)) tt

  pub words_within : (cap room a : ℕ) → e.first u ≤ a → a ≤ suc (e.last u) → Within (run e u cap room a).words
  words_within zero room a from upto = none_tried zero room a (inr (inl refl))
  words_within (suc cap) zero a from upto = none_tried (suc cap) zero a (inr (inr refl))
  words_within (suc cap) (suc room) a from upto = at (ahead e u a).place refl (λ room b i j. words_within cap room b i j)
    where
      at : (p : Option ℕ) → (ahead e u a).place ≡ p → ((room b : ℕ) → e.first u ≤ b → b ≤ suc (e.last u) → Within (run e u cap room b).words) → Within (run e u (suc cap) (suc room) a).words
      at None q ih = none_tried (suc cap) (suc room) a (inl q)
      at (Some X) q ih =
          let inside = ahead_found laws a from upto X q in
          subst (λ (r : Run). Within r.words) (sym (run_tries e u cap room a X q))
          (with_listed (e.mark u X) X inside.1 _ (ih (suc room - length (listed (e.mark u X) X)) (suc X) (omega (arith, inside.0)) (omega (arith, inside.1))))

-- Where nothing refuses it, a call does what its run does.
pub call_done : {U : Type 0} (e : Engine U) (s : State U) (c : Call) → judged (conditions e s (terms_of c)) ≡ none → sweep_call e s c ≡ replied e s c none (run_of e s c)
unfolding sweep_call
call_done e s c q = ap (λ (r : Judgement). replied e s c r (run_of e s c)) q
