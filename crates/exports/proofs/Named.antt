-- Refusals by their numbers: what refuses a sweep call or a kit call is a refusal as code has it. Assumes nothing.
use Rattle.std.specs.Prelude.{◌≡◌, refl, Bool, true, false, cond, List, [], ◌∷◌, ℕ, eqb}
use Rattle.marks.specs.declared.Refusal.{Refusal}
use Rattle.marks.specs.Answers.{Judgement, number, none, judged, number_of, Outcome, refused, accepted}
use Rattle.factor.specs.declared.Factor.{Factor}
use Rattle.calls.specs.State.{Range, State, Call, terms_of}
use Rattle.calls.specs.Call.{conditions, Run, replied, run_of, sweep_call}
use Rattle.calls.specs.Kit.{Kit}
use Rattle.sweep.specs.Engine.{engine}
use Rattle.kit.specs.Engine.{kits}

-- the refusal of a number that a call may be refused by
abbrev pub refusal_at : ℕ → Refusal
refusal_at n =
    cond (eqb n 18) Refusal.NoCap (
    cond (eqb n 19) Refusal.NoFreePlace (
    cond (eqb n 31) Refusal.FactorDamaged (
    cond (eqb n 32) Refusal.StateOutOfRange (cond (eqb n 33) Refusal.SweepFinished (cond (eqb n 42) Refusal.KitOutOfRange (cond (eqb n 43) Refusal.FactorsAlike Refusal.TooFewPlaces))))))

-- it has that number
abbrev pub IsNamed : ℕ → Type 0
IsNamed n = number_of (refusal_at n) ≡ n

abbrev AllNamed : List (ℕ × Bool) → Type 0
AllNamed [] = Unit {0}
AllNamed (t ∷ l) = IsNamed t.0 × AllNamed l

-- so has the one that an answer tells of, if it is a refusal
abbrev pub Named : {A : Type 0} → Outcome A → Type 0
Named (accepted a) = Unit {0}
Named (refused n) = IsNamed n

abbrev NamedBy : Judgement → Type 0
NamedBy none = Unit {0}
NamedBy (number n) = IsNamed n

named_by : (l : List (ℕ × Bool)) → AllNamed l → NamedBy (judged l)
unfolding judged
named_by [] a = tt
named_by (t ∷ l) a = go t.1 a.0 (named_by l a.1)
  where
    go : (b : Bool) → IsNamed t.0 → NamedBy (judged l) → NamedBy (cond b (number t.0) (judged l))
    go true h rest = h
    go false h rest = rest

pub sweep_named : (s : State (Range Factor)) (c : Call) → Named (sweep_call engine s c).answer
unfolding sweep_call
sweep_named s c = go (judged (conditions engine s (terms_of c))) (run_of engine s c) (named_by (conditions engine s (terms_of c)) (refl, (refl, (refl, (refl, (refl, tt))))))
  where
    go : (v : Judgement) (x : Run) → NamedBy v → Named (replied engine s c v x).answer
    go (number n) x h = h
    go none x h = tt

pub kit_named : (s : State (Kit Factor)) (c : Call) → Named (sweep_call kits s c).answer
unfolding sweep_call
kit_named s c = go (judged (conditions kits s (terms_of c))) (run_of kits s c) (named_by (conditions kits s (terms_of c)) (refl, (refl, (refl, (refl, (refl, (refl, (refl, tt))))))))
  where
    go : (v : Judgement) (x : Run) → NamedBy v → Named (replied kits s c v x).answer
    go (number n) x h = h
    go none x h = tt
