-- The factor against what its own precision, scale and ends set up.
use Rattle.std.proofs.Common.{◌≡◌, Bool, false, Result, Ok, Err, MatchResult, sym, ap, ◌∙◌, rules}
use Rattle.marks.specs.declared.Refusal.{Refusal}
use Rattle.marks.specs.Answers.{said}
use Rattle.factor.specs.declared.Stored.{Stored}
use Rattle.factor.specs.declared.Factor.{Factor}
use Rattle.factor.specs.SetUp.{given, stored_of, stores_just}
use Rattle.factor.proofs.SetUpLaws.{intact_is}
use Rattle.factor.proofs.is_intact.Goals as goal

given_by : (P : Stored → Type 0) (f : Factor) (b : Bool) (r : Result Stored Refusal) → ((s : Stored) → P s → b ≡ stores_just f s) → MatchResult r P (λ (e : Refusal). b ≡ false) → b ≡ given f (said r)
given_by P f b (Ok s) of is = of s is
given_by P f b (Err e) of is = is

pub returns : goal.returns
returns c =
    given_by _ c.args.f c.is_ok_and.result c.stored_of.result (λ s k. search rules) c.is_ok_and.ensures
    ∙ ap (given c.args.f) (c.stored_of.ensures ∙ ap stored_of c.from.ensures)
    ∙ sym (intact_is c.args.f)
