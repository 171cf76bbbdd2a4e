-- A factor with another sign: its conditions and its parts are those of its size, so set-up answers alike with the sign put on, and 31 lets through what it let through. Assumes nothing.
use Rattle.std.specs.Prelude.{◌≡◌, refl, Bool}
use Rattle.std.proofs.Common.{sym, ap, ◌∙◌}
use Rattle.marks.specs.Answers.{Outcome, refused, accepted, answer, each}
use Rattle.factor.specs.declared.Description.{Description}
use Rattle.factor.specs.declared.Applied.{Applied}
use Rattle.factor.specs.declared.Stored.{Stored}
use Rattle.factor.specs.declared.Factor.{Factor}
use Rattle.factor.specs.Context.{context_for}
use Rattle.factor.specs.Parts.{parts_at}
use Rattle.factor.specs.SetUp.{factor_with, conditions, stored_of, set_up, given, described, intact}
use Rattle.factor.proofs.SetUpLaws.{applied_is, stored_is, intact_is, set_up_stores}

-- a factor, and a description, with the sign s; with a plus it is the size
abbrev pub factor_as : Bool → Factor → Factor
factor_as s f = record { minus = s; precision = f.precision; lower = f.lower; upper = f.upper; parts = f.parts; applied = f.applied }

abbrev pub described_as : Bool → Description → Description
described_as s d = record { minus = s; precision = d.precision; scale = d.scale; lower = d.lower; upper = d.upper }

-- what is stored is that of the size
stored_signed : (s : Bool) (d : Description) → stored_of (described_as s d) ≡ stored_of d
stored_signed s d =
    stored_is (described_as s d)
    ∙ ap (λ (a : Applied). answer (conditions d) (record { parts = parts_at (context_for d) d.lower; applied = a })) (applied_is (described_as s d) ∙ sym (applied_is d))
    ∙ sym (stored_is d)

-- set-up refuses alike, and gives the same but for the sign
pub set_up_signed : (s : Bool) (d : Description) → set_up (described_as s d) ≡ each (factor_as s) (set_up d)
set_up_signed s d =
    set_up_stores (described_as s d)
    ∙ ap (each (factor_with (described_as s d))) (stored_signed s d)
    ∙ go (stored_of d)
    ∙ ap (each (factor_as s)) (sym (set_up_stores d))
  where
    go : (o : Outcome Stored) → each (factor_with (described_as s d)) o ≡ each (factor_as s) (each (factor_with d) o)
    go (accepted g) = refl
    go (refused k) = refl

-- 31 has nothing to compare in a sign
pub intact_signed : (s : Bool) (f : Factor) → intact (factor_as s f) ≡ intact f
intact_signed s f = intact_is (factor_as s f) ∙ ap (given (factor_as s f)) (stored_signed s (described f)) ∙ go (stored_of (described f)) ∙ sym (intact_is f)
  where
    go : (o : Outcome Stored) → given (factor_as s f) o ≡ given f o
    go (accepted g) = refl
    go (refused k) = refl
