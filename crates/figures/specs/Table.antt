-- What a row of the table of figures says. Definitions only.
use Rattle.std.specs.Prelude.{◌≡◌, List, [], ◌∷◌, ℕ, ◌^◌}
use Rattle.marks.specs.declared.Mark.{Mark}
use Rattle.marks.specs.Answers.{Outcome, accepted, and_then}
use Rattle.rounding.specs.declared.Direction.{Direction}
use Rattle.factor.specs.declared.Description.{Description}
use Rattle.factor.specs.declared.Parts.{Parts}
use Rattle.factor.specs.Precision.{least_of}
use Rattle.factor.specs.Context.{context_for}
use Rattle.factor.specs.SetUp.{set_up}
use Rattle.product.specs.declared.Device.{Device}
use Rattle.product.specs.Answer.{multiplied}
use Rattle.suspects.specs.Suspects.{is_suspect}
use Rattle.calls.specs.Plain.{row}

-- a significand X with its product (S, b), its mark, and its direction
pub record Multiplied : Type 0 where
  pub X : ℕ
  pub S : ℕ
  pub b : ℕ
  pub mark : Mark
  pub direction : Direction

-- the suspects of the whole range, where the figure names them
pub data Suspected : Type 0 where
  unsaid : Suspected
  exactly : List ℕ → Suspected

-- A figure: its factor as it is described, then a column for each of its clauses.
pub record Row : Type 0 where
  pub figure : ℕ
  pub factor : Description
  pub given : Outcome Parts
  pub products : List Multiplied
  pub suspects : Suspected

-- ---- what the columns say
-- what set-up gives: a refusal, or Ch as a significand over 2 ^ (n - 1) and Cl as low over 2 ^ places
abbrev pub Gives : Description → Outcome Parts → Type 0
Gives d given = and_then (set_up d) (λ f. accepted f.parts) ≡ given

-- what a multiplication with the factor that is set up answers, with its sign
abbrev pub Multiplies : Description → Multiplied → Type 0
Multiplies d m = and_then (set_up d) (λ f. multiplied Device.TwoStep f m.X) ≡ accepted (record { mark = m.mark; value = record { minus = d.minus; value = record { significand = m.S; binade = m.b }; direction = m.direction } })

abbrev pub Suspects : Description → Suspected → Type 0
Suspects d unsaid = Unit {0}
Suspects d (exactly l) = let n = d.precision in row (is_suspect (context_for d) d.lower d.upper) (least_of n) (2 ^ n) ≡ l

-- every one of a list
abbrev pub All : {A : Type 0} → (A → Type 0) → List A → Type 0
All P [] = Unit {0}
All P (x ∷ l) = P x × All P l

-- the row holds
abbrev pub Holds : Row → Type 0
Holds r = Gives r.factor r.given × All (Multiplies r.factor) r.products × Suspects r.factor r.suspects
