-- What is returned and left, of an answer that is known, and what is known of words that were taken. Assumes nothing.
use Rattle.std.specs.Prelude.{◌≡◌, List, ℕ, ◌≤◌, length, Result, Err}
use Rattle.std.proofs.Common.{sym, ap, ◌∙◌, ltb-false}
use Rattle.std.proofs.lemmas.List.Edits.{sets}
use Rattle.marks.specs.Answers.{Outcome, refused, accepted, and_then}
use Rattle.marks.specs.AnswerLaws.{only_accepted}
use Rattle.factor.specs.declared.Factor.{Factor}
use Rattle.exports.specs.declared.Failure.{Failure}
use Rattle.exports.specs.Failures.{failure_number, returned}
use Rattle.exports.specs.Words.{factor_from}
use Rattle.exports.specs.Answers.{unfit, taken, leaves, to_words, SweepWords}

-- ---- words that were taken
-- the lists are long enough
pub record Enough (words : List ℕ) (due room needed : ℕ) : Type 0 where
  pub long : due ≤ length words
  pub roomy : needed ≤ room

pub enough : {words : List ℕ} {due room needed : ℕ} {f : Factor} → accepted f ≡ taken words due room needed → Enough words due room needed
unfolding taken
enough {words} {due} {room} {needed} {f} e =
    let none = (only_accepted (unfit words due room needed) (factor_from words) f (sym e)).0 in
    record { long = ltb-false (length words) due none.0; roomy = ltb-false room needed none.1.0 }

-- ---- one answer after another
pub stays : {A B : Type 0} {t : Outcome A} {n : ℕ} (go : A → Outcome B) → refused n ≡ t → refused n ≡ and_then t go
stays go e = ap (λ x. and_then x go) e

pub goes : {A B : Type 0} {t : Outcome A} {a : A} {o : Outcome B} (go : A → Outcome B) → accepted a ≡ t → o ≡ go a → o ≡ and_then t go
goes go e q = q ∙ ap (λ x. and_then x go) e

-- ---- what is returned and left in a list, of the number and the words of an answer
module _ {A : Type 0} (number : A → ℕ) (words : A → List ℕ) (out : List ℕ) {o : Outcome A} where
  -- where it fails, with the failure k, nothing is written
  pub failed : {r : Result ℕ Failure} {k : Failure} → (x : Failure) × (r ≡ Err x) × (x ≡ k) → refused (failure_number k) ≡ o
      → (returned r ≡ (to_words number words o).number) × (out ≡ leaves (to_words number words o) out)
  failed p e = (
    ap returned p.1 ∙ ap failure_number p.2 ∙ ap (λ x. (to_words number words x).number) e,
    ap (λ x. leaves (to_words number words x) out) e,
  )

  -- where there is a value, its words are
  pub done : {a : A} {n : ℕ} {ws left : List ℕ} → accepted a ≡ o → n ≡ number a → ws ≡ words a → left ≡ sets out 0 ws
      → (n ≡ (to_words number words o).number) × (left ≡ leaves (to_words number words o) out)
  done e m w l = (m ∙ ap (λ x. (to_words number words x).number) e, l ∙ ap (sets out 0) w ∙ ap (λ x. leaves (to_words number words x) out) e)

-- ---- of a sweep's answer known to be b
pub gives_sweep : (a b : SweepWords) (state counts : List ℕ) → a ≡ b
    → (b.number ≡ a.number) × ((sets state 0 b.state ≡ sets state 0 a.state) × ((b.list ≡ a.list) × (sets counts 0 b.counts ≡ sets counts 0 a.counts)))
gives_sweep a b state counts e = (
  ap (λ (x : SweepWords). x.number) (sym e),
  (ap (λ (x : SweepWords). sets state 0 x.state) (sym e), (ap (λ (x : SweepWords). x.list) (sym e), ap (λ (x : SweepWords). sets counts 0 x.counts) (sym e))),
)
