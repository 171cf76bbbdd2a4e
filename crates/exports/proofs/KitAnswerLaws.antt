-- What is known of a kit's words that were taken or not, and of the words that are left. Assumes nothing.
use Rattle.std.specs.Prelude.{◌≡◌, refl, List, [], ◌∷◌, ◌++◌, ℕ, ◌+◌, ◌≤◌, ◌<◌, length, take, Result, Ok, Err}
use Rattle.std.proofs.Math.Path.{sym}
use Rattle.std.proofs.Common.{ap, ap₂, ◌∙◌, arith, length-take-le, ltb-false}
use Rattle.std.proofs.lemmas.List.Edits.{sets}
use Rattle.marks.specs.Answers.{none, First, refused, accepted}
use Rattle.marks.specs.AnswerLaws.{refuses, accepts, only_accepted}
use Rattle.factor.specs.declared.Factor.{Factor}
use Rattle.calls.specs.Kit.{Kit, place_size}
use Rattle.calls.proofs.KitLaws.{place_of, significand_of_lem}
use Rattle.calls.proofs.ListLaws.{sets_append}
use Rattle.kit.specs.declared.KitState.{KitState}
use Rattle.kit.specs.Answers.{view_of}
use Rattle.exports.specs.declared.Failure.{Failure}
use Rattle.exports.specs.Failures.{failure_number, failure_of}
use Rattle.exports.specs.Words.{flag_word}
use Rattle.exports.specs.Answers.{SweepWords}
use Rattle.exports.proofs.AnswerLaws.{Enough}
use Rattle.exports.specs.Kits.{kit_from, behind_kit, kit_unfit, kit_taken}

-- ---- words that were taken, or not
module _ (ws : List ℕ) (due room needed : ℕ) {v : Result (Unit {0}) Failure} (is : First (kit_unfit ws due room needed) (failure_of v)) where
  pub kit_refused : {f : Failure} → v ≡ Err f → kit_taken ws due room needed ≡ refused (failure_number f)
  unfolding kit_taken
  kit_refused e = sym (refuses (record { is = is.is ∙ ap failure_of e }) (kit_from ws))

  pub kit_passed : v ≡ Ok tt → kit_taken ws due room needed ≡ accepted (kit_from ws)
  unfolding kit_taken
  kit_passed e = sym (accepts (record { is = is.is ∙ ap failure_of e }) (kit_from ws))

-- the lists are long enough
pub kit_enough : {ws : List ℕ} {due room needed : ℕ} {k : Kit Factor} → accepted k ≡ kit_taken ws due room needed → Enough ws due room needed
unfolding kit_taken
kit_enough {ws} {due} {room} {needed} {k} e =
    let none = (only_accepted (kit_unfit ws due room needed) (kit_from ws) k (sym e)).0 in
    record { long = ltb-false (length ws) due none.0; roomy = ltb-false room needed none.1.0 }

-- where nothing refuses them, they are, and a kit that is read from the words is the one that is taken
module _ (ws : List ℕ) (due room needed : ℕ) (is : First (kit_unfit ws due room needed) none) where
  passed : accepted (kit_from ws) ≡ kit_taken ws due room needed
  passed = sym (kit_passed ws due room needed {v = Ok tt} is refl)

  pub kit_fits : Enough ws due room needed
  kit_fits = kit_enough passed

  pub kit_read : {k : Kit Factor} → k ≡ kit_from ws → accepted k ≡ kit_taken ws due room needed
  kit_read e = ap accepted e ∙ passed

-- ---- words that are left
-- those behind a kit's are the state's place, next significand and finished mark
pub behind_is : (s : KitState) → s.next < place_size → behind_kit (view_of s) ≡ s.place ∷ s.next ∷ flag_word s.finished ∷ []
behind_is s h = λ i. place_of s.place s.next h i ∷ significand_of_lem s.place s.next h i ∷ flag_word s.finished ∷ []

-- a kit's words were copied, and those behind it written then
pub kit_words : (out ws : List ℕ) {copied left words behind : List ℕ} → copied ≡ sets out 0 (take 961 ws) → behind ≡ words → left ≡ sets copied 961 words → 961 ≤ length ws → left ≡ sets out 0 (take 961 ws ++ behind)
kit_words out ws {copied} {left} {words} {behind} c e w h =
    let n : 961 ≡ 0 + length (take 961 ws) = omega (arith, length-take-le 961 ws h) in
    w
    ∙ ap₂ (λ (l b : List ℕ). sets l 961 b) c (sym e)
    ∙ ap (λ (k : ℕ). sets (sets out 0 (take 961 ws)) k behind) n
    ∙ sym (sets_append (take 961 ws) behind out 0)

-- what is returned and left, of an answer known to be b
pub gives_kit : (a b : SweepWords) (state counts : List ℕ) → a ≡ b
    → (b.number ≡ a.number) × ((sets state 961 b.state ≡ sets state 961 a.state) × ((b.list ≡ a.list) × (sets counts 0 b.counts ≡ sets counts 0 a.counts)))
gives_kit a b state counts e = (
  ap (λ (x : SweepWords). x.number) (sym e),
  (ap (λ (x : SweepWords). sets state 961 x.state) (sym e), (ap (λ (x : SweepWords). x.list) (sym e), ap (λ (x : SweepWords). sets counts 0 x.counts) (sym e))),
)
