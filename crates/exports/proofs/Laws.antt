-- Words of code: a yes or no, a signed number in two's complement, and words that are written into a list. Assumes nothing.
use Rattle.std.specs.Prelude.{◌≡◌, refl, Bool, true, false, List, [], ◌∷◌, ◌++◌, ℕ, ◌+◌, ◌≤◌, length, take, drop}
use Rattle.std.proofs.Common.{sym, ap, ap₂, ◌∙◌, drop-drop, append_assoc}
use Rattle.std.proofs.lemmas.List.Edits.{sets, sets-eq}
use borrow.Rule.Slice.PartMut.{put_mid}
use mir.Val.{bool_byte}
use Rattle.exports.specs.Words.{flag_word}

pub flag_is : (b : Bool) → bool_byte b ≡ flag_word b
flag_is true = refl
flag_is false = refl

-- words written over a part of a list
pub put_is : {A : Type 0} (at k : ℕ) (to vs new : List A) → k ≡ length vs → new ≡ vs → at + length vs ≤ length to → put_mid at k to new ≡ sets to at vs
put_is {A = A} at k to vs new e n h =
    ap₂ (λ (j : ℕ) (l : List A). put_mid at j to l) e n
    ∙ ap (λ (r : List A). take at to ++ (vs ++ r)) (drop-drop (length vs) at to)
    ∙ sym (append_assoc (take at to) vs (drop (at + length vs) to))
    ∙ sym (sets-eq vs to at h)

-- ten words are others, one by one
pub ten_words : {a0 a1 a2 a3 a4 a5 a6 a7 a8 a9 b0 b1 b2 b3 b4 b5 b6 b7 b8 b9 : ℕ} → a0 ≡ b0 → a1 ≡ b1 → a2 ≡ b2 → a3 ≡ b3 → a4 ≡ b4 → a5 ≡ b5 → a6 ≡ b6 → a7 ≡ b7 → a8 ≡ b8 → a9 ≡ b9 → (a0 ∷ a1 ∷ a2 ∷ a3 ∷ a4 ∷ a5 ∷ a6 ∷ a7 ∷ a8 ∷ a9 ∷ []) ≡ (b0 ∷ b1 ∷ b2 ∷ b3 ∷ b4 ∷ b5 ∷ b6 ∷ b7 ∷ b8 ∷ b9 ∷ [])
ten_words e0 e1 e2 e3 e4 e5 e6 e7 e8 e9 = λ i. e0 i ∷ e1 i ∷ e2 i ∷ e3 i ∷ e4 i ∷ e5 i ∷ e6 i ∷ e7 i ∷ e8 i ∷ e9 i ∷ []
