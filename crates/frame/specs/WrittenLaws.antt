-- Bytes written one part after another, and from the back. Assumes nothing.
use Rattle.std.specs.Prelude.{◌≡◌, refl, List, [], ◌∷◌, ◌++◌, ℕ, suc, ◌+◌, ◌≤◌, ◌<◌, length, take, drop, set}
use Rattle.std.proofs.Common.{sym, ap, subst, ◌∙◌, add-zero, arith, length-append, take_at}
use Rattle.std.proofs.lemmas.List.Edits.{sets, sets-eq}
use Rattle.std.proofs.lemmas.List.{set_comm}
use Rattle.std.proofs.Math.Seq.{length-sets, append_snoc}
use Rattle.frame.specs.Digits.{digits}
use Rattle.frame.specs.DigitLaws.{length_digits}
use Rattle.frame.specs.Written.{Written}

-- a run of stores, taken apart
sets_append : (xs ys l : List ℕ) (i : ℕ) → sets l i (xs ++ ys) ≡ sets (sets l i xs) (i + length xs) ys
sets_append [] ys l i = ap (λ (k : ℕ). sets l k ys) (sym (add-zero i))
sets_append (x ∷ xs) ys l i = sets_append xs ys (set l i x) (suc i) ∙ ap (λ (k : ℕ). sets (sets (set l i x) (suc i) xs) k ys) (omega arith)

-- a store in front of a run may come last
pub set_before : (xs l : List ℕ) (i j x : ℕ) → i < j → set (sets l j xs) i x ≡ sets (set l i x) j xs
set_before [] l i j x h = refl
set_before (y ∷ xs) l i j x h = set_before xs (set l j y) i (suc j) x (omega arith) ∙ ap (λ (m : List ℕ). sets m (suc j) xs) (set_comm l j i y x (omega arith))

-- Parts that are written one after another.
pub written_then :
    {l₁ l₂ l₃ xs ys : List ℕ} {i j k : ℕ} → Written l₁ i xs l₂ j → Written l₂ j ys l₃ k → Written l₁ i (xs ++ ys) l₃ k
written_then {l₁} {l₂} {l₃} {xs} {ys} {i} {j} {k} a b =
    record {
      list = b.list ∙ ap (λ (l : List ℕ). sets l j ys) a.list ∙ ap (λ (p : ℕ). sets (sets l₁ i xs) p ys) a.place ∙ sym (sets_append xs ys l₁ i);
      place = omega (arith, a.place, b.place, length-append xs ys);
    }

-- The buffer is as long as it was.
pub written_length : {l₁ l₂ xs : List ℕ} {i j : ℕ} → Written l₁ i xs l₂ j → length l₂ ≡ length l₁
written_length {l₁} {l₂} {xs} {i} {j} a = ap length a.list ∙ length-sets l₁ i xs

-- Bytes that are written from the beginning on, and fit, are the first ones.
pub written_front : {l₁ l₂ xs : List ℕ} {j : ℕ} → Written l₁ 0 xs l₂ j → j ≤ length l₁ → take j l₂ ≡ xs
written_front {l₁} {l₂} {xs} {j} a h =
    let fits : 0 + length xs ≤ length l₁ = omega (arith, a.place) in
    let size : length xs ≡ j = omega (arith, a.place) in
    ap (take j) (a.list ∙ sets-eq xs l₁ 0 fits) ∙ take_at xs (drop (0 + length xs) l₁) j size

-- Nothing.
pub written_none : (l : List ℕ) (i : ℕ) → Written l i [] l i
written_none l i = record { list = refl; place = sym (add-zero i) }

-- One byte.
pub written_byte : (l : List ℕ) (i x : ℕ) → Written l i (x ∷ []) (set l i x) (i + 1)
written_byte l i x = record { list = refl; place = refl }

-- ---- fields, each with the byte after it
module _ (base w v x : ℕ) {l₁ l₂ : List ℕ} {i j : ℕ} (field : Written l₁ i (digits base w v ++ (x ∷ [])) l₂ j) where
  -- A field, and then the rest of its line.
  pub written_field : {l₃ rest : List ℕ} {k : ℕ} → Written l₂ j rest l₃ k → Written l₁ i (digits base w v ++ (x ∷ rest)) l₃ k
  written_field {l₃} {rest} {k} after = subst (λ (xs : List ℕ). Written l₁ i xs l₃ k) (append_snoc (digits base w v) x rest) (written_then field after)

  -- What is left of the room.
  pub field_room : (more : ℕ) → i + (w + 1 + more) ≤ length l₁ → j + more ≤ length l₂
  field_room more h = omega (arith, field.place, written_length field, length-append (digits base w v) (x ∷ []), length_digits base w v)
