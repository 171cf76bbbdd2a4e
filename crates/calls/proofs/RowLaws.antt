-- Laws of the row of suspects: where it begins, how it is split, that it ascends, and that it holds exactly the suspects. Assumes nothing.
use Rattle.std.specs.Prelude.{◌≡◌, refl, Bool, true, false, ◌⊎◌, ◌↔◌, ℕ, zero, suc, ◌+◌, ◌-◌, ◌≤◌, ◌<◌, length, drop}
use Rattle.std.proofs.Common.{sym, ap, ◌∙◌, true≢false, inl, inr, arith}
use Rattle.std.proofs.Math.Bool.{not-eq-not}
use mathlib.Core.List.Memᴰ
use mathlib.Core.List.{List, [], ◌∷◌, ◌++◌, Memᴰ}
use Rattle.std.proofs.Math.Decide.{dec_lt}
use Rattle.std.proofs.Math.Seq.{drop-nil}
use Rattle.calls.specs.Plain.{span, keep, row}
use Rattle.calls.specs.Whole.{Ascends}

-- A span that is empty.
pub span_empty : (a b : ℕ) → b ≤ a → span a b ≡ []
unfolding span
span_empty a b h = let e : b - a ≡ 0 = omega arith in rw e

-- A span begins with its start.
pub span_cons : (a b : ℕ) → a < b → span a b ≡ a ∷ span (suc a) b
unfolding span
span_cons a b h = let e : b - a ≡ suc (b - suc a) = omega arith in rw e

-- What ascends from a on ascends from below a on.
pub ascends_from : (a b c : ℕ) (l : List ℕ) → c ≤ a → Ascends a b l → Ascends c b l
ascends_from a b c [] h r = tt
ascends_from a b c (x ∷ l) h r = (omega arith, r.1, r.2)

module _ (suspect : ℕ → Bool) where
  -- A row that is empty.
  pub row_empty : (a b : ℕ) → b ≤ a → row suspect a b ≡ []
  unfolding row
  row_empty a b h = rw (span_empty a b h)

  row_cons : (a b : ℕ) → a < b → row suspect a b ≡ keep (suspect a) a (row suspect (suc a) b)
  unfolding row
  row_cons a b h = rw (span_cons a b h)

  -- A row begins with its start if that is a suspect.
  pub row_at : (a b : ℕ) → a < b → suspect a ≡ true → row suspect a b ≡ a ∷ row suspect (suc a) b
  row_at a b h s = row_cons a b h ∙ rw s

  -- A row begins past its start if that is no suspect.
  pub row_next : (a b : ℕ) → a < b → suspect a ≡ false → row suspect a b ≡ row suspect (suc a) b
  row_next a b h s = row_cons a b h ∙ rw s

  -- What holds of the empty row, and of a row if it holds of the one from the next significand on, holds of each row.
  pub row_induct : (b : ℕ) (P : ℕ → List ℕ → Type 0) → ((a : ℕ) → b ≤ a → P a []) → ((a : ℕ) → a < b → suspect a ≡ true → P (suc a) (row suspect (suc a) b) → P a (a ∷ row suspect (suc a) b))
      → ((a : ℕ) (l : List ℕ) → a < b → suspect a ≡ false → P (suc a) l → P a l) → (n a : ℕ) → b ≤ a + n → P a (row suspect a b)
  row_induct b P none at past zero a h = rw (row_empty a b (omega arith)) (none a (omega arith))
  row_induct b P none at past (suc n) a h = go (dec_lt a b) (suspect a) refl (row_induct b P none at past n (suc a) (omega arith))
    where
      go : Dec (a < b) → (t : Bool) → suspect a ≡ t → P (suc a) (row suspect (suc a) b) → P a (row suspect a b)
      go (no k) t s ih = rw (row_empty a b (omega arith)) (none a (omega arith))
      go (yes k) true s ih = rw (row_at a b k s) (at a k s ih)
      go (yes k) false s ih = rw (row_next a b k s) (past a (row suspect (suc a) b) k s ih)

  -- A row is its part before m and its part from m on.
  pub row_split : (a m b : ℕ) → a ≤ m → m ≤ b → row suspect a b ≡ row suspect a m ++ row suspect m b
  row_split a m b h k =
      row_induct m (λ a l. a ≤ m → row suspect a b ≡ l ++ row suspect m b) (λ a i j. let e : a ≡ m = omega arith in rw e)
      (λ a i s ih j. row_at a b (omega arith) s ∙ ap (λ (l : List ℕ). a ∷ l) (ih i)) (λ a l i s ih j. row_next a b (omega arith) s ∙ ih i) m a (omega arith) h

  -- A row with no suspect is empty.
  pub row_none : (a b : ℕ) → ((Y : ℕ) → a ≤ Y → Y < b → suspect Y ≡ false) → row suspect a b ≡ []
  row_none a b =
      row_induct b (λ a l. ((Y : ℕ) → a ≤ Y → Y < b → suspect Y ≡ false) → l ≡ []) (λ a h q. refl) (λ a k s ih q. absurd (true≢false (sym s ∙ q a (omega arith) k)))
      (λ a l k s ih q. ih (λ Y u v. q Y (omega arith) v)) b a (omega arith)

  -- Where there is no suspect from a up to m, the row may as well begin at m.
  pub row_skip : (a m b : ℕ) → a ≤ m → m ≤ b → ((Y : ℕ) → a ≤ Y → Y < m → suspect Y ≡ false) → row suspect a b ≡ row suspect m b
  row_skip a m b h k q = row_split a m b h k ∙ rw (row_none a m q)

  -- What is left of a row begins at x, within the row's bounds, and goes on as the row past x: it is the row from x on.
  pub record Begins (a b x : ℕ) (l : List ℕ) : Type 0 where
    pub from : a ≤ x
    pub below : x < b
    pub rest : l ≡ row suspect (suc x) b
    pub is : x ∷ l ≡ row suspect x b

  nothing : (k x : ℕ) (l : List ℕ) → drop k [] ≡ x ∷ l → ⊥
  nothing k x l e = let d = drop-nil {A = ℕ} k in let z : ◌≡◌ {A = ℕ} 0 1 = cc in omega arith

  later : {a b x : ℕ} {l : List ℕ} → Begins (suc a) b x l → Begins a b x l
  later r = record { from = omega arith; below = r.below; rest = r.rest; is = r.is }

  -- What is left after k of a row is the row from its first on.
  pub begins : (a b k x : ℕ) (l : List ℕ) → drop k (row suspect a b) ≡ x ∷ l → Begins a b x l
  begins a b k x l =
      row_induct b (λ a r. (k : ℕ) → drop k r ≡ x ∷ l → Begins a b x l) (λ a h k e. absurd (nothing k x l e)) here (λ a r h s ih k e. later (ih k e)) b a (omega arith) k
    where
      here : (a : ℕ) → a < b → suspect a ≡ true → ((k : ℕ) → drop k (row suspect (suc a) b) ≡ x ∷ l → Begins (suc a) b x l)
          → (k : ℕ) → drop k (a ∷ row suspect (suc a) b) ≡ x ∷ l → Begins a b x l
      here a h s ih zero e =
          let q : a ≡ x = cc in
          let r : row suspect (suc a) b ≡ l = cc in
          record { from = omega arith; below = omega arith; rest = sym r ∙ rw q refl; is = sym e ∙ sym (row_at a b h s) ∙ rw q refl }
      here a h s ih (suc k) e = later (ih k e)

  -- A row ascends within its bounds.
  pub row_ascends : (a b : ℕ) → Ascends a b (row suspect a b)
  row_ascends a b =
      row_induct b (λ a l. Ascends a b l) (λ a h. tt) (λ a k s ih. (omega arith, k, ih)) (λ a l k s ih. ascends_from (suc a) b a l (omega arith) ih) b a (omega arith)

  -- X is a suspect from a up to but not including b
  abbrev Inside : (a b X : ℕ) → Type 0
  Inside a b X = (a ≤ X) × (X < b) × (suspect X ≡ true)

  inside : (a b X : ℕ) → Memᴰ X (row suspect a b) → Inside a b X
  inside a b X =
      row_induct b (λ a l. Memᴰ X l → Inside a b X) (λ a h m. absurd (Memᴰ.not-nil m)) (λ a k s ih m. first a k s ih (Memᴰ.cases_cons m)) (λ a l k s ih m. up a (ih m)) b a (omega arith)
    where
      up : (a : ℕ) → Inside (suc a) b X → Inside a b X
      up a r = (omega arith, r.1, r.2)

      first : (a : ℕ) → a < b → suspect a ≡ true → (Memᴰ X (row suspect (suc a) b) → Inside (suc a) b X) → (X ≡ a) ⊎ Memᴰ X (row suspect (suc a) b) → Inside a b X
      first a k s ih (inl e) = rw e (omega arith, k, s)
      first a k s ih (inr r) = up a (ih r)

  of_inside : (a b X : ℕ) → Inside a b X → Memᴰ X (row suspect a b)
  of_inside a b X r = rw (row_split a X b r.0 (omega arith), row_at X b r.1 r.2) (Memᴰ.append_right (row suspect a X) (Memᴰ.head refl))

  -- A row holds exactly the suspects within its bounds.
  pub row_exactly : (a b X : ℕ) → Memᴰ X (row suspect a b) ↔ ((a ≤ X) × (X < b) × (suspect X ≡ true))
  row_exactly a b X = (inside a b X, of_inside a b X)

  -- Where a row is empty, there is no suspect.
  pub row_clear : (a b X : ℕ) → row suspect a b ≡ [] → a ≤ X → X < b → suspect X ≡ false
  row_clear a b X e h k = (not-eq-not {b = false}).0 (λ s. Memᴰ.not-nil (rw e at ((row_exactly a b X).1 (h, k, s))))

  -- The first of a row is a suspect.
  pub first_suspect : (a b x : ℕ) (l : List ℕ) → row suspect a b ≡ x ∷ l → suspect x ≡ true
  first_suspect a b x l e = ((row_exactly a b x).0 (rw e (Memᴰ.head refl))).2

  -- Before it there is none.
  pub first_clear : (a b x : ℕ) (l : List ℕ) → row suspect a b ≡ x ∷ l → (X : ℕ) → a ≤ X → X < x → suspect X ≡ false
  first_clear a b x l e X h k =
      let z = begins a b 0 x l e in
      (not-eq-not {b = false}).0 (λ s. go (Memᴰ.cases_cons (rw e at ((row_exactly a b X).1 (h, omega (arith, z.below), s)))) z.rest)
    where
      go : (X ≡ x) ⊎ Memᴰ X l → l ≡ row suspect (suc x) b → ⊥
      go (inl q) r = omega arith
      go (inr m) r = let y = (row_exactly (suc x) b X).0 (rw (← r) m) in omega arith

-- What ascends from a up to b has at most as many as lie there.
pub ascends_few : (a b : ℕ) (l : List ℕ) → Ascends a b l → length l ≤ b - a
ascends_few a b [] r = omega arith
ascends_few a b (x ∷ l) r = omega (arith, ascends_few (suc x) b l r.2)
