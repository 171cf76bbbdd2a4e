-- Laws: the words of the suspects tried are those of all significands before the first one not tried that are not right; they ascend, and none is missing. Assumes nothing.
use Rattle.std.specs.Prelude.{◌≡◌, refl, Bool, true, false, ◌⊎◌, take, drop}
use Rattle.std.proofs.Common.{inl, inr, arith}
use mathlib.Core.List.Memᴰ
use mathlib.Core.List.{List, [], ◌∷◌, ◌++◌, Memᴰ}
use Prim.Native.Nat.{ℕ, zero, suc, ◌+◌, ◌-◌, ◌*◌, ◌≤◌, ◌<◌}
use Rattle.std.proofs.Math.Decide.{dec_lt}
use Rattle.std.proofs.Math.Seq.{take-nil, drop-nil}
use Rattle.marks.specs.declared.Mark.{Mark}
use Rattle.marks.specs.declared.Mark.TheVariants.{Right, Open, Wrong}
use Rattle.calls.specs.State.{listed}
use Rattle.calls.specs.Plain.{span_of, span, row, words_of}
use Rattle.calls.specs.Whole.{end_of, WordOf, Listed, Ascends, Holds}
use Rattle.calls.proofs.RowLaws.{span_empty, span_cons, ascends_from, row_induct}

-- ---- the words ascend, so that none stands twice

ascends_one : (m : Mark) (a b : ℕ) (w : List ℕ) → a < b → Ascends (2 * suc a) (2 * b) w → Ascends (2 * a) (2 * b) (listed m a ++ w)
ascends_one Right a b w h r = ascends_from (2 * suc a) (2 * b) (2 * a) w (omega arith) r
ascends_one Open a b w h r = (omega arith, omega arith, ascends_from (2 * suc a) (2 * b) (suc (2 * a + 1)) w (omega arith) r)
ascends_one Wrong a b w h r = (omega arith, omega arith, ascends_from (2 * suc a) (2 * b) (suc (2 * a)) w (omega arith) r)

ascends_all : (mark : ℕ → Mark) (n a b : ℕ) → a + n ≤ b → Ascends (2 * a) (2 * b) (words_of mark (span_of a n))
unfolding span_of words_of
ascends_all mark zero a b h = tt
ascends_all mark (suc n) a b h = ascends_one (mark a) a b (words_of mark (span_of (suc a) n)) (omega arith) (ascends_all mark n (suc a) b (omega arith))

-- ---- they are exactly the words of the significands from a up to b that are not right

listed_word : (mark : ℕ → Mark) (X w : ℕ) (m : Mark) → mark X ≡ m → Memᴰ w (listed m X) → WordOf mark X w
listed_word mark X w Right q r = absurd (Memᴰ.not-nil r)
listed_word mark X w Open q r = inl (q, Memᴰ.eq_of_singleton r)
listed_word mark X w Wrong q r = inr (q, Memᴰ.eq_of_singleton r)

word_listed : (mark : ℕ → Mark) (X w : ℕ) → WordOf mark X w → Memᴰ w (listed (mark X) X)
word_listed mark X w (inl q) = rw q.0 (Memᴰ.head q.1)
word_listed mark X w (inr q) = rw q.0 (Memᴰ.head q.1)

there_listed : (mark : ℕ → Mark) (n a w : ℕ) → Memᴰ w (words_of mark (span_of a n)) → Listed mark a (a + n) w
unfolding span_of words_of
there_listed mark zero a w r = absurd (Memᴰ.not-nil r)
there_listed mark (suc n) a w r = go (Memᴰ.append_cases (listed (mark a) a) r) (there_listed mark n (suc a) w)
  where
    go : Memᴰ w (listed (mark a) a) ⊎ Memᴰ w (words_of mark (span_of (suc a) n))
        → (Memᴰ w (words_of mark (span_of (suc a) n)) → Listed mark (suc a) (suc a + n) w) → Listed mark a (a + suc n) w
    go (inl u) ih = record { X = a; from = omega arith; below = omega arith; word = listed_word mark a w (mark a) refl u }
    go (inr u) ih = let i = ih u in record { X = i.X; from = omega (arith, i.from); below = omega (arith, i.below); word = i.word }

listed_there : (mark : ℕ → Mark) (n a X w : ℕ) → a ≤ X → X < a + n → WordOf mark X w → Memᴰ w (words_of mark (span_of a n))
unfolding span_of words_of
listed_there mark zero a X w h k q = absurd (omega arith)
listed_there mark (suc n) a X w h k q = go (dec_lt a X) (λ u. listed_there mark n (suc a) X w u (omega arith) q)
  where
    go : Dec (a < X) → (a < X → Memᴰ w (words_of mark (span_of (suc a) n))) → Memᴰ w (listed (mark a) a ++ words_of mark (span_of (suc a) n))
    go (yes u) ih = Memᴰ.append_right (listed (mark a) a) (ih u)
    go (no u) ih =
        let z : X ≡ a = omega arith in
        Memᴰ.append_left (words_of mark (span_of (suc a) n)) (word_listed mark a w (rw z at q))

-- The words of the significands from a up to b, in order, hold exactly those that are not right, once each, ascending, with their marks.
pub holds : (mark : ℕ → Mark) (a b : ℕ) (words : List ℕ) → a ≤ b → words ≡ words_of mark (span a b) → Holds mark a b words
unfolding span
holds mark a b words h q =
    let e : a + (b - a) ≡ b = omega arith in
    record {
      are = q;
      exactly = λ w. (
        (λ r. rw (← e) (there_listed mark (b - a) a w (rw q at r))),
        λ i. rw q (listed_there mark (b - a) a i.X w i.from (omega (arith, i.below)) i.word),
      );
      ascending = rw q (ascends_all mark (b - a) a b (omega arith));
    }

-- ---- the words of the first t suspects are those of all before the next one

module _ (suspect : ℕ → Bool) (mark : ℕ → Mark) (first last : ℕ) (clear : (X : ℕ) → first ≤ X → X ≤ last → suspect X ≡ false → mark X ≡ Right) where
  -- the words of the first t of a row from a on are those of all before the next one, which is not before a
  abbrev Before : (a : ℕ) → List ℕ → Type 0
  Before a l = (t : ℕ) → first ≤ a → a ≤ suc last → (a ≤ end_of last (drop t l)) × (words_of mark (take t l) ≡ words_of mark (span a (end_of last (drop t l))))

  before : (a : ℕ) → Before a (row suspect a (suc last))
  unfolding words_of
  before a = row_induct suspect (suc last) Before none at past (suc last) a (omega arith)
    where
      none : (a : ℕ) → suc last ≤ a → Before a []
      none a h t i j = rw (take-nil {A = ℕ} t, drop-nil {A = ℕ} t) (j, rw (span_empty a (suc last) h))

      at : (a : ℕ) → a < suc last → suspect a ≡ true → Before (suc a) (row suspect (suc a) (suc last)) → Before a (a ∷ row suspect (suc a) (suc last))
      at a h s ih zero i j = (omega arith, rw (span_empty a a (omega arith)))
      at a h s ih (suc t) i j =
          let k = ih t (omega arith) h in
          (omega (arith, k.0), rw (k.1, span_cons a (end_of last (drop t (row suspect (suc a) (suc last)))) k.0))

      past : (a : ℕ) (l : List ℕ) → a < suc last → suspect a ≡ false → Before (suc a) l → Before a l
      past a l h s ih t i j =
          let k = ih t (omega arith) h in
          (omega (arith, k.0), rw (k.1, span_cons a (end_of last (drop t l)) k.0, clear a i (omega arith) s))

  -- The words of the first t suspects in range are those of all significands before the next one, which is not before the first.
  pub words_before : (t : ℕ) → first ≤ last → let next = end_of last (drop t (row suspect first (suc last))) in (first ≤ next) × (words_of mark (take t (row suspect first (suc last))) ≡ words_of mark (span first next))
  words_before t h = before first t (omega arith) (omega arith)
