-- Laws of what a kit's sweep lists: its row of suspects is its factors' rows, joined in kit order, and from a new state to the finish its calls list what the separate sweeps list. Assumes nothing.
use Rattle.std.proofs.Math.Path.{◌≡◌, refl, sym, ap, ap₂}
use Rattle.std.proofs.Common.{◌∙◌, subst, true≢false, inl, inr}
use Rattle.std.specs.Prelude.{Bool, true, false, cond, ◌≢◌, ◌↔◌, drop}
use Rattle.std.proofs.Math.Bool.{not-eq-not}
use mathlib.Core.List.Memᴰ
use mathlib.Core.List.{List, [], ◌∷◌, ◌++◌, map, append-nil, Memᴰ}
use Prim.Native.Nat.{ℕ, suc, ◌+◌, ◌-◌, ◌*◌, ◌/◌, ◌%◌, ◌≤◌, ◌<◌}
use native.Mathlib.Omega.{arith}
use Rattle.std.proofs.Math.Nat.{suc-mul}
use Rattle.std.proofs.Math.Decide.{dec_lt}
use Rattle.std.proofs.Math.ListN.{length, length-append, length-map}
use Rattle.std.proofs.Math.Seq.{take-length, drop-length}
use Rattle.marks.specs.declared.Mark.{Mark}
use Rattle.marks.specs.declared.Mark.TheVariants.{Right, Open, Wrong}
use Rattle.marks.specs.Answers.{NoneHolds}
use Rattle.calls.specs.State.{listed, entries}
use Rattle.calls.specs.Engine.{Engine, AllOf, Laws}
use Rattle.calls.specs.Plain.{span, row, words_of}
use Rattle.calls.specs.Whole.{end_of, WordOf, Ascends}
use Rattle.calls.proofs.RowLaws.{row_empty, row_at, row_next, row_induct, row_split, row_skip, row_ascends, ascends_few}
use Rattle.calls.proofs.TrialLaws.{words_append}
use Rattle.calls.proofs.WordLaws.{holds, words_before}
use Rattle.calls.proofs.ListLaws.{entries_append}
use Rattle.calls.proofs.Demand3.{not_suspect}
use Rattle.calls.specs.Kit.{Kit, in_kit, kit_faults, place_size, position, place_in, significand_in, Factors, first_in, last_of, last_in, mark_at, suspect_at, suspect_in, mark_in, entry_list, kit_engine}
use Rattle.calls.proofs.KitLaws.{place_of, significand_of_lem, all_at, drop_next, FactorLaws, laws_of, Passed, Placed, suspect_placed, same_suspects, kit_through, kit_some, kit_laws}

-- ---- definitions

-- The suspects of factors from a place on, as positions: their rows, one after another.
unfoldable pub joined_rows : {F U : Type 0} → (U → ℕ → Bool) → Factors F U → (i : ℕ) → List F → List ℕ
unfolding row
joined_rows suspect d i [] = []
joined_rows suspect d i (f ∷ l) =
    map (position i) (row (suspect (d.whole f)) (d.engine.first (d.whole f)) (suc (d.engine.last (d.whole f)))) ++ joined_rows suspect d (suc i) l

-- Listed words of the factor at a place, each after the place.
abbrev pub pairs_at : (i : ℕ) → List ℕ → List ℕ
pairs_at i [] = []
pairs_at i (w ∷ l) = i ∷ w ∷ pairs_at i l

-- The listed words of a factor: those of all its significands that are not right.
abbrev pub list_of : {F U : Type 0} → Factors F U → F → List ℕ
list_of d f = words_of (d.engine.mark (d.whole f)) (span (d.engine.first (d.whole f)) (suc (d.engine.last (d.whole f))))

-- what the separate sweeps list, in kit order, from a place on
unfoldable pub lists_from : {F U : Type 0} → Factors F U → (i : ℕ) → List F → List ℕ
unfolding words_of span
lists_from d i [] = []
lists_from d i (f ∷ l) = pairs_at i (list_of d f) ++ lists_from d (suc i) l

-- A factor is clean if each of its significands is right.
abbrev pub Clean : {F U : Type 0} → Factors F U → F → Type 0
Clean d f = (X : ℕ) → d.engine.has (d.whole f) X ≡ true → d.engine.mark (d.whole f) X ≡ Right

-- A kit is clean if no factor in it has a significand that is not right.
abbrev pub CleanKit : {F U : Type 0} → Factors F U → Kit F → Type 0
CleanKit d k = AllOf (Clean d) (in_kit k)

-- ---- rows and words at a place

module _ (i : ℕ) where
  -- A row of suspects at a place.
  row_at_place : (own all : ℕ → Bool) (lo b : ℕ) → ((X : ℕ) → lo ≤ X → X < b → all (position i X) ≡ own X) → (a : ℕ) → lo ≤ a → row all (position i a) (position i b) ≡ map (position i) (row own a b)
  row_at_place own all lo b same a = row_induct own b (λ a l. lo ≤ a → row all (position i a) (position i b) ≡ map (position i) l) none at past b a (omega arith)
    where
      none : (a : ℕ) → b ≤ a → lo ≤ a → row all (position i a) (position i b) ≡ []
      none a h k = row_empty all (position i a) (position i b) (omega arith)

      at : (a : ℕ) → a < b → own a ≡ true → (lo ≤ suc a → row all (position i (suc a)) (position i b) ≡ map (position i) (row own (suc a) b)) → lo ≤ a
          → row all (position i a) (position i b) ≡ position i a ∷ map (position i) (row own (suc a) b)
      at a h s ih k =
          let next : suc (position i a) ≡ position i (suc a) = omega arith in
          row_at all (position i a) (position i b) (omega arith) (same a k h ∙ s)
          ∙ ap (λ (z : ℕ). position i a ∷ row all z (position i b)) next
          ∙ ap (λ (l : List ℕ). position i a ∷ l) (ih (omega arith))

      past : (a : ℕ) (l : List ℕ) → a < b → own a ≡ false → (lo ≤ suc a → row all (position i (suc a)) (position i b) ≡ map (position i) l) → lo ≤ a
          → row all (position i a) (position i b) ≡ map (position i) l
      past a l h s ih k =
          let next : suc (position i a) ≡ position i (suc a) = omega arith in
          row_next all (position i a) (position i b) (omega arith) (same a k h ∙ s)
          ∙ ap (λ (z : ℕ). row all z (position i b)) next
          ∙ ih (omega arith)

  -- The entries of significands at a place are their words, each after the place.
  words_at_place : (own all : ℕ → Mark) (a b : ℕ) (l : List ℕ) → b ≤ place_size → Ascends a b l → ((X : ℕ) → a ≤ X → X < b → all (position i X) ≡ own X)
      → entries entry_list (words_of all (map (position i) l)) ≡ pairs_at i (words_of own l)
  unfolding words_of entries
  words_at_place own all a b [] h r q = refl
  words_at_place own all a b (x ∷ l) h r q = rw (q x r.0 r.1) (go (own x) (words_at_place own all (suc x) b l h r.2 (λ X u v. q X (omega (arith, r.0)) v)))
    where
      go : (t : Mark) → entries entry_list (words_of all (map (position i) l)) ≡ pairs_at i (words_of own l)
          → entries entry_list (listed t (position i x) ++ words_of all (map (position i) l)) ≡ pairs_at i (listed t x ++ words_of own l)
      go Right ih = ih
      go Open ih =
          let u : (2 * position i x + 1) / (2 * place_size) ≡ i = omega (arith, r.1) in
          let v : (2 * position i x + 1) % (2 * place_size) ≡ 2 * x + 1 = omega (arith, r.1) in
          rw (u, v, ih)
      go Wrong ih =
          let u : (2 * position i x) / (2 * place_size) ≡ i = omega (arith, r.1) in
          let v : (2 * position i x) % (2 * place_size) ≡ 2 * x = omega (arith, r.1) in
          rw (u, v, ih)

-- ---- words of all, and of the suspects

-- Where all that is no suspect is right, the words of all significands are those of the suspects.
pub words_of_row : (suspect : ℕ → Bool) (mark : ℕ → Mark) (first last : ℕ) → first ≤ last → ((X : ℕ) → first ≤ X → X ≤ last → mark X ≢ Right → suspect X ≡ true)
    → words_of mark (row suspect first (suc last)) ≡ words_of mark (span first (suc last))
words_of_row suspect mark first last h q =
    let r : List ℕ = row suspect first (suc last) in
    ap (words_of mark) (sym (take-length r))
    ∙ (words_before suspect mark first last (λ X u v. not_suspect (mark X) (suspect X) (q X u v)) (length r) h).1
    ∙ ap (λ (l : List ℕ). words_of mark (span first (end_of last l))) (drop-length r)

-- Nothing is listed exactly if all are right.
pub nothing_listed : (mark : ℕ → Mark) (a b : ℕ) → a ≤ b → (words_of mark (span a b) ≡ []) ↔ ((X : ℕ) → a ≤ X → X < b → mark X ≡ Right)
nothing_listed mark a b h =
    let all = holds mark a b (words_of mark (span a b)) h refl in (
      (λ q X u v. right (mark X) refl (λ w word. Memᴰ.not-nil (subst (λ (l : List ℕ). Memᴰ w l) q ((all.exactly w).1 (record { X = X; from = u; below = v; word = word }))))),
      (λ q. empty (words_of mark (span a b)) (λ w m. let i = (all.exactly w).0 m in none (mark i.X) (q i.X i.from i.below) i.word)),
    )
  where
    right : {X : ℕ} (m : Mark) → mark X ≡ m → ((w : ℕ) → WordOf mark X w → ⊥) → mark X ≡ Right
    right Right e k = e
    right {X} Open e k = absurd (k (2 * X + 1) (inl (e, refl)))
    right {X} Wrong e k = absurd (k (2 * X) (inr (e, refl)))

    none : {X w : ℕ} (m : Mark) → mark X ≡ Right → WordOf mark X w → ⊥
    none m e (inl q) = let u : ◌≡◌ {A = ℕ} 0 1 = cc in omega arith
    none m e (inr q) = let u : ◌≡◌ {A = ℕ} 0 1 = cc in omega arith

    empty : (l : List ℕ) → ((w : ℕ) → Memᴰ w l → ⊥) → l ≡ []
    empty [] k = refl
    empty (w ∷ l) k = absurd (k w (Memᴰ.head refl))

-- ---- the factors of a kit

module _ {F U : Type 0} {suspect : U → ℕ → Bool} {d : Factors F U} {B : U → ℕ} {M : ℕ} (laws : FactorLaws suspect d B M) where
  abbrev e : Engine U
  e = d.engine

  module _ (fs : List F) (through : AllOf (Passed laws) fs) where
    -- whether a position is a suspect, and its mark
    abbrev all : ℕ → Bool
    all z = suspect_at suspect d (drop (place_in z) fs) (significand_in z)

    abbrev marks : ℕ → Mark
    marks z = mark_at d (drop (place_in z) fs) (significand_in z)

    -- past a factor's last significand there is no suspect up to the next one's first
    gap_clear : (i : ℕ) (f g : F) (l : List F) → drop i fs ≡ f ∷ g ∷ l → (Z : ℕ) → position i (suc (e.last (d.whole f))) ≤ Z → Z < position (suc i) (e.first (d.whole g)) → all Z ≡ false
    gap_clear i f g l q Z u v = (not-eq-not {b = false}).0 (λ t. go (suspect_placed laws fs through Z t).0 (dec_lt (place_in Z) (suc i)))
      where
        go : Placed laws fs through Z → Dec (place_in Z < suc i) → ⊥
        go p (yes k) =
            let short = laws.short f (all_at (Passed laws) i fs (g ∷ l) f through q) in
            let at : place_in Z ≡ i = omega arith in
            let w : f ∷ g ∷ l ≡ p.factor ∷ p.rest = sym q ∙ ap (λ (j : ℕ). drop j fs) (sym at) ∙ p.at in
            let same : f ≡ p.factor = cc in
            omega (arith, p.upto, ap (λ (x : F). e.last (d.whole x)) same)
        go p (no k) =
            let passes = all_at (Passed laws) (suc i) fs l g through (drop_next i fs (g ∷ l) f q) in
            let short = laws.short g passes in
            let ordered = (laws_of laws g passes).ordered in
            let at : place_in Z ≡ suc i = omega arith in
            let w : g ∷ l ≡ p.factor ∷ p.rest = sym (drop_next i fs (g ∷ l) f q) ∙ ap (λ (j : ℕ). drop j fs) (sym at) ∙ p.at in
            let same : g ≡ p.factor = cc in
            omega (arith, p.from, ap (λ (x : F). e.first (d.whole x)) same)

    -- the row of a factor at its place
    own_row : (i : ℕ) (f : F) (l : List F) → drop i fs ≡ f ∷ l
        → row all (position i (e.first (d.whole f))) (position i (suc (e.last (d.whole f)))) ≡ map (position i) (row (suspect (d.whole f)) (e.first (d.whole f)) (suc (e.last (d.whole f))))
    own_row i f l q =
        let passes = all_at (Passed laws) i fs l f through q in
        row_at_place i (suspect (d.whole f)) all (e.first (d.whole f)) (suc (e.last (d.whole f))) (λ X u v. same_suspects laws fs through i f l q passes X u (omega arith)) (e.first (d.whole f)) (omega arith)

    row_fits : (i : ℕ) (g : F) (l : List F) → e.first (d.whole g) ≤ e.last (d.whole g) → e.last (d.whole g) < place_size
        → position (suc i) (e.first (d.whole g)) ≤ suc (position (i + suc (length l)) (e.last (d.whole (last_of g l))))
    row_fits i g [] h k = omega arith
    row_fits i g (f ∷ l) h k = omega arith

    rows_from : (i : ℕ) (f : F) (l : List F) → drop i fs ≡ f ∷ l
        → row all (position i (e.first (d.whole f))) (suc (position (i + length l) (e.last (d.whole (last_of f l))))) ≡ joined_rows suspect d i (f ∷ l)
    unfolding joined_rows
    rows_from i f [] q =
        let end : suc (position (i + 0) (e.last (d.whole f))) ≡ position i (suc (e.last (d.whole f))) = omega arith in
        ap (λ (z : ℕ). row all (position i (e.first (d.whole f))) z) end ∙ own_row i f [] q ∙ sym (append-nil _)
    rows_from i f (g ∷ l) q =
        let passes = all_at (Passed laws) i fs (g ∷ l) f through q in
        let later = all_at (Passed laws) (suc i) fs l g through (drop_next i fs (g ∷ l) f q) in
        let b : ℕ = suc (position (i + suc (length l)) (e.last (d.whole (last_of g l)))) in
        let m : ℕ = position i (suc (e.last (d.whole f))) in
        let n : ℕ = position (suc i) (e.first (d.whole g)) in
        let short = laws.short f passes in
        let short' = laws.short g later in
        let ordered = (laws_of laws f passes).ordered in
        let ordered' = (laws_of laws g later).ordered in
        let past : suc i + length l ≡ i + suc (length l) = omega arith in
        let fits : n ≤ b = row_fits i g l ordered' short' in
        row_split all (position i (e.first (d.whole f))) m b (omega arith) (omega arith)
        ∙ ap₂ (λ (k l : List ℕ). k ++ l) (own_row i f (g ∷ l) q)
        (row_skip all m n b (omega arith) fits (gap_clear i f g l q)
        ∙ ap (λ (j : ℕ). row all n (suc (position j (e.last (d.whole (last_of g l)))))) (sym past)
        ∙ rows_from (suc i) g l (drop_next i fs (g ∷ l) f q))

    -- ---- the words

    -- the mark at a position is the factor's
    pub same_marks : (i : ℕ) (f : F) (l : List F) → drop i fs ≡ f ∷ l → Passed laws f → (X : ℕ) → e.first (d.whole f) ≤ X → X < suc (e.last (d.whole f)) → marks (position i X) ≡ e.mark (d.whole f) X
    same_marks i f l q passes X h k =
        let short = laws.short f passes in
        rw (place_of i X (omega arith), significand_of_lem i X (omega arith), q) (go (e.has (d.whole f) X) refl)
      where
        law : Laws (suspect (d.whole f)) e (d.whole f) (B (d.whole f))
        law = laws_of laws f passes

        go : (t : Bool) → e.has (d.whole f) X ≡ t → cond t (e.mark (d.whole f) X) Right ≡ e.mark (d.whole f) X
        go true w = refl
        go false w =
            sym
            (not_suspect (e.mark (d.whole f) X) (suspect (d.whole f) X) (law.suspected X h (omega arith))
            ((not-eq-not {b = false}).0 (λ t. true≢false (sym (law.had X h (omega arith) t) ∙ w))))

    words_from : (i : ℕ) (l : List F) → drop i fs ≡ l → entries entry_list (words_of marks (joined_rows suspect d i l)) ≡ lists_from d i l
    unfolding joined_rows lists_from entries words_of
    words_from i [] q = refl
    words_from i (f ∷ l) q =
        let passes = all_at (Passed laws) i fs l f through q in
        let law = laws_of laws f passes in
        let first : ℕ = e.first (d.whole f) in
        let last : ℕ = e.last (d.whole f) in
        let r : List ℕ = row (suspect (d.whole f)) first (suc last) in
        ap (entries entry_list) (words_append marks (map (position i) r) (joined_rows suspect d (suc i) l))
        ∙ entries_append entry_list (words_of marks (map (position i) r)) (words_of marks (joined_rows suspect d (suc i) l))
        ∙ ap₂ (λ (k m : List ℕ). k ++ m)
        (words_at_place i (e.mark (d.whole f)) marks first (suc last) r (laws.short f passes) (row_ascends (suspect (d.whole f)) first (suc last)) (same_marks i f l q passes)
        ∙ ap (pairs_at i) (words_of_row (suspect (d.whole f)) (e.mark (d.whole f)) first last law.ordered law.suspected))
        (words_from (suc i) l (drop_next i fs l f q))

    -- ---- how many suspects

    rows_few : (W : ℕ) → ((f : F) → Passed laws f → suc (e.last (d.whole f)) - e.first (d.whole f) ≤ W) → (i : ℕ) (l : List F) → AllOf (Passed laws) l
        → length (joined_rows suspect d i l) ≤ length l * W
    unfolding joined_rows
    rows_few W few i [] t = omega arith
    rows_few W few i (f ∷ l) t =
        let first : ℕ = e.first (d.whole f) in
        let last : ℕ = e.last (d.whole f) in
        let r : List ℕ = row (suspect (d.whole f)) first (suc last) in
        omega (
          arith,
          length-append (map (position i) r) (joined_rows suspect d (suc i) l),
          length-map r (position i),
          ascends_few first (suc last) r (row_ascends (suspect (d.whole f)) first (suc last)),
          few f t.0,
          rows_few W few (suc i) l t.1,
          suc-mul (length l) W,
        )

  -- ---- of a kit that is not refused

  module _ (k : Kit F) (good : NoneHolds (kit_faults d.faulty d.alike k)) where
    -- Its row of suspects is that of its factors, joined in kit order.
    pub rows_joined : row (suspect_in suspect d k) ((kit_engine d).first k) (suc ((kit_engine d).last k)) ≡ joined_rows suspect d 0 (in_kit k)
    unfolding suspect_in
    rows_joined = go (in_kit k) refl (kit_some laws k good)
      where
        go : (l : List F) → in_kit k ≡ l → 0 < length l
            → row (all (in_kit k) (kit_through laws k good)) (position 0 (first_in d l)) (suc (position (length l - 1) (last_in d l))) ≡ joined_rows suspect d 0 l
        go [] q h = absurd (omega arith)
        go (f ∷ l) q h =
            let n : suc (length l) - 1 ≡ 0 + length l = omega arith in
            ap (λ (m : ℕ). row (all (in_kit k) (kit_through laws k good)) (position 0 (e.first (d.whole f))) (suc (position m (e.last (d.whole (last_of f l)))))) n
            ∙ rows_from (in_kit k) (kit_through laws k good) 0 f l q

    -- The entries of all its positions that are not right are what the separate sweeps list, in kit order.
    pub lists_joined : entries entry_list (words_of (mark_in d k) (span ((kit_engine d).first k) (suc ((kit_engine d).last k)))) ≡ lists_from d 0 (in_kit k)
    unfolding mark_in suspect_in
    lists_joined =
        let law = kit_laws laws k good in
        ap (entries entry_list)
        (sym (words_of_row (suspect_in suspect d k) (mark_in d k) ((kit_engine d).first k) ((kit_engine d).last k) law.ordered law.suspected)
        ∙ ap (words_of (mark_in d k)) rows_joined)
        ∙ words_from (in_kit k) (kit_through laws k good) 0 (in_kit k) refl

    -- It has no more suspects than W for each factor, where each has at most W significands.
    pub suspects_few : (W : ℕ) → ((f : F) → Passed laws f → suc (e.last (d.whole f)) - e.first (d.whole f) ≤ W)
        → length (row (suspect_in suspect d k) ((kit_engine d).first k) (suc ((kit_engine d).last k))) ≤ length (in_kit k) * W
    suspects_few W few = rw rows_joined (rows_few (in_kit k) (kit_through laws k good) W few 0 (in_kit k) (kit_through laws k good))

    -- ---- clean

    -- a factor is clean exactly if it lists nothing
    clean_lists : (f : F) → Passed laws f → (list_of d f ≡ []) ↔ Clean d f
    clean_lists f passes =
        let law = laws_of laws f passes in
        let All-right = nothing_listed (e.mark (d.whole f)) (e.first (d.whole f)) (suc (e.last (d.whole f))) (omega (arith, law.ordered)) in (
          (λ q X h. let i = law.between X h in All-right.0 q X i.0 (omega (arith, i.1))),
          (λ c. All-right.1 (λ X u v. right X u v (e.has (d.whole f) X) refl c)),
        )
      where
        right : (X : ℕ) → e.first (d.whole f) ≤ X → X < suc (e.last (d.whole f)) → (t : Bool) → e.has (d.whole f) X ≡ t → Clean d f → e.mark (d.whole f) X ≡ Right
        right X u v true h c = c X h
        right X u v false h c =
            let law = laws_of laws f passes in
            not_suspect (e.mark (d.whole f) X) (suspect (d.whole f) X) (law.suspected X u (omega arith))
            ((not-eq-not {b = false}).0 (λ t. true≢false (sym (law.had X u (omega arith) t) ∙ h)))

    lists_nothing : (i : ℕ) (l : List F) → AllOf (Passed laws) l → (lists_from d i l ≡ []) ↔ AllOf (Clean d) l
    unfolding lists_from
    lists_nothing i [] t = ((λ q. tt), (λ q. refl))
    lists_nothing i (f ∷ l) t = go (list_of d f) refl (lists_nothing (suc i) l t.1) (clean_lists f t.0)
      where
        go : (w : List ℕ) → list_of d f ≡ w → (lists_from d (suc i) l ≡ []) ↔ AllOf (Clean d) l → (list_of d f ≡ []) ↔ Clean d f
            → (pairs_at i w ++ lists_from d (suc i) l ≡ []) ↔ (Clean d f × AllOf (Clean d) l)
        go [] z ih c = ((λ q. (c.0 z, ih.0 q)), (λ q. ih.1 q.1))
        go (x ∷ w) z ih c = (
          (λ q. let v : ◌≡◌ {A = ℕ} 0 1 = cc in absurd (omega arith)),
          (λ q. let u : x ∷ w ≡ [] = sym z ∙ c.1 q.0 in let v : ◌≡◌ {A = ℕ} 0 1 = cc in absurd (omega arith)),
        )

    -- The separate sweeps list nothing exactly if the kit is clean.
    pub nothing_clean : (lists_from d 0 (in_kit k) ≡ []) ↔ CleanKit d k
    nothing_clean = lists_nothing 0 (in_kit k) (kit_through laws k good)
