-- Laws of kits as they are formed: what 43 means, place by place, and that what stands past the number counts for nothing. Assumes nothing.
use Rattle.std.specs.Prelude.{◌≡◌, Bool, false, ◌||◌, ◌↔◌, eqb, ltb, drop, Option, Some, None}
use Rattle.std.proofs.Math.Path.{refl, ap, ap₂}
use Rattle.std.proofs.Common.{◌∙◌, arith}
use Rattle.std.proofs.Math.Bool.{true, not}
use mathlib.Core.List.{List, [], ◌∷◌, ◌++◌}
use Prim.Native.Nat.{ℕ, zero, suc, ◌-◌, ◌<◌}
use Rattle.std.proofs.Math.ListN.{length}
use Rattle.marks.specs.Answers.{Judgement, number, none, judged}
use Rattle.marks.specs.AnswerLaws.{or_false}
use Rattle.marks.specs.declared.Mark.{Mark}
use Rattle.calls.specs.State.{State, Call, terms_of, listed, room_in}
use Rattle.calls.specs.Engine.{Section, Engine, fresh, handed}
use Rattle.calls.specs.Call.{Reply, Run, tried, searched, seek, stopped, run, conditions, replied, run_of, sweep_call}
use Rattle.std.specs.List.{list_any}
use Rattle.calls.specs.Kit.{Kit, in_kit, two_alike, kit_faults, position, place_in, significand_in, Factors, first_in, last_in, has_at, has_in, mark_at, mark_in, sections_from, entry_list, kit_engine}
use Rattle.calls.proofs.KitLaws.{all_at, none_of}

-- ---- 43

-- R of what stands at any two places, the one before the other.
abbrev pub Apart : {F : Type 0} → (F → F → Type 0) → List F → Type 0
Apart R l = (i j : ℕ) → i < j → (f g : _) (p q : List _) → drop i l ≡ f ∷ p → drop j l ≡ g ∷ q → R f g

-- None of a list passes a test, where what stands at a place never does.
none_placed : {F : Type 0} (t : F → Bool) (l : List F) → ((j : ℕ) (g : F) (q : List F) → drop j l ≡ g ∷ q → t g ≡ false) → list_any t l ≡ false
none_placed t [] h = refl
none_placed t (f ∷ l) h = rw (h 0 f l refl) (none_placed t l (λ j. h (suc j)))

-- No two of a list are alike exactly if what stands at two places never is.
pub none_alike : {F : Type 0} (alike : F → F → Bool) (l : List F) → (two_alike alike l ≡ false) ↔ Apart (λ f g. alike f g ≡ false) l
unfolding two_alike
none_alike {F} alike l = (there l, back l)
  where
    there : (l : List F) → two_alike alike l ≡ false → Apart (λ f g. alike f g ≡ false) l
    there (h ∷ l) n zero (suc j) k f g p q a b =
        let same : h ≡ f = cc in
        rw (← same) (all_at (λ g. alike h g ≡ false) j l q g (none_of (alike h) l (or_false (list_any (alike h) l) (two_alike alike l) n).0) b)
    there (h ∷ l) n (suc i) (suc j) k f g p q a b = there l (or_false (list_any (alike h) l) (two_alike alike l) n).1 i j (omega (arith, k)) f g p q a b
    there l n i zero k f g p q a b = absurd (omega (arith, k))
    there [] n zero (suc j) k f g p q a b = let z : ◌≡◌ {A = ℕ} 0 1 = cc in absurd (omega arith)
    there [] n (suc i) (suc j) k f g p q a b = let z : ◌≡◌ {A = ℕ} 0 1 = cc in absurd (omega arith)

    back : (l : List F) → Apart (λ f g. alike f g ≡ false) l → two_alike alike l ≡ false
    back [] h = refl
    back (f ∷ l) h = rw (none_placed (alike f) l (λ j g q b. h 0 (suc j) (omega arith) f g l q refl b)) (back l (λ i j k. h (suc i) (suc j) (omega (arith, k))))

-- ---- past the number

-- What a call does is a matter of sections and marks.
module _ {U : Type 0} (e : Engine U) (u v : U) (sections : e.sections u ≡ e.sections v) (marks : (X : ℕ) → e.mark u X ≡ e.mark v X) where
  run_same : (cap free a : ℕ) → run e u cap free a ≡ run e v cap free a
  unfolding run
  run_same zero free a = ap (λ (l : List Section). searched (seek l a) stopped) sections
  run_same (suc cap) zero a = ap (λ (l : List Section). searched (seek l a) stopped) sections
  run_same (suc cap) (suc free) a =
      λ i. searched (seek (sections i) a) (λ X. (ap (λ (m : Mark). tried m X (run e u cap (suc free - length (listed m X)) (suc X))) (marks X)
      ∙ ap (tried (e.mark v X) X) (run_same cap (suc free - length (listed (e.mark v X) X)) (suc X))) i)

-- A state over a kit, and a reply that hands back another kit.
abbrev pub state_over : {F : Type 0} → (next : ℕ) → (finished : Bool) → Kit F → State (Kit F)
state_over next finished k = record { over = k; next = next; finished = finished }

abbrev pub handing : {F : Type 0} → Kit F → Reply (Kit F) → Reply (Kit F)
handing k r = record { answer = r.answer; state = state_over r.state.next r.state.finished k; list = r.list }

-- Two kits with the same factors in them, whatever stands past their number.
module _ {F U : Type 0} (d : Factors F U) (k m : Kit F) (same : in_kit k ≡ in_kit m) (number_same : k.count ≡ m.count) where
  -- They are refused alike when they are formed,
  pub formed_same : kit_faults d.faulty d.alike k ≡ kit_faults d.faulty d.alike m
  formed_same = λ i. (42, eqb (length (same i)) 0 || ltb 96 (number_same i)) ∷ (31, list_any d.faulty (same i)) ∷ (43, two_alike d.alike (same i)) ∷ []

  -- a new state over either begins at the same position,
  pub begun_same : fresh (kit_engine d) k ≡ state_over ((kit_engine d).first m) false k
  begun_same = ap (λ (l : List F). state_over (position 0 (first_in d l)) false k) same

  module _ (next : ℕ) (finished : Bool) where
    abbrev on : Kit F → State (Kit F)
    on = state_over next finished

    -- states over them are refused alike,
    pub faults_same : (kit_engine d).faults (on k) ≡ (kit_engine d).faults (on m)
    unfolding has_in
    faults_same = λ i. formed_same i ++ (32, not (has_at d (drop (place_in next) (same i)) (significand_in next))) ∷ []

    done_same : (c : Call) → run_of (kit_engine d) (on k) c ≡ run_of (kit_engine d) (on m) c
    unfolding mark_in
    done_same c =
        run_same (kit_engine d) k m (ap (sections_from d 0) same) (λ X. ap (λ (l : List F). mark_at d (drop (place_in X) l) (significand_in X)) same)
        c.cap (room_in entry_list (length c.list) c.free) next

    -- and every call is answered alike on both, and hands back the kit that it was given.
    pub past_number : (c : Call) → sweep_call (kit_engine d) (on k) c ≡ handing k (sweep_call (kit_engine d) (on m) c)
    unfolding sweep_call
    past_number c =
        ap₂ (replied (kit_engine d) (on k) c) (ap (λ (l : List (ℕ × Bool)). judged (l ++ (33, finished) ∷ entry_list.refuses (terms_of c))) faults_same) (done_same c)
        ∙ go (judged (conditions (kit_engine d) (on m) (terms_of c))) (run_of (kit_engine d) (on m) c)
      where
        stands : (p : Option ℕ) → let t = handed (kit_engine d) (on m) p in handed (kit_engine d) (on k) p ≡ state_over t.next t.finished k
        stands (Some X) = refl
        stands None = ap (λ (l : List F). state_over (position (length l - 1) (last_in d l)) true k) same

        go : (v : Judgement) (r : Run) → replied (kit_engine d) (on k) c v r ≡ handing k (replied (kit_engine d) (on m) c v r)
        go (number n) r = refl
        go none r = let other = replied (kit_engine d) (on m) c none r in ap (λ (s : State (Kit F)). record { answer = other.answer; state = s; list = other.list }) (stands r.left)
