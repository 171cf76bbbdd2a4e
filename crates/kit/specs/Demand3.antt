-- What whole sweeps of kits owe: of every list of calls that were made from a new state, each of them keeping the contract of `kit_call` at the state that the one before handed back.
-- `WholeKit` (in `calls`) has it of the calls that are asked; here it is said of those that were made. Assumes nothing.
use Rattle.std.specs.Prelude.{◌≡◌, refl, Bool, false, cond, ◌↔◌, eqb, length, drop, Ok, Err, Result as Either}
use Rattle.std.proofs.Common.{sym, ◌∙◌, arith, eqb-true, pow_pos}
use Rattle.std.proofs.Math.Path.{ap, subst}
use Rattle.std.proofs.Math.Bool.{true}
use mathlib.Core.List.{List, [], ◌∷◌, ◌++◌, Memᴰ}
use Prim.Native.Nat.{ℕ, suc, ◌+◌, ◌-◌, ◌*◌, ◌/◌, ◌≤◌, ◌<◌}
use Rattle.std.proofs.lemmas.Bool.{eqb-false}
use Rattle.marks.specs.declared.Refusal.{Refusal}
use Rattle.marks.specs.Answers.{NoneHolds, accepted, number_of, said}
use Rattle.marks.specs.AnswerLaws.{only_accepted, none_refuses}
use Rattle.rounding.specs.Round.{HasBits}
use Rattle.factor.specs.declared.Factor.{Factor}
use Rattle.factor.specs.Context.{context_of, lower_of, upper_of}
use Rattle.factor.specs.SetUp.{Sound}
use Rattle.product.specs.Product.{product_by}
use Rattle.product.specs.Marks.{mark_by, SaysBy}
use Rattle.suspects.specs.Suspects.{Suspect}
use Rattle.calls.specs.State.{Range, State, Call}
use Rattle.calls.specs.Engine.{fresh, AllOf, Standing}
use Rattle.calls.specs.Call.{new_state, ReplyOf, Result, sweep_call}
use Rattle.calls.specs.Plain.{SeenOf}
use Rattle.calls.specs.ByRow.{row_call}
use Rattle.calls.specs.Whole.{sweeps, state_after, IfAccepted, words_in, Ascends, fed_by}
use Rattle.calls.proofs.RowLaws.{row_ascends, row_exactly}
use Rattle.calls.proofs.RefusalLaws.{between, refused_same, over_kept}
use Rattle.calls.proofs.ListLaws.{entries_length, entries_are}
use Rattle.calls.proofs.CallLaws.{if_accepted, by_row_lem, rounds_right}
use Rattle.calls.proofs.SameLaws.{after_stands}
use Rattle.calls.proofs.Demand3.{each}
use Rattle.calls.proofs.Made as calls
use Rattle.calls.proofs.Made.{replies_by}
use Rattle.calls.specs.Kit as kit
use Rattle.calls.specs.Kit.{in_kit, place_size, position, place_in, significand_in, suspect_in, mark_in, has_in, searched_in}
use Rattle.calls.proofs.KitLaws.{place_of, position_is, all_at, entry_laws, Passed, suspect_placed, own_suspect, kit_through, kit_laws}
use Rattle.calls.proofs.KitRows.{pairs_at, list_of, lists_from, CleanKit, same_marks}
use Rattle.calls.proofs.KitDemand.{WholeKit, whole_kit, separate_lists}
use Rattle.sweep.specs.declared.SweepState.{SweepState}
use Rattle.sweep.specs.Engine as sweep
use Rattle.sweep.proofs.EngineLaws.{suspect_is, mark_is}
use Rattle.sweep.specs.Answers as swept
use Rattle.sweep.proofs.Demand3 as separate
use Rattle.kit.specs.declared.Kit.{Kit}
use Rattle.kit.specs.declared.KitState.{KitState}
use Rattle.kit.specs.declared.KitReply.{KitReply}
use Rattle.kit.specs.Engine.{whole, factors, kits}
use Rattle.kit.specs.EngineLaws.{passed_sound, factor_laws, kits_lawful}
use Rattle.kit.specs.Answers.{Verdict, kit_of, view_of, new_of, answer_of, reply_of, told, verdict_of}

-- ---- the view loses nothing

-- States that say the same are the same: kit, place, next significand and finished mark. A next significand is a word of 64 bits.
pub view_tells : (s t : KitState) → s.next < place_size → t.next < place_size → view_of s ≡ view_of t → s ≡ t
view_tells s t h k e =
    let p : position s.place s.next ≡ position t.place t.next = ap (λ (v : State (kit.Kit Factor)). v.next) e in
    let place : s.place ≡ t.place = omega arith in
    let next : s.next ≡ t.next = omega arith in
    λ i. record {
      kit = record { factors = (e i).over.factors; count = (e i).over.count };
      place = place i;
      next = next i;
      finished = (e i).finished;
    }

-- The factors that a call searched in, by its states: from the place that it began at to the place handed back.
pub searched_is : (s t : KitState) → s.next < place_size → t.next < place_size → searched_in (view_of s) (view_of t) ≡ suc t.place - s.place
searched_is s t h k = rw (place_of s.place s.next h, place_of t.place t.next k)

-- A reply that keeps the contract of `kit_call`.
module _ (s : KitState) (c : Call) (r : KitReply) (left : List ℕ) (keeps : reply_of r left ≡ sweep_call kits (view_of s) c) where
  -- A refusal hands back the state as given, and the list as it was.
  pub refused_unaltered : s.next < place_size → r.state.next < place_size → (e : Refusal) → r.answer ≡ Err e → (r.state ≡ s) × (left ≡ c.list)
  refused_unaltered h k e q =
      let answers = ap (λ (x : ReplyOf (State (kit.Kit Factor))). x.answer) (sym keeps) ∙ ap answer_of q in
      let same = refused_same kits (view_of s) c (number_of e) answers in (
        view_tells r.state s k h (ap (λ (x : ReplyOf (State (kit.Kit Factor))). x.state) keeps ∙ same.0),
        ap (λ (x : ReplyOf (State (kit.Kit Factor))). x.list) keeps ∙ same.1,
      )

  -- Every call hands back the kit as given.
  pub kit_unaltered : r.state.kit ≡ s.kit
  kit_unaltered =
      let same : kit_of r.state.kit ≡ kit_of s.kit = ap (λ (x : ReplyOf (State (kit.Kit Factor))). x.state.over) keeps ∙ over_kept kits (view_of s) c in
      λ i. record { factors = (same i).factors; count = (same i).count }

-- ---- where calls begin

-- Over every kit that 42, 31 and 43 let through, a new state is accepted: at place 0 and that factor's first significand, and not finished.
pub begins_always : (k : kit.Kit Factor) → NoneHolds (kits.new_faults k) → new_state kits k ≡ accepted (fresh kits k)
begins_always k good = none_refuses (kits.new_faults k) (fresh kits k) good

-- ---- calls that were made

-- a call that was made: what was asked, what was answered, and the list that it left
pub record Made : Type 0 where
  pub asked : Call
  pub reply : KitReply
  pub left : List ℕ

abbrev asked : Made → Call
asked m = m.asked

abbrev pub reply_in : Made → ReplyOf (State (kit.Kit Factor))
reply_in m = reply_of m.reply m.left

-- each call kept the contract of `kit_call`, at the state that the one before handed back
abbrev pub Kept : State (kit.Kit Factor) → List Made → Type 0
Kept = calls.Kept asked reply_in (sweep_call kits)

-- what was asked, what was answered, what is seen of them, and the state that the last of them handed back
abbrev pub asked_in : List Made → List Call
asked_in = calls.asked_in asked reply_in

abbrev pub replies_in : List Made → List (ReplyOf (State (kit.Kit Factor)))
replies_in = calls.replies_in asked reply_in

abbrev pub seen_in : List Made → List (SeenOf (State (kit.Kit Factor)))
seen_in = calls.seen_in asked reply_in

abbrev pub last_in : State (kit.Kit Factor) → List Made → State (kit.Kit Factor)
last_in = calls.last_in asked reply_in

-- P of each of them, with the state that it was given and its reply
abbrev pub EachIn : (State (kit.Kit Factor) → Call → ReplyOf (State (kit.Kit Factor)) → Type 0) → State (kit.Kit Factor) → List Made → Type 0
EachIn = calls.EachIn asked reply_in

-- how many entries they wrote: half their words, since an entry takes two
abbrev pub entries_in : List Made → ℕ
entries_in made = length (words_in (seen_in made)) / 2

-- ---- the factors of a kit

-- z is a position of the factor f in a kit: f stands at its place, and its significand is one of f's.
pub record Belongs (k : kit.Kit Factor) (z : ℕ) (f : Factor) : Type 0 where
  pub rest : List Factor
  pub at : drop (place_in z) (in_kit k) ≡ f ∷ rest
  pub bits : HasBits f.precision (significand_in z)

-- A suspect of a kit is one of the factor at its place.
pub record SuspectOf (k : kit.Kit Factor) (z : ℕ) : Type 0 where
  pub factor : Factor
  pub belongs : Belongs k z factor
  pub suspect : Suspect (context_of factor) (lower_of factor) (upper_of factor) (significand_in z)

-- A separate sweep of a factor: `new_state` of `sweep` accepted a state over all its significands, and the calls made from it kept the contract of `sweep_call`, and led to the finish.
pub record Separate (f : Factor) : Type 0 where
  pub start : SweepState
  pub begun : swept.new_of (Ok start) ≡ new_state sweep.engine (whole f)
  pub made : List separate.Made
  pub kept : separate.Kept (swept.view_of start) made
  pub finished : (separate.last_in (swept.view_of start) made).finished ≡ true

-- What such sweeps of factors list, one after another, each word after the factor's place.
abbrev pub listed_by : (i : ℕ) (l : List Factor) → AllOf Separate l → List ℕ
listed_by i [] a = []
listed_by i (f ∷ l) a = pairs_at i (words_in (separate.seen_in a.0.made)) ++ listed_by (suc i) l a.1

-- ---- whole sweeps

-- An accepted call's trials and rounds are added up over the factors that it searched in, and its rounds are at most 64 × (its trials + 2 × the number of those factors).
abbrev pub FewRounds : (before : State (kit.Kit Factor)) → Call → ReplyOf (State (kit.Kit Factor)) → Type 0
FewRounds s c r = IfAccepted (λ (a : Result). a.rounds ≤ 64 * (a.trials + 2 * searched_in s r.state)) r.answer

-- The calls that were made from a state s.
pub record KitDemand3 (s : State (kit.Kit Factor)) (made : List Made) : Type 0 where
  -- what whole sweeps owe, of the calls that were asked
  pub whole : WholeKit sweep.suspect_in factors 64 s (asked_in made)
  -- it speaks of the calls that were made: of their replies, of what is seen of them, and of the state that the last of them handed back
  pub replies : replies_in made ≡ replies_by (sweep_call kits) s (asked_in made)
  pub seen : seen_in made ≡ sweeps (sweep_call kits) s (asked_in made)
  pub last : last_in s made ≡ state_after (sweep_call kits) s (asked_in made)
  -- the test for a suspect is the definition of one, of the factor at the place
  pub suspects : (z : ℕ) → (suspect_in sweep.suspect_in factors s.over z ≡ true) ↔ SuspectOf s.over z
  -- the row that the plain kit sweep is fed has all suspects of the kit's factors, ascending: in kit order, and those of a factor in theirs
  pub row : (z : ℕ) → Memᴰ z (fed_by (suspect_in sweep.suspect_in factors) kits s.over).suspects ↔ SuspectOf s.over z
  pub ascending : Ascends (kits.first s.over) (suc (kits.last s.over)) (fed_by (suspect_in sweep.suspect_in factors) kits s.over).suspects
  -- marks are those of the factor at the place: the mark of its product, which says what it must of every fraction between its ends
  pub marks : (z : ℕ) (f : Factor) → Belongs s.over z f → (fed_by (suspect_in sweep.suspect_in factors) kits s.over).mark z ≡ mark_by f (significand_in z) (product_by f (significand_in z))
  pub tells : (z : ℕ) (f : Factor) → Belongs s.over z f → SaysBy f (significand_in z) (product_by f (significand_in z)) ((fed_by (suspect_in sweep.suspect_in factors) kits s.over).mark z)
  -- rounds are few
  pub rounds : EachIn FewRounds s made
  -- from a new state to the finish, each call on the state handed back, joined calls list exactly what the separate sweeps list, in kit order, whatever calls these are made of
  pub joins : (last_in s made).finished ≡ true → (apart : AllOf Separate (in_kit s.over)) → words_in (seen_in made) ≡ listed_by 0 (in_kit s.over) apart
  -- the kit is clean exactly if they list nothing, which is so exactly if every factor in it is
  pub nothing : (last_in s made).finished ≡ true → (words_in (seen_in made) ≡ []) ↔ CleanKit factors s.over
  -- and that is told by the state and the number of entries: clean exactly if the kit is, and not clean exactly if it is not; of a state that is not finished nothing is told
  pub pairs : length (words_in (seen_in made)) ≡ 2 * entries_in made
  pub told_clean : (last_in s made).finished ≡ true → (verdict_of (last_in s made) (entries_in made) ≡ accepted Verdict.Clean) ↔ CleanKit factors s.over
  pub told_not_clean : (last_in s made).finished ≡ true → (verdict_of (last_in s made) (entries_in made) ≡ accepted Verdict.NotClean) ↔ ¬ CleanKit factors s.over
  pub told_unfinished : (last_in s made).finished ≡ false → (n : ℕ) → verdict_of (last_in s made) n ≡ accepted Verdict.Unfinished

-- ---- of a kit that is not refused

-- the significands of a factor are those of n bits
within : (f : Factor) (X : ℕ) → HasBits f.precision X → ((whole f).first ≤ X) × (X ≤ (whole f).last)
within f X x = (x.least, omega (arith, x.most))

bits_in : (f : Factor) (X : ℕ) → (whole f).first ≤ X → X ≤ (whole f).last → HasBits f.precision X
bits_in f X h k = record { least = h; most = omega (arith, pow_pos f.precision) }

module _ (k : kit.Kit Factor) (good : NoneHolds (kits.new_faults k)) where
  through : AllOf (Passed factor_laws) (in_kit k)
  through = kit_through factor_laws k good

  -- 31 lets through the factor that a position belongs to
  belongs_passed : (z : ℕ) (f : Factor) → Belongs k z f → Passed factor_laws f
  belongs_passed z f b = all_at (Passed factor_laws) (place_in z) (in_kit k) b.rest f through b.at

  belongs_sound : (z : ℕ) (f : Factor) → Belongs k z f → Sound f
  belongs_sound z f b = passed_sound f (belongs_passed z f b)

  suspect_of : (z : ℕ) → (suspect_in sweep.suspect_in factors k z ≡ true) ↔ SuspectOf k z
  unfolding suspect_in
  suspect_of z = (there, back)
    where
      there : suspect_in sweep.suspect_in factors k z ≡ true → SuspectOf k z
      there h =
          let p = (suspect_placed factor_laws (in_kit k) through z h).0 in
          let b : Belongs k z p.factor = record { rest = p.rest; at = p.at; bits = bits_in p.factor (significand_in z) p.from p.upto } in
          record {
            factor = p.factor;
            belongs = b;
            suspect = (suspect_is p.factor (belongs_sound z p.factor b) (significand_in z)).0 (own_suspect factor_laws (in_kit k) through z p h);
          }

      back : SuspectOf k z → suspect_in sweep.suspect_in factors k z ≡ true
      back q =
          let f = q.factor in
          let X : ℕ = significand_in z in
          rw (
            q.belongs.at,
            (between (whole f) X).1 (within f X q.belongs.bits),
            (suspect_is f (belongs_sound z f q.belongs) X).1 q.suspect,
          )

  row_of : (z : ℕ) → Memᴰ z (fed_by (suspect_in sweep.suspect_in factors) kits k).suspects ↔ SuspectOf k z
  unfolding suspect_in has_in
  row_of z =
      let exactly = row_exactly (suspect_in sweep.suspect_in factors k) (kits.first k) (suc (kits.last k)) z in (
        (λ m. (suspect_of z).0 (exactly.0 m).2),
        (λ q.
            let s = (suspect_of z).1 q in
            let i = (kit_laws factor_laws k good).between z (suspect_placed factor_laws (in_kit k) through z s).1 in
            exactly.1 (i.0, omega (arith, i.1), s)),
      )

  mark_of : (z : ℕ) (f : Factor) → Belongs k z f → mark_in factors k z ≡ mark_by f (significand_in z) (product_by f (significand_in z))
  unfolding mark_in
  mark_of z f b =
      let X : ℕ = significand_in z in
      let i = within f X b.bits in
      subst (λ (y : ℕ). mark_in factors k y ≡ mark_by f X (product_by f X)) (position_is z)
      (same_marks factor_laws (in_kit k) through (place_in z) f b.rest b.at (belongs_passed z f b) X i.0 (omega (arith, i.1)))

-- ---- rounds

-- what follows from what an accepted call answers
-- On every state, also one that no calls lead to.
pub few_rounds : (s : State (kit.Kit Factor)) (c : Call) → FewRounds s c (sweep_call kits s c)
few_rounds s c = if_accepted (λ a r. r.few) (sweep_call kits s c).answer (rounds_right kits_lawful s c)

-- ---- what separate sweeps list

-- a separate sweep lists the words of all significands that are not right
separate_list : (f : Factor) (a : Separate f) → words_in (separate.seen_in a.made) ≡ list_of factors f
separate_list f a =
    let s = swept.view_of a.start in
    let demand = separate.demand_3 f (whole f).first (whole f).last a.start a.begun a.made a.kept in
    let finished = ap (λ (t : State (Range Factor)). t.finished) (sym demand.last) ∙ a.finished in
    ap words_in demand.seen
    ∙ separate_lists factor_laws f s (sym a.begun) (separate.asked_in a.made) finished
    ∙ entries_are (list_of factors f)

separate_all : (i : ℕ) (l : List Factor) (apart : AllOf Separate l) → lists_from factors i l ≡ listed_by i l apart
unfolding lists_from
separate_all i [] a = refl
separate_all i (f ∷ l) a = rw (separate_list f a.0, separate_all (suc i) l a.1)

-- ---- what is told of a kit

-- a list is empty exactly if it has no entry, where its words are twice as many as those
no_words : (l : List ℕ) (n : ℕ) → length l ≡ 2 * n → (n ≡ 0) ↔ (l ≡ [])
no_words [] n q = ((λ e. refl), (λ e. omega arith))
no_words (x ∷ l) n q = ((λ e. absurd (omega arith)), (λ e. let z : ◌≡◌ {A = ℕ} 0 1 = cc in absurd (omega arith)))

-- of a finished state: clean exactly if there is no entry, and not clean exactly if there is one
told_by : (n : ℕ) → ((told true n ≡ Verdict.Clean) ↔ (n ≡ 0)) × ((told true n ≡ Verdict.NotClean) ↔ ¬ (n ≡ 0))
told_by n = go (eqb n 0) refl
  where
    go : (b : Bool) → eqb n 0 ≡ b → ((cond b Verdict.Clean Verdict.NotClean ≡ Verdict.Clean) ↔ (n ≡ 0)) × ((cond b Verdict.Clean Verdict.NotClean ≡ Verdict.NotClean) ↔ ¬ (n ≡ 0))
    go true q = (((λ e. eqb-true n 0 q), (λ e. refl)), ((λ e. let z : ◌≡◌ {A = ℕ} 0 1 = cc in absurd (omega arith)), (λ h. absurd (h (eqb-true n 0 q)))))
    go false q = (((λ e. let z : ◌≡◌ {A = ℕ} 0 1 = cc in absurd (omega arith)), (λ e. absurd (eqb-false n 0 q e))), ((λ e. eqb-false n 0 q), (λ h. refl)))

-- ---- the theorem

-- from the new state of a kit that is not refused
module _ (k : kit.Kit Factor) (good : NoneHolds (kits.new_faults k)) (made : List Made) (kept : Kept (fresh kits k) made) where
  abbrev s : State (kit.Kit Factor)
  s = fresh kits k

  abbrev t : State (kit.Kit Factor)
  t = last_in s made

  demand : WholeKit sweep.suspect_in factors 64 s (asked_in made)
  demand = whole_kit factor_laws k s (begins_always k good) (asked_in made)

  seen_are : seen_in made ≡ sweeps (sweep_call kits) s (asked_in made)
  seen_are = calls.kept_seen asked reply_in (sweep_call kits) s made kept

  last_is : t ≡ state_after (sweep_call kits) s (asked_in made)
  last_is = calls.kept_last asked reply_in (sweep_call kits) s made kept

  done : t.finished ≡ true → (state_after (sweep_call kits) s (asked_in made)).finished ≡ true
  done h = ap (λ (x : State (kit.Kit Factor)). x.finished) (sym last_is) ∙ h

  nothing_is : t.finished ≡ true → (words_in (seen_in made) ≡ []) ↔ CleanKit factors k
  nothing_is h = rw seen_are (demand.clean (done h))

  pairs_are : length (words_in (seen_in made)) ≡ 2 * entries_in made
  pairs_are =
      let words = demand.whole.words in
      let two = ap (λ (l : List (SeenOf (State (kit.Kit Factor)))). length (words_in l)) seen_are ∙ ap length words.are ∙ entries_length entry_laws words.listed in
      omega (arith, two)

  -- no entry is there exactly if the kit is clean
  entries_clean : t.finished ≡ true → (entries_in made ≡ 0) ↔ CleanKit factors k
  entries_clean h =
      let none = no_words (words_in (seen_in made)) (entries_in made) pairs_are in
      let all = nothing_is h in
      ((λ e. all.0 (none.0 e)), (λ c. none.1 (all.1 c)))

  -- a state that calls lead to is not refused, so that what is told is the answer
  verdict_is : (n : ℕ) → verdict_of t n ≡ accepted (told t.finished n)
  unfolding verdict_of
  verdict_is n =
      let stands = subst (Standing kits) (sym last_is) (after_stands kits_lawful k good (asked_in made)).1 in
      none_refuses (kits.faults t) (told t.finished n) ((kits_lawful.states t).1 stands)

  told_is : t.finished ≡ true → (x : Verdict) → (verdict_of t (entries_in made) ≡ accepted x) ↔ (told true (entries_in made) ≡ x)
  told_is h x =
      let says = verdict_is (entries_in made) ∙ ap (λ (b : Bool). accepted (told b (entries_in made))) h in
      ((λ e. let same = sym says ∙ e in cc), (λ e. says ∙ ap accepted e))

  from_fresh : KitDemand3 s made
  from_fresh =
      record {
        whole = demand;
        replies = calls.kept_replies asked reply_in (sweep_call kits) s made kept;
        seen = seen_are;
        last = last_is;
        suspects = suspect_of k good;
        row = row_of k good;
        ascending = row_ascends (suspect_in sweep.suspect_in factors k) (kits.first k) (suc (kits.last k));
        marks = mark_of k good;
        tells = λ z f b. rw (mark_of k good z f b) (mark_is f (belongs_sound k good z f b) (significand_in z) b.bits);
        rounds = calls.kept_each asked reply_in (sweep_call kits) FewRounds s made kept (each FewRounds (sweep_call kits) few_rounds s (asked_in made));
        joins = λ h apart. ap words_in seen_are ∙ demand.joins (done h) ∙ separate_all 0 (in_kit k) apart;
        nothing = nothing_is;
        pairs = pairs_are;
        told_clean = λ h.
            let is = told_is h Verdict.Clean in
            let none = entries_clean h in
            let by = (told_by (entries_in made)).0 in
            ((λ e. none.0 (by.0 (is.0 e))), (λ c. is.1 (by.1 (none.1 c))));
        told_not_clean = λ h.
            let is = told_is h Verdict.NotClean in
            let none = entries_clean h in
            let by = (told_by (entries_in made)).1 in
            ((λ e c. by.0 (is.0 e) (none.1 c)), (λ n. is.1 (by.1 (λ z. n (none.0 z)))));
        told_unfinished = λ h n. verdict_is n ∙ ap (λ (b : Bool). accepted (told b n)) h;
      }

-- What whole sweeps of kits owe, where `new_state` accepted a kit, and the calls made from the state that it gave kept the contract of `kit_call`.
pub kit_demand_3 : (k : Kit) (r : Either KitState Refusal) → new_of r ≡ new_state kits (kit_of k) → (t : KitState) → r ≡ Ok t → (made : List Made) → Kept (view_of t) made → KitDemand3 (view_of t) made
kit_demand_3 k r new t passed made kept =
    let begun : new_state kits (kit_of k) ≡ accepted (view_of t) = sym new ∙ ap new_of passed in
    let good = only_accepted (kits.new_faults (kit_of k)) (fresh kits (kit_of k)) (view_of t) begun in
    subst (λ (s : State (kit.Kit Factor)). Kept s made → KitDemand3 s made) good.1 (from_fresh (kit_of k) good.0 made) kept

-- ---- whether the kit is clean, as `kit_verdict` answers

-- a result that says a value is that value
ok_said : {A : Type 0} (r : Either A Refusal) (a : A) → said r ≡ accepted a → r ≡ Ok a
ok_said (Ok x) a q = let e : x ≡ a = cc in ap Ok e
ok_said (Err e) a q = let z : ◌≡◌ {A = ℕ} 0 1 = cc in absurd (omega arith)

-- Its contract, at the state that the last call handed back and with all entries since the new one: it answers what the kit is by its definition.
module _ {s : State (kit.Kit Factor)} {made : List Made} (demand : KitDemand3 s made) (v : Either Verdict Refusal) (keeps : said v ≡ verdict_of (last_in s made) (entries_in made)) where
  answers : (x : Verdict) → verdict_of (last_in s made) (entries_in made) ≡ accepted x → v ≡ Ok x
  answers x e = ok_said v x (keeps ∙ e)

  pub answers_clean : (last_in s made).finished ≡ true → (v ≡ Ok Verdict.Clean) ↔ CleanKit factors s.over
  answers_clean h = ((λ e. (demand.told_clean h).0 (sym keeps ∙ ap said e)), (λ c. answers Verdict.Clean ((demand.told_clean h).1 c)))

  pub answers_not_clean : (last_in s made).finished ≡ true → (v ≡ Ok Verdict.NotClean) ↔ ¬ CleanKit factors s.over
  answers_not_clean h = ((λ e. (demand.told_not_clean h).0 (sym keeps ∙ ap said e)), (λ c. answers Verdict.NotClean ((demand.told_not_clean h).1 c)))

  pub answers_unfinished : (last_in s made).finished ≡ false → v ≡ Ok Verdict.Unfinished
  answers_unfinished h = answers Verdict.Unfinished (demand.told_unfinished h (entries_in made))

-- ---- one call

-- On every state, also one that no calls lead to, what the searches make of a kit call is what is read off the row of suspects: answer, state, list and counts.
pub kit_call_by_row : (s : State (kit.Kit Factor)) (c : Call) → sweep_call kits s c ≡ row_call (suspect_in sweep.suspect_in factors) kits s c
kit_call_by_row = by_row_lem kits_lawful
