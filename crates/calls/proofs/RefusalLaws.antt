-- Laws of the refusals: what a call and its state have where none is judged. Assumes nothing.
use Rattle.std.proofs.Math.Path.{◌≡◌, refl}
use Rattle.std.specs.Prelude.{Bool, true, false, ◌||◌, ◌↔◌, [], ◌∷◌, ℕ, ◌-◌, ◌≤◌, ◌<◌, leb, ltb, length, Option, Some, None}
use Rattle.std.proofs.Common.{arith, one-mul, le-div_iff_mul-le, le-leb, le-ltb, leb-true, ltb-false}
use Rattle.marks.specs.Answers.{Judgement, number, none, judged, refused}
use Rattle.marks.specs.AnswerLaws.{judged_none, none_holds, and_true, or_false}
use Rattle.calls.specs.State.{Range, State, in_range, out_of_range, Call, Terms, terms_of, Listing, room_in}
use Rattle.calls.specs.Engine.{Engine, handed, ListingLaws, Standing, Lawful}
use Rattle.calls.specs.Call.{Run, conditions, replied, run_of, sweep_call}
use Rattle.calls.specs.Plain.{tries, Fed, Plain, untried, PlainReply, plain_replied, plain_refusal, plain_call, plain_next}

-- What a call has that neither 33 nor the conditions on calls refuse: room for an entry.
pub record Taken (l : Listing) (finished : Bool) (t : Terms) : Type 0 where
  pub going : finished ≡ false
  pub some : 0 < t.cap
  pub places : l.places ≤ t.size - t.free
  pub room : 0 < room_in l t.size t.free

-- The plain sweep takes such calls alone.
pub taken : {l : Listing} → ListingLaws l → (finished : Bool) (t : Terms) → plain_refusal l finished t ≡ none → Taken l finished t
taken {l} laws finished t q =
    let n = judged_none ((33, finished) ∷ []) (l.refuses t) q in
    let k = laws.takes t (none_holds (l.refuses t) n.1) in
    record { going = n.0.0; some = k.0; places = k.1; room = (le-div_iff_mul-le {x = 1} laws.some).1 (omega (arith, k.1, one-mul l.places)) }

-- How many such a call tries.
abbrev pub tried_by : {U : Type 0} → Fed U → Plain → Call → ℕ
tried_by w p c = tries w.mark c.cap (room_in w.listing (length c.list) c.free) (untried w p)

-- What holds of a refused call's reply, and of that of a call that is taken, holds of the reply to each call.
pub plain_reply : {U : Type 0} (w : Fed U) (p : Plain) (c : Call) (P : PlainReply → Type 0) → ((n : ℕ) → P (record { told = refused n; plain = p }))
    → (plain_refusal w.listing p.finished (terms_of c) ≡ none → P (plain_replied w p c.free none (tried_by w p c))) → P (plain_next w p c)
unfolding plain_call
plain_reply w p c P refuses takes = go (plain_refusal w.listing p.finished (terms_of c)) refl
  where
    go : (v : Judgement) → plain_refusal w.listing p.finished (terms_of c) ≡ v → P (plain_replied w p c.free v (tried_by w p c))
    go (number n) q = refuses n
    go none q = takes q

-- What a call and its state have where no condition refuses them.
pub record Ready {U : Type 0} (e : Engine U) (s : State U) (t : Terms) : Type 0 where
  pub stands : Standing e s
  pub from : e.first s.over ≤ s.next
  pub upto : s.next ≤ e.last s.over
  pub lists : ListingLaws (e.listing s.over)
  pub takes : Taken (e.listing s.over) s.finished t

-- A call that no condition refuses.
pub ready : {U : Type 0} {suspect : U → ℕ → Bool} {e : Engine U} {B : U → ℕ} → Lawful suspect e B → (s : State U) (t : Terms) → judged (conditions e s t) ≡ none → Ready e s t
ready {U} {suspect} {e} {B} lawful s t q =
    let n = judged_none (e.faults s) ((33, s.finished) ∷ (e.listing s.over).refuses t) q in
    let stands = (lawful.states s).0 n.0 in
    let laws = lawful.laws s.over stands.sound in
    let inside = laws.between s.next stands.there in
    record { stands = stands; from = inside.0; upto = inside.1; lists = laws.lists; takes = taken laws.lists s.finished t n.1 }

-- A significand lies in a range exactly if it lies between its first and its last.
pub between : {F : Type 0} (r : Range F) (X : ℕ) → (in_range r X ≡ true) ↔ ((r.first ≤ X) × (X ≤ r.last))
between r X = (
  λ q. let i = and_true (leb r.first X) (leb X r.last) q in (leb-true r.first X i.0, leb-true X r.last i.1),
  λ h. rw (le-leb r.first X h.0, le-leb X r.last h.1),
)

-- Where a state is not out of range, its range is good and its next significand lies in it.
pub in_range_lem : {F : Type 0} (bad : Bool) (s : State (Range F)) → (out_of_range bad s ≡ false) ↔ ((bad ≡ false) × (in_range s.over s.next ≡ true))
in_range_lem bad s = (
  λ q.
      let outer = or_false (bad || ltb s.next s.over.first) (ltb s.over.last s.next) q in
      let inner = or_false bad (ltb s.next s.over.first) outer.0 in
      (inner.0, (between s.over s.next).1 (ltb-false s.next s.over.first inner.1, ltb-false s.over.last s.next outer.1)),
  λ h. let i = (between s.over s.next).0 h.1 in rw (h.0, le-ltb s.next s.over.first i.0, le-ltb s.over.last s.next i.1),
)

-- A call that a condition refuses.
pub call_refused : {U : Type 0} (e : Engine U) (s : State U) (c : Call) (n : ℕ) → judged (conditions e s (terms_of c)) ≡ number n
    → record { answer = refused n; state = s; list = c.list } ≡ sweep_call e s c
unfolding sweep_call
call_refused e s c n q = rw q

module _ {U : Type 0} (e : Engine U) (s : State U) (c : Call) where
  -- A refused call hands back the state and the list as they were given.
  pub refused_same : (n : ℕ) → (sweep_call e s c).answer ≡ refused n → ((sweep_call e s c).state ≡ s) × ((sweep_call e s c).list ≡ c.list)
  unfolding sweep_call
  refused_same n = go (judged (conditions e s (terms_of c))) (run_of e s c)
    where
      go : (v : Judgement) (r : Run) → (replied e s c v r).answer ≡ refused n → ((replied e s c v r).state ≡ s) × ((replied e s c v r).list ≡ c.list)
      go (number m) r q = (refl, refl)
      go none r q = let z : ◌≡◌ {A = ℕ} 0 1 = cc in absurd (omega arith)

  -- Every call hands back a state over the same.
  pub over_kept : (sweep_call e s c).state.over ≡ s.over
  unfolding sweep_call
  over_kept = go (judged (conditions e s (terms_of c))) (run_of e s c)
    where
      over : (p : Option ℕ) → (handed e s p).over ≡ s.over
      over (Some X) = refl
      over None = refl

      go : (v : Judgement) (r : Run) → (replied e s c v r).state.over ≡ s.over
      go (number n) r = refl
      go none r = over r.left
