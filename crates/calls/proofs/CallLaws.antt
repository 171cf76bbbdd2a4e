-- Laws of one call, on every state: it is the one read off the row of suspects; what it does to the list; its searches and rounds; how many it tries at most and at least. Assumes nothing.
use Rattle.std.specs.Prelude.{◌≡◌, Bool, ℕ, ◌+◌, ◌≤◌, min, length, drop, Option, Some, None}
use Rattle.std.proofs.Math.Path.{refl, ap}
use Rattle.std.proofs.Common.{sym, ◌∙◌, arith, le_trans, mul-le-mul_left}
use Rattle.marks.specs.Answers.{Judgement, number, none, judged, Outcome, refused, accepted}
use Rattle.calls.specs.State.{State, Call, terms_of, Listing, entries, room_in}
use Rattle.calls.specs.Engine.{stops_at, once, passed, Engine, handed, Laws, Lawful}
use Rattle.calls.specs.Call.{conditions, Reply, Run, run_of, replied, sweep_call}
use Rattle.calls.specs.Plain.{tries}
use Rattle.calls.specs.ByRow.{head_of, searches_of, row_run, row_ahead, row_call}
use Rattle.calls.specs.Whole.{IfAccepted, ListKept, stop_of, SearchesRight, RoundsRight, Capped, Ample}
use Rattle.calls.proofs.SearchLaws.{searches_are}
use Rattle.calls.proofs.RunLaws.{run_is, left_is, rounds_few}
use Rattle.calls.proofs.RefusalLaws.{Ready, ready}
use Rattle.calls.proofs.TrialLaws.{tries_within, tries_capped, tries_ample, words_fit}
use Rattle.calls.proofs.ListLaws.{entries_fit, tail_kept}

-- What follows from what holds of an accepted call's answer holds of it too.
pub if_accepted : {A : Type 0} {P Q : A → Type 0} → ((a : A) → P a → Q a) → (o : Outcome A) → IfAccepted P o → IfAccepted Q o
if_accepted f (refused n) p = tt
if_accepted f (accepted a) p = f a p

-- The state that is handed back tells where a call stopped.
pub stop_is : {U : Type 0} (e : Engine U) (s : State U) (p : Option ℕ) → stop_of (handed e s p) ≡ p
stop_is e s (Some X) = refl
stop_is e s None = refl

module _ {U : Type 0} {suspect : U → ℕ → Bool} {e : Engine U} {B : U → ℕ} (lawful : Lawful suspect e B) (s : State U) (c : Call) where
  abbrev l : Listing
  l = e.listing s.over

  abbrev room : ℕ
  room = room_in l (length c.list) c.free

  abbrev trials : ℕ
  trials = tries (e.mark s.over) c.cap room (row_ahead suspect e s)

  abbrev by_row : Run
  by_row = row_run e s.over s.next trials (row_ahead suspect e s)

  laws_of : Ready e s (terms_of c) → Laws (suspect s.over) e s.over (B s.over)
  laws_of r = lawful.laws s.over r.stands.sound

  -- the suspect that it stops at, or none
  abbrev stop : Option ℕ
  stop = head_of (drop trials (row_ahead suspect e s))

  -- A sweep call by searches is the call read off the row of suspects: answer, state, list and counts.
  pub by_row_lem : sweep_call e s c ≡ row_call suspect e s c
  unfolding sweep_call
  by_row_lem = go (judged (conditions e s (terms_of c))) refl
    where
      go : (v : Judgement) → judged (conditions e s (terms_of c)) ≡ v → replied e s c v (run_of e s c) ≡ replied e s c v by_row
      go (number n) q = refl
      go none q =
          let r = ready lawful s (terms_of c) q in
          ap (replied e s c none) (run_is (laws_of r) c.cap room s.next r.from (omega (arith, r.upto)))

  -- What holds of a refused call's reply, and of that of an accepted one by the row, holds of the call's.
  reply : (P : Reply U → Type 0) → ((n : ℕ) → P (replied e s c (number n) by_row)) → (Ready e s (terms_of c) → P (replied e s c none by_row)) → P (sweep_call e s c)
  reply P refuses accepts = rw by_row_lem (go (judged (conditions e s (terms_of c))) refl)
    where
      go : (v : Judgement) → judged (conditions e s (terms_of c)) ≡ v → P (replied e s c v by_row)
      go (number n) q = refuses n
      go none q = accepts (ready lawful s (terms_of c) q)

  -- A call writes only into the free tail; a refused one leaves the list.
  pub list_kept : ListKept c (sweep_call e s c).answer (sweep_call e s c).list
  list_kept =
      let w = words_fit (e.mark s.over) c.cap room (row_ahead suspect e s) in
      reply (λ r. ListKept c r.answer r.list) (λ n. refl)
      (λ r. tail_kept c (entries l by_row.words) (omega (arith, r.takes.places, r.lists.some, entries_fit r.lists (length c.list) c.free by_row.words w)))

  -- no more are tried than are left
  within : trials ≤ length (row_ahead suspect e s)
  within = tries_within (e.mark s.over) c.cap room (row_ahead suspect e s)

  -- How many searches an accepted call makes.
  pub searches_right : IfAccepted (SearchesRight suspect e s (sweep_call e s c).state) (sweep_call e s c).answer
  searches_right =
      reply (λ r. IfAccepted (SearchesRight suspect e s r.state) r.answer) (λ n. tt)
      (λ r.
      let laws = laws_of r in
      searches_are (suspect s.over) (e.sections s.over) (e.first s.over) (e.last s.over) laws.chain laws.tiled trials s.next r.from (omega (arith, r.upto)) within
      ∙ ap (searches_of (suspect s.over) (e.sections s.over) s.next trials) (sym (stop_is e s stop)))

  -- It tries at most its cap.
  pub capped : IfAccepted (Capped c) (sweep_call e s c).answer
  capped = reply (λ r. IfAccepted (Capped c) r.answer) (λ n. tt) (λ r. tries_capped (e.mark s.over) c.cap room (row_ahead suspect e s))

  -- An accepted call's rounds are those of its searches, and few.
  pub rounds_right : IfAccepted (RoundsRight suspect e B s (sweep_call e s c).state) (sweep_call e s c).answer
  rounds_right =
      reply (λ r. IfAccepted (RoundsRight suspect e B s r.state) r.answer) (λ n. tt)
      (λ r.
      let few = rounds_few (laws_of r) s.next trials r.from (omega (arith, r.upto)) within in
      let spans = lawful.spans s r.stands stop (left_is (laws_of r) s.next trials) in
      let less : trials + (once (stops_at stop) + passed (e.sections s.over) s.next stop) ≤ trials + e.beyond s (handed e s stop) = omega arith in
      record { are = refl; few = le_trans few (mul-le-mul_left (B s.over) less) })

  -- An accepted call tries at least the smallest of cap, room and suspects left.
  pub ample : IfAccepted (Ample suspect e s c) (sweep_call e s c).answer
  ample =
      reply (λ r. IfAccepted (Ample suspect e s c) r.answer) (λ n. tt)
      (λ r.
      tries_ample (e.mark s.over) (min c.cap (min room (length (row_ahead suspect e s)))) c.cap room (row_ahead suspect e s)
      (omega arith) (omega arith) (omega arith))
