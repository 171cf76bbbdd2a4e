-- Laws: sweep calls from a new state go with the plain sweep, call by call. Assumes nothing.
use Rattle.std.specs.Prelude.{◌≡◌, Bool, true, false, length, take, drop}
use Rattle.std.proofs.Math.Path.{refl, ap}
use Rattle.std.proofs.Common.{sym, ◌∙◌, true≢false, arith, drop-drop}
use mathlib.Core.List.{List, [], ◌∷◌}
use Prim.Native.Nat.{ℕ, suc, ◌+◌}
use Rattle.marks.specs.Answers.{Judgement, number, none, judged, NoneHolds}
use Rattle.marks.specs.AnswerLaws.{pass_all}
use Rattle.calls.specs.State.{State, Call, terms_of, entries, room_in}
use Rattle.calls.specs.Engine.{Engine, fresh, handed, Laws, Standing, Lawful}
use Rattle.calls.specs.Call.{conditions, replied, sweep_call}
use Rattle.calls.specs.Plain.{row, tries, words_of, Fed, Plain, begun, untried, moved, plain_replied, plain_refusal, plain_call, Seen, state_of, plain_next, plains, plain_after}
use Rattle.calls.specs.ByRow.{head_of, row_run}
use Rattle.calls.specs.Whole.{seen, sweeps, state_after, fed_by}
use Rattle.calls.proofs.RowLaws.{begins, first_suspect}
use Rattle.calls.proofs.RefusalLaws.{tried_by, plain_reply, ready}
use Rattle.calls.proofs.TrialLaws.{words_fit}
use Rattle.calls.proofs.ListLaws.{entries_fit, read_back}
use Rattle.calls.proofs.CallLaws.{by_row_lem}

-- What the plain sweep is, wherever calls lead it: at a significand, and with the row from its next significand on untried.
pub record Reached {U : Type 0} (suspect : ℕ → Bool) (has : ℕ → Bool) (w : Fed U) (p : Plain) : Type 0 where
  pub there : has p.next ≡ true
  pub ahead : p.finished ≡ false → row suspect p.next (suc w.last) ≡ untried w p

module _ {U : Type 0} {suspect : U → ℕ → Bool} {e : Engine U} {B : U → ℕ} (lawful : Lawful suspect e B) (u : U) (sound : NoneHolds (e.new_faults u)) where
  -- what the plain sweep is fed
  abbrev w : Fed U
  w = fed_by suspect e u

  abbrev laws : Laws (suspect u) e u (B u)
  laws = lawful.laws u sound

  -- wherever calls lead it
  abbrev Led : Plain → Type 0
  Led p = Reached (suspect u) (e.has u) w p

  handed_is : (p : Plain) (t : ℕ) (l : List ℕ) → handed e (state_of w p) (head_of l) ≡ state_of w (moved w.last t l)
  handed_is p t [] = refl
  handed_is p t (x ∷ l) = refl

  refused_alike : (p : Plain) → Led p → (c : Call)
      → judged (conditions e (state_of w p) (terms_of c)) ≡ plain_refusal w.listing p.finished (terms_of c)
  refused_alike p r c =
      pass_all (e.faults (state_of w p)) ((33, p.finished) ∷ w.listing.refuses (terms_of c))
      ((lawful.states (state_of w p)).1 (record { sound = sound; there = r.there }))

  -- One call on a state that calls lead to is one call of the plain sweep.
  pub same : (p : Plain) → Led p → (c : Call)
      → seen c (sweep_call e (state_of w p) c) ≡ record { told = (plain_next w p c).told; state = state_of w (plain_next w p c).plain }
  unfolding plain_call
  same p r c =
      rw (by_row_lem lawful (state_of w p) c, refused_alike p r c)
      (go (plain_refusal w.listing p.finished (terms_of c)) (refused_alike p r c))
    where
      room : ℕ
      room = room_in w.listing (length c.list) c.free

      go : (v : Judgement) → judged (conditions e (state_of w p) (terms_of c)) ≡ v
          → seen c (replied e (state_of w p) c v (row_run e u p.next (tries (e.mark u) c.cap room (row (suspect u) p.next (suc w.last))) (row (suspect u) p.next (suc w.last))))
          ≡ record {
            told = (plain_replied w p c.free v (tries (e.mark u) c.cap room (untried w p))).told;
            state = state_of w (plain_replied w p c.free v (tries (e.mark u) c.cap room (untried w p))).plain;
          }
      go (number n) q = refl
      go none q =
          let ok = ready lawful (state_of w p) (terms_of c) q in
          let k : ℕ = tries (e.mark u) c.cap room (untried w p) in
          let words : List ℕ = words_of (e.mark u) (take k (untried w p)) in
          let fit = entries_fit laws.lists (length c.list) c.free words (words_fit (e.mark u) c.cap room (untried w p)) in
          rw (
            r.ahead ok.takes.going,
            read_back c.list (entries w.listing words) c.free (omega (arith, ok.takes.places, laws.lists.some)),
            handed_is p (p.tried + k) (drop k (untried w p)),
          )

  reached_moved : (t : ℕ) (l : List ℕ) → drop t w.suspects ≡ l → Led (moved w.last t l)
  reached_moved t [] q = record { there = laws.ends; ahead = λ z. absurd (true≢false z) }
  reached_moved t (x ∷ l) q =
      let b = begins (suspect u) w.first (suc w.last) t x l q in
      let suspects = first_suspect (suspect u) x (suc w.last) x l (sym b.is) in
      record { there = laws.had x b.from (omega (arith, b.below)) suspects; ahead = λ z. sym b.is ∙ sym q }

  reached_next : (p : Plain) → Led p → (c : Call) → Led (plain_next w p c).plain
  reached_next p r c =
      let k = tried_by w p c in
      plain_reply w p c (λ r. Led r.plain) (λ n. r)
      (λ q. reached_moved (p.tried + k) (drop k (untried w p)) (sym (drop-drop k p.tried w.suspects)))

  reached_begun : Led (begun w)
  reached_begun = record { there = laws.begins; ahead = λ z. refl }

  same_state : (p : Plain) → Led p → (c : Call) → (sweep_call e (state_of w p) c).state ≡ state_of w (plain_next w p c).plain
  same_state p r c = ap (λ (x : Seen U). x.state) (same p r c)

  sames : (calls : List Call) (p : Plain) → Led p → sweeps (sweep_call e) (state_of w p) calls ≡ plains (state_of w) w p calls
  unfolding sweeps plains
  sames [] p r = refl
  sames (c ∷ cs) p r =
      rw (same p r c, same_state p r c, sames cs (plain_next w p c).plain (reached_next p r c))

  afters : (calls : List Call) (p : Plain) → Led p → state_after (sweep_call e) (state_of w p) calls ≡ state_of w (plain_after w p calls)
  unfolding state_after plain_after
  afters [] p r = refl
  afters (c ∷ cs) p r = ap (λ (s : State U). state_after (sweep_call e) s cs) (same_state p r c) ∙ afters cs (plain_next w p c).plain (reached_next p r c)

  -- What is seen of calls from a new state is what the plain sweep shows.
  pub sweeps_same : (calls : List Call) → sweeps (sweep_call e) (fresh e u) calls ≡ plains (state_of w) w (begun w) calls
  sweeps_same calls = sames calls (begun w) reached_begun

  -- The state after calls from a new state is the plain sweep's.
  pub after_same : (calls : List Call) → state_after (sweep_call e) (fresh e u) calls ≡ state_of w (plain_after w (begun w) calls)
  after_same calls = afters calls (begun w) reached_begun

  reached_after : (calls : List Call) (p : Plain) → Led p → Led (plain_after w p calls)
  unfolding plain_after
  reached_after [] p r = r
  reached_after (c ∷ cs) p r = reached_after cs (plain_next w p c).plain (reached_next p r c)

  -- It is over what the new one is over, and no condition on states refuses it.
  pub after_stands : (calls : List Call) → ((state_after (sweep_call e) (fresh e u) calls).over ≡ u) × Standing e (state_after (sweep_call e) (fresh e u) calls)
  after_stands calls =
      rw (after_same calls) (refl, record { sound = sound; there = (reached_after calls (begun w) reached_begun).there })
