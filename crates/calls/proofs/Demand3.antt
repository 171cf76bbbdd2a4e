-- What whole sweeps owe, for every list of sweep calls from a new state. Assumes nothing.
use Rattle.std.specs.Prelude.{◌≡◌, refl, Bool, false, ◌≢◌, ℕ, suc, ◌+◌, ◌*◌, ◌≤◌, length, take, drop}
use Rattle.std.proofs.Common.{sym, ap, ◌∙◌, true≢false, arith, zero-add, mul-one}
use Rattle.std.proofs.Math.Bool.{true}
use mathlib.Core.List.{List, [], ◌∷◌}
use Rattle.std.proofs.Math.Seq.{drop-length}
use Rattle.marks.specs.declared.Mark.{Mark}
use Rattle.marks.specs.declared.Mark.TheVariants.{Right, Open, Wrong}
use Rattle.marks.specs.Answers.{NoneHolds, accepted}
use Rattle.marks.specs.AnswerLaws.{only_accepted}
use Rattle.calls.specs.State.{State, Call, Listing, entries}
use Rattle.calls.specs.Engine.{Engine, fresh, Laws, Lawful}
use Rattle.calls.specs.Call.{ReplyOf, new_state, sweep_call}
use Rattle.calls.specs.Plain.{span, words_of, Fed, Plain, begun, untried, moved, state_of, plain_next, plains, plain_after}
use Rattle.calls.specs.Whole.{sweeps, state_after, Each, IfAccepted, trials_in, words_in, accepted_in, ListKept, end_of, SearchesRight, RoundsRight, Capped, Ample, fed_by, plain_end, Whole}
use Rattle.calls.proofs.CallLaws.{list_kept, capped, searches_right, rounds_right, ample}
use Rattle.calls.proofs.RefusalLaws.{tried_by, plain_reply}
use Rattle.calls.proofs.SameLaws.{sweeps_same, after_same}
use Rattle.calls.proofs.SumLaws.{trials_add, words_join}
use Rattle.calls.proofs.FinishLaws.{AllRoomy, Count, counted, closes}
use Rattle.calls.proofs.WordLaws.{holds, words_before}

-- What holds of a call on every state holds of each call of a list.
pub each : {S : Type 0} (P : S → Call → ReplyOf S → Type 0) (call : S → Call → ReplyOf S) → ((s : S) (c : Call) → P s c (call s c)) → (s : S) (calls : List Call)
    → Each P call s calls
each P call h s [] = tt
each P call h s (c ∷ cs) = (h s c, each P call h (call s c).state cs)

-- Every call that may be accepted has a cap and room of at least 1.
pub roomy_one : (l : Listing) (calls : List Call) → AllRoomy l 1 calls
roomy_one l [] = tt
roomy_one l (c ∷ cs) = ((λ a b. (a, b)), roomy_one l cs)

-- What is no suspect is right.
pub not_suspect : (m : Mark) (t : Bool) → (m ≢ Right → t ≡ true) → t ≡ false → m ≡ Right
not_suspect Right t q h = refl
not_suspect Open t q h = absurd (true≢false (sym (q (λ z. let u : ◌≡◌ {A = ℕ} 0 1 = cc in omega arith)) ∙ h))
not_suspect Wrong t q h = absurd (true≢false (sym (q (λ z. let u : ◌≡◌ {A = ℕ} 0 1 = cc in omega arith)) ∙ h))

module _ {U : Type 0} {suspect : U → ℕ → Bool} {e : Engine U} {B : U → ℕ} (lawful : Lawful suspect e B) where
  module _ (u : U) (sound : NoneHolds (e.new_faults u)) (calls : List Call) where
    abbrev laws : Laws (suspect u) e u (B u)
    laws = lawful.laws u sound

    abbrev s : State U
    s = fresh e u

    abbrev w : Fed U
    w = fed_by suspect e u

    abbrev p : Plain
    p = plain_after w (begun w) calls

    alike : sweeps (sweep_call e) s calls ≡ plains (state_of w) w (begun w) calls
    alike = sweeps_same lawful u sound calls

    finished_alike : (state_after (sweep_call e) s calls).finished ≡ p.finished
    finished_alike = ap (λ (s : State U). s.finished) (after_same lawful u sound calls)

    trials_are : trials_in (sweeps (sweep_call e) s calls) ≡ p.tried
    trials_are = rw alike (sym (zero-add _) ∙ trials_add (state_of w) w calls (begun w))

    words_are : words_in (sweeps (sweep_call e) s calls) ≡ entries w.listing (words_of (e.mark u) (take p.tried w.suspects))
    unfolding words_of entries
    words_are = rw alike (words_join (state_of w) w calls (begun w))

    -- the accepted calls
    abbrev n : ℕ
    n = accepted_in (sweeps (sweep_call e) s calls)

    count : (m : ℕ) → AllRoomy w.listing m calls → Count (length w.suspects) m p n
    count m roomy = rw alike (counted (state_of w) w laws.lists m calls roomy)

    -- Where each call that may be accepted has a cap and room of at least m, n accepted calls finish a sweep of at most n × m suspects.
    pub finished_by : (m : ℕ) → AllRoomy w.listing m calls → 1 ≤ n → length w.suspects ≤ n * m → (state_after (sweep_call e) s calls).finished ≡ true
    finished_by m roomy a h = finished_alike ∙ closes (count m roomy) a (λ u v. omega arith)

    clear : (X : ℕ) → w.first ≤ X → X ≤ w.last → suspect u X ≡ false → e.mark u X ≡ Right
    clear X h k = not_suspect (e.mark u X) (suspect u X) (laws.suspected X h k)

    from_fresh : Whole suspect e B (sweep_call e) s calls
    from_fresh =
        let before = words_before (suspect u) (e.mark u) w.first w.last clear p.tried laws.ordered in
        record {
          same = alike;
          lists = each (λ s c r. ListKept c r.answer r.list) (sweep_call e) (list_kept lawful) s calls;
          words =
              record {
                listed = words_of (e.mark u) (take p.tried w.suspects);
                are = words_are;
                holds =
                    holds (e.mark u) w.first (end_of w.last (untried w p)) (words_of (e.mark u) (take p.tried w.suspects))
                    before.0 before.1;
              };
          trials = trials_are;
          finished = (
            (λ h. let k = (count 1 (roomy_one w.listing calls)).closed (sym finished_alike ∙ h) in (k.0, trials_are ∙ k.1)),
            (λ h. finished_alike ∙ closes (count 1 (roomy_one w.listing calls)) h.0 (λ u v. omega (arith, trials_are))),
          );
          latest = λ h. finished_by 1 (roomy_one w.listing calls) (omega arith) (omega (arith, mul-one n));
          capped = each (λ s c r. IfAccepted (Capped c) r.answer) (sweep_call e) (capped lawful) s calls;
          searches = each (λ s c r. IfAccepted (SearchesRight suspect e s r.state) r.answer) (sweep_call e) (searches_right lawful) s calls;
          rounds = each (λ s c r. IfAccepted (RoundsRight suspect e B s r.state) r.answer) (sweep_call e) (rounds_right lawful) s calls;
          ample = each (λ s c r. IfAccepted (Ample suspect e s c) r.answer) (sweep_call e) (ample lawful) s calls;
        }

  -- What whole sweeps owe: the list begins with a new state, over what is not refused.
  pub whole_sweep : (u : U) (s : State U) → new_state e u ≡ accepted s → (calls : List Call) → Whole suspect e B (sweep_call e) s calls
  whole_sweep u s q calls =
      let good = only_accepted (e.new_faults u) (fresh e u) s q in
      rw (← good.1) (from_fresh u good.0 calls)

-- Where a sweep is finished, its joined words are the entries of all its significands that are not right.
pub finished_words : {U : Type 0} {suspect : U → ℕ → Bool} {e : Engine U} {B : U → ℕ} {call : State U → Call → ReplyOf (State U)} {s : State U} {calls : List Call} → Whole suspect e B call s calls
    → (state_after call s calls).finished ≡ true → words_in (sweeps call s calls) ≡ entries (e.listing s.over) (words_of (e.mark s.over) (span (e.first s.over) (suc (e.last s.over))))
finished_words {U} {suspect} {e} {B} {call} {s} {calls} whole h =
    let row : List ℕ = (fed_by suspect e s.over).suspects in
    let used : drop (plain_end suspect e s.over calls).tried row ≡ [] =
    ap (λ (n : ℕ). drop n row) (sym whole.trials ∙ (whole.finished.0 h).1) ∙ drop-length row in
    whole.words.are
    ∙ ap (entries (e.listing s.over))
    (whole.words.holds.are ∙ ap (λ (l : List ℕ). words_of (e.mark s.over) (span (e.first s.over) (end_of (e.last s.over) l))) used)

-- It stands at the last significand.
module _ {U : Type 0} (w : Fed U) where
  ends_last : (last t : ℕ) (l : List ℕ) → (moved last t l).finished ≡ true → (moved last t l).next ≡ last
  ends_last last t [] h = refl
  ends_last last t (x ∷ l) h = absurd (true≢false (sym h))

  plain_ends : (calls : List Call) (p : Plain) → (p.finished ≡ true → p.next ≡ w.last) → (plain_after w p calls).finished ≡ true → (plain_after w p calls).next ≡ w.last
  unfolding plain_after
  plain_ends [] p q = q
  plain_ends (c ∷ cs) p q =
      plain_ends cs (plain_next w p c).plain
      (plain_reply w p c (λ r. r.plain.finished ≡ true → r.plain.next ≡ w.last) (λ n. q)
      (λ t. ends_last w.last (p.tried + tried_by w p c) (drop (tried_by w p c) (untried w p))))

pub finished_next : {U : Type 0} {suspect : U → ℕ → Bool} {e : Engine U} {B : U → ℕ} → Lawful suspect e B → (u : U) → NoneHolds (e.new_faults u) → (calls : List Call)
    → (state_after (sweep_call e) (fresh e u) calls).finished ≡ true → (state_after (sweep_call e) (fresh e u) calls).next ≡ e.last u
finished_next {U} {suspect} {e} {B} lawful u sound calls h =
    let w = fed_by suspect e u in
    let same = after_same lawful u sound calls in
    ap (λ (s : State U). s.next) same
    ∙ plain_ends w calls (begun w) (λ z. absurd (true≢false (sym z))) (sym (ap (λ (s : State U). s.finished) same) ∙ h)
