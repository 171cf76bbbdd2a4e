-- What whole sweeps of kits owe, as one record: what all whole sweeps do, by the theorem of sweeps, and what it says of the factors in a kit. Assumes nothing.
use Rattle.std.specs.Prelude.{◌≡◌, Bool, true, ◌↔◌, List, [], ℕ, suc, ◌-◌, length}
use Rattle.std.proofs.Common.{sym, ap, ◌∙◌}
use Rattle.marks.specs.Answers.{accepted}
use Rattle.marks.specs.AnswerLaws.{only_accepted}
use Rattle.calls.specs.State.{State, Call, entries}
use Rattle.calls.specs.Engine.{fresh}
use Rattle.calls.specs.Call.{new_state, sweep_call}
use Rattle.calls.specs.Plain.{span, words_of}
use Rattle.calls.specs.Whole.{sweeps, state_after, words_in, fed_by, Whole}
use Rattle.calls.proofs.Demand3.{whole_sweep, finished_words, finished_next}
use Rattle.calls.specs.Kit.{Kit, in_kit, kit_faults, place_in, significand_in, Factors, last_in, suspect_in, kit_engine}
use Rattle.calls.proofs.KitLaws.{FactorLaws, kit_through, kit_some, last_place, last_significand, kit_lawful}
use Rattle.calls.proofs.KitRows.{joined_rows, list_of, lists_from, CleanKit, rows_joined, lists_joined, nothing_clean}

-- For every list of kit calls from a new state, refused ones included, whatever their caps, lists and free places.
pub record WholeKit {F U : Type 0} (suspect : U → ℕ → Bool) (d : Factors F U) (M : ℕ) (s : State (Kit F)) (calls : List Call) : Type 0 where
  -- what all whole sweeps owe. An accepted call's rounds are at most 64 × (its trials + 2 × the number of factors searched in), by the engine's `beyond`
  pub whole : Whole (suspect_in suspect d) (kit_engine d) (λ k. M) (sweep_call (kit_engine d)) s calls
  -- the plain kit sweep goes by the rows of the factors, joined in kit order
  pub rows : (fed_by (suspect_in suspect d) (kit_engine d) s.over).suspects ≡ joined_rows suspect d 0 (in_kit s.over)
  -- from a new state to the finish, joined calls list exactly what the separate sweeps list, in kit order
  pub joins : (state_after (sweep_call (kit_engine d)) s calls).finished ≡ true → words_in (sweeps (sweep_call (kit_engine d)) s calls) ≡ lists_from d 0 (in_kit s.over)
  -- the kit is clean exactly if they list nothing, which is so exactly if every factor in it is
  pub clean : (state_after (sweep_call (kit_engine d)) s calls).finished ≡ true → (words_in (sweeps (sweep_call (kit_engine d)) s calls) ≡ []) ↔ CleanKit d s.over
  -- finished, it stands at the last factor and its last significand
  pub stands : (state_after (sweep_call (kit_engine d)) s calls).finished ≡ true
      → let t = state_after (sweep_call (kit_engine d)) s calls in (place_in t.next ≡ length (in_kit s.over) - 1) × (significand_in t.next ≡ last_in d (in_kit s.over))

module _ {F U : Type 0} {suspect : U → ℕ → Bool} {d : Factors F U} {B : U → ℕ} {M : ℕ} (laws : FactorLaws suspect d B M) where
  -- The list begins with a new state, over a kit that is not refused.
  pub whole_kit : (k : Kit F) (s : State (Kit F)) → new_state (kit_engine d) k ≡ accepted s → (calls : List Call) → WholeKit suspect d M s calls
  whole_kit k s q calls =
      let good = only_accepted (kit_faults d.faulty d.alike k) (fresh (kit_engine d) k) s q in
      let whole = whole_sweep (kit_lawful laws) k (fresh (kit_engine d) k) (q ∙ ap accepted (sym good.1)) calls in
      let joins : (state_after (sweep_call (kit_engine d)) (fresh (kit_engine d) k) calls).finished ≡ true → words_in (sweeps (sweep_call (kit_engine d)) (fresh (kit_engine d) k) calls) ≡ lists_from d 0 (in_kit k) =
      λ h. finished_words whole h ∙ lists_joined laws k good.0 in
      let clean = nothing_clean laws k good.0 in
      rw (← good.1)
      (record {
        whole = whole;
        rows = rows_joined laws k good.0;
        joins = joins;
        clean = λ h. ((λ e. clean.0 (sym (joins h) ∙ e)), (λ c. joins h ∙ clean.1 c));
        stands = λ h.
            let next = finished_next (kit_lawful laws) k good.0 calls h in
            let through = kit_through laws k good.0 in
            let some = kit_some laws k good.0 in
            (ap place_in next ∙ last_place laws (in_kit k) through some, ap significand_in next ∙ last_significand laws (in_kit k) through some);
      })

  -- A separate sweep over all significands of a factor lists, from a new state to the finish, just the words that are joined in kit order.
  pub separate_lists : (f : F) (s : State U) → new_state d.engine (d.whole f) ≡ accepted s → (calls : List Call) → (state_after (sweep_call d.engine) s calls).finished ≡ true
      → words_in (sweeps (sweep_call d.engine) s calls) ≡ entries (d.engine.listing (d.whole f)) (list_of d f)
  separate_lists f s q calls h =
      let good = only_accepted (d.engine.new_faults (d.whole f)) (fresh d.engine (d.whole f)) s q in
      finished_words (whole_sweep laws.lawful (d.whole f) s q calls) h
      ∙ ap (λ (t : State U). entries (d.engine.listing t.over) (list_of_u t.over)) (sym good.1)
    where
      list_of_u : U → List ℕ
      list_of_u u = words_of (d.engine.mark u) (span (d.engine.first u) (suc (d.engine.last u)))
