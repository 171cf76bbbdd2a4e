-- Laws for the loop over the steps of a call in one factor, which writes the entries of its words, alone or behind a kit's place: what is done so far and what is left to do are the run. Assumes nothing.
use Rattle.std.specs.Prelude.{◌≡◌, Bool, true, false, ◌⊎◌, ℕ, suc, ◌+◌, ◌-◌, ◌*◌, ◌^◌, ◌≤◌, ◌<◌, drop, Option, Some, None}
use Rattle.std.proofs.Math.Path.{refl, sym, ap}
use Rattle.std.proofs.Common.{ap₂, ◌∙◌, subst, inl, inr, arith, mul-zero, le_trans, zero-add, add-one, length-append}
use Rattle.std.proofs.Math.Logic.{⊎_map}
use mathlib.Core.List.{List, [], ◌∷◌, append-nil}
use Rattle.std.proofs.Math.Nat.{mul-add, mul-one, mul-le-mul_left, sub-zero}
use Rattle.std.proofs.Math.ListN.{length}
use Rattle.std.proofs.Math.Seq.{sets, length-sets}
use Rattle.marks.specs.declared.Mark.{Mark}
use Rattle.marks.specs.declared.Mark.TheVariants.{Right, Open, Wrong}
use Rattle.marks.specs.Answers.{NoneHolds, accepted}
use Rattle.search.specs.declared.Found.{Found}
use Rattle.factor.specs.Precision.{most_precision}
use Rattle.suspects.specs.declared.Windows.{Windows}
use Rattle.calls.specs.State.{listed, Listing, entries, word_list, Call}
use Rattle.calls.specs.Engine.{once, stops_at, passed, handed}
use Rattle.calls.specs.Call.{Run, run, run_of, sweep_call}
use Rattle.calls.specs.Plain.{row, tries}
use Rattle.calls.specs.ByRow.{head_of}
use Rattle.calls.proofs.RowLaws.{row_ascends, ascends_few}
use Rattle.calls.proofs.SearchLaws.{once_few, passed_few}
use Rattle.calls.proofs.TrialLaws.{listed_few, tries_within}
use Rattle.calls.proofs.ListLaws.{entries_append, entries_are, room_is, sets_append}
use Rattle.calls.proofs.RefusalLaws.{ready}
use Rattle.calls.proofs.RunLaws.{run_is, rounds_few}
use Rattle.calls.proofs.LoopLaws.{run_halts, run_rounds, tried_after, run_tries, run_bounded, call_done}
use Rattle.sweep.specs.declared.SweepState.{SweepState}
use Rattle.sweep.specs.declared.Work.{Work}
use Rattle.sweep.specs.declared.Halt.{Halt}
use Rattle.sweep.specs.declared.Stepped.{Stepped}
use Rattle.sweep.specs.Engine.{suspect, windows_of, mark_of, engine}
use Rattle.sweep.proofs.EngineLaws.{lawful}
use Rattle.sweep.specs.Answers.{view_of, call_of, terms_by}
use Rattle.sweep.specs.Steps.{must_stop, begun_at, halted_at, passed_at, with_word, listed_at, tried_at, step_at, ahead_of, step_of, result_in, Stepping, Taken, part_list, part_run, part_written, Parted, Partible}
use Rattle.sweep.proofs.StepLaws.{must_stop_lem, may_go, last_short, found_inside}

-- Entries take as many places each.
pub entries_size : (lead : Option ℕ) (words : List ℕ) → length (entries (part_list lead) words) ≡ (part_list lead).places * length words
unfolding entries
entries_size lead [] = sym (mul-zero (part_list lead).places)
entries_size (Some place) (w ∷ words) = omega (arith, entries_size (Some place) words)
entries_size None (w ∷ words) = omega (arith, entries_size None words)

-- What is left of the range.
abbrev pub steps_left : SweepState → Work → ℕ
steps_left s w = suc s.last - w.at

module _ (s : SweepState) (cap room : ℕ) (lead : Option ℕ) (w₀ : Work) (tail₀ : List ℕ) where
  abbrev L : Listing
  L = part_list lead

  -- all that is done
  abbrev all : Run
  all = part_run s cap room w₀

  -- What is done so far and what is left to do are all.
  pub record Working (w : Work) (tail : List ℕ) : Type 0 where
    pub asked : Partible s cap room lead (length tail₀) w₀
    pub from : s.first ≤ w.at
    pub upto : w.at ≤ suc s.last
    pub capped : w.trials ≤ cap
    pub fits : w.place ≤ room
    pub tried : w₀.trials + all.trials ≡ w.trials + (part_run s cap room w).trials
    pub turned : w₀.rounds + all.rounds ≡ w.rounds + (part_run s cap room w).rounds
    pub placed : w₀.place + length all.words ≡ w.place + length (part_run s cap room w).words
    pub stops : all.left ≡ (part_run s cap room w).left
    pub writes : sets tail₀ (L.places * w₀.place) (entries L all.words) ≡ sets tail (L.places * w.place) (entries L (part_run s cap room w).words)
    pub long : length tail ≡ length tail₀

-- A part in one factor takes at most 64 rounds for each of its significands, and three more searches.
pub part_few : (s : SweepState) → NoneHolds (engine.new_faults (view_of s).over) → (cap room a : ℕ) → s.first ≤ a → a ≤ suc s.last → (run engine (view_of s).over cap room a).rounds ≤ 64 * (2 ^ most_precision + 3)
part_few s sound cap room a from upto =
    let laws = lawful.laws (view_of s).over sound in
    let r : List ℕ = row (suspect s.factor) a (suc s.last) in
    let k : ℕ = tries (mark_of s.factor) cap room r in
    let stop : Option ℕ = head_of (drop k r) in
    let sections = engine.sections (view_of s).over in
    let most : k + (once (stops_at stop) + passed sections a stop) ≤ 2 ^ most_precision + 3 =
    omega (
      arith,
      tries_within (mark_of s.factor) cap room r,
      ascends_few a (suc s.last) r (row_ascends (suspect s.factor) a (suc s.last)),
      last_short s.factor s.first s.last sound,
      once_few (stops_at stop),
      passed_few sections a stop,
    ) in
    rw (run_is laws cap room a from upto) (le_trans (rounds_few laws a k from upto (tries_within (mark_of s.factor) cap room r)) (mul-le-mul_left 64 most))

module _ {s : SweepState} {cap room : ℕ} {lead : Option ℕ} {w₀ : Work} {tail₀ : List ℕ} {w : Work} {tail : List ℕ} (k : Working s cap room lead w₀ tail₀ w tail) where
  abbrev ask : Partible s cap room lead (length tail₀) w₀
  ask = k.asked

  abbrev lists : Listing
  lists = part_list lead

  abbrev done : Run
  done = part_run s cap room w₀

  abbrev found : Found
  found = ahead_of s w.at

  abbrev rest : Run
  rest = part_run s cap room w

  abbrev mark : ℕ → Mark
  mark = mark_of s.factor

  short : s.last < 2 ^ most_precision
  short = last_short s.factor s.first s.last ask.sound

  -- A step may be made.
  pub part_steps : {h : Windows} → h ≡ windows_of s.factor → Stepping s h cap room w
  part_steps are =
      record {
        sound = ask.sound;
        are = are;
        from = k.from;
        upto = k.upto;
        turns =
            omega (
              arith,
              run_rounds engine (view_of s).over (cap - w.trials) (room - w.place) w.at,
              k.turned,
              part_few s ask.sound (cap - w₀.trials) (room - w₀.place) w₀.at ask.from ask.upto,
              ask.turns,
            );
        capped = k.capped;
        fits = k.fits;
      }

  -- The loop goes on, with less of the range left.
  pub record Onward (next : Work) (list : List ℕ) : Type 0 where
    pub goes : Working s cap room lead w₀ tail₀ next list
    pub less : steps_left s next < steps_left s w

  -- What a step leads to: the loop again, with the entry of a word that fits written or none; or all is done.
  abbrev pub LeadsTo : Stepped → Type 0
  LeadsTo (Stepped.Passed next) = Onward next tail
  LeadsTo (Stepped.Listed next v) = (lists.places * w.place + lists.places ≤ length tail) × (v < 2 ^ 32) × Onward next (sets tail (lists.places * w.place) (lists.entry v))
  LeadsTo (Stepped.Halted r) = Parted done w₀ r × (tail ≡ part_written lists w₀ done tail₀)

  -- all is done
  halts : (p : Option ℕ) → found.place ≡ p → (p ≡ None) ⊎ (w.trials ≡ cap) ⊎ (w.place ≡ room) → LeadsTo (halted_at w (w.rounds + found.rounds) p)
  unfolding entries
  halts p q h =
      let none : rest ≡ record { trials = 0; rounds = found.rounds + 0; words = []; left = found.place } =
      run_halts engine (view_of s).over (cap - w.trials) (room - w.place) w.at (⊎_map (λ z. q ∙ z) (⊎_map (λ z. omega arith) (λ z. omega arith)) h) in (
        record {
          trials = omega (arith, k.tried, ap (λ (r : Run). r.trials) none);
          rounds = omega (arith, k.turned, ap (λ (r : Run). r.rounds) none);
          place = omega (arith, k.placed, ap (λ (r : Run). length r.words) none);
          left = sym (k.stops ∙ ap (λ (r : Run). r.left) none ∙ q);
        },
        sym (k.writes ∙ ap (λ (r : Run). sets tail (lists.places * w.place) (entries lists r.words)) none),
      )

  -- ---- X is tried

  module _ {X : ℕ} (q : found.place ≡ Some X) (a : ¬ (w.trials ≡ cap)) (b : ¬ (w.place ≡ room)) where
    inside : (w.at ≤ X) × (X ≤ s.last)
    inside = found_inside s ask.sound w.at k.from k.upto q

    -- the loop goes on past it
    onward : (next : Work) (list : List ℕ) (m : Mark) → mark X ≡ m → next.at ≡ X + 1 → next.trials ≡ w.trials + 1 → next.rounds ≡ w.rounds + found.rounds
        → next.place ≡ w.place + length (listed m X) → list ≡ sets tail (lists.places * w.place) (entries lists (listed m X)) → length list ≡ length tail₀ → Onward next list
    onward next list m e at tried rounds place written long =
        let in_range_lem = inside in
        let few = listed_few m X in
        let c : cap - w.trials ≡ suc (cap - (w.trials + 1)) = omega (arith, k.capped, a) in
        let n : room - w.place ≡ suc (room - w.place - 1) = omega (arith, k.fits, b) in
        let less : suc (room - w.place - 1) - length (listed m X) ≡ room - next.place = omega (arith, k.fits, b) in
        let more : rest ≡ tried_after found.rounds m X (part_run s cap room next) =
        ap₂ (λ (c n : ℕ). run engine (view_of s).over c n w.at) c n
        ∙ run_tries engine (view_of s).over (cap - (w.trials + 1)) (room - w.place - 1) w.at X q
        ∙ ap (λ (m : Mark). tried_after found.rounds m X (run engine (view_of s).over (cap - (w.trials + 1)) (suc (room - w.place - 1) - length (listed m X)) (suc X))) e
        ∙ (λ j. tried_after found.rounds m X (run engine (view_of s).over (cap - sym tried j) (less j) ((sym (add-one X) ∙ sym at) j))) in
        let size : length (entries lists (listed m X)) ≡ lists.places * length (listed m X) = entries_size lead (listed m X) in
        let moved : lists.places * w.place + length (entries lists (listed m X)) ≡ lists.places * next.place =
        omega (arith, size, ap (λ (z : ℕ). lists.places * z) place, mul-add lists.places w.place (length (listed m X))) in
        record {
          goes =
              record {
                asked = ask;
                from = omega (arith, k.from);
                upto = omega arith;
                capped = omega (arith, k.capped, a);
                fits = omega (arith, k.fits, b);
                tried = omega (arith, k.tried, ap (λ (r : Run). r.trials) more);
                turned = omega (arith, k.turned, ap (λ (r : Run). r.rounds) more);
                placed = omega (arith, k.placed, ap (λ (r : Run). length r.words) more, length-append (listed m X) (part_run s cap room next).words);
                stops = k.stops ∙ ap (λ (r : Run). r.left) more;
                writes =
                    k.writes
                    ∙ ap (λ (r : Run). sets tail (lists.places * w.place) (entries lists r.words)) more
                    ∙ ap (sets tail (lists.places * w.place)) (entries_append lists (listed m X) (part_run s cap room next).words)
                    ∙ sets_append (entries lists (listed m X)) (entries lists (part_run s cap room next).words) tail (lists.places * w.place)
                    ∙ ap₂ (λ (l : List ℕ) (n : ℕ). sets l n (entries lists (part_run s cap room next).words)) (sym written) moved;
                long = long;
              };
          less = omega (arith, inside);
        }

    -- with an entry
    writes : (m : Mark) → mark X ≡ m → (v : ℕ) → listed m X ≡ v ∷ [] → v < 2 ^ 32 → LeadsTo (listed_at (passed_at w (w.rounds + found.rounds) X) v)
    unfolding entries
    writes m e v is small =
        let one : entries lists (listed m X) ≡ lists.entry v = ap (entries lists) is ∙ append-nil (lists.entry v) in
        let size : length (listed m X) ≡ 1 = ap length is in
        let room_for : w.place + 1 ≤ room = omega (arith, k.fits, b) in (
          omega (arith, k.long, ask.wide, mul-le-mul_left lists.places room_for, mul-add lists.places w.place 1, mul-one lists.places),
          small,
          onward (with_word (passed_at w (w.rounds + found.rounds) X)) (sets tail (lists.places * w.place) (lists.entry v)) m e refl refl refl (omega (arith, size)) (ap (sets tail (lists.places * w.place)) (sym one))
              (length-sets tail (lists.places * w.place) (lists.entry v) ∙ k.long),
        )

    goes_on : (m : Mark) → mark X ≡ m → LeadsTo (tried_at w (w.rounds + found.rounds) X m)
    unfolding entries
    goes_on Right e = onward (passed_at w (w.rounds + found.rounds) X) tail Right e refl refl refl (omega arith) refl k.long
    goes_on Open e = writes Open e (2 * X + 1) refl (omega (arith, inside, short))
    goes_on Wrong e = writes Wrong e (2 * X) refl (omega (arith, inside, short))

  -- The step that is made.
  leads : LeadsTo (step_of s cap room w)
  leads = go found.place refl (must_stop w.trials cap w.place room) refl
    where
      go : (p : Option ℕ) → found.place ≡ p → (t : Bool) → must_stop w.trials cap w.place room ≡ t → LeadsTo (step_at mark t w (w.rounds + found.rounds) p)
      go None q t e = halts None q (inl refl)
      go (Some X) q true e = halts (Some X) q (inr (must_stop_lem w.trials cap w.place room e))
      go (Some X) q false e = let z = may_go w.trials cap w.place room e in goes_on q z.0 z.1 (mark X) refl

  -- In each case of it.
  pub part_stepped : {made next : Stepped} → made ≡ step_of s cap room w → made ≡ next → LeadsTo next
  part_stepped is e = subst LeadsTo (sym is ∙ e) leads

-- ---- the steps of a sweep call

-- A word alone is the entry of a sweep call.
alone : (words : List ℕ) → entries (part_list None) words ≡ words
unfolding entries
alone [] = refl
alone (w ∷ words) = ap (λ (l : List ℕ). w ∷ l) (alone words)

module _ (s : SweepState) (cap : ℕ) (tail : List ℕ) (taken : Taken s cap (length tail)) where
  -- They may be made, from the next significand on.
  pub whole_asked : {w : Work} → w ≡ begun_at s.next → Partible s cap (length tail) None (length tail) w
  whole_asked e =
      let r = ready lawful (view_of s) (terms_by cap (length tail) 0) taken in
      rw e (
      record {
        sound = r.stands.sound;
        from = r.from;
        upto = omega (arith, r.upto);
        capped = omega arith;
        fits = omega arith;
        wide = omega arith;
        turns = omega arith;
      }
      )

  -- What they come to is what the call does.
  abbrev call : Call
  call = call_of cap tail 0

  same : part_run s cap (length tail) (begun_at s.next) ≡ run_of engine (view_of s) call
  same = ap₂ (λ (x y : ℕ). run engine (view_of s).over x y s.next) (sub-zero cap) (sym (room_is (length tail) 0))

  abbrev Done : Work → Halt → List ℕ → Type 0
  Done w r list =
      Parted (part_run s cap (length tail) w) w r → list ≡ part_written (part_list None) w (part_run s cap (length tail) w) tail
      → (record { answer = accepted (result_in r); state = handed engine (view_of s) r.left; list = list } ≡ sweep_call engine (view_of s) call) × (r.place ≤ length tail)

  pub whole_done : {w : Work} {r : Halt} {list : List ℕ} → w ≡ begun_at s.next → Done w r list
  whole_done {w} {r} {list} e = subst (λ (w : Work). Done w r list) (sym e) done
    where
      all : Run
      all = run_of engine (view_of s) call

      words : (part_run s cap (length tail) (begun_at s.next)).words ≡ entries word_list all.words
      words = ap (λ (r : Run). r.words) same ∙ sym (entries_are all.words)

      done : Done (begun_at s.next) r list
      done p written =
          let trials : r.trials ≡ all.trials = p.trials ∙ zero-add _ ∙ ap (λ (r : Run). r.trials) same in
          let rounds : r.rounds ≡ all.rounds = p.rounds ∙ zero-add _ ∙ ap (λ (r : Run). r.rounds) same in
          let place : r.place ≡ 0 + length (entries word_list all.words) = p.place ∙ ap (λ (l : List ℕ). 0 + length l) words in
          let left : r.left ≡ all.left = p.left ∙ ap (λ (r : Run). r.left) same in
          let lists : list ≡ sets tail 0 (entries word_list all.words) = written ∙ ap (sets tail 0) (alone _ ∙ words) in (
            (λ i. record { answer = accepted (record { trials = trials i; rounds = rounds i; place = place i }); state = handed engine (view_of s) (left i); list = lists i })
                ∙ sym (call_done engine (view_of s) call taken),
            omega (arith, p.place, (run_bounded engine (view_of s).over (cap - 0) (length tail - 0) s.next).1),
          )
