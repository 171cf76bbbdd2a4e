-- Laws for the loop over the factors of a kit call, on a tail that is free from its first place on. Assumes nothing.
use Rattle.std.specs.Prelude.{◌≡◌, true, false, ℕ, suc, ◌+◌, ◌-◌, ◌*◌, ◌/◌, ◌%◌, ◌^◌, ◌≤◌, ◌<◌, max, eqb, ltb, get_or, drop, Option, Some, None}
use Rattle.std.proofs.Math.Path.{refl, sym, ap}
use Rattle.std.proofs.Common.{ap₂, ◌∙◌, subst, arith, zero-add, add-one, ltb-false, length-append, length-take, pow_mono}
use mathlib.Core.List.{List, [], ◌∷◌, ◌++◌, map}
use Rattle.std.proofs.lemmas.Bool.{eqb-false}
use Rattle.wide.specs.Value.{word_bits}
use Rattle.std.proofs.Math.Nat.{sub-zero, le-max_right, max-le, max-eq_left, max-eq_right}
use Rattle.std.proofs.Math.ListN.{length}
use Rattle.std.proofs.lemmas.List.{length-map}
use Rattle.std.proofs.Math.Seq.{sets, length-sets}
use Rattle.marks.specs.Answers.{accepted, NoneHolds}
use Rattle.marks.specs.AnswerLaws.{or_false}
use Rattle.factor.specs.declared.Factor.{Factor}
use Rattle.factor.specs.Precision.{most_precision, least_of, most_of}
use Rattle.factor.specs.SetUp.{Sound}
use Rattle.calls.specs.State.{Range, entries}
use Rattle.calls.specs.Engine.{AllOf, handed}
use Rattle.calls.specs.Call.{Reply, Run, over, run, run_of, sweep_call}
use Rattle.calls.proofs.RefusalLaws.{Ready, ready}
use Rattle.calls.proofs.ListLaws.{entries_append, entries_map, sets_append}
use Rattle.calls.proofs.LoopLaws.{run_bounded, words_within, call_done}
use Rattle.calls.specs.Kit as calls
use Rattle.calls.specs.Kit.{in_kit, place_size, position, has_in, entry_list}
use Rattle.calls.proofs.KitLaws.{place_of, significand_of_lem, all_at, only_last, drop_short, Passed, Placed, has_placed, laws_of, kit_through}
use Rattle.calls.proofs.KitLoop.{word_at, join_at, after_at, join_adds, run_at}
use Rattle.sweep.specs.declared.SweepState.{SweepState}
use Rattle.sweep.specs.declared.Work.{Work}
use Rattle.sweep.specs.declared.Halt.{Halt}
use Rattle.sweep.specs.Engine as sweep
use Rattle.sweep.specs.Answers as said
use Rattle.sweep.specs.Answers.{call_of, terms_by, whole_of}
use Rattle.sweep.specs.Steps.{part_list, part_run, part_written, Parted, Partible}
use Rattle.sweep.proofs.StepLaws.{last_short}
use Rattle.sweep.proofs.LoopLaws.{part_few}
use Rattle.kit.specs.declared.KitState.{KitState}
use Rattle.kit.specs.Engine.{whole, factors, kits}
use Rattle.kit.specs.EngineLaws.{passed_sound, whole_good, factor_laws, kits_lawful}
use Rattle.kit.specs.Answers.{kit_of, view_of, no_factor}
use Rattle.kit.specs.Steps.{resumed_at, counts_of, end_of, Taken}
use Rattle.kit.specs.LoopLaws.{first_at, first_past}

-- the call that the loop makes, and the factors that it goes through
abbrev pub call_in : KitState → (cap : ℕ) → (tail₀ : List ℕ) → Reply (calls.Kit Factor)
call_in s cap tail₀ = sweep_call kits (view_of s) (call_of cap tail₀ 0)

abbrev pub factors_in : KitState → List Factor
factors_in s = in_kit (kit_of s.kit)

-- the most rounds that a call takes in one factor
abbrev pub most_in : ℕ
most_in = 64 * (2 ^ most_precision + 3)

-- where a call goes on in a factor: where it is, or at the factor's first significand
abbrev pub start_in : Factor → Work → ℕ
start_in f w = max w.at (least_of f.precision)

-- that is at most one past the factor's last
abbrev Within : List Factor → Work → Type 0
Within [] w = Unit {0}
Within (f ∷ l) w = start_in f w ≤ suc (most_of f.precision)

-- what is done so far, gone on with there
abbrev pub begun_in : Factor → Work → Work
begun_in f w = record { at = start_in f w; trials = w.trials; rounds = w.rounds; place = w.place }

module _ (s : KitState) (cap : ℕ) (tail₀ : List ℕ) where
  -- all that the call does
  abbrev all : Run
  all = run_of kits (view_of s) (call_of cap tail₀ 0)

  -- what it does from a significand of the factor at a place on, with the cap and the room that remain
  abbrev rest_at : (i a : ℕ) → Work → Run
  rest_at i a w = run kits (kit_of s.kit) (cap - w.trials) (length tail₀ / 2 - w.place) (position i a)

  -- what is left to do from the first of some factors on: nothing where there is none
  abbrev rest_in : (i : ℕ) → List Factor → Work → Run
  rest_in i [] w = over
  rest_in i (f ∷ l) w = rest_at i (start_in f w) w

  -- What is done so far and what is left to do, `rest`, are all.
  pub record Going (w : Work) (tail : List ℕ) (rest : Run) : Type 0 where
    pub tried : all.trials ≡ w.trials + rest.trials
    pub turned : all.rounds ≡ w.rounds + rest.rounds
    pub placed : length all.words ≡ w.place + length rest.words
    pub stops : all.left ≡ rest.left
    pub writes : sets tail₀ 0 (entries entry_list all.words) ≡ sets tail (2 * w.place) (entries entry_list rest.words)
    pub capped : w.trials ≤ cap
    pub fits : w.place ≤ length tail₀ / 2
    pub long : length tail ≡ length tail₀

  -- The loop of a call on a tail, before its turn at place i: it goes on in the factor there, or, past the last, it is done.
  pub record Working (i : ℕ) (w : Work) (tail : List ℕ) : Type 0 where
    pub taken : Taken s cap (length tail₀)
    pub on : Going w tail (rest_in i (drop i (factors_in s)) w)
    pub upto : Within (drop i (factors_in s)) w
    pub turns : w.rounds ≤ i * most_in

-- ---- a call that is taken

module _ (s : KitState) (cap size : ℕ) (q : Taken s cap size) where
  pub taken_ready : Ready kits (view_of s) (terms_by cap size 0)
  taken_ready = ready kits_lawful (view_of s) (terms_by cap size 0) q

  pub taken_sound : NoneHolds (kits.new_faults (kit_of s.kit))
  taken_sound = taken_ready.stands.sound

  pub taken_through : AllOf (Passed factor_laws) (factors_in s)
  taken_through = kit_through factor_laws (kit_of s.kit) taken_sound

  -- a kit has at most 96 factors
  pub taken_few : s.kit.count ≤ 96
  taken_few = ltb-false 96 s.kit.count (or_false (eqb (length (factors_in s)) 0) (ltb 96 s.kit.count) taken_sound.0).1

  -- and at least one
  pub kit_number : 0 < s.kit.count
  kit_number = omega (arith, length-take s.kit.count s.kit.factors, eqb-false (length (factors_in s)) 0 (or_false (eqb (length (factors_in s)) 0) (ltb 96 s.kit.count) taken_sound.0).0)

  -- the factor at a place is sound
  pub factor_sound : (i : ℕ) (f : Factor) (r : List Factor) → drop i (factors_in s) ≡ f ∷ r → Sound f
  factor_sound i f r e = passed_sound f (all_at (Passed factor_laws) i (factors_in s) r f taken_through e)

  -- and the last one too
  pub last_sound : length s.kit.factors ≡ 96 → Sound (get_or s.kit.factors (s.kit.count - 1) no_factor)
  last_sound long =
      let n = s.kit.count in
      let full : n ≤ length s.kit.factors = omega (arith, long, taken_few) in
      factor_sound (n - 1) (get_or s.kit.factors (n - 1) no_factor) (drop (n - 1 + 1) (factors_in s)) (first_at s.kit.factors n (n - 1) no_factor full (omega (arith, kit_number)))

  -- the one that the state stands at
  pub taken_placed : Placed factor_laws (factors_in s) taken_through (position s.place s.next)
  unfolding has_in
  taken_placed = has_placed factor_laws (factors_in s) taken_through (position s.place s.next) taken_ready.stands.there

  -- It is a place of the kit, if significands are words.
  pub taken_inside : s.next < place_size → s.place < length (factors_in s)
  taken_inside h = drop_short s.place (factors_in s) taken_placed.rest taken_placed.factor (ap (λ (j : ℕ). drop j (factors_in s)) (sym (place_of s.place s.next h)) ∙ taken_placed.at)

  -- It begins at the next significand.
  pub work_start : {tail : List ℕ} → size ≡ length tail → s.next < place_size → length s.kit.factors ≡ 96
      → Working s cap tail s.place (record { at = s.next; trials = 0; rounds = 0; place = 0 }) tail
  work_start {tail} same_size short long =
      let full : s.kit.count ≤ length s.kit.factors = omega (arith, long, taken_few) in
      let f = get_or s.kit.factors s.place no_factor in
      let inside : s.place < s.kit.count = omega (arith, taken_inside short, length-take s.kit.count s.kit.factors) in
      let here = first_at s.kit.factors s.kit.count s.place no_factor full inside in
      let p = taken_placed in
      let place = place_of s.place s.next short in
      let X = significand_of_lem s.place s.next short in
      let same : f ∷ drop (s.place + 1) (factors_in s) ≡ p.factor ∷ p.rest = sym here ∙ ap (λ (j : ℕ). drop j (factors_in s)) (sym place) ∙ p.at in
      let eq : f ≡ p.factor = cc in
      let from : least_of f.precision ≤ s.next = subst (λ (g : Factor). least_of g.precision ≤ s.next) (sym eq) (subst (λ (z : ℕ). least_of p.factor.precision ≤ z) X p.from) in
      let upto : s.next ≤ most_of f.precision = subst (λ (g : Factor). s.next ≤ most_of g.precision) (sym eq) (subst (λ (z : ℕ). z ≤ most_of p.factor.precision) X p.upto) in
      let w : Work = record { at = s.next; trials = 0; rounds = 0; place = 0 } in
      let there : start_in f w ≡ s.next = max-eq_left from in
      let start : all s cap tail ≡ rest_in s cap tail s.place (drop s.place (factors_in s)) w =
      ap₂ (λ (c n : ℕ). run kits (kit_of s.kit) c (n / 2) (position s.place s.next)) (sym (sub-zero cap)) (sub-zero (length tail))
      ∙ ap₂ (λ (n a : ℕ). run kits (kit_of s.kit) (cap - 0) n (position s.place a)) (sym (sub-zero (length tail / 2))) (sym there)
      ∙ ap (λ (l : List Factor). rest_in s cap tail s.place l w) (sym here) in
      record {
        taken = subst (λ (n : ℕ). Taken s cap n) same_size q;
        on = record {
          tried = ap (λ (r : Run). r.trials) start ∙ sym (zero-add _);
          turned = ap (λ (r : Run). r.rounds) start ∙ sym (zero-add _);
          placed = ap (λ (r : Run). length r.words) start ∙ sym (zero-add _);
          stops = ap (λ (r : Run). r.left) start;
          writes = ap (λ (r : Run). sets tail 0 (entries entry_list r.words)) start;
          capped = omega arith;
          fits = omega arith;
          long = refl;
        };
        upto = subst (λ (l : List Factor). Within l w) (sym here) (subst (λ (a : ℕ). a ≤ suc (most_of f.precision)) (sym there) (omega arith));
        turns = omega arith;
      }

-- As code makes it, the work that begins in a factor.
pub begun_is : {f : Factor} {part : SweepState} (w : Work) {a : ℕ} → part ≡ whole_of f → a ≡ max w.at part.first
    → ◌≡◌ {A = Work} (record { at = a; trials = w.trials; rounds = w.rounds; place = w.place }) (begun_in f w)
begun_is w is e = ap (λ (z : ℕ). record { at = z; trials = w.trials; rounds = w.rounds; place = w.place }) (e ∙ ap (λ (p : SweepState). max w.at p.first) is)

-- ---- a call is done

module _ {s : KitState} {cap : ℕ} {tail₀ tail : List ℕ} {w : Work} (taken : Taken s cap (length tail₀)) where
  -- Where nothing is left to do, what is done is what the call does.
  pub ends : {z : Run} → Going s cap tail₀ w tail z → z.trials ≡ 0 → z.rounds ≡ 0 → z.words ≡ []
      → record { answer = accepted (record { trials = w.trials; rounds = w.rounds; place = 2 * w.place }); state = handed kits (view_of s) z.left; list = tail } ≡ call_in s cap tail₀
  unfolding entries
  ends {z} m trials rounds words =
      let a : Run = all s cap tail₀ in
      let t : w.trials ≡ a.trials = omega (arith, m.tried) in
      let n : w.rounds ≡ a.rounds = omega (arith, m.turned) in
      let c : 2 * w.place ≡ 0 + length (entries entry_list a.words) = omega (arith, m.placed, ap length words, pair_size a.words) in
      let v : z.left ≡ a.left = sym m.stops in
      let l : tail ≡ sets tail₀ 0 (entries entry_list a.words) = sym (m.writes ∙ ap (λ (l : List ℕ). sets tail (2 * w.place) (entries entry_list l)) words) in
      (λ j. record { answer = accepted (record { trials = t j; rounds = n j; place = c j }); state = handed kits (view_of s) (v j); list = l j }) ∙ sym (call_done kits (view_of s) (call_of cap tail₀ 0) taken)
    where
      pair_size : (l : List ℕ) → length (entries entry_list l) ≡ 2 * length l
      pair_size [] = refl
      pair_size (v ∷ l) = omega (arith, pair_size l)

-- ---- a turn

module _ {s : KitState} {cap : ℕ} {tail₀ : List ℕ} {i : ℕ} {w : Work} {tail : List ℕ} (k : Working s cap tail₀ i w tail) where
  -- No more is written than there is room for.
  pub work_fits : 2 * w.place ≤ length tail₀
  work_fits = omega (arith, k.on.fits)

  pub count_few : s.kit.count ≤ 96
  count_few = taken_few s cap (length tail₀) k.taken

  abbrev kit : calls.Kit Factor
  kit = kit_of s.kit

  sound : NoneHolds (kits.new_faults kit)
  sound = taken_sound s cap (length tail₀) k.taken

  through : AllOf (Passed factor_laws) (factors_in s)
  through = taken_through s cap (length tail₀) k.taken

  module _ (long : length s.kit.factors ≡ 96) (inside : i < s.kit.count) where
    full : s.kit.count ≤ length s.kit.factors
    full = omega (arith, long, count_few)

    abbrev f : Factor
    f = get_or s.kit.factors i no_factor

    abbrev others : List Factor
    others = drop (i + 1) (factors_in s)

    at : drop i (factors_in s) ≡ f ∷ others
    at = first_at s.kit.factors s.kit.count i no_factor full inside

    -- The factor at the place is sound.
    pub place_sound : Sound f
    place_sound = factor_sound s cap (length tail₀) k.taken i f others at

    passes : Passed factor_laws f
    passes = all_at (Passed factor_laws) i (factors_in s) others f through at

    module _ {part : SweepState} {v : Work} (is : part ≡ whole_of f) (begun : v ≡ begun_in f w) where
      -- what is swept of the factor is all of it
      over_whole : (said.view_of part).over ≡ whole f
      over_whole = ap (λ (p : SweepState). (said.view_of p).over) is

      part_good : NoneHolds ((sweep.engine).new_faults (said.view_of part).over)
      part_good = subst (λ (u : Range Factor). NoneHolds ((sweep.engine).new_faults u)) (sym over_whole) (whole_good f passes)

      from : least_of f.precision ≤ v.at
      from = subst (λ (x : Work). least_of f.precision ≤ x.at) (sym begun) (le-max_right w.at (least_of f.precision))

      upto : v.at ≤ suc (most_of f.precision)
      upto = subst (λ (x : Work). x.at ≤ suc (most_of f.precision)) (sym begun) (subst (λ (l : List Factor). Within l w) at k.upto)

      part_from : part.first ≤ v.at
      part_from = subst (λ (p : SweepState). p.first ≤ v.at) (sym is) from

      part_upto : v.at ≤ suc part.last
      part_upto = subst (λ (p : SweepState). v.at ≤ suc p.last) (sym is) upto

      short : most_of f.precision < 2 ^ most_precision
      short = last_short f (whole f).first (whole f).last (whole_good f passes)

      abbrev room : ℕ
      room = length tail₀ / 2

      -- The steps in the factor may be made: there is room for as many entries as half the places.
      pub work_steps : Partible part cap room (Some i) (length tail) v
      work_steps =
          record {
            sound = part_good;
            from = part_from;
            upto = part_upto;
            capped = subst (λ (x : Work). x.trials ≤ cap) (sym begun) k.on.capped;
            fits = subst (λ (x : Work). x.place ≤ room) (sym begun) k.on.fits;
            wide = omega (arith, k.on.long);
            turns = subst (λ (x : Work). x.rounds + 64 * (2 ^ most_precision + 3) < 2 ^ word_bits) (sym begun) (omega (arith, k.turns, inside, count_few));
          }

      -- what they come to
      abbrev done : Run
      done = part_run part cap room v

      own : done ≡ run sweep.engine (whole f) (cap - w.trials) (room - w.place) (start_in f w)
      own = ap₂ (λ (u : Range Factor) (x : Work). run sweep.engine u (cap - x.trials) (room - x.place) x.at) over_whole begun

      -- their entries are those of the kit's words
      pairs : entries entry_list (map (word_at i) done.words) ≡ entries (part_list (Some i)) done.words
      pairs = entries_map entry_list (part_list (Some i)) (word_at i) done.words (all_pairs done.words within)
        where
          within : AllOf (λ (x : ℕ). x ≤ 2 * most_of f.precision + 1) done.words
          within = subst (λ (r : Run). AllOf (λ (x : ℕ). x ≤ 2 * most_of f.precision + 1) r.words) (sym own)
              (words_within (laws_of factor_laws f passes) (cap - w.trials) (room - w.place) (start_in f w) (omega (arith, le-max_right w.at (least_of f.precision))) (subst (λ (l : List Factor). Within l w) at k.upto))

          pair : (x : ℕ) → x ≤ 2 * most_of f.precision + 1 → entry_list.entry (word_at i x) ≡ (part_list (Some i)).entry x
          pair x h =
              let a : word_at i x / (2 * place_size) ≡ i = omega (arith, short) in
              let b : word_at i x % (2 * place_size) ≡ x = omega (arith, short) in
              rw (a, b)

          all_pairs : (l : List ℕ) → AllOf (λ (x : ℕ). x ≤ 2 * most_of f.precision + 1) l → AllOf (λ (x : ℕ). entry_list.entry (word_at i x) ≡ (part_list (Some i)).entry x) l
          all_pairs [] a = tt
          all_pairs (x ∷ l) a = (pair x a.0, all_pairs l a.1)

      -- two places each
      size : (l : List ℕ) → length (entries (part_list (Some i)) l) ≡ 2 * length l
      unfolding entries
      size [] = refl
      size (x ∷ l) = omega (arith, size l)

      -- ---- the steps are made

      module _ {r : Halt} {list : List ℕ} (p : Parted done v r) (written : list ≡ part_written (part_list (Some i)) v done tail) where
        abbrev next : Work
        next = resumed_at r

        -- what is left to do past the factor, where no suspect is left in it
        abbrev past : Run
        past = rest_in s cap tail₀ (i + 1) others next

        abbrev after : Run
        after = after_at i done.left past

        trials : r.trials ≡ w.trials + done.trials
        trials = p.trials ∙ ap (λ (x : Work). x.trials + done.trials) begun

        rounds : r.rounds ≡ w.rounds + done.rounds
        rounds = p.rounds ∙ ap (λ (x : Work). x.rounds + done.rounds) begun

        place : r.place ≡ w.place + length done.words
        place = p.place ∙ ap (λ (x : Work). x.place + length done.words) begun

        joined : rest_in s cap tail₀ i (drop i (factors_in s)) w
            ≡ record {
              trials = done.trials + after.trials;
              rounds = done.rounds + after.rounds;
              words = map (word_at i) done.words ++ after.words;
              left = after.left;
            }
        joined =
            let c : cap - w.trials - done.trials ≡ cap - r.trials = omega (arith, trials) in
            let n : room - w.place - length done.words ≡ room - r.place = omega (arith, place) in
            ap (λ (l : List Factor). rest_in s cap tail₀ i l w) at
            ∙ run_at factor_laws kit sound i f others at (cap - w.trials) (room - w.place) (start_in f w) (omega (arith, le-max_right w.at (least_of f.precision))) (subst (λ (l : List Factor). Within l w) at k.upto)
            ∙ ap (λ (x : Run). join_at i x x.left (past_of others (cap - w.trials - x.trials) (room - w.place - length x.words))) (sym own)
            ∙ ap₂ (λ (c n : ℕ). join_at i done done.left (past_of others c n)) c n
            ∙ ap (join_at i done done.left) (same others)
            ∙ join_adds i done done.left past
          where
            past_of : List Factor → (c n : ℕ) → Run
            past_of [] c n = over
            past_of (h ∷ l) c n = run kits kit c n (position (suc i) (least_of h.precision))

            same : (l : List Factor) → past_of l (cap - r.trials) (room - r.place) ≡ rest_in s cap tail₀ (i + 1) l next
            same [] = refl
            same (h ∷ l) = ap₂ (λ (j a : ℕ). run kits kit (cap - r.trials) (room - r.place) (position j a)) (sym (add-one i)) (sym (max-eq_right (omega arith)))

        -- The factor is done with: what is left to do is past it.
        went : Going s cap tail₀ next list after
        went =
            let o = k.on in
            let words : List ℕ = map (word_at i) done.words in
            let bounded = run_bounded sweep.engine (said.view_of part).over (cap - v.trials) (room - v.place) v.at in
            let tried : v.trials ≡ w.trials = ap (λ (x : Work). x.trials) begun in
            let placed : v.place ≡ w.place = ap (λ (x : Work). x.place) begun in
            let moved : 2 * w.place + length (entries entry_list words) ≡ 2 * r.place = omega (arith, place, ap length pairs, size done.words) in
            let wrote : list ≡ sets tail (2 * w.place) (entries (part_list (Some i)) done.words) = written ∙ ap (λ (n : ℕ). sets tail (2 * n) (entries (part_list (Some i)) done.words)) placed in
            record {
              tried = omega (arith, o.tried, ap (λ (x : Run). x.trials) joined, trials);
              turned = omega (arith, o.turned, ap (λ (x : Run). x.rounds) joined, rounds);
              placed = omega (arith, o.placed, ap (λ (x : Run). length x.words) joined, length-append words after.words, length-map done.words (word_at i), place);
              stops = o.stops ∙ ap (λ (x : Run). x.left) joined;
              writes =
                  o.writes
                  ∙ ap (λ (x : Run). sets tail (2 * w.place) (entries entry_list x.words)) joined
                  ∙ ap (sets tail (2 * w.place)) (entries_append entry_list words after.words)
                  ∙ sets_append (entries entry_list words) (entries entry_list after.words) tail (2 * w.place)
                  ∙ ap₂ (λ (l : List ℕ) (n : ℕ). sets l n (entries entry_list after.words)) (ap (sets tail (2 * w.place)) pairs ∙ sym wrote) moved;
              capped = omega (arith, trials, tried, bounded.0, o.capped);
              fits = omega (arith, place, placed, bounded.1, o.fits);
              long = ap length wrote ∙ length-sets tail (2 * w.place) (entries (part_list (Some i)) done.words) ∙ o.long;
            }

        pub went_fits : 2 * next.place ≤ length tail₀
        went_fits = omega (arith, went.fits)

        -- Where a suspect is left, the call stops at it.
        pub work_stops : {X : ℕ} → r.left ≡ Some X
            → end_of (record { kit = s.kit; place = i; next = X; finished = false }, counts_of next) list ≡ call_in s cap tail₀
        work_stops {X} q =
            ends k.taken (subst (Going s cap tail₀ next list) (ap (λ (z : Option ℕ). after_at i z past) (sym p.left ∙ q)) went) refl refl refl

        -- Where none is left, it goes on at the next place.
        pub work_goes : r.left ≡ None → Working s cap tail₀ (i + 1) next list
        work_goes q =
            record {
              taken = k.taken;
              on = subst (Going s cap tail₀ next list) (ap (λ (z : Option ℕ). after_at i z past) (sym p.left ∙ q)) went;
              upto = start_within others;
              turns = omega (arith, rounds, k.turns, part_few part part_good (cap - v.trials) (room - v.place) v.at part_from part_upto);
            }
          where
            start_within : (l : List Factor) → Within l next
            start_within [] = tt
            start_within (h ∷ l) = max-le (omega arith) (omega (arith, pow_mono {i = h.precision - 1} {j = h.precision} (omega arith)))

-- Past the last factor the call is finished, at its last significand.
pub work_ends : {s : KitState} {cap : ℕ} {tail₀ : List ℕ} {i : ℕ} {w : Work} {tail : List ℕ} {last : ℕ} → Working s cap tail₀ i w tail
    → length s.kit.factors ≡ 96 → s.kit.count ≤ i → last ≡ most_of (get_or s.kit.factors (s.kit.count - 1) no_factor).precision
    → end_of (record { kit = s.kit; place = s.kit.count - 1; next = last; finished = true }, counts_of w) tail ≡ call_in s cap tail₀
work_ends {s} {cap} {tail₀} {i} {w} {tail} {last} k long past is =
    let n = s.kit.count in
    let full : n ≤ length s.kit.factors = omega (arith, long, count_few k) in
    let f = get_or s.kit.factors (n - 1) no_factor in
    let kit = kit_of s.kit in
    let some : 0 < n = kit_number s cap (length tail₀) k.taken in
    let at : drop (n - 1) (factors_in s) ≡ f ∷ [] =
    first_at s.kit.factors n (n - 1) no_factor full (omega (arith, some)) ∙ ap (λ (l : List Factor). f ∷ l) (first_past s.kit.factors n (n - 1 + 1) (omega arith)) in
    let count : length (factors_in s) ≡ n = omega (arith, length-take n s.kit.factors) in
    let last_is : position (n - 1) last ≡ kits.last kit = omega (arith, count, only_last factors (n - 1) (factors_in s) f at, is) in
    (λ j. record {
      answer = accepted (record { trials = w.trials; rounds = w.rounds; place = 2 * w.place });
      state = record { over = kit; next = last_is j; finished = true };
      list = tail;
    })
    ∙ ends k.taken (subst (Going s cap tail₀ w tail) (ap (λ (l : List Factor). rest_in s cap tail₀ i l w) (first_past s.kit.factors n i past)) k.on) refl refl refl

-- ---- as code asks it

-- The factor that a call begins in is sound.
pub start_sound : (s : KitState) (cap size : ℕ) → Taken s cap size → s.next < place_size → s.kit.count ≤ length s.kit.factors → Sound (get_or s.kit.factors s.place no_factor)
start_sound s cap size q short full =
    let inside : s.place < s.kit.count = omega (arith, taken_inside s cap size q short, length-take s.kit.count s.kit.factors) in
    factor_sound s cap size q s.place (get_or s.kit.factors s.place no_factor) (drop (s.place + 1) (factors_in s)) (first_at s.kit.factors s.kit.count s.place no_factor full inside)
