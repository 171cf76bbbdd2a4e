-- Laws of a step: the search ahead, what is found, and what is done at it. Assumes nothing.
use Rattle.std.specs.Prelude.{◌≡◌, refl, Bool, true, false, cond, ◌||◌, ◌⊎◌, ℕ, suc, ◌+◌, ◌^◌, ◌≤◌, ◌<◌, min, max, eqb, ltb, Option, Some, None}
use Rattle.std.proofs.Common.{sym, ap, ap₂, ◌∙◌, subst, inl, inr, arith, add-zero, pow_mono, eqb-true, le-ltb}
use Rattle.std.proofs.Math.Decide.{dec_le, dec_lt}
use Rattle.std.proofs.lemmas.Bool.{eqb-false}
use Rattle.wide.specs.Value.{word_bits}
use Rattle.marks.specs.declared.Mark.{Mark}
use Rattle.marks.specs.Answers.{NoneHolds}
use Rattle.marks.specs.AnswerLaws.{or_false}
use Rattle.search.specs.declared.Found.{Found}
use Rattle.rounding.specs.Round.{HasBits}
use Rattle.factor.specs.declared.Factor.{Factor}
use Rattle.factor.specs.SetUp.{Sound}
use Rattle.suspects.specs.declared.Window.{Window}
use Rattle.suspects.specs.declared.Windows.{Windows}
use Rattle.suspects.specs.Next.{next_in, Askable}
use Rattle.suspects.proofs.WindowLaws.{low_askable, high_askable}
use Rattle.factor.specs.Precision.{most_precision}
use Rattle.product.proofs.AnswerLaws.{in_range_lem}
use Rattle.calls.specs.Engine.{low, high, low_end}
use Rattle.calls.specs.Call.{none_after, sought, or_else, seek, ahead}
use Rattle.calls.proofs.RunLaws.{ahead_found}
use Rattle.sweep.specs.declared.SweepState.{SweepState}
use Rattle.sweep.specs.declared.Work.{Work}
use Rattle.sweep.specs.declared.Stepped.{Stepped}
use Rattle.sweep.specs.Engine.{range, windows_of, high_from, find_in, most_rounds, mark_of, engine}
use Rattle.sweep.proofs.EngineLaws.{sound_of, few, lawful}
use Rattle.sweep.specs.Answers.{view_of}
use Rattle.sweep.specs.Steps.{cut_at, sought_before, ahead_in, Searchable, must_stop, halted_at, tried_at, step_at, ahead_of, step_of, Room, Stepping}

-- ---- the search ahead

module _ {h : Windows} (k : Searchable h) where
  pub low_asks : Askable h.low
  low_asks = subst (λ (x : Windows). Askable x.low) (sym k.are) (low_askable k.of k.sound)

  pub high_asks : Askable h.high
  high_asks = subst (λ (x : Windows). Askable x.high) (sym k.are) (high_askable k.of k.sound)

  sought_few : (s : Window) (a end : ℕ) → (next_in s a).rounds ≤ most_rounds k.of → (sought_before s a end).rounds ≤ most_rounds k.of
  sought_few s a end h = go (ltb a end)
    where
      go : (b : Bool) → (cond b (cut_at end (next_in s a)) (none_after 0)).rounds ≤ most_rounds k.of
      go true = h
      go false = omega arith

  pub low_few : (a end : ℕ) → (sought_before h.low a end).rounds ≤ most_rounds k.of
  low_few a end = sought_few h.low a end (subst (λ (x : Windows). (next_in x.low a).rounds ≤ most_rounds k.of) (sym k.are) (few k.of k.sound low a))

  pub high_few : (a end : ℕ) → (sought_before h.high a end).rounds ≤ most_rounds k.of
  high_few a end = sought_few h.high a end (subst (λ (x : Windows). (next_in x.high a).rounds ≤ most_rounds k.of) (sym k.are) (few k.of k.sound high a))

-- ---- whether the call stops

-- Where it does, the cap is reached or no place is free; where it goes on, neither.
pub must_stop_lem : (t c p n : ℕ) → must_stop t c p n ≡ true → (t ≡ c) ⊎ (p ≡ n)
must_stop_lem t c p n = go (eqb t c) refl
  where
    go : (b : Bool) → eqb t c ≡ b → b || eqb p n ≡ true → (t ≡ c) ⊎ (p ≡ n)
    go true e q = inl (eqb-true t c e)
    go false e q = inr (eqb-true p n q)

pub may_go : (t c p n : ℕ) → must_stop t c p n ≡ false → ¬ (t ≡ c) × ¬ (p ≡ n)
may_go t c p n q = let o = or_false (eqb t c) (eqb p n) q in (eqb-false t c o.0, eqb-false p n o.1)

-- ---- the step

-- a range that 17 does not refuse ends at a significand of the largest precision at most
pub last_short : (f : Factor) (first last : ℕ) → NoneHolds (engine.new_faults (range f first last)) → last < 2 ^ most_precision
last_short f first last good =
    let n : ℕ = f.precision in
    omega (arith, (in_range_lem n first last good.1.0).last_bits.most, pow_mono {i = n} {j = most_precision} (sound_of f good.0).precision.most)

-- a suspect that the search ahead finds lies in the range
pub found_inside : (s : SweepState) → NoneHolds (engine.new_faults (view_of s).over) → (a : ℕ) → s.first ≤ a → a ≤ suc s.last → {X : ℕ} → (ahead_of s a).place ≡ Some X → (a ≤ X) × (X ≤ s.last)
found_inside s good a from upto {X} q = ahead_found (lawful.laws (view_of s).over good) a from upto X q

-- nothing follows the last section
none_follows : (w : Found) (p : Option ℕ) → w.place ≡ p → or_else p w (none_after 0) ≡ w
none_follows w (Some X) q = refl
none_follows w None q = λ i. record { place = sym q i; rounds = add-zero w.rounds i }

-- the windows are the factor's, so the search ahead from a significand of a range on is the engine's
pub ahead_in_lem : (f : Factor) (first last a : ℕ) → first ≤ a → ahead_in (windows_of f) last a ≡ ahead engine (range f first last) a
unfolding seek
ahead_in_lem f first last a from =
    let upper : Found = sought (record { from = low_end h first last; end = suc last; find = find_in f high }) a in
    sym (ap₂ (λ (v w : Found). or_else v.place v w) (from_low (dec_lt a (min h (suc last))) (omega arith)) (none_follows upper upper.place refl ∙ from_high (dec_le h last)))
  where
    h : ℕ
    h = high_from f

    from_low : Dec (a < min h (suc last)) → max a first ≡ a
        → sought (record { from = first; end = low_end h first last; find = find_in f low }) a ≡ sought_before (windows_of f).low a (min h (suc last))
    from_low (yes k) e =
        let g : low_end h first last ≡ min h (suc last) = omega arith in
        λ i. sought_before (windows_of f).low (e i) (g i)
    from_low (no k) e = rw (le-ltb (max a first) (low_end h first last) (omega arith), le-ltb a (min h (suc last)) (omega arith))

    from_high : Dec (h ≤ last) → sought (record { from = low_end h first last; end = suc last; find = find_in f high }) a ≡ sought_before (windows_of f).high (max a h) (suc last)
    from_high (yes k) = let e : max a (low_end h first last) ≡ max a h = omega arith in ap (λ (z : ℕ). sought_before (windows_of f).high z (suc last)) e
    from_high (no k) = rw (le-ltb (max a (low_end h first last)) (suc last) (omega arith), le-ltb (max a h) (suc last) (omega arith))

module _ {s : SweepState} {h : Windows} {cap size : ℕ} {w : Work} (k : Stepping s h cap size w) where
  abbrev n : ℕ
  n = s.factor.precision

  pub step_sound : Sound s.factor
  step_sound = sound_of s.factor k.sound.0

  pub step_last : s.last < 2 ^ most_precision
  step_last = last_short s.factor s.first s.last k.sound

  -- the step, from what the search ahead found
  module _ {found : Found} (is : found ≡ ahead_in h s.last w.at) where
    abbrev mark : ℕ → Mark
    mark = mark_of s.factor

    abbrev stop : Bool
    stop = must_stop w.trials cap w.place size

    step_ahead : found ≡ ahead_of s w.at
    step_ahead = is ∙ ap (λ (h : Windows). ahead_in h s.last w.at) k.are ∙ ahead_in_lem s.factor s.first s.last w.at k.from

    -- the rounds can be counted
    pub step_rounds : w.rounds + found.rounds < 2 ^ word_bits
    step_rounds = rw step_ahead k.turns

    step_found : {X : ℕ} → found.place ≡ Some X → (w.at ≤ X) × (X ≤ s.last)
    step_found q = found_inside s k.sound w.at k.from k.upto (ap (λ (w : Found). w.place) (sym step_ahead) ∙ q)

    pub found_bits : {X : ℕ} → found.place ≡ Some X → HasBits n X
    found_bits q =
        let z = step_found q in
        let r = in_range_lem n s.first s.last k.sound.1.0 in
        record { least = omega (arith, r.first_bits.least, k.from); most = omega (arith, r.last_bits.most) }

    -- where the call does not stop, one more can be counted
    pub step_room : {X b : _} → found.place ≡ Some X → b ≡ stop → b ≡ false → cap < 2 ^ word_bits → size < 2 ^ word_bits → Room w X
    step_room q told b c d =
        let g = may_go w.trials cap w.place size (sym told ∙ b) in
        record { tried = omega (arith, k.capped, g.0); placed = omega (arith, k.fits, g.1); found = omega (arith, step_found q, step_last) }

    step_by : (b : Bool) → stop ≡ b → (p : Option ℕ) → found.place ≡ p → step_at mark b w (w.rounds + found.rounds) p ≡ step_of s cap size w
    step_by b e p q =
        sym (λ i. step_at mark (e i) w (w.rounds + found.rounds) (q i)) ∙ ap (λ (f : Found). step_at mark stop w (w.rounds + f.rounds) f.place) step_ahead

    pub stop_step : {X : ℕ} {b : Bool} {r : Stepped} → found.place ≡ Some X → b ≡ stop → b ≡ true → r ≡ halted_at w (w.rounds + found.rounds) (Some X) → r ≡ step_of s cap size w
    stop_step {X} q told b e = e ∙ step_by true (sym told ∙ b) (Some X) q

    pub trial_step : {X : ℕ} {b : Bool} {m : Mark} {r : Stepped} → found.place ≡ Some X → b ≡ stop → b ≡ false → m ≡ mark X → r ≡ tried_at w (w.rounds + found.rounds) X m
        → r ≡ step_of s cap size w
    trial_step {X} q told b marked e = e ∙ ap (tried_at w (w.rounds + found.rounds) X) marked ∙ step_by false (sym told ∙ b) (Some X) q

    pub over_step : {r : Stepped} → found.place ≡ None → r ≡ halted_at w (w.rounds + found.rounds) None → r ≡ step_of s cap size w
    over_step q e = e ∙ step_by stop refl None q
