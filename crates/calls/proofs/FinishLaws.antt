-- Laws: how many accepted calls the plain sweep takes to its finish, counted by the least number that each of them tries. Assumes nothing.
use Rattle.std.specs.Prelude.{◌≡◌, refl, true, false, ℕ, suc, ◌+◌, ◌-◌, ◌*◌, ◌≤◌, ◌<◌, min, length, drop}
use Rattle.std.proofs.Common.{ap, true≢false, arith, zero-add, add-mul, zero-mul, length-drop}
use Rattle.std.proofs.lemmas.Bool.{false≢true}
use Rattle.std.proofs.Math.Bool.{not-eq-not}
use mathlib.Core.List.{List, [], ◌∷◌}
use Rattle.std.proofs.Math.Nat.{add-zero, add_assoc}
use Rattle.calls.specs.State.{Call, terms_of, Listing, room_in}
use Rattle.calls.specs.Engine.{ListingLaws}
use Rattle.calls.specs.Plain.{Fed, Plain, begun, untried, moved, plain_next, plains, plain_after}
use Rattle.calls.specs.Whole.{accepted_told, accepted_in}
use Rattle.calls.proofs.RefusalLaws.{tried_by, plain_reply, taken}
use Rattle.calls.proofs.TrialLaws.{tries_within, tries_ample}

-- A call that may be accepted has a cap and room of at least m.
abbrev pub Roomy : Listing → ℕ → Call → Type 0
Roomy l m c = 0 < c.cap → 0 < room_in l (length c.list) c.free → (m ≤ c.cap) × (m ≤ room_in l (length c.list) c.free)

-- Each call of a list is such.
abbrev pub AllRoomy : Listing → ℕ → List Call → Type 0
AllRoomy l m [] = Unit {0}
AllRoomy l m (c ∷ cs) = Roomy l m c × AllRoomy l m cs

-- After n accepted calls: finished with all of the row tried, or going on, with at least m tried in each of them and some of the row left.
pub record Count (total m : ℕ) (p : Plain) (n : ℕ) : Type 0 where
  pub fits : p.tried ≤ total
  pub closed : p.finished ≡ true → (1 ≤ n) × (p.tried ≡ total)
  pub going : p.finished ≡ false → (n * m ≤ p.tried) × (0 < n → p.tried < total)

-- k more are tried of a row of which l was left, and r is left now
count_moved : (total m last n t k : ℕ) (l r : List ℕ) → n * m ≤ t → t ≤ total → length l ≡ total - t → k ≤ length l → (k < length l → m ≤ k) → drop k l ≡ r
    → Count total m (moved last (t + k) r) (n + 1)
count_moved total m last n t k l [] a b d g h e =
    let z = length-drop k l in
    let y : length (drop k l) ≡ 0 = ap length e in
    record { fits = omega arith; closed = λ q. omega arith; going = λ q. absurd (true≢false q) }
count_moved total m last n t k l (x ∷ r) a b d g h e =
    let z = length-drop k l in
    let y : length (drop k l) ≡ suc (length r) = ap length e in
    let i = h (omega arith) in
    record {
      fits = omega arith;
      closed = λ q. absurd (false≢true q);
      going = λ q. (omega (arith, add-mul n 1 m), λ i. omega arith);
    }

module _ {U S : Type 0} (view : Plain → S) (w : Fed U) (lists : ListingLaws w.listing) (m : ℕ) where
  count_next : (p : Plain) (n : ℕ) (c : Call) → Roomy w.listing m c → Count (length w.suspects) m p n
      → Count (length w.suspects) m (plain_next w p c).plain (n + accepted_told (plain_next w p c).told)
  count_next p n c big count =
      let l = untried w p in
      let room = room_in w.listing (length c.list) c.free in
      plain_reply w p c (λ r. Count (length w.suspects) m r.plain (n + accepted_told r.told)) (λ i. rw add-zero count)
      (λ q.
      let ok = taken lists p.finished (terms_of c) q in
      let enough = big ok.some ok.room in
      let most = tries_ample w.mark (min m (length l)) c.cap room l (omega arith) (omega arith) (omega arith) in
      count_moved (length w.suspects) m w.last n p.tried (tried_by w p c) l (drop (tried_by w p c) l) (count.going ok.going).0 count.fits
      (length-drop p.tried w.suspects) (tries_within w.mark c.cap room l) (λ s. omega arith) refl)

  counts : (calls : List Call) (p : Plain) (n : ℕ) → AllRoomy w.listing m calls → Count (length w.suspects) m p n
      → Count (length w.suspects) m (plain_after w p calls) (n + accepted_in (plains view w p calls))
  unfolding plains plain_after accepted_in
  counts [] p n big count = rw add-zero count
  counts (c ∷ cs) p n big count =
      rw (← add_assoc n) (counts cs (plain_next w p c).plain (n + accepted_told (plain_next w p c).told) big.1 (count_next p n c big.0 count))

  -- Calls from the start of a plain sweep, each with a cap and room of at least m.
  pub counted : (calls : List Call) → AllRoomy w.listing m calls → Count (length w.suspects) m (plain_after w (begun w) calls) (accepted_in (plains view w (begun w) calls))
  counted calls big =
      rw zero-add at
      (counts calls (begun w) 0 big
      (record { fits = omega arith; closed = λ z. absurd (false≢true z); going = λ z. (omega (arith, zero-mul m), λ i. absurd (omega arith)) }))

-- A sweep is finished where accepted calls leave nothing to go on with.
pub closes : {total m n : ℕ} {p : Plain} → Count total m p n → 1 ≤ n → (p.tried < total → n * m ≤ p.tried → ⊥) → p.finished ≡ true
closes count a h = (not-eq-not {b = true}).0 (λ q. let g = count.going q in h (g.1 a) g.0)
