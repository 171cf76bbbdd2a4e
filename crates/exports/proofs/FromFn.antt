-- What `array::from_fn` makes of a function that keeps its state: the list of what it gives at each place. Assumes nothing.
use Rattle.std.specs.Prelude.{◌≡◌, List, ℕ, suc, zero, ◌+◌, ◌<◌, get_or, map}
use Rattle.std.proofs.Common.{◌∙◌, subst, arith}
use Rattle.std.specs.Fn.{Called}
use Rattle.std.specs.List.{range_with_len}
use Rattle.std.proofs.lemmas.List.FromFn.{fill_by_all}
use Rattle.std.specs.Array.{IsFromFnResult, IsFromFnResultFrom}
use denote.Param.Members.{Mut}

module _ {F B : Type 0} (g : Mut F (ℕ × Unit {0}) B) (f : F) (E : ℕ → B) (gives : (i : ℕ) (y : B) (q : F) → Called g f (i, tt) y q → (q ≡ f) × (y ≡ E i)) (d : B) where
  at_each : (ys : List B) (i n k : ℕ) → IsFromFnResultFrom g f ys i n → k < n → get_or ys (i + k) d ≡ E (i + k)
  at_each ys i zero k h l = absurd (omega arith)
  at_each ys i (suc n) zero h l = let e : i ≡ i + 0 = omega arith in subst (λ (j : ℕ). get_or ys j d ≡ E j) e (h.2.1 d ∙ (gives i h.1 h.0 h.3).1)
  at_each ys i (suc n) (suc k) h l =
      let e : i + 1 + k ≡ i + suc k = omega arith in
      let same = (gives i h.1 h.0 h.3).0 in
      subst (λ (j : ℕ). get_or ys j d ≡ E j) e (at_each ys (i + 1) n k (subst (λ (p : F). IsFromFnResultFrom g p ys (i + 1) n) same h.4) (omega arith))

  pub from_fn_is : (ys : List B) (n : ℕ) → IsFromFnResult g f ys n → ys ≡ map E (range_with_len 0 n)
  from_fn_is ys n r = fill_by_all E ys n d r.long (λ k h. let e : 0 + k ≡ k = omega arith in subst (λ (j : ℕ). get_or ys j d ≡ E j) e (at_each ys 0 n k r.each h))
