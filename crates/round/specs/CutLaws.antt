-- Laws of cuts, for every place k: there is one only, and what a number rounds to is read off it where n digits are kept, or one more. Assumes nothing.
use Rattle.std.specs.Prelude.{◌≡◌, ℕ, suc, ◌+◌, ◌-◌, ◌*◌, ◌/◌, ◌%◌, ◌^◌, ◌≤◌, ◌<◌, pos}
use Rattle.std.proofs.Common.{sym, ap, ◌∙◌, subst, div-add-mod', mod-lt, mod-eq_of_lt, div-lt_iff_lt-mul, add-zero, mul-le-mul_right, one-mul, le_of_suc-le-suc, arith, pow-add, pow_pos}
use Rattle.std.proofs.Math.Nat.{mul-add-div_right, mul-add-mod_self_right, div-eq_of_lt, pow-succ'}
use Rattle.std.specs.Float.Ieee.Order.{drop}
use Rattle.rounding.specs.Direction.{side_of}
use Rattle.rounding.specs.Grid.{Rule, location, choose, nearest}
use Rattle.rounding.proofs.Digits.{pow_half, drop_at}
use Rattle.rounding.specs.Unit.{rn}
use Rattle.rounding.proofs.UnitLaws.{rn_in_binade}
use Rattle.round.specs.declared.Cut.{Cut}
use Rattle.rounding.specs.declared.Directed.{Directed}
use Rattle.round.specs.Neighbour.{neighbour_at}
use Rattle.round.specs.NeighbourLaws.{neighbour_by}
use Rattle.round.specs.Cuts.{cut_at, uncut, RoundedCut}

pub cut_whole : (k N : ℕ) → uncut k (cut_at k N) ≡ N
cut_whole k N = div-add-mod' N (2 ^ k)

pub cut_short : (k N : ℕ) → (cut_at k N).rest < 2 ^ k
cut_short k N = mod-lt N (pow_pos k)

-- whatever is N, with a rest of k digits, is its cut
cut_only : (k N : ℕ) (c : Cut) → c.rest < 2 ^ k → uncut k c ≡ N → c ≡ cut_at k N
cut_only k N c short e =
    let kept : c.kept ≡ N / 2 ^ k = sym (ap (λ (z : ℕ). z / 2 ^ k) (sym e) ∙ mul-add-div_right (pow_pos k) c.kept c.rest ∙ ap (λ (z : ℕ). c.kept + z) (div-eq_of_lt short) ∙ add-zero c.kept) in
    let rest : c.rest ≡ N % 2 ^ k = sym (ap (λ (z : ℕ). z % 2 ^ k) (sym e) ∙ mul-add-mod_self_right c.kept (2 ^ k) c.rest ∙ mod-eq_of_lt short) in
    λ i. record { kept = kept i; rest = rest i }

-- of a sum: the carry of the rests is kept
pub cut_sum : (k : ℕ) (a b : Cut) → record { kept = a.kept + b.kept + (a.rest + b.rest) / 2 ^ k; rest = (a.rest + b.rest) % 2 ^ k } ≡ cut_at k (uncut k a + uncut k b)
cut_sum k a b =
    let sum = a.rest + b.rest in
    cut_only k (uncut k a + uncut k b) (record { kept = a.kept + b.kept + sum / 2 ^ k; rest = sum % 2 ^ k }) (mod-lt sum (pow_pos k)) (omega (arith, div-add-mod' sum (2 ^ k)))

pub carry_most : (k x y : ℕ) → x < 2 ^ k → y < 2 ^ k → (x + y) / 2 ^ k < 2
carry_most k x y p q = (div-lt_iff_lt-mul (pow_pos k)).1 (omega (arith, p, q))

-- ---- to n bits
-- a neighbour in steps half as wide
abbrev pub doubled : Directed ℕ → Directed ℕ
doubled m = record { value = 2 * m.value; direction = m.direction }

module _ (rule : Rule) (n : ℕ) (P : 0 < n) (k : ℕ) (c : Cut) (short : c.rest < 2 ^ k) where
  abbrev N : ℕ
  N = uncut k c

  -- j digits are dropped, and n are kept
  kept_n : (j q r : ℕ) → q * 2 ^ j + r ≡ N → r < 2 ^ j → 2 ^ (n - 1) ≤ q → q < 2 ^ n → RoundedCut rule n j N (neighbour_at rule q r (2 ^ j))
  kept_n j q r e h l m =
      let w = pow-add 2 n j in
      let d : drop n N 1 ≡ j =
      drop_at n N 1 (omega arith) j P (omega (arith, w, e, mul-le-mul_right (2 ^ j) l, ap (λ (z : ℕ). z * 2 ^ j) (pow_half n P))) (omega (arith, w, e, h, mul-le-mul_right (2 ^ j) m)) in
      let v : nearest rule N (2 ^ j) * 2 ^ j ≡ rn rule n N 1 = ap (λ (z : ℕ). nearest rule N z * 2 ^ j) (sym (one-mul (2 ^ j))) ∙ sym (rn_in_binade rule n P N 1 j d) in
      subst (RoundedCut rule n j N) (sym (neighbour_by rule N (2 ^ j) q r e h)) (record { value = v; direction = ap (λ (z : ℕ). side_of (pos N) (pos z)) v })

  -- where n digits are kept, the rest is dropped
  pub round_short : 2 ^ (n - 1) ≤ c.kept → c.kept < 2 ^ n → RoundedCut rule n k N (neighbour_at rule c.kept c.rest (2 ^ k))
  round_short l m = kept_n k c.kept c.rest (omega arith) short l m

  -- where one more is kept, it is dropped too
  pub round_long : 2 ^ n ≤ c.kept → c.kept < 2 ^ suc n → RoundedCut rule n k N (doubled (neighbour_at rule (c.kept / 2) (c.kept % 2 * 2 ^ k + c.rest) (2 ^ suc k)))
  round_long l m =
      let q = c.kept / 2 in
      let b = c.kept % 2 in
      let split : q * 2 + b ≡ c.kept = div-add-mod' c.kept 2 in
      let bit : b < 2 = mod-lt c.kept (omega arith) in
      let w = pow-succ' 2 k in
      let v : q * 2 ^ suc k + (b * 2 ^ k + c.rest) ≡ N = omega (arith, ap (λ (z : ℕ). z * 2 ^ k) split, ap (λ (z : ℕ). q * z) w) in
      let few : b * 2 ^ k ≤ 2 ^ k = omega (arith, mul-le-mul_right (2 ^ k) (le_of_suc-le-suc bit)) in
      let is = kept_n (suc k) q (b * 2 ^ k + c.rest) v (omega (arith, few, short, w)) (omega (arith, split, bit, pow_half n P)) (omega (arith, split, m, pow-succ' 2 n)) in
      record { value = omega (arith, is.value, ap (λ (z : ℕ). choose rule q (location (b * 2 ^ k + c.rest) (2 ^ suc k)) * z) w); direction = is.direction }
