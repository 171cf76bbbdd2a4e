-- Laws of the nearest whole number, for every tie rule: what nearest means, and that it is monotone, exact where it can be, and not above q below the midpoint that follows it. Assumes nothing.
use Rattle.std.specs.Prelude.{◌≡◌, refl, Bool, true, false, cond, ℕ, suc, ◌+◌, ◌*◌, ◌/◌, ◌%◌, ◌≤◌, ◌<◌, eqb, ltb}
use Rattle.std.proofs.Common.{sym, ap, ap₂, ◌∙◌, subst, div-add-mod', mod-lt, mul_comm, mul-le-mul_right, le_antisymm, lt_of_mul-lt-mul_right, le_of_eq, mul-pos, lt_of_not-le, arith, eqb-true, ltb-true, ltb-false, eq-eqb, ne_eqb, lt-ltb, le-ltb}
use Rattle.std.proofs.Math.Decide.{dec_le}
use Rattle.std.proofs.Math.Nat.{eq_of_mul-eq-mul_right}
use Rattle.std.proofs.lemmas.Bool.{eqb-false}
use Rattle.rounding.specs.declared.Direction.TheVariants.{Below, Above}
use Rattle.rounding.specs.declared.Location.{Location}
use Rattle.rounding.specs.declared.Location.TheVariants.{Exact, BelowHalf, Half, AboveHalf}
use Rattle.rounding.proofs.ApartLaws.{ltb_scale, eqb_scale}
use Rattle.rounding.proofs.DirectionLaws.{side_below, side_equal, side_above, side_alike}
use Rattle.rounding.specs.Grid.{Rule, to_even, location, choose, towards, nearest, side_at}

-- ties to even add the last digit
pub even_up : (q : ℕ) → q + q % 2 ≡ cond (to_even q) (suc q) q
even_up q = go (to_even q) refl
  where
    go : (b : Bool) → to_even q ≡ b → q + q % 2 ≡ cond b (suc q) q
    go true e = omega (arith, eqb-true (q % 2) 1 e)
    go false e = omega (arith, eqb-false (q % 2) 1 e)

-- ---- what a location says of the remainder
abbrev pub Lies : Location → (r d : ℕ) → Type 0
Lies Exact r d = r ≡ 0
Lies BelowHalf r d = (0 < r) × (r * 2 < d)
Lies Half r d = r * 2 ≡ d
Lies AboveHalf r d = d < r * 2

pub location_lies : (r d : ℕ) → Lies (location r d) r d
location_lies r d = go (eqb r 0) (ltb (r * 2) d) (eqb (r * 2) d) refl refl refl
  where
    go : (x y z : Bool) → eqb r 0 ≡ x → ltb (r * 2) d ≡ y → eqb (r * 2) d ≡ z → Lies (cond x Exact (cond y BelowHalf (cond z Half AboveHalf))) r d
    go true y z p q s = eqb-true r 0 p
    go false true z p q s = (omega (arith, eqb-false r 0 p), ltb-true (r * 2) d q)
    go false false true p q s = eqb-true (r * 2) d s
    go false false false p q s = omega (arith, ltb-false (r * 2) d q, eqb-false (r * 2) d s)

-- the neighbour that is taken is the lower one or the next
pub choose_most : (rule : Rule) (q : ℕ) (l : Location) → choose rule q l ≤ suc q
choose_most rule q Exact = omega arith
choose_most rule q BelowHalf = omega arith
choose_most rule q Half = go (rule q)
  where
    go : (b : Bool) → cond b (suc q) q ≤ suc q
    go true = omega arith
    go false = omega arith
choose_most rule q AboveHalf = omega arith

-- ---- k is a whole number nearest to N / d, and where two are as near it is the rule's
pub record Nearest (rule : Rule) (N d k : ℕ) : Type 0 where
  pub low : 2 * (k * d) ≤ 2 * N + d
  pub high : 2 * N ≤ 2 * (k * d) + d
  pub tie : (q : ℕ) → 2 * N ≡ 2 * (q * d) + d → k ≡ cond (rule q) (suc q) q

-- a tie's lower neighbour is the whole part
tie_below : (N d q r p : ℕ) → q * d + r ≡ N → r < d → 2 * N ≡ 2 * (p * d) + d → q ≡ p
tie_below N d q r p e R t =
    le_antisymm (omega (arith, lt_of_mul-lt-mul_right d {m = q} {n = suc p} (omega arith))) (omega (arith, lt_of_mul-lt-mul_right d {m = p} {n = suc q} (omega arith)))

pub tie_remainder : (N d q r p : ℕ) → q * d + r ≡ N → r < d → 2 * N ≡ 2 * (p * d) + d → r * 2 ≡ d
tie_remainder N d q r p e R t = omega (arith, ap (λ (z : ℕ). z * d) (tie_below N d q r p e R t))

pub choose_nearest : (rule : Rule) (N d q r : ℕ) (l : Location) → q * d + r ≡ N → r < d → Lies l r d → Nearest rule N d (choose rule q l)
choose_nearest rule N d q r Exact e R a = record { low = omega arith; high = omega arith; tie = λ p t. absurd (omega (arith, tie_remainder N d q r p e R t)) }
choose_nearest rule N d q r BelowHalf e R a = record { low = omega arith; high = omega arith; tie = λ p t. absurd (omega (arith, tie_remainder N d q r p e R t)) }
choose_nearest rule N d q r Half e R a = go (rule q) (λ p t. ap (λ (z : ℕ). cond (rule z) (suc z) z) (tie_below N d q r p e R t))
  where
    go : (b : Bool) → ((p : ℕ) → 2 * N ≡ 2 * (p * d) + d → cond b (suc q) q ≡ cond (rule p) (suc p) p) → Nearest rule N d (cond b (suc q) q)
    go true t = record { low = omega arith; high = omega arith; tie = t }
    go false t = record { low = omega arith; high = omega arith; tie = t }
choose_nearest rule N d q r AboveHalf e R a = record { low = omega arith; high = omega arith; tie = λ p t. absurd (omega (arith, tie_remainder N d q r p e R t)) }

pub nearest_is : (rule : Rule) (N d : ℕ) → 0 < d → Nearest rule N d (nearest rule N d)
unfolding nearest
nearest_is rule N d D = choose_nearest rule N d (N / d) (N % d) (location (N % d) d) (div-add-mod' N d) (mod-lt N D) (location_lies (N % d) d)

-- ---- a larger fraction has a nearest that is no smaller; so there is one only
pub nearest_ordered : (rule : Rule) (N d k M e j : ℕ) → 0 < d → 0 < e → N * e ≤ M * d → Nearest rule N d k → Nearest rule M e j → k ≤ j
nearest_ordered rule N d k M e j D P h a b = go (dec_le k j)
  where
    go : Dec (k ≤ j) → k ≤ j
    go (yes y) = y
    go (no n) =
        let l : suc j ≤ k = lt_of_not-le n in
        let de : 0 < d * e = mul-pos D P in
        -- both are the tie above j
        let x : 2 * (k * d) * e ≤ (2 * N + d) * e = mul-le-mul_right e a.low in
        let y : 2 * M * d ≤ (2 * (j * e) + e) * d = mul-le-mul_right d b.high in
        let z : suc j * (d * e) ≤ k * (d * e) = mul-le-mul_right (d * e) l in
        let s : 2 * N ≡ 2 * (j * d) + d = eq_of_mul-eq-mul_right e P (2 * N) (2 * (j * d) + d) (omega arith) in
        let t : 2 * M ≡ 2 * (j * e) + e = eq_of_mul-eq-mul_right d D (2 * M) (2 * (j * e) + e) (omega arith) in
        le_of_eq (a.tie j s ∙ sym (b.tie j t))

pub nearest_mono : (rule : Rule) (N d M e : ℕ) → 0 < d → 0 < e → N * e ≤ M * d → nearest rule N d ≤ nearest rule M e
nearest_mono rule N d M e D P h = nearest_ordered rule N d (nearest rule N d) M e (nearest rule M e) D P h (nearest_is rule N d D) (nearest_is rule M e P)

-- whatever is nearest is `nearest`
pub nearest_only : (rule : Rule) (N d k : ℕ) → 0 < d → Nearest rule N d k → nearest rule N d ≡ k
nearest_only rule N d k D a =
    le_antisymm (nearest_ordered rule N d (nearest rule N d) N d k D D (le_of_eq refl) (nearest_is rule N d D) a) (nearest_ordered rule N d k N d (nearest rule N d) D D (le_of_eq refl) a (nearest_is rule N d D))

-- it depends on the fraction alone
pub nearest_same : (rule : Rule) (N d M e : ℕ) → 0 < d → 0 < e → N * e ≡ M * d → nearest rule N d ≡ nearest rule M e
nearest_same rule N d M e D P h = le_antisymm (nearest_mono rule N d M e D P (le_of_eq h)) (nearest_mono rule M e N d P D (le_of_eq (sym h)))

pub nearest_exact : (rule : Rule) (k d : ℕ) → 0 < d → nearest rule (k * d) d ≡ k
nearest_exact rule k d D =
    nearest_only rule (k * d) d k D (record { low = omega arith; high = omega arith; tie = λ p t. absurd (omega (arith, tie_remainder (k * d) d k 0 p (omega arith) D t)) })

-- ---- bounds that are whole numbers go through
pub nearest_le : (rule : Rule) (N d k : ℕ) → 0 < d → N ≤ k * d → nearest rule N d ≤ k
nearest_le rule N d k D h = subst (λ (z : ℕ). nearest rule N d ≤ z) (nearest_exact rule k d D) (nearest_mono rule N d (k * d) d D D (mul-le-mul_right d h))

pub nearest_ge : (rule : Rule) (N d k : ℕ) → 0 < d → k * d ≤ N → k ≤ nearest rule N d
nearest_ge rule N d k D h = subst (λ (z : ℕ). z ≤ nearest rule N d) (nearest_exact rule k d D) (nearest_mono rule (k * d) d N d D D (mul-le-mul_right d h))

-- ---- below the midpoint above q it is at most q
pub nearest_below : (rule : Rule) (N d q : ℕ) → 0 < d → 2 * N < 2 * (q * d) + d → nearest rule N d ≤ q
nearest_below rule N d q D h = omega (arith, lt_of_mul-lt-mul_right d {m = nearest rule N d} {n = suc q} (omega (arith, (nearest_is rule N d D).low)))

-- ---- on which side of the fraction it lies depends on the fraction alone
pub side_same : (N d M e k : ℕ) → 0 < d → 0 < e → N * e ≡ M * d → side_at N d k ≡ side_at M e k
side_same N d M e k D P h = side_alike N (k * d) e M (k * e) d P D h (omega arith)

-- and is read off the location
pub towards_side : (rule : Rule) (N d q r : ℕ) (l : Location) → q * d + r ≡ N → r < d → Lies l r d → side_at N d (choose rule q l) ≡ towards rule q l
towards_side rule N d q r Exact e R a = side_equal N (q * d) (omega arith)
towards_side rule N d q r BelowHalf e R a = side_below N (q * d) (omega arith)
towards_side rule N d q r Half e R a = go (rule q)
  where
    go : (b : Bool) → side_at N d (cond b (suc q) q) ≡ cond b Above Below
    go true = side_above N (suc q * d) (omega arith)
    go false = side_below N (q * d) (omega arith)
towards_side rule N d q r AboveHalf e R a = side_above N (suc q * d) (omega arith)

-- ---- the location, too, depends on the fraction alone
pub location_alike : (r d s e : ℕ) → 0 < d → 0 < e → r * e ≡ s * d → location r d ≡ location s e
location_alike r d s e D P c =
    let twice : r * 2 * e ≡ s * 2 * d = omega arith in
    let none : 0 * e ≡ 0 * d = omega arith in
    rw (
      sym (eqb_scale r 0 e P) ∙ ap₂ eqb c none ∙ eqb_scale s 0 d D,
      sym (ltb_scale (r * 2) d e P) ∙ ap₂ ltb twice (mul_comm d e) ∙ ltb_scale (s * 2) e d D,
      sym (eqb_scale (r * 2) d e P) ∙ ap₂ eqb twice (mul_comm d e) ∙ eqb_scale (s * 2) e d D,
    )

-- ---- a location by comparison with the half h of d
pub located_exact : (r d : ℕ) → r ≡ 0 → location r d ≡ Exact
located_exact r d z = rw (eq-eqb r 0 z)

module _ (r h d : ℕ) (e : h * 2 ≡ d) where
  pub located_below : ¬ (r ≡ 0) → r < h → location r d ≡ BelowHalf
  located_below z l = rw (ne_eqb r 0 z, lt-ltb (r * 2) d (omega arith))

  pub located_half : ¬ (r ≡ 0) → r ≡ h → location r d ≡ Half
  located_half z l = rw (ne_eqb r 0 z, le-ltb (r * 2) d (omega arith), eq-eqb (r * 2) d (omega arith))

  pub located_above : h < r → location r d ≡ AboveHalf
  located_above l = rw (ne_eqb r 0 (λ z. omega arith), le-ltb (r * 2) d (omega arith), ne_eqb (r * 2) d (λ z. omega arith))
