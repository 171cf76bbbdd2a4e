-- No rest, or one that is rounded: the scale less its exponent, as it is worked out, is the number of places.
use Rattle.std.proofs.Common.{◌≡◌, ◌≢◌, ℕ, ◌-◌, ◌^◌, ◌≤◌, ℤ, pos, nat_abs, ◌-ℤ◌, sym, ap, ap₂, ◌∙◌, arith, rules, Fits, FitsSigned, w32, w64, to_z, of_z}
use Rattle.std.proofs.Math.Nat.{pos_of_ne-zero}
use Rattle.std.proofs.lemmas.Int.{to_z-of_z, ints}
use Rattle.rounding.specs.declared.Rounded.{Rounded}
use Rattle.rounding.specs.Grid.{to_even}
use Rattle.rounding.specs.Signed.{rounded_signed}
use Rattle.factor.specs.declared.Parts.{Parts}
use Rattle.factor.specs.Precision.{ValidPrecision, scale_of}
use Rattle.factor.specs.Context.{tie_rule, context_at}
use Rattle.factor.specs.UnitParts.{parts_from}
use Rattle.factor.proofs.ContextLaws.{fine_at}
use Rattle.factor.proofs.Laws.{parts_none, parts_some}
use Rattle.factor.proofs.Precision.parts_from.Goals as goal
use Rattle.factor.proofs.Precision.parts_from.Goals.{then-rest-eq0, else-rest-eq0}

no_size : (z : ℤ) → nat_abs z ≡ 0 → z ≡ pos 0
no_size z e = grind (arith, ints)

-- the parts p from a rest that is not zero, rounded to r, at the scale s
record Made (s : ℕ) (r : Rounded ℤ) (p : Parts) : Type 0 where
  low : r.significand ≡ p.low
  moved : to_z w32 s -ℤ to_z w32 (of_z w32 r.exponent) ≡ pos p.places
  few : FitsSigned w32 (pos p.places)

made : {n s : ℕ} {z : ℤ} {r : Rounded ℤ} (h : ℕ) → ValidPrecision n → nat_abs z ≤ 2 ^ (scale_of n - n) → FitsSigned w64 z → FitsSigned w32 r.exponent
    → r ≡ rounded_signed to_even n (to_z w64 (of_z w64 z)) → of_z w64 z ≢ 0 → s ≡ scale_of n
    → Made s r (parts_from (context_at n) h z)
unfolding tie_rule
made {n} {s} {z} {r} h N few z_fits r_fits r_is some s_is =
    let t = parts_some (context_at n) (fine_at N) h z r (rw (to_z-of_z w64 z z_fits) at r_is) (pos_of_ne-zero (λ (e : nat_abs z ≡ 0). some (ap (of_z w64) (no_size z e)))) few in
    record {
      low = t.significand;
      moved = ap₂ ◌-ℤ◌ (ap (to_z w32) (s_is ∙ N.scale) ∙ ap pos (sym N.scale)) (to_z-of_z w32 r.exponent r_fits) ∙ t.exponent;
      few = record { sfits = omega (arith, t.few) };
    }

pub overflow_sub-places : goal.overflow_sub-places
overflow_sub-places c =
    let m = made c.args.high c.args.self.valid c.requires c.ranges.rest (search rules) c.round_signed-r.ensures c.if-rest-eq0.false c.scale.ensures in
    rw m.moved m.few

pub overflow_cast-places-else-rest-eq0 : goal.overflow_cast-places-else-rest-eq0
overflow_cast-places-else-rest-eq0 c =
    let m = made c.args.high c.args.self.valid c.requires c.ranges.rest (search rules) c.round_signed-r.ensures c.if-rest-eq0.false c.scale.ensures in
    let few : Fits w32 (parts_from (context_at c.args.self.bits) c.args.high c.args.rest).places = record { fits = omega (arith, m.few.sfits) } in
    rw (m.moved, to_z-of_z w32 _ m.few) (tt, few)

pub returns : goal.returns
unfolding parts_from tie_rule
returns c =
    let r = c.round_signed-r.result in
    let low : to_z w64 (of_z w64 r.significand) ≡ r.significand = search rules in
    elim c.if-rest-eq0.branch [
      | then-rest-eq0 w ↦
          let z = to_z-of_z w64 c.args.rest c.ranges.rest in
          let t = parts_none (context_at c.args.self.bits) (fine_at c.args.self.valid) c.args.high c.args.rest r (rw z at c.round_signed-r.ensures) (ap nat_abs (sym z ∙ ap (to_z w64) w.if-rest-eq0.true)) in
          λ i. record { high = c.args.high; low = (low ∙ t.0) i; places = (w.places-is ∙ t.1) i }
      | else-rest-eq0 w ↦
          let m = made c.args.high c.args.self.valid c.requires c.ranges.rest (search rules) c.round_signed-r.ensures w.if-rest-eq0.false w.scale.ensures in
          let places = w.places-is ∙ ap nat_abs (ap (λ (z : ℤ). to_z w32 (of_z w32 z)) m.moved ∙ to_z-of_z w32 _ m.few) in
          λ i. record { high = c.args.high; low = (low ∙ m.low) i; places = places i }
    ]
