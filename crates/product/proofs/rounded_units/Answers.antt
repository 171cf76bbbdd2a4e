-- The exponent is a count of digits, and not below the scale.
use Rattle.std.specs.Prelude.{◌≡◌, ℕ, ◌-◌, ◌*◌, ◌^◌, ◌≤◌, ◌<◌, ℤ, pos, nat_abs, FitsSigned}
use Rattle.std.proofs.Common.{ap, ◌∙◌, arith, rules, w32, to_z, of_z}
use Rattle.rounding.specs.declared.Rounded.{Rounded}
use Rattle.rounding.specs.Round.{rounded}
use Rattle.rounding.proofs.DirectedLaws.{rounded_side}
use Rattle.wide.specs.Value.{value_of}
use Rattle.factor.specs.Context.{tie_rule, context_at}
use Rattle.factor.specs.Precision.{ValidPrecision, scale_of}
use Rattle.product.specs.Units.{rounded_units}
use Rattle.product.proofs.StepLaws.{Dropped, dropped}
use Rattle.product.proofs.rounded_units.Goals as goal

-- the exponent as it is read
record Exponent (E : ℕ) (z : ℤ) : Type 0 where
  count : ℕ
  is : z ≡ pos count
  least : E ≤ count
  small : count < 2 ^ 31

exponent : (n N : ℕ) (r : Rounded ℕ) → ValidPrecision n → 2 ^ (n - 1) * 2 ^ scale_of n ≤ N → r ≡ rounded tie_rule n N 1 → FitsSigned w32 r.exponent → Exponent (scale_of n) (to_z w32 (of_z w32 r.exponent))
exponent n N r P from told f =
    let K = context_at n in
    let some : 0 < n = omega (arith, P) in
    let d : Dropped K some N from = dropped K some N from in
    let e : r.exponent ≡ pos d.count = ap (λ (z : Rounded ℕ). z.exponent) told ∙ d.exponent in
    let g : FitsSigned w32 (pos d.count) = rw e at f in
    let same : to_z w32 (of_z w32 r.exponent) ≡ r.exponent = search rules in
    record { count = d.count; is = same ∙ e; least = d.least; small = g.sfits }

pub overflow_cast-value : goal.overflow_cast-value
unfolding tie_rule
overflow_cast-value c =
    let e = exponent c.args.p.bits (value_of c.args.y) c.round_wide-r.result c.args.p.valid c.requires c.round_wide-r.ensures (search rules) in
    rw e.is (tt, record { fits = omega (arith, e.small) })

pub overflow_sub-value : goal.overflow_sub-value
unfolding tie_rule
overflow_sub-value c =
    let e = exponent c.args.p.bits (value_of c.args.y) c.round_wide-r.result c.args.p.valid c.requires c.round_wide-r.ensures (search rules) in
    rw (e.is, c.low_dropped.ensures) e.least

pub returns : goal.returns
unfolding rounded_units tie_rule
returns c =
    let K = context_at c.args.p.bits in
    let y = value_of c.args.y in
    let told = c.round_wide-r in
    let same : to_z w32 (of_z w32 told.result.exponent) ≡ told.result.exponent = search rules in
    let product : record { significand = told.result.significand; binade = nat_abs (to_z w32 (of_z w32 told.result.exponent)) - c.low_dropped.result } ≡ rounded_units K y =
    (λ i. record { significand = told.result.significand; binade = nat_abs (same i) - c.low_dropped.ensures i })
    ∙ ap (λ (r : Rounded ℕ). record { significand = r.significand; binade = nat_abs r.exponent - scale_of c.args.p.bits }) told.ensures in
    let direction = ap (λ (r : Rounded ℕ). r.direction) told.ensures ∙ rounded_side K.rule K.n (omega (arith, c.args.p.valid)) y in
    λ i. record { value = product i; direction = direction i }
