-- Moved up to the format's precision the significand has lost nothing.
use Rattle.std.proofs.Common.{◌≡◌, ℕ, ◌+◌, ◌-◌, ◌*◌, ◌%◌, ◌^◌, sym, ap, ◌∙◌, subst, mod-eq_of_lt, arith}
use Rattle.std.specs.Float.{binary32}
use Rattle.std.specs.Float.Ieee.{prec, emax}
use Rattle.wide.specs.Value.{word_bits}
use Rattle.floats.specs.Fields.{float_of, Normalized, Narrow}
use Rattle.floats.proofs.Narrow.{moved_normalized, narrow_is}
use Rattle.floats.proofs.narrow_float.Goals as goal

kept : (n m places : ℕ) → Narrow binary32 n m places → m * 2 ^ (prec binary32 - n) % 2 ^ word_bits ≡ m * 2 ^ (prec binary32 - n)
kept n m places h = let N = moved_normalized binary32 n m places h in mod-eq_of_lt (omega (arith, N.most))

pub overflow_cast-m : goal.overflow_cast-m
overflow_cast-m c =
    let a = c.args in
    let N = moved_normalized binary32 a.n a.m a.places c.requires in
    record { fits = omega (arith, kept a.n a.m a.places c.requires, N.most) }

pub float_of-requires : goal.float_of-requires
float_of-requires c =
    let a = c.args in
    subst (Normalized binary32 (emax binary32 + a.n - 2 - a.places)) (sym (kept a.n a.m a.places c.requires)) (moved_normalized binary32 a.n a.m a.places c.requires)

pub returns : goal.returns
returns c =
    let a = c.args in
    c.float_of.ensures ∙ ap (float_of binary32 a.minus (emax binary32 + a.n - 2 - a.places)) (kept a.n a.m a.places c.requires) ∙ narrow_is binary32 a.n a.m a.places c.requires a.minus
