-- The high word counts multiples of m.
use Rattle.std.proofs.Common.{◌≡◌, ℕ, ◌+◌, ◌*◌, ◌/◌, ◌%◌, ◌^◌, sym, ap, ◌∙◌, div-add-mod', arith}
use Rattle.std.proofs.Math.Nat.{add-mul-mod_self_right}
use Rattle.suspects.proofs.remainder.Goals as goal

low_word : (hi lo z m : ℕ) → 2 ^ 64 % m ≡ 0 → hi * 2 ^ 64 + lo ≡ z → lo % m ≡ z % m
low_word hi lo z m whole e =
    let turns : 2 ^ 64 ≡ 2 ^ 64 / m * m = omega (arith, div-add-mod' (2 ^ 64) m) in
    sym (add-mul-mod_self_right lo (hi * (2 ^ 64 / m)) m) ∙ ap (λ (x : ℕ). x % m) (omega (arith, ap (λ (x : ℕ). hi * x) turns))

pub returns : goal.returns
returns c =
    let a = c.args in
    let p = c.product in
    low_word p.result.hi p.result.lo (a.x * a.y) a.m c.requires.1 p.ensures
