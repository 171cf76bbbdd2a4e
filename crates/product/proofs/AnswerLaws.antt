-- What 31 and 17 let through: a sound factor, and a significand of its bits. Assumes nothing.
use Rattle.std.specs.Prelude.{◌≡◌, false, ◌||◌, ℕ, ◌-◌, ◌^◌, ltb, leb}
use Rattle.std.proofs.Common.{sym, ap, ◌∙◌, ltb-false, leb-false, le-ltb}
use Rattle.std.proofs.lemmas.Bool.{not-false, lt-leb}
use Rattle.marks.specs.Answers.{Outcome, NoneHolds, answer, each}
use Rattle.marks.specs.AnswerLaws.{or_false, answer_each}
use Rattle.rounding.specs.Round.{HasBits}
use Rattle.factor.specs.declared.Factor.{Factor}
use Rattle.factor.specs.Precision.{significand_out, range_out}
use Rattle.factor.specs.SetUp.{Sound}
use Rattle.factor.proofs.SetUpLaws.{intact_sound}
use Rattle.product.specs.Answer.{conditions, InRange}

-- a significand that 17 does not refuse has n bits
pub significand_in : (n X : ℕ) → significand_out n X ≡ false → HasBits n X
significand_in n X e =
    let t = or_false (ltb X (2 ^ (n - 1))) (leb (2 ^ n) X) e in
    record { least = ltb-false X (2 ^ (n - 1)) t.0; most = leb-false (2 ^ n) X t.1 }

-- and 17 refuses none that has
pub bits_in : (n X : ℕ) → HasBits n X → significand_out n X ≡ false
bits_in n X x = rw (le-ltb X (2 ^ (n - 1)) x.least, lt-leb (2 ^ n) X x.most)

pub in_range_lem : (n first last : ℕ) → range_out n first last ≡ false → InRange n first last
in_range_lem n first last q =
    let outer = or_false (significand_out n first || significand_out n last) (ltb last first) q in
    let inner = or_false (significand_out n first) (significand_out n last) outer.0 in
    record {
      first_bits = significand_in n first inner.0;
      last_bits = significand_in n last inner.1;
      ordered = ltb-false last first outer.1;
    }

pub range_in : (n first last : ℕ) → InRange n first last → range_out n first last ≡ false
range_in n first last r = rw (bits_in n first r.first_bits, bits_in n last r.last_bits) (le-ltb last first r.ordered)

pub let_through : (f : Factor) (X : ℕ) → NoneHolds (conditions f X) → Sound f × HasBits f.precision X
let_through f X h = (intact_sound f (not-false _ h.0), significand_in f.precision X h.1.0)

-- what is made of a factor and a significand is answered as they are let through
pub of_operands : {B : Type 0} (g : Factor × ℕ → B) (f : Factor) (X : ℕ) {o : Outcome (Factor × ℕ)} → o ≡ answer (conditions f X) (f, X) → each g o ≡ answer (conditions f X) (g (f, X))
of_operands g f X e = ap (each g) e ∙ sym (answer_each g (conditions f X) (f, X))
