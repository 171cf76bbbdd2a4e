-- What kits ask of factors is so: so the engine of kits is lawful. Assumes nothing.
use Rattle.std.specs.Prelude.{◌≡◌, false, ℕ, ◌-◌}
use Rattle.std.proofs.Common.{arith, pow_pos}
use Rattle.marks.specs.Answers.{NoneHolds}
use Rattle.rounding.proofs.Digits.{pow_half}
use Rattle.factor.specs.declared.Factor.{Factor}
use Rattle.factor.specs.Precision.{ValidPrecision, least_of, most_of, range_out}
use Rattle.factor.specs.SetUp.{Sound}
use Rattle.product.proofs.AnswerLaws.{range_in}
use Rattle.calls.specs.Engine.{Lawful}
use Rattle.calls.specs.Kit.{suspect_in}
use Rattle.calls.proofs.KitLaws.{FactorLaws, kit_lawful}
use Rattle.sweep.specs.Engine as sweep
use Rattle.sweep.proofs.EngineLaws.{sound_of, lawful}
use Rattle.sweep.proofs.StepLaws.{last_short}
use Rattle.kit.specs.Engine.{faulty, whole, factors, kits}

-- A factor that 31 lets through is sound.
pub passed_sound : (f : Factor) → faulty f ≡ false → Sound f
passed_sound = sound_of

-- All its significands are a range that 17 lets through.
pub whole_in : (n : ℕ) → ValidPrecision n → range_out n (least_of n) (most_of n) ≡ false
whole_in n N =
    let half = pow_half n (omega (arith, N)) in
    let some = pow_pos (n - 1) in
    range_in n (least_of n) (most_of n)
    (record { first_bits = record { least = omega arith; most = omega arith }; last_bits = record { least = omega arith; most = omega arith }; ordered = omega arith })

pub whole_good : (f : Factor) → faulty f ≡ false → NoneHolds ((sweep.engine).new_faults (whole f))
whole_good f q = (q, (whole_in f.precision (passed_sound f q).precision, tt))

-- What kits ask of factors is so, with at most 64 rounds a search.
pub factor_laws : FactorLaws sweep.suspect_in factors sweep.most_in 64
factor_laws =
    record {
      lawful = lawful;
      good = whole_good;
      short = λ f q. omega (arith, last_short f (whole f).first (whole f).last (whole_good f q));
      halved = λ f. omega arith;
      few = λ f q. omega arith;
    }

-- The engine of kits is lawful.
pub kits_lawful : Lawful (suspect_in sweep.suspect_in factors) kits (λ k. 64)
kits_lawful = kit_lawful factor_laws
