-- A signed number that is small is kept as it is. Assumes nothing.
use Rattle.std.proofs.Common.{◌≡◌, sym, ◌∙◌, subst, ◌^◌, ◌<◌, ℤ, pos, negsuc, nat_abs, FitsSigned, w32, to_z, of_z, arith}
use Rattle.std.proofs.lemmas.Int.{to_z-of_z}

small_fits : (z : ℤ) → nat_abs z < 2 ^ 31 → FitsSigned w32 z
small_fits (pos n) h = record { sfits = h }
small_fits (negsuc n) h = record { sfits = omega arith }

-- m is what the machine works out of what it has read
pub kept : (m z : ℤ) → m ≡ z → nat_abs z < 2 ^ 31 → FitsSigned w32 m × (to_z w32 (of_z w32 m) ≡ z)
kept m z e h = let s : FitsSigned w32 m = subst (FitsSigned w32) (sym e) (small_fits z h) in (s, to_z-of_z w32 m s ∙ e)
