-- On which side of what was rounded the rounded number lies, by comparing the two numbers. Definitions only. Assumes nothing.
use Rattle.std.specs.Prelude.{◌≡◌, Bool, cond, ℤ, ◌<ℤ◌}
use Rattle.std.specs.Int.Signed.{lt_z}
use Rattle.rounding.specs.declared.Direction.{Direction}
use Rattle.rounding.specs.declared.Directed.{Directed}
use Rattle.rounding.specs.declared.Signed.{Signed}
use Rattle.rounding.specs.declared.Direction.TheVariants.{Below, Equal, Above}

-- on which side of a the number b lies
unfoldable pub side_of : (a b : ℤ) → Direction
side_of a b = cond (lt_z b a) Below (cond (lt_z a b) Above Equal)

-- what each of the three says
abbrev pub On : Direction → (a b : ℤ) → Type 0
On Below a b = b <ℤ a
On Equal a b = b ≡ a
On Above a b = a <ℤ b

-- the other way round
abbrev pub mirrored : Direction → Direction
mirrored Below = Above
mirrored Equal = Equal
mirrored Above = Below

-- of a number with a sign, by the direction of its size
abbrev pub signed_direction : Bool → Direction → Direction
signed_direction s d = cond s (mirrored d) d

-- a rounded size with a sign put on, by which a negative number's direction is mirrored
abbrev pub to_signed : {A : Type 0} → Bool → Directed A → Signed A
to_signed s v = record { minus = s; value = v.value; direction = signed_direction s v.direction }
