-- Laws: which floats are numbers, and which one is not; floats with the same bits are the same. Assumes nothing.
use Rattle.std.specs.Prelude.{◌≡◌, refl, Bool, true, false, not, ℕ, ◌*◌, ◌%◌, ◌≤◌, ◌<◌, T, Float}
use Rattle.std.proofs.Common.{sym, ap, ◌∙◌, subst, true≢false, lt-ltb, le-ltb}
use Rattle.std.specs.Float.{nan, inf, fin, Format}
use Rattle.std.specs.Float.Ieee.{fits, to_bits, of_bits, is_nan, nan_bits, ne, hid, ones, top}
use Rattle.std.specs.Float.Ieee.Compare.{differs_from_itself, nan_differs}
use Rattle.std.specs.Float.Ieee.Bits.{of_bits-to_bits, nan_bits_is, nan_bits_above}
use Rattle.std.specs.Float.Ieee.Exact.{HasValue}

-- a number is what is not different from itself
pub no_nan : (x : Float) → ne x x ≡ false → T (not (is_nan x))
unfolding is_nan
no_nan nan h = absurd (true≢false (sym nan_differs ∙ h))
no_nan (inf s) h = tt
no_nan (fin s m e) h = tt

pub is_nan_lem : (x : Float) → ne x x ≡ true → x ≡ nan
is_nan_lem x h = differs_from_itself x (rw h tt)

-- what has a value is a number
pub value_number : (x : Float) (s : Bool) (a c : ℕ) → HasValue x s a c → T (not (is_nan x))
unfolding is_nan
value_number nan s a c v = absurd v
value_number (inf t) s a c v = tt
value_number (fin t m e) s a c v = tt

-- no number has a NaN's pattern
pub same_number : (f : Format) (x y : Float) → T (fits f y) → to_bits f x ≡ to_bits f y → T (not (is_nan y)) → T (not (is_nan x))
unfolding is_nan fits
same_number f nan y h e n = subst (λ (z : Float). T (not (is_nan z))) (sym (of_bits-to_bits f y h) ∙ ap (of_bits f) (sym e) ∙ of_bits-to_bits f nan tt) n
same_number f (inf s) y h e n = tt
same_number f (fin s m g) y h e n = tt

-- two floats of a format with the same bits are the same
pub same_bits : (f : Format) (x y : Float) → T (fits f x) → T (fits f y) → to_bits f x ≡ to_bits f y → x ≡ y
same_bits f x y h k e = sym (of_bits-to_bits f x h) ∙ ap (of_bits f) e ∙ of_bits-to_bits f y k

-- there is one NaN
pub named_nan : (x : Float) → is_nan x ≡ true → x ≡ nan
unfolding is_nan
named_nan nan h = refl
named_nan (inf s) h = search
named_nan (fin s m e) h = search

-- ---- the patterns of a NaN: above the infinities', the sign left out
pub nan_pattern : (f : Format) (b : ℕ) → ones f * hid f < b % top f → of_bits f b ≡ nan
nan_pattern f b h = named_nan (of_bits f b) (sym (nan_bits_is f b) ∙ nan_bits_above f b ∙ lt-ltb (ones f * hid f) (b % top f) h)

pub number_pattern : (f : Format) (b : ℕ) → b % top f ≤ ones f * hid f → T (not (nan_bits f b))
number_pattern f b h = rw (nan_bits_above f b, le-ltb (ones f * hid f) (b % top f) h) tt
