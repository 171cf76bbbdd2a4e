-- What is written as words is read back: factors that were accepted, and states over them. Assumes nothing.
use Rattle.std.specs.Prelude.{◌≡◌, refl, Bool, true, false, List, ◌∷◌, ◌++◌, ℕ, ◌^◌, ◌≤◌, ◌<◌, T, ltb, ℤ, pos, negsuc, nat_abs, Float}
use Rattle.std.proofs.Common.{sym, ◌∙◌, subst, arith, lt_of_not-le, pow_mono, ltb-false}
use Rattle.std.proofs.Math.Path.{ap}
use Rattle.std.proofs.Math.Decide.{dec_le}
use Rattle.std.specs.Int.Signed.{mag}
use Rattle.std.specs.Float.Ieee.{binary32, to_bits, of_bits, fits}
use Rattle.std.specs.Float.Ieee.Bits.{of_bits-to_bits, to_bits-lt, of_bits-fits}
use Rattle.std.specs.Float.Ieee.Fits.{round-fits}
use Rattle.marks.specs.Answers.{accepted}
use Rattle.marks.specs.AnswerLaws.{or_false}
use Rattle.words.specs.Words.{unsigned, signed, low32}
use Rattle.words.specs.WordLaws.{unsigned_below, signed_unsigned, low_all, not_past}
use Rattle.factor.specs.declared.Description.{Description}
use Rattle.factor.specs.declared.Factor.{Factor}
use Rattle.factor.specs.Context.{context_for, context_of, lower_of}
use Rattle.factor.proofs.ContextLaws.{fine_at}
use Rattle.factor.specs.Parts.{high_part, low_part}
use Rattle.factor.specs.SetUp.{scale_out, applied_of, set_up, intact, Sound}
use Rattle.factor.proofs.SetUpLaws.{set_up_sound, intact_sound}
use Rattle.factor.specs.Stored.{Storable}
use Rattle.factor.proofs.StoredLaws.{storable}
use Rattle.calls.specs.State.{Range, State}
use Rattle.sweep.specs.Engine.{range}
use Rattle.exports.specs.Words.{word, flag_word, flag_from, factor_from, factor_words, damaged, state_from, state_words}

-- ---- a factor that words hold whole: it is sound, and its floats are of binary32
pub record Writable (f : Factor) : Type 0 where
  pub sound : Sound f
  pub high : T (fits binary32 f.applied.high)
  pub low : T (fits binary32 f.applied.low)

-- what set-up gives,
pub set_up_writable : (d : Description) (f : Factor) → set_up d ≡ accepted f → Writable f
set_up_writable d f e =
    let t = set_up_sound d f e in
    let h = high_part (context_for d) d.lower in
    let l = low_part (context_for d) d.lower in
    subst Writable t.0 (unfold applied_of in record { sound = t.1; high = round-fits binary32 h.minus h.num h.den; low = round-fits binary32 l.minus l.num l.den })

-- and what is read from words, where 31 lets it through
pub read_writable : (ws : List ℕ) → intact (factor_from ws) ≡ true → Writable (factor_from ws)
unfolding factor_from
read_writable ws e = record { sound = intact_sound (factor_from ws) e; high = of_bits-fits binary32 (low32 (word ws 7)); low = of_bits-fits binary32 (low32 (word ws 8)) }

-- ---- a yes or no
pub flag_back : (b : Bool) → flag_from (flag_word b) ≡ b
flag_back true = refl
flag_back false = refl

-- ---- the sizes of its fields
scale_small : (k : ℤ) → scale_out k ≡ false → mag k ≤ 100
scale_small (pos a) e = ltb-false 100 a e
scale_small (negsuc a) e = let t = or_false (ltb 99 a) false e in omega (arith, ltb-false 99 a t.0)

size_most : (z : ℤ) → mag z ≤ nat_abs z
size_most (pos a) = omega arith
size_most (negsuc a) = omega arith

module _ (f : Factor) (W : Writable f) where
  abbrev stored : Storable (context_of f) f.parts
  stored =
      let s = W.sound in
      subst (Storable (context_of f)) (sym s.parts) (storable (context_of f) (fine_at s.precision) (lower_of f) s.lower_end)

  low_small : mag f.parts.low < 2 ^ 24
  low_small = go (dec_le (nat_abs f.parts.low) 0)
    where
      go : Dec (nat_abs f.parts.low ≤ 0) → mag f.parts.low < 2 ^ 24
      go (yes y) = omega (arith, size_most f.parts.low, y)
      go (no y) = omega (arith, size_most f.parts.low, (stored.low.some (lt_of_not-le y)).most, pow_mono {i = f.precision} {j = 24} W.sound.precision.most)

  bits_narrow : f.precision < 2 ^ 32
  bits_narrow = omega (arith, W.sound.precision.most)

  places_narrow : f.parts.places < 2 ^ 32
  places_narrow = omega (arith, stored.low.shallow, W.sound.precision.most, W.sound.precision.scale)

  scale_held : mag f.applied.scale < 2 ^ 31
  scale_held = omega (arith, scale_small f.applied.scale W.sound.scale)

  scale_narrow : unsigned 32 f.applied.scale < 2 ^ 32
  scale_narrow = unsigned_below 32 (omega arith) f.applied.scale scale_held

  -- ---- whatever stands behind its words, they are not damaged,
  pub not_damaged : (rest : List ℕ) → damaged (factor_words f ++ rest) ≡ false
  unfolding damaged factor_words
  not_damaged rest =
      rw (
        not_past f.precision bits_narrow,
        not_past f.parts.places places_narrow,
        not_past (to_bits binary32 f.applied.high) (to_bits-lt binary32 f.applied.high W.high),
        not_past (to_bits binary32 f.applied.low) (to_bits-lt binary32 f.applied.low W.low),
        not_past (unsigned 32 f.applied.scale) scale_narrow,
      )

  -- and the factor is read back from them
  float_back : (x : Float) → T (fits binary32 x) → of_bits binary32 (low32 (to_bits binary32 x)) ≡ x
  float_back x h = ap (of_bits binary32) (low_all (to_bits binary32 x) (to_bits-lt binary32 x h)) ∙ of_bits-to_bits binary32 x h

  pub factor_back : (rest : List ℕ) → factor_from (factor_words f ++ rest) ≡ f
  unfolding factor_from factor_words
  factor_back rest =
      let bits = low_all f.precision bits_narrow in
      let low = signed_unsigned 64 (omega arith) f.parts.low (omega (arith, low_small)) in
      let places = low_all f.parts.places places_narrow in
      let high_float = float_back f.applied.high W.high in
      let low_float = float_back f.applied.low W.low in
      let scale = ap (signed 32) (low_all (unsigned 32 f.applied.scale) scale_narrow) ∙ signed_unsigned 32 (omega arith) f.applied.scale scale_held in
      λ i. record {
        minus = flag_back f.minus i;
        precision = bits i;
        lower = f.lower;
        upper = f.upper;
        parts = record { high = f.parts.high; low = low i; places = places i };
        applied = record { high = high_float i; low = low_float i; scale = scale i };
      }

-- ---- a state over such a factor, likewise
module _ (s : State (Range Factor)) (W : Writable s.over.factor) (rest : List ℕ) where
  -- the words behind the factor's
  abbrev behind : List ℕ
  behind = s.over.first ∷ s.over.last ∷ s.next ∷ flag_word s.finished ∷ rest

  pub state_not_damaged : damaged (state_words s ++ rest) ≡ false
  unfolding state_words
  state_not_damaged = not_damaged s.over.factor W behind

  pub state_back : state_from (state_words s ++ rest) ≡ s
  unfolding state_from state_words
  state_back = λ i. record { over = range (factor_back s.over.factor W behind i) s.over.first s.over.last; next = s.next; finished = flag_back s.finished i }
