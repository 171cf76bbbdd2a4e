-- The program while it sweeps a frame: what is still to print, from the suspects that are left and the counts so far. Assumes nothing.
use Rattle.std.specs.Prelude.{◌≡◌, refl, List, [], ◌∷◌, ◌++◌, ℕ, suc, ◌+◌, ◌*◌, ◌%◌, ◌≤◌, length}
use Rattle.std.proofs.Common.{sym, ap, ◌∙◌, append_assoc, append-nil, add-zero, zero-add, add_assoc, arith, length-append}
use Rattle.marks.specs.declared.Mark.{Mark}
use Rattle.marks.specs.declared.Mark.TheVariants.{Right, Open, Wrong}
use Rattle.factor.specs.declared.Factor.{Factor}
use Rattle.calls.specs.State.{listed}
use Rattle.calls.specs.Plain.{words_of}
use Rattle.calls.proofs.TrialLaws.{words_append}
use Rattle.frame.specs.Report.{report_line, word_line}
use Rattle.frame.specs.ReportLaws.{length_word}
use Rattle.sweep.specs.Engine.{mark_of}
use Rattle.stream.specs.Output.{suspects_of, is_wrong, is_open, counted, word_lines, swept_output, odds, tally}

-- ---- joined rows
counted_join : (kind : Mark → ℕ) (mark : ℕ → Mark) (a b : List ℕ) → counted kind mark (a ++ b) ≡ counted kind mark a + counted kind mark b
unfolding counted
counted_join kind mark [] b = omega arith
counted_join kind mark (x ∷ a) b = omega (arith, counted_join kind mark a b)

lines_join : (v w : List ℕ) → word_lines (v ++ w) ≡ word_lines v ++ word_lines w
unfolding word_lines
lines_join [] w = refl
lines_join (x ∷ v) w = rw (lines_join v w) (sym (append_assoc (word_line 8 x) (word_lines v) (word_lines w)))

-- a word's line has 9 bytes
pub length_lines : (w : List ℕ) → length (word_lines w) ≡ 9 * length w
unfolding word_lines
length_lines [] = refl
length_lines (x ∷ w) = omega (arith, length-append (word_line 8 x) (word_lines w), length_word 8 x, length_lines w)

-- one word more
pub lines_last : (v : List ℕ) (x : ℕ) → word_lines (v ++ (x ∷ [])) ≡ word_lines v ++ word_line 8 x
unfolding word_lines
lines_last v x = lines_join v (x ∷ []) ∙ ap (λ (l : List ℕ). word_lines v ++ l) (append-nil (word_line 8 x))

-- ---- the words tell the counts
pub odds_last : (v : List ℕ) (x : ℕ) → odds (v ++ (x ∷ [])) ≡ odds v + x % 2
unfolding odds
odds_last [] x = omega arith
odds_last (y ∷ v) x = omega (arith, odds_last v x)

pub odds_few : (v : List ℕ) → odds v ≤ length v
unfolding odds
odds_few [] = omega arith
odds_few (x ∷ v) = omega (arith, odds_few v)

-- of a row's words, which are no more than its significands, the odd ones are those of open marks and the others those of wrong ones
abbrev Telling : (opens wrongs size : ℕ) → List ℕ → Type 0
Telling opens wrongs size words = (opens ≡ odds words) × (wrongs + odds words ≡ length words) × (length words ≤ size)

pub told : (mark : ℕ → Mark) (a : List ℕ) → Telling (counted is_open mark a) (counted is_wrong mark a) (length a) (words_of mark a)
unfolding counted words_of odds
told mark [] = (refl, refl, omega arith)
told mark (x ∷ a) = go (mark x) (told mark a)
  where
    go : (m : Mark) → Telling (counted is_open mark a) (counted is_wrong mark a) (length a) (words_of mark a)
        → Telling (is_open m + counted is_open mark a) (is_wrong m + counted is_wrong mark a) (suc (length a)) (listed m x ++ words_of mark a)
    go Right t = (omega arith, omega arith, omega arith)
    go Open t = (omega arith, omega arith, omega arith)
    go Wrong t = (omega arith, omega arith, omega arith)

module _ (mark : ℕ → Mark) where
  pub opens_are : (a : List ℕ) → counted is_open mark a ≡ odds (words_of mark a)
  opens_are a = (told mark a).0

  pub wrongs_are : (a : List ℕ) → counted is_wrong mark a + odds (words_of mark a) ≡ length (words_of mark a)
  wrongs_are a = (told mark a).1

-- ---- what is still to print of line i: the words of the suspects left, the report, and what comes later
unfoldable pub sweeping : (i : ℕ) → (ℕ → Mark) → (left : List ℕ) → (t w o : ℕ) → (later : List ℕ) → List ℕ
sweeping i mark left t w o later =
    word_lines (words_of mark left) ++ (report_line 8 (tally i (t + length left) (w + counted is_wrong mark left) (o + counted is_open mark left)) ++ later)

pub sweeping_all : (i : ℕ) (f : Factor) (later : List ℕ) → swept_output i f ++ later ≡ sweeping i (mark_of f) (suspects_of f) 0 0 0 later
unfolding swept_output sweeping
sweeping_all i f later = simp (zero-add, append_assoc)

-- some are tried: their words go out, and the counts grow
pub sweeping_some : (i : ℕ) (mark : ℕ → Mark) (a b : List ℕ) (t w o : ℕ) (later : List ℕ)
    → sweeping i mark (a ++ b) t w o later ≡ word_lines (words_of mark a) ++ sweeping i mark b (t + length a) (w + counted is_wrong mark a) (o + counted is_open mark a) later
unfolding sweeping
sweeping_some i mark a b t w o later = simp (words_append, lines_join, length-append, counted_join, append_assoc, add_assoc)

-- none is left: the report
pub sweeping_none : (i : ℕ) (mark : ℕ → Mark) (t w o : ℕ) (later : List ℕ) → sweeping i mark [] t w o later ≡ report_line 8 (tally i t w o) ++ later
unfolding sweeping words_of word_lines counted
sweeping_none i mark t w o later = simp add-zero
