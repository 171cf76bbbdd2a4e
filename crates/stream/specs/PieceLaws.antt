-- The program while it reads a line: what is still to print, from the part of the line that is kept and the input to come. Assumes nothing.
use Rattle.std.specs.Prelude.{◌≡◌, refl, Bool, true, false, not, List, [], ◌∷◌, ◌++◌, ℕ, suc, ◌+◌, ◌*◌, ◌≤◌, ◌<◌, length}
use Rattle.std.proofs.Math.Path.{sym, ap}
use Rattle.std.proofs.Common.{◌∙◌, append_assoc, append-nil, arith, length-append, ne_eqb}
use Rattle.std.proofs.lemmas.Bool.{lt-leb}
use Rattle.marks.specs.Answers.{Outcome, and_then}
use Rattle.marks.specs.AnswerLaws.{stop, refuses}
use Rattle.factor.specs.declared.Description.{Description}
use Rattle.factor.specs.SetUp.{set_up}
use Rattle.frame.specs.Lines.{line_feed}
use Rattle.frame.specs.Frame.{end_digits, spaced, described_by, frame_of}
use Rattle.frame.specs.Report.{refusal_line}
use Rattle.stream.specs.Keep.{most_kept, NoFeed}
use Rattle.stream.specs.Output.{Pieces, before, put, pieces, most_lines, among, last_output, judged_line, judged_output, line_output, lines_output, output}

-- what depends on a test, by its two answers
pub by_test : (P : Bool → Type 0) (t : Bool) → (t ≡ true → P true) → (t ≡ false → P false) → P t
by_test P true holds fails = holds refl
by_test P false holds fails = fails refl

pub no_feed_join : (l m : List ℕ) → NoFeed l → NoFeed m → NoFeed (l ++ m)
no_feed_join [] m p q = q
no_feed_join (b ∷ l) m p q = (p.0, no_feed_join l m p.1 q)

-- bytes before the pieces, none of them a line feed: they belong to the first
abbrev prefixed : List ℕ → List (List ℕ) → List ℕ → Pieces
prefixed h [] rest = record { lines = []; rest = h ++ rest }
prefixed h (line ∷ lines) rest = record { lines = (h ++ line) ∷ lines; rest = rest }

before_prefixed : (b : ℕ) (h : List ℕ) (lines : List (List ℕ)) (rest : List ℕ) → before b (prefixed h lines rest).lines (prefixed h lines rest).rest ≡ prefixed (b ∷ h) lines rest
before_prefixed b h [] rest = refl
before_prefixed b h (line ∷ lines) rest = refl

put_byte : (b : ℕ) (p : Pieces) → ¬ (b ≡ line_feed) → put b p ≡ before b p.lines p.rest
put_byte b p h = rw (ne_eqb b line_feed h)

prefixed_none : (lines : List (List ℕ)) (rest : List ℕ) → prefixed [] lines rest ≡ record { lines = lines; rest = rest }
prefixed_none [] rest = refl
prefixed_none (line ∷ lines) rest = refl

pieces_prefixed : (h input : List ℕ) → NoFeed h → pieces (h ++ input) ≡ prefixed h (pieces input).lines (pieces input).rest
unfolding pieces
pieces_prefixed [] input n = sym (prefixed_none (pieces input).lines (pieces input).rest)
pieces_prefixed (b ∷ h) input n =
    put_byte b (pieces (h ++ input)) n.0
    ∙ ap (λ (p : Pieces). before b p.lines p.rest) (pieces_prefixed h input n.1)
    ∙ before_prefixed b h (pieces input).lines (pieces input).rest

-- ---- a frame has 39 bytes, so of a line at most 40 are kept
pub long_line : (i : ℕ) (line : List ℕ) → most_kept ≤ length line → line_output i line ≡ refusal_line i 24
unfolding line_output judged_line
long_line i line h =
    let other : not (spaced end_digits line) ≡ true = unfold spaced in rw (ne_eqb (length line) (7 + 2 * end_digits) (λ e. omega arith)) in
    ap (λ (a : Outcome Description). judged_output i (and_then a set_up)) (unfold frame_of in sym (refuses (stop other) (described_by line)))

-- ---- what is still to print: line i, of which h is kept, and the input to come
unfoldable pub reading : (i : ℕ) (h input : List ℕ) → List ℕ
reading i h input = lines_output i (pieces (h ++ input)).lines (pieces (h ++ input)).rest

pub reading_all : (input : List ℕ) → output input ≡ reading 1 [] input
unfolding output reading
reading_all input = refl

-- a line feed ends the line
pub reading_feed : (i : ℕ) (h input : List ℕ) → NoFeed h → reading i h (line_feed ∷ input) ≡ among i (line_output i h) ++ reading (suc i) [] input
unfolding reading pieces lines_output
reading_feed i h input n =
    ap (λ (p : Pieces). lines_output i p.lines p.rest) (pieces_prefixed h (line_feed ∷ input) n)
    ∙ ap (λ (l : List ℕ). among i (line_output i l) ++ lines_output (suc i) (pieces input).lines (pieces input).rest) (append-nil h)

-- any other byte is kept while there is room
pub reading_byte : (i b : ℕ) (h input : List ℕ) → reading i h (b ∷ input) ≡ reading i (h ++ (b ∷ [])) input
unfolding reading
reading_byte i b h input = ap (λ (l : List ℕ). lines_output i (pieces l).lines (pieces l).rest) (sym (append_assoc h (b ∷ []) input))

-- and dropped after that: the line is no frame, whatever it holds
pub reading_long : (i b : ℕ) (h input : List ℕ) → NoFeed h → ¬ (b ≡ line_feed) → most_kept ≤ length h → reading i h (b ∷ input) ≡ reading i h input
unfolding reading pieces lines_output
reading_long i b h input n m l =
    ap (λ (p : Pieces). lines_output i p.lines p.rest) (pieces_prefixed h (b ∷ input) n ∙ ap (λ (p : Pieces). prefixed h p.lines p.rest) (put_byte b (pieces input) m))
    ∙ same h (pieces input).lines (pieces input).rest l
    ∙ ap (λ (p : Pieces). lines_output i p.lines p.rest) (sym (pieces_prefixed h input n))
  where
    some : (h r : List ℕ) → most_kept ≤ length h → last_output i (h ++ r) ≡ refusal_line i 24
    some [] r l = absurd (omega arith)
    some (x ∷ h) r l = refl

    same : (h : List ℕ) (lines : List (List ℕ)) (rest : List ℕ) → most_kept ≤ length h
        → lines_output i (prefixed h (before b lines rest).lines (before b lines rest).rest).lines (prefixed h (before b lines rest).lines (before b lines rest).rest).rest
        ≡ lines_output i (prefixed h lines rest).lines (prefixed h lines rest).rest
    same h [] rest l = ap (among i) (some h (b ∷ rest) l ∙ sym (some h rest l))
    same h (line ∷ lines) rest l =
        ap (λ (m : List ℕ). among i m ++ lines_output (suc i) lines rest)
        (long_line i (h ++ (b ∷ line)) (rw length-append (omega arith)) ∙ sym (long_line i (h ++ line) (rw length-append (omega arith))))

-- at the end of the input
pub reading_end : (i : ℕ) (h : List ℕ) → NoFeed h → reading i h [] ≡ among i (last_output i h)
unfolding reading pieces lines_output
reading_end i h n =
    ap (λ (p : Pieces). lines_output i p.lines p.rest) (pieces_prefixed h [] n) ∙ ap (λ (l : List ℕ). among i (last_output i l)) (append-nil h)

-- past the last line that counts nothing is printed
lines_past : (i : ℕ) (lines : List (List ℕ)) (rest : List ℕ) → most_lines < i → lines_output i lines rest ≡ []
unfolding lines_output
lines_past i [] rest h = rw (lt-leb i most_lines h)
lines_past i (line ∷ lines) rest h = rw (lt-leb i most_lines h) (lines_past (suc i) lines rest (omega arith))

pub reading_past : (i : ℕ) (h input : List ℕ) → most_lines < i → reading i h input ≡ []
unfolding reading
reading_past i h input l = lines_past i (pieces (h ++ input)).lines (pieces (h ++ input)).rest l
