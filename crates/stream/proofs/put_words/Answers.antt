-- One word more is printed, and counted where it is open.
use Rattle.std.proofs.Common.{◌≡◌, refl, sym, ap, subst, ◌∙◌, List, [], ◌∷◌, ◌++◌, ℕ, ◌+◌, ◌%◌, ◌<◌, length, get_or, take, add-one, arith}
use Rattle.std.proofs.Math.Seq.{take-suc, length-take-le}
use Rattle.frame.specs.Written.{Written}
use Rattle.frame.specs.WrittenLaws.{written_then, written_length}
use Rattle.stream.specs.Output.{word_lines, odds}
use Rattle.stream.specs.SweepLaws.{odds_few, lines_last, odds_last, length_lines}
use Rattle.stream.proofs.put_words.Goals as goal

-- the first words, and one more
one_more : (list : List ℕ) (i word : ℕ) → i < length list → word ≡ get_or list i 0 → take (i + 1) list ≡ take i list ++ (word ∷ [])
one_more list i word h g = ap (λ (k : ℕ). take k list) (add-one i) ∙ take-suc list i 0 h ∙ ap (λ (x : ℕ). take i list ++ (x ∷ [])) (sym g)

pub loop-word-init : goal.loop-word-init
unfolding word_lines odds
loop-word-init c = record { written = record { list = refl; place = omega arith }; odd = refl }

pub put_word-place-requires : goal.put_word-place-requires
put_word-place-requires c =
    let b = c.loop-word.invariant in
    omega (arith, written_length b.written, b.written.place, length_lines (take c.loop-word.word-index c.args.words.now), length-take-le c.loop-word.word-index c.args.words.now (omega arith))

pub overflow_add-opens : goal.overflow_add-opens
overflow_add-opens c = omega (arith, odds_few (take c.loop-word.word-index c.args.words.now), length-take-le c.loop-word.word-index c.args.words.now (omega arith))

pub loop-word-preserved : goal.loop-word-preserved
loop-word-preserved c =
    let b = c.loop-word.invariant in
    let word = c.from-word.result in
    let first = take c.loop-word.word-index c.args.words.now in
    let e = one_more c.args.words.now c.loop-word.word-index word c.loop-word-test.true c.from-word.ensures in
    record {
      written = subst (λ (l : List ℕ). Written c.args.out.now c.args.at l c.put_word-place.new.buf c.put_word-place.result) (sym (ap word_lines e ∙ lines_last first word)) (written_then b.written c.put_word-place.ensures);
      odd = ap (λ (n : ℕ). n + word % 2) b.odd ∙ sym (ap odds e ∙ odds_last first word);
    }
