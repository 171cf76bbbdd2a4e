-- So many words are printed, and their open ones counted.
use Rattle.std.proofs.Common.{◌≡◌, take}
use Rattle.frame.specs.Written.{Written}
use Rattle.stream.specs.Output.{word_lines, odds}
use Rattle.stream.proofs.put_words.Given as goal

abbrev pub invariant-loop-word : goal.invariant-loop-word
invariant-loop-word l = record {
  written : Written l.fn.out l.at (word_lines (take l.word-index l.words)) l.out l.place;
  odd : l.opens ≡ odds (take l.word-index l.words);
}
