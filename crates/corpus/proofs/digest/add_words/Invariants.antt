use Rattle.std.proofs.Common.{◌≡◌, drop}
use Rattle.corpus.specs.Digest.{words_from}
use Rattle.corpus.proofs.digest.add_words.Given as goal

abbrev pub invariant-loop-word : goal.invariant-loop-word
invariant-loop-word l = words_from l.digest l.words ≡ words_from l.so_far (drop l.word-index l.words)
