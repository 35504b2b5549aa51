use Rattle.std.proofs.Common.{refl, rules}
use Rattle.corpus.proofs.Digesting.{words_next, words_end}
use Rattle.corpus.proofs.digest.add_words.Goals as goal

pub loop-word-init : goal.loop-word-init
loop-word-init c = refl

pub loop-word-preserved : goal.loop-word-preserved
loop-word-preserved c = words_next _ _ _ _ _ c.loop-word.invariant (search rules) c.add_word-so_far.ensures

pub returns : goal.returns
returns c = words_end _ _ _ _ c.loop-word.invariant (search rules)
