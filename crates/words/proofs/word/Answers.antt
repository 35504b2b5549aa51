-- The word is its two bytes.
use mathlib.Core.Path.{sym, ◌∙◌}
use Rattle.words.proofs.Words.{word_at}
use borrow.Author.Rules.{rules}
use Rattle.words.proofs.word.Goals as goal

pub returns : goal.returns
returns c =
    let a = c.args in
    c.joined.ensures ∙ sym (word_at a.bytes.now a.i (search rules))
