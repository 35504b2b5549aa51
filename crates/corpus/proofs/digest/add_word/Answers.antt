use Rattle.std.proofs.Common.{ap, ◌∙◌}
use Rattle.corpus.specs.Digest.{digest_from, with_word}
use Rattle.corpus.proofs.digest.add_word.Goals as goal

pub returns : goal.returns
unfolding digest_from with_word
returns c = c.add_bytes.ensures ∙ ap (digest_from c.args.digest) c.to_le_bytes.ensures
