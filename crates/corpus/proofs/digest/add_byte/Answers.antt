use Rattle.std.proofs.Common.{rules}
use Rattle.corpus.specs.Digest.{with_byte}
use Rattle.corpus.proofs.digest.add_byte.Goals as goal

pub returns : goal.returns
unfolding with_byte
returns c = search rules
