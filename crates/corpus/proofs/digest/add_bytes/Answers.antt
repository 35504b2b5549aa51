use Rattle.std.proofs.Common.{refl, rules}
use Rattle.corpus.proofs.Digesting.{bytes_next, bytes_end}
use Rattle.corpus.proofs.digest.add_bytes.Goals as goal

pub loop-byte-init : goal.loop-byte-init
loop-byte-init c = refl

pub loop-byte-preserved : goal.loop-byte-preserved
loop-byte-preserved c = bytes_next _ _ _ _ _ c.loop-byte.invariant (search rules) c.add_byte-so_far.ensures

pub returns : goal.returns
returns c = bytes_end _ _ _ _ c.loop-byte.invariant (search rules)
