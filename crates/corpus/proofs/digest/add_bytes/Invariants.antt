use Rattle.std.proofs.Common.{◌≡◌, drop}
use Rattle.corpus.specs.Digest.{digest_from}
use Rattle.corpus.proofs.digest.add_bytes.Given as goal

abbrev pub invariant-loop-byte : goal.invariant-loop-byte
invariant-loop-byte l = digest_from l.digest l.bytes ≡ digest_from l.so_far (drop l.byte-index l.bytes)
