-- The loop's invariant: the first i words stand in front, what was behind them is behind them, and the length is what it was.
use mathlib.Core.Path.{◌≡◌}
use lib.ListN.{length}
use Rattle.model.specs.Words.{words}
use Rattle.words.proofs.Words.{put}
use Rattle.words.proofs.decode.Given as goal

abbrev pub invariant-loop-i : goal.invariant-loop-i
invariant-loop-i l = (l.into ≡ put l.i (words l.bytes) l.initial.into) × (length l.into ≡ length l.initial.into)
