use native.Mathlib.Omega.{arith}
use mathlib.Core.Path.{refl}
use lib.ListN.{length-set}
use Rattle.system_listing.specs.Putting.{put_line}
use Rattle.system_listing.proofs.put.Goals as goal

pub bounds-out-beside : goal.bounds-out-beside
bounds-out-beside c = simp length-set (omega arith)

pub returns : goal.returns
unfolding put_line
returns c = refl
