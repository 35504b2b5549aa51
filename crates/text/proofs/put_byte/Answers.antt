use mathlib.Core.Path.{refl}
use Rattle.text.proofs.Putting.{put_one}
use Rattle.text.proofs.put_byte.Goals as goal

pub returns : goal.returns
returns c = record { out_after = put_one _ _ _; value = refl }
