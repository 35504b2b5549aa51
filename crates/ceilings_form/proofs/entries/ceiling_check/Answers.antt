use native.Mathlib.Omega.{arith}
use Rattle.ceilings_form.proofs.Ceilings.{part_in}
use Rattle.ceilings_form.proofs.Checked.{place_low, ceilings_pass, ceiling_wrong}
use Rattle.ceilings_form.proofs.entries.ceiling_check.Goals as goal

pub ceilings_part-part-requires : goal.ceilings_part-part-requires
ceilings_part-part-requires c = c.requires.whole.limits

pub first_wrong-requires : goal.first_wrong-requires
first_wrong-requires c = record { part_held = rw c.ceilings_part-part.ensures (part_in _ _ c.requires.whole); n_le_max_counters = c.requires.n_le_max_counters }

pub overflow_add-here : goal.overflow_add-here
overflow_add-here c = let l = place_low _ _ _ _ _ (λ i. omega (arith, c.type_inv.ws i)) c.ceilings_part-part.ensures c.first_wrong.ensures c.requires.whole.limits _ c.in-Some.is in record { fits = omega arith }

pub returns-in-None : goal.returns-in-None
returns-in-None c = ceilings_pass _ _ _ _ _ (λ i. omega (arith, c.type_inv.ws i)) c.ceilings_part-part.ensures c.first_wrong.ensures c.in-None.is

pub returns-in-Some : goal.returns-in-Some
returns-in-Some c = ceiling_wrong _ _ _ _ _ (λ i. omega (arith, c.type_inv.ws i)) c.ceilings_part-part.ensures c.first_wrong.ensures _ c.in-Some.is
