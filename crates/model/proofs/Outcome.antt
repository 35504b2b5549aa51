-- What a check found, by the result that it hands on: the code goes on after nothing, and ends with a refusal.
use mathlib.Core.Path.{◌≡◌, refl, sym, ap, ◌∙◌}
use mathlib.Core.Option.{some, none}
use Rattle.std.proofs.Common.{Result, Ok, Err, Bool, true, false}
use Rattle.model.specs.declared.Verdict.{Verdict}
use Rattle.model.specs.Verdict.{Check, ◌>>◌, unless}
use Rattle.model.specs.Verify.{outcome}

-- the check that a result tells of
unfoldable found : Result Unit Verdict → Check
found (Ok tt) = none
found (Err v) = some v

found_outcome : (c : Check) → found (outcome c) ≡ c
unfolding outcome found
found_outcome none = refl
found_outcome (some v) = refl

-- it found nothing
pub nothing_found : (c : Check) (r : Result Unit Verdict) → r ≡ outcome c → r ≡ Ok tt → c ≡ none
unfolding found
nothing_found c r e h = sym (found_outcome c) ∙ ap found (sym e ∙ h)

-- it found this
pub refusal_found : (c : Check) (r : Result Unit Verdict) (v : Verdict) → r ≡ outcome c → r ≡ Err v → c ≡ some v
unfolding found
refusal_found c r v e h = sym (found_outcome c) ∙ ap found (sym e ∙ h)

-- the first check's refusal is the result
pub stops_at : (a b : Check) (r : Result Unit Verdict) (v : Verdict) → r ≡ outcome a → r ≡ Err v → Err v ≡ outcome (a >> b)
unfolding ◌>>◌ outcome
stops_at a b r v e h = rw (refusal_found a r v e h)

-- where the first finds nothing, the rest's result is the result
pub goes_on_to : (a b : Check) (q r : Result Unit Verdict) → q ≡ outcome a → q ≡ Ok tt → r ≡ outcome b → r ≡ outcome (a >> b)
unfolding ◌>>◌
goes_on_to a b q r e h k = rw (nothing_found a q e h) k

-- a test that ends with a refusal
pub refuses_unless : (b : Bool) (v : Verdict) → b ≡ false → Err v ≡ outcome (unless b v)
unfolding unless outcome
refuses_unless b v h = rw h

pub passes_unless : (b : Bool) (v : Verdict) → b ≡ true → Ok tt ≡ outcome (unless b v)
unfolding unless outcome
passes_unless b v h = rw h
