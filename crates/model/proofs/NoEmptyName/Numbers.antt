-- A message whose number is 0 or above 5 passes the checks 1 to 5.
use Prim.Native.Nat.{ℕ, ◌+◌, ◌≤◌, ◌<◌}
use native.Mathlib.Omega.{arith}
use mathlib.Core.Path.{◌≡◌, refl, ap}
use mathlib.Core.Bool.{Bool, true, false, ◌&&◌}
use mathlib.Core.List.{List, [], ◌∷◌}
use mathlib.Core.Logic.{◌⊎◌, ⊎_elim}
use mathlib.Core.Option.{some, none, some-injective, none-ne-some}
use lib.Dec.{leb}
use Rattle.model.specs.declared.Sizes.{Sizes}
use Rattle.model.specs.declared.Verdict.{Verdict}
use Rattle.model.specs.declared.Verdict.TheVariants.{Length, Size, Row, Name, Scope}
use Rattle.model.specs.Limits.{Limits}
use Rattle.model.specs.Reader.{first_wrong_of}
use Rattle.model.specs.Message.{Limited, sizes_check, part_check, program_part_of, bads_part_of, tables_part_of, ceilings_part_of, goes_on, weights_part_of, nothing_left, parts_check}
use Rattle.model.specs.Verdict.{Check, ◌>>◌, unless, number}
use Rattle.model.specs.Rows.{Program, step, whole, row_check_of}
use Rattle.model.specs.Scopes.{name_check_of, scope_check_of}
use Rattle.model.specs.Verify.{message, program_check, message_check, check, answer, verdict_within}
use Rattle.model.proofs.Logic.{test}
use Rattle.model.proofs.Reader.{by_option}

-- what the check refuses has a number from 1 to 5
abbrev Low : Check → Type 0
Low c = (v : Verdict) → c ≡ some v → (1 ≤ number v) × (number v ≤ 5)

low_then : (a b : Check) → Low a → Low b → Low (a >> b)
unfolding ◌>>◌
low_then none b h k = k
low_then (some w) b h k = h

low_none : Low none
low_none v e = absurd (none-ne-some v e)

low_some : (w : Verdict) → 1 ≤ number w → number w ≤ 5 → Low (some w)
low_some w lo hi v e = let z = ap number (some-injective w v e) in omega arith

low_unless : (b : Bool) (w : Verdict) → 1 ≤ number w → number w ≤ 5 → Low (unless b w)
unfolding unless
low_unless true w lo hi = low_none
low_unless false w lo hi = low_some w lo hi

low_sizes : (at : ℕ) (ls : List Limited) → Low (sizes_check at ls)
unfolding sizes_check number
low_sizes at [] = low_none
low_sizes at (l ∷ ls) =
    test (leb l.least l.size && leb l.size l.most)
    (λ e. rw (e, sizes_check) (low_sizes (at + 1) ls))
    (λ e. rw (e, sizes_check) (low_some (Size at) (omega arith) (omega arith)))

low_part : (ws : List ℕ) (at : ℕ) (ls : List Limited) (n : ℕ) → Low (part_check ws at ls n)
unfolding part_check number
low_part ws at ls n =
    low_then _ _ (low_unless _ (Length at) (omega arith) (omega arith))
    (low_then _ _ (low_sizes at ls) (low_unless _ (Length at) (omega arith) (omega arith)))

low_fifth : (bytes ws : List ℕ) (s : Sizes) → Low (weights_part_of bytes ws s)
unfolding weights_part_of
low_fifth bytes ws s = test (goes_on bytes s) (λ e. rw (e, weights_part_of) (low_part _ _ _ _)) (λ e. rw (e, weights_part_of) low_none)

low_parts : (most : Limits) (bytes : List ℕ) → Low (parts_check most bytes)
unfolding parts_check program_part_of bads_part_of tables_part_of ceilings_part_of nothing_left number
low_parts most bytes =
    low_then _ _ (low_part _ _ _ _)
    (low_then _ _ (low_part _ _ _ _) (low_then _ _ (low_part _ _ _ _) (low_then _ _ (low_part _ _ _ _) (low_then _ _ (low_fifth _ _ _) (low_unless _ (Length _) (omega arith) (omega arith))))))

low_rows : (p : Program) → Low (row_check_of p)
unfolding row_check_of number
low_rows p = by_option (first_wrong_of (step p) p.rows (whole p)) (λ e. rw e low_none) (λ r e. rw e (low_some (Row (4 + r)) (omega arith) (omega arith)))

low_program : (p : Program) → Low (program_check p)
unfolding program_check name_check_of scope_check_of number
low_program p =
    low_then _ _ (low_rows p)
    (low_then _ _ (low_then _ _ (low_unless _ (Name _) (omega arith) (omega arith)) (low_unless _ (Name 1) (omega arith) (omega arith)))
    (low_unless _ (Scope _) (omega arith) (omega arith)))

-- an answer with another number
abbrev Passed : Verdict → Type 0
Passed v = (number v ≡ 0) ⊎ (5 < number v)

-- where the answer has another number, the first check refuses nothing, and it is the answer of the others
low_passes : (a b : Check) → Low a → Passed (answer (a >> b)) → (a ≡ none) × Passed (answer b)
unfolding ◌>>◌ answer
low_passes none b h k = (refl, k)
low_passes (some w) b h k = let (lo, hi) = h w refl in absurd (⊎_elim (λ z. omega arith) (λ z. omega arith) k)

pub passes_five : (most : Limits) (bytes : List ℕ) (lent : ℕ) → Passed (verdict_within most bytes lent) → (parts_check most bytes ≡ none) × (program_check (message bytes).program ≡ none)
unfolding verdict_within check message_check
passes_five most bytes lent k =
    let (parts, others) = low_passes (parts_check most bytes) _ (low_parts most bytes) k in
    (parts, (low_passes (program_check (message bytes).program) _ (low_program (message bytes).program) others).0)
