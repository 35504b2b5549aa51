-- Laws of refusals 1 and 2 (model, specs/Message.antt): what each test of the code says of the check of a part and of the whole message.
use Prim.Native.Nat.{ℕ, ◌+◌, ◌*◌, ◌^◌, ◌≤◌, ◌<◌}
use native.Mathlib.Decide.{dec_lt}
use native.Mathlib.Omega.{arith}
use mathlib.Core.Path.{◌≡◌, refl, sym, ◌∙◌, ap}
use mathlib.Core.Bool.{true, false}
use mathlib.Core.List.{List, [], ◌∷◌}
use mathlib.Core.Option.{some, none}
use lib.ListN.{length}
use borrow.Author.Tests.{le-leb, lt-leb}
use Rattle.std.proofs.Common.{Result, Ok, Err}
use Rattle.model.specs.Limits.{present}
use Rattle.model.specs.declared.Sizes.{Sizes}
use Rattle.model.specs.declared.Verdict.{Verdict}
use Rattle.model.specs.declared.Verdict.TheVariants.{Length, Size}
use Rattle.model.specs.Words.{words}
use Rattle.model.specs.Verdict.{Check, ◌>>◌, unless}
use Rattle.model.specs.Verify.{outcome}
use Rattle.model.specs.Message.{Limited, sizes, sizes_check, part_check, program_part_of, bads_part_of, tables_part_of, ceilings_part_of, goes_on, weights_sizes, ceilings_offset, weights_offset, weights_part_of, nothing_left, end_of, parts_check}
use Rattle.model.proofs.Outcome.{nothing_found, refusal_found}
use Rattle.model.proofs.Logic.{test, chosen_true, chosen_false}
use Rattle.model.proofs.Exact.Parts.{end_none, end_some}
use Rattle.parts.specs.Parts.{LowSizes}
use Rattle.sizes.specs.Sizes.{inside, first_outside}
use Rattle.sizes.proofs.Limits.{first_outside_hit, first_outside_miss}
use Rattle.message.specs.Parts.{answered, parts_in}

sizes_check_hit : (at : ℕ) (l : Limited) (ls : List Limited) → inside l ≡ false → sizes_check at (l ∷ ls) ≡ some (Size at)
unfolding sizes_check inside
sizes_check_hit at l ls h = rw (h, sizes_check)

sizes_check_miss : (at : ℕ) (l : Limited) (ls : List Limited) → inside l ≡ true → sizes_check at (l ∷ ls) ≡ sizes_check (at + 1) ls
unfolding sizes_check inside
sizes_check_miss at l ls h = rw (h, sizes_check)

-- it is where the model refuses the sizes
pub sizes_refused : (at : ℕ) (ls : List Limited) → first_outside ls < length ls → sizes_check at ls ≡ some (Size (at + first_outside ls))
sizes_refused at [] h = absurd (omega arith)
sizes_refused at (l ∷ ls) h =
    test (inside l)
    (λ e. let z = first_outside_miss l ls e in
    let w : at + 1 + first_outside ls ≡ at + first_outside (l ∷ ls) = omega arith in
    sizes_check_miss at l ls e ∙ (sizes_refused (at + 1) ls (omega arith) ∙ ap (λ n. some (Size n)) w))
    (λ e. let z = first_outside_hit l ls e in
    let w : at ≡ at + first_outside (l ∷ ls) = omega arith in
    sizes_check_hit at l ls e ∙ ap (λ n. some (Size n)) w)

pub sizes_pass : (at : ℕ) (ls : List Limited) → length ls ≤ first_outside ls → sizes_check at ls ≡ none
unfolding sizes_check
sizes_pass at [] h = refl
sizes_pass at (l ∷ ls) h =
    test (inside l)
    (λ e. let z = first_outside_miss l ls e in sizes_check_miss at l ls e ∙ sizes_pass (at + 1) ls (omega arith))
    (λ e. let z = first_outside_hit l ls e in absurd (omega arith))

-- a part, by the code's three tests

module _ (ws : List ℕ) (at : ℕ) (ls : List Limited) (cells : ℕ) where
  pub part_no_sizes : length ws < at + length ls → part_check ws at ls cells ≡ some (Length at)
  unfolding part_check unless ◌>>◌
  part_no_sizes h = rw (lt-leb (at + length ls) (length ws) h)

  pub part_outside : (w : ℕ) → first_outside ls ≡ w → at + length ls ≤ length ws → w < length ls → part_check ws at ls cells ≡ some (Size (at + w))
  unfolding part_check unless ◌>>◌
  part_outside w e h k = rw (← e, le-leb (at + length ls) (length ws) h, sizes_refused at ls (omega arith))

  pub part_no_arrays : at + length ls ≤ length ws → length ls ≤ first_outside ls → length ws < at + length ls + cells → part_check ws at ls cells ≡ some (Length at)
  unfolding part_check unless ◌>>◌
  part_no_arrays h k l = rw (le-leb (at + length ls) (length ws) h, sizes_pass at ls k, lt-leb (at + length ls + cells) (length ws) l)

  pub part_whole : length ls ≤ first_outside ls → at + length ls + cells ≤ length ws → part_check ws at ls cells ≡ none
  unfolding part_check unless ◌>>◌
  part_whole k l = rw (le-leb (at + length ls) (length ws) (omega arith), sizes_pass at ls k, le-leb (at + length ls + cells) (length ws) l)

-- the fifth part, by whether the message goes on

pub no_weights : (bytes ws : List ℕ) (s : Sizes) → goes_on bytes s ≡ false → Ok tt ≡ outcome (weights_part_of bytes ws s)
unfolding weights_part_of outcome
no_weights bytes ws s h = sym (ap outcome (chosen_false _ _ _ h))

pub with_weights : (bytes ws : List ℕ) (s : Sizes) (r : Result Unit Verdict) {at : ℕ} → goes_on bytes s ≡ true → at ≡ weights_offset s → r ≡ outcome (part_check ws at (weights_sizes s) (2 * s.weights)) → r ≡ outcome (weights_part_of bytes ws s)
unfolding weights_part_of
with_weights bytes ws s r h e p = rw e at p ∙ sym (ap outcome (chosen_true _ _ _ h))

-- sizes that place the parts place the end
pub end_small : (s : Sizes) (n : ℕ) → n ≡ end_of s → LowSizes s → n < 2 ^ 21
unfolding weights_offset ceilings_offset
end_small s n e h = elim (dec_lt 0 s.lines) [
  | yes w ↦ omega (arith, end_some s w)
  | no w ↦ omega (arith, end_none s (omega arith))
]

-- the whole message, by the code's checks one after the other

pub then_go : (p q : Check) (s : Sizes) (r : Result Unit Verdict) (x : Result Sizes Verdict) → r ≡ outcome p → r ≡ Ok tt → x ≡ answered q s → x ≡ answered (p >> q) s
unfolding ◌>>◌
then_go p q s r x e h t = rw (nothing_found p r e h) t

pub then_stop : (p q : Check) (s : Sizes) (r : Result Unit Verdict) (v : Verdict) → r ≡ outcome p → r ≡ Err v → Err v ≡ answered (p >> q) s
unfolding ◌>>◌ answered
then_stop p q s r v e h = rw (refusal_found p r v e h)

pub bytes_left : (bytes : List ℕ) (s : Sizes) (n : ℕ) → n ≡ end_of s → 2 * n < length bytes → Err (Length n) ≡ answered (nothing_left bytes s) s
unfolding nothing_left unless answered
bytes_left bytes s n e h = rw (← e, lt-leb (length bytes) (2 * n) h)

pub no_bytes_left : (bytes : List ℕ) (s : Sizes) (n : ℕ) → n ≡ end_of s → length bytes ≤ 2 * n → Ok s ≡ answered (nothing_left bytes s) s
unfolding nothing_left unless answered
no_bytes_left bytes s n e h = rw (← e, le-leb (length bytes) (2 * n) h)

pub parts_by : (bytes : List ℕ) (s : Sizes) (x : Result Sizes Verdict) → s ≡ sizes (words bytes) → x ≡ answered (program_part_of present (words bytes) s >> (bads_part_of (words bytes) s >> (tables_part_of present (words bytes) s >> (ceilings_part_of (words bytes) s >> (weights_part_of bytes (words bytes) s >> nothing_left bytes s))))) s → x ≡ parts_in bytes
unfolding parts_in parts_check
parts_by bytes s x e t = rw (← e) t

pub ruleset tests-of-parts = (parts_by, then_go, then_stop, bytes_left, no_bytes_left)
