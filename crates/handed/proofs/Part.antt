-- The part handed on, by the verdict.
use Prim.Native.Nat.{ℕ, ◌*◌, ◌≤◌}
use native.Mathlib.Omega.{arith}
use mathlib.Core.Path.{◌≡◌, sym, ap, subst, ◌∙◌}
use mathlib.Core.Bool.{Bool, true, false}
use mathlib.Core.List.{List}
use lib.ListN.{length, take, length-take}
use Rattle.model.specs.declared.Verdict.{Verdict}
use Rattle.model.specs.declared.Verdict.TheVariants.{Safe}
use Rattle.model.specs.Verdict.{number}
use Rattle.model.specs.Words.{words}
use Rattle.model.specs.Message.{sizes, bads_offset, ceilings_offset, weights_offset}
use Rattle.model.specs.Limits.{present}
use Rattle.model.specs.Verify.{message, check, verdict, if_safe, part_handed, part_handed_within}
use Rattle.model.proofs.Exact.Checks.{then_none}
use Rattle.model.proofs.Exact.Answer.{verdict_safe}
use Rattle.model.proofs.Exact.Parts.{end_past}
use Rattle.message.proofs.Whole.{whole_check}
use Rattle.answers.specs.Safe.{is_safe_of}
use Rattle.answers.proofs.Passing.{safe_only, else_is}

module _ (bytes : List ℕ) (n : ℕ) (w : Verdict) (told : w ≡ verdict bytes n) (f : Bool) (tested : f ≡ is_safe_of w) where
  pub empty_part : f ≡ false → take 0 bytes ≡ part_handed bytes n
  unfolding part_handed_within
  empty_part h =
      ap (λ k. take k bytes)
      (sym (subst (λ x. if_safe x (2 * bads_offset (message bytes).sizes) 0 ≡ 0) told (else_is w _ 0 (sym tested ∙ h))))

  safe_told : f ≡ true → verdict bytes n ≡ Safe
  safe_told h = sym told ∙ safe_only w (sym tested ∙ h)

  pub program_part_of : f ≡ true → (k : ℕ) → k ≡ bads_offset (sizes (words bytes)) → take (2 * k) bytes ≡ part_handed bytes n
  unfolding part_handed_within message if_safe number
  program_part_of h k e = rw (safe_told h, e)

  -- it lies within the message
  part_fits : f ≡ true → (k : ℕ) → k ≡ bads_offset (sizes (words bytes)) → 2 * k ≤ length bytes
  unfolding bads_offset weights_offset ceilings_offset message check
  part_fits h k e =
      let passes = ((then_none _ _).0 ((verdict_safe present bytes n).0 (safe_told h))).0 in
      let whole = whole_check bytes passes in
      omega (arith, whole.bytes_end, end_past (sizes (words bytes)))

  -- ... and so the length of what is cut off no later is its end
  pub cut_length : f ≡ true → (k end : ℕ) → k ≡ bads_offset (sizes (words bytes)) → end ≤ 2 * k → end ≡ length (take end bytes)
  cut_length h k end e within = let fits = part_fits h k e in let l = length-take end bytes in omega arith
