-- The loop over the rows of bads: each way out gives refusal 6, or none, as the model has it.
use Prim.Native.Nat.{ℕ, ◌+◌, ◌*◌, ◌≤◌, ◌<◌}
use native.Mathlib.Omega.{arith}
use mathlib.Core.Path.{◌≡◌, sym, ◌∙◌, ap}
use mathlib.Core.Bool.{Bool, true, false, true≢false}
use mathlib.Core.List.{List, [], ◌∷◌}
use mathlib.Core.Option.{Option, some, none, map}
use Rattle.std.proofs.Common as rust
use Rattle.std.proofs.Common.{Result, Ok, Err, Some, None}
use lib.ListN.{length, get_or, take, drop, replicate}
use Rattle.model.specs.declared.Sizes.{Sizes}
use Rattle.model.specs.declared.Verdict.{Verdict}
use Rattle.model.specs.declared.Verdict.TheVariants.{Bad}
use Rattle.model.specs.Words.{left, right, columns}
use Rattle.model.specs.Message.{bads_offset, tables_offset, ceilings_offset, weights_offset}
use Rattle.model.specs.Reader.{first_wrong_of}
use Rattle.model.specs.Rows.{program}
use Rattle.model.specs.Bads.{Part, bad, bad_rows, bad_step, bad_check_of}
use Rattle.model.specs.Verify.{outcome}
use Rattle.model.proofs.Exact.Parts.{end_past}
use Rattle.evidence.specs.Whole.{PartsWhole}
use Rattle.bads.specs.declared.Expected.{Expected}
use Rattle.bads.specs.declared.Expected.TheVariants.{Bads}
use Rattle.bads.specs.Reading.{row_step, wrong_from}
use Rattle.bads.specs.Stacks.{stack, stacks, no_more}
use Rattle.bads.proofs.Reading.{wrong_start, wrong_stop, wrong_go, wrong_none, wrong_end}

module _ (ws : List ℕ) (s : Sizes) where
  -- the first wrong row of all, and of those from row r on where e is expected
  abbrev pub first_bad : Option ℕ
  first_bad = first_wrong_of (bad_step (program ws s)) (bad_rows ws s) (replicate s.bads bad)

  abbrev pub bad_from : Expected → ℕ → Option ℕ
  bad_from e r = wrong_from (bad_step (program ws s)) (bad_rows ws s) (stack e) r

  abbrev answered : Result Unit Verdict
  answered = outcome (bad_check_of ws s (program ws s))

  pub begins : first_bad ≡ bad_from (Bads s.bads) 0
  unfolding stack
  begins = wrong_start (bad_step (program ws s)) (bad_rows ws s) (replicate s.bads bad)

  pub answer_ok : first_bad ≡ none → Ok tt ≡ answered
  unfolding bad_check_of outcome
  answer_ok h = sym (ap (λ x. outcome (map (λ r. Bad (bads_offset s + 2 + r)) x)) h)

  -- the words at which the tags and the numbers begin
  module _ (tags numbers : ℕ) (tags-are : tags ≡ 6 + 2 * s.rows) (numbers-are : numbers ≡ tags + s.badrows) where
    pub rows_held : PartsWhole ws s → (tags + s.badrows ≤ length ws) × (numbers + s.badrows ≤ length ws)
    unfolding tables_offset ceilings_offset weights_offset
    rows_held whole = let w = whole.held in let past = end_past s in (omega arith, omega arith)

    tags_at : tags ≡ bads_offset s + 2
    unfolding bads_offset
    tags_at = omega arith

    pub answer_bad : (r : ℕ) → first_bad ≡ some r → Err (Bad (tags + r)) ≡ answered
    unfolding bad_check_of outcome
    answer_bad r h =
        ap (λ k. Err (Bad (k + r))) tags_at ∙
        sym (ap (λ x. outcome (map (λ r. Bad (bads_offset s + 2 + r)) x)) h)

    -- a turn: row r has tag t and number n, and makes x of what is expected
    module _ (e : Expected) (r t n : ℕ) (x : rust.Option Expected) (more : r < s.badrows) (tag_is : t ≡ get_or (take s.badrows (drop tags ws)) r 0) (num-is : n ≡ get_or (take s.badrows (drop numbers ws)) r 0) (made : stacks x ≡ row_step (bad_step (program ws s)) (stack e) t n) where
      row_made : stacks x ≡ row_step (bad_step (program ws s)) (stack e) (left (bad_rows ws s) r) (right (bad_rows ws s) r)
      unfolding left right columns bad_rows
      row_made =
          let y : t ≡ left (bad_rows ws s) r = tag_is ∙ rw tags_at in
          let z : n ≡ right (bad_rows ws s) r = num-is ∙ rw (numbers-are, tags_at) in
          rw (← y, ← z) made

      pub turn_wrong : first_bad ≡ bad_from e r → x ≡ None → Err (Bad (tags + r)) ≡ answered
      unfolding stacks bad_rows columns
      turn_wrong h z =
          answer_bad r (h ∙ wrong_stop (bad_step (program ws s)) (bad_rows ws s) (stack e) r more (sym row_made ∙ ap stacks z))

      pub turn_next : (e' : Expected) → first_bad ≡ bad_from e r → x ≡ Some e' → first_bad ≡ bad_from e' (r + 1)
      unfolding stacks bad_rows columns
      turn_next e' h z =
          h ∙ wrong_go (bad_step (program ws s)) (bad_rows ws s) (stack e) (stack e') r more (sym row_made ∙ ap stacks z)

    -- behind the last row
    module _ (e : Expected) (r : ℕ) (over : r ≡ s.badrows) (left_over : first_bad ≡ bad_from e r) where
      ended : (items : List Part) → first_bad ≡ wrong_from (bad_step (program ws s)) (bad_rows ws s) items r → (b : Bool) → b ≡ no_more items → (b ≡ true → Ok tt ≡ answered) × (b ≡ false → Err (Bad (tags + r)) ≡ answered)
      unfolding no_more bad_rows columns
      ended [] h b d = (λ z. answer_ok (h ∙ wrong_none (bad_step (program ws s)) (bad_rows ws s) r over), λ z. absurd (true≢false (sym d ∙ z)))
      ended (part ∷ parts) h b d = (λ z. absurd (true≢false (sym z ∙ d)), λ z. answer_bad r (h ∙ wrong_end (bad_step (program ws s)) (bad_rows ws s) part parts r over))

      pub ended_safe : (b : Bool) → b ≡ no_more (stack e) → b ≡ true → Ok tt ≡ answered
      ended_safe b d = (ended (stack e) left_over b d).0

      pub ended_early : (b : Bool) → b ≡ no_more (stack e) → b ≡ false → Err (Bad (tags + r)) ≡ answered
      ended_early b d = (ended (stack e) left_over b d).1
