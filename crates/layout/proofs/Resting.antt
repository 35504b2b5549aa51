-- The rest of a head that binds is read, and the code's rest is the model's.
use Prim.Native.Nat.{ℕ, ◌+◌, ◌≤◌, ◌<◌}
use native.Mathlib.Decide.{dec_lt}
use native.Mathlib.Omega.{arith}
use mathlib.Core.Path.{◌≡◌, sym, ◌∙◌, ap}
use mathlib.Core.List.{List, [], ◌∷◌}
use mathlib.Core.Option.{none}
use Rattle.model.specs.declared.Sizes.{Sizes}
use Rattle.model.specs.Reader.{past}
use Rattle.model.specs.Rows.{program, size, tag, num, kind, expression, lead, past_items, row_check_of}
use Rattle.model.specs.Scopes.{rest}
use Rattle.model.proofs.Heads.{head_between}
use Rattle.program.specs.Rows.{from}
use Rattle.program.proofs.Reading.{from_none}
use Rattle.program.proofs.Items.{bound_says, lead_none}
use Rattle.layout.specs.Tables.{RestAt}
use Rattle.layout.proofs.Visits.{past_is, parted, head_read}
use Rattle.layout.proofs.Ending.{opened_by}

module _ (ws : List ℕ) (s : Sizes) where
  -- what stands between a head that binds and its rest is read, and so is the rest
  pub record Rested (r : ℕ) : Type 0 where
    pub at : ℕ
    pub end : ℕ
    pub leads : from (program ws s) (lead (kind (tag (program ws s) r))) (r + 1) ≡ past at
    pub rests : from (program ws s) (expression ∷ []) at ≡ past end

  pub rested : (r : ℕ) → row_check_of (program ws s) ≡ none → r < size (program ws s) → 2 ≤ tag (program ws s) r → tag (program ws s) r ≤ 7 → Rested r
  rested r h a lo hi =
      let p = program ws s in
      let (q, k) = head_read p r h a (head_between (tag p r) (omega arith) (omega arith)) in
      let o = opened_by p expression _ _ r q (bound_says ws s (tag p r) (num p r) lo hi) k in
      let w = parted p (lead (kind (tag p r))) (expression ∷ []) (r + 1) q o.1 in
      record { at = w.at; end = q; leads = w.first; rests = w.second }

  -- the code's rest is the model's
  pub rest_is : (r x : ℕ) → row_check_of (program ws s) ≡ none → r < size (program ws s) → RestAt (program ws s) r x → x ≡ rest (program ws s) r
  unfolding rest
  rest_is r x h a m =
      let p = program ws s in
      let by : (q : ℕ) → from p (lead (kind (tag p r))) (r + 1) ≡ past q → x ≡ past_items p (lead (kind (tag p r))) (r + 1)
      = λ q k. m.rests q k ∙ sym (past_is p (lead (kind (tag p r))) (r + 1) q k) in
      elim (dec_lt 1 (tag p r)) [
        | yes lo ↦ elim (dec_lt (tag p r) 8) [
          | yes hi ↦ let w = rested r h a lo (omega arith) in by w.at w.leads
          | no hi ↦ by (r + 1) (none_leads r (omega arith) (omega arith) (omega arith) (omega arith) (omega arith))
        ]
        | no lo ↦ by (r + 1) (none_leads r (omega arith) (omega arith) (omega arith) (omega arith) (omega arith))
      ]
    where
      none_leads : (r : ℕ) → (tag (program ws s) r ≡ 2 → ⊥) → (tag (program ws s) r ≡ 3 → ⊥) → (tag (program ws s) r ≡ 4 → ⊥) → (tag (program ws s) r ≡ 5 → ⊥) → (tag (program ws s) r ≡ 6 → ⊥) → from (program ws s) (lead (kind (tag (program ws s) r))) (r + 1) ≡ past (r + 1)
      none_leads r a b c d e = ap (λ l. from (program ws s) l (r + 1)) (lead_none (tag (program ws s) r) a b c d e) ∙ from_none (program ws s) (r + 1)
