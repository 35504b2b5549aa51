-- The limits of one ceiling, entry by entry.
use Prim.Native.Nat.{ℕ, zero, suc, ◌+◌, ◌<◌}
use native.Mathlib.Decide.{ℕ_discrete}
use native.Mathlib.Omega.{arith}
use mathlib.Core.Path.{◌≡◌, sym, ◌∙◌}
use native.Mathlib.Nat.{le_refl}
use mathlib.Core.Bool.{Bool, true}
use mathlib.Core.List.{[], ◌∷◌}
use borrow.Author.Tests.{le-leb, eq-eqb, ne_eqb}
use Rattle.model.specs.Words.{Columns, left, right}
use Rattle.model.specs.Reader.{past, read}
use Rattle.model.specs.Ceilings.{Ahead, from_counter, ceiling_step, limit_from}
use Rattle.model.proofs.Logic.{test}
use Rattle.model.proofs.Reader.{past_wrong, past_row, read_none, read_end, read_stop, read_go}
use Rattle.model.specs.Weights.{bound_step}
use Rattle.ceilings_form.specs.Bounds.{is_in_bound}
use Rattle.ceilings_form.proofs.Reading.{entry_closes, entry_open, entry_fits, entry_wrong, in_bound_below}

-- no limit is above itself
own : (n : ℕ) (ahead : Ahead) (x limit : ℕ) → ceiling_step n ahead x limit ≡ bound_step n limit ahead x limit
unfolding bound_step
own n ahead x limit = rw (le-leb limit limit (le_refl limit), bound_step)

module _ (n : ℕ) (entries : Columns) where
  -- entry i is one of a ceiling that goes on
  abbrev pub goes_on : ℕ → ℕ → Bool
  goes_on i least = is_in_bound n (right entries i) least (left entries i) (right entries i)

  -- a ceiling is open at entry i, of m that are left; its counters are not below `least`, and it ends before entry q
  abbrev pub Open : ℕ → ℕ → ℕ → ℕ → Type 0
  Open m i least q = read (ceiling_step n) entries m (from_counter least ∷ []) i ≡ past q

  -- an entry that goes on: it is one of the ceiling, which stays open behind it
  pub open_next : (m i least q : ℕ) → Open (suc m) i least q → (left entries i ≡ n → ⊥) → (goes_on i least ≡ true) × Open m (i + 1) (left entries i + 1) q
  open_next m i least q h x =
      test (goes_on i least)
      (λ t. (t, sym (read_go (ceiling_step n) entries m i (from_counter least) [] _ (own n (from_counter least) _ _ ∙ entry_fits n (right entries i) least _ _ x t)) ∙ h))
      (λ f. past_wrong q i (sym h ∙ read_stop (ceiling_step n) entries m i (from_counter least) [] (own n (from_counter least) _ _ ∙ entry_wrong n (right entries i) least _ _ x f)))

  -- an entry that closes the ceiling is its last
  pub open_end : (m i least q : ℕ) → Open (suc m) i least q → left entries i ≡ n → q ≡ i + 1
  open_end m i least q h x = elim (ℕ_discrete (right entries i) 0) [
    | yes z ↦ sym (past_row (i + 1) q (sym (read_go (ceiling_step n) entries m i (from_counter least) [] [] (own n (from_counter least) _ _ ∙ entry_closes n (right entries i) least _ _ x z) ∙ read_none (ceiling_step n) entries m (i + 1)) ∙ h))
    | no z ↦ past_wrong q i (sym h ∙ read_stop (ceiling_step n) entries m i (from_counter least) [] (own n (from_counter least) _ _ ∙ entry_open n (right entries i) least _ _ x z))
  ]

  -- the limit of counter x, by the entry that stands next
  pub limit_end : (m i x : ℕ) → left entries i ≡ n → limit_from n entries (suc m) i x ≡ 0
  unfolding limit_from
  limit_end m i x h = rw (eq-eqb _ _ h, limit_from)

  pub limit_here : (m i x : ℕ) → (left entries i ≡ n → ⊥) → left entries i ≡ x → limit_from n entries (suc m) i x ≡ right entries i
  unfolding limit_from
  limit_here m i x h e = rw (ne_eqb _ _ h, limit_from) (rw (eq-eqb (left entries i) x e))

  pub limit_skip : (m i x : ℕ) → (left entries i ≡ n → ⊥) → (left entries i ≡ x → ⊥) → limit_from n entries (suc m) i x ≡ limit_from n entries m (i + 1) x
  unfolding limit_from
  limit_skip m i x h e = rw (ne_eqb _ _ h, limit_from) (rw (ne_eqb (left entries i) x e))

  -- no counter below the least has a limit to come
  pub limit_below : (m i least q x : ℕ) → Open m i least q → x < least → limit_from n entries m i x ≡ 0
  limit_below zero i least q x h b = past_wrong q i (sym h ∙ read_end (ceiling_step n) entries (from_counter least) [] i)
  limit_below (suc m) i least q x h b = elim (ℕ_discrete (left entries i) n) [
    | yes e ↦ limit_end m i x e
    | no e ↦
        let (t, next) = open_next m i least q h e in
        let (low, below, from_one, most) = in_bound_below n (right entries i) least _ _ t in
        limit_skip m i x e (λ z. omega arith) ∙ limit_below m (i + 1) (left entries i + 1) q x next (omega arith)
  ]
