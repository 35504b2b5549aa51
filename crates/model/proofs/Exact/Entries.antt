-- Refusals 6, 7, 22, 10 and 16: nothing is refused exactly where the bads, the tables, the ceilings and the weights are in form, and where no function is mailed.
use Prim.Native.Nat.{ℕ, zero, suc, ◌+◌, ◌-◌, ◌<◌}
use native.Mathlib.Decide.{ℕ_discrete}
use native.Mathlib.Omega.{arith}
use mathlib.Core.Path.{◌≡◌, sym, subst}
use mathlib.Core.Bool.{Bool, true, false, not, ◌&&◌, ◌||◌}
use mathlib.Core.Logic.Iff
use mathlib.Core.Logic.{◌↔◌, ◌⊎◌, inl, inr, ⊎_elim}
use mathlib.Core.List.{List}
use mathlib.Core.Option.{some, none, map-eq-none_iff}
use lib.ListN.{replicate, get_or}
use lib.Dec.{eqb}
use Rattle.model.specs.declared.Sizes.{Sizes}
use Rattle.model.specs.declared.Verdict.{Verdict}
use Rattle.model.specs.declared.Verdict.TheVariants.{Bad, Ceiling, FunctionMailed, Weights}
use Rattle.model.specs.Words.{Columns, left, right}
use Rattle.model.specs.Message.{bads_offset, tables_offset, ceilings_offset, weights_offset}
use Rattle.model.specs.Keys.{Key, below}
use Rattle.model.specs.Reader.{first_wrong_of}
use Rattle.model.specs.Rows.{Program, tag, is_head_of, is_name, size}
use Rattle.model.specs.Heads.{is_function, is_class_of}
use Rattle.model.specs.Bads.{bad, bad_step, bad_rows, bad_check_of}
use Rattle.model.specs.Tables.{Tables, is_value_of, first_misplaced, list_check, entry_check_of, mailed_check_of}
use Rattle.model.specs.Tables.{state_at, pair_key, state_key, is_return_of, is_pair, is_state}
use Rattle.model.specs.Ceilings.{ceiling_entries, ceiling_step, ceilings_ahead, ceiling_check_of}
use Rattle.model.specs.Weights.{weight_entries, weight_step, lines_ahead, weight_check_of}
use Rattle.model.specs.Demands.{Listed, MailsFunction, MailsNoFunction, Below, LegalPair, PairsListed}
use Rattle.model.specs.Demands.{LegalState, StatesListed}
use Rattle.model.specs.Refusals.{FirstSuch, Placed}
use Rattle.model.proofs.Exact.Tests.{eqb_iff, not_iff, fails_iff, and_iff, or_iff}
use Rattle.model.proofs.Exact.Checks.{then_iff, first_none, first_some}
use Rattle.model.proofs.Keys.{below_iff, below_trans}

module _ (n : ℕ) (in_range : ℕ → Bool) (key : ℕ → Key) where
  -- entry i is above the one before
  abbrev Ascends : ℕ → Type 0
  Ascends i = (i ≡ 0) ⊎ Below (key (i - 1)) (key i)

  -- each above the one before, so each above all before
  all_below : ((i : ℕ) → i < n → Ascends i) → (j i : ℕ) → i < j → j < n → Below (key i) (key j)
  all_below h zero i a b = absurd (omega arith)
  all_below h (suc j) i a b =
      ⊎_elim (λ z. absurd (omega arith))
      (λ z. let d : suc j - 1 ≡ j = omega arith in
      let s : Below (key j) (key (suc j)) = subst (λ k. Below (key k) (key (suc j))) d z in
      elim (ℕ_discrete i j) [
        | yes e ↦ subst (λ k. Below (key k) (key (suc j))) (sym e) s
        | no e ↦ below_trans (key i) (key j) (key (suc j)) (all_below h j i (omega arith) (omega arith)) s
      ])
      (h (suc j) b)

  module _ {In-range : ℕ → Type 0} (ranged : (i : ℕ) → (in_range i ≡ true) ↔ In-range i) where
    pub placed_iff : (i : ℕ) → (not (in_range i && (eqb i 0 || below (key (i - 1)) (key i))) ≡ false) ↔ Placed In-range key i
    placed_iff i =
        Iff.trans (not_iff _)
        (and_iff (in_range i) _ (ranged i) (or_iff (eqb i 0) _ (eqb_iff i 0) (below_iff (key (i - 1)) (key i))))

    pub list_none : (at : ℕ) → (list_check at n in_range key ≡ none) ↔ Listed n In-range key
    unfolding list_check first_misplaced
    list_none at =
        Iff.trans (first_none n _ _ (λ i b. placed_iff i)) (
          λ h. record { in_range = λ i b. (h i b).0; ascending = λ i j. all_below (λ k b. (h k b).1) j i },
          λ l i b. (l.in_range i b, elim (ℕ_discrete i 0) [ yes e ↦ inl e | no e ↦ inr (l.ascending (i - 1) i (omega arith) b) ]),
        )

-- the range of a pair
pub pair_iff : (legal_left legal-right : ℕ → Bool) (c : Columns) (i : ℕ) → (is_pair legal_left legal-right c i ≡ true) ↔ LegalPair legal_left legal-right c i
unfolding is_pair
pair_iff legal_left legal-right c i = and_iff (legal_left (left c i)) (legal-right (right c i)) Iff.rfl Iff.rfl

-- and of a state
pub state_iff : (p : Program) (t : Tables) (i : ℕ) → (is_state p (state_at t i) ≡ true) ↔ LegalState p t i
unfolding is_state is_return_of state_at
state_iff p t i =
    let c : ℕ = left t.states i in
    let r : ℕ = right t.states i in
    let b : ℕ = get_or t.returns i 0 in
    Iff.trans
    (and_iff (is_class_of p c) _ Iff.rfl (and_iff (is_head_of (tag p r)) _ Iff.rfl (or_iff (eqb (tag p b) 4) (eqb b (size p)) (eqb_iff (tag p b) 4) (eqb_iff b (size p))))) (
      λ h. record { class = h.0; head = h.1.0; return = h.1.1 },
      λ h. (h.class, (h.head, h.return)),
    )

pub entry_none : (s : Sizes) (p : Program) (t : Tables) → (entry_check_of s p t ≡ none) ↔ (PairsListed (is_name p) (is_value_of p) t.flow × (PairsListed (is_class_of p) (is_value_of p) t.mail × StatesListed p t))
unfolding entry_check_of pair_key state_key state_at
entry_none s p t =
    then_iff _ _ (list_none t.flow.size _ _ (pair_iff (is_name p) (is_value_of p) t.flow) _)
    (then_iff _ _ (list_none t.mail.size _ _ (pair_iff (is_class_of p) (is_value_of p) t.mail) _) (list_none t.states.size _ _ (state_iff p t) _))

-- 22: the value of a mail entry is a function
pub mails_iff : (p : Program) (t : Tables) (i : ℕ) → (is_function p (right t.mail i) ≡ true) ↔ MailsFunction p t i
unfolding is_function
mails_iff p t i = let a : ℕ = tag p (right t.mail i) in or_iff (eqb a 3) (eqb a 11) (eqb_iff a 3) (eqb_iff a 11)

pub mailed_none : (s : Sizes) (p : Program) (t : Tables) → (mailed_check_of s p t ≡ none) ↔ MailsNoFunction p t
unfolding mailed_check_of
mailed_none s p t = first_none t.mail.size _ _ (λ i b. fails_iff _ (mails_iff p t i))

pub mailed_some : (s : Sizes) (p : Program) (t : Tables) (v : Verdict) → (mailed_check_of s p t ≡ some v) ↔ ((i : ℕ) × FirstSuch t.mail.size (MailsFunction p t) i × (FunctionMailed (tables_offset s + 3 + s.flows + i) ≡ v))
unfolding mailed_check_of
mailed_some s p t v = first_some t.mail.size _ (λ i b. mails_iff p t i) (λ i. FunctionMailed (tables_offset s + 3 + s.flows + i)) v

pub bad_none : (ws : List ℕ) (s : Sizes) (p : Program) → (bad_check_of ws s p ≡ none) ↔ (first_wrong_of (bad_step p) (bad_rows ws s) (replicate s.bads bad) ≡ none)
unfolding bad_check_of
bad_none ws s p = map-eq-none_iff (λ r. Bad (bads_offset s + 2 + r)) (first_wrong_of (bad_step p) (bad_rows ws s) (replicate s.bads bad))

pub ceiling_none : (ws : List ℕ) (s : Sizes) (counters : ℕ) → (ceiling_check_of ws s counters ≡ none) ↔ (first_wrong_of (ceiling_step counters) (ceiling_entries ws s) (ceilings_ahead s.ceilings) ≡ none)
unfolding ceiling_check_of
ceiling_none ws s counters =
    map-eq-none_iff (λ e. Ceiling (ceilings_offset s + 2 + e)) (first_wrong_of (ceiling_step counters) (ceiling_entries ws s) (ceilings_ahead s.ceilings))

pub weight_none : (ws : List ℕ) (s : Sizes) (counters : ℕ) → (weight_check_of ws s counters ≡ none) ↔ (first_wrong_of (weight_step counters) (weight_entries ws s) (lines_ahead s.lines) ≡ none)
unfolding weight_check_of
weight_none ws s counters =
    map-eq-none_iff (λ e. Weights (weights_offset s + 2 + e)) (first_wrong_of (weight_step counters) (weight_entries ws s) (lines_ahead s.lines))
