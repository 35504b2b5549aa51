-- From what the stages hand on to what the code finds of the message.
use Prim.Native.Nat.{ℕ}
use mathlib.Core.Path.{◌≡◌, refl, sym, ap, subst, ◌∙◌}
use mathlib.Core.Bool.{Bool, true, false}
use mathlib.Core.List.{List}
use mathlib.Core.Option.{some, none}
use Rattle.std.specs.Prelude.{IfOk}
use Rattle.std.proofs.Common.{Result, Ok, Err}
use lib.Dec.{eqb}
use borrow.Author.Tests.{eq-eqb, ne_eqb}
use Rattle.model.specs.Limits.{present}
use Rattle.model.specs.declared.Sizes.{Sizes}
use Rattle.model.specs.declared.Verdict.{Verdict}
use Rattle.model.specs.Verdict.{Check, ◌>>◌}
use Rattle.model.specs.Rows.{program}
use Rattle.model.specs.Tables.{tables}
use Rattle.model.specs.Counters.{counter_count}
use Rattle.model.specs.Verify.{program_check, evidence_check, ceilings_check, weights_check, bounds_check, message_check, outcome, judged}
use Rattle.model.proofs.Logic.{chosen_true, chosen_false}
use Rattle.model.proofs.Outcome.{nothing_found, stops_at}
use Rattle.system_space.specs.Space.{words_after}
use Rattle.mailed.specs.Mailed.{mailed_then_counters}
use Rattle.stages.specs.Order.{taken, below_ceilings, below_weights, form_check, below_bounds, from_3, from_4, from_5, from_6, from_7, from_8, from_22, from_10, from_11}

-- the checks in the order in which the code takes them
assoc : (a b c : Check) → (a >> b) >> c ≡ a >> (b >> c)
unfolding ◌>>◌
assoc none b c = refl
assoc (some v) b c = refl

three : (a b c r : Check) → (a >> (b >> c)) >> r ≡ a >> (b >> (c >> r))
three a b c r = assoc a (b >> c) r ∙ ap (λ x. a >> x) (assoc b c r)

four : (a b c d r : Check) → (a >> (b >> (c >> d))) >> r ≡ a >> (b >> (c >> (d >> r)))
four a b c d r = assoc a (b >> (c >> d)) r ∙ ap (λ x. a >> x) (three b c d r)

-- the ceilings, or the weights in their place
one_or_other : (here : Bool) (a b c d e f g r : Check) → (◌>>◌ (elim here [ true ↦ a >> (b >> (c >> d)) | false ↦ e >> (f >> g) ]) r) ≡ (◌>>◌ (elim here [ true ↦ a | false ↦ e ]) (elim here [ true ↦ b >> (c >> (d >> r)) | false ↦ f >> (g >> r) ]))
one_or_other true a b c d e f g r = four a b c d r
one_or_other false a b c d e f g r = three e f g r

one_by_one : (a b c d e f g r t : Check) → r ≡ t → (a >> (b >> c)) >> ((d >> (e >> (f >> g))) >> r) ≡ a >> (b >> (c >> (d >> (e >> (f >> (g >> t))))))
one_by_one a b c d e f g r t h =
    three a b c _ ∙ ap (λ x. a >> (b >> (c >> x))) (four d e f g _ ∙ ap (λ x. d >> (e >> (f >> (g >> x)))) h)

pub in_order : (ws : List ℕ) (s : Sizes) (n : ℕ) → message_check present (taken ws s) n ≡ from_3 ws s n
unfolding message_check taken program_check evidence_check bounds_check ceilings_check weights_check mailed_then_counters form_check below_bounds below_ceilings below_weights from_3 from_4 from_5 from_6 from_7 from_8 from_22 from_10 from_11
in_order ws s n = one_by_one _ _ _ _ _ _ _ _ _ (one_or_other (eqb s.lines 0) _ _ _ _ _ _ _ _)

-- a check that finds nothing leaves those behind it
pub goes_by : (m c r : Check) → m ≡ c >> r → c ≡ none → m ≡ r
unfolding ◌>>◌
goes_by m c r e h = e ∙ ap (λ x. x >> r) h

-- a check that the code has gone past
pub goes_past : (m c r : Check) (q : Result Unit Verdict) → m ≡ c >> r → q ≡ outcome c → q ≡ Ok tt → m ≡ r
goes_past m c r q z e h = goes_by m c r z (nothing_found c q e h)

-- what is so of the ceilings, or of the weights, is so of the bounds of a message
module _ (lines : ℕ) (f g : Check) (r : Result Unit Verdict) where
  pub by_ceilings : lines ≡ 0 → r ≡ outcome f → r ≡ outcome (elim (eqb lines 0) [ true ↦ f | false ↦ g ])
  by_ceilings e h = h ∙ sym (ap outcome (chosen_true _ f g (eq-eqb lines 0 e)))

  pub by_weights : (lines ≡ 0 → ⊥) → r ≡ outcome g → r ≡ outcome (elim (eqb lines 0) [ true ↦ f | false ↦ g ])
  by_weights e h = h ∙ sym (ap outcome (chosen_false _ f g (ne_eqb lines 0 e)))

-- what the code finds of the n counters that it has counted is what the model says of the message
module _ (ws : List ℕ) (s : Sizes) (n : ℕ) (r : Result Unit Verdict) where
  told : (f : ℕ → Check) → r ≡ outcome (f n) → n ≡ counter_count (program ws s) (tables ws s) → r ≡ outcome (f (counter_count (program ws s) (tables ws s)))
  told f h e = h ∙ ap (λ k. outcome (f k)) e

  pub form_told : r ≡ outcome (form_check ws s n) → n ≡ counter_count (program ws s) (tables ws s) → r ≡ outcome (form_check ws s (counter_count (program ws s) (tables ws s)))
  form_told = told (form_check ws s)

  pub below_told : (lent : ℕ) → r ≡ outcome (below_bounds ws s n lent) → n ≡ counter_count (program ws s) (tables ws s) → r ≡ outcome (from_11 ws s lent)
  unfolding from_11
  below_told lent = told (λ k. below_bounds ws s k lent)

-- a refusal ends the checks, and the lent words stay
pub ends_at : (m c r : Check) (q out : Result Unit Verdict) (v : Verdict) (ws : List ℕ) (s : Sizes) (lent : List ℕ) → m ≡ c >> r → q ≡ outcome c → q ≡ Err v → out ≡ Err v → (out ≡ outcome m) × (lent ≡ words_after out ws s lent)
unfolding words_after
ends_at m c r q out v ws s lent z e t h = (h ∙ stops_at c r q v e t ∙ sym (ap outcome z), rw h)

-- a result that carries a value, with the value left out
module _ {A : Type 0} (q : Result A Verdict) where
  pub judged_ok : (x : A) → q ≡ Ok x → judged q ≡ Ok tt
  unfolding judged
  judged_ok x h = rw h

  pub judged_err : (v : Verdict) → q ≡ Err v → judged q ≡ Err v
  unfolding judged
  judged_err v h = rw h

  pub holds_of : (P : A → Type 0) (x : A) → q ≡ Ok x → IfOk q P → P x
  holds_of P x h k = subst (λ r. IfOk r P) h k
