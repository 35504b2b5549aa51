use native.Mathlib.Omega.{arith}
use mathlib.Core.Path.{◌≡◌, refl, sym, ap, ◌∙◌}
use borrow.Author.Rules.{rules}
use Rattle.std.proofs.Common.{Err}
use Rattle.model.specs.Verify.{outcome}
use Rattle.model.proofs.Outcome.{nothing_found}
use Rattle.letter_codes.proofs.Capped.{capped_most}
use Rattle.mailed.proofs.Mailing.{counters_fit}
use Rattle.stages.specs.Order.{from_22, from_10}
use Rattle.stages.proofs.Answering.{goes_by, ends_at, form_told}
use Rattle.checks.proofs.Laying.{all_counted, letters_fit, closed_kept, letters_kept}
use Rattle.checks.proofs.system.named_verdict.Goals as goal

pub fill_names-requires : goal.fill_names-requires
fill_names-requires c = record { ready = c.requires.closed_tables.ready; names_in_bounds = c.requires.names_in_bounds }

pub slice_bounds-fill_codes-start : goal.slice_bounds-fill_codes-start
slice_bounds-fill_codes-start c = let l = c.requires.closed_tables.room in search rules

pub slice_bounds-fill_codes-count : goal.slice_bounds-fill_codes-count
slice_bounds-fill_codes-count c = omega (arith, c.requires.closed_tables.room)

pub fill_codes-l-requires : goal.fill_codes-l-requires
fill_codes-l-requires c =
    let k = c.requires.closed_tables in
    record {
      heads_known = record { ready = k.ready; name_heads = c.fill_names.ensures };
      codes_room = record { few = omega arith; starts = letters_fit _ _ _ _ k; numbers = omega (arith, c.letter_codes-codes.ensures.room) };
    }

pub counters_verdict-requires : goal.counters_verdict-requires
counters_verdict-requires c = record { ready = c.requires.closed_tables.ready; n_value = c.fill_codes-l.ensures.value }

pub returns-in_err-counters_verdict : goal.returns-in_err-counters_verdict
unfolding from_22
returns-in_err-counters_verdict c =
    let v = c.in_err-counters_verdict.field-0.0 in
    let told : c.from_residual.result ≡ Err v = search rules in
    let z = ends_at _ _ _ _ _ v _ _ _ refl c.counters_verdict.ensures c.in_err-counters_verdict.was told in record { value = z.0; lent_after = z.1 }

pub overflow_add-n : goal.overflow_add-n
overflow_add-n c = record { fits = omega (arith, capped_most _ _ _ c.fill_codes-l.ensures.value, c.requires.closed_tables.ready.limits.states) }

pub form_verdict-requires : goal.form_verdict-requires
form_verdict-requires c =
    let both = nothing_found _ _ c.counters_verdict.ensures c.in_ok-counters_verdict.was in
    let all = all_counted _ _ _ c.fill_codes-l.ensures.value (counters_fit _ _ _ both) in
    record { whole = c.requires.closed_tables.whole; n_le_max_counters = omega (arith, all.1) }

pub returns-in_err-form_verdict : goal.returns-in_err-form_verdict
unfolding from_22 from_10
returns-in_err-form_verdict c =
    let v = c.in_err-form_verdict.field-0.0 in
    let told : c.from_residual-in_err-form_verdict.result ≡ Err v = search rules in
    let both = nothing_found _ _ c.counters_verdict.ensures c.in_ok-counters_verdict.was in
    let all = all_counted _ _ _ c.fill_codes-l.ensures.value (counters_fit _ _ _ both) in
    let z = ends_at _ _ _ _ _ v _ _ _ (goes_by _ _ _ refl both) (form_told _ _ _ _ c.form_verdict.ensures all.0) c.in_err-form_verdict.was told in record { value = z.0; lent_after = z.1 }

pub sets_verdict-requires : goal.sets_verdict-requires
sets_verdict-requires c =
    let k = c.requires.closed_tables in
    let both = nothing_found _ _ c.counters_verdict.ensures c.in_ok-counters_verdict.was in
    let all = all_counted _ _ _ c.fill_codes-l.ensures.value (counters_fit _ _ _ both) in
    record {
      le_most = omega arith;
      lettered = record {
        closed_tables = closed_kept _ _ _ _ c.fill_codes-l.new.letter_at k c.fill_codes-l.auto.letter_at;
        name_heads = c.fill_names.ensures;
        class_letters = letters_kept _ _ _ _ c.fill_codes-l.new.letter_at k (c.fill_codes-l.ensures.class_letters (omega (arith, all.1)));
        coded = c.fill_codes-l.ensures.coded (omega (arith, all.1));
        formed = record { counted = all.0; in_form = nothing_found _ _ c.form_verdict.ensures c.in_ok-form_verdict.was; bads = k.bads };
        few = all.1;
      };
    }

pub returns : goal.returns
unfolding from_22 from_10
returns c =
    let both = nothing_found _ _ c.counters_verdict.ensures c.in_ok-counters_verdict.was in
    let all = all_counted _ _ _ c.fill_codes-l.ensures.value (counters_fit _ _ _ both) in
    let form = nothing_found _ _ (form_told _ _ _ _ c.form_verdict.ensures all.0) c.in_ok-form_verdict.was in
    record { value = c.sets_verdict.ensures.value ∙ sym (ap outcome (goes_by _ _ _ (goes_by _ _ _ refl both) form)); lent_after = c.sets_verdict.ensures.lent_after }
