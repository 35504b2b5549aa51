use native.Mathlib.Omega.{arith}
use mathlib.Core.Path.{◌≡◌, sym, ap, ◌∙◌}
use borrow.Author.Rules.{rules}
use Rattle.std.proofs.Common.{Err}
use lib.ListN.{length}
use Rattle.model.specs.Verify.{outcome}
use Rattle.model.proofs.Exact.Entries.{bad_none}
use Rattle.model.proofs.Outcome.{nothing_found}
use Rattle.rooms.specs.Rooms.{rule_words}
use Rattle.stages.specs.Order.{from_3, from_4, from_5, from_6, from_7, from_8}
use Rattle.stages.proofs.Answering.{in_order, ends_at}
use Rattle.checks.proofs.Going.{goes_4, goes_5, goes_6, goes_7, goes_8, goes_22}
use Rattle.checks.proofs.Laying.{program_passes, ready, ceilings_whole, closed_tables}
use Rattle.checks.proofs.order.words_verdict.Goals as goal

pub returns-in_err-row_check : goal.returns-in_err-row_check
unfolding from_3
returns-in_err-row_check c =
    let a = c.args in
    let v = c.in_err-row_check.field-0.0 in
    let told : c.from_residual.result ≡ Err v = search rules in
    let z = ends_at _ _ _ _ _ v a.ws.now a.s a.lent.now (in_order a.ws.now a.s (length a.lent.now)) c.row_check.ensures c.in_err-row_check.was told in
    record { value = z.0; lent_after = z.1 }

pub name_check-requires : goal.name_check-requires
name_check-requires c =
    let r = nothing_found _ _ c.row_check.ensures c.in_ok-row_check.was in
    record {
      fitted = record { whole = c.requires.parts_whole.program; fits = r };
      names_in_bounds = omega (arith, c.requires.parts_whole.limits.names.1, c.words16-binders.ensures.room);
    }

pub returns-in_err-name_check : goal.returns-in_err-name_check
unfolding from_4
returns-in_err-name_check c =
    let a = c.args in
    let v = c.in_err-name_check.field-0.0 in
    let told : c.from_residual-in_err-name_check.result ≡ Err v = search rules in
    let r = nothing_found _ _ c.row_check.ensures c.in_ok-row_check.was in
    let z = ends_at _ _ _ _ _ v a.ws.now a.s a.lent.now (goes_4 a.ws.now a.s (length a.lent.now) r) c.name_check.ensures.value c.in_err-name_check.was told in
    record { value = z.0; lent_after = z.1 }

pub fill_ends-requires : goal.fill_ends-requires
fill_ends-requires c = record { whole = c.requires.parts_whole.program; rows_in_bounds = omega (arith, c.requires.parts_whole.limits.rows.1, c.rule_words16-narrow.ensures.room) }

pub scope_check-requires : goal.scope_check-requires
scope_check-requires c =
    let r = nothing_found _ _ c.row_check.ensures c.in_ok-row_check.was in
    record { fitted = record { whole = c.requires.parts_whole.program; fits = r }; ends = (c.fill_ends.ensures, c.name_check.ensures.binder_table) }

pub returns-in_err-scope_check : goal.returns-in_err-scope_check
unfolding from_5
returns-in_err-scope_check c =
    let a = c.args in
    let v = c.in_err-scope_check.field-0.0 in
    let told : c.from_residual-in_err-scope_check.result ≡ Err v = search rules in
    let r = nothing_found _ _ c.row_check.ensures c.in_ok-row_check.was in
    let u = nothing_found _ _ c.name_check.ensures.value c.in_ok-name_check.was in
    let z = ends_at _ _ _ _ _ v a.ws.now a.s a.lent.now (goes_5 a.ws.now a.s (length a.lent.now) r u) c.scope_check.ensures c.in_err-scope_check.was told in
    record { value = z.0; lent_after = z.1 }

pub returns-in_err-bad_check : goal.returns-in_err-bad_check
unfolding from_6
returns-in_err-bad_check c =
    let a = c.args in
    let v = c.in_err-bad_check.field-0.0 in
    let told : c.from_residual-in_err-bad_check.result ≡ Err v = search rules in
    let r = nothing_found _ _ c.row_check.ensures c.in_ok-row_check.was in
    let u = nothing_found _ _ c.name_check.ensures.value c.in_ok-name_check.was in
    let h = nothing_found _ _ c.scope_check.ensures c.in_ok-scope_check.was in
    let z = ends_at _ _ _ _ _ v a.ws.now a.s a.lent.now (goes_6 a.ws.now a.s (length a.lent.now) r u h) c.bad_check.ensures c.in_err-bad_check.was told in
    record { value = z.0; lent_after = z.1 }

pub returns-in_err-entry_check : goal.returns-in_err-entry_check
unfolding from_7
returns-in_err-entry_check c =
    let a = c.args in
    let v = c.in_err-entry_check.field-0.0 in
    let told : c.from_residual-in_err-entry_check.result ≡ Err v = search rules in
    let r = nothing_found _ _ c.row_check.ensures c.in_ok-row_check.was in
    let u = nothing_found _ _ c.name_check.ensures.value c.in_ok-name_check.was in
    let h = nothing_found _ _ c.scope_check.ensures c.in_ok-scope_check.was in
    let b = nothing_found _ _ c.bad_check.ensures c.in_ok-bad_check.was in
    let z = ends_at _ _ _ _ _ v a.ws.now a.s a.lent.now (goes_7 a.ws.now a.s (length a.lent.now) r u h b) c.entry_check.ensures c.in_err-entry_check.was told in
    record { value = z.0; lent_after = z.1 }

pub open_verdict-requires : goal.open_verdict-requires
open_verdict-requires c =
    let r = nothing_found _ _ c.row_check.ensures c.in_ok-row_check.was in
    let u = nothing_found _ _ c.name_check.ensures.value c.in_ok-name_check.was in
    let h = nothing_found _ _ c.scope_check.ensures c.in_ok-scope_check.was in
    let e = nothing_found _ _ c.entry_check.ensures c.in_ok-entry_check.was in
    let l = c.requires.parts_whole.limits in
    record {
      le_most = omega arith;
      openable = record {
        ready = ready _ _ c.requires.parts_whole (program_passes _ r u h) e;
        layout = c.fill_ends.ensures;
        unfitted = c.requires.unfitted;
        names = omega (arith, l.names.1, c.row_words16-starts.ensures.room);
        states = omega (arith, l.states, c.row_words16-branches.ensures.room);
      };
    }

pub returns-in_err-open_verdict : goal.returns-in_err-open_verdict
unfolding from_8
returns-in_err-open_verdict c =
    let a = c.args in
    let v = c.in_err-open_verdict.field-0.0 in
    let told : c.from_residual-in_err-open_verdict.result ≡ Err v = search rules in
    let r = nothing_found _ _ c.row_check.ensures c.in_ok-row_check.was in
    let u = nothing_found _ _ c.name_check.ensures.value c.in_ok-name_check.was in
    let h = nothing_found _ _ c.scope_check.ensures c.in_ok-scope_check.was in
    let b = nothing_found _ _ c.bad_check.ensures c.in_ok-bad_check.was in
    let e = nothing_found _ _ c.entry_check.ensures c.in_ok-entry_check.was in
    let z = ends_at _ _ _ _ _ v a.ws.now a.s a.lent.now (goes_8 a.ws.now a.s (length a.lent.now) r u h b e) c.open_verdict.ensures.says c.in_err-open_verdict.was told in
    record { value = z.0; lent_after = z.1 }

pub join_tables-requires : goal.join_tables-requires
join_tables-requires c =
    let l = c.requires.parts_whole.limits in
    let k = c.open_verdict.auto in
    record {
      within_limits = l;
      names_in_bounds = (omega (arith, l.names.1, k.starts, c.row_words16-starts.ensures.room), omega (arith, l.states, k.branches, c.row_words16-branches.ensures.room));
      letter_from_in_bounds = omega (arith, c.fill_ends.auto.afters, c.rule_words16-narrow.ensures.room);
    }

pub system_verdict-requires : goal.system_verdict-requires
system_verdict-requires c =
    let r = nothing_found _ _ c.row_check.ensures c.in_ok-row_check.was in
    let u = nothing_found _ _ c.name_check.ensures.value c.in_ok-name_check.was in
    let h = nothing_found _ _ c.scope_check.ensures c.in_ok-scope_check.was in
    let b = nothing_found _ _ c.bad_check.ensures c.in_ok-bad_check.was in
    let e = nothing_found _ _ c.entry_check.ensures c.in_ok-entry_check.was in
    let o = nothing_found _ _ c.open_verdict.ensures.says c.in_ok-open_verdict.was in
    let long : length c.fill_ends.new.afters ≡ rule_words = c.fill_ends.auto.afters ∙ c.rule_words16-narrow.ensures.room in
    let found = c.open_verdict.ensures in
    let is = c.in_ok-open_verdict.was in
    closed_tables _ _ _ _ _ _ _ (ready _ _ c.requires.parts_whole (program_passes _ r u h) e) (ceilings_whole _ _ c.requires.parts_whole) ((bad_none _ _ _).0 b) o long c.fill_ends.ensures (found.begins is) (found.fits is) (found.bits is) c.join_tables.ensures

pub returns : goal.returns
returns c =
    let a = c.args in
    let r = nothing_found _ _ c.row_check.ensures c.in_ok-row_check.was in
    let u = nothing_found _ _ c.name_check.ensures.value c.in_ok-name_check.was in
    let h = nothing_found _ _ c.scope_check.ensures c.in_ok-scope_check.was in
    let b = nothing_found _ _ c.bad_check.ensures c.in_ok-bad_check.was in
    let e = nothing_found _ _ c.entry_check.ensures c.in_ok-entry_check.was in
    let o = nothing_found _ _ c.open_verdict.ensures.says c.in_ok-open_verdict.was in
    record {
      value = c.system_verdict.ensures.value ∙ sym (ap outcome (goes_22 a.ws.now a.s (length a.lent.now) r u h b e o));
      lent_after = c.system_verdict.ensures.lent_after;
    }
