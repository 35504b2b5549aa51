use mathlib.Core.Path.{◌≡◌, refl, sym, ◌∙◌}
use mathlib.Core.List.{[], ◌∷◌}
use lib.ListN.{replicate}
use Rattle.std.proofs.Common.{rules, Ok, Err}
use Rattle.model.specs.Rows.{operand, arguments}
use Rattle.program.specs.Rows.{listed, listed_item, counted_items}
use Rattle.program.proofs.Reading.{handed_on, then_past, then_wrong, past_upto}
use Rattle.program.proofs.readers.call_parts.Goals as goal

pub names-requires : goal.names-requires
unfolding listed
names-requires c = record { whole = search rules; r_le_rows = (search rules, refl) }

pub counted-requires : goal.counted-requires
unfolding listed
counted-requires c =
    let past : c.names.result ≡ Ok c.in_ok-count.count = search rules in
    record {
      whole = search rules;
      r_le_rows = ((past_upto _ _ (replicate 1 (listed_item 21)) _ _ _ (search rules) c.names.ensures past).1, refl);
    }

pub returns-in_err-count : goal.returns-in_err-count
unfolding listed_item
returns-in_err-count c =
    let wrong : c.names.result ≡ Err c.in_err-count.field-0.0 = search rules in
    handed_on _ _ (search rules) (then_wrong _ (operand ∷ []) (arguments ∷ []) _ _ _ c.names.ensures wrong)

pub returns : goal.returns
unfolding listed_item counted_items
returns c =
    let past : c.names.result ≡ Ok c.in_ok-count.count = search rules in
    c.counted.ensures ∙
    sym (then_past _ (operand ∷ []) (arguments ∷ []) _ _ _ c.names.ensures past)
