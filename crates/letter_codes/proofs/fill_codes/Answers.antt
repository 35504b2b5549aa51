use Prim.Native.Nat.{◌+◌}
use native.Mathlib.Omega.{arith}
use mathlib.Core.Path.{◌≡◌, refl, ◌∙◌}
use lib.ListN.{length-set}
use Rattle.model.specs.Tables.{tables}
use Rattle.lists.specs.Lists.{range_from}
use Rattle.lists.proofs.Facts.{mail_usable}
use Rattle.letter_codes.proofs.Filling.{filled_none, filled_room, filled_next, filled_count, filled_starts, filled_codes}
use Rattle.letter_codes.proofs.Filling.{end_told, entry_within, class_entries, first_entry, entries_few}
use Rattle.letter_codes.proofs.fill_codes.Goals as goal

pub loop-c-init : goal.loop-c-init
loop-c-init c = (filled_none _ _ _ _ _, first_entry c.requires.heads_known.ready, refl, refl)

pub overflow_cast-letter_at : goal.overflow_cast-letter_at
overflow_cast-letter_at c = omega (arith, c.loop-c.invariant.0.upto, c.requires.codes_room.few, c.loop-c.invariant.1, entries_few c.requires.heads_known.ready c.loop-c.c)

pub bounds-letter_at-c : goal.bounds-letter_at-c
bounds-letter_at-c c = omega (arith, c.loop-c.invariant.2, c.requires.codes_room.starts)

pub reach-to-requires : goal.reach-to-requires
reach-to-requires c = record {
  held = (mail_usable c.requires.heads_known.ready _ c.mail-list.ensures).0;
  i_le_size = entry_within c.requires.heads_known.ready _ _ _ c.mail-list.ensures c.loop-c.invariant.1;
}

pub add_entries-n-requires : goal.add_entries-n-requires
add_entries-n-requires c =
    let ends_here : c.reach-to.result ≡ range_from (tables c.args.ws.now c.args.s).mail (c.loop-c.c + 1) = end_told c.requires.heads_known.ready _ _ _ _ c.mail-list.ensures c.loop-c.invariant.1 c.reach-to.ensures in
    let (order, upto) = class_entries c.requires.heads_known.ready _ _ _ c.loop-c.invariant.1 ends_here in
    record {
      heads_known = c.requires.heads_known;
      entries_room = record { order = order; upto = upto; room = filled_room c.loop-c.invariant.0 c.requires.codes_room.few (omega (arith, c.loop-c.invariant.3, c.requires.codes_room.numbers)) };
    }

pub loop-c-preserved : goal.loop-c-preserved
loop-c-preserved c =
    let ends_here : c.reach-to.result ≡ range_from (tables c.args.ws.now c.args.s).mail (c.loop-c.c + 1) = end_told c.requires.heads_known.ready _ _ _ _ c.mail-list.ensures c.loop-c.invariant.1 c.reach-to.ensures in
    let to = ends_here in (
      filled_next c.requires.heads_known.ready _ c.loop-c.invariant.1 to c.add_entries-n.ensures c.loop-c.invariant.0 (omega (arith, c.loop-c.invariant.2, c.requires.codes_room.starts)),
      to,
      length-set c.loop-c.letter_at _ _ ∙ c.loop-c.invariant.2,
      c.add_entries-n.ensures.long ∙ c.loop-c.invariant.3,
    )

pub overflow_cast-letter_at-2 : goal.overflow_cast-letter_at-2
overflow_cast-letter_at-2 c = omega (arith, c.loop-c.invariant.0.upto, c.requires.codes_room.few)

pub bounds-letter_at-s : goal.bounds-letter_at-s
bounds-letter_at-s c = omega (arith, c.loop-c.invariant.2, c.requires.codes_room.starts)

pub returns : goal.returns
returns c =
    let filled = c.loop-c.invariant.0 in
    let all : c.loop-c.c ≡ c.args.s.rows + 1 = omega (arith, c.loop-c-test.false) in
    record {
      value = filled_count c.requires.heads_known.ready filled all;
      class_letters = filled_starts c.requires.heads_known.ready filled all (omega (arith, c.loop-c.invariant.2, c.requires.codes_room.starts));
      coded = filled_codes c.requires.heads_known.ready filled all (omega (arith, c.loop-c.invariant.3, c.requires.codes_room.numbers));
    }
