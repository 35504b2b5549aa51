use mathlib.Core.Bool.{not}
use mathlib.Core.Path.{ap}
use mathlib.Core.Path.{sym, ◌∙◌}
use Rattle.model.specs.Rows.{send}
use Rattle.rules.specs.Derived.{SentTo}
use Rattle.rules.proofs.Adding.{added_same, added_nothing}
use Rattle.lettered_rules.proofs.Letters.{letter_room, before_room}
use Rattle.lettered_rules.proofs.Unasked.{class_wide, sent_unasked}
use Rattle.lettered_rules.proofs.Turns.{sent_asked, sent_skipped}
use borrow.Author.Rules.{rules}
use Rattle.lettered_rules.proofs.sent_rules.Goals as goal

pub returns-then-not-is_class : goal.returns-then-not-is_class
returns-then-not-is_class c = record {
  by_index = λ f o. added_same send _ _ _ _ _ _ _ _ (added_nothing send _ _ _ (before_room c.requires.sent_tables.letter_tables c.requires.class_room).0) (λ i. sym (sent_skipped _ _ f _ _ _ _ c.is_class.ensures (ap not c.if-not-is_class.true) i));
  d_bound = (before_room c.requires.sent_tables.letter_tables c.requires.class_room).1;
}

pub asks_class-requires : goal.asks_class-requires
asks_class-requires c =
    let z = class_wide c.requires.sent_tables.letter_tables.ready _ c.requires.sent_tables.letter_tables.class_letters _ c.requires.class_room.value _ c.letter_width-words.ensures _ c.requires.class_room.within_row in record { d_in_bounds = z.0; d_bound = z.1.0; row = z.1.1 }

pub returns-then-not-asks_class : goal.returns-then-not-asks_class
returns-then-not-asks_class c =
    let mailed-here : SentTo c.args.ws.now c.args.s c.args.m c.args.d = c.requires.sent_to (sym c.is_class.ensures ∙ c.if-not-is_class.false) in
    record {
      by_index = λ f o. added_same send _ _ _ _ _ _ _ _ (added_nothing send _ _ _ (before_room c.requires.sent_tables.letter_tables c.requires.class_room).0) (λ i. sym (sent_unasked c.requires.sent_tables.letter_tables.ready _ _ _ _ c.is_class.ensures f _ c.requires.sent_tables.letter_tables.class_letters _ _ _ c.letter_width-words.ensures o mailed-here.mailed (ap not c.if-not-is_class.false) c.asks_class.ensures (ap not c.if-not-asks_class.true) i));
      d_bound = (before_room c.requires.sent_tables.letter_tables c.requires.class_room).1;
    }

pub sent_letters-requires : goal.sent_letters-requires
sent_letters-requires c =
    let mailed-here : SentTo c.args.ws.now c.args.s c.args.m c.args.d = c.requires.sent_to (sym c.is_class.ensures ∙ c.if-not-is_class.false) in record { sent_tables = c.requires.sent_tables; sent_to = mailed-here; row = c.requires.class_room.found_row }

pub class_rules-requires : goal.class_rules-requires
class_rules-requires c =
    let z = letter_room c.requires.sent_tables.letter_tables.ready _ _ _ _ _ _ _ _ _ c.requires.sent_tables.letter_tables c.requires.class_room _ c.letter_width-words.ensures _ _ (search rules) (search rules) in record { letter_room = z.0; row = z.1 }

pub returns : goal.returns
returns c =
    let mailed-here : SentTo c.args.ws.now c.args.s c.args.m c.args.d = c.requires.sent_to (sym c.is_class.ensures ∙ c.if-not-is_class.false) in
    record {
      by_index = λ f o. added_same send _ _ _ _ _ _ _ _ (c.class_rules.ensures.added send) (sent_asked _ _ c.requires.sent_tables.letter_tables _ c.letter_width-words.ensures _ _ f o _ _ c.requires.class_room.value _ _ c.is_class.ensures (ap not c.if-not-is_class.false) mailed-here.mailed c.sent_letters.ensures);
      d_bound = c.class_rules.ensures.d_bound;
    }
