use Prim.Native.Nat.{◌+◌, ◌-◌, ◌<◌}
use native.Mathlib.Omega.{arith}
use mathlib.Core.Path.{◌≡◌, sym, ◌∙◌}
use lib.ListN.{length}
use Rattle.model.specs.Rows.{program}
use Rattle.model.specs.Tables.{tables}
use Rattle.model.specs.Bads.{bad_rows}
use Rattle.system_letters.proofs.Tables.{last_inside}
use Rattle.system_items.specs.Stretches.{is_named_of}
use Rattle.system_items.proofs.Letters.{class_span, rows_few, named_span}
use Rattle.system_items.proofs.Stretching.{none_yet, passes_not, passes_first, passes_more}
use borrow.Author.Rules.{rules}
use Rattle.system_items.proofs.letters_named.Goals as goal
use Rattle.system_items.proofs.letters_named.Goals.{then-is_named, then-first-end, else-first-end, else-is_named}

pub letter_width-w-requires : goal.letter_width-w-requires
letter_width-w-requires c = record { ready = c.requires.letters_filled.ready; class_letters = c.requires.letters_filled.class_letters }

pub word-low-requires : goal.word-low-requires
word-low-requires c =
    let last-here : c.args.c + 1 < length c.args.letter_at.now = omega (arith, last_inside c.requires.letters_filled.ready _ c.requires.letters_filled.class_letters, c.requires.c_le_rows.0) in omega (arith, last-here)

pub word-high-requires : goal.word-high-requires
word-high-requires c =
    let last-here : c.args.c + 1 < length c.args.letter_at.now = omega (arith, last_inside c.requires.letters_filled.ready _ c.requires.letters_filled.class_letters, c.requires.c_le_rows.0) in omega (arith, last-here)

pub loop-y-init : goal.loop-y-init
loop-y-init c = let a = c.args in (none_yet (is_named_of (program a.ws.now a.s) (tables a.ws.now a.s) (bad_rows a.ws.now a.s) a.from a.to) c.word-low.result, omega arith, (class_span c.requires.letters_filled.ready _ c.requires.letters_filled.class_letters _ _ _ c.requires.c_le_rows.0 c.word-low.ensures.0 c.word-high.ensures.0).2)

pub is_named-requires : goal.is_named-requires
is_named-requires c = record {
  sets_filled = record { ready = c.requires.letters_filled.ready; letter_sets_of = c.requires.letters_filled.letter_sets_of; width = c.letter_width-w.ensures };
  to_bound = ((rows_few c.requires.letters_filled.ready _ _ c.requires.c_le_rows.1).1, omega (arith, (class_span c.requires.letters_filled.ready _ c.requires.letters_filled.class_letters _ _ _ c.requires.c_le_rows.0 c.word-low.ensures.0 c.word-high.ensures.0).3, c.loop-y-test.true));
}

pub loop-y-preserved : goal.loop-y-preserved
loop-y-preserved c =
    let a = c.args in
    let z = class_span c.requires.letters_filled.ready _ c.requires.letters_filled.class_letters _ _ _ c.requires.c_le_rows.0 c.word-low.ensures.0 c.word-high.ensures.0 in
    let i = c.loop-y.invariant in
    let g = i.0 in (
      elim c.if-is_named.branch [
        | then-is_named v ↦
            let on = sym c.is_named.ensures ∙ v.if-is_named.true in
            elim v.if-first-end.branch [
              | then-first-end u ↦ passes_first (is_named_of (program a.ws.now a.s) (tables a.ws.now a.s) (bad_rows a.ws.now a.s) a.from a.to) c.word-low.result _ _ _ g on i.1 u.if-first-end.true _ _ (v.first-is ∙ u.first-is) v.end-is
              | else-first-end u ↦ passes_more (is_named_of (program a.ws.now a.s) (tables a.ws.now a.s) (bad_rows a.ws.now a.s) a.from a.to) c.word-low.result _ _ _ g on i.1 u.if-first-end.false (named_span c.requires.letters_filled.ready _ _ c.requires.c_le_rows.1 _ _ _ _ z.0 z.1 c.loop-y-test.true on) _ _ (v.first-is ∙ u.first-is) v.end-is
            ]
        | else-is_named v ↦ passes_not (is_named_of (program a.ws.now a.s) (tables a.ws.now a.s) (bad_rows a.ws.now a.s) a.from a.to) c.word-low.result _ _ _ g (sym c.is_named.ensures ∙ v.if-is_named.false) _ _ v.first-is v.end-is
      ],
      search rules,
      search rules,
    )

pub returns : goal.returns
returns c =
    let z = class_span c.requires.letters_filled.ready _ c.requires.letters_filled.class_letters _ _ _ c.requires.c_le_rows.0 c.word-low.ensures.0 c.word-high.ensures.0 in
    let over : c.loop-y.y ≡ c.word-high.result = omega (arith, c.loop-y-test.false, c.loop-y.invariant.2) in
    record {
      stretched = rw (over, z.0, z.1) at c.loop-y.invariant.0;
      to_bound = omega (arith, c.word-high.ensures.1, c.loop-y.invariant.0.upto);
    }
