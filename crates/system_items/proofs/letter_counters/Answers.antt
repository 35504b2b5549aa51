use Prim.Native.Nat.{◌+◌}
use native.Mathlib.Omega.{arith}
use mathlib.Core.Path.{◌≡◌, sym, ◌∙◌}
use mathlib.Core.Bool.{true}
use Rattle.model.specs.Rows.{program}
use Rattle.model.specs.Bads.{bad_rows}
use Rattle.system_items.specs.Stretches.{names_letters_of}
use Rattle.system_items.proofs.Ranges.{class_missed, none_named, letters_range}
use Rattle.system_items.proofs.letter_counters.Goals as goal

pub returns-then-class-s : goal.returns-then-class-s
returns-then-class-s c = class_missed c.requires.letters_filled.ready _ c.requires.r_lt_badrows.1 _ c.bad_number-class.ensures.0 c.if-class-s.true

pub returns-then-not-names_letters : goal.returns-then-not-names_letters
returns-then-not-names_letters c = none_named c.requires.letters_filled.ready _ c.requires.r_lt_badrows.1 _ c.past_heads-minimum.ensures (sym c.names_letters.ensures ∙ c.if-not-names_letters.true)

-- the rows name letters
named : (c : goal.Else-not-names_letters) → names_letters_of (program c.args.ws.now c.args.s) (bad_rows c.args.ws.now c.args.s) (c.args.r + 1) c.past_heads-minimum.result ≡ true
named c = sym c.names_letters.ensures ∙ c.if-not-names_letters.false

pub letters_named-named-requires : goal.letters_named-named-requires
letters_named-named-requires c = record { letters_filled = c.requires.letters_filled; c_le_rows = (omega (arith, c.if-class-s.false), named c) }

pub overflow_add-from : goal.overflow_add-from
overflow_add-from c = omega (arith, c.letters_named-named.ensures.stretched.order, c.letters_named-named.ensures.to_bound, c.requires.letters_filled.ready.limits.states)

pub overflow_add-to : goal.overflow_add-to
overflow_add-to c = omega (arith, c.letters_named-named.ensures.to_bound, c.requires.letters_filled.ready.limits.states)

pub returns : goal.returns
returns c =
    let named-here : names_letters_of (program c.args.ws.now c.args.s) (bad_rows c.args.ws.now c.args.s) (c.args.r + 1) c.past_heads-minimum.result ≡ true = sym c.names_letters.ensures ∙ c.if-not-names_letters.false in letters_range c.requires.letters_filled.ready _ c.requires.r_lt_badrows.1 _ _ _ _ c.bad_number-class.ensures.0 c.past_heads-minimum.ensures named-here c.letters_named-named.ensures.stretched
