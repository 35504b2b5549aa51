use mathlib.Core.Bool.{not}
use mathlib.Core.Path.{ap}
use Prim.Native.Nat.{◌-◌}
use native.Mathlib.Omega.{arith}
use Rattle.model.specs.Rows.{program}
use Rattle.model.specs.Tables.{tables}
use Rattle.model.specs.Bads.{bad_rows}
use Rattle.system_items.proofs.Letters.{digits_start, digit_wrong, digit_right, digits_over}
use borrow.Author.Rules.{rules}
use Rattle.system_items.proofs.is_named.Goals as goal

pub loop-r-init : goal.loop-r-init
loop-r-init c = let a = c.args in (digits_start (program a.ws.now a.s) (tables a.ws.now a.s) (bad_rows a.ws.now a.s) a.from a.to a.y, omega arith)

pub is_digit-requires : goal.is_digit-requires
is_digit-requires c = record { sets_filled = c.requires.sets_filled; i_lt_digits = (omega (arith, c.loop-r.invariant.1, c.loop-r-test.true, c.requires.to_bound.0), c.requires.to_bound.1) }

pub returns-then-not-is_digit : goal.returns-then-not-is_digit
returns-then-not-is_digit c = let a = c.args in digit_wrong (program a.ws.now a.s) (tables a.ws.now a.s) (bad_rows a.ws.now a.s) a.from a.to a.y _ c.loop-r.invariant.0 _ c.is_digit.ensures c.loop-r-test.true (ap not c.if-not-is_digit.true)

pub loop-r-preserved : goal.loop-r-preserved
loop-r-preserved c = let a = c.args in (digit_right (program a.ws.now a.s) (tables a.ws.now a.s) (bad_rows a.ws.now a.s) a.from a.to a.y _ c.loop-r.invariant.0 _ c.is_digit.ensures c.loop-r-test.true (ap not c.if-not-is_digit.false), search rules)

pub returns : goal.returns
returns c = let a = c.args in digits_over (program a.ws.now a.s) (tables a.ws.now a.s) (bad_rows a.ws.now a.s) a.from a.to a.y _ c.loop-r.invariant.0 c.loop-r-test.false
