use native.Mathlib.Omega.{arith}
use mathlib.Core.Path.{◌≡◌, refl}
use Rattle.std.proofs.Common.{rules, None}
use Rattle.bads.proofs.BadRows.{begins, rows_held, turn_wrong, turn_next, ended_safe, ended_early}
use Rattle.bads.proofs.bad_check.Goals as goal

pub loop-r-init : goal.loop-r-init
loop-r-init c = begins _ _

pub column-t-requires : goal.column-t-requires
column-t-requires c = (rows_held _ _ _ _ refl refl c.requires).0

pub column-n-requires : goal.column-n-requires
column-n-requires c = (rows_held _ _ _ _ refl refl c.requires).1

pub read_row-requires : goal.read_row-requires
read_row-requires c = c.requires.program

pub returns-in_default : goal.returns-in_default
returns-in_default c =
    let none : c.read_row.result ≡ None = search rules in
    turn_wrong _ _ _ _ refl refl _ _ _ _ _ c.loop-r-test.true c.column-t.ensures c.column-n.ensures c.read_row.ensures c.loop-r.invariant none

pub loop-r-preserved : goal.loop-r-preserved
loop-r-preserved c =
    turn_next _ _ _ _ refl refl _ _ _ _ _ c.loop-r-test.true c.column-t.ensures c.column-n.ensures c.read_row.ensures _ c.loop-r.invariant c.in-Some.is

pub returns-then-is_done : goal.returns-then-is_done
returns-then-is_done c =
    let l = c.loop-r in let over : l.r ≡ c.args.s.badrows = omega (arith, c.loop-r-test.false) in
    ended_safe _ _ _ _ refl refl _ _ over l.invariant _ c.is_done.ensures c.if-is_done.true

pub returns-else-is_done : goal.returns-else-is_done
returns-else-is_done c =
    let l = c.loop-r in let over : l.r ≡ c.args.s.badrows = omega (arith, c.loop-r-test.false) in
    rw over at (ended_early _ _ _ _ refl refl _ _ over l.invariant _ c.is_done.ensures c.if-is_done.false)
