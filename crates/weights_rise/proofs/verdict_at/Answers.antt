use Prim.Native.Nat.{◌<◌}
use native.Mathlib.Omega.{arith}
use lib.ListN.{length}
use borrow.Author.Rules.{rules}
use Rattle.weights_form.proofs.Lines.{begins_low}
use Rattle.model.proofs.Outcome.{passes_unless, refuses_unless}
use borrow.Author.Tests.{eq-eqb, ne_eqb}
use Rattle.weights_rise.proofs.verdict_at.Goals as goal

pub returns-then-line-s : goal.returns-then-line-s
returns-then-line-s c = passes_unless _ _ (eq-eqb _ _ c.if-line-s.true)

-- the line's first entry has its place
inside : (c : goal.Else-line-s) → c.args.line < length c.args.starts.now
inside c = omega (arith, c.if-line-s.false, c.requires.line_le_lines)

pub offset_bounds-starts-line : goal.offset_bounds-starts-line
offset_bounds-starts-line c = let h = inside c in search rules

pub bounds-starts-line : goal.bounds-starts-line
bounds-starts-line c =
    let inside-here : c.args.line < length c.args.starts.now = omega (arith, c.if-line-s.false, c.requires.line_le_lines) in inside-here

pub overflow_cast-first : goal.overflow_cast-first
overflow_cast-first c = omega (arith, c.type_inv.starts c.args.line)

pub overflow_add-place : goal.overflow_add-place
overflow_add-place c = record { fits = omega (arith, c.weights_at.ensures, begins_low _ c.requires.within_limits) }

pub overflow_add-place-2 : goal.overflow_add-place-2
overflow_add-place-2 c = record { fits = omega (arith, c.weights_at.ensures, begins_low _ c.requires.within_limits, c.type_inv.starts c.args.line) }

pub returns : goal.returns
returns c = rw c.weights_at.ensures (refuses_unless _ _ (ne_eqb _ _ c.if-line-s.false))
