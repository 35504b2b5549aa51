use borrow.Author.Rules.{rules}
use Prim.Native.Nat.{◌+◌, ◌-◌, ◌<◌}
use native.Mathlib.Omega.{arith}
use mathlib.Core.Path.{◌≡◌, sym, ◌∙◌}
use Rattle.std.proofs.Common.{Ok, Err}
use mathlib.Core.List.{[], ◌∷◌}
use lib.ListN.{replicate}
use borrow.Author.Tests.{lt-ltb, le-ltb, eq-eqb, ne_eqb}
use Rattle.model.specs.Rows.{program, pattern, arity}
use Rattle.program.specs.Rows.{from}
use Rattle.program.proofs.Items.{pattern_named, pattern_31, pattern_32, pattern_other, pattern_none}
use Rattle.program.proofs.Reading.{past_answer, wrong_answer, came_past, came_wrong, handed_on, replicate_past, replicate_wrong, replicate_none, replicate_by, from_stop, past_upto, takes_row, last_row, refuses_row, yes_fits, no_fits}
use Rattle.program.proofs.readers.+pattern_patterns.Goals as goal

pub pattern-returns-then-d-eq0 : goal.pattern-returns-then-d-eq0
pattern-returns-then-d-eq0 t c =
    wrong_answer _ (from_stop _ (pattern _) [] _ (pattern_none _ _ _ _ _ c.if-d-eq0.true))

pub pattern-patterns-requires : goal.pattern-patterns-requires
pattern-patterns-requires t c =
    let entered-here : let a = c.args in let p = program a.ws.now a.s in (a.r < a.s.rows) × (from p (pattern a.d ∷ []) a.r ≡ from p (replicate (arity p c.num-n.result) (pattern (a.d - 1))) (a.r + 1)) = takes_row _ _ (pattern _) _ _ _ _ c.tag.ensures c.num-n.ensures
    (pattern_31 _ _ _ _ _ (search rules) c.in-31.is ∙ yes_fits _ (lt-ltb _ _ c.if-n-s-2.true)) in (omega arith, (search rules, omega (arith, entered-here.0)))

pub pattern-returns-then-n-s : goal.pattern-returns-then-n-s
pattern-returns-then-n-s t c =
    last_row _ _ (pattern _) _ _ _ c.tag.ensures c.num-n.ensures
    (pattern_named _ _ _ _ _ (search rules) c.in-30.is ∙ yes_fits [] (lt-ltb _ _ c.if-n-s.true))

pub pattern-returns-else-n-s : goal.pattern-returns-else-n-s
pattern-returns-else-n-s t c =
    refuses_row _ _ (pattern _) _ _ _ c.tag.ensures c.num-n.ensures
    (pattern_named _ _ _ _ _ (search rules) c.in-30.is ∙ no_fits [] (le-ltb _ _ c.if-n-s.false))

pub pattern-returns-then-n-s-2 : goal.pattern-returns-then-n-s-2
unfolding arity
pattern-returns-then-n-s-2 t c =
    let entered-here : let a = c.args in let p = program a.ws.now a.s in (a.r < a.s.rows) × (from p (pattern a.d ∷ []) a.r ≡ from p (replicate (arity p c.num-n.result) (pattern (a.d - 1))) (a.r + 1)) = takes_row _ _ (pattern _) _ _ _ _ c.tag.ensures c.num-n.ensures
    (pattern_31 _ _ _ _ _ (search rules) c.in-31.is ∙ yes_fits _ (lt-ltb _ _ c.if-n-s-2.true)) in
    c.patterns.ensures ∙
    (replicate_by _ (pattern _) c.num.result _ _ c.num.ensures ∙ sym entered-here.1)

pub pattern-returns-else-n-s-2 : goal.pattern-returns-else-n-s-2
pattern-returns-else-n-s-2 t c =
    refuses_row _ _ (pattern _) _ _ _ c.tag.ensures c.num-n.ensures
    (pattern_31 _ _ _ _ _ (search rules) c.in-31.is ∙ no_fits _ (le-ltb _ _ c.if-n-s-2.false))

pub pattern-returns-then-n-eq0 : goal.pattern-returns-then-n-eq0
pattern-returns-then-n-eq0 t c =
    last_row _ _ (pattern _) _ _ _ c.tag.ensures c.num-n.ensures
    (pattern_32 _ _ _ _ _ (search rules) c.in-32.is ∙ yes_fits [] (eq-eqb _ _ c.if-n-eq0.true))

pub pattern-returns-else-n-eq0 : goal.pattern-returns-else-n-eq0
pattern-returns-else-n-eq0 t c =
    refuses_row _ _ (pattern _) _ _ _ c.tag.ensures c.num-n.ensures
    (pattern_32 _ _ _ _ _ (search rules) c.in-32.is ∙ no_fits [] (ne_eqb _ _ c.if-n-eq0.false))

pub pattern-returns-in_default : goal.pattern-returns-in_default
pattern-returns-in_default t c =
    refuses_row _ _ (pattern _) _ _ _ c.tag.ensures c.num-n.ensures
    (pattern_other _ _ _ _ _ c.in_default.in_default-own.rest.0.0.1 c.in_default.in_default-own.rest.0.1 c.in_default.in_default-own.rest.1)

pub patterns-returns-in_err-q : goal.patterns-returns-in_err-q
patterns-returns-in_err-q t c =
    let l = c.loop in
    let wrong : c.pattern.result ≡ Err c.in_err-q.field-0.0 = search rules in
    handed_on _ _ (search rules) (l.invariant.1 ∙ replicate_wrong _ _ _ l.q _ (omega arith) (came_wrong _ _ c.pattern.ensures wrong))

pub patterns-loop-preserved : goal.patterns-loop-preserved
patterns-loop-preserved t c =
    let l = c.loop in
    let x = c.pattern in
    let past : x.result ≡ Ok c.in_ok-q.q = search rules in (
      (past_upto _ _ (pattern _ ∷ []) _ l.q _ l.invariant.0 x.ensures past).1,
      l.invariant.1 ∙ replicate_past _ _ _ _ l.q _ (omega arith) (came_past _ _ x.ensures past),
    )

pub patterns-returns : goal.patterns-returns
patterns-returns t c = let l = c.loop in past_answer l.q (l.invariant.1 ∙ replicate_none _ _ _ l.q (omega arith))
