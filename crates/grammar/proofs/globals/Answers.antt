use Prim.Native.Nat.{◌+◌, ◌<◌}
use native.Mathlib.Omega.{arith}
use mathlib.Core.Path.{◌≡◌, ◌∙◌}
use mathlib.Core.List.{[], ◌∷◌}
use Rattle.std.proofs.Common.{rules, Ok, Err}
use Rattle.model.specs.Rows.{program, global, body_form_of}
use Rattle.program.specs.Rows.{from}
use Rattle.program.proofs.Items.{global_says}
use Rattle.program.proofs.Reading.{past_answer, wrong_answer, handed_on, came_past, came_wrong, replicate_past, replicate_wrong, replicate_none, go, stop, past_upto}
use Rattle.grammar.proofs.globals.Goals as goal

pub returns-then-not-is_row : goal.returns-then-not-is_row
returns-then-not-is_row c =
    let l = c.loop in
    wrong_answer _
    (l.invariant.1 ∙
    replicate_wrong _ global _ l.q _ (omega arith)
    (stop _ _ global _ l.q (global_says _ _ _ _) c.is_row.ensures c.if-not-is_row.true))

-- the head fits, and the body form follows
entered : (c : goal.Else-not-is_row) → let a = c.args in let p = program a.ws.now a.s in let q = c.loop.q in (q < a.s.rows) × (from p (global ∷ []) q ≡ from p body_form_of (q + 1))
entered c = go _ _ global _ c.loop.q (global_says _ _ _ _) c.is_row.ensures c.if-not-is_row.false

pub body_form-requires : goal.body_form-requires
body_form-requires c =
    let w = entered c in record { whole = search rules; r_le_rows = omega arith }

pub returns-in_err-q : goal.returns-in_err-q
returns-in_err-q c =
    let l = c.loop in
    let (there, entered-here) = go _ _ global _ l.q (global_says _ _ _ _) c.is_row.ensures c.if-not-is_row.false in
    let wrong : c.body_form.result ≡ Err c.in_err-q.field-0.0 = search rules in
    handed_on _ _ (search rules)
    (l.invariant.1 ∙
    replicate_wrong _ global _ l.q _ (omega arith)
    (entered-here ∙ came_wrong _ _ c.body_form.ensures wrong))

pub loop-preserved : goal.loop-preserved
loop-preserved c =
    let l = c.loop in
    let a = c.args in
    let b = c.body_form in
    let (there, entered-here) = go a.ws.now a.s global _ l.q (global_says _ _ _ _) c.is_row.ensures c.if-not-is_row.false in
    let past : b.result ≡ Ok c.in_ok-q.q = search rules in (
      (past_upto a.ws.now a.s body_form_of _ (l.q + 1) _ (omega (arith, there)) b.ensures past).1,
      l.invariant.1 ∙ replicate_past _ global _ _ l.q _ (omega arith) (entered-here ∙ came_past _ _ b.ensures past),
    )

pub returns : goal.returns
returns c = let l = c.loop in past_answer l.q (l.invariant.1 ∙ replicate_none _ _ _ l.q (omega arith))
