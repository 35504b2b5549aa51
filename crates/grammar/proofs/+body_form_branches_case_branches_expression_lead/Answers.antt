use Rattle.std.proofs.Common.{rules, Ok, Err}
use Prim.Native.Nat.{◌+◌, ◌-◌}
use native.Mathlib.Omega.{arith}
use mathlib.Core.Path.{◌≡◌, refl, sym, ◌∙◌, ap}
use mathlib.Core.List.{[], ◌∷◌}
use borrow.Author.Tests.{lt-ltb, le-ltb}
use Rattle.model.specs.Rows.{kind, pattern, header, expression, branches, lead}
use Rattle.model.specs.Limits.{max_depth}
use Rattle.program.specs.Rows.{listed, listed_item, counted_items}
use Rattle.program.proofs.Items.{give_says, bound_says, case_says, lead_of, lead_none, receive_says, no_head_says, branches_25, branches_other}
use Rattle.program.proofs.Reading.{past_answer, handed_on, came_past, came_wrong, items_by, branches_past, branches_no_pattern, branches_no_body, branches_none, from_none, past_upto, past_behind, last_row, refuses_row, then_past, then_wrong, yes_fits, no_fits}
use Rattle.grammar.proofs.Follows.{lead_follows, case_follows, receive_follows, branches_follow}
use Rattle.grammar.proofs.+body_form_branches_case_branches_expression_lead.Goals as goal

pub body_form-counted-requires : goal.body_form-counted-requires
unfolding listed
body_form-counted-requires t c = record { whole = search rules; r_le_rows = (search rules, refl) }

pub body_form-expression-requires : goal.body_form-expression-requires
body_form-expression-requires t c =
    let past : c.counted.result ≡ Ok c.in_ok-body.body = search rules in
    let w = past_behind _ _ (counted_items 23) [] _ _ _ c.requires.r_le_rows c.counted.ensures past in
    (omega arith, (search rules, w.1))

pub body_form-returns-in_err-body : goal.body_form-returns-in_err-body
unfolding counted_items
body_form-returns-in_err-body t c =
    let wrong : c.counted.result ≡ Err c.in_err-body.field-0.0 = search rules in
    handed_on _ _ (search rules) (then_wrong _ (header ∷ []) (expression ∷ []) _ _ _ c.counted.ensures wrong)

pub body_form-returns : goal.body_form-returns
unfolding counted_items
body_form-returns t c =
    let past : c.counted.result ≡ Ok c.in_ok-body.body = search rules in
    c.expression.ensures ∙ sym (then_past _ (header ∷ []) (expression ∷ []) _ _ _ c.counted.ensures past)

pub branches-returns-in_err-body : goal.branches-returns-in_err-body
branches-returns-in_err-body t c =
    let l = c.loop in
    let wrong : c.pattern.result ≡ Err c.in_err-body.field-0.0 = search rules in
    handed_on _ _ (search rules)
    (l.invariant.2 ∙ branches_no_pattern _ _ (c.args.n - (l.counter + 1)) l.q _ (omega arith) (came_wrong _ _ c.pattern.ensures wrong))

pub branches-expression-requires : goal.branches-expression-requires
branches-expression-requires t c =
    let l = c.loop in
    let past : c.pattern.result ≡ Ok c.in_ok-body.body = search rules in
    let w = past_behind _ _ (pattern max_depth) [] _ l.q _ l.invariant.1 c.pattern.ensures past in
    (omega arith, (search rules, w.1))

pub branches-returns-in_err-q : goal.branches-returns-in_err-q
branches-returns-in_err-q t c =
    let l = c.loop in
    let past : c.pattern.result ≡ Ok c.in_ok-body.body = search rules in
    let wrong : c.expression.result ≡ Err c.in_err-q.field-0.0 = search rules in
    handed_on _ _ (search rules)
    (l.invariant.2 ∙
    branches_no_body _ _ (c.args.n - (l.counter + 1)) l.q _ _ (omega arith)
    (came_past _ _ c.pattern.ensures past)
    (came_wrong _ _ c.expression.ensures wrong))

pub branches-loop-preserved : goal.branches-loop-preserved
branches-loop-preserved t c =
    let l = c.loop in
    let x = c.pattern in
    let b = c.expression in
    let past : x.result ≡ Ok c.in_ok-body.body = search rules in
    let past_body : b.result ≡ Ok c.in_ok-q.q = search rules in
    let w = past_behind _ _ (pattern max_depth) [] _ l.q _ l.invariant.1 x.ensures past in
    let v = past_upto _ _ (expression ∷ []) _ _ _ w.1 b.ensures past_body in (
      omega arith,
      v.1,
      l.invariant.2 ∙ branches_past _ _ _ l.q _ _ (omega arith) (came_past _ _ x.ensures past) (came_past _ _ b.ensures past_body),
    )

pub branches-returns : goal.branches-returns
branches-returns t c = let l = c.loop in past_answer l.q (l.invariant.2 ∙ branches_none _ _ l.q (omega arith))

pub case_branches-returns-then-tag-ne-TAG_BRANCHES : goal.case_branches-returns-then-tag-ne-TAG_BRANCHES
case_branches-returns-then-tag-ne-TAG_BRANCHES t c = refuses_row _ _ branches _ _ _ c.tag.ensures c.num-n.ensures (branches_other _ _ _ _ c.if-tag-ne-TAG_BRANCHES.true)

pub case_branches-branches-requires : goal.case_branches-branches-requires
case_branches-branches-requires t c =
    let (there, _) = branches_follow _ _ _ _ _ c.tag.ensures c.num-n.ensures c.if-tag-ne-TAG_BRANCHES.false (sym c.is_branch_count.ensures ∙ c.if-is_branch_count.true) in (omega (arith, there), (c.requires.whole, omega (arith, there)))

pub case_branches-returns-then-is_branch_count : goal.case_branches-returns-then-is_branch_count
case_branches-returns-then-is_branch_count t c =
    let (_, follow) = branches_follow _ _ _ _ _ c.tag.ensures c.num-n.ensures c.if-tag-ne-TAG_BRANCHES.false (sym c.is_branch_count.ensures ∙ c.if-is_branch_count.true) in c.branches.ensures ∙ sym follow

pub case_branches-returns-else-is_branch_count : goal.case_branches-returns-else-is_branch_count
case_branches-returns-else-is_branch_count t c =
    refuses_row _ _ branches _ _ _ c.tag.ensures c.num-n.ensures
    (branches_25 _ _ _ _ c.if-tag-ne-TAG_BRANCHES.false ∙ no_fits _ (sym c.is_branch_count.ensures ∙ c.if-is_branch_count.false))

pub expression-case_branches-requires : goal.expression-case_branches-requires
expression-case_branches-requires t c =
    let (there, _) = case_follows _ _ _ _ _ c.tag.ensures c.num-n.ensures c.in-8.is c.if-n-s-2.true in (omega (arith, there), (c.requires.whole, omega (arith, there)))

pub expression-branches-requires : goal.expression-branches-requires
expression-branches-requires t c =
    let (there, _) = receive_follows _ _ _ _ _ c.tag.ensures c.num-n.ensures c.in-9.is (sym c.is_branch_count.ensures ∙ c.if-is_branch_count.true) in (omega (arith, there), (c.requires.whole, omega (arith, there)))

pub expression-returns-then-n-s-3 : goal.expression-returns-then-n-s-3
expression-returns-then-n-s-3 t c = let e = c.tag.ensures in refuses_row _ _ expression _ _ _ c.tag.ensures c.num-n.ensures (bound_says _ _ _ _ (omega (arith, c.in-2-to-7.if-this-lt1-own.false)) (omega (arith, c.in-2-to-7.if-this-lt8-own.true)) ∙ no_fits _ (le-ltb _ _ c.if-n-s-3.true))

pub expression-lead-requires : goal.expression-lead-requires
expression-lead-requires t c =
    let (there, _) = lead_follows _ _ _ _ _ c.tag.ensures c.num-n.ensures (omega (arith, c.in-2-to-7.if-this-lt1-own.false)) (omega (arith, c.in-2-to-7.if-this-lt8-own.true)) c.if-n-s-3.false in (omega (arith, there), (c.requires.whole, there))

pub expression-expression-requires : goal.expression-expression-requires
expression-expression-requires t c =
    let (there, _) = lead_follows _ _ _ _ _ c.tag.ensures c.num-n.ensures (omega (arith, c.in-2-to-7.if-this-lt1-own.false)) (omega (arith, c.in-2-to-7.if-this-lt8-own.true)) c.if-n-s-3.false in
    let a = c.args in
    let past : c.lead.result ≡ Ok c.in_ok-rest-in-2-to-7.rest = search rules in
    let v = past_upto a.ws.now a.s (lead _) _ (a.r + 1) _ (omega (arith, there)) c.lead.ensures past in
    (omega arith, (search rules, v.1))

pub expression-returns-then-n-s : goal.expression-returns-then-n-s
expression-returns-then-n-s t c = last_row _ _ expression _ _ _ c.tag.ensures c.num-n.ensures (give_says _ _ _ _ c.in-1.is ∙ yes_fits [] (lt-ltb _ _ c.if-n-s.true))

pub expression-returns-else-n-s : goal.expression-returns-else-n-s
expression-returns-else-n-s t c = refuses_row _ _ expression _ _ _ c.tag.ensures c.num-n.ensures (give_says _ _ _ _ c.in-1.is ∙ no_fits [] (le-ltb _ _ c.if-n-s.false))

pub expression-returns-then-n-s-2 : goal.expression-returns-then-n-s-2
expression-returns-then-n-s-2 t c =
    let (_, follow) = case_follows _ _ _ _ _ c.tag.ensures c.num-n.ensures c.in-8.is c.if-n-s-2.true in c.case_branches.ensures ∙ sym follow

pub expression-returns-else-n-s-2 : goal.expression-returns-else-n-s-2
expression-returns-else-n-s-2 t c = refuses_row _ _ expression _ _ _ c.tag.ensures c.num-n.ensures (case_says _ _ _ _ c.in-8.is ∙ no_fits _ (le-ltb _ _ c.if-n-s-2.false))

pub expression-returns-then-is_branch_count : goal.expression-returns-then-is_branch_count
expression-returns-then-is_branch_count t c =
    let (_, follow) = receive_follows _ _ _ _ _ c.tag.ensures c.num-n.ensures c.in-9.is (sym c.is_branch_count.ensures ∙ c.if-is_branch_count.true) in c.branches.ensures ∙ sym follow

pub expression-returns-else-is_branch_count : goal.expression-returns-else-is_branch_count
expression-returns-else-is_branch_count t c = refuses_row _ _ expression _ _ _ c.tag.ensures c.num-n.ensures (receive_says _ _ _ _ c.in-9.is ∙ no_fits _ (sym c.is_branch_count.ensures ∙ c.if-is_branch_count.false))

pub expression-returns-in_ok-rest-in-2-to-7 : goal.expression-returns-in_ok-rest-in-2-to-7
expression-returns-in_ok-rest-in-2-to-7 t c =
    let (_, follow) = lead_follows _ _ _ _ _ c.tag.ensures c.num-n.ensures (omega (arith, c.in-2-to-7.if-this-lt1-own.false)) (omega (arith, c.in-2-to-7.if-this-lt8-own.true)) c.if-n-s-3.false in
    let past : c.lead.result ≡ Ok c.in_ok-rest-in-2-to-7.rest = search rules in
    c.expression.ensures ∙ sym (follow ∙ then_past _ (lead _) (expression ∷ []) _ _ _ c.lead.ensures past)

pub expression-returns-in_err-rest-in-2-to-7 : goal.expression-returns-in_err-rest-in-2-to-7
expression-returns-in_err-rest-in-2-to-7 t c =
    let (_, follow) = lead_follows _ _ _ _ _ c.tag.ensures c.num-n.ensures (omega (arith, c.in-2-to-7.if-this-lt1-own.false)) (omega (arith, c.in-2-to-7.if-this-lt8-own.true)) c.if-n-s-3.false in
    let wrong : c.lead.result ≡ Err c.in_err-rest-in-2-to-7.field-0.0 = search rules in
    handed_on _ _ (search rules) (follow ∙ then_wrong _ (lead _) (expression ∷ []) _ _ _ c.lead.ensures wrong)

pub expression-returns-in-10 : goal.expression-returns-in-10
expression-returns-in-10 t c = refuses_row _ _ expression _ _ _ c.tag.ensures c.num-n.ensures (no_head_says _ _ _ _ (λ a. omega (arith, c.in-10.if-this-lt8-own.false, c.in-10.in_default-own.rest)))

pub expression-returns-in-10-2 : goal.expression-returns-in-10-2
expression-returns-in-10-2 t c = refuses_row _ _ expression _ _ _ c.tag.ensures c.num-n.ensures (no_head_says _ _ _ _ (λ a. omega (arith, c.in-10.if-this-lt8-own.false, c.in-10.in_default-own.rest)))

pub expression-returns-in-10-3 : goal.expression-returns-in-10-3
expression-returns-in-10-3 t c = refuses_row _ _ expression _ _ _ c.tag.ensures c.num-n.ensures (no_head_says _ _ _ _ (λ a. omega (arith, c.in-10.if-this-lt8-own.false, c.in-10.in_default-own.rest)))

pub expression-returns-in_default : goal.expression-returns-in_default
expression-returns-in_default t c = refuses_row _ _ expression _ _ _ c.tag.ensures c.num-n.ensures (no_head_says _ _ _ _ (λ a. omega (arith, a, c.in_default.if-this-lt1-own.true, c.in_default.in_default-own.rest)))

pub expression-returns-in_default-2 : goal.expression-returns-in_default-2
expression-returns-in_default-2 t c = refuses_row _ _ expression _ _ _ c.tag.ensures c.num-n.ensures (no_head_says _ _ _ _ (λ a. omega (arith, c.in_default.if-this-lt8-own.false, c.in_default.in_default-own.rest)))

pub expression-returns-in_default-3 : goal.expression-returns-in_default-3
expression-returns-in_default-3 t c = refuses_row _ _ expression _ _ _ c.tag.ensures c.num-n.ensures (no_head_says _ _ _ _ (λ a. omega (arith, c.in_default.if-this-lt8-own.false, c.in_default.in_default-own.rest)))

pub expression-returns-in_default-4 : goal.expression-returns-in_default-4
expression-returns-in_default-4 t c = refuses_row _ _ expression _ _ _ c.tag.ensures c.num-n.ensures (no_head_says _ _ _ _ (λ a. omega (arith, c.in_default.if-this-lt8-own.false, c.in_default.in_default-own.rest)))

pub lead-names-requires : goal.lead-names-requires
unfolding listed
lead-names-requires t c = record { whole = search rules; r_le_rows = (search rules, refl) }

pub lead-names-requires-in-6 : goal.lead-names-requires-in-6
unfolding listed
lead-names-requires-in-6 t c = record { whole = search rules; r_le_rows = (search rules, refl) }

pub lead-returns-in-2 : goal.lead-returns-in-2
unfolding lead kind
lead-returns-in-2 t c =
    c.made.ensures ∙ items_by _ _ (sym (lead_of (sym c.tag.ensures ∙ c.in-2.is)))

pub lead-returns-in-3 : goal.lead-returns-in-3
unfolding lead kind
lead-returns-in-3 t c =
    c.body_form.ensures ∙ items_by _ _ (sym (lead_of (sym c.tag.ensures ∙ c.in-3.is)))

pub lead-returns-in-4 : goal.lead-returns-in-4
unfolding lead kind
lead-returns-in-4 t c =
    c.call_parts.ensures ∙ items_by _ _ (sym (lead_of (sym c.tag.ensures ∙ c.in-4.is)))

pub lead-returns-in-5 : goal.lead-returns-in-5
unfolding lead kind listed_item
lead-returns-in-5 t c =
    c.names.ensures ∙ items_by _ _ (sym (lead_of (sym c.tag.ensures ∙ c.in-5.is)))

pub lead-returns-in-6 : goal.lead-returns-in-6
unfolding lead kind listed_item
lead-returns-in-6 t c =
    c.names-in-6.ensures ∙ items_by _ _ (sym (lead_of (sym c.tag.ensures ∙ c.in-6.is)))

pub lead-returns-in_default : goal.lead-returns-in_default
lead-returns-in_default t c =
    let m = c.in_default.in_default-own.rest in
    past_answer _
    (items_by _ _ (ap (λ t. lead (kind t)) (sym c.tag.ensures) ∙ lead_none _ m.0.0.0.0.1 m.0.0.0.1 m.0.0.1 m.0.1 m.1) ∙
    from_none _ _)
