use borrow.Author.Rules.{rules}
use mathlib.Core.Path.{refl, sym, ◌∙◌}
use native.Mathlib.Omega.{arith}
use Rattle.model.specs.Words.{columns}
use Rattle.model.specs.Rows.{program}
use Rattle.asks.proofs.Rows.{row_below}
use Rattle.settled.proofs.Settling.{closure_match, closure_flow, closure_mail, case_here, case_name, settled_case, two_three, settled_named, settled_asked, settled_none}
use Rattle.settled.proofs.settle.Goals as goal

pub tag-requires : goal.tag-requires
tag-requires c = c.requires.ready.whole

pub num-name-requires : goal.num-name-requires
num-name-requires c = c.requires.ready.whole

pub overflow_add-r : goal.overflow_add-r
overflow_add-r c = omega (arith, (row_below c.requires.ready c.args.r (omega (arith, (sym c.tag.ensures ∙ c.in-8.is)))).1)

pub num-count-requires : goal.num-count-requires
num-count-requires c = c.requires.ready.whole

pub overflow_add-r-in-8 : goal.overflow_add-r-in-8
overflow_add-r-in-8 c = omega (arith, (row_below c.requires.ready c.args.r (omega (arith, (sym c.tag.ensures ∙ c.in-8.is)))).1)

pub taken_bits-requires : goal.taken_bits-requires
unfolding program columns
taken_bits-requires c =
    let h = c.requires in
    let (run, few) = case_here h.ready _ (sym c.tag.ensures ∙ c.in-8.is) _ c.num-count.ensures in
    record {
      cases = closure_match h;
      branches_asked = record { row = (h.names.of_name _ (case_name h.ready _ (sym c.tag.ensures ∙ c.in-8.is) _ c.num-name.ensures)).row; run = run; few = few };
    }

pub named_code-requires : goal.named_code-requires
named_code-requires c = record { flow_ready = closure_flow c.requires; fact = two_three _ _ c.tag.ensures (search rules) (search rules) }

pub asked-requires : goal.asked-requires
asked-requires c = record { mail_ready = closure_mail c.requires; starts = (c.requires.begins, (omega (arith, c.tag.ensures), omega (arith, c.tag.ensures))) }

pub returns-in-8 : goal.returns-in-8
unfolding program columns
returns-in-8 c = settled_case _ _ _ _ _ _ _ c.tag.ensures c.in-8.is c.num-name.ensures c.num-count.ensures c.taken_bits.ensures (c.requires.names.of_name _ (case_name c.requires.ready _ (sym c.tag.ensures ∙ c.in-8.is) _ c.num-name.ensures)) (case_here c.requires.ready _ (sym c.tag.ensures ∙ c.in-8.is) _ c.num-count.ensures).1

pub returns-in-2 : goal.returns-in-2
returns-in-2 c = settled_named _ _ _ _ _ c.tag.ensures (two_three _ _ refl (search rules) (search rules)) c.named_code.ensures

pub returns-in-4 : goal.returns-in-4
returns-in-4 c = settled_asked _ _ _ _ _ c.tag.ensures (search rules, search rules) c.asked.ensures.0 c.asked.ensures.1

pub returns-in_default : goal.returns-in_default
returns-in_default c = settled_none _ _ _ _ _ c.tag.ensures refl (λ a b. omega (arith, c.in_default.if-this-lt2-own.true)) (λ z. omega (arith, c.in_default.if-this-lt2-own.true))

pub returns-in_default-2 : goal.returns-in_default-2
returns-in_default-2 c = settled_none _ _ _ _ _ c.tag.ensures refl (λ a b. omega (arith, c.in_default.if-this-lt7-own.false)) (λ z. c.in_default.in_default-own.rest.1 z)
