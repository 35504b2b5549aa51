use native.Mathlib.Omega.{arith}
use mathlib.Core.Path.{sym, ◌∙◌}
use Rattle.model.specs.Words.{columns}
use Rattle.model.specs.Rows.{program}
use Rattle.model.proofs.Index.{all_end, all_hit, all_miss}
use Rattle.scopes.proofs.Binding.{is_bound_yes, is_bound_no}
use Rattle.scopes.proofs.names.all_bound.Goals as goal

pub returns-then-entry-s : goal.returns-then-entry-s
unfolding program columns
returns-then-entry-s c =
    let l = c.loop-n in
    sym (l.invariant ∙ all_miss l.n _ _ (omega arith) (is_bound_no _ l.n _ (c.entry.ensures ∙ c.requires.binder_table.binders l.n (omega arith)) c.if-entry-s.true))

pub loop-n-preserved : goal.loop-n-preserved
unfolding program columns
loop-n-preserved c =
    let l = c.loop-n in
    l.invariant ∙ all_hit l.n _ _ (omega arith) (is_bound_yes _ l.n _ (c.entry.ensures ∙ c.requires.binder_table.binders l.n (omega arith)) c.if-entry-s.false)

pub returns : goal.returns
returns c = let l = c.loop-n in sym (l.invariant ∙ all_end l.n _ _ (omega arith))
