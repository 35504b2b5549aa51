use native.Mathlib.Omega.{arith}
use mathlib.Core.Path.{refl, ◌∙◌}
use lib.ListN.{get_or-append}
use lib.Seq.{length-take-le}
use Rattle.model.specs.Words.{columns}
use Rattle.model.specs.Rows.{program}
use Rattle.scopes.proofs.names.blank_binders.Goals as goal

pub returns : goal.returns
unfolding program columns
returns c =
    let a = c.args in
    let room = length-take-le a.s.names a.table.now c.requires.names_in_bounds in
    record {
      rows = λ n h. get_or-append c.fill.new.self _ 0 n (omega (arith, h, c.fill.ensures.len, room)) ∙ c.fill.ensures.clones n 0 (omega (arith, h, room)) refl;
    }
