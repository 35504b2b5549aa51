use native.Mathlib.Omega.{arith}
use mathlib.Core.Path.{◌∙◌, ap}
use Rattle.model.specs.Rows.{program}
use Rattle.model.specs.Bads.{letter_arity_of}
use Rattle.system_items.proofs.Letters.{heads_few, alone_told, heads_told}
use Rattle.system_items.proofs.names_letters.Goals as goal

pub overflow_add-result-else-to-from : goal.overflow_add-result-else-to-from
overflow_add-result-else-to-from c = let h = heads_few c.requires.ready c.bad_number-number.result in omega (arith, c.letter_arity-heads.ensures)

pub returns-then-to-from : goal.returns-then-to-from
returns-then-to-from c = alone_told c.requires.ready _ _ c.if-to-from.true

pub returns-else-to-from : goal.returns-else-to-from
returns-else-to-from c = let a = c.args in heads_told c.requires.ready _ _ _ c.if-to-from.false (c.letter_arity-heads.ensures ∙ ap (letter_arity_of (program a.ws.now a.s)) c.bad_number-number.ensures.0)
