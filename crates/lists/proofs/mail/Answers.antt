use borrow.Author.Rules.{rules}
use Rattle.lists.specs.Lists.{mail_span}
use Rattle.lists.proofs.mail.Goals as goal

pub returns : goal.returns
unfolding mail_span
returns c = search rules
