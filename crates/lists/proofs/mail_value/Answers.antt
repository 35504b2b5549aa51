use Rattle.lists.proofs.Facts.{mail_usable}
use Rattle.lists.proofs.Told.{mail_told}
use Rattle.lists.proofs.mail_value.Goals as goal

pub right-requires : goal.right-requires
right-requires c = (mail_usable c.requires _ c.mail.ensures).0

pub returns : goal.returns
returns c = mail_told _ _ _ _ _ c.right.ensures c.mail.ensures
