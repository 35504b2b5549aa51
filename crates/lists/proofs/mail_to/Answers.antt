use Rattle.lists.specs.Lists.{range_to}
use Rattle.lists.proofs.Facts.{mail_usable}
use Rattle.lists.proofs.Told.{mail_placed}
use Rattle.lists.proofs.mail_to.Goals as goal

pub place-requires : goal.place-requires
place-requires c =
    let z = mail_usable c.requires.ready c.mail.result c.mail.ensures in record { held = z.0; ascending = z.1 }

pub returns : goal.returns
unfolding range_to
returns c = mail_placed _ _ _ _ _ c.place.ensures c.mail.ensures
