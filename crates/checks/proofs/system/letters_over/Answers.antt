use Rattle.checks.proofs.Laying.{letters_lent}
use Rattle.checks.proofs.system.letters_over.Goals as goal

pub lettered_verdict-requires : goal.lettered_verdict-requires
lettered_verdict-requires g c =
    let z = letters_lent _ _ _ _ _ _ _ c.requires.lettered _ _ c.requires.words_bound.0 c.words64-letters.ensures in record { lettered = z.0; empty = z.1.0; letter_room = z.1.1.0; owners_room = z.1.1.1 }
