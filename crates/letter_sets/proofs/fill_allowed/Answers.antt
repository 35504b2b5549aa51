use borrow.Author.Rules.{rules}
use Rattle.letter_sets.proofs.Putting.{upto_start, upto_next}
use Rattle.letter_sets.proofs.Filling.{room_still, allowed_filled}
use Rattle.letter_sets.proofs.fill_allowed.Goals as goal

pub loop-j-init : goal.loop-j-init
loop-j-init c = upto_start _ _ _ _

pub put_allowed-requires : goal.put_allowed-requires
put_allowed-requires c = record {
  letters_known = c.requires.letters_known;
  j_lt_mails = (search rules, room_still c.requires.letters_known.heads.ready _ _ _ _ c.loop-j.invariant c.requires.letter_room);
}

pub loop-j-preserved : goal.loop-j-preserved
loop-j-preserved c = upto_next _ _ _ c.loop-j.j _ _ _ (search rules) c.loop-j.invariant c.put_allowed.ensures

pub shape_of-letters : goal.shape_of-letters
shape_of-letters c = c.loop-j.invariant.long

pub returns : goal.returns
returns c = allowed_filled c.requires.letters_known.heads.ready _ _ _ _ _ c.loop-j.invariant (search rules)
