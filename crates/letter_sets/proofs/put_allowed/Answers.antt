use Prim.Native.Nat.{◌+◌, ◌≤◌, ◌<◌}
use native.Mathlib.Omega.{arith}
use mathlib.Core.Path.{◌≡◌, refl}
use lib.ListN.{length}
use Rattle.model.specs.Words.{left}
use Rattle.model.specs.Tables.{tables}
use Rattle.lists.proofs.Facts.{mail_usable}
use Rattle.letter_codes.proofs.Entries.{mail_value_low}
use Rattle.letter_sets.proofs.Putting.{upto_start}
use Rattle.letter_sets.proofs.Filling.{mail_class, class_inside, ClassRange, class_words, allowed_row, allowed_put, allowed_left, allowed_over}
use Rattle.letter_sets.proofs.put_allowed.Goals as goal
use Rattle.letter_sets.proofs.put_allowed.Goals.{then-allows, else-allows}

pub letter_width-w-requires : goal.letter_width-w-requires
letter_width-w-requires c = record { ready = c.requires.letters_known.heads.ready; class_letters = c.requires.letters_known.class_letters }

pub value_arity-count-requires : goal.value_arity-count-requires
value_arity-count-requires c =
    let low-here : c.mail_value-v.result < 65536 = mail_value_low c.requires.letters_known.heads.ready _ _ c.requires.j_lt_mails.0 c.mail_value-v.ensures in record { whole = c.requires.letters_known.heads.ready.whole; v_bound = low-here }

pub left-c-requires : goal.left-c-requires
left-c-requires c = (mail_usable c.requires.letters_known.heads.ready _ c.mail-list.ensures).0

-- the class is that of mail entry j, and there are words for it
class : (c : goal.After-left-c) → c.left-c.result ≡ left (tables c.args.ws.now c.args.s).mail c.args.j
class c = mail_class _ _ _ _ _ c.left-c.ensures c.mail-list.ensures

inside : (c : goal.After-left-c) → (c.left-c.result + 1 < length c.args.letter_at.now) × (c.left-c.result ≤ c.args.s.rows)
inside c = class_inside c.requires.letters_known.heads.ready _ _ _ c.requires.letters_known.class_letters c.requires.j_lt_mails.0 (class c)

pub word-from-requires : goal.word-from-requires
word-from-requires c = omega (arith, inside c)

pub overflow_add-c : goal.overflow_add-c
overflow_add-c c =
    let class_here : c.left-c.result ≡ left (tables c.args.ws.now c.args.s).mail c.args.j = mail_class _ _ _ _ _ c.left-c.ensures c.mail-list.ensures in
    let inside-here : (c.left-c.result + 1 < length c.args.letter_at.now) × (c.left-c.result ≤ c.args.s.rows) = class_inside c.requires.letters_known.heads.ready _ _ _ c.requires.letters_known.class_letters c.requires.j_lt_mails.0 class_here in record { fits = omega (arith, inside-here, c.requires.letters_known.heads.ready.limits.rows) }

pub word-to-requires : goal.word-to-requires
word-to-requires c =
    let class_here : c.left-c.result ≡ left (tables c.args.ws.now c.args.s).mail c.args.j = mail_class _ _ _ _ _ c.left-c.ensures c.mail-list.ensures in
    let inside-here : (c.left-c.result + 1 < length c.args.letter_at.now) × (c.left-c.result ≤ c.args.s.rows) = class_inside c.requires.letters_known.heads.ready _ _ _ c.requires.letters_known.class_letters c.requires.j_lt_mails.0 class_here in omega (arith, inside-here)

-- the letters of the class, as the words tell them
range : (c : goal.After-word-to) → ClassRange c.requires.letters_known.heads.ready c.args.j c.word-from.result c.word-to.result
range c = class_words c.requires.letters_known.heads.ready _ _ _ _ _ c.requires.letters_known.class_letters c.requires.j_lt_mails.0 (mail_class _ _ _ _ _ c.left-c.ensures c.mail-list.ensures) c.word-from.ensures.0 c.word-to.ensures.0

pub loop-y-init : goal.loop-y-init
loop-y-init c = upto_start _ _ _ _

pub bounds-codes-y : goal.bounds-codes-y
bounds-codes-y c =
    let class_here : c.left-c.result ≡ left (tables c.args.ws.now c.args.s).mail c.args.j = mail_class _ _ _ _ _ c.left-c.ensures c.mail-list.ensures in
    let range-here : ClassRange c.requires.letters_known.heads.ready c.args.j c.word-from.result c.word-to.result = class_words c.requires.letters_known.heads.ready _ _ _ _ _ c.requires.letters_known.class_letters c.requires.j_lt_mails.0 class_here c.word-from.ensures.0 c.word-to.ensures.0 in omega (arith, range-here.most, c.requires.letters_known.coded.room)

pub allows-requires : goal.allows-requires
allows-requires c =
    let low-here : c.mail_value-v.result < 65536 = mail_value_low c.requires.letters_known.heads.ready _ _ c.requires.j_lt_mails.0 c.mail_value-v.ensures in record { heads_known = c.requires.letters_known.heads; value_told = record { low = low-here; head_is = c.row_head-head.ensures; count_is = c.value_arity-count.ensures } }

pub put-requires : goal.put-requires
put-requires c =
    let class_here : c.left-c.result ≡ left (tables c.args.ws.now c.args.s).mail c.args.j = mail_class _ _ _ _ _ c.left-c.ensures c.mail-list.ensures in
    let range-here : ClassRange c.requires.letters_known.heads.ready c.args.j c.word-from.result c.word-to.result = class_words c.requires.letters_known.heads.ready _ _ _ _ _ c.requires.letters_known.class_letters c.requires.j_lt_mails.0 class_here c.word-from.ensures.0 c.word-to.ensures.0 in let z = allowed_row c.requires.letters_known.heads.ready _ _ _ _ _ _ _ _ c.letter_width-w.ensures refl c.requires.j_lt_mails.0 c.requires.j_lt_mails.1 c.loop-y.invariant.long range-here c.loop-y-test.true in record { v_bound = z.0; row = z.1 }

pub loop-y-preserved : goal.loop-y-preserved
loop-y-preserved c =
    let h = c.requires.letters_known.heads.ready in
    let i = c.loop-y.invariant in
    let from : c.word-from.result ≤ c.loop-y.y = omega arith in
    elim c.if-allows.branch [
      | then-allows z ↦ rw z.letters-is (allowed_put h _ _ _ _ _ _ _ _ _ _ _ _ _ i from c.mail_value-v.ensures refl refl c.allows.ensures z.if-allows.true z.put.ensures)
      | else-allows z ↦ rw z.letters-is (allowed_left h _ _ _ _ _ _ _ _ _ _ _ i from c.mail_value-v.ensures refl c.allows.ensures z.if-allows.false)
    ]

pub shape_of-letters : goal.shape_of-letters
shape_of-letters c = c.loop-y.invariant.long

pub returns : goal.returns
returns c =
    let class_here : c.left-c.result ≡ left (tables c.args.ws.now c.args.s).mail c.args.j = mail_class _ _ _ _ _ c.left-c.ensures c.mail-list.ensures in
    let range-here : ClassRange c.requires.letters_known.heads.ready c.args.j c.word-from.result c.word-to.result = class_words c.requires.letters_known.heads.ready _ _ _ _ _ c.requires.letters_known.class_letters c.requires.j_lt_mails.0 class_here c.word-from.ensures.0 c.word-to.ensures.0 in allowed_over c.requires.letters_known.heads.ready _ _ _ _ _ _ _ _ _ c.letter_width-w.ensures range-here c.loop-y.invariant (let o = range-here.order in omega (arith, c.loop-y-test.false))
