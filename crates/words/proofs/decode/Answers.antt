use native.Mathlib.Omega.{arith}
use mathlib.Core.Path.{◌≡◌, ◌∙◌}
use lib.ListN.{length, length-set}
use lib.Seq.{take-length}
use Rattle.model.specs.Words.{words}
use Rattle.words.proofs.Words.{words_length, put_next}
use Rattle.words.proofs.decode.Goals as goal

pub loop-i-preserved : goal.loop-i-preserved
loop-i-preserved c =
    let a = c.args in
    let h = c.loop-i in
    let l = words_length a.bytes.now in
    let next = put_next h.i (words a.bytes.now) a.into.now (omega arith) (omega arith) in
    (rw (h.invariant.0, c.word.ensures) next, length-set h.into h.i c.word.result ∙ h.invariant.1)

pub returns : goal.returns
returns c =
    let a = c.args in
    let h = c.loop-i in
    let l = words_length a.bytes.now in
    let e : h.i ≡ length (words a.bytes.now) = omega arith in
    h.invariant.0 ∙ rw (e, take-length (words a.bytes.now))
