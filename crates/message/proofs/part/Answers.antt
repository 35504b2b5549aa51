-- Each return is one law of a part, at the tests that led there.
use native.Mathlib.Omega.{arith}
use mathlib.Core.Path.{sym, ap}
use Rattle.model.specs.Words.{words}
use Rattle.model.specs.Verify.{outcome}
use Rattle.words.proofs.Words.{words_length}
use Rattle.message.proofs.Checks.{part_no_sizes, part_outside, part_no_arrays, part_whole}
use Rattle.message.proofs.part.Goals as goal

pub returns-then-words-at : goal.returns-then-words-at
unfolding outcome
returns-then-words-at c ls n w =
    let a = c.args in
    let l = words_length a.bytes.now in
    sym (ap outcome (part_no_sizes (words a.bytes.now) a.at ls a.cells (omega arith)))

pub returns-then-wrong-count : goal.returns-then-wrong-count
unfolding outcome
returns-then-wrong-count c ls n w =
    let a = c.args in
    let l = words_length a.bytes.now in
    sym (ap outcome (part_outside (words a.bytes.now) a.at ls a.cells a.wrong w (omega arith) (omega arith)))

pub returns-then-words-at-2 : goal.returns-then-words-at-2
unfolding outcome
returns-then-words-at-2 c ls n w =
    let a = c.args in
    let l = words_length a.bytes.now in
    sym (ap outcome (part_no_arrays (words a.bytes.now) a.at ls a.cells (omega arith) (omega arith) (omega arith)))

pub returns : goal.returns
unfolding outcome
returns c ls n w =
    let a = c.args in
    let l = words_length a.bytes.now in
    sym (ap outcome (part_whole (words a.bytes.now) a.at ls a.cells (omega arith) (omega arith)))
