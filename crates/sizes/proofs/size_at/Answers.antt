-- Past the last word the list of words gives 0.
use native.Mathlib.Omega.{arith}
use mathlib.Core.Path.{sym}
use lib.ListN.{get_or-eq_default}
use Rattle.model.specs.Words.{words}
use Rattle.words.proofs.Words.{words_length}
use borrow.Author.Rules.{rules}
use Rattle.sizes.proofs.size_at.Goals as goal

pub returns-else-i-bytes : goal.returns-else-i-bytes
returns-else-i-bytes c =
    let a = c.args in
    let l = words_length a.bytes.now in
    record {
      value = sym (get_or-eq_default (words a.bytes.now) 0 {n = a.i} (omega arith));
      upper_bound = search rules;
    }
