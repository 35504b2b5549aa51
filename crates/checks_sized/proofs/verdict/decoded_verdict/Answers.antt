use native.Mathlib.Omega.{arith}
use mathlib.Core.Path.{sym, ap, ◌∙◌}
use lib.ListN.{length}
use Rattle.words.proofs.Words.{words_length}
use Rattle.checks_sized.proofs.Decoding.{decoded, parts_whole, whole_told, whole_written}
use Rattle.checks_sized.proofs.verdict.decoded_verdict.Goals as goal

pub slice_bounds-sized_verdict-end-2 : goal.slice_bounds-sized_verdict-end-2
slice_bounds-sized_verdict-end-2 c = sym (words_length _) ∙ sym (ap length (decoded _ _ _ c.decode.ensures))

pub sized_verdict-requires : goal.sized_verdict-requires
sized_verdict-requires c = record { le_most = omega arith; parts_whole = parts_whole _ _ _ c.requires.whole_message (decoded _ _ _ c.decode.ensures) }

pub returns : goal.returns
returns c =
    let e = decoded c.args.bytes.now _ _ c.decode.ensures in
    record {
      value = whole_told c.args.bytes.now c.args.s _ c.requires.whole_message e _ _ c.sized_verdict.ensures.value;
      lent_after = whole_written c.args.bytes.now c.args.s _ c.requires.whole_message e _ _ _ c.sized_verdict.ensures.value c.sized_verdict.ensures.lent_after;
    }
