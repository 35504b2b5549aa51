use native.Mathlib.Omega.{arith}
use mathlib.Core.Path.{◌≡◌, sym, ◌∙◌}
use borrow.Author.Rules.{rules}
use Rattle.std.proofs.Common.{Err}
use Rattle.message.proofs.Whole.{whole_message, refused_message}
use Rattle.checks_sized.proofs.Decoding.{parts_refused}
use Rattle.checks_sized.proofs.verdict.bytes_verdict.Goals as goal

pub returns-in_err-s : goal.returns-in_err-s
returns-in_err-s c =
    let v = c.in_err-s.field-0.0 in
    let told : c.from_residual.result ≡ Err v = search rules in
    let z = parts_refused c.args.bytes.now _ v _ (refused_message _ _ (sym c.parts_of.ensures ∙ c.in_err-s.was)) told in record { value = z.0; lent_after = z.1 }

pub whole_verdict-requires : goal.whole_verdict-requires
whole_verdict-requires c = record { le_most = omega arith; whole_message = whole_message _ _ (sym c.parts_of.ensures ∙ c.in_ok-s.was) }
