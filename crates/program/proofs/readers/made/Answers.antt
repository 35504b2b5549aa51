use Prim.Native.Nat.{ℕ, ◌+◌, ◌<◌}
use native.Mathlib.Omega.{arith}
use mathlib.Core.Path.{◌≡◌, refl, sym, ◌∙◌}
use mathlib.Core.List.{[], ◌∷◌}
use lib.ListN.{replicate}
use borrow.Author.Rules.{rules}
use Rattle.model.specs.Rows.{program, num, made, operand, arity}
use Rattle.program.specs.Rows.{from, listed, listed_item}
use Rattle.program.proofs.Items.{made_says}
use Rattle.program.proofs.Reading.{wrong_answer, replicate_by, go_on, stop}
use Rattle.program.proofs.readers.made.Goals as goal

pub returns-then-not-is_row : goal.returns-then-not-is_row
returns-then-not-is_row c = wrong_answer _ (stop _ _ made _ _ (made_says _ _ _ _) c.is_row.ensures c.if-not-is_row.true)

pub names-requires : goal.names-requires
unfolding listed
names-requires c =
    let entered-here : let a = c.args in let p = program a.ws.now a.s in (a.r < a.s.rows) × ((k : ℕ) → k ≡ num p a.r → from p (made ∷ []) a.r ≡ from p (replicate (arity p k) operand) (a.r + 1)) = let a = c.args in
    go_on _ _ made (λ k. replicate (arity (program a.ws.now a.s) k) operand) a.r (made_says _ _ _ _) c.is_row.ensures
    c.if-not-is_row.false in record { whole = search rules; r_le_rows = (omega (arith, entered-here.0), refl) }

pub returns : goal.returns
unfolding arity listed_item
returns c =
    let entered-here : let a = c.args in let p = program a.ws.now a.s in (a.r < a.s.rows) × ((k : ℕ) → k ≡ num p a.r → from p (made ∷ []) a.r ≡ from p (replicate (arity p k) operand) (a.r + 1)) = let a = c.args in
    go_on _ _ made (λ k. replicate (arity (program a.ws.now a.s) k) operand) a.r (made_says _ _ _ _) c.is_row.ensures
    c.if-not-is_row.false in
    c.names.ensures ∙ (replicate_by _ operand c.num-n.result _ _ c.num-n.ensures ∙ sym (entered-here.1 _ c.num-k.ensures))
