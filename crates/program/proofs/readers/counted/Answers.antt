use Prim.Native.Nat.{ℕ, ◌+◌, ◌<◌}
use native.Mathlib.Omega.{arith}
use mathlib.Core.Path.{◌≡◌, sym, ◌∙◌}
use mathlib.Core.List.{[], ◌∷◌}
use lib.ListN.{replicate}
use borrow.Author.Rules.{rules}
use Rattle.model.specs.Rows.{program, num}
use Rattle.program.specs.Rows.{from, listed_item, counted_items}
use Rattle.program.proofs.Items.{counted_says}
use Rattle.program.proofs.Reading.{wrong_answer, go_on, stop}
use Rattle.program.proofs.readers.counted.Goals as goal

pub returns-then-not-is_small_row : goal.returns-then-not-is_small_row
returns-then-not-is_small_row c = wrong_answer _ (stop _ _ _ _ _ (counted_says _ _ _ _ _ c.requires.r_le_rows.1) c.is_small_row.ensures c.if-not-is_small_row.true)

pub names-requires : goal.names-requires
names-requires c =
    let entered-here : let a = c.args in let p = program a.ws.now a.s in (a.r < a.s.rows) × ((n : ℕ) → n ≡ num p a.r → from p (counted_items a.t ∷ []) a.r ≡ from p (replicate n (listed_item a.t)) (a.r + 1)) = let a = c.args in
    go_on _ _ _ (λ n. replicate n (listed_item a.t)) a.r (counted_says _ _ _ _ _ c.requires.r_le_rows.1)
    c.is_small_row.ensures c.if-not-is_small_row.false in record { whole = search rules; r_le_rows = (omega (arith, entered-here.0), c.requires.r_le_rows.1) }

pub returns : goal.returns
returns c =
    let entered-here : let a = c.args in let p = program a.ws.now a.s in (a.r < a.s.rows) × ((n : ℕ) → n ≡ num p a.r → from p (counted_items a.t ∷ []) a.r ≡ from p (replicate n (listed_item a.t)) (a.r + 1)) = let a = c.args in
    go_on _ _ _ (λ n. replicate n (listed_item a.t)) a.r (counted_says _ _ _ _ _ c.requires.r_le_rows.1)
    c.is_small_row.ensures c.if-not-is_small_row.false in c.names.ensures ∙ sym (entered-here.1 _ c.num-n.ensures)
