use Prim.Native.Nat.{◌-◌, ◌<◌}
use native.Mathlib.Omega.{arith}
use mathlib.Core.Path.{sym, ◌∙◌}
use borrow.Author.Rules.{rules}
use Rattle.bits.specs.Bits.{Row}
use Rattle.ceilings_form.proofs.Ceilings.{part_size}
use Rattle.ceilings.proofs.Cells.{row_in}
use Rattle.ceilings.proofs.Filling.{filling_start, filling_inside, filling_counter, filling_next, filling_end}
use Rattle.ceilings.proofs.fill_ceiling.Goals as goal

-- an entry that does not close the ceiling has one of the counters, whose limits stand in the table
cell_row : (c : goal.Else-x-n) → Row c.loop-part.limits c.args.count c.entry_counter-x.result
cell_row c =
    let below = filling_counter _ _ _ _ _ _ _ _ c.loop-part.invariant (λ z. c.if-x-n.false (c.entry_counter-x.ensures ∙ z)) in
    row_in _ c.args.n _ _ (omega (arith, below, c.entry_counter-x.ensures)) (omega (arith, c.requires.ceiling_room.cells, c.loop-part.invariant.long))

pub loop-part-init : goal.loop-part-init
loop-part-init c = filling_start _ _ _ _ _ _ c.requires.part_held.1 c.requires.ceiling_room.unfilled

pub entry_counter-x-requires : goal.entry_counter-x-requires
entry_counter-x-requires c = c.requires.part_held.0

pub overflow_add-result : goal.overflow_add-result
overflow_add-result c =
    let inside-here : c.loop-part.i < c.args.part.size = let a = c.args in omega (arith, filling_inside _ _ _ _ _ _ _ _ c.loop-part.invariant, part_size a.ws.now a.part) in let h = inside-here in search rules

pub shape_of-limits-then-x-n : goal.shape_of-limits-then-x-n
shape_of-limits-then-x-n c = c.loop-part.invariant.long

pub returns-then-x-n : goal.returns-then-x-n
returns-then-x-n c =
    let (a, b) = filling_end _ _ _ _ _ _ _ _ c.loop-part.invariant (sym c.entry_counter-x.ensures ∙ c.if-x-n.true) in record { value = sym a; ceiling_filled = b }

pub overflow_mul-at : goal.overflow_mul-at
overflow_mul-at c = let h = cell_row (c) in search rules

pub overflow_add-at : goal.overflow_add-at
overflow_add-at c = let h = cell_row (c) in search rules

pub offset_bounds-limits-at : goal.offset_bounds-limits-at
offset_bounds-limits-at c =
    let cell_row-here : Row c.loop-part.limits c.args.count c.entry_counter-x.result = let below = filling_counter _ _ _ _ _ _ _ _ c.loop-part.invariant (λ z. c.if-x-n.false (c.entry_counter-x.ensures ∙ z)) in
    row_in _ c.args.n _ _ (omega (arith, below, c.entry_counter-x.ensures)) (omega (arith, c.requires.ceiling_room.cells, c.loop-part.invariant.long)) in let h = cell_row-here in search rules

pub bounds-limits-at : goal.bounds-limits-at
bounds-limits-at c =
    let cell_row-here : Row c.loop-part.limits c.args.count c.entry_counter-x.result = let below = filling_counter _ _ _ _ _ _ _ _ c.loop-part.invariant (λ z. c.if-x-n.false (c.entry_counter-x.ensures ∙ z)) in
    row_in _ c.args.n _ _ (omega (arith, below, c.entry_counter-x.ensures)) (omega (arith, c.requires.ceiling_room.cells, c.loop-part.invariant.long)) in let h = cell_row-here in search rules

pub overflow_add-i : goal.overflow_add-i
overflow_add-i c =
    let inside-here : c.loop-part.i < c.args.part.size = let a = c.args in omega (arith, filling_inside _ _ _ _ _ _ _ _ c.loop-part.invariant, part_size a.ws.now a.part) in let h = inside-here in search rules

pub loop-part-smaller : goal.loop-part-smaller
loop-part-smaller c =
    let inside-here : c.loop-part.i < c.args.part.size = let a = c.args in omega (arith, filling_inside _ _ _ _ _ _ _ _ c.loop-part.invariant, part_size a.ws.now a.part) in let h = inside-here in search rules

pub loop-part-preserved : goal.loop-part-preserved
loop-part-preserved c =
    rw (c.entry_counter-x.ensures, c.entry_number.ensures)
    (filling_next _ _ _ _ _ _ _ _ c.loop-part.invariant c.requires.ceiling_room.below (λ z. c.if-x-n.false (c.entry_counter-x.ensures ∙ z))
    c.requires.ceiling_room.cells)
