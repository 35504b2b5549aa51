use Prim.Native.Nat.{◌-◌, ◌<◌, zero-le}
use native.Mathlib.Nat.{le_refl}
use native.Mathlib.Omega.{arith}
use mathlib.Core.Path.{◌≡◌, refl, ◌∙◌}
use lib.ListN.{length, length-set}
use borrow.Author.Rules.{rules}
use Rattle.ceilings_form.proofs.Ceilings.{part_size, stands, entry_inside}
use Rattle.ceilings.proofs.Filling.{filled_start, filled_next, bounds_table, starts_table}
use Rattle.ceilings.proofs.fill_bounds.Goals as goal

pub loop-k-init : goal.loop-k-init
loop-k-init c = (filled_start _ _ _ c.requires.part_held.1 _ _ c.requires.bounds_room.blank, zero-le, refl, refl)

pub overflow_cast-starts : goal.overflow_cast-starts
overflow_cast-starts c = let a = c.args in let h = entry_inside _ _ _ _ _ c.loop-k.invariant.0.walked in omega (arith, h, part_size a.ws.now a.part, c.requires.part_held.0.few)

-- the ceiling's first entry has its place
inside : (c : goal.In-loop-k) → c.loop-k.k < length c.loop-k.starts
inside c = omega (arith, c.loop-k-test.true, c.loop-k.invariant.3, c.requires.bounds_room.firsts)

pub offset_bounds-starts-k : goal.offset_bounds-starts-k
offset_bounds-starts-k c = let h = inside c in search rules

pub bounds-starts-k : goal.bounds-starts-k
bounds-starts-k c = inside c

pub fill_ceiling-e-requires : goal.fill_ceiling-e-requires
fill_ceiling-e-requires c =
    let h = c.loop-k.invariant in
    let below = c.loop-k-test.true in
    record {
      part_held = (c.requires.part_held.0, stands _ _ _ _ _ h.0.walked below);
      ceiling_room = record { below = below; unfilled = h.0.blank _ (le_refl _) below; cells = omega (arith, h.2, c.requires.bounds_room.cells) };
    }

pub overflow_step-k : goal.overflow_step-k
overflow_step-k c = let h = c.loop-k-test.true in search rules

pub loop-k-smaller : goal.loop-k-smaller
loop-k-smaller c = omega (arith, c.loop-k-test.true)

pub loop-k-preserved : goal.loop-k-preserved
loop-k-preserved c =
    let h = c.loop-k in
    let below = c.loop-k-test.true in (
      rw c.fill_ceiling-e.ensures.value (filled_next _ _ _ _ _ _ _ _ below (omega (arith, below, h.invariant.3, c.requires.bounds_room.firsts)) h.invariant.0 c.fill_ceiling-e.ensures.ceiling_filled),
      omega (arith, below),
      c.fill_ceiling-e.auto.limits ∙ h.invariant.2,
      length-set h.starts h.k h.e ∙ h.invariant.3,
    )

pub returns : goal.returns
returns c =
    let h = c.loop-k in
    let p = c.requires.bounds_room in
    let z : h.k ≡ c.args.count = omega (arith, c.loop-k-test.false, h.invariant.1) in
    record {
      bounds_table = bounds_table _ _ _ _ _ _ _ z h.invariant.0 (omega (arith, h.invariant.2, p.cells));
      starts_table = starts_table _ _ _ _ _ _ _ z h.invariant.0 (omega (arith, h.invariant.3, p.firsts));
    }
