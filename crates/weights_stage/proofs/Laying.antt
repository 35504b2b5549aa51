-- Room for what the stage makes.
use Prim.Native.Nat.{ℕ, ◌*◌, ◌≤◌}
use native.Mathlib.Omega.{arith}
use mathlib.Core.Path.{◌≡◌}
use mathlib.Core.List.{List}
use lib.ListN.{length}
use Rattle.rooms.specs.Cleared.{Cleared}
use Rattle.model.specs.declared.Sizes.{Sizes}
use Rattle.model.specs.Rows.{program}
use Rattle.model.specs.Limits.{present, max_lines}
use Rattle.model.specs.Tables.{tables}
use Rattle.model.specs.Counters.{counter_count}
use Rattle.model.specs.Demands.{WithinLimits}
use Rattle.closure_sized.proofs.Opening.{product_most}
use Rattle.rules.specs.Derived.{RuleRoom}
use Rattle.ceilings.specs.Table.{BoundsRoom}
use Rattle.stages.specs.Scratch.{ListsFit, WeightsFit}
use Rattle.stages.proofs.Laying.{rule_room, bounds_room}

-- no message has more weights
pub line_cells : (s : Sizes) (n m k : ℕ) → n ≤ m → m * max_lines ≤ k → WithinLimits present s → n * s.lines ≤ k
line_cells s n m k h fit l = let z = product_most n s.lines m max_lines h l.lines in omega arith

-- cleared tables of these sizes are all that the stage asks for
module _ (ws : List ℕ) (s : Sizes) (n cells most list : ℕ) (weights starts counts tos others : List ℕ) where
  pub weights_lent : WithinLimits present s → n ≡ counter_count (program ws s) (tables ws s) → WeightsFit s n cells most → ListsFit n list → Cleared cells weights → Cleared 66 starts → Cleared most counts → Cleared list tos → Cleared list others → (BoundsRoom n s.lines weights starts × (n ≤ length counts)) × (RuleRoom ws s tos others × (length tos ≤ 65536))
  weights_lent l e f g w x c t o =
      let rows = l.rows.1 in
      let lines = l.lines in
      let above = g.values in
      let last = g.most in
      let few = f.counted in
      let q = c.room in
      let r = t.room in (
        (bounds_room _ _ _ _ _ _ f.weighed (omega arith) w x, omega arith),
        (rule_room ws s n list tos others e (omega arith) g.letters g.counters t o, omega arith),
      )
