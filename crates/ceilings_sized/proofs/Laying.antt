-- Room for what the stage of the ceilings asks for, in each size.
use Prim.Native.Nat.{ℕ, ◌*◌, ◌≤◌, ◌<◌}
use native.Mathlib.Omega.{arith}
use mathlib.Core.Path.{◌≡◌}
use mathlib.Core.List.{List}
use lib.ListN.{length}
use Rattle.rooms.specs.Cleared.{Cleared}
use Rattle.rooms.specs.Rooms.{limit_room}
use Rattle.model.specs.declared.Sizes.{Sizes}
use Rattle.model.specs.Rows.{program}
use Rattle.model.specs.Limits.{present, max_counters, max_ceilings}
use Rattle.model.specs.Tables.{tables}
use Rattle.model.specs.Counters.{counter_count}
use Rattle.model.specs.Demands.{WithinLimits}
use Rattle.closure_sized.proofs.Opening.{product_most}
use Rattle.rules.specs.Derived.{RuleRoom}
use Rattle.ceilings.specs.Table.{BoundsRoom}
use Rattle.stages.specs.Scratch.{MaskRoom, ListsFit, LimitsFit}
use Rattle.stages.proofs.Laying.{rule_room, bounds_room}

-- no message has more limits
pub all_cells : (s : Sizes) (n : ℕ) → n ≤ max_counters → WithinLimits present s → n * s.ceilings ≤ limit_room
all_cells s n h l = product_most n s.ceilings max_counters max_ceilings (omega arith) l.ceilings

-- sets of ceilings for n counters
pub mask_room : (j l n : ℕ) (holders group near : List ℕ) → n * 12 ≤ j → n * 8 ≤ l → Cleared j holders → Cleared j group → Cleared l near → MaskRoom n holders group near
mask_room j l n holders group near g h a b c =
    record {
      held = let q = a.room in omega arith;
      states = let q = b.room in omega arith;
      beside = let q = c.room in omega arith;
    }

-- cleared tables of these sizes are all that the stage asks for
module _ (ws : List ℕ) (s : Sizes) (n cells counts triples pairs list : ℕ) (limits ceiling-at sums holders group near tos others : List ℕ) where
  pub limits_lent : WithinLimits present s → n ≡ counter_count (program ws s) (tables ws s) → LimitsFit s n cells counts triples pairs → ListsFit n list → Cleared cells limits → Cleared 258 ceiling-at → Cleared counts sums → Cleared triples holders → Cleared triples group → Cleared pairs near → Cleared list tos → Cleared list others → (BoundsRoom n s.ceilings limits ceiling-at × (n < length sums)) × (MaskRoom n holders group near × (RuleRoom ws s tos others × (length tos ≤ 65536)))
  limits_lent l e f g a b c d u v t o =
      let rows = l.rows.1 in
      let count = l.ceilings in
      let above = g.values in
      let most = g.most in
      let summed = f.summed in
      let q = c.room in
      let r = t.room in (
        (bounds_room _ _ _ _ _ _ f.limited (omega arith) a b, omega arith),
        (
          mask_room triples pairs n holders group near f.held f.beside d u v,
          (rule_room ws s n list tos others e (omega arith) g.letters g.counters t o, omega arith),
        ),
      )
