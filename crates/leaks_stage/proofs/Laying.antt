-- Room for the rules of a state behind those that are kept.
use Prim.Native.Nat.{ℕ, ◌≤◌}
use native.Mathlib.Omega.{arith}
use mathlib.Core.Path.{◌≡◌}
use mathlib.Core.List.{List}
use lib.ListN.{length, length-drop}
use Rattle.model.specs.declared.Sizes.{Sizes}
use Rattle.model.specs.Words.{columns}
use Rattle.model.specs.Rows.{program}
use Rattle.model.specs.Tables.{tables, entries}
use Rattle.model.specs.Counters.{counter_count}
use Rattle.rules.specs.Derived.{RuleRoom}
use Rattle.kept_rules.specs.Kept.{RoomFrom}
use Rattle.stages.specs.Scratch.{Limited, RulesFit}
use Rattle.ceilings_masks.specs.Compared.{Holders}
use Rattle.ceilings_leaks.specs.Leaks.{CeilingsReady}

-- room for the rules of a state, also behind the first `spare` words
pub rules_fit : (ws : List ℕ) (s : Sizes) (tos others : List ℕ) (room : ℕ) → room ≡ length tos → RuleRoom ws s tos others → RulesFit ws s 0 room
rules_fit ws s tos others room e r = let v = r.values in let l = r.letters in let k = r.counters in record { values = omega arith; letters = omega arith; counters = omega arith }

pub spare_room : (ws : List ℕ) (s : Sizes) (spare : ℕ) (tos others : List ℕ) (room : ℕ) → room ≡ length tos → RuleRoom ws s tos others → RulesFit ws s spare room → RoomFrom ws s spare tos others
spare_room ws s spare tos others room e r f =
    let a = r.alike in
    let x = length-drop spare tos in
    let y = length-drop spare others in
    let v = f.values in
    let l = f.letters in
    let k = f.counters in
    record { room = record { values = omega arith; letters = omega arith; counters = omega arith; alike = omega arith } }

-- each state is a counter
pub states_few : (ws : List ℕ) (s : Sizes) (n : ℕ) → n ≡ counter_count (program ws s) (tables ws s) → s.states ≤ n
unfolding counter_count tables entries columns
states_few ws s n e = omega (arith, e)

-- the ceilings with their limits, and with the sets of those that hold each counter
pub with_holders : (ws : List ℕ) (s : Sizes) (n : ℕ) (limits starts holders : List ℕ) → Limited ws s n limits starts → Holders limits s.ceilings n holders → CeilingsReady ws s n limits starts holders
with_holders ws s n limits starts holders l h =
    record {
      counted = l.counted;
      in_form = l.in_form;
      limits_table = l.limits_table;
      starts_table = l.starts_table;
      held_by = h;
    }
