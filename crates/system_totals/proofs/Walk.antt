-- A walk over the states: the tables for one state keep their lengths.
use Prim.Native.Nat.{ℕ}
use native.Mathlib.Omega.{arith}
use mathlib.Core.Path.{◌≡◌, refl, ◌∙◌}
use mathlib.Core.List.{List}
use lib.ListN.{length}
use Rattle.model.specs.declared.Sizes.{Sizes}
use Rattle.model.specs.Rows.{Program}
use Rattle.model.specs.Tables.{Tables}
use Rattle.rules.specs.Derived.{RuleRoom}

pub record Walk (at₀ tos₀ others₀ at tos others : List ℕ) : Type 0 where
  pub at_long : length at ≡ length at₀
  pub tos_long : length tos ≡ length tos₀
  pub others_long : length others ≡ length others₀

-- as much room as before
pub room_kept : (ws : List ℕ) (s : Sizes) (tos₀ others₀ tos others : List ℕ) → RuleRoom ws s tos₀ others₀ → length tos ≡ length tos₀ → length others ≡ length others₀ → RuleRoom ws s tos others
room_kept ws s tos₀ others₀ tos others r e f = record {
  values = omega (arith, r.values);
  letters = omega (arith, r.letters);
  counters = omega (arith, r.counters);
  alike = omega (arith, r.alike);
}

module _ (at₀ tos₀ others₀ : List ℕ) where
  pub walk_begin : Walk at₀ tos₀ others₀ at₀ tos₀ others₀
  walk_begin = record { at_long = refl; tos_long = refl; others_long = refl }

  module _ (at tos others : List ℕ) (h : Walk at₀ tos₀ others₀ at tos others) where
    pub walk_next : (at' tos' others' : List ℕ) → length at' ≡ length at → length tos' ≡ length tos → length others' ≡ length others → Walk at₀ tos₀ others₀ at' tos' others'
    walk_next at' tos' others' a b c = record { at_long = a ∙ h.at_long; tos_long = b ∙ h.tos_long; others_long = c ∙ h.others_long }

    -- there is room for the rules of the next state
    pub walk_room : (ws : List ℕ) (s : Sizes) → RuleRoom ws s tos₀ others₀ → RuleRoom ws s tos others
    walk_room ws s r = room_kept ws s tos₀ others₀ tos others r h.tos_long h.others_long
