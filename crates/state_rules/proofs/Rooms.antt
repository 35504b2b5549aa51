-- The tables and the room that the rules by letters ask for, from those of all rules.
use Prim.Native.Nat.{ℕ, ◌+◌, ◌≤◌, ◌<◌}
use native.Mathlib.Omega.{arith}
use mathlib.Core.Path.{◌≡◌}
use mathlib.Core.List.{List}
use lib.ListN.{length, get_or}
use Rattle.std.proofs.Common.{Option}
use Rattle.model.specs.declared.Sizes.{Sizes}
use Rattle.model.specs.Rows.{Program, program}
use Rattle.model.specs.Tables.{Tables, tables}
use Rattle.lists.specs.Ready.{Ready}
use Rattle.system_letters.specs.Letters.{letter_width_of}
use Rattle.rules.specs.Derived.{RuleRoom, RuleTables, LetterTables}
use Rattle.rules.specs.Within.{AskedRow}
use Rattle.lettered_rules.specs.Turns.{ClassRoom}
use Rattle.lettered_rules.proofs.Letters.{set_room}
use Rattle.state_rules.specs.Heads.{SendTables, ReceiveTables}

module _ {ws : List ℕ} {s : Sizes} {afters flow-at : List ℕ} {w : ℕ} {fitting names letter_at letters branches : List ℕ} (h : RuleTables ws s afters flow-at w fitting names letter_at letters branches) where
  letter_tables : LetterTables ws s letter_at letters
  letter_tables = record { ready = h.ready; few = h.few; class_letters = h.class_letters; letter_sets_of = h.letter_sets_of }

  pub send_tables : SendTables ws s afters flow-at letter_at letters
  send_tables = record {
    closed = h.closed;
    ends = h.ends;
    sent_tables = record { letter_tables = letter_tables; flow_starts = h.flow_starts };
  }

  pub receive_tables : ReceiveTables ws s afters w fitting names letter_at letters branches
  receive_tables = record {
    branch_bits = h.branch_bits;
    read_tables = record {
      pattern_tables = record {
        match_tables = record { ready = h.ready; name_width = h.name_width; fitting_sets_of = h.fitting_sets_of; name_heads = h.name_heads };
        ends = h.ends;
        letter_tables = letter_tables;
      };
      reads = h.reads;
    };
  }

-- the arrays of a send or receive have room for sets, and its lists for the rules of a class's letters
pub class_room : {ws : List ℕ} {s : Sizes} (h : Ready ws s) (starts letters : List ℕ) → LetterTables ws s starts letters → (within : Option (List ℕ)) (part found tos₀ others₀ tos others : List ℕ) → AskedRow within (letter_width_of (program ws s) (tables ws s)) → length part ≡ 17 → length found ≡ 17 → RuleRoom ws s tos₀ others₀ → length tos ≡ length tos₀ → length others ≡ length others₀ → (n d : ℕ) → d ≤ s.rows → n + get_or starts (d + 1) 0 ≤ length tos + get_or starts d 0 → n ≤ 65536 → ClassRoom ws s starts within part found tos others n d
class_room h starts letters g within part found tos₀ others₀ tos others row u v room e f n d low fits small =
    record {
      value = low;
      within_row = row;
      part_row = set_room h part g.few u;
      found_row = set_room h found g.few v;
      tos_room = fits;
      others_room = omega (arith, room.alike);
      low = small;
    }
