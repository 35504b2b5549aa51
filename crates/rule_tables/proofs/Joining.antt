-- Tables one behind the other: what each says of its part, when words of another part change, and how a part is lent.
use Prim.Native.Nat.{ℕ, zero, suc, ◌+◌, ◌*◌, ◌-◌, ◌≤◌, ◌<◌}
use native.Mathlib.Decide.{dec_lt}
use native.Mathlib.Omega.{arith}
use mathlib.Core.Path.{◌≡◌, refl, sym, ◌∙◌, ap}
use mathlib.Core.List.{List, [], ◌∷◌, ◌++◌, append-nil}
use lib.ListN.{length, get_or, take, drop, length-drop, length-append, drop_of_length-le}
use lib.Seq.{get_or-take, get_or-drop, length-take-le, take_at, drop_at}
use borrow.Author.Rules.{part_to_end}
use Rattle.bits.specs.Bits.{Filled}
use Rattle.model.specs.declared.Sizes.{Sizes}
use Rattle.model.specs.Limits.{present}
use Rattle.model.specs.Demands.{WithinLimits}
use Rattle.model.specs.Reader.{Grammar, past, read}
use Rattle.model.specs.Words.{Columns}
use Rattle.model.specs.Rows.{Program, program, size, step}
use Rattle.model.specs.Tables.{Tables, tables}
use Rattle.model.proofs.Reader.{past_wrong, read_end}
use Rattle.lists.specs.Lists.{Starts}
use Rattle.layout.specs.Tables.{Ends}
use Rattle.positions.specs.Branches.{BranchBits}
use Rattle.values.specs.Values.{width}
use Rattle.system_letters.specs.Letters.{ClassLetters}
use Rattle.rules.specs.Derived.{RuleTables}
use Rattle.rule_tables.specs.Joined.{flow_from, branches_from, letter_from, JoinedTables, SameBelow, Joined}

-- where something stands there is a row
row_below : {Item : Type 0} (step : Grammar Item) (rows : Columns) (item : Item) (r e n : ℕ) → read step rows (n - r) (item ∷ []) r ≡ past e → r < n
row_below step rows item r e n h =
    elim (dec_lt r n) [
      | yes l ↦ l
      | no l ↦ let z : n - r ≡ 0 = omega arith in past_wrong e r (sym (rw z at h) ∙ read_end step rows item [] r)
    ]

-- a table of which no word that it asks for has changed
pub ends_kept : (p : Program) (n : ℕ) (before after : List ℕ) → size p ≤ n → length after ≡ length before → SameBelow n before after → Ends p before → Ends p after
ends_kept p n before after l e k h =
    record {
      room = let z = h.room in omega arith;
      after_expression = λ r q g. k r (let z = row_below (step p) p.rows _ r q (size p) g in omega arith) ∙ h.after_expression r q g;
      after_pattern = λ r d q g. k r (let z = row_below (step p) p.rows _ r q (size p) g in omega arith) ∙ h.after_pattern r d q g;
    }

pub starts_kept : (c : Columns) (n : ℕ) (before after : List ℕ) → n < length after → SameBelow (n + 1) before after → Starts c n before → Starts c n after
starts_kept c n before after l k h = record { room = l; start = λ a g. k a (omega arith) ∙ h.start a g }

pub branches_kept : (p : Program) (t : Tables) (before after : List ℕ) → t.states.size ≤ length after → SameBelow t.states.size before after → BranchBits p t before → BranchBits p t after
branches_kept p t before after l k h =
    record {
      room = l;
      case_bit = λ i n b qs g u v. rw (k i g) (h.case_bit i n b qs g u v);
      case_end = λ i n qs g u. rw (k i g) (h.case_end i n qs g u);
      receive_bit = λ i b qs g u v. rw (k i g) (h.receive_bit i b qs g u v);
      receive_end = λ i qs g u. rw (k i g) (h.receive_end i qs g u);
    }

-- the same of a part from a on
pub same_part : (a m n : ℕ) (before after : List ℕ) → a + m ≤ n → SameBelow n before after → SameBelow m (drop a before) (drop a after)
same_part a m n before after l k x g = get_or-drop a after x 0 ∙ (k (a + x) (omega arith) ∙ sym (get_or-drop a before x 0))

-- a list whose rest behind a was lent and came back as ys
pub put_rest : (a : ℕ) (xs ys : List ℕ) → a ≤ length xs → drop a (take a xs ++ (ys ++ drop (length xs - a) (drop a xs))) ≡ ys
put_rest a xs ys h =
    let all : length (drop a xs) ≤ length xs - a = (let z = length-drop a xs in omega arith) in
    drop_at (take a xs) (ys ++ drop (length xs - a) (drop a xs)) a (length-take-le a xs h) ∙
    (ap (λ zs. ys ++ zs) (drop_of_length-le (drop a xs) all) ∙ append-nil ys)

pub put_below : (a : ℕ) (xs zs : List ℕ) → a ≤ length xs → SameBelow a xs (take a xs ++ zs)
put_below a xs zs h x l =
    sym (get_or-take a (take a xs ++ zs) x 0 l) ∙
    (ap (λ ys. get_or ys x 0) (take_at (take a xs) zs a (length-take-le a xs h)) ∙ get_or-take a xs x 0 l)

-- the parts as they are lent for reading
module _ (ws : List ℕ) (s : Sizes) (narrow fitting names letters : List ℕ) (r : JoinedTables ws s narrow fitting names letters) where
  pub long : letter_from ≤ length narrow
  long = let z = length-drop letter_from narrow in let y = r.class_letters.room in omega arith

  pub lent_tables : (w : ℕ) → w ≡ width s.names → RuleTables ws s narrow (take (length narrow - flow_from) (drop flow_from narrow)) w fitting names (take (length narrow - letter_from) (drop letter_from narrow)) letters (take (length narrow - branches_from) (drop branches_from narrow))
  lent_tables w e = rw (part_to_end narrow flow_from, part_to_end narrow letter_from, part_to_end narrow branches_from, e) r

  pub lent_letters : ClassLetters (program ws s) (tables ws s) (take (length narrow - letter_from) (drop letter_from narrow))
  lent_letters = rw (part_to_end narrow letter_from) r.class_letters

-- two tables put behind the front
module _ (s : Sizes) (flow-at branches before middle after : List ℕ) (l : WithinLimits present s) (f : Filled before middle flow_from (s.names + 1) (λ j. get_or flow-at j 0)) (g : Filled middle after branches_from s.states (λ j. get_or branches j 0)) where
  pub joined : Joined s flow-at branches before after
  joined =
      let few = l.names.1 in
      record {
        long = g.long ∙ f.long;
        front = λ x h. g.below x (omega arith) ∙ f.below x h;
        flow = λ a h. get_or-drop flow_from after a 0 ∙ (g.below (flow_from + a) (omega arith) ∙ f.done a (omega arith));
        branch = λ i h. get_or-drop branches_from after i 0 ∙ g.done i h;
      }
