-- The rules of a send, class by class.
use Prim.Native.Nat.{ℕ, ◌+◌, ◌≤◌, ◌<◌}
use native.Mathlib.Omega.{arith}
use mathlib.Core.Path.{◌≡◌, refl, sym, ◌∙◌, ap}
use mathlib.Core.Bool.{Bool, true, false, not}
use mathlib.Core.List.{List, []}
use mathlib.Core.Logic.{⊎_elim}
use lib.ListN.{length, get_or}
use Rattle.std.proofs.Common.{Option}
use borrow.Author.Tests.{not-true, not-false}
use Rattle.model.specs.declared.Sizes.{Sizes}
use Rattle.model.specs.Index.{gather}
use Rattle.model.specs.Limits.{max_counters}
use Rattle.model.specs.Words.{right, columns}
use Rattle.model.specs.Rows.{Program, program, tag, num, kind, send}
use Rattle.model.specs.Scopes.{rest}
use Rattle.model.specs.Heads.{is_class_of, head_at, sends}
use Rattle.model.specs.Tables.{Tables, tables, entries, has, each, state_at, state_index_of, onward}
use Rattle.model.specs.Closed.{send_closed, state_closed}
use Rattle.model.specs.Counters.{letters_allowed, counter_count}
use Rattle.model.specs.Rules.{state_rules_of, from_each, puts}
use Rattle.model.specs.Wanted.{Member}
use Rattle.model.proofs.Logic.{and_left, implies_elim}
use Rattle.model.proofs.Heads.{head_send}
use Rattle.lists.specs.Lists.{range_from, range_to}
use Rattle.lists.specs.Ready.{Ready}
use Rattle.lists.proofs.Facts.{flow_form, flow_rises}
use Rattle.values.proofs.Names.{class_upto}
use Rattle.values.proofs.Members.{each_at, at_each}
use Rattle.system_letters.specs.Letters.{ClassLetters, letter_width_of, Found}
use Rattle.system_letters.proofs.Classes.{before_upto}
use Rattle.rules.specs.Derived.{RuleRoom, LetterTables}
use Rattle.rules.specs.Within.{only_passing, AskedRow}
use Rattle.rules.specs.Listed.{kind_effect}
use Rattle.rules.proofs.Gather.{each_range}
use Rattle.rules.proofs.Entries.{entry_in}
use Rattle.plain_rules.proofs.Heads.{value_from}
use Rattle.lettered_rules.specs.Turns.{letter_rules, sent_turn, ClassRoom}
use Rattle.lettered_rules.proofs.Letters.{class_range, class_order}
use Rattle.state_rules.specs.Heads.{send_turn}
use Rattle.state_rules.proofs.Rooms.{class_room}

module _ {ws : List ℕ} {s : Sizes} (h : Ready ws s) where
  abbrev p : Program
  p = program ws s

  abbrev t : Tables
  t = tables ws s

  -- "mail (d, v)": the values of a message are in the mail of each class that the target may be
  pub sent_mailed : (x r j d m from to : ℕ) → r ≡ right t.states x → state_closed p t (state_at t x) ≡ true → tag p r ≡ 5 → from ≡ range_from t.flow (num p (r + 1)) → to ≡ range_to t.flow (num p (r + 1)) → from ≤ j → j < to → d ≡ right t.flow j → m ≡ num p (r + 2) → is_class_of p d ≡ true → each t.flow m (has t.mail d) ≡ true
  unfolding state_closed send_closed kind state_at
  sent_mailed x r j d m from to row closed e begin end lo hi same message class =
      let head : head_at p (right t.states x) ≡ sends (num p r) (num p (r + 1)) (num p (r + 2)) (rest p r) = ap (head_at p) (sym row) ∙ head_send p r (rw e) in
      let all : send_closed p t (state_at t x) (num p r) (num p (r + 1)) (num p (r + 2)) (rest p r) ≡ true = rw (head, state_closed) at closed in
      let (target, inside) = entry_in h (num p (r + 1)) j (omega arith) (omega arith) in
      let mem : Member t.flow (num p (r + 1)) d = record { at = j; below = inside; first = target; second = sym same } in
      let one = implies_elim (is_class_of p d) _ (each_at t.flow (num p (r + 1)) _ all d mem) class in
      rw message (at_each t.flow (num p (r + 2)) (has t.mail d) (λ v o. and_left (has t.mail d v) _ (each_at t.flow (num p (r + 2)) _ one v o)))

  -- later entries of a name have later classes
  pub later_value : (starts : List ℕ) → ClassLetters p t starts → (a j : ℕ) → range_from t.flow a ≤ j → j + 1 < range_to t.flow a → (get_or starts (right t.flow j + 1) 0 ≤ get_or starts (right t.flow (j + 1)) 0) × (get_or starts (right t.flow j) 0 ≤ get_or starts (right t.flow (j + 1)) 0)
  unfolding program columns
  later_value starts g a j b c =
      let (u, v) = entry_in h a j b (omega arith) in
      let (x, y) = entry_in h a (j + 1) (omega arith) c in
      let low = (value_from h a (range_from t.flow a) (j + 1) refl (omega arith) c).1 in
      let up : right t.flow j < right t.flow (j + 1) = ⊎_elim (λ z. absurd (omega arith)) (λ z. ⊎_elim (λ w. w) (λ w. absurd w.1) z.1) ((flow_form h).ascending j (j + 1) (omega arith) y) in
      let one = before_upto p t (right t.flow j + 1) (right t.flow (j + 1)) (omega arith) in
      let two = class_range h starts g (right t.flow j) (omega arith) in
      let three = g.start (right t.flow (j + 1)) (omega arith) in
      (omega (arith, two.1), omega (arith, two.1, (class_order h starts g (right t.flow j) (omega arith)).0))

  pub send_value : (a j d from to : ℕ) → from ≡ range_from t.flow a → to ≡ range_to t.flow a → from ≤ j → j < to → d ≡ right t.flow j → d ≤ s.rows
  send_value a j d from to begin end lo hi same = omega (arith, (value_from h a from j begin lo (omega arith)).1)

  -- the rules of a send
  pub send_gathered : (x r a m next from to i : ℕ) → r ≡ right t.states x → tag p r ≡ 5 → a ≡ num p (r + 1) → m ≡ num p (r + 2) → next ≡ state_index_of t (onward (state_at t x) (rest p r)) → from ≡ range_from t.flow a → to ≡ range_to t.flow a → gather from to (send_turn p t m next i) ≡ state_rules_of p t i (state_at t x)
  unfolding state_rules_of kind state_at send_turn sent_turn letter_rules
  send_gathered x r a m next from to i row e u v z begin end =
      let head : head_at p (right t.states x) ≡ sends (num p r) (num p (r + 1)) (num p (r + 2)) (rest p r) = ap (head_at p) (sym row) ∙ head_send p r (rw e) in
      rw (head, state_rules_of, begin, end, z, u, v)
      (sym (each_range t.flow (num p (r + 1)) (λ d. elim (is_class_of p d) [ true ↦ letter_rules p t puts (state_index_of t (onward (state_at t x) (rest p r))) d (from_each t.flow (num p (r + 2)) (letters_allowed p t)) i | false ↦ [] ]) (flow_rises h)))

  -- the letters of a class are no more than the counters, and those of later entries stand behind them
  pub send_room : (starts letters : List ℕ) (g : LetterTables ws s starts letters) (within : Option (List ℕ)) (part found tos₀ others₀ tos others : List ℕ) → AskedRow within (letter_width_of p t) → length part ≡ 17 → length found ≡ 17 → RuleRoom ws s tos₀ others₀ → length tos ≡ length tos₀ → length others ≡ length others₀ → (n j d : ℕ) → d ≡ right t.flow j → d ≤ s.rows → n ≤ get_or starts (right t.flow j) 0 → ClassRoom ws s starts within part found tos others n d
  unfolding program columns counter_count
  send_room starts letters g within part found tos₀ others₀ tos others row u v room e f n j d same low upto =
      let few = g.few in
      let (a, b) = class_order h starts g.class_letters d low in
      let at : get_or starts d 0 ≡ get_or starts (right t.flow j) 0 = ap (λ k. get_or starts k 0) same in
      class_room h starts letters g within part found tos₀ others₀ tos others row u v room e f n d low (omega (arith, room.counters)) (omega arith)

  pub send_most : (starts letters : List ℕ) (g : LetterTables ws s starts letters) (a j d n e from to : ℕ) → from ≡ range_from t.flow a → to ≡ range_to t.flow a → from ≤ j → j + 1 < to → d ≡ right t.flow j → n ≤ get_or starts (right t.flow j) 0 → e + get_or starts d 0 ≤ n + get_or starts (d + 1) 0 → e ≤ get_or starts (right t.flow (j + 1)) 0
  send_most starts letters g a j d n e from to begin end lo hi same upto more =
      let next = (later_value starts g.class_letters a j (omega arith) (omega arith)).0 in
      let at : get_or starts d 0 ≡ get_or starts (right t.flow j) 0 = ap (λ k. get_or starts k 0) same in
      let behind : get_or starts (d + 1) 0 ≡ get_or starts (right t.flow j + 1) 0 = ap (λ k. get_or starts (k + 1) 0) same in
      omega arith

-- the turn of a flow entry is that of its value
pub send_same : (p : Program) (t : Tables) (f : ℕ → Bool) (m to d j : ℕ) → d ≡ right t.flow j → (i : ℕ) → only_passing f (sent_turn p t m to d i) ≡ only_passing f (send_turn p t m to i j)
unfolding send_turn
send_same p t f m to d j same i = ap (λ k. only_passing f (sent_turn p t m to k i)) same
