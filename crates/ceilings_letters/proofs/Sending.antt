-- Which rules lead out of nothing: those that read a letter which the ceiling does not hold, and those that put a letter
-- of which a ceiling holds one more that covers the step without it.
use Prim.Native.Nat.{ℕ, ◌+◌, ◌*◌, ◌-◌, ◌≤◌, ◌<◌}
use native.Mathlib.Omega.{arith}
use mathlib.Core.Path.{◌≡◌, refl, sym, ◌∙◌, ap}
use mathlib.Core.Bool.{Bool, true, false, not, ◌&&◌}
use mathlib.Core.List.{List, Memᴰ}
use lib.Dec.{eqb, leb, ltb}
use lib.ListN.{length, get_or}
use borrow.Author.Tests.{eqb-true, ne_eqb, eq-eqb, ltb-true, leb-true, le-leb, not-true, not-false}
use Rattle.bits.specs.Bits.{member}
use Rattle.masks.specs.declared.Mask.{Mask}
use Rattle.masks.specs.Masks.{has}
use Rattle.model.specs.declared.Sizes.{Sizes}
use Rattle.model.specs.Index.{any}
use Rattle.model.specs.Keys.{ascending}
use Rattle.model.specs.Words.{right, columns}
use Rattle.model.specs.Rows.{Program, program, tag, kind, send}
use Rattle.model.specs.Scopes.{rest}
use Rattle.model.specs.Heads.{Head, head_at, gives, builds, makes, calls, sends, spawns, selfs, cases, receives, no_head, is_class_of, branch_body_of}
use Rattle.model.specs.Tables.{Tables, tables, entries, State, state_at, state_index_of, onward}
use Rattle.model.specs.Counters.{letters_allowed, letter_index, counter_count}
use Rattle.model.specs.Rules.{Effect, quiet, reads, puts, starts, Rule, rule, from_each, letters_read, state_rules_of}
use Rattle.model.specs.Markings.{Marking, readable, usable, fire}
use Rattle.model.specs.Ceilings.{highest, under_some, under}
use Rattle.model.proofs.Logic.{test, true_false, and_left, and_right, and_intro}
use Rattle.model.proofs.Index.{any_intro, any_elim}
use Rattle.model.proofs.Heads.{by_kind, tag_is, head_send}
use Rattle.model.proofs.Bounded.Shaped.{Each, each_none, each_one, each_only, each_where, each_gather, each_from_each, each_from_all, each_map}
use Rattle.steps.specs.declared.Step.{Step}
use Rattle.steps.specs.Steps.{rule_of_step, effect_of}
use Rattle.ceilings.specs.Table.{held}
use Rattle.ceilings_form.proofs.Limited.{highest_limit}
use Rattle.ceilings_masks.specs.declared.Over.{Over}
use Rattle.ceilings_masks.specs.Compared.{takes_more, allows, most, Beside}
use Rattle.ceilings_masks.proofs.Comparing.{allows_one}
use Rattle.ceilings_covers.specs.Covers.{Left, covers, moved, passes, sure}
use Rattle.ceilings_covers.proofs.Covering.{exact_at, pass_covers, sure_adds}
use Rattle.ceilings_groups.specs.Groups.{table_ceilings, escapes}
use Rattle.ceilings_groups.proofs.Leading.{any_same}
use Rattle.state_rules.specs.Within.{letter_passes}
use Rattle.system_letters.specs.Letters.{letter_width_of}
use Rattle.ceilings_letters.specs.Letters.{is_held_of, HeldSet, OneMore, more_in, OpenSet, Narrowed}
use Rattle.ceilings_letters.proofs.Holding.{letters_asked}

-- the ceilings that hold one more, by the tables of one ceiling beside the others
pub more_tables : (limits : List ℕ) (ceilings n k : ℕ) (holders : List ℕ) (over : Over) (near : List ℕ) → Beside limits ceilings n k holders over near → OneMore limits ceilings n k holders near
unfolding takes_more
more_tables limits ceilings n k holders over near b =
    record {
      holders_room = b.held_by.room;
      near_room = b.room;
      not_held = λ x j l z h.
          let none : held limits ceilings k x ≡ 0 = eqb-true _ 0 (not-false _ z) in
          let least : 0 ≡ most limits ceilings k x = highest_limit (held limits ceilings k) x 0 (sym none) (λ u. omega arith) in
          b.held_by.holder x j l h ∙ allows_one limits ceilings x (most limits ceilings k x + 1) j (omega arith);
      some_held = λ x j l z h.
          let some : held limits ceilings k x ≡ 0 → ⊥ = λ e. true_false z (ap not (eq-eqb _ 0 e)) in
          b.neighbours.one_more x j l (omega arith) h;
    }

-- a rule that puts a letter
is_put : Effect → Bool
is_put quiet = false
is_put (reads x) = false
is_put (puts x) = true
is_put (starts x) = false

abbrev Unput : Rule → Type 0
Unput ρ = is_put ρ.effect ≡ false

is_sends : Head → Bool
is_sends (gives n) = false
is_sends (builds n k ns r) = false
is_sends (makes n r) = false
is_sends (calls call) = false
is_sends (sends n target message r) = true
is_sends (spawns n function r) = false
is_sends (selfs n r) = false
is_sends (cases n qs) = false
is_sends (receives qs) = false
is_sends no_head = false

module _ (p : Program) (t : Tables) (i : ℕ) (s : State) where
  head_unput : (h : Head) → head_at p s.location ≡ h → is_sends h ≡ false → Each Unput (state_rules_of p t i s)
  unfolding state_rules_of is_put is_sends
  head_unput (gives n) e z = rw (e, state_rules_of) (each_gather Unput 0 t.states.size _ (λ j w. each_only Unput _ _ (λ v. refl)))
  head_unput (builds n k ns r) e z = rw (e, state_rules_of) (each_one Unput _ refl)
  head_unput (makes n r) e z = rw (e, state_rules_of) (each_one Unput _ refl)
  head_unput (calls call) e z = rw (e, state_rules_of) (each_from_each Unput t.flow call.callee _ (λ f. each_only Unput _ _ (λ v. refl)))
  head_unput (sends n target message r) e z = true_false refl z
  head_unput (spawns n function r) e z = rw (e, state_rules_of) (each_from_each Unput t.flow function _ (λ f. each_only Unput _ _ (λ v. refl)))
  head_unput (selfs n r) e z = rw (e, state_rules_of) (each_one Unput _ refl)
  head_unput (cases n qs) e z = rw (e, state_rules_of) (each_from_all Unput qs _ (λ q. each_only Unput _ _ (λ v. refl)))
  head_unput (receives qs) e z =
      rw (e, state_rules_of)
      (each_from_all Unput qs _
      (λ q. each_map Unput (ascending (from_each t.mail s.class (letters_read p t q))) (λ l. rule i (state_index_of t (onward s (branch_body_of p q))) (reads (letter_index p t s.class l))) (λ l v. refl)))
  head_unput no_head e z = rw (e, state_rules_of) (each_none Unput)

  not_sends : (tag p s.location ≡ 5 → ⊥) → is_sends (head_at p s.location) ≡ false
  unfolding head_at is_sends
  not_sends n =
      by_kind (kind (tag p s.location))
      (λ e. rw (e, head_at))
      (λ e. rw (e, head_at))
      (λ e. rw (e, head_at))
      (λ e. rw (e, head_at))
      (λ e. absurd (n (tag_is _ send e)))
      (λ e. rw (e, head_at))
      (λ e. rw (e, head_at))
      (λ e. rw (e, head_at))
      (λ e. rw (e, head_at))
      (λ e. rw (e, head_at))

  -- no rule puts a letter but those of a send
  unput : (tag p s.location ≡ 5 → ⊥) → Each Unput (state_rules_of p t i s)
  unput n = head_unput (head_at p s.location) refl (not_sends n)

  -- those of a send put a letter each and lead on behind it
  abbrev PutsOn : Rule → Type 0
  PutsOn ρ = (x : ℕ) × (ρ ≡ rule i (state_index_of t (onward s (rest p s.location))) (puts x))

  puts_on : tag p s.location ≡ 5 → Each PutsOn (state_rules_of p t i s)
  unfolding state_rules_of kind
  puts_on e =
      rw (head_send p s.location (rw e), state_rules_of)
      (each_from_each PutsOn t.flow _ _
      (λ d. each_where PutsOn (is_class_of p d) _ (each_map PutsOn (ascending (from_each t.flow _ (letters_allowed p t))) (λ l. rule i (state_index_of t (onward s (rest p s.location))) (puts (letter_index p t d l))) (λ l v. (letter_index p t d l, refl)))))

-- where every letter passes, all rules do
all_pass : (e : Effect) → letter_passes (λ x. true) e ≡ false → ⊥
unfolding letter_passes
all_pass quiet z = true_false refl z
all_pass (reads x) z = true_false refl z
all_pass (puts x) z = true_false refl z
all_pass (starts x) z = true_false refl z

module _ (limits : List ℕ) (ceilings n k : ℕ) where
  abbrev m : Marking
  m = highest (held limits ceilings k)

  pub any_harmless : (ρ : Rule) → letter_passes (λ x. true) ρ.effect ≡ false → escapes (table_ceilings ceilings n limits) ρ m ≡ false
  any_harmless ρ z = absurd (all_pass ρ.effect z)

  -- a rule that reads what the ceiling does not hold can't be used at its highest counts
  unreadable : (e : Effect) → is_put e ≡ false → letter_passes (is_held_of limits ceilings k) e ≡ false → readable e m ≡ false
  unfolding letter_passes readable is_put
  unreadable quiet u z = true_false refl z
  unreadable (reads x) u z =
      let none : m x ≡ 0 = sym (highest_limit (held limits ceilings k) x 0 (sym (eqb-true _ 0 (not-false _ z))) (λ w. omega arith)) in
      rw none
  unreadable (puts x) u z = true_false refl u
  unreadable (starts x) u z = true_false refl z

  pub held_harmless : (p : Program) (t : Tables) (i : ℕ) → (tag p (state_at t i).location ≡ 5 → ⊥) → (ρ : Rule) → Memᴰ ρ (state_rules_of p t i (state_at t i)) → letter_passes (is_held_of limits ceilings k) ρ.effect ≡ false → escapes (table_ceilings ceilings n limits) ρ m ≡ false
  unfolding escapes usable
  held_harmless p t i not_send ρ w z =
      rw (unreadable ρ.effect (unput p t i (state_at t i) not_send ρ w) z) (none (leb 1 (m ρ.from)) (not (under_some (table_ceilings ceilings n limits) (fire ρ m))))
    where
      none : (a b : Bool) → ((a && false) && b) ≡ false
      none true b = refl
      none false b = refl

  -- a ceiling that covers the step without the letter, and holds one more of the letter, covers
  module _ (states i to : ℕ) (few : ceilings ≤ 256) (low : i < states) (inside : states ≤ n) (left mask : Mask) (l : Left limits ceilings n k i left) (is : (j : ℕ) → j < 256 → has mask j ≡ moved limits ceilings states k i to left j) where
    put_covered : (x : ℕ) → more_in limits ceilings states k mask x ≡ true → under_some (table_ceilings ceilings n limits) (fire (rule i to (puts x)) m) ≡ true
    unfolding more_in moved under_some covers rule_of_step effect_of
    put_covered x h =
        let behind : states ≤ x = leb-true states x (and_left (leb states x) _ h) in
        let (j, w, both) = any_elim 0 256 (λ j. has mask j && takes_more limits ceilings k x j) (and_right (leb states x) _ h) in
        let here : moved limits ceilings states k i to left j ≡ true = sym (is j w.1) ∙ and_left (has mask j) _ both in
        let apart = and_left (not (eqb to i) && ltb to states) _ here in
        let held_on = and_right (not (eqb to i) && ltb to states) _ here in
        let there : to < states = ltb-true to states (and_right (not (eqb to i)) _ apart) in
        let leaves : to ≡ i → ⊥ = λ e. true_false (and_left (not (eqb to i)) _ apart) (ap not (eq-eqb to i e)) in
        let in_left : has left j ≡ true = and_left (has left j) _ held_on in
        let σ : Step = record { from = i; to = to; kind = 2; other = x } in
        let surely : sure σ ≡ true = sym (sure_adds σ (λ e. omega arith) leaves (omega arith) (λ e. omega arith)) ∙ ap not (ne_eqb x to (λ e. omega arith)) in
        let below : j < ceilings = l.few j w.1 in_left in
        any_intro 0 ceilings j (covers limits ceilings n k (rule_of_step σ)) (omega arith) below
        (pass_covers limits ceilings n k σ j
        (exact_at limits ceilings n k σ left j below (omega arith) l in_left (λ z. and_right (has left j) _ held_on) (λ two z. and_right (has mask j) _ both) surely))

    pub open_harmless : (p : Program) (t : Tables) → tag p (state_at t i).location ≡ 5 → to ≡ state_index_of t (onward (state_at t i) (rest p (state_at t i).location)) → (ρ : Rule) → Memᴰ ρ (state_rules_of p t i (state_at t i)) → letter_passes (λ x. not (more_in limits ceilings states k mask x)) ρ.effect ≡ false → escapes (table_ceilings ceilings n limits) ρ m ≡ false
    unfolding escapes letter_passes
    open_harmless p t is-send on ρ w z =
        let (x, e) = puts_on p t i (state_at t i) is-send ρ w in
        let same : ρ ≡ rule i to (puts x) = e ∙ ap (λ y. rule i y (puts x)) (sym on) in
        let more : more_in limits ceilings states k mask x ≡ true = not-false _ (rw same at z) in
        rw same (rw (put_covered x more) (none (usable (rule i to (puts x)) m)))
      where
        none : (a : Bool) → (a && not true) ≡ false
        none true = refl
        none false = refl

-- one letter of the set, by the code's values
pub more_there : (limits : List ℕ) (ceilings states k : ℕ) (mask raised both : Mask) (x : ℕ) (none : Bool) → states ≤ x → ((j : ℕ) → j < 256 → has raised j ≡ takes_more limits ceilings k x j) → ((j : ℕ) → has both j ≡ (has mask j && has raised j)) → none ≡ not (any 0 256 (has both)) → not (more_in limits ceilings states k mask x) ≡ none
unfolding more_in
more_there limits ceilings states k mask raised both x none low is and e =
    rw (le-leb states x low)
    (ap not (any_same 0 256 _ (has both) (λ j l. sym (and j ∙ ap (λ b. has mask j && b) (is j l)))) ∙ sym e)

-- the sets that are handed on, by the code's values
module _ (ws : List ℕ) (s : Sizes) (n k i words : ℕ) (limits asked : List ℕ) (wanted : Bool) where
  pub none_narrowed : not wanted ≡ true → Narrowed (program ws s) (tables ws s) limits s.ceilings n k i wanted asked
  none_narrowed none =
      record {
        passes = λ x. true;
        letters = λ e. true_false e (not-true wanted none);
        harmless = λ ρ w z. any_harmless limits s.ceilings n k ρ z;
      }

  module _ (counted : n ≡ counter_count (program ws s) (tables ws s)) (wide : words ≡ letter_width_of (program ws s) (tables ws s)) (r tg : ℕ) (row : r ≡ right (tables ws s).states i) (is_tag : tg ≡ tag (program ws s) r) where
    pub held_narrowed : (tg ≡ 5 → ⊥) → HeldSet limits s.ceilings n k s.states words asked → Narrowed (program ws s) (tables ws s) limits s.ceilings n k i wanted asked
    unfolding state_at
    held_narrowed not_send h =
        record {
          passes = is_held_of limits s.ceilings k;
          letters = λ e. letters_asked ws s n words asked (is_held_of limits s.ceilings k) counted wide h;
          harmless = held_harmless limits s.ceilings n k (program ws s) (tables ws s) i (λ z. not_send (is_tag ∙ (ap (tag (program ws s)) row ∙ z)));
        }

    pub open_narrowed : (left mask : Mask) (e to : ℕ) → tg ≡ 5 → s.ceilings ≤ 256 → i < s.states → Left limits s.ceilings n k i left → e ≡ rest (program ws s) r → to ≡ state_index_of (tables ws s) (onward (state_at (tables ws s) i) e) → ((j : ℕ) → j < 256 → has mask j ≡ moved limits s.ceilings s.states k i to left j) → OpenSet limits s.ceilings n k s.states words mask asked → Narrowed (program ws s) (tables ws s) limits s.ceilings n k i wanted asked
    unfolding state_at counter_count tables entries columns
    open_narrowed left mask e to is-send few low l behind on is h =
        let f : ℕ → Bool = λ x. not (more_in limits s.ceilings s.states k mask x) in
        record {
          passes = f;
          letters = λ _. letters_asked ws s n words asked f counted wide h;
          harmless = open_harmless limits s.ceilings n k s.states i to few low (omega (arith, counted)) left mask l is (program ws s) (tables ws s) (ap (tag (program ws s)) (sym row) ∙ (sym is_tag ∙ is-send)) (on ∙ ap (λ z. state_index_of (tables ws s) (onward (state_at (tables ws s) i) z)) (behind ∙ ap (rest (program ws s)) row));
        }
