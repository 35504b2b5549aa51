-- The rules of one value that a send's target may have and of one branch of a receive, by the letters that sets have.
use Prim.Native.Nat.{ℕ, ◌+◌, ◌*◌, ◌≤◌, ◌<◌}
use native.Mathlib.Omega.{arith}
use mathlib.Core.Path.{◌≡◌, refl, sym, ◌∙◌, ap}
use mathlib.Core.Bool.{Bool, true, false, not, ◌&&◌}
use mathlib.Core.List.{List, [], Memᴰ}
use lib.ListN.{length, get_or}
use Rattle.std.proofs.Common.{Option}
use borrow.Author.Tests.{not-true, not-false}
use Rattle.bits.specs.Bits.{member}
use Rattle.model.specs.declared.Sizes.{Sizes}
use Rattle.model.specs.Index.{gather, only}
use Rattle.model.specs.Words.{columns}
use Rattle.model.specs.Rows.{Program, program, Kind, send, receive}
use Rattle.model.specs.Heads.{is_class_of}
use Rattle.model.specs.Letters.{Letter}
use Rattle.model.specs.Tables.{Tables, tables, entries, has, each}
use Rattle.model.specs.Counters.{letters_allowed, letter_count_of, has_letter}
use Rattle.model.specs.Rules.{Effect, Rule, rule, from_each, letters_read}
use Rattle.lists.specs.Ready.{Ready}
use Rattle.system_letters.specs.Letters.{letter_width_of, Found}
use Rattle.rules.specs.Listed.{kind_effect}
use Rattle.rules.specs.Derived.{LetterTables}
use Rattle.rules.specs.Within.{letter_passes, only_passing, is_asked, AskedOf}
use Rattle.rules.proofs.Gather.{gather_same}
use Rattle.rules.proofs.Within.{only_gather, only_one}
use Rattle.class_rules.specs.Asked.{letter_turn, class_turn, asked_of}
use Rattle.lettered_rules.specs.Turns.{letter_rules, sent_turn, read_turn}
use Rattle.lettered_rules.proofs.Letters.{class_order, letters_ruled, sent_there, read_there}

module _ {ws : List ℕ} {s : Sizes} (starts letters : List ℕ) (g : LetterTables ws s starts letters) (w : ℕ) (wide : w ≡ letter_width_of (program ws s) (tables ws s)) (within : Option (List ℕ)) (found : List ℕ) (f : ℕ → Bool) (o : AskedOf (program ws s) (tables ws s) within f) (to d : ℕ) (value : d ≤ s.rows) where
  abbrev p : Program
  p = program ws s

  abbrev t : Tables
  t = tables ws s

  -- of the letters that the set found has, the rules of those that are asked for
  module _ (effect : ℕ → Effect) (passes : (x : ℕ) → letter_passes f (effect x) ≡ f x) (ls : List Letter) (there : (l : Letter) → Memᴰ l ls → has_letter p t d l ≡ true) (u : Found p t d ls found) where
    asked_turn : (i : ℕ) → class_turn s.states starts (asked_of w within found) effect to d i ≡ only_passing f (class_turn s.states starts (member found w 0) effect to d i)
    unfolding class_turn letter_turn asked_of program tables entries columns
    asked_turn i =
        gather_same (get_or starts d 0) (get_or starts (d + 1) 0) _ _
        (λ y l m.
        let low : y < letter_count_of p t = omega (arith, class_order g.ready starts g.class_letters d value) in
        let is : is_asked w within y ≡ f (s.states + y) = rw wide (o.has y low) in
        ap (λ b. only b (rule i to (effect (s.states + y)))) (ap (λ b. member found w 0 y && b) (is ∙ sym (passes (s.states + y)))) ∙
        sym (only_one f (member found w 0 y) (rule i to (effect (s.states + y))))) ∙
        sym (only_gather f (get_or starts d 0) (get_or starts (d + 1) 0) (letter_turn s.states (member found w 0) effect to i))

    asked_ruled : (i : ℕ) → class_turn s.states starts (asked_of w within found) effect to d i ≡ only_passing f (letter_rules p t effect to d ls i)
    unfolding program columns
    asked_ruled i = asked_turn i ∙ ap (only_passing f) (letters_ruled g.ready starts g.class_letters d value ls there w found wide u effect to i)

  pub sent_asked : (m : ℕ) (b : Bool) → b ≡ is_class_of p d → not b ≡ false → each t.flow m (has t.mail d) ≡ true → Found p t d (from_each t.flow m (letters_allowed p t)) found → (i : ℕ) → class_turn s.states starts (asked_of w within found) (kind_effect send) to d i ≡ only_passing f (sent_turn p t m to d i)
  unfolding sent_turn kind_effect letter_passes
  sent_asked m b e n all u i =
      let class = sym e ∙ not-false b n in
      asked_ruled (kind_effect send) (λ x. refl) (from_each t.flow m (letters_allowed p t)) (sent_there g.ready d m all) u i ∙
      rw (class, sent_turn)

  pub read_asked : (q : ℕ) → Found p t d (from_each t.mail d (letters_read p t q)) found → (i : ℕ) → class_turn s.states starts (asked_of w within found) (kind_effect receive) to d i ≡ only_passing f (read_turn p t d q to i)
  unfolding read_turn kind_effect letter_passes
  read_asked q u i = asked_ruled (kind_effect receive) (λ x. refl) (from_each t.mail d (letters_read p t q)) (read_there g.ready d q) u i

-- what is no class is sent nothing
pub sent_skipped : (p : Program) (t : Tables) (f : ℕ → Bool) (m to d : ℕ) (b : Bool) → b ≡ is_class_of p d → not b ≡ true → (i : ℕ) → only_passing f (sent_turn p t m to d i) ≡ []
unfolding sent_turn only_passing
sent_skipped p t f m to d b e n i = rw (sym e ∙ not-true b n, sent_turn)
