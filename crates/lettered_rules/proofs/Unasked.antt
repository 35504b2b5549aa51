-- A class that has no letter which is asked for gives no rule that is.
use Prim.Native.Nat.{ℕ, ◌+◌, ◌*◌, ◌-◌, ◌≤◌, ◌<◌}
use native.Mathlib.Omega.{arith}
use mathlib.Core.Path.{◌≡◌, refl, sym, ◌∙◌, ap}
use mathlib.Core.Bool.{Bool, true, false, not}
use mathlib.Core.List.{List, [], ◌∷◌, Memᴰ}
use lib.ListN.{length, get_or}
use Rattle.std.proofs.Common.{Option, Some, None}
use borrow.Author.Tests.{not-true, not-false}
use Rattle.bits.specs.Bits.{member}
use Rattle.model.specs.declared.Sizes.{Sizes}
use Rattle.model.specs.Index.{any}
use Rattle.model.specs.Words.{columns}
use Rattle.model.specs.Keys.{ascending}
use Rattle.model.specs.Rows.{Program, program, size}
use Rattle.model.specs.Heads.{is_class_of}
use Rattle.model.specs.Letters.{Letter}
use Rattle.model.specs.Tables.{Tables, tables, entries, has, each}
use Rattle.model.specs.Counters.{letters_allowed, letter_count_of, counter_count, letter_index, letter_keys}
use Rattle.model.specs.Rules.{Rule, rule, from_each, puts}
use Rattle.model.proofs.Logic.{test, true_false}
use Rattle.model.proofs.Index.{any_intro}
use Rattle.model.proofs.Keys.{ascending_from}
use Rattle.model.proofs.Numbering.Letters.{index_key, letter_index_behind, letter_index_below}
use Rattle.model.proofs.Bounded.Shaped.{each_map}
use Rattle.lists.specs.Ready.{Ready}
use Rattle.values.proofs.Names.{class_upto}
use Rattle.system_letters.specs.Letters.{ClassLetters, letter_width_of, class_at}
use Rattle.system_letters.proofs.Classes.{class_there}
use Rattle.lettered_rules.specs.Turns.{letter_rules, sent_turn}
use Rattle.rules.specs.Within.{letter_passes, only_passing, is_asked, AskedOf, AskedRow}
use Rattle.class_rules.specs.Asked.{class_asked}
use Rattle.lettered_rules.proofs.Letters.{class_range, class_order, sent_there}

-- rules none of which passes
only_none : (f : ℕ → Bool) (ρs : List Rule) → ((ρ : Rule) → Memᴰ ρ ρs → letter_passes f ρ.effect ≡ false) → only_passing f ρs ≡ []
unfolding only_passing
only_none f [] h = refl
only_none f (ρ ∷ ρs) h = rw (only_passing, h ρ (Memᴰ.head refl)) (only_none f ρs (λ σ m. h σ (Memᴰ.tail m)))

-- where a class is not asked for, there is a set that has none of its letters
none_asked : {A : Type 0} (w : ℕ) (within : Option (List ℕ)) (from to : ℕ) → class_asked w within from to ≡ false → ((set : List ℕ) → within ≡ Some set → any from to (member set w 0) ≡ false → A) → A
unfolding class_asked
none_asked w None from to h k = true_false refl h
none_asked w (Some set) from to h k = k set refl h

module _ {ws : List ℕ} {s : Sizes} (h : Ready ws s) where
  abbrev p : Program
  p = program ws s

  abbrev t : Tables
  t = tables ws s

  pub class_wide : (starts : List ℕ) → ClassLetters p t starts → (d : ℕ) → d ≤ s.rows → (w : ℕ) → w ≡ letter_width_of p t → (within : Option (List ℕ)) → AskedRow within (letter_width_of p t) → (d + 1 < length starts) × ((get_or starts (d + 1) 0 ≤ 64 * w) × AskedRow within w)
  unfolding program columns letter_width_of
  class_wide starts g d low w wide within row =
      (omega (arith, g.room), (rw wide (omega (arith, class_order h starts g d low)), rw wide row))

  module _ (m to d : ℕ) (b : Bool) (e : b ≡ is_class_of p d) (f : ℕ → Bool) (starts : List ℕ) (g : ClassLetters p t starts) (within : Option (List ℕ)) (w : ℕ) (asks : Bool) (wide : w ≡ letter_width_of p t) (o : AskedOf p t within f) (all : each t.flow m (has t.mail d) ≡ true) (n : not b ≡ false) where
    -- the counter of a letter of the class that is not asked for does not pass
    letter_fails : d ≤ size p → (set : List ℕ) → within ≡ Some set → any (get_or starts d 0) (get_or starts (d + 1) 0) (member set w 0) ≡ false → (l : Letter) → Memᴰ l (from_each t.flow m (letters_allowed p t)) → f (letter_index p t d l) ≡ false
    unfolding counter_count class_at is_asked
    letter_fails class set asked none l mem =
        let there = sent_there h d m all l mem in
        let x : ℕ = letter_index p t d l in
        let y : ℕ = x - t.states.size in
        let behind = letter_index_behind p t d l in
        let below = letter_index_below p t d l there in
        let low : y < letter_count_of p t = omega arith in
        let whose : class_at p t y ≡ d = ap (λ k. get_or k 0 0) (index_key p t d l there) in
        let inside = class_there p t d y low whose in
        let range = class_range h starts g d class in
        let absent : member set w 0 y ≡ false = test (member set w 0 y)
        (λ z. true_false (any_intro (get_or starts d 0) (get_or starts (d + 1) 0) y (member set w 0) (omega (arith, range.0, inside.0)) (omega (arith, range.1, inside.1)) z) none)
        (λ z. z) in
        let same_x : t.states.size + y ≡ x = omega arith in
        ap f (sym same_x) ∙ (sym (o.has y low) ∙ (ap (λ v. is_asked (letter_width_of p t) v y) asked ∙ (ap (λ k. member set k 0 y) (sym wide) ∙ absent)))

    pub sent_unasked : asks ≡ class_asked w within (get_or starts d 0) (get_or starts (d + 1) 0) → not asks ≡ true → (i : ℕ) → only_passing f (sent_turn p t m to d i) ≡ []
    unfolding sent_turn letter_rules letter_passes program columns
    sent_unasked is none i =
        let class = sym e ∙ not-false b n in
        none_asked w within _ _ (sym is ∙ not-true asks none) (λ set asked absent.
        rw (class, sent_turn)
        (only_none f _
        (each_map (λ ρ. letter_passes f ρ.effect ≡ false) (ascending (from_each t.flow m (letters_allowed p t))) (λ l. rule i to (puts (letter_index p t d l)))
        (λ l mem. letter_fails (class_upto h d class) set asked absent l (ascending_from l (from_each t.flow m (letters_allowed p t)) mem)))))
