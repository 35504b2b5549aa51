-- The rules that go by letters: what the letters of a class that a set has give is what the model's letters give.
use Prim.Native.Nat.{ℕ, ◌+◌, ◌-◌, ◌≤◌, ◌<◌}
use native.Mathlib.Omega.{arith}
use mathlib.Core.Path.{◌≡◌, sym, ◌∙◌, ap, subst}
use mathlib.Core.Bool.{Bool, true, false, not}
use mathlib.Core.List.{List, [], ◌∷◌, Memᴰ}
use lib.ListN.{length, get_or, drop}
use Rattle.std.proofs.Common.{Option}
use Rattle.bits.specs.Bits.{member, Row}
use Rattle.model.specs.declared.Sizes.{Sizes}
use Rattle.model.specs.Index.{only}
use Rattle.model.specs.Limits.{max_counters}
use Rattle.model.specs.Words.{columns}
use Rattle.model.specs.Rows.{Program, program, size}
use Rattle.model.specs.Letters.{Letter}
use Rattle.model.specs.Tables.{Tables, tables, entries, has, each}
use Rattle.model.specs.Counters.{letters_allowed, letter_count_of, counter_count, has_letter}
use Rattle.model.specs.Rules.{Effect, Rule, rule, from_each, letters_read}
use Rattle.model.proofs.Logic.{test}
use Rattle.model.proofs.Exact.Members.{has_iff}
use Rattle.model.proofs.Numbering.Letters.{key_of, key_has}
use Rattle.model.proofs.Bounded.Shaped.{from_each_elim}
use Rattle.model.proofs.ByCounter.{OneOf, by_counter}
use Rattle.lists.specs.Ready.{Ready}
use Rattle.values.proofs.Members.{each_at}
use Rattle.system_letters.specs.Letters.{class_at, letter_at_of, letters_before, ClassLetters, letter_width_of, Found}
use Rattle.rules.specs.Within.{AskedRow}
use Rattle.rules.specs.Derived.{LetterTables}
use Rattle.system_letters.proofs.Tables.{head_low}
use Rattle.system_letters.proofs.Classes.{before_most, before_rises, class_there}
use Rattle.system_letters.proofs.Mailed.{key_told}
use Rattle.rules.proofs.Gather.{gather_part, gather_from}
use Rattle.pattern_letters.proofs.Lessening.{read_allowed}
use Rattle.plain_rules.proofs.Heads.{only_no}
use Rattle.class_rules.specs.Asked.{letter_turn, class_turn, asked_of, LetterRoom}
use Rattle.lettered_rules.specs.Turns.{letter_rules, ClassRoom}

module _ {ws : List ℕ} {s : Sizes} (h : Ready ws s) where
  abbrev p : Program
  p = program ws s

  abbrev t : Tables
  t = tables ws s

  module _ (starts : List ℕ) (g : ClassLetters p t starts) (d : ℕ) (class : d ≤ size p) where
    -- where the letters of the class stand
    pub class_range : (get_or starts d 0 ≡ letters_before p t d) × (get_or starts (d + 1) 0 ≡ letters_before p t (d + 1))
    class_range = (g.start d (omega arith), g.start (d + 1) (omega arith))

    pub class_order : (get_or starts d 0 ≤ get_or starts (d + 1) 0) × (get_or starts (d + 1) 0 ≤ letter_count_of p t)
    class_order = (omega (arith, class_range, before_rises p t d), omega (arith, class_range, before_most p t (d + 1)))

    -- the rules of the letters that the set has
    module _ (ls : List Letter) (there : (l : Letter) → Memᴰ l ls → has_letter p t d l ≡ true) (w : ℕ) (found : List ℕ) (wide : w ≡ letter_width_of p t) (f : Found p t d ls found) where
      passes : ℕ → Bool
      passes x = member found (letter_width_of p t) 0 (x - t.states.size)

      exactly_to : (x : ℕ) → t.states.size ≤ x → x < counter_count p t → passes x ≡ true → OneOf p t (head_low h) d ls there x
      unfolding counter_count passes
      exactly_to x lo hi e =
          let y : ℕ = x - t.states.size in
          let low : y < letter_count_of p t = omega arith in
          let (c, m) = (f.has y low).0 e in
          (letter_at_of p t y, (m, key_told p t y low ∙ ap (λ k. k ∷ letter_at_of p t y) c))

      exactly_from : (x : ℕ) → t.states.size ≤ x → x < counter_count p t → OneOf p t (head_low h) d ls there x → passes x ≡ true
      unfolding counter_count class_at letter_at_of passes
      exactly_from x lo hi o =
          let y : ℕ = x - t.states.size in
          let low : y < letter_count_of p t = omega arith in
          let (l, (m, e)) = o in
          (f.has y low).1 (ap (λ k. get_or k 0 0) e, subst (λ k. Memᴰ k ls) (sym (ap (drop 1) e)) m)

      pub letters_ruled : (effect : ℕ → Effect) (to i : ℕ) → class_turn s.states starts (member found w 0) effect to d i ≡ letter_rules p t effect to d ls i
      unfolding class_turn letter_turn letter_rules counter_count tables entries columns passes
      letters_ruled effect to i =
          let S : ℕ = s.states in
          let L : ℕ = letter_count_of p t in
          let F : ℕ → List Rule = λ x. only (passes x) (rule i to (effect x)) in
          let G : ℕ → List Rule = λ y. only (member found (letter_width_of p t) 0 y) (rule i to (effect (S + y))) in
          let (a, b) = class_range in
          rw (wide, a, b)
          (sym (by_counter p t (head_low h) d ls there passes (λ x lo hi. (exactly_to x lo hi, exactly_from x lo hi)) (λ x. rule i to (effect x)) ∙
          (sym (gather_from S L F) ∙
          gather_part (letters_before p t d) (letters_before p t (d + 1)) L (λ y. F (S + y)) G (before_rises p t d) (before_most p t (d + 1))
          (λ y l. none y (omega (arith, before_most p t d)) (λ e. let z = class_there p t d y (omega (arith, before_most p t d)) e in omega arith))
          (λ y l m. same S y)
          (λ y l m. none y m (λ e. let z = class_there p t d y m e in omega arith)))))
        where
          same : (S y : ℕ) → only (member found (letter_width_of p t) 0 (S + y - S)) (rule i to (effect (S + y))) ≡ only (member found (letter_width_of p t) 0 y) (rule i to (effect (S + y)))
          same S y = let z : S + y - S ≡ y = omega arith in rw z

          none : (y : ℕ) → y < letter_count_of p t → (class_at p t y ≡ d → ⊥) → only (member found (letter_width_of p t) 0 (s.states + y - s.states)) (rule i to (effect (s.states + y))) ≡ []
          none y l ne =
              let z : s.states + y - s.states ≡ y = omega arith in
              rw z (only_no _ _ (test (member found (letter_width_of p t) 0 y) (λ e. absurd (ne ((f.has y l).0 e).0)) (λ e. e)))

  -- the letters that are sent to a class in whose mail each value is, and those that are read of its mail, have counters
  pub sent_there : (d m : ℕ) → each t.flow m (has t.mail d) ≡ true → (l : Letter) → Memᴰ l (from_each t.flow m (letters_allowed p t)) → has_letter p t d l ≡ true
  sent_there d m all l o =
      let (v, (n, a)) = from_each_elim t.flow m (letters_allowed p t) l o in
      key_has p t d l (key_of p t d v l ((has_iff t.mail d v).0 (each_at t.flow m (has t.mail d) all v n)) a)

  pub read_there : (c q : ℕ) (l : Letter) → Memᴰ l (from_each t.mail c (letters_read p t q)) → has_letter p t c l ≡ true
  read_there c q l o =
      let (v, (n, a)) = from_each_elim t.mail c (letters_read p t q) l o in
      key_has p t c l (key_of p t c v l n (read_allowed p t q v l a))

  -- the array of a send or receive has room for a set
  pub set_room : (u : List ℕ) → counter_count p t ≤ max_counters → length u ≡ 17 → Row u (letter_width_of p t) 0
  unfolding counter_count letter_width_of
  set_room u few e = record { room = omega arith }

  -- the room for the rules of a class's letters, once the sets are others of the same length
  pub letter_room : (starts letters : List ℕ) (within : Option (List ℕ)) (part found tos others : List ℕ) (n d : ℕ) → LetterTables ws s starts letters → ClassRoom ws s starts within part found tos others n d → (w : ℕ) → w ≡ letter_width_of p t → (part' found' : List ℕ) → length part' ≡ length part → length found' ≡ length found → LetterRoom s.states starts found' tos others w n d × (AskedRow within w × Row part' w 0)
  unfolding program tables entries columns counter_count letter_width_of
  letter_room starts letters within part found tos others n d g r w wide part' found' u v =
      let (a, b) = class_order starts g.class_letters d r.value in
      let few = g.few in (
        record {
          class = omega (arith, h.limits.rows, r.value);
          starts = omega (arith, g.class_letters.room, r.value);
          order = a;
          row = rw wide (record { room = omega (arith, r.found_row.room) });
          inside = rw wide (omega arith);
          counters = omega arith;
          tos_room = r.tos_room;
          others_room = r.others_room;
          low = r.low;
        },
        (rw wide r.within_row, rw wide (record { room = omega (arith, r.part_row.room) })),
      )

-- the rules that stand there fit, and no rule more is no more than the letters of the class
pub before_room : {ws : List ℕ} {s : Sizes} {starts letters : List ℕ} {within : Option (List ℕ)} {part found tos others : List ℕ} {n d : ℕ} → LetterTables ws s starts letters → ClassRoom ws s starts within part found tos others n d → (n ≤ length tos) × (n + get_or starts d 0 ≤ n + get_or starts (d + 1) 0)
unfolding program columns
before_room {d = d} g r =
    let (a, b) = class_order g.ready _ g.class_letters d r.value in
    (omega (arith, r.tos_room), omega arith)
