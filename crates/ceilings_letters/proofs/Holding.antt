-- A set of letters that grows counter by counter; and that rules which lead out of nothing may be left out.
use Prim.Native.Nat.{ℕ, ◌+◌, ◌*◌, ◌-◌, ◌≤◌, ◌<◌}
use native.Mathlib.Omega.{arith}
use native.Mathlib.Decide.{ℕ_discrete}
use mathlib.Core.Path.{◌≡◌, refl, sym, ◌∙◌, ap}
use mathlib.Core.Bool.{Bool, true, false, not, ◌&&◌, ◌||◌}
use mathlib.Core.List.{List, [], ◌∷◌, Memᴰ}
use lib.Dec.{ltb}
use borrow.Author.Tests.{lt-ltb, le-ltb, eq-eqb, ne_eqb, ltb-true, ltb-false}
use Rattle.model.proofs.Logic.{test, or_none}
use Rattle.bits.specs.Bits.{member, Put, SetIs}
use Rattle.model.specs.declared.Sizes.{Sizes}
use Rattle.model.specs.Words.{columns}
use Rattle.model.specs.Rows.{program}
use Rattle.model.specs.Tables.{tables, entries}
use Rattle.model.specs.Counters.{counter_count}
use Rattle.model.specs.Rules.{Rule}
use Rattle.model.specs.Markings.{Marking, usable, fire}
use Rattle.model.specs.Ceilings.{Ceilings, leads_out, under_some}
use Rattle.model.specs.Limits.{max_counters}
use lib.ListN.{length}
use Rattle.bits.specs.Bits.{Row}
use Rattle.system_letters.specs.Letters.{letter_width_of}
use Rattle.state_rules.specs.Within.{letter_passes, only_passing, AskedLetters}
use Rattle.ceilings_groups.specs.Groups.{escapes}
use Rattle.ceilings_letters.specs.Letters.{LettersRoom}

-- of the counters behind the states those below x that pass are in the set, and no other
abbrev pub HeldBelow : ℕ → ℕ → (ℕ → Bool) → ℕ → List ℕ → Type 0
HeldBelow states words f x within =
    (y : ℕ) → y < 64 * words → member within words 0 y ≡ (ltb (states + y) x && f (states + y))

-- one number more makes no difference to another
same_below : (a b : ℕ) → (a ≡ b → ⊥) → ltb a b ≡ ltb a (b + 1)
same_below a b n = test (ltb a b)
    (λ z. z ∙ sym (lt-ltb a (b + 1) (let w = ltb-true a b z in omega arith)))
    (λ z. z ∙ sym (le-ltb a (b + 1) (let w = ltb-false a b z in omega arith)))

module _ (states words : ℕ) (f : ℕ → Bool) where
  pub held_none : (u t : List ℕ) → SetIs words 0 (λ v. false) u t → HeldBelow states words f states t
  held_none u t s y l = rw (le-ltb (states + y) states (omega arith)) (s.here y l)

  -- one counter more, which does not pass
  pub held_skip : (x : ℕ) (within : List ℕ) → f x ≡ false → HeldBelow states words f x within → HeldBelow states words f (x + 1) within
  held_skip x within none h y l =
      h y l ∙
      elim (ℕ_discrete (states + y) x) [
        | yes e ↦ rw (e, none) (both (ltb x x) (ltb x (x + 1)))
        | no n ↦ ap (λ b. b && f (states + y)) (same_below (states + y) x n)
      ]
    where
      both : (a b : Bool) → (a && false) ≡ (b && false)
      both true true = refl
      both true false = refl
      both false true = refl
      both false false = refl

  -- one that passes
  pub held_put : (x : ℕ) (u t : List ℕ) → states ≤ x → f x ≡ true → Put words 0 (x - states) u t → HeldBelow states words f x u → HeldBelow states words f (x + 1) t
  held_put x u t low some p h y l =
      p.members 0 y l ∙
      elim (ℕ_discrete (states + y) x) [
        | yes e ↦
            let z : y ≡ x - states = omega arith in
            rw (e, some, eq-eqb y (x - states) z, lt-ltb x (x + 1) (omega arith)) (or_true (member u words 0 y))
        | no n ↦
            let z : y ≡ x - states → ⊥ = λ w. n (omega arith) in
            rw (ne_eqb y (x - states) z) (or_none (member u words 0 y) ∙ (h y l ∙ ap (λ b. b && f (states + y)) (same_below (states + y) x n)))
      ]
    where
      or_true : (a : Bool) → (a || true) ≡ true
      or_true true = refl
      or_true false = refl

  pub held_all : (n x : ℕ) (within : List ℕ) → n ≤ x → n ≤ states + 64 * words → HeldBelow states words f x within → (y : ℕ) → states + y < n → member within words 0 y ≡ f (states + y)
  held_all n x within upto room h y l = h y (omega arith) ∙ rw (lt-ltb (states + y) x (omega arith))

pub letters_ready : (ws : List ℕ) (s : Sizes) (n k words : ℕ) (limits within : List ℕ) → n ≡ counter_count (program ws s) (tables ws s) → counter_count (program ws s) (tables ws s) ≤ max_counters → words ≡ letter_width_of (program ws s) (tables ws s) → k < s.ceilings → n * s.ceilings ≤ length limits → Row within (letter_width_of (program ws s) (tables ws s)) 0 → LettersRoom s n k words limits within
unfolding counter_count letter_width_of tables entries columns
letters_ready ws s n k words limits within counted few wide low room row =
    record { ceiling = low; table = room; few = omega arith; bits = rw wide (omega arith); row = rw wide row }

-- the set of letters that pass, as the rules of a state ask for it
pub letters_asked : (ws : List ℕ) (s : Sizes) (n words : ℕ) (asked : List ℕ) (f : ℕ → Bool) → n ≡ counter_count (program ws s) (tables ws s) → words ≡ letter_width_of (program ws s) (tables ws s) → ((y : ℕ) → s.states + y < n → member asked words 0 y ≡ f (s.states + y)) → AskedLetters (program ws s) (tables ws s) true asked f
unfolding counter_count tables entries columns
letters_asked ws s n words asked f counted wide h =
    record { has = λ y l. rw (← wide) (h y (rw counted (omega arith))) }

member_first : {ρ σ : Rule} {ρs σs : List Rule} → (Memᴰ ρ ρs → Memᴰ ρ σs) → Memᴰ ρ (σ ∷ ρs) → Memᴰ ρ (σ ∷ σs)
member_first g (Memᴰ.head e) = Memᴰ.head e
member_first g (Memᴰ.tail j) = Memᴰ.tail (g j)

module _ (f : ℕ → Bool) where
  -- rules that are left out and lead out of nothing make no difference
  pub leads_asked : (bs : Ceilings) (m : Marking) (ρs : List Rule) → ((ρ : Rule) → Memᴰ ρ ρs → letter_passes f ρ.effect ≡ false → escapes bs ρ m ≡ false) → leads_out bs (only_passing f ρs) m ≡ leads_out bs ρs m
  unfolding leads_out only_passing escapes
  leads_asked bs m [] h = refl
  leads_asked bs m (ρ ∷ ρs) h =
      let rest = leads_asked bs m ρs (λ σ w. h σ (Memᴰ.tail w)) in
      test (letter_passes f ρ.effect)
      (λ z. rw (only_passing, z) (ap (λ b. usable ρ m && not (under_some bs (fire ρ m)) || b) rest))
      (λ z. rw (only_passing, z) (rest ∙ sym (ap (λ b. b || leads_out bs ρs m) (h ρ (Memᴰ.head refl) z))))

  pub asked_member : (ρ : Rule) (ρs : List Rule) → Memᴰ ρ (only_passing f ρs) → Memᴰ ρ ρs
  unfolding only_passing
  asked_member ρ [] i = i
  asked_member ρ (σ ∷ σs) i =
      test (letter_passes f σ.effect)
      (λ z. member_first (asked_member ρ σs) (rw (only_passing, z) at i))
      (λ z. Memᴰ.tail (asked_member ρ σs (rw (only_passing, z) at i)))
