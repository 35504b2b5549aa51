-- Rules in a part of two lists: moved, kept, and one state's more.
use Prim.Native.Nat.{ℕ, zero, suc, ◌+◌, ◌-◌, ◌≤◌, ◌<◌}
use native.Mathlib.Decide.{ℕ_discrete}
use native.Mathlib.Omega.{arith}
use mathlib.Core.Path.{◌≡◌, refl, sym, ◌∙◌, ap, ap₂}
use mathlib.Core.Bool.{Bool, true}
use mathlib.Core.Logic.{inl, inr}
use mathlib.Core.List.{List, [], ◌∷◌, ◌++◌, append-nil}
use lib.ListN.{length, get_or, take, drop, set, length-drop, length-set, drop_of_length-le}
use lib.Seq.{get_or-take, get_or-drop, get_or-set_same, get_or-set_other, length-take-le, take_at, drop_at}
use borrow.Author.Rules.{part_to_end}
use Rattle.model.specs.declared.Sizes.{Sizes}
use Rattle.model.specs.Index.{gather_between, gather}
use Rattle.model.specs.Words.{right}
use Rattle.model.specs.Rows.{Program, tag, kind}
use Rattle.model.specs.Tables.{Tables}
use Rattle.rules.specs.Listed.{StateRules, listed_rule, listed_rules}
use Rattle.rules.specs.Derived.{RuleRoom}
use Rattle.rules.proofs.Gather.{gather_same}
use Rattle.rule_tables.specs.Joined.{SameBelow}
use Rattle.rule_tables.proofs.Joining.{put_rest}
use Rattle.kept_rules.specs.declared.Kept.{Kept}
use Rattle.rules.specs.Within.{RulesWithin}
use Rattle.kept_rules.specs.Kept.{RoomFrom, RulesFrom, RulesAt, RulesAsked, KeptUpto, KeptRules}

lent_rest : (a : ℕ) (xs : List ℕ) → take (length xs - a) (drop a xs) ≡ drop a xs
lent_rest a xs = part_to_end xs a

-- lists with room for a state's rules from a on
module _ (ws : List ℕ) (s : Sizes) (a : ℕ) (tos others : List ℕ) (r : RoomFrom ws s a tos others) where
  pub starts_low : (a ≤ length tos) × (a ≤ length others)
  starts_low =
      let x = length-drop a tos in
      let y = length-drop a others in
      let z = r.room.values in
      let w = r.room.alike in
      (omega arith, omega arith)

  pub lent_room : RuleRoom ws s (take (length tos - a) (drop a tos)) (take (length others - a) (drop a others))
  lent_room = rw (lent_rest a tos, lent_rest a others) r.room

pub put_rules : (p : Program) (t : Tables) (i a m : ℕ) (tos others ys zs : List ℕ) → a ≤ length tos → a ≤ length others → StateRules p t i ys zs m → RulesFrom p t i a (take a tos ++ (ys ++ drop (length tos - a) (drop a tos))) (take a others ++ (zs ++ drop (length others - a) (drop a others))) m
put_rules p t i a m tos others ys zs u v r = record { rules = rw (put_rest a tos ys u, put_rest a others zs v) r }

-- the rest lent for reading
pub lent_rules : (p : Program) (t : Tables) (i a m : ℕ) (tos others : List ℕ) → RulesFrom p t i a tos others m → StateRules p t i (take (length tos - a) (drop a tos)) (take (length others - a) (drop a others)) m
lent_rules p t i a m tos others r = rw (lent_rest a tos, lent_rest a others) r.rules

pub few_rules : (p : Program) (t : Tables) (i a m : ℕ) (tos others : List ℕ) → RulesFrom p t i a tos others m → length tos ≤ 65536 → m ≤ 65536
few_rules p t i a m tos others r h = let z = length-drop a tos in let y = r.rules.tos_room in omega arith

-- lists with room behind the first `spare` words, later and from a place within these on
module _ (ws : List ℕ) (s : Sizes) (spare : ℕ) (tos₀ others₀ : List ℕ) (r : RoomFrom ws s spare tos₀ others₀) where
  pub spare_low : length tos₀ ≤ 65536 → spare < 65536
  spare_low h = let z = length-drop spare tos₀ in let y = r.room.values in omega arith

  pub room_later : (used : ℕ) (tos others : List ℕ) → used ≤ spare → length tos ≡ length tos₀ → length others ≡ length others₀ → RoomFrom ws s used tos others
  room_later used tos others l e f =
      let a = length-drop spare tos₀ in
      let b = length-drop spare others₀ in
      let x = length-drop used tos in
      let y = length-drop used others in
      let v = r.room.values in
      let w = r.room.alike in
      record {
        room = record {
          values = omega arith;
          letters = (let z = r.room.letters in omega arith);
          counters = (let z = r.room.counters in omega arith);
          alike = omega arith;
        };
      }

-- the same lists from two places on
alike : {A : Type 0} (n a b : ℕ) (f g : ℕ → List A) → ((x y : ℕ) → a ≤ x → x < a + n → x + b ≡ y + a → f x ≡ g y) → gather_between n a f ≡ gather_between n b g
unfolding gather_between
alike zero a b f g h = refl
alike (suc n) a b f g h =
    ap₂ (λ xs ys. xs ++ ys) (h a b (omega arith) (omega arith) (omega arith))
    (alike n (a + 1) (b + 1) f g (λ x y l u e. h x y (omega arith) (omega arith) (omega arith)))

gather_moved : {A : Type 0} (a m : ℕ) (f g : ℕ → List A) → ((x y : ℕ) → a ≤ x → x < a + m → x ≡ a + y → f x ≡ g y) → gather a (a + m) f ≡ gather 0 m g
unfolding gather
gather_moved a m f g h =
    let x : (a + m) - a ≡ m = omega arith in
    let y : m - 0 ≡ m = omega arith in
    ap (λ n. gather_between n a f) x ∙ (alike m a 0 f g (λ x y l u e. h x y l u (omega arith)) ∙ sym (ap (λ n. gather_between n 0 g) y))

module _ (p : Program) (t : Tables) where
  pub rules_placed : (i a m : ℕ) (tos others : List ℕ) → RulesFrom p t i a tos others m → a ≤ length tos → a ≤ length others → RulesAt p t i tos others a (a + m)
  unfolding listed_rules listed_rule
  rules_placed i a m tos others r u v =
      record {
        order = omega arith;
        tos_room = (let z = length-drop a tos in let y = r.rules.tos_room in omega arith);
        others_room = (let z = length-drop a others in let y = r.rules.others_room in omega arith);
        rules = gather_moved a m (λ j. listed_rule (kind (tag p (right t.states i))) i tos others j ∷ []) (λ j. listed_rule (kind (tag p (right t.states i))) i (drop a tos) (drop a others) j ∷ []) (λ x y l u e. rw (e, get_or-drop a tos y 0, get_or-drop a others y 0)) ∙ r.rules.rules;
      }

  pub rules_front : (f : ℕ → Bool) (i m : ℕ) (tos others : List ℕ) → RulesWithin p t f i tos others m → RulesAsked p t f i tos others 0 m
  unfolding listed_rules
  rules_front f i m tos others r =
      record { order = omega arith; tos_room = r.tos_room; others_room = r.others_room; rules = inr r.rules }

  rules_all : (f : ℕ → Bool) (i first end : ℕ) (tos others : List ℕ) → RulesAt p t i tos others first end → RulesAsked p t f i tos others first end
  rules_all f i first end tos others r =
      record { order = r.order; tos_room = r.tos_room; others_room = r.others_room; rules = inl r.rules }

  -- those kept of state i, by the code's values
  pub rules_found : (f : ℕ → Bool) (i e used first end : ℕ) (first-at tos others : List ℕ) → KeptUpto p t e used first-at tos others → i < e → first ≡ get_or first-at i 0 → end ≡ get_or first-at (i + 1) 0 → RulesAsked p t f i tos others first end
  rules_found f i e used first end first-at tos others k l u v = rw (u, v) (rules_all f i _ _ tos others (k.each i l).0)

  pub rules_stay : (i a e b : ℕ) (tos others tos' others' : List ℕ) → RulesAt p t i tos others a e → e ≤ b → SameBelow b tos tos' → SameBelow b others others' → length tos' ≡ length tos → length others' ≡ length others → RulesAt p t i tos' others' a e
  unfolding listed_rule
  rules_stay i a e b tos others tos' others' r h u v x y =
      record {
        order = r.order;
        tos_room = (let z = r.tos_room in omega arith);
        others_room = (let z = r.others_room in omega arith);
        rules = gather_same a e (λ j. listed_rule (kind (tag p (right t.states i))) i tos' others' j ∷ []) (λ j. listed_rule (kind (tag p (right t.states i))) i tos others j ∷ []) (λ k l o. rw (u k (omega arith), v k (omega arith))) ∙ r.rules;
      }

  pub kept_start : (k : Kept) (states : ℕ) (first-at tos others : List ℕ) → k.used ≡ 0 → (k.all ≡ true → (states < length first-at) × (get_or first-at 0 0 ≡ 0)) → KeptRules p t 0 k first-at tos others
  kept_start k states first-at tos others z h all =
      let f = h all in
      record { room = (let y = f.0 in omega arith); next = f.1 ∙ sym z; each = λ i l. absurd (omega arith) }

  pub kept_all : (i e : ℕ) (k : Kept) (first-at tos others : List ℕ) → i ≡ e → KeptRules p t i k first-at tos others → KeptRules p t e k first-at tos others
  kept_all i e k first-at tos others is h = rw (← is) h

  -- the rules of one state more
  module _ (i m : ℕ) (k r : Kept) (first-at first-at' tos others tos' others' : List ℕ) where
    pub kept_next : KeptRules p t i k first-at tos others → (k.all ≡ true → i + 1 < length first-at) → (r.all ≡ true → (k.all ≡ true) × (r.used ≡ k.used + m) × (first-at' ≡ set first-at (i + 1) (k.used + m))) → RulesFrom p t i k.used tos' others' m → k.used ≤ length tos → k.used ≤ length others → SameBelow k.used tos tos' → SameBelow k.used others others' → length tos' ≡ length tos → length others' ≡ length others → KeptRules p t (i + 1) r first-at' tos' others'
    kept_next h room step rules low low' u v x y all =
        let (before, used, is) = step all in
        let known = h before in
        let long : length first-at' ≡ length first-at = ap length is ∙ length-set first-at (i + 1) (k.used + m) in
        let same : (z : ℕ) → z < i + 1 → get_or first-at' z 0 ≡ get_or first-at z 0 = λ z l. ap (λ ws. get_or ws z 0) is ∙ get_or-set_other first-at (i + 1) z (k.used + m) 0 (λ e. omega arith) in
        let behind : get_or first-at' (i + 1) 0 ≡ k.used + m = ap (λ ws. get_or ws (i + 1) 0) is ∙ get_or-set_same first-at (i + 1) (k.used + m) 0 (room before) in
        record {
          room = (let z = room before in omega arith);
          next = behind ∙ sym used;
          each = λ z l. elim (ℕ_discrete z i) [
            | yes e ↦
                let here : get_or first-at' i 0 ≡ k.used = same i (omega arith) ∙ known.next in
                rw (e, here, behind) (rules_placed i k.used m tos' others' rules (omega arith) (omega arith), (omega arith))
            | no e ↦
                let (stood, low) = known.each z (omega arith) in
                rw (same z (omega arith), same (z + 1) (omega arith)) (rules_stay z _ _ k.used tos others tos' others' stood low u v x y, (omega arith))
          ];
        }
