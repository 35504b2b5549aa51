-- Every rule of the system leaves a state's counter and reads no other than a letter's: it takes no counter twice.
use Prim.Native.Nat.{ℕ, ◌<◌}
use native.Mathlib.Omega.{arith}
use mathlib.Core.Path.{◌≡◌, refl, sym, subst}
use mathlib.Core.Bool.{Bool, true, false}
use mathlib.Core.Logic.{⊎_elim}
use mathlib.Core.List.Memᴰ
use mathlib.Core.List.{List, [], ◌∷◌, map, Memᴰ}
use lib.Dec.{eqb}
use borrow.Author.Tests.{eqb-true}
use Rattle.model.specs.Index.{gather, only, from_all}
use Rattle.model.specs.Words.{Columns, left, right}
use Rattle.model.specs.Keys.{ascending}
use Rattle.model.specs.Rows.{Program}
use Rattle.model.specs.Heads.{Head, head_at, gives, builds, makes, calls, sends, spawns, selfs, cases, receives, no_head, is_class_of, branch_body_of}
use Rattle.model.specs.Letters.{Letter}
use Rattle.model.specs.Tables.{Tables, State, state_at, onward, state_index_of}
use Rattle.model.specs.Closed.{may_take}
use Rattle.model.specs.Counters.{letters_allowed, letter_index, has_letter, counter_count}
use Rattle.model.specs.Rules.{Rule, rule, reads, puts, from_each, argument_fits, letters_read, state_rules_of, rules}
use Rattle.model.specs.Wanted.{Member}
use Rattle.model.proofs.Logic.{test}
use Rattle.model.proofs.Index.{gather_elim, only_elim}
use Rattle.model.proofs.Keys.{ascending_from}
use Rattle.model.proofs.Numbering.Letters.{key_of, key_has, letter_index_behind, letter_index_below}
use Rattle.model.proofs.Numbering.Choices.{where_allowed}
use Rattle.model.proofs.Bounded.Fire.{Shaped}

-- each element of a list has the property; what the ways to make a list hand on
abbrev pub Each : {A : Type 0} → (A → Type 0) → List A → Type 0
Each {A} P xs = (x : A) → Memᴰ x xs → P x

pub each_none : {A : Type 0} (P : A → Type 0) → Each P []
each_none P x m = absurd (Memᴰ.not-nil m)

pub each_one : {A : Type 0} (P : A → Type 0) (a : A) → P a → Each P (a ∷ [])
each_one P a h x m = subst P (sym (Memᴰ.eq_of_singleton m)) h

pub each_only : {A : Type 0} (P : A → Type 0) (b : Bool) (a : A) → (b ≡ true → P a) → Each P (only b a)
each_only P b a h x m = let (e, same) = only_elim b a x m in subst P (sym same) (h e)

pub each_where : {A : Type 0} (P : A → Type 0) (b : Bool) (xs : List A) → Each P xs → Each P (elim b [ true ↦ xs | false ↦ [] ])
each_where P true xs h = h
each_where P false xs h = each_none P

pub each_gather : {A : Type 0} (P : A → Type 0) (i e : ℕ) (f : ℕ → List A) → ((k : ℕ) → k < e → Each P (f k)) → Each P (gather i e f)
each_gather P i e f h x m = let (k, w, n) = gather_elim i e f x m in h k w.1 x n

pub each_from_each : {A : Type 0} (P : A → Type 0) (c : Columns) (a : ℕ) (f : ℕ → List A) → ((v : ℕ) → Each P (f v)) → Each P (from_each c a f)
unfolding from_each
each_from_each P c a f h = each_gather P 0 c.size _ (λ k below. each_where P (eqb (left c k) a) (f (right c k)) (h (right c k)))

pub each_from_all : {A B : Type 0} (P : A → Type 0) (bs : List B) (f : B → List A) → ((b : B) → Each P (f b)) → Each P (from_all bs f)
unfolding from_all
each_from_all P [] f h = each_none P
each_from_all P (b ∷ bs) f h = λ x m. ⊎_elim (λ n. h b x n) (λ n. each_from_all P bs f h x n) (Memᴰ.append_cases (f b) m)

pub each_map : {A B : Type 0} (P : A → Type 0) (bs : List B) (f : B → A) → ((b : B) → Memᴰ b bs → P (f b)) → Each P (map f bs)
each_map P bs f h x m = let (b, n, e) = Memᴰ.of_map f bs m in subst P e (h b n)

-- from a list's pairs
pub from_each_elim : {A : Type 0} (c : Columns) (a : ℕ) (f : ℕ → List A) (x : A) → Memᴰ x (from_each c a f) → (v : ℕ) × (Member c a v × Memᴰ x (f v))
unfolding from_each
from_each_elim c a f x m =
    let (i, w, n) = gather_elim 0 c.size (λ j. elim (eqb (left c j) a) [ true ↦ f (right c j) | false ↦ [] ]) x m in
    test (eqb (left c i) a)
    (λ e. (right c i, (record { at = i; below = w.1; first = eqb-true (left c i) a e; second = refl }, rw e at n)))
    (λ e. absurd (Memᴰ.not-nil (rw e at n)))

module _ (p : Program) (t : Tables) where
  -- a letter that a branch reads in the class has a counter there
  read_has : (c q : ℕ) (l : Letter) → Memᴰ l (ascending (from_each t.mail c (letters_read p t q))) → has_letter p t c l ≡ true
  unfolding letters_read
  read_has c q l m =
      let (v, (member, n)) = from_each_elim t.mail c (letters_read p t q) l (ascending_from l (from_each t.mail c (letters_read p t q)) m) in
      test (may_take p t q v)
      (λ e. key_has p t c l (key_of p t c v l member (where_allowed p t (argument_fits p t q) v l (rw (e, letters_read) at n))))
      (λ e. absurd (Memᴰ.not-nil (rw (e, letters_read) at n)))

  module _ (i : ℕ) (below : i < t.states.size) (s : State) where
    abbrev Good : Rule → Type 0
    Good = Shaped (counter_count p t)

    below_all : i < counter_count p t
    unfolding counter_count
    below_all = omega arith

    -- by the head at which the state stands
    head_shaped : (h : Head) → head_at p s.location ≡ h → Each Good (state_rules_of p t i s)
    unfolding state_rules_of
    head_shaped (gives n) e =
        rw (e, state_rules_of) (each_gather Good 0 t.states.size _ (λ j w. each_only Good _ _ (λ v. (below_all, tt))))
    head_shaped (builds n k ns r) e = rw (e, state_rules_of) (each_one Good _ (below_all, tt))
    head_shaped (makes n r) e = rw (e, state_rules_of) (each_one Good _ (below_all, tt))
    head_shaped (calls call) e =
        rw (e, state_rules_of) (each_from_each Good t.flow call.callee _ (λ f. each_only Good _ _ (λ v. (below_all, tt))))
    head_shaped (sends n target message r) e =
        rw (e, state_rules_of)
        (each_from_each Good t.flow target _
        (λ d. each_where Good (is_class_of p d) _ (each_map Good (ascending (from_each t.flow message (letters_allowed p t))) (λ l. rule i (state_index_of t (onward s r)) (puts (letter_index p t d l))) (λ l v. (below_all, tt)))))
    head_shaped (spawns n function r) e =
        rw (e, state_rules_of) (each_from_each Good t.flow function _ (λ f. each_only Good _ _ (λ v. (below_all, tt))))
    head_shaped (selfs n r) e = rw (e, state_rules_of) (each_one Good _ (below_all, tt))
    head_shaped (cases n qs) e = rw (e, state_rules_of) (each_from_all Good qs _ (λ q. each_only Good _ _ (λ v. (below_all, tt))))
    head_shaped (receives qs) e =
        rw (e, state_rules_of)
        (each_from_all Good qs _
        (λ q. each_map Good (ascending (from_each t.mail s.class (letters_read p t q))) (λ l. rule i (state_index_of t (onward s (branch_body_of p q))) (reads (letter_index p t s.class l)))
        (λ l v. let c : ℕ = s.class in
        let behind = letter_index_behind p t c l in
        (below_all, (letter_index_below p t c l (read_has c q l v), λ z. omega arith)))))
    head_shaped no_head e = rw (e, state_rules_of) (each_none Good)

  pub rules_shaped : (ρ : Rule) → Memᴰ ρ (rules p t) → Shaped (counter_count p t) ρ
  unfolding rules
  rules_shaped =
      each_gather (Shaped (counter_count p t)) 0 t.states.size (λ i. state_rules_of p t i (state_at t i))
      (λ i below. head_shaped i below (state_at t i) (head_at p (state_at t i).location) refl)
