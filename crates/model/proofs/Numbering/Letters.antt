-- Each (class, letter) that mail allows has a counter of its own (`letter_index` of specs/Counters.antt), behind the states
-- and below the count of all; and each counter behind the states is one of these.
use Prim.Native.Nat.{ℕ, ◌+◌, ◌-◌, ◌≤◌, ◌<◌}
use native.Mathlib.Omega.{arith}
use mathlib.Core.Path.{◌≡◌, refl, sym, ◌∙◌, ap, subst}
use mathlib.Core.Bool.{true}
use mathlib.Core.List.Memᴰ
use mathlib.Core.List.{List, [], ◌∷◌, map, Memᴰ}
use lib.ListN.{length, get_or}
use borrow.Author.Tests.{ltb-true, lt-ltb}
use Rattle.model.specs.Keys.{Key, position}
use Rattle.model.specs.Words.{left, right}
use Rattle.model.specs.Rows.{Program}
use Rattle.model.specs.Letters.{Letter}
use Rattle.model.specs.Tables.{Tables}
use Rattle.model.specs.Counters.{letters_allowed, letter_keys, has_letter, letter_count_of, counter_count, letter_index}
use Rattle.model.specs.Wanted.{Member}
use Rattle.model.proofs.Keys.{Ascends, ascending_has, ascending_from, ascending_ascends, position_finds, position_there, position_at, getD_there}
use Rattle.model.proofs.Index.{gather_intro, gather_elim}

module _ (p : Program) (t : Tables) where
  pub keys_ascend : Ascends (letter_keys p t)
  unfolding letter_keys
  keys_ascend = ascending_ascends _

  -- a letter that a value of the class's mail allows
  pub key_of : (c v : ℕ) (l : Letter) → Member t.mail c v → Memᴰ l (letters_allowed p t v) → Memᴰ (c ∷ l) (letter_keys p t)
  unfolding letter_keys
  key_of c v l m h =
      let f : ℕ → List Key = λ i. map (λ k. left t.mail i ∷ k) (letters_allowed p t (right t.mail i)) in
      ascending_has (c ∷ l) _
      (gather_intro 0 t.mail.size m.at f (c ∷ l) (omega arith) m.below
      (subst (λ x. Memᴰ (x ∷ l) (f m.at)) m.first
      (Memᴰ.map (λ k. left t.mail m.at ∷ k) (subst (λ u. Memᴰ l (letters_allowed p t u)) (sym m.second) h))))

  -- and each key is of such a one
  pub record Allowed (k : Key) : Type 0 where
    pub class : ℕ
    pub value : ℕ
    pub letter : Letter
    pub mailed : Member t.mail class value
    pub allows : Memᴰ letter (letters_allowed p t value)
    pub same : class ∷ letter ≡ k

  pub key_from : (k : Key) → Memᴰ k (letter_keys p t) → Allowed k
  unfolding letter_keys
  key_from k h =
      let f : ℕ → List Key = λ i. map (λ z. left t.mail i ∷ z) (letters_allowed p t (right t.mail i)) in
      let (i, w, m) = gather_elim 0 t.mail.size f k (ascending_from k _ h) in
      let (l, n, e) = Memᴰ.of_map (λ z. left t.mail i ∷ z) (letters_allowed p t (right t.mail i)) m in
      record {
        class = left t.mail i;
        value = right t.mail i;
        letter = l;
        mailed = record { at = i; below = w.1; first = refl; second = refl };
        allows = n;
        same = e;
      }

  -- a letter has a counter exactly where its key is one
  pub key_has : (c : ℕ) (l : Letter) → Memᴰ (c ∷ l) (letter_keys p t) → has_letter p t c l ≡ true
  unfolding has_letter letter_index counter_count letter_count_of
  key_has c l m =
      lt-ltb (t.states.size + position (c ∷ l) (letter_keys p t)) (t.states.size + length (letter_keys p t)) (omega (arith, (position_finds (c ∷ l) (letter_keys p t) m).0))

  pub has_key : (c : ℕ) (l : Letter) → has_letter p t c l ≡ true → Memᴰ (c ∷ l) (letter_keys p t)
  unfolding has_letter letter_index counter_count letter_count_of
  has_key c l h =
      position_there (c ∷ l) (letter_keys p t)
      (omega (arith, ltb-true (t.states.size + position (c ∷ l) (letter_keys p t)) (t.states.size + length (letter_keys p t)) h))

  -- letter counters lie below the count of all, and stand behind the state counters
  pub letter_index_below : (c : ℕ) (l : Letter) → has_letter p t c l ≡ true → letter_index p t c l < counter_count p t
  unfolding has_letter
  letter_index_below c l h = ltb-true _ _ h

  pub letter_index_behind : (c : ℕ) (l : Letter) → t.states.size ≤ letter_index p t c l
  unfolding letter_index
  letter_index_behind c l = omega arith

  -- the key of counter x, where it is behind the states
  abbrev pub key_at : ℕ → Key
  key_at x = get_or (letter_keys p t) (x - t.states.size) []

  pub index_key : (c : ℕ) (l : Letter) → has_letter p t c l ≡ true → key_at (letter_index p t c l) ≡ c ∷ l
  unfolding letter_index
  index_key c l h =
      let e : t.states.size + position (c ∷ l) (letter_keys p t) - t.states.size ≡ position (c ∷ l) (letter_keys p t) = omega arith in
      rw e (position_finds (c ∷ l) (letter_keys p t) (has_key c l h)).1

  pub key_there : (x : ℕ) → t.states.size ≤ x → x < counter_count p t → Memᴰ (key_at x) (letter_keys p t)
  unfolding counter_count letter_count_of
  key_there x lo hi = getD_there (letter_keys p t) (x - t.states.size) (omega arith)

  pub index_at : (x c : ℕ) (l : Letter) → t.states.size ≤ x → x < counter_count p t → c ∷ l ≡ key_at x → letter_index p t c l ≡ x
  unfolding letter_index counter_count letter_count_of
  index_at x c l lo hi e =
      let z = ap (λ k. position k (letter_keys p t)) e ∙ position_at (letter_keys p t) (x - t.states.size) keys_ascend (omega arith) in
      omega arith

  pub letter_index_injective : (c : ℕ) (l : Letter) (c' : ℕ) (l' : Letter) → has_letter p t c l ≡ true → has_letter p t c' l' ≡ true → letter_index p t c l ≡ letter_index p t c' l' → c ∷ l ≡ c' ∷ l'
  letter_index_injective c l c' l' h h' e = sym (index_key c l h) ∙ (ap key_at e ∙ index_key c' l' h')
