-- The letters that mail allows, by their numbers: each is allowed by the value of an entry of its class, and they ascend by class, then by letter.
use Prim.Native.Nat.{ℕ, ◌<◌}
use native.Mathlib.Decide.{dec_lt}
use native.Mathlib.Omega.{arith}
use mathlib.Core.Path.{◌≡◌, refl, sym, ◌∙◌, ap, subst}
use mathlib.Core.List.{[], ◌∷◌, Memᴰ}
use lib.ListN.{get_or, drop}
use lib.Dec.{ltb}
use borrow.Author.Tests.{lt-ltb}
use Rattle.model.specs.Keys.{position}
use Rattle.model.specs.Words.{left, right}
use Rattle.model.specs.Rows.{Program}
use Rattle.model.specs.Letters.{Letter}
use Rattle.model.specs.Tables.{Tables}
use Rattle.model.specs.Counters.{letters_allowed, letter_keys, letter_count_of}
use Rattle.model.specs.Demands.{Below}
use Rattle.model.proofs.Keys.{getD_there, position_finds, ascends_at}
use Rattle.model.proofs.Numbering.Letters.{keys_ascend, key_of, key_from}
use Rattle.system_letters.specs.Letters.{class_at, letter_at_of, letters_before}
use Rattle.system_letters.proofs.Tables.{count_each}
use Rattle.system_letters.proofs.Classes.{before_most, class_behind}

module _ (p : Program) (t : Tables) where
  -- a letter of mail: its number, its entry
  pub record Mailed (y : ℕ) : Type 0 where
    pub entry : ℕ
    pub below : entry < t.mail.size
    pub class : left t.mail entry ≡ class_at p t y
    pub allows : Memᴰ (letter_at_of p t y) (letters_allowed p t (right t.mail entry))

  pub letter_mailed : (y : ℕ) → y < letter_count_of p t → Mailed y
  unfolding letter_count_of class_at letter_at_of
  letter_mailed y l =
      let k = get_or (letter_keys p t) y [] in
      let a = key_from p t k (getD_there (letter_keys p t) y l) in
      let m = a.mailed in
      let letter : a.letter ≡ drop 1 k = ap (drop 1) a.same in
      record {
        entry = m.at;
        below = m.below;
        class = m.first ∙ ap (λ z. get_or z 0 0) a.same;
        allows = subst (λ v. Memᴰ (drop 1 k) (letters_allowed p t v)) (sym m.second) (subst (λ z. Memᴰ z (letters_allowed p t a.value)) letter a.allows);
      }

  -- a letter that a value of mail allows has its number
  pub letter_numbered : (j : ℕ) (l : Letter) → j < t.mail.size → Memᴰ l (letters_allowed p t (right t.mail j)) → (y : ℕ) × ((y < letter_count_of p t) × ((class_at p t y ≡ left t.mail j) × (letter_at_of p t y ≡ l)))
  unfolding letter_count_of class_at letter_at_of
  letter_numbered j l b m =
      let c = left t.mail j in
      let there = key_of p t c (right t.mail j) l (record { at = j; below = b; first = refl; second = refl }) m in
      let (low, is) = position_finds (c ∷ l) (letter_keys p t) there in
      (position (c ∷ l) (letter_keys p t), (low, (ap (λ z. get_or z 0 0) is, ap (drop 1) is)))

  pub key_told : (x : ℕ) → x < letter_count_of p t → get_or (letter_keys p t) x [] ≡ class_at p t x ∷ letter_at_of p t x
  unfolding letter_count_of class_at letter_at_of
  key_told x h =
      let a = key_from p t (get_or (letter_keys p t) x []) (getD_there (letter_keys p t) x h) in
      subst (λ k. k ≡ get_or k 0 0 ∷ drop 1 k) a.same refl

  -- the letters ascend, by class, then by letter
  pub letters_order : (y z : ℕ) → y < z → z < letter_count_of p t → Below (class_at p t y ∷ letter_at_of p t y) (class_at p t z ∷ letter_at_of p t z)
  unfolding letter_count_of
  letters_order y z l b =
      subst (λ k. Below k (class_at p t z ∷ letter_at_of p t z)) (key_told y (omega arith))
      (subst (Below (get_or (letter_keys p t) y [])) (key_told z b) (ascends_at (letter_keys p t) y z (keys_ascend p t) l b))

  -- no class is before the first
  pub before_none : letters_before p t 0 ≡ 0
  before_none = elim (dec_lt 0 (letters_before p t 0)) [
    | yes z ↦ absurd (omega (arith, class_behind p t 0 0 (omega (arith, before_most p t 0)) (omega arith)))
    | no z ↦ omega arith
  ]

  -- where no class is above, all are before
  pub before_all : (c : ℕ) → ((y : ℕ) → y < letter_count_of p t → class_at p t y < c) → letters_before p t c ≡ letter_count_of p t
  unfolding letters_before
  before_all c h = count_each (letter_count_of p t) (λ z. ltb (class_at p t z) c) (λ y l. lt-ltb (class_at p t y) c (h y l))
