-- Refusal 9 finds out without listing the letters where they are many: `counters_within` of specs/Counters.antt is the
-- comparison of the count with the limit.
use Prim.Native.Nat.{ℕ, ◌+◌, ◌≤◌, ◌<◌}
use native.Mathlib.Omega.{arith}
use mathlib.Core.Path.{◌≡◌, refl, sym, subst}
use mathlib.Core.Bool.{true}
use mathlib.Core.Logic.{◌↔◌}
use mathlib.Core.List.Memᴰ
use mathlib.Core.List.{◌∷◌, map, Memᴰ}
use lib.ListN.{length, length-map}
use lib.Dec.{leb}
use Rattle.model.specs.Index.{all}
use Rattle.model.specs.Words.{left, right}
use Rattle.model.specs.Rows.{Program}
use Rattle.model.specs.Tables.{Tables}
use Rattle.model.specs.Counters.{letters_allowed, letter_keys, letter_count_of, counter_count, allowed_count, any_argument, counters_within}
use Rattle.model.specs.Wanted.{Member}
use Rattle.model.proofs.Logic.{test, true_false}
use Rattle.model.proofs.Index.{all_intro}
use Rattle.model.proofs.Keys.{ascends_fewer}
use Rattle.model.proofs.Exact.Tests.{leb_iff, fails_iff}
use Rattle.model.proofs.Numbering.Letters.{keys_ascend, key_of}
use Rattle.model.proofs.Numbering.Choices.{front_ascends, letters_ascend, allowed_length}

module _ (p : Program) (t : Tables) where
  -- the letters of one value of mail are distinct, and each has a counter
  pub allowed_at_most : (c v : ℕ) → Member t.mail c v → allowed_count p t v ≤ letter_count_of p t
  unfolding letter_count_of letters_allowed
  allowed_at_most c v m =
      let ls = letters_allowed p t v in
      let fewer = ascends_fewer (map (λ l. c ∷ l) ls) (letter_keys p t) (front_ascends c ls (letters_ascend p t any_argument v)) (keys_ascend p t)
      (λ z n. let (l, o, e) = Memᴰ.of_map (λ l. c ∷ l) ls n in subst (λ k. Memᴰ k (letter_keys p t)) e (key_of p t c v l m o)) in
      omega (arith, length-map ls (λ l. c ∷ l), allowed_length p t v)

  allowed_low : (n : ℕ) → counter_count p t ≤ n → (i : ℕ) → i < t.mail.size → leb (allowed_count p t (right t.mail i)) n ≡ true
  unfolding counter_count
  allowed_low n few i hi =
      (leb_iff (allowed_count p t (right t.mail i)) n).1
      (omega (arith, allowed_at_most (left t.mail i) (right t.mail i) (record { at = i; below = hi; first = refl; second = refl })))

  pub within_exactly : (n : ℕ) → counters_within n p t ≡ leb (counter_count p t) n
  unfolding counters_within
  within_exactly n =
      test (all 0 t.mail.size (λ i. leb (allowed_count p t (right t.mail i)) n))
      (λ e. rw (e, counters_within))
      (λ e. rw (e, counters_within) (sym ((fails_iff (leb (counter_count p t) n) (leb_iff (counter_count p t) n)).1
      (λ few. true_false (all_intro 0 t.mail.size (λ i. leb (allowed_count p t (right t.mail i)) n) (λ i lo hi. allowed_low n few i hi)) e))))

  pub within_iff : (n : ℕ) → (counters_within n p t ≡ true) ↔ (counter_count p t ≤ n)
  within_iff n = rw (within_exactly n) (leb_iff (counter_count p t) n)
