-- Laws of `words` (model, specs/Words.antt): how many there are, and each by its two bytes; and words put to the front of a list, one by one.
use Prim.Native.Nat.{ℕ, zero, suc, ◌+◌, ◌*◌, ◌/◌, ◌<◌}
use native.Mathlib.Numerals.{add-one}
use native.Mathlib.Omega.{arith}
use mathlib.Core.Path.{◌≡◌, refl, sym, ◌∙◌}
use mathlib.Core.List.{List, [], ◌∷◌, ◌++◌}
use lib.ListN.{length, get_or, take, drop, set}
use lib.Seq.{length-take-le, take-suc, drop-cons, append_snoc, set_at}
use Rattle.model.specs.Words.{words}

-- half as many words as bytes
pub words_length : (bytes : List ℕ) → length (words bytes) ≡ length bytes / 2
unfolding words
words_length [] = refl
words_length (low ∷ []) = refl
words_length (low ∷ high ∷ bytes) = let r = words_length bytes in omega arith

-- a word by its bytes
pub word_at : (bytes : List ℕ) (i : ℕ) → 2 * i + 1 < length bytes → get_or (words bytes) i 0 ≡ get_or bytes (2 * i) 0 + 256 * get_or bytes (2 * i + 1) 0
unfolding words
word_at [] i h = absurd (omega arith)
word_at (low ∷ []) i h = absurd (omega arith)
word_at (low ∷ high ∷ bytes) zero h = refl
word_at (low ∷ high ∷ bytes) (suc i) h =
    let even : 2 * suc i ≡ suc (suc (2 * i)) = omega arith in
    let odd : 2 * suc i + 1 ≡ suc (suc (2 * i + 1)) = omega arith in
    rw (odd, even) (word_at bytes i (omega arith))

-- the first i words of a list, and behind them what was there
abbrev pub put : ℕ → List ℕ → List ℕ → List ℕ
put i ws before = take i ws ++ drop i before

-- one word more
pub put_next : (i : ℕ) (ws before : List ℕ) → i < length ws → i < length before → set (put i ws before) i (get_or ws i 0) ≡ put (i + 1) ws before
put_next i ws before a b =
    rw (drop-cons before i 0 b)
    (set_at (take i ws) (get_or before i 0) (drop (suc i) before) (get_or ws i 0) i (length-take-le i ws (omega arith)) ∙
    (sym (append_snoc (take i ws) (get_or ws i 0) (drop (suc i) before)) ∙ rw (add-one i, take-suc ws i 0 a)))
