-- The lent words, filled one after the other.
use Rattle.std.proofs.Common.{◌≡◌, ℕ, zero, suc, ◌+◌, ◌<◌, ◌≤◌, List, [], ◌∷◌, ◌++◌, length, get_or, drop, set, sym, refl, ap, ◌∙◌, append-nil, add-zero, add-one, arith, drop-cons}
use lib.Seq.{drop-length, set_at, append_snoc}
use Rattle.corpus.specs.Lines.{marks_from, marks}

length_marks_from : (i n : ℕ) → length (marks_from i n) ≡ n
unfolding marks_from
length_marks_from i zero = refl
length_marks_from i (suc n) = ap suc (length_marks_from (i + 1) n)

pub length_marks : (n : ℕ) → length (marks n) ≡ n
unfolding marks
length_marks n = length_marks_from 0 n

-- one more at the end
marks_last : (i n : ℕ) → marks_from i (suc n) ≡ marks_from i n ++ ((2779054080 + (i + n)) ∷ [])
unfolding marks_from
marks_last i zero = ap (λ k. (2779054080 + k) ∷ []) (sym (add-zero i))
marks_last i (suc n) =
    let z : i + 1 + n ≡ i + suc n = omega arith in
    ap (λ l. (2779054080 + i) ∷ l) (marks_last (i + 1) n ∙ ap (λ k. marks_from (i + 1) n ++ ((2779054080 + k) ∷ [])) z)

-- the first i words are filled
abbrev pub Marked : ℕ → List ℕ → List ℕ → Type 0
Marked i words₀ words = words ≡ marks i ++ drop i words₀

pub marked_none : (words : List ℕ) → Marked 0 words words
unfolding marks marks_from
marked_none words = refl

pub marked_more : (i x : ℕ) (words₀ words : List ℕ) → Marked i words₀ words → i < length words₀ → x ≡ 2779054080 + i → Marked (i + 1) words₀ (set words i x)
unfolding marks
marked_more i x words₀ words e l f =
    let last : marks_from 0 (suc i) ≡ marks_from 0 i ++ (x ∷ []) = marks_last 0 i ∙ rw (f, zero_plus i) in
    ap (λ ws. set ws i x) (e ∙ ap (λ r. marks_from 0 i ++ r) (drop-cons words₀ i 0 l)) ∙
    (set_at (marks_from 0 i) (get_or words₀ i 0) (drop (suc i) words₀) x i (length_marks_from 0 i) ∙
    (sym (append_snoc (marks_from 0 i) x (drop (suc i) words₀)) ∙ rw (add-one i, last)))
  where
    zero_plus : (i : ℕ) → 0 + i ≡ i
    zero_plus i = omega arith

pub marked_all : (i : ℕ) (words₀ words : List ℕ) → Marked i words₀ words → i ≡ length words₀ → words ≡ marks (length words₀)
marked_all i words₀ words e l = e ∙ rw (l, drop-length words₀) (append-nil (marks (length words₀)))
