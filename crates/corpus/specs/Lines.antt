-- What is printed for a case of the corpus: a message, and so many words lent.
use Rattle.std.specs.Prelude.{ℕ, zero, suc, ◌+◌, List, [], ◌∷◌, ◌++◌}
use Rattle.model.specs.declared.Verdict.{Verdict}
use Rattle.model.specs.Verdict.{number, place}
use Rattle.model.specs.Verify.{verdict, lent_after, part_handed}
use Rattle.text.specs.Text.{digits, pair, line_end}
use Rattle.corpus.specs.Digest.{empty, digest_from, words_from}

-- the words lent, from word i on: each tells its place
unfoldable pub marks_from : ℕ → ℕ → List ℕ
marks_from i zero = []
marks_from i (suc n) = (2779054080 + i) ∷ marks_from (i + 1) n

unfoldable pub marks : ℕ → List ℕ
marks = marks_from 0

-- 64 bits as 16 digits
unfoldable pub hex : ℕ → List ℕ
hex = digits 16 16

-- two numbers and two digests on a line
unfoldable pub result_line : ℕ → ℕ → ℕ → ℕ → List ℕ
result_line n p a b = pair n p ++ (32 ∷ (hex a ++ (32 ∷ hex b))) ++ line_end

-- number, place, digest of the lent words afterwards, digest of the part handed on
unfoldable pub case_line : List ℕ → ℕ → List ℕ
case_line bytes lent =
    let v : Verdict = verdict bytes lent in
    result_line (number v) (place v) (words_from empty (lent_after bytes (marks lent)))
    (digest_from empty (part_handed bytes lent))
