-- Document 01, "The system": the listing as 32-bit words, and back; refusal 14 (space).
use Rattle.std.specs.Prelude.{ℕ, zero, suc, ◌+◌, true, false, List, [], ◌∷◌, ◌++◌, map, length, get_or, drop, leb, eqb}
use Rattle.model.specs.declared.Verdict.TheVariants.{Space}
use Rattle.model.specs.Tags.{tag_from, tag_to, tag_reads, tag_puts, tag_starts}
use Rattle.model.specs.Index.{from_all}
use Rattle.model.specs.Verdict.{Check, unless}
use Rattle.model.specs.Words.{Columns, left, right, columns}
use Rattle.model.specs.Rows.{Program}
use Rattle.model.specs.Tables.{Tables}
use Rattle.model.specs.Counters.{letter_count_of}
use Rattle.model.specs.Rules.{Effect, quiet, reads, puts, starts, Rule, rule, rules}

-- a row of the listing
pub record Line : Type 0 where
  pub tag : ℕ
  pub number : ℕ

abbrev pub line : ℕ → ℕ → Line
line t n = record { tag = t; number = n }

-- "nothing, (52, letter counter read), (53, letter counter put) or (54, new state)"
unfoldable pub effect_lines : Effect → List Line
effect_lines quiet = []
effect_lines (reads x) = line tag_reads x ∷ []
effect_lines (puts x) = line tag_puts x ∷ []
effect_lines (starts x) = line tag_starts x ∷ []

-- "A rule is (50, from), (51, to), then ..."
unfoldable pub rule_lines : Rule → List Line
rule_lines ρ = line tag_from ρ.from ∷ line tag_to ρ.to ∷ effect_lines ρ.effect

-- "Written as 32-bit words S, letters, rules, rows, then tags, then numbers"
unfoldable pub listing : ℕ → ℕ → List Rule → List ℕ
listing states letters ρs =
    let ls : List Line = from_all ρs rule_lines in
    states ∷ letters ∷ length ρs ∷ length ls ∷ (map (λ l. l.tag) ls ++ map (λ l. l.number) ls)

unfoldable pub system_words : Program → Tables → List ℕ
system_words p t = listing t.states.size (letter_count_of p t) (rules p t)

-- "Words beyond stay"
unfoldable pub written : List ℕ → List ℕ → List ℕ
written ws lent = ws ++ drop (length ws) lent

-- 14: "system words exceed the lent slice: the words needed"
unfoldable pub space_check : Program → Tables → ℕ → Check
space_check p t lent = unless (leb (length (system_words p t)) lent) (Space (length (system_words p t)))

-- Back from the words: the rows of a listing, and the rules that they are. n rows are left, r is the next.
unfoldable pub listed_rows : List ℕ → Columns
listed_rows ws = columns ws (get_or ws 3 0) 4 (4 + get_or ws 3 0)

unfoldable pub effect_at : Columns → ℕ → Effect
effect_at rows r =
    elim (eqb (left rows r) tag_reads) [
      | true ↦ reads (right rows r)
      | false ↦
          elim (eqb (left rows r) tag_puts) [
            | true ↦ puts (right rows r)
            | false ↦ elim (eqb (left rows r) tag_starts) [ true ↦ starts (right rows r) | false ↦ quiet ]
          ]
    ]

-- a rule begins at each row with tag 50
unfoldable pub rules_from : Columns → ℕ → ℕ → List Rule
rules_from rows zero r = []
rules_from rows (suc n) r =
    elim (eqb (left rows r) tag_from) [
      | true ↦ rule (right rows r) (right rows (r + 1)) (effect_at rows (r + 2)) ∷ rules_from rows n (r + 1)
      | false ↦ rules_from rows n (r + 1)
    ]

-- the rules of the written system
unfoldable pub listed_rules : List ℕ → List Rule
listed_rules ws = rules_from (listed_rows ws) (listed_rows ws).size 0
