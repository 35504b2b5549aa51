-- The listing as words (specs/Listing.antt): how many there are, that writing them keeps the words beyond, and that they tell the rules again.
use Prim.Native.Nat.{ℕ, suc, ◌+◌, ◌*◌, ◌≤◌}
use native.Mathlib.Nat.{zero-add}
use native.Mathlib.Omega.{arith}
use mathlib.Core.Path.{◌≡◌, refl, ◌∙◌, ap, ap₂}
use mathlib.Core.Bool.{true, false}
use mathlib.Core.List.{List, [], ◌∷◌, ◌++◌, map, append_assoc}
use lib.ListN.{length, get_or, take, drop, length-append, length-map, length-drop}
use lib.Dec.{eqb}
use lib.Seq.{take_at, drop_at, drop-append_seam}
use Rattle.model.specs.Index.{from_all}
use Rattle.model.specs.Words.{Columns, left, right, columns}
use Rattle.model.specs.Rows.{Program}
use Rattle.model.specs.Tables.{Tables}
use Rattle.model.specs.Counters.{letter_count_of}
use Rattle.model.specs.Rules.{Effect, quiet, reads, puts, starts, Rule, rule, rules}
use Rattle.model.specs.Listing.{Line, line, effect_lines, rule_lines, listing, system_words, written, listed_rows, effect_at, rules_from, listed_rules}

-- the rows of some rules
abbrev pub lines : List Rule → List Line
lines ρs = from_all ρs rule_lines

abbrev tags : List Line → List ℕ
tags = map (λ l. l.tag)

abbrev numbers : List Line → List ℕ
numbers = map (λ l. l.number)

-- the words needed
pub length_listing : (states letters : ℕ) (ρs : List Rule) → length (listing states letters ρs) ≡ 4 + 2 * length (lines ρs)
unfolding listing
length_listing states letters ρs =
    let a = length-append (tags (lines ρs)) (numbers (lines ρs)) in
    let b = length-map (lines ρs) (λ l. l.tag) in
    let c = length-map (lines ρs) (λ l. l.number) in
    omega arith

-- what was lent stays as long
pub length_written : (ws lent : List ℕ) → length ws ≤ length lent → length (written ws lent) ≡ length lent
unfolding written
length_written ws lent h =
    let a = length-append ws (drop (length ws) lent) in
    let b = length-drop (length ws) lent in
    omega arith

-- "Words beyond stay"
pub written_beyond : (ws lent : List ℕ) → drop (length ws) (written ws lent) ≡ drop (length ws) lent
unfolding written
written_beyond ws lent = drop-append_seam ws (drop (length ws) lent)

-- the rows from r on are these lines, and none behind them
record Stand (rows : Columns) (r : ℕ) (ls : List Line) : Type 0 where
  tag : (i : ℕ) → left rows (r + i) ≡ get_or (tags ls) i 0
  number : (i : ℕ) → right rows (r + i) ≡ get_or (numbers ls) i 0

stand_next : (rows : Columns) (r : ℕ) (l : Line) (ls : List Line) → Stand rows r (l ∷ ls) → Stand rows (r + 1) ls
stand_next rows r l ls h = record { tag = λ i. rw (shift i) (h.tag (suc i)); number = λ i. rw (shift i) (h.number (suc i)) }
  where
    shift : (i : ℕ) → r + 1 + i ≡ r + suc i
    shift i = omega arith

-- the row that stands there
stand_tag : (rows : Columns) (r : ℕ) (l : Line) (ls : List Line) → Stand rows r (l ∷ ls) → left rows r ≡ l.tag
stand_tag rows r l ls h = let z : r + 0 ≡ r = omega arith in rw z at (h.tag 0)

stand_number : (rows : Columns) (r : ℕ) (l : Line) (ls : List Line) → Stand rows r (l ∷ ls) → right rows r ≡ l.number
stand_number rows r l ls h = let z : r + 0 ≡ r = omega arith in rw z at (h.number 0)

-- a row of another tag begins no rule
pass : (rows : Columns) (n r : ℕ) (l : Line) (ls : List Line) → Stand rows r (l ∷ ls) → eqb l.tag 50 ≡ false → rules_from rows (suc n) r ≡ rules_from rows n (r + 1)
unfolding rules_from
pass rows n r l ls h e = rw (stand_tag rows r l ls h, e, rules_from)

-- a row with tag 50 begins one
begins : (rows : Columns) (n r : ℕ) (l : Line) (ls : List Line) → Stand rows r (l ∷ ls) → eqb l.tag 50 ≡ true → rules_from rows (suc n) r ≡ rule (right rows r) (right rows (r + 1)) (effect_at rows (r + 2)) ∷ rules_from rows n (r + 1)
unfolding rules_from
begins rows n r l ls h e = rw (stand_tag rows r l ls h, e, rules_from)

-- what stands where no effect is
effect_quiet : (rows : Columns) (r : ℕ) (ρs : List Rule) → Stand rows r (lines ρs) → effect_at rows r ≡ quiet
unfolding effect_at rule_lines from_all
effect_quiet rows r [] h =
    let z : r + 0 ≡ r = omega arith in
    let e : left rows r ≡ 0 = rw z at (h.tag 0) in
    rw (e, effect_at) (rw e (rw e))
effect_quiet rows r (ρ ∷ ρs) h = let e = stand_tag rows r _ _ h in rw (e, effect_at) (rw e (rw e))

-- the effect of a rule, read behind its first two rows
effect_told : (rows : Columns) (r : ℕ) (e : Effect) (ρs : List Rule) → Stand rows r (effect_lines e ++ lines ρs) → effect_at rows r ≡ e
unfolding effect_at effect_lines
effect_told rows r quiet ρs h = effect_quiet rows r ρs h
effect_told rows r (reads x) ρs h = rw (stand_tag rows r _ _ h, effect_at) (ap reads (stand_number rows r _ _ h))
effect_told rows r (puts x) ρs h = let e = stand_tag rows r _ _ h in rw (e, effect_at) (rw e (ap puts (stand_number rows r _ _ h)))
effect_told rows r (starts x) ρs h = let e = stand_tag rows r _ _ h in rw (e, effect_at) (rw e (rw e (ap starts (stand_number rows r _ _ h))))

-- the rows of an effect are passed over
effect_passed : (rows : Columns) (r : ℕ) (e : Effect) (ρs : List Rule) → Stand rows r (effect_lines e ++ lines ρs) → ((q : ℕ) → Stand rows q (lines ρs) → rules_from rows (length (lines ρs)) q ≡ ρs) → rules_from rows (length (effect_lines e ++ lines ρs)) r ≡ ρs
unfolding effect_lines
effect_passed rows r quiet ρs h rest = rest r h
effect_passed rows r (reads x) ρs h rest = pass rows _ r _ _ h refl ∙ rest (r + 1) (stand_next rows r _ _ h)
effect_passed rows r (puts x) ρs h rest = pass rows _ r _ _ h refl ∙ rest (r + 1) (stand_next rows r _ _ h)
effect_passed rows r (starts x) ρs h rest = pass rows _ r _ _ h refl ∙ rest (r + 1) (stand_next rows r _ _ h)

-- lines tell their rules
told : (rows : Columns) (r : ℕ) (ρs : List Rule) → Stand rows r (lines ρs) → rules_from rows (length (lines ρs)) r ≡ ρs
unfolding from_all rule_lines rules_from
told rows r [] h = refl
told rows r (ρ ∷ ρs) h =
    let to : Line = line 51 ρ.to in
    let more : List Line = effect_lines ρ.effect ++ lines ρs in
    let h₁ : Stand rows (r + 1) (to ∷ more) = stand_next rows r _ _ h in
    let h₂ : Stand rows (r + 1 + 1) more = stand_next rows (r + 1) to more h₁ in
    let two : r + 1 + 1 ≡ r + 2 = omega arith in
    let one : rule (right rows r) (right rows (r + 1)) (effect_at rows (r + 2)) ≡ ρ =
    rw (stand_number rows r _ _ h, stand_number rows (r + 1) _ _ h₁, effect_told rows (r + 2) ρ.effect ρs (rw two at h₂)) in
    begins rows (suc (length more)) r _ _ h refl ∙
    ap₂ (λ σ σs. σ ∷ σs) one (pass rows (length more) (r + 1) to more h₁ refl ∙
    effect_passed rows (r + 1 + 1) ρ.effect ρs h₂ (λ q. told rows q ρs))

-- lines as rows, and behind four words read back as such
abbrev as_rows : List Line → Columns
as_rows ls = record { size = length ls; lefts = tags ls; rights = numbers ls }

rows_back : (a b c : ℕ) (ls : List Line) (more : List ℕ) → listed_rows (a ∷ b ∷ c ∷ length ls ∷ (tags ls ++ numbers ls ++ more)) ≡ as_rows ls
unfolding listed_rows columns
rows_back a b c ls more =
    let same = length-map ls (λ l. l.tag) in
    let four : length (a ∷ b ∷ c ∷ length ls ∷ tags ls) ≡ 4 + length ls = omega arith in
    rw append_assoc (λ i. record {
      size = length ls;
      lefts = take_at (tags ls) (numbers ls ++ more) (length ls) same i;
      rights = (ap (take (length ls)) (drop_at (a ∷ b ∷ c ∷ length ls ∷ tags ls) (numbers ls ++ more) (4 + length ls) four) ∙
          take_at (numbers ls) more (length ls) (length-map ls _)) i;
    })

rows_stand : (ls : List Line) → Stand (as_rows ls) 0 ls
unfolding left right
rows_stand ls = record { tag = λ i. rw zero-add; number = λ i. rw zero-add }

-- The written words tell the rules, whatever stood in the lent words (and however many they are).
pub listed_written : (states letters : ℕ) (ρs : List Rule) (lent : List ℕ) → listed_rules (written (listing states letters ρs) lent) ≡ ρs
unfolding listed_rules written listing
listed_written states letters ρs lent =
    rw (rows_back states letters (length ρs) (lines ρs) (drop (length (listing states letters ρs)) lent))
    (told (as_rows (lines ρs)) 0 ρs (rows_stand (lines ρs)))

pub listed_system : (p : Program) (t : Tables) (lent : List ℕ) → listed_rules (written (system_words p t) lent) ≡ rules p t
unfolding system_words
listed_system p t lent = listed_written t.states.size (letter_count_of p t) (rules p t) lent

pub length_system : (p : Program) (t : Tables) → length (system_words p t) ≡ 4 + 2 * length (lines (rules p t))
unfolding system_words
length_system p t = length_listing t.states.size (letter_count_of p t) (rules p t)
