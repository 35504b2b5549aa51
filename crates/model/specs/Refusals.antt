-- Document 01, "The gate's refusals", and those of document 02, said outright: each line of the table is a way to be
-- refused at a place.
-- (Verify.antt says the same as checks.)
use Rattle.std.specs.Prelude.{ℕ, ◌+◌, ◌-◌, ◌*◌, ◌≤◌, ◌<◌, ◌≡◌, Bool, true, false, ◌↔◌, ◌⊎◌, length, replicate}
use mathlib.Core.List.{List, [], ◌∷◌, ◌++◌, Memᴰ}
use Rattle.std.proofs.Math.Option.{some, none}
use Rattle.model.specs.declared.Sizes.{Sizes}
use Rattle.model.specs.declared.Verdict.{Verdict}
use Rattle.model.specs.declared.Verdict.TheVariants.{Safe, Length, Size, Row, Name, Scope, Bad, Entry, Open}
use Rattle.model.specs.declared.Verdict.TheVariants.{Counters, Ceiling, Start, Met, Leak, Space, FunctionMailed}
use Rattle.model.specs.declared.Verdict.TheVariants.{Weights, Rise, Light}
use Rattle.model.specs.Limits.{Limits}
use Rattle.model.specs.Words.{Columns, left, right}
use Rattle.model.specs.Keys.{Key}
use Rattle.model.specs.Message.{bads_offset, tables_offset, ceilings_offset, end_of, Limited, program_sizes, bads_sizes}
use Rattle.model.specs.Message.{table_cells_of, tables_sizes, ceilings_sizes, weights_offset, weights_sizes, goes_on}
use Rattle.model.specs.Reader.{Grammar, first_wrong_of}
use Rattle.model.specs.Rows.{Program, size, tag, num, is_name, step, whole}
use Rattle.model.specs.Scopes.{binds, uses, binds_name, in_scope}
use Rattle.model.specs.Heads.{is_class_of}
use Rattle.model.specs.Bads.{bad_step, bad, bad_row_of}
use Rattle.model.specs.Tables.{Tables, State, state_at, is_value_of}
use Rattle.model.specs.Counters.{counter_count}
use Rattle.model.specs.Rules.{Rule, rules}
use Rattle.model.specs.Listing.{system_words}
use Rattle.model.specs.Markings.{Marking, usable, fire, initial}
use Rattle.model.specs.Ceilings.{Ceilings, ceiling_entries, ceiling_step, ceilings_ahead, ceiling_entry}
use Rattle.model.specs.Weights.{Lines, weight_entries, weight_step, lines_ahead, line_entry}
use Rattle.model.specs.Verify.{Message, message, verdict_within}
use Rattle.model.specs.Wanted.{Present, WantedFirst, WantedBy, Closed}
use Rattle.model.specs.Wanted.{Entry as Table-entry}
use Rattle.model.specs.Demands.{Bytes, Between, WithinLimits, Under, UnderOne, Sound, MailsFunction}
use Rattle.model.specs.Demands.{MailsNoFunction, Below, LegalPair, LegalState, two_columns, three_columns}
use Rattle.model.specs.Demands.{PairsListed, StatesListed, ByCeilings, ByWeights, line_sum}
use Rattle.model.specs.Demands.{Met as Meets}

-- the first of n that is so
pub record FirstSuch (n : ℕ) (Such : ℕ → Type 0) (i : ℕ) : Type 0 where
  pub below : i < n
  pub such : Such i
  pub before : (j : ℕ) → j < i → Such j → ⊥

-- x is element i of the list, and each before it is good
pub data Behind {A : Type 0} (Good : A → Type 0) : List A → ℕ → A → Type 0 where
  here : (x : A) (xs : List A) → Behind Good (x ∷ xs) 0 x
  there : (y x : A) (xs : List A) (i : ℕ) → Good y → Behind Good xs i x → Behind Good (y ∷ xs) (1 + i) x

-- For 1 and 2: a part's first word, its sizes, and how many cells its arrays have
pub record MessagePart : Type 0 where
  pub first : ℕ
  pub sizes : List Limited
  pub cells : ℕ

-- document 02, (v): the fifth, where a message goes on
abbrev pub weights_parts : Bool → Sizes → List MessagePart
weights_parts on s =
    elim on [
      | true ↦ record { first = weights_offset s; sizes = weights_sizes s; cells = 2 * s.weights } ∷ []
      | false ↦ []
    ]

abbrev pub parts : Limits → List ℕ → Sizes → List MessagePart
parts most bytes s =
    record { first = 0; sizes = program_sizes most s; cells = 2 * s.rows } ∷
    record { first = bads_offset s; sizes = bads_sizes s; cells = 2 * s.badrows } ∷
    record {
      first = tables_offset s;
      sizes = tables_sizes most s;
      cells = table_cells_of s.flows s.mails s.states;
    } ∷
    record { first = ceilings_offset s; sizes = ceilings_sizes s; cells = 2 * s.entries } ∷
    weights_parts (goes_on bytes s) s

abbrev pub Within : Limited → Type 0
Within l = Between l.least l.most l.size

abbrev pub EachWithin : List Limited → Type 0
EachWithin [] = Unit {0}
EachWithin (l ∷ ls) = Within l × EachWithin ls

abbrev pub SizesWhole : List ℕ → MessagePart → Type 0
SizesWhole ws part = part.first + length part.sizes ≤ length ws

abbrev pub ArraysWhole : List ℕ → MessagePart → Type 0
ArraysWhole ws part = part.first + length part.sizes + part.cells ≤ length ws

-- "sizes within limits, arrays whole"
abbrev pub Whole : List ℕ → MessagePart → Type 0
Whole ws part = EachWithin part.sizes × ArraysWhole ws part

-- For 3, 6, 10 and 16: the items still to come before row r, where each row was taken by the item on top
pub data Ahead {Item : Type 0} (step : Grammar Item) (rows : Columns) (whole : List Item) :
    ℕ → List Item → Type 0 where
  at_first : Ahead step rows whole 0 whole
  after_row :
      (r : ℕ) (item : Item) (items more : List Item) → Ahead step rows whole r (item ∷ items) →
      step item (left rows r) (right rows r) ≡ some more → Ahead step rows whole (r + 1) (more ++ items)

-- the first wrong row: one that the item on top refuses, one behind the last item, or the end of rows that end early
pub data Wrong {Item : Type 0} (step : Grammar Item) (rows : Columns) (whole : List Item) : ℕ → Type 0 where
  unfit :
      (r : ℕ) (item : Item) (items : List Item) → Ahead step rows whole r (item ∷ items) → r < rows.size →
      step item (left rows r) (right rows r) ≡ none → Wrong step rows whole r
  behind : (r : ℕ) → Ahead step rows whole r [] → r < rows.size → Wrong step rows whole r
  early :
      (item : Item) (items : List Item) → Ahead step rows whole rows.size (item ∷ items) →
      Wrong step rows whole rows.size

-- For 4: row r binds a name that an earlier row binds; some row binds the name n
pub record BoundAgain (p : Program) (r : ℕ) : Type 0 where
  pub binds_here : binds (tag p r) ≡ true
  pub earlier : ℕ
  pub before : earlier < r
  pub binds_there : binds_name p (num p r) earlier ≡ true

abbrev pub Bound : Program → ℕ → Type 0
Bound p n = (b : ℕ) × (b < size p) × (binds_name p n b ≡ true)

-- For 5: row r reads a name, and is in the scope of no row that binds it
pub record ReadsOutside (p : Program) (r : ℕ) : Type 0 where
  pub reads : uses (tag p r) ≡ true
  pub outside : (b : ℕ) → b < size p → binds_name p (num p r) b ≡ true → in_scope p b r ≡ true → ⊥

-- For 7: entry i is in its range, and above the one before
abbrev pub Placed : (ℕ → Type 0) → (ℕ → Key) → ℕ → Type 0
Placed In-range key i = In-range i × ((i ≡ 0) ⊎ Below (key (i - 1)) (key i))

-- For 8: the state wants an entry that is not there
abbrev pub Lacks : Program → Tables → State → Type 0
Lacks p t s = (e : Table-entry) × WantedBy p t s e × (Present t e → ⊥)

-- For 12: counts under a ceiling meet bad j
abbrev pub Allowed : Message → ℕ → Type 0
Allowed m j = (counts : Marking) × UnderOne m.ceilings counts × Meets m counts j

-- For 13: from counts under ceiling k a rule leads out of all ceilings
pub record Leaks (bs : Ceilings) (ρs : List Rule) (k : ℕ) : Type 0 where
  pub counts : Marking
  pub under : Under bs k counts
  pub rule : Rule
  pub listed : Memᴰ rule ρs
  pub used : usable rule counts ≡ true
  pub out : UnderOne bs (fire rule counts) → ⊥

-- For 17: from some counts a rule raises the sum of line k
pub record Raises (m : Message) (k : ℕ) : Type 0 where
  pub counts : Marking
  pub rule : Rule
  pub listed : Memᴰ rule (rules m.program m.tables)
  pub used : usable rule counts ≡ true
  pub higher : line_sum m k counts < line_sum m k (fire rule counts)

-- For 18: in each line some counts that meet bad j weigh no more than the start
abbrev pub Unsettled : Message → ℕ → Type 0
Unsettled m j =
    (k : ℕ) → k < m.lines.size →
    (counts : Marking) × Meets m counts j × (line_sum m k counts ≤ line_sum m k (initial m.program m.tables))

module _ (most : Limits) (bytes : List ℕ) where
  abbrev m : Message
  m = message bytes

  abbrev ws : List ℕ
  ws = m.words

  abbrev s : Sizes
  s = m.sizes

  abbrev p : Program
  p = m.program

  abbrev t : Tables
  t = m.tables

  abbrev bs : Ceilings
  bs = m.ceilings

  abbrev ls : Lines
  ls = m.lines

  abbrev NoNameAgain : Type 0
  NoNameAgain = (r : ℕ) → r < size p → BoundAgain p r → ⊥

  abbrev FlowListed : Type 0
  FlowListed = PairsListed (is_name p) (is_value_of p) t.flow

  abbrev MailListed : Type 0
  MailListed = PairsListed (is_class_of p) (is_value_of p) t.mail

  -- "Checked in that order, each over the whole message": what holds before the check with this number
  pub data Passed : ℕ → Type 0 where
    parts_passed : length bytes ≡ 2 * end_of s → WithinLimits most s → Passed 3
    rows_passed : Passed 3 → first_wrong_of (step p) p.rows (whole p) ≡ none → Passed 4
    names_passed : Passed 4 → NoNameAgain → ((n : ℕ) → n < p.names → Bound p n) → Passed 5
    scopes_passed : Passed 5 → ((r : ℕ) → r < size p → ReadsOutside p r → ⊥) → Passed 6
    bads_passed : Passed 6 → first_wrong_of (bad_step p) m.bads (replicate s.bads bad) ≡ none → Passed 7
    entries_passed : Passed 7 → FlowListed → MailListed → StatesListed p t → Passed 8
    closed_passed : Passed 8 → Closed p t → Passed 22
    mailed_passed : Passed 22 → MailsNoFunction p t → Passed 9
    counters_passed : Passed 9 → counter_count p t ≤ most.counters → ByCeilings m → Passed 10
    ceilings_passed :
        Passed 10 →
        first_wrong_of (ceiling_step bs.counters) (ceiling_entries ws s) (ceilings_ahead s.ceilings) ≡ none →
        Passed 11
    start_passed : Passed 11 → UnderOne bs (initial p t) → Passed 12
    bad_passed : Passed 12 → ((j : ℕ) → j < s.bads → Allowed m j → ⊥) → Passed 13
    kept_passed : Passed 13 → ((k : ℕ) → k < bs.size → Leaks bs (rules p t) k → ⊥) → Passed 14
    -- document 02, (v): "in that order, in place of 10 to 13"
    counters_weighed : Passed 9 → counter_count p t ≤ most.counters → ByWeights m → Passed 16
    weights_passed :
        Passed 16 →
        first_wrong_of (weight_step ls.counters) (weight_entries ws s) (lines_ahead s.lines) ≡ none → Passed 17
    rise_passed : Passed 17 → ((k : ℕ) → k < ls.size → Raises m k → ⊥) → Passed 18
    light_passed : Passed 18 → ((j : ℕ) → j < s.bads → Unsettled m j → ⊥) → Passed 14

  pub data Refused (lent : ℕ) : Verdict → Type 0 where
    -- 1 length: "a part is not whole: its first word; bytes remain: the word past the ceilings"; document 02, (v):
    -- "bytes left: word past it", where a message that goes on has lines
    sizes_short :
        (k : ℕ) (part : MessagePart) → Behind (Whole ws) (parts most bytes s) k part → (SizesWhole ws part → ⊥) →
        Refused lent (Length part.first)
    arrays_short :
        (k : ℕ) (part : MessagePart) → Behind (Whole ws) (parts most bytes s) k part → EachWithin part.sizes →
        (ArraysWhole ws part → ⊥) → Refused lent (Length part.first)
    bytes_remain :
        WithinLimits most s → (goes_on bytes s ≡ true → ByWeights m) → 2 * end_of s < length bytes →
        Refused lent (Length (end_of s))
    -- 2 size: "a size outside its limits: the first such size"
    size_outside :
        (k i : ℕ) (part : MessagePart) (l : Limited) → Behind (Whole ws) (parts most bytes s) k part →
        SizesWhole ws part → Behind Within part.sizes i l → (Within l → ⊥) → Refused lent (Size (part.first + i))
    -- 3 row: "tag, number, depth or row count wrong: 4 + first such row, or 4 + R if rows end early"
    row_wrong : (r : ℕ) → Passed 3 → Wrong (step p) p.rows (whole p) r → Refused lent (Row (4 + r))
    -- 4 name: "bound again: 4 + that row; else never bound: 1"
    name_again : (r : ℕ) → Passed 4 → FirstSuch (size p) (BoundAgain p) r → Refused lent (Name (4 + r))
    name_unbound : (n : ℕ) → Passed 4 → NoNameAgain → n < p.names → (Bound p n → ⊥) → Refused lent (Name 1)
    -- 5 scope: "read outside its scope: 4 + first such row"
    scope_left : (r : ℕ) → Passed 5 → FirstSuch (size p) (ReadsOutside p) r → Refused lent (Scope (4 + r))
    -- 6 bad: "form, class, head, letter, no item, or not B bads: first such tag, a row after B bads included; rows
    -- ending early: the word past the tags"
    bad_wrong :
        (r : ℕ) → Passed 6 → Wrong (bad_step p) m.bads (replicate s.bads bad) r →
        Refused lent (Bad (bads_offset s + 2 + r))
    -- 7 entry: "out of range, or not above the one before in its list: first column's word"
    flow_misplaced :
        (i : ℕ) → Passed 7 →
        FirstSuch t.flow.size
        (λ j. Placed (LegalPair (is_name p) (is_value_of p) t.flow) (two_columns t.flow) j → ⊥) i →
        Refused lent (Entry (tables_offset s + 3 + i))
    mail_misplaced :
        (i : ℕ) → Passed 7 → FlowListed →
        FirstSuch t.mail.size
        (λ j. Placed (LegalPair (is_class_of p) (is_value_of p) t.mail) (two_columns t.mail) j → ⊥) i →
        Refused lent (Entry (tables_offset s + 3 + s.flows + i))
    state_misplaced :
        (i : ℕ) → Passed 7 → FlowListed → MailListed →
        FirstSuch t.states.size (λ j. Placed (LegalState p t) (three_columns t) j → ⊥) i →
        Refused lent (Entry (tables_offset s + 3 + s.flows + s.mails + i))
    -- 8 open: "an opening entry missing: size F; else the first state that lacks something, its first column's word"
    opening_missing :
        (e : Table-entry) → Passed 8 → WantedFirst p e → (Present t e → ⊥) → Refused lent (Open (tables_offset s))
    state_open :
        (i : ℕ) → Passed 8 → ((e : Table-entry) → WantedFirst p e → Present t e) →
        FirstSuch t.states.size (λ j. Lacks p t (state_at t j)) i →
        Refused lent (Open (tables_offset s + 3 + s.flows + s.mails + i))
    -- 22 function mailed, "between 8 and 9": "exactly when a mail value has tag 3 or 11, placed at the first such
    -- entry's first column"
    function_mailed :
        (i : ℕ) → Passed 22 → FirstSuch t.mail.size (MailsFunction p t) i →
        Refused lent (FunctionMailed (tables_offset s + 3 + s.flows + i))
    -- 9 counters: "over 512: size S", by the limits in force; (viii): "Refusal 9 counts the new letters"
    counters_over : Passed 9 → most.counters < counter_count p t → Refused lent (Counters (tables_offset s + 2))
    -- 10 ceiling: "form, or not K ceilings: first such entry's counter number, an entry after K ceilings included;
    -- entries ending early: the word past the counter numbers"
    ceiling_wrong :
        (e : ℕ) → Passed 10 →
        Wrong (ceiling_step bs.counters) (ceiling_entries ws s) (ceilings_ahead s.ceilings) e →
        Refused lent (Ceiling (ceilings_offset s + 2 + e))
    -- 11 start: "under no ceiling: size K"
    start_outside : Passed 11 → (UnderOne bs (initial p t) → ⊥) → Refused lent (Start (ceilings_offset s))
    -- 12 met: "a ceiling allows a bad: that first bad's first tag"
    bad_met :
        (j : ℕ) → Passed 12 → FirstSuch s.bads (Allowed m) j →
        Refused lent (Met (bads_offset s + 2 + bad_row_of p m.bads j))
    -- 13 leak: "from counts under a ceiling, a rule leads out of all ceilings: the first such ceiling's first entry"
    ceiling_left :
        (k : ℕ) → Passed 13 → FirstSuch bs.size (Leaks bs (rules p t)) k →
        Refused lent (Leak (ceilings_offset s + 2 + ceiling_entry bs.counters (ceiling_entries ws s) k))
    -- 16 weights: "for form or not W lines, placed as 10 is"
    weights_wrong :
        (e : ℕ) → Passed 16 →
        Wrong (weight_step ls.counters) (weight_entries ws s) (lines_ahead s.lines) e →
        Refused lent (Weights (weights_offset s + 2 + e))
    -- 17 rise: "placed at the first entry of the first line that a rule raises"
    line_raised :
        (k : ℕ) → Passed 17 → FirstSuch ls.size (Raises m) k →
        Refused lent (Rise (weights_offset s + 2 + line_entry ls.counters (weight_entries ws s) k))
    -- 18 light: "placed at the first tag of the first unsettled bad"
    bad_light :
        (j : ℕ) → Passed 18 → FirstSuch s.bads (Unsettled m) j →
        Refused lent (Light (bads_offset s + 2 + bad_row_of p m.bads j))
    -- 14 space: "system words exceed the lent slice: the words needed"
    no_space : Passed 14 → lent < length (system_words p t) → Refused lent (Space (length (system_words p t)))

-- The table is exact: a refusal is the verdict exactly where its line holds.
abbrev pub RefusedExactly : Type 0
RefusedExactly =
    (most : Limits) (bytes : List ℕ) (lent : ℕ) → Bytes bytes → (v : Verdict) →
    ((verdict_within most bytes lent ≡ v) × (v ≡ Safe → ⊥)) ↔ Refused most bytes lent v

-- What document 01 says of a verdict: safe of a sound message, a refusal in the words of its line.
pub data Said (most : Limits) (bytes : List ℕ) (lent : ℕ) : Verdict → Type 0 where
  of_sound : Sound most bytes lent → Said most bytes lent Safe
  of_refused : (v : Verdict) → Refused most bytes lent v → Said most bytes lent v

-- Every message has exactly one verdict of which that holds: the one that is given.
abbrev pub VerdictExactly : Type 0
VerdictExactly =
    (most : Limits) (bytes : List ℕ) (lent : ℕ) → Bytes bytes → (v : Verdict) →
    (verdict_within most bytes lent ≡ v) ↔ Said most bytes lent v
