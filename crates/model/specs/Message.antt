-- Document 01, "The message": four parts back to back, their sizes, limits and positions, and the fifth of document 02,
-- (v); refusals 1 (length) and 2 (size).
use Rattle.std.specs.Prelude.{ℕ, ◌+◌, ◌*◌, Bool, true, false, ◌&&◌, List, [], ◌∷◌, length, get_or, leb, ltb, eqb}
use Rattle.std.proofs.Math.Option.{some, none}
use Rattle.model.specs.declared.Sizes.{Sizes}
use Rattle.model.specs.declared.Verdict.TheVariants.{Length, Size}
use Rattle.model.specs.Limits.{Limits, max_names, max_constructors, max_functions, max_bads, min_bad_rows, max_bad_rows}
use Rattle.model.specs.Limits.{max_flows, max_mails, max_ceilings, max_ceiling_entries, max_rows, max_states}
use Rattle.model.specs.Limits.{max_lines, max_weight_entries}
use Rattle.model.specs.Words.{words}
use Rattle.model.specs.Verdict.{Check, ◌>>◌, unless}

-- how many words the arrays of the tables have: "two parallel arrays", and document 02, (iv): "a third array of S
-- numbers, at the end of the tables part"
abbrev pub table_cells_of : ℕ → ℕ → ℕ → ℕ
table_cells_of flows mails states = 2 * (flows + mails + states) + states

-- "four parts back to back. Each part is its sizes, then two parallel arrays": the word at which a part begins, by the
-- sizes before it
abbrev pub bads_from : ℕ → ℕ
bads_from rows = 4 + 2 * rows

abbrev pub tables_from : ℕ → ℕ → ℕ
tables_from rows bad_rows = bads_from rows + 2 + 2 * bad_rows

abbrev pub ceilings_from : ℕ → ℕ → ℕ → ℕ
ceilings_from rows bad_rows cells = tables_from rows bad_rows + 3 + cells

-- "The longest message, 32,269 words": each part at the limits of its sizes, with weights behind the two sizes of no
-- ceilings. (With ceilings it is two words shorter.)
abbrev pub max_words : ℕ
max_words = ceilings_from max_rows max_bad_rows (table_cells_of max_flows max_mails max_states) + 2 + 2 + 2 * max_weight_entries

unfoldable pub bads_offset : Sizes → ℕ
bads_offset s = bads_from s.rows

unfoldable pub tables_offset : Sizes → ℕ
tables_offset s = tables_from s.rows s.badrows

unfoldable pub ceilings_offset : Sizes → ℕ
ceilings_offset s = ceilings_from s.rows s.badrows (table_cells_of s.flows s.mails s.states)

-- "the word past the ceilings", where the weights begin if there are any
unfoldable pub weights_offset : Sizes → ℕ
weights_offset s = ceilings_offset s + 2 + 2 * s.entries

-- the word past the last part: "bytes left: word past it"
unfoldable pub end_of : Sizes → ℕ
end_of s = elim (eqb s.lines 0) [ true ↦ weights_offset s | false ↦ weights_offset s + 2 + 2 * s.weights ]

-- document 02, (v): "Where the ceilings' two sizes are 0, a message may go on with a fifth part": a size of that part,
-- which else is 0
unfoldable pub fifth_size_of : ℕ → ℕ → ℕ → ℕ
fifth_size_of ceilings entries size = elim (eqb (ceilings + entries) 0) [ true ↦ size | false ↦ 0 ]

-- "Program: R rows, V names, C constructors, G functions. Bads: B bads, E rows. Tables: F flow, M mail, S state
-- entries. Ceilings: K ceilings, E entries", "weights ... sizes W lines ... and E entries": a size that is not there
-- reads as 0
unfoldable pub sizes : List ℕ → Sizes
sizes ws =
    let rows : ℕ = get_or ws 0 0 in
    let b : ℕ = bads_from rows in
    let bad_rows : ℕ = get_or ws (b + 1) 0 in
    let t : ℕ = tables_from rows bad_rows in
    let k : ℕ = ceilings_from rows bad_rows (table_cells_of (get_or ws t 0) (get_or ws (t + 1) 0) (get_or ws (t + 2) 0)) in
    let ceilings : ℕ = get_or ws k 0 in
    let entries : ℕ = get_or ws (k + 1) 0 in
    record {
      rows = rows;
      names = get_or ws 1 0;
      constructors = get_or ws 2 0;
      functions = get_or ws 3 0;
      bads = get_or ws b 0;
      badrows = bad_rows;
      flows = get_or ws t 0;
      mails = get_or ws (t + 1) 0;
      states = get_or ws (t + 2) 0;
      ceilings = ceilings;
      entries = entries;
      lines = fifth_size_of ceilings entries (get_or ws (k + 2) 0);
      weights = fifth_size_of ceilings entries (get_or ws (k + 3) 0);
    }

-- a size and its limits, both allowed
pub record Limited : Type 0 where
  pub size : ℕ
  pub least : ℕ
  pub most : ℕ

abbrev pub limited : ℕ → ℕ → ℕ → Limited
limited size least most = record { size = size; least = least; most = most }

-- 2: "a size outside its limits: the first such size"
unfoldable pub sizes_check : ℕ → List Limited → Check
sizes_check at [] = none
sizes_check at (l ∷ ls) =
    elim (leb l.least l.size &&
    leb l.size l.most) [ true ↦ sizes_check (at + 1) ls | false ↦ some (Size at) ]

-- "1 and 2 go together, part by part: sizes whole, sizes within limits, arrays whole"; 1: "a part is not whole: its
-- first word". The arrays have so many cells, a word each.
unfoldable pub part_check : List ℕ → ℕ → List Limited → ℕ → Check
part_check ws at ls cells =
    unless (leb (at + length ls) (length ws)) (Length at) >>
    sizes_check at ls >>
    unless (leb (at + length ls + cells) (length ws)) (Length at)

-- the sizes of each part, with their limits; three limits are those in force
abbrev pub program_sizes : Limits → Sizes → List Limited
program_sizes most s =
    limited s.rows 1 most.rows ∷ limited s.names 1 max_names ∷
    limited s.constructors 0 max_constructors ∷ limited s.functions 0 max_functions ∷ []

abbrev pub bads_sizes : Sizes → List Limited
bads_sizes s = limited s.bads 1 max_bads ∷ limited s.badrows min_bad_rows max_bad_rows ∷ []

abbrev pub tables_sizes : Limits → Sizes → List Limited
tables_sizes most s =
    limited s.flows 0 max_flows ∷ limited s.mails 0 max_mails ∷ limited s.states 0 most.states ∷ []

abbrev pub ceilings_sizes : Sizes → List Limited
ceilings_sizes s = limited s.ceilings 0 max_ceilings ∷ limited s.entries 0 max_ceiling_entries ∷ []

-- document 02, (v): "W lines (1 to 16) and E entries (to 8,192)"
abbrev pub weights_sizes : Sizes → List Limited
weights_sizes s = limited s.lines 1 max_lines ∷ limited s.weights 0 max_weight_entries ∷ []

unfoldable pub program_part_of : Limits → List ℕ → Sizes → Check
program_part_of most ws s = part_check ws 0 (program_sizes most s) (2 * s.rows)

unfoldable pub bads_part_of : List ℕ → Sizes → Check
bads_part_of ws s = part_check ws (bads_offset s) (bads_sizes s) (2 * s.badrows)

unfoldable pub tables_part_of : Limits → List ℕ → Sizes → Check
tables_part_of most ws s =
    part_check ws (tables_offset s) (tables_sizes most s) (table_cells_of s.flows s.mails s.states)

unfoldable pub ceilings_part_of : List ℕ → Sizes → Check
ceilings_part_of ws s = part_check ws (ceilings_offset s) (ceilings_sizes s) (2 * s.entries)

-- document 02, (v): "Where the ceilings' two sizes are 0, a message may go on": it does where it has bytes behind them
unfoldable pub goes_on : List ℕ → Sizes → Bool
goes_on bytes s = eqb (s.ceilings + s.entries) 0 && ltb (2 * weights_offset s) (length bytes)

-- "weights, held to 1 and 2 like the rest"
unfoldable pub weights_part_of : List ℕ → List ℕ → Sizes → Check
weights_part_of bytes ws s =
    elim (goes_on bytes s) [
      | true ↦ part_check ws (weights_offset s) (weights_sizes s) (2 * s.weights)
      | false ↦ none
    ]

-- 1: "bytes remain: the word past the ceilings"; document 02, (v): "bytes left: word past it"
unfoldable pub nothing_left : List ℕ → Sizes → Check
nothing_left bytes s = unless (leb (length bytes) (2 * end_of s)) (Length (end_of s))

-- refusals 1 and 2 of a message
unfoldable pub parts_check : Limits → List ℕ → Check
parts_check most bytes =
    let ws : List ℕ = words bytes in
    let s : Sizes = sizes ws in
    program_part_of most ws s >> bads_part_of ws s >> tables_part_of most ws s >> ceilings_part_of ws s >>
    weights_part_of bytes ws s >> nothing_left bytes s
