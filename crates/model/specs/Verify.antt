-- Document 01, "The gate's refusals": the verdict, the words of the lent slice afterwards, the part handed on.
use Rattle.std.specs.Prelude.{ℕ, ◌*◌, true, false, List, length, take, eqb, Result, Ok, Err}
use Rattle.std.proofs.Math.Option.{some, none}
use Rattle.model.specs.declared.Sizes.{Sizes}
use Rattle.model.specs.declared.Verdict.{Verdict}
use Rattle.model.specs.declared.Verdict.TheVariants.{Safe}
use Rattle.model.specs.Limits.{Limits, present}
use Rattle.model.specs.Words.{Columns, words}
use Rattle.model.specs.Verdict.{Check, ◌>>◌, number}
use Rattle.model.specs.Message.{sizes, bads_offset, parts_check}
use Rattle.model.specs.Rows.{Program, program, row_check_of}
use Rattle.model.specs.Scopes.{name_check_of, scope_check_of}
use Rattle.model.specs.Bads.{bad_rows, bad_check_of}
use Rattle.model.specs.Tables.{Tables, tables, entry_check_of, mailed_check_of}
use Rattle.model.specs.Closed.{open_check}
use Rattle.model.specs.Counters.{counter_count, counter_check_of}
use Rattle.model.specs.Rules.{rules}
use Rattle.model.specs.Listing.{system_words, written, space_check}
use Rattle.model.specs.Ceilings.{Ceilings, ceilings_of, ceiling_check_of, start_check_of, met_check_of, leak_check_of}
use Rattle.model.specs.Weights.{Lines, lines_of, weight_check_of, rise_check_of, light_check_of}

-- a message taken apart: it has ceilings, or weights and then no ceilings
pub record Message : Type 0 where
  pub words : List ℕ
  pub sizes : Sizes
  pub program : Program
  pub bads : Columns
  pub tables : Tables
  pub ceilings : Ceilings
  pub lines : Lines

unfoldable pub message : List ℕ → Message
message bytes =
    let ws : List ℕ = words bytes in
    let s : Sizes = sizes ws in
    let p : Program = program ws s in
    let t : Tables = tables ws s in
    let counters : ℕ = counter_count p t in
    record {
      words = ws;
      sizes = s;
      program = p;
      bads = bad_rows ws s;
      tables = t;
      ceilings = ceilings_of ws s counters;
      lines = lines_of ws s counters;
    }

-- refusals 3 to 5: the program
unfoldable pub program_check : Program → Check
program_check p = row_check_of p >> name_check_of p >> scope_check_of p

-- refusals 6 to 9, and 22 "between 8 and 9": bads and tables
unfoldable pub evidence_check : Limits → Message → Check
evidence_check most m =
    bad_check_of m.words m.sizes m.program >>
    entry_check_of m.sizes m.program m.tables >>
    open_check m.sizes m.program m.tables >>
    mailed_check_of m.sizes m.program m.tables >>
    counter_check_of most m.sizes m.program m.tables

-- refusals 10 to 13: the ceilings
unfoldable pub ceilings_check : Message → Check
ceilings_check m =
    ceiling_check_of m.words m.sizes (counter_count m.program m.tables) >>
    start_check_of m.sizes m.program m.tables m.ceilings >>
    met_check_of m.sizes m.program m.tables m.ceilings m.bads >>
    leak_check_of m.words m.sizes m.ceilings (rules m.program m.tables)

-- refusals 16 to 18: the weights, "in that order"
unfoldable pub weights_check : Message → Check
weights_check m =
    weight_check_of m.words m.sizes (counter_count m.program m.tables) >>
    rise_check_of m.words m.sizes m.lines (rules m.program m.tables) >>
    light_check_of m.sizes m.program m.tables m.lines m.bads

-- "in place of 10 to 13": by the weights where the message has lines of them, else by the ceilings
unfoldable pub bounds_check : Message → Check
bounds_check m = elim (eqb m.sizes.lines 0) [ true ↦ ceilings_check m | false ↦ weights_check m ]

-- refusals 3 to 14, 16 to 18 and 22: a message whose parts are whole, and the number of lent words
unfoldable pub message_check : Limits → Message → ℕ → Check
message_check most m lent =
    program_check m.program >> evidence_check most m >> bounds_check m >> space_check m.program m.tables lent

-- "Checked in that order, each over the whole message"
unfoldable pub check : Limits → List ℕ → ℕ → Check
check most bytes lent = parts_check most bytes >> message_check most (message bytes) lent

-- the answer: the first refusal, or safe
unfoldable pub answer : Check → Verdict
answer none = Safe
answer (some v) = v

-- the same as the code hands it from check to check: nothing found, or the refusal
unfoldable pub outcome : Check → Result Unit Verdict
outcome none = Ok tt
outcome (some v) = Err v

-- what a result that carries a value tells of the check before it
unfoldable pub judged : {A : Type 0} → Result A Verdict → Result Unit Verdict
judged (Ok x) = Ok tt
judged (Err v) = Err v

-- the verdict of a gate of these limits on the bytes of a message, with so many words lent
unfoldable pub verdict_within : Limits → List ℕ → ℕ → Verdict
verdict_within most bytes lent = answer (check most bytes lent)

-- what is so after safe, or else
unfoldable pub if_safe : {A : Type 0} → Verdict → A → A → A
if_safe v a b = elim (eqb (number v) 0) [ true ↦ a | false ↦ b ]

-- the lent words afterwards: the system and "Words beyond stay"; after a refusal as they came
unfoldable pub lent_after_within : Limits → List ℕ → List ℕ → List ℕ
lent_after_within most bytes lent =
    let m : Message = message bytes in
    if_safe (verdict_within most bytes (length lent)) (written (system_words m.program m.tables) lent) lent

-- "On 0 the loader is handed the program's own bytes of the message, its part with the four sizes, not a copy;
-- otherwise an empty part."
unfoldable pub part_handed_within : Limits → List ℕ → ℕ → List ℕ
part_handed_within most bytes lent =
    take (if_safe (verdict_within most bytes lent) (2 * bads_offset (message bytes).sizes) 0) bytes

-- the gate's own, by the present limits
abbrev pub verdict : List ℕ → ℕ → Verdict
verdict = verdict_within present

abbrev pub lent_after : List ℕ → List ℕ → List ℕ
lent_after = lent_after_within present

abbrev pub part_handed : List ℕ → ℕ → List ℕ
part_handed = part_handed_within present
