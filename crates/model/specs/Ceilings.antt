-- Document 01, "Ceilings and bads": ceilings; refusals 10 (ceiling), 11 (start), 12 (met) and 13 (leak).
use Rattle.std.specs.Prelude.{ℕ, zero, suc, ◌+◌, ◌-◌, Bool, true, false, not, ◌&&◌, ◌||◌, List, [], ◌∷◌, replicate, leb, ltb, eqb}
use Rattle.std.proofs.Math.Option.{some, none, map}
use Rattle.model.specs.declared.Sizes.{Sizes}
use Rattle.model.specs.declared.Verdict.TheVariants.{Ceiling, Start, Met, Leak}
use Rattle.model.specs.Limits.{omega_limit}
use Rattle.model.specs.Index.{any, all, first}
use Rattle.model.specs.Words.{Columns, left, right, columns}
use Rattle.model.specs.Verdict.{Check, unless}
use Rattle.model.specs.Message.{bads_offset, ceilings_offset}
use Rattle.model.specs.Reader.{Grammar, fits, after, first_wrong_of}
use Rattle.model.specs.Rows.{Program}
use Rattle.model.specs.Tables.{Tables}
use Rattle.model.specs.Bads.{Item, bad_row_of, items, met}
use Rattle.model.specs.Rules.{Rule}
use Rattle.model.specs.Markings.{Marking, usable, fire, initial, sum_in}

-- "Ceilings: K ceilings, E entries; counter numbers, then limits"
unfoldable pub ceiling_entries : List ℕ → Sizes → Columns
ceiling_entries ws s = columns ws s.entries (ceilings_offset s + 2) (ceilings_offset s + 2 + s.entries)

-- what is still to come of a ceiling: counter numbers from this one on, or its closing entry
pub data Ahead : Type 0 where
  from_counter : ℕ → Ahead

-- "Within a ceiling, counter numbers rise strictly, limits 1 to 65,535 ... The count of all counters, as counter
-- number with limit 0, closes a ceiling."
unfoldable pub ceiling_step : ℕ → Grammar Ahead
ceiling_step counters (from_counter least) x limit =
    elim (eqb x counters) [
      | true ↦ fits (eqb limit 0) []
      | false ↦ fits (leb least x && (ltb x counters && leb 1 limit)) (from_counter (x + 1) ∷ [])
    ]

abbrev pub ceilings_ahead : ℕ → List Ahead
ceilings_ahead k = replicate k (from_counter 0)

-- 10: "form, or not K ceilings: first such entry's counter number, an entry after K ceilings included; entries ending
-- early: the word past the counter numbers"
unfoldable pub ceiling_check_of : List ℕ → Sizes → ℕ → Check
ceiling_check_of ws s counters =
    map (λ e. Ceiling (ceilings_offset s + 2 + e))
    (first_wrong_of (ceiling_step counters) (ceiling_entries ws s) (ceilings_ahead s.ceilings))

-- the first entry of ceiling number k
unfoldable pub ceiling_entry : ℕ → Columns → ℕ → ℕ
ceiling_entry counters entries k = after (ceiling_step counters) entries (ceilings_ahead k) 0

-- the limit of counter x in the ceiling whose entries stand from e on; "absent counters have limit 0". n entries are
-- left.
unfoldable pub limit_from : ℕ → Columns → ℕ → ℕ → ℕ → ℕ
limit_from counters entries zero e x = 0
limit_from counters entries (suc n) e x =
    elim (eqb (left entries e) counters) [
      | true ↦ 0
      | false ↦ elim
          (eqb (left entries e) x) [ true ↦ right entries e | false ↦ limit_from counters entries n (e + 1) x ]
    ]

-- a ceiling gives each counter its limit
abbrev pub CeilingLimits : Type 0
CeilingLimits = ℕ → ℕ

-- the ceilings of a message: how many, and the limits of each
pub record Ceilings : Type 0 where
  pub size : ℕ
  pub counters : ℕ
  pub limit : ℕ → CeilingLimits

unfoldable pub ceilings_of : List ℕ → Sizes → ℕ → Ceilings
ceilings_of ws s counters =
    let entries : Columns = ceiling_entries ws s in
    record {
      size = s.ceilings;
      counters = counters;
      limit = λ k x.
          let e : ℕ = ceiling_entry counters entries k in limit_from counters entries (entries.size - e) e x;
    }

-- "Counts lie under a ceiling when each is at most its limit there, or that is unbounded"
unfoldable pub allowed : ℕ → ℕ → Bool
allowed limit n = eqb limit omega_limit || leb n limit

unfoldable pub under : ℕ → CeilingLimits → Marking → Bool
under counters b m = all 0 counters (λ x. allowed (b x) (m x))

unfoldable pub under_some : Ceilings → Marking → Bool
under_some bs m = any 0 bs.size (λ k. under bs.counters (bs.limit k) m)

-- The highest counts under a ceiling: the limits themselves, and where there is none a count past every limit and every
-- minimum, also after a rule takes one.
unfoldable pub highest : CeilingLimits → Marking
highest b x = elim (eqb (b x) omega_limit) [ true ↦ omega_limit + 1 | false ↦ b x ]

-- 11: "under no ceiling: size K"
unfoldable pub start_check_of : Sizes → Program → Tables → Ceilings → Check
start_check_of s p t bs = unless (under_some bs (initial p t)) (Start (ceilings_offset s))

-- Some ceiling allows counts that meet the bad of these items. Document 02, (iv): "the sum over the third column, also
-- in a ceiling".
unfoldable pub bad_allowed : Program → Tables → Ceilings → List Item → Bool
bad_allowed p t bs is = any 0 bs.size (λ k. met (sum_in p t (highest (bs.limit k))) is)

-- 12: "a ceiling allows a bad: that first bad's first tag"
unfoldable pub met_check_of : Sizes → Program → Tables → Ceilings → Columns → Check
met_check_of s p t bs rows =
    let j : ℕ = first 0 s.bads (λ i. bad_allowed p t bs (items p rows i)) in
    unless (eqb j s.bads) (Met (bads_offset s + 2 + bad_row_of p rows j))

-- some rule that can be used at the counts leads out of all ceilings
unfoldable pub leads_out : Ceilings → List Rule → Marking → Bool
leads_out bs [] m = false
leads_out bs (ρ ∷ ρs) m = usable ρ m && not (under_some bs (fire ρ m)) || leads_out bs ρs m

-- 13: "from counts under a ceiling, a rule leads out of all ceilings: the first such ceiling's first entry"
unfoldable pub leak_check_of : List ℕ → Sizes → Ceilings → List Rule → Check
leak_check_of ws s bs ρs =
    let k : ℕ = first 0 bs.size (λ i. leads_out bs ρs (highest (bs.limit i))) in
    unless (eqb k bs.size) (Leak (ceilings_offset s + 2 + ceiling_entry bs.counters (ceiling_entries ws s) k))
