-- Refusal 12 by the code's values: the count of an item, a bad that counts meet, the first one that some ceiling allows.
use Prim.Native.Nat.{ℕ, ◌+◌, ◌*◌, ◌-◌, ◌≤◌, ◌<◌}
use native.Mathlib.Decide.{dec_lt}
use native.Mathlib.Omega.{arith}
use mathlib.Core.Path.{◌≡◌, sym, ◌∙◌, ap}
use mathlib.Core.Bool.{Bool, true, false, ◌&&◌}
use mathlib.Core.List.{List}
use Rattle.std.proofs.Common.{Ok, Err}
use lib.ListN.{length, get_or}
use lib.Dec.{leb, eqb}
use borrow.Author.Tests.{le-leb, lt-leb, eq-eqb, ne_eqb}
use Rattle.model.specs.declared.Sizes.{Sizes}
use Rattle.model.specs.declared.Verdict.{Verdict}
use Rattle.model.specs.declared.Verdict.TheVariants.{Met}
use Rattle.model.specs.Index.{any, first}
use Rattle.model.specs.Words.{Columns, left, right}
use Rattle.model.specs.Message.{bads_offset}
use Rattle.model.specs.Verdict.{unless}
use Rattle.model.specs.Rows.{Program, program}
use Rattle.model.specs.Tables.{Tables, tables}
use Rattle.model.specs.Bads.{bad_rows, bad_row_of, Subject, past_heads_of, Item, items, met}
use Rattle.model.specs.Counters.{counter_count, counts}
use Rattle.model.specs.Markings.{Marking, sum_in}
use Rattle.model.specs.Ceilings.{ceilings_of, highest, bad_allowed, met_check_of}
use Rattle.model.specs.Verify.{outcome}
use Rattle.model.proofs.Outcome.{passes_unless, refuses_unless}
use Rattle.model.proofs.Index.{any_intro, any_elim, any_none, none_any, first_is, first_unique, total_same}
use Rattle.bits.specs.Bits.{Row}
use Rattle.ceilings.specs.Table.{held, LimitsTable}
use Rattle.ceilings.proofs.Cells.{row_in}
use Rattle.ceilings_form.proofs.Limited.{highest_same}
use Rattle.bads_rows.specs.Items.{Range, subject_from, items_at}
use Rattle.bads_rows.proofs.Walking.{inside, row_range, BadsWalked, bads_row}
use Rattle.ceilings_met.specs.Met.{Ready, bad_met}
use Rattle.ceilings_met.specs.Sums.{counts_of, SumsOf, Summed}
use Rattle.bads_rows.proofs.BadRows.{met_item, met_over}
use Rattle.ceilings_met.proofs.Sums.{range_sum, between, sums_rise, sums_counts}

-- what a search for the first finds
pub first_refused : (k j e : ℕ) (v : ℕ → Verdict) → k ≡ j → (j ≡ e → ⊥) → Err (v j) ≡ outcome (unless (eqb k e) (v k))
first_refused k j e v z h = rw z (refuses_unless _ (v j) (ne_eqb j e h))

pub first_passed : (k e : ℕ) (v : ℕ → Verdict) → k ≡ e → Ok tt ≡ outcome (unless (eqb k e) (v k))
first_passed k e v z = passes_unless _ _ (eq-eqb k e z)

-- the first that one of the turns before k + 1 passes is the first that turn k passes, of those before the first that one before k does
first_less : (n k a b : ℕ) (f : ℕ → ℕ → Bool) → a ≡ first 0 n (λ j. any 0 k (f j)) → b ≡ first 0 a (λ j. f j k) → b ≡ first 0 n (λ j. any 0 (k + 1) (f j))
first_less n k a b f e h =
    let u = first_is 0 n (λ j. any 0 k (f j)) (omega arith) in
    let v = first_is 0 a (λ j. f j k) (omega arith) in
    let low = u.upto in
    let lower = v.upto in
    let passes : b < n → any 0 (k + 1) (f b) ≡ true = λ l. elim (dec_lt b a) [
      | yes z ↦ any_intro 0 (k + 1) k (f b) (omega arith) (omega arith) (ap (λ x. f x k) h ∙ v.passes (omega arith))
      | no z ↦
          let same : b ≡ first 0 n (λ j. any 0 k (f j)) = omega arith in
          let (i, w, t) = any_elim 0 k (f b) (ap (λ x. any 0 k (f x)) same ∙ u.passes (omega arith)) in
          any_intro 0 (k + 1) i (f b) w.0 (let y = w.1 in omega arith) t
    ] in
    sym (first_unique 0 n b (λ j. any 0 (k + 1) (f j)) (omega arith) (record {
      from = omega arith;
      upto = omega arith;
      passes = passes;
      before = λ j x y. none_any 0 (k + 1) (f j) (λ i lo hi. elim (dec_lt i k) [
        | yes z ↦ any_none 0 k i (f j) (u.before j x (omega arith)) lo z
        | no z ↦ let same : i ≡ k = omega arith in ap (f j) same ∙ v.before j x (omega arith)
      ]);
    }))

-- the first lies at the end or before it
pub first_upto : (a b n : ℕ) (f : ℕ → Bool) → b ≡ first 0 a f → a ≤ n → b ≤ n
first_upto a b n f e h = let w = (first_is 0 a f (omega arith)).upto in omega arith

-- before the first ceiling, no bad is allowed
pub first_none : (n : ℕ) (f : ℕ → ℕ → Bool) → n ≡ first 0 n (λ j. any 0 0 (f j))
first_none n f =
    sym (first_unique 0 n n (λ j. any 0 0 (f j)) (omega arith) (record {
      from = omega arith;
      upto = omega arith;
      passes = λ l. absurd (omega arith);
      before = λ j x y. none_any 0 0 (f j) (λ i lo hi. absurd (omega arith));
    }))

-- a sum depends on the counts of the counters alone, and so does whether a bad is met
sums_alike : (p : Program) (t : Tables) (m m' : Marking) → ((x : ℕ) → x < counter_count p t → m x ≡ m' x) → (k : Subject) → sum_in p t m k ≡ sum_in p t m' k
unfolding sum_in
sums_alike p t m m' same k = total_same 0 (counter_count p t) _ _ (λ x lo hi. ap (λ y. elim (counts p t k x) [ true ↦ y | false ↦ 0 ]) (same x hi))

met_alike : (p : Program) (t : Tables) (m m' : Marking) → ((x : ℕ) → x < counter_count p t → m x ≡ m' x) → (is : List Item) → met (sum_in p t m) is ≡ met (sum_in p t m') is
met_alike p t m m' same is = ap (λ c. met c is) (λ i k. sums_alike p t m m' same k i)

module _ (ws : List ℕ) (s : Sizes) where
  abbrev rows : Columns
  rows = bad_rows ws s

  -- the count of an item
  module _ (froms tos sums : List ℕ) (ready : Summed ws s froms tos sums) (r : ℕ) (low : r < s.badrows) where
    item_range : Range (program ws s) (tables ws s) (subject_from rows r) (get_or froms r 0) (get_or tos r 0)
    item_range = row_range ws s froms tos ready.items_table r low

    module _ (from to : ℕ) (from_is : from ≡ get_or froms r 0) (to_is : to ≡ get_or tos r 0) where
      -- both ends are in the table of sums
      pub ends_room : (from < length sums) × (to < length sums)
      ends_room = let a = item_range.order in let b = item_range.upto in let c = ready.room in (omega arith, omega arith)

      ends_told : get_or sums from 0 + sum_in (program ws s) (tables ws s) (counts_of sums) (subject_from rows r) ≡ get_or sums to 0
      ends_told =
          let e = range_sum (program ws s) (tables ws s) (subject_from rows r) (get_or froms r 0) (get_or tos r 0) item_range (counts_of sums) in
          rw (from_is, to_is, e) (between sums (counter_count (program ws s) (tables ws s)) ready.rising (get_or froms r 0) (get_or tos r 0) item_range.order item_range.upto)

      module _ (low_sum high_sum : ℕ) (low-is : low_sum ≡ get_or sums from 0) (high_is : high_sum ≡ get_or sums to 0) where
        pub sums_order : low_sum ≤ high_sum
        sums_order = let e = ends_told in omega arith

        pub sum_told : high_sum - low_sum ≡ sum_in (program ws s) (tables ws s) (counts_of sums) (subject_from rows r)
        sum_told = let e = ends_told in omega arith

  -- one item more, the one that is not met, and the end of the bad
  module _ (count : Subject → ℕ) (r i t : ℕ) (so_far : met count (items_at rows r) ≡ met count (items_at rows i)) (tag : t ≡ left rows i) where
    pub meets_end : (t ≡ 40 → ⊥) → true ≡ met count (items_at rows r)
    meets_end h = sym (so_far ∙ met_over rows (inside ws s) count i (λ z. h (tag ∙ z)))

    module _ (is-item : t ≡ 40) (next least c : ℕ) (next_is : next ≡ past_heads_of rows (i + 2) + 1) (minimum : least ≡ right rows (next - 1)) (counted : c ≡ count (subject_from rows i)) where
      by_item : met count (items_at rows r) ≡ (leb least c && met count (items_at rows next))
      by_item =
          let e : next - 1 ≡ past_heads_of rows (i + 2) = omega arith in
          so_far ∙ (met_item rows (inside ws s) count i (sym tag ∙ is-item) ∙ rw (minimum, e, counted, next_is))

      pub meets_not : c < least → false ≡ met count (items_at rows r)
      meets_not h = sym (by_item ∙ rw (lt-leb least c h))

      pub meets_next : least ≤ c → met count (items_at rows r) ≡ met count (items_at rows next)
      meets_next h = by_item ∙ rw (le-leb least c h)

  -- bad j is met where its items, from its row on, are
  pub bad_at : (m : Marking) (j r : ℕ) (b : Bool) → BadsWalked ws s j r → b ≡ met (sum_in (program ws s) (tables ws s) m) (items_at rows r) → bad_met ws s m j ≡ b
  unfolding bad_met items items_at
  bad_at m j r b w e = rw (← bads_row ws s j r w) (sym e)

  -- The ceilings
  module _ (n : ℕ) where
    -- ceiling k allows bad j
    abbrev pub allows : ℕ → ℕ → Bool
    allows j k = bad_met ws s (highest ((ceilings_of ws s n).limit k)) j

    -- the first bad that one of the first k ceilings allows
    abbrev pub first_allowed : ℕ → ℕ
    first_allowed k = first 0 s.bads (λ j. any 0 k (allows j))

    module _ (limits froms tos : List ℕ) (ready : Ready ws s n limits froms tos) (k : ℕ) (below : k < s.ceilings) (sums : List ℕ) (told : SumsOf (highest (held limits s.ceilings k)) n sums) where
      pub summed : n < length sums → Summed ws s froms tos sums
      summed room =
          record {
            whole = ready.whole;
            items_table = ready.items_table;
            room = rw ready.counters at room;
            rising = rw ready.counters at (sums_rise (highest (held limits s.ceilings k)) n sums told);
          }

      counts_same : (x : ℕ) → x < n → counts_of sums x ≡ highest ((ceilings_of ws s n).limit k) x
      unfolding ceilings_of
      counts_same x h =
          sums_counts (highest (held limits s.ceilings k)) n sums told x h ∙
          highest_same (held limits s.ceilings k) ((ceilings_of ws s n).limit k) x (ready.limits_table.limit k x below h)

      met_same : (j : ℕ) → bad_met ws s (counts_of sums) j ≡ allows j k
      unfolding bad_met
      met_same j = met_alike (program ws s) (tables ws s) _ _ (λ x l. counts_same x (let e = ready.counters in omega arith)) (items (program ws s) rows j)

      pub allowed_next : (a b : ℕ) → a ≡ first_allowed k → b ≡ first 0 a (bad_met ws s (counts_of sums)) → b ≡ first_allowed (k + 1)
      allowed_next a b e h = first_less s.bads k a b allows e (h ∙ ap (first 0 a) (λ i j. met_same j i))

    -- the answer
    pub met_refused : (j r at : ℕ) → j ≡ first_allowed s.ceilings → (j ≡ s.bads → ⊥) → r ≡ bad_row_of (program ws s) rows j → at ≡ bads_offset s + 2 → Err (Met (at + r)) ≡ outcome (met_check_of s (program ws s) (tables ws s) (ceilings_of ws s n) rows)
    unfolding met_check_of bad_met bad_allowed ceilings_of
    met_refused j r at e h w z = rw (z, w) (first_refused (first_allowed s.ceilings) j s.bads (λ i. Met (bads_offset s + 2 + bad_row_of (program ws s) rows i)) (sym e) h)

    pub met_safe : (j : ℕ) → j ≡ first_allowed s.ceilings → j ≡ s.bads → Ok tt ≡ outcome (met_check_of s (program ws s) (tables ws s) (ceilings_of ws s n) rows)
    unfolding met_check_of bad_met bad_allowed ceilings_of
    met_safe j e h = first_passed (first_allowed s.ceilings) s.bads (λ i. Met (bads_offset s + 2 + bad_row_of (program ws s) rows i)) (sym e ∙ h)

-- the limits stand in the table, and those of a counter
pub limits_room : (ws : List ℕ) (s : Sizes) (n : ℕ) (limits : List ℕ) → LimitsTable (ceilings_of ws s n) limits → n * s.ceilings ≤ length limits
unfolding ceilings_of
limits_room ws s n limits table = table.room

pub row_of : (ws : List ℕ) (s : Sizes) (n : ℕ) (limits : List ℕ) → LimitsTable (ceilings_of ws s n) limits → (x : ℕ) → x < n → Row limits s.ceilings x
row_of ws s n limits table x h = row_in limits n s.ceilings x h (limits_room ws s n limits table)
