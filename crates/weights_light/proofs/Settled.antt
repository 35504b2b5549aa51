-- Refusal 18 by the code's values: an item without a counter, a line that weighs the bad above the start, the first bad that is not settled.
use Prim.Native.Nat.{ℕ, ◌+◌, ◌*◌, ◌≤◌, ◌<◌}
use native.Mathlib.Omega.{arith}
use mathlib.Core.Path.{◌≡◌, refl, sym, ◌∙◌, ap}
use mathlib.Core.Bool.{Bool, true, false, not}
use mathlib.Core.List.{List}
use Rattle.std.proofs.Common.{Ok, Err}
use lib.ListN.{length, get_or}
use lib.Dec.{ltb}
use borrow.Author.Tests.{lt-ltb, le-ltb}
use Rattle.model.specs.declared.Sizes.{Sizes}
use Rattle.model.specs.declared.Verdict.TheVariants.{Light}
use Rattle.model.specs.Index.{any, first}
use Rattle.model.specs.Words.{Columns, left}
use Rattle.model.specs.Message.{bads_offset}
use Rattle.model.specs.Rows.{Program, program}
use Rattle.model.specs.Tables.{Tables, tables, state_index_of}
use Rattle.model.specs.Closed.{start_state}
use Rattle.model.specs.Bads.{bad_rows, bad_row_of, past_heads_of, items}
use Rattle.model.specs.Counters.{counter_count, counts}
use Rattle.model.specs.Weights.{lines_of, start_weight, least_weight_of, without_counter, is_settled_of, light_check_of}
use Rattle.model.specs.Verify.{outcome}
use Rattle.model.proofs.Index.{any_intro, any_hit, any_miss, none_any}
use Rattle.model.proofs.Weighed.Form.{start_weighs}
use Rattle.ceilings.specs.Table.{held}
use Rattle.bads_rows.specs.Items.{Range, ItemsCounted, subject_from, items_at}
use Rattle.bads_rows.proofs.Walking.{row_range, BadsWalked, bads_row}
use Rattle.ceilings_met.proofs.Meeting.{first_refused, first_passed}
use Rattle.weights_least.specs.Least.{line_of, Weighable}
use Rattle.weights_least.proofs.Lightest.{in_range}
use Rattle.weights_least.proofs.Items.{without_item}
use Rattle.weights_light.specs.Weighing.{Weighing}

module _ (ws : List ℕ) (s : Sizes) where
  abbrev p : Program
  p = program ws s

  abbrev t : Tables
  t = tables ws s

  abbrev rows : Columns
  rows = bad_rows ws s

  -- Items without a counter
  module _ (froms tos : List ℕ) (table : ItemsCounted p t rows froms tos) (i : ℕ) (low : i < s.badrows) where
    range : Range p t (subject_from rows i) (get_or froms i 0) (get_or tos i 0)
    range = row_range ws s froms tos table i low

    module _ (tag : ℕ) (tag_is : tag ≡ left rows i) (is-item : tag ≡ 40) where
      pub without_here : get_or froms i 0 ≡ get_or tos i 0 → true ≡ without_counter p t (items_at rows i)
      without_here h =
          let none : any 0 (counter_count p t) (counts p t (subject_from rows i)) ≡ false = none_any 0 (counter_count p t) (counts p t (subject_from rows i)) (λ x lo hi. not_there x hi (counts p t (subject_from rows i) x) refl) in
          sym (without_item ws s i tag tag_is is-item (past_heads_of rows (i + 2) + 1) refl ∙ rw none refl)
        where
          not_there : (x : ℕ) → x < counter_count p t → (b : Bool) → counts p t (subject_from rows i) x ≡ b → b ≡ false
          not_there x hi true e = absurd (omega (arith, in_range p t (subject_from rows i) _ _ x range hi e))
          not_there x hi false e = refl

      pub without_next : (next : ℕ) → next ≡ past_heads_of rows (i + 2) + 1 → (get_or froms i 0 ≡ get_or tos i 0 → ⊥) → without_counter p t (items_at rows i) ≡ without_counter p t (items_at rows next)
      without_next next next_is h =
          let order = range.order in
          let upto = range.upto in
          let some : any 0 (counter_count p t) (counts p t (subject_from rows i)) ≡ true = any_intro 0 (counter_count p t) (get_or froms i 0) (counts p t (subject_from rows i)) (omega arith) (omega (arith, h)) (range.within (get_or froms i 0) (omega arith) (omega (arith, h))) in
          without_item ws s i tag tag_is is-item next next_is ∙ rw some refl

  module _ (n : ℕ) where
    -- One bad
    -- line k weighs the bad at row r above the start
    abbrev pub above_start : ℕ → ℕ → Bool
    above_start r k = ltb (start_weight p t ((lines_of ws s n).weight k)) (least_weight_of p t ((lines_of ws s n).weight k) (items_at rows r))

    pub settled_without : (r : ℕ) (b : Bool) → b ≡ without_counter p t (items_at rows r) → b ≡ true → true ≡ is_settled_of p t (lines_of ws s n) (items_at rows r)
    unfolding is_settled_of
    settled_without r b e h = rw (sym e, h) refl

    pub settled_by : (r : ℕ) (b c : Bool) → b ≡ without_counter p t (items_at rows r) → b ≡ false → any 0 s.lines (above_start r) ≡ c → c ≡ is_settled_of p t (lines_of ws s n) (items_at rows r)
    unfolding is_settled_of lines_of
    settled_by r b c e h g = rw (sym e, h) (sym g)

    module _ (weights froms tos : List ℕ) (x0 : ℕ) (ready : Weighing ws s n weights froms tos x0) where
      pub weighable : Weighable ws s weights froms tos
      weighable =
          record {
            whole = ready.whole;
            counters_low = rw ready.counters at ready.counters_low;
            weights_table = rw ready.counters at ready.weights_table;
            items_table = ready.items_table;
          }

      pub weights_room : n * s.lines ≤ length weights
      unfolding lines_of
      weights_room = ready.weights_table.room

      start_is : (k u : ℕ) → k < s.lines → u ≡ held weights s.lines k x0 → start_weight p t ((lines_of ws s n).weight k) ≡ u
      unfolding lines_of
      start_is k u below u-is =
          let x = ready.start in
          let low : state_index_of t (start_state p) < counter_count p t = omega (arith, ready.start_low, ready.counters) in
          start_weighs p t ((lines_of ws s n).weight k) low ∙ (ap ((lines_of ws s n).weight k) (sym x) ∙ sym (u-is ∙ ready.weights_table.weight k x0 below ready.start_low))

      module _ (r k u v : ℕ) (below : k < s.lines) (u-is : u ≡ held weights s.lines k x0) (v-is : v ≡ least_weight_of p t (line_of ws s k) (items_at rows r)) where
        tested : above_start r k ≡ ltb u v
        tested = rw (start_is k u below u-is, v-is, ready.counters) refl

        pub above_hit : u < v → any k s.lines (above_start r) ≡ true
        above_hit h = any_hit k s.lines (above_start r) below (tested ∙ lt-ltb u v h)

        pub above_miss : v ≤ u → any k s.lines (above_start r) ≡ any (k + 1) s.lines (above_start r)
        above_miss h = any_miss k s.lines (above_start r) below (tested ∙ le-ltb u v h)

    -- All bads
    abbrev pub unsettled : ℕ → Bool
    unsettled j = not (is_settled_of p t (lines_of ws s n) (items p rows j))

    pub unsettled_at : (j r : ℕ) (b : Bool) → BadsWalked ws s j r → b ≡ is_settled_of p t (lines_of ws s n) (items_at rows r) → unsettled j ≡ not b
    unfolding items items_at
    unsettled_at j r b w e = rw (← bads_row ws s j r w) (ap not (sym e))

    pub light_refused : (j r at : ℕ) → first 0 s.bads unsettled ≡ j → j < s.bads → BadsWalked ws s j r → at ≡ bads_offset s + 2 → Err (Light (at + r)) ≡ outcome (light_check_of s p t (lines_of ws s n) rows)
    unfolding light_check_of
    light_refused j r at e below w z = rw (z, bads_row ws s j r w) (first_refused (first 0 s.bads unsettled) j s.bads (λ i. Light (bads_offset s + 2 + bad_row_of p rows i)) e (λ q. omega arith))

    pub light_passed : first 0 s.bads unsettled ≡ s.bads → Ok tt ≡ outcome (light_check_of s p t (lines_of ws s n) rows)
    unfolding light_check_of
    light_passed e = first_passed (first 0 s.bads unsettled) s.bads (λ i. Light (bads_offset s + 2 + bad_row_of p rows i)) e
