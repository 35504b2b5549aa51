-- The ceilings of a message in form: each stands where it begins, with its limits to come.
use Prim.Native.Nat.{ℕ, zero, suc, ◌+◌, ◌*◌, ◌-◌, ◌≤◌, ◌<◌}
use native.Mathlib.Omega.{arith}
use mathlib.Core.Path.{◌≡◌, sym}
use mathlib.Core.List.{List}
use mathlib.Core.Option.{none}
use lib.ListN.{length}
use Rattle.model.specs.declared.Sizes.{Sizes}
use Rattle.model.specs.Words.{Columns}
use Rattle.model.specs.Reader.{first_wrong_of}
use Rattle.model.specs.Ceilings.{from_counter, ceiling_entries, ceiling_step, ceilings_ahead, ceiling_entry, ceilings_of}
use Rattle.bits.specs.Bits.{Row}
use Rattle.ceilings_form.specs.Limits.{InForm, ceiling_end}
use Rattle.ceilings_form.proofs.Repeated.{walked_start}
use Rattle.ceilings_form.proofs.Ceilings.{Walks, entry_of, next_one, stands}
use Rattle.ceilings.specs.Table.{held, LimitsTable}
use Rattle.ceilings.proofs.Ahead.{Ahead, ahead_start}
use Rattle.ceilings.proofs.Cells.{row_in}

module _ (n : ℕ) (entries : Columns) (ceilings : ℕ) (form : first_wrong_of (ceiling_step n) entries (ceilings_ahead ceilings) ≡ none) where
  pub walks_at : (k : ℕ) → k ≤ ceilings → Walks n entries ceilings k (ceiling_entry n entries k)
  walks_at zero h =
      let w = walked_start (ceiling_step n) entries (from_counter 0) ceilings form in
      rw (entry_of n entries ceilings 0 0 w) w
  walks_at (suc k) h =
      let w = next_one n entries ceilings k _ (walks_at k (omega arith)) (omega arith) in
      let z : k + 1 ≡ suc k = omega arith in
      let v : Walks n entries ceilings (suc k) (ceiling_end n entries (ceiling_entry n entries k)) = rw z at w in
      rw (entry_of n entries ceilings (suc k) _ v) v

module _ (ws : List ℕ) (s : Sizes) (n : ℕ) (limits : List ℕ) (form : InForm ws s n) (table : LimitsTable (ceilings_of ws s n) limits) where
  pub room_all : n * s.ceilings ≤ length limits
  unfolding ceilings_of
  room_all = table.room

  pub row_at : (x : ℕ) → x < n → Row limits s.ceilings x
  row_at x h = row_in limits n s.ceilings x h room_all

  -- the limits of ceiling k are all to come where it begins
  pub begun : (k e : ℕ) → k < s.ceilings → e ≡ ceiling_entry n (ceiling_entries ws s) k → Ahead n (ceiling_entries ws s) (held limits s.ceilings k) (ceiling_end n (ceiling_entries ws s) e) e 0
  unfolding ceilings_of
  begun k e h z =
      rw z
      (ahead_start n (ceiling_entries ws s) (held limits s.ceilings k) _ (stands n (ceiling_entries ws s) s.ceilings k _ (walks_at n (ceiling_entries ws s) s.ceilings form k (omega arith)) h)
      (λ x b. sym (table.limit k x h b)))
