-- The limits of one ceiling, filled in entry by entry; and the ceilings one after the other.
use Prim.Native.Nat.{ℕ, ◌+◌, ◌*◌, ◌-◌, ◌≤◌, ◌<◌}
use native.Mathlib.Decide.{ℕ_discrete, dec_lt}
use native.Mathlib.Omega.{arith}
use mathlib.Core.Path.{◌≡◌, refl, sym, ◌∙◌}
use mathlib.Core.List.{List}
use mathlib.Core.Option.{none}
use lib.ListN.{length, get_or, set, length-set}
use lib.Seq.{get_or-set_same, get_or-set_other}
use Rattle.model.specs.declared.Sizes.{Sizes}
use Rattle.model.specs.Words.{Columns, left, right}
use Rattle.model.specs.Reader.{first_wrong_of}
use Rattle.model.specs.Ceilings.{from_counter, ceiling_entries, ceiling_step, ceilings_ahead, ceiling_entry, limit_from, ceilings_of}
use Rattle.bits.proofs.Rows.{place}
use Rattle.ceilings_form.specs.Limits.{StartsTable, ceiling_end, Stands}
use Rattle.ceilings_form.proofs.Repeated.{walked_start}
use Rattle.ceilings_form.proofs.Ceilings.{Walks, entry_of, next_one}
use Rattle.ceilings.specs.Table.{held, BoundsTable, LimitsTable, Blank, Unfilled, CeilingFilled}
use Rattle.ceilings.proofs.Ahead.{Ahead, CounterHere, ahead_start, ahead_inside, ahead_counter, ahead_end, ahead_none}
use Rattle.ceilings.proofs.Cells.{cell_below}

module _ (n : ℕ) (entries : Columns) (ceilings k e : ℕ) where
  -- the limits of the ceiling whose entries stand from e on
  abbrev limit_of : ℕ → ℕ
  limit_of x = limit_from n entries (entries.size - e) e x

  -- the entries e up to i are filled in, those from i on are to come
  pub record Filling (i : ℕ) (before cells : List ℕ) : Type 0 where
    pub least : ℕ
    pub ahead : Ahead n entries limit_of (ceiling_end n entries e) i least
    pub filled : (x : ℕ) → x < least → x < n → held cells ceilings k x ≡ limit_of x
    pub blank : (x : ℕ) → least ≤ x → x < n → held cells ceilings k x ≡ 0
    pub others : (j x : ℕ) → j < ceilings → (j ≡ k → ⊥) → held cells ceilings j x ≡ held before ceilings j x
    pub long : length cells ≡ length before

  pub filling_start : (before : List ℕ) → Stands n entries e → Unfilled n ceilings before k → Filling e before before
  filling_start before stands blank =
      record {
        least = 0;
        ahead = ahead_start n entries limit_of e stands (λ x h. refl);
        filled = λ x h. absurd (omega arith);
        blank = λ x h. blank x;
        others = λ j x h d. refl;
        long = refl;
      }

  module _ (i : ℕ) (before cells : List ℕ) (f : Filling i before cells) where
    pub filling_inside : i < entries.size
    filling_inside = ahead_inside n entries limit_of _ i _ f.ahead

    pub filling_counter : (left entries i ≡ n → ⊥) → left entries i < n
    filling_counter h = (ahead_counter n entries limit_of _ i _ f.ahead h).below

    -- one entry more
    pub filling_next : k < ceilings → (left entries i ≡ n → ⊥) → n * ceilings ≤ length before → Filling (i + 1) before (set cells (left entries i * ceilings + k) (right entries i))
    filling_next inside h room =
        let x : ℕ = left entries i in
        let here : CounterHere n entries limit_of _ i f.least = ahead_counter n entries limit_of _ i _ f.ahead h in
        let apart : (y : ℕ) → (y ≡ x → ⊥) → held (set cells (x * ceilings + k) (right entries i)) ceilings k y ≡ held cells ceilings k y =
        λ y d. get_or-set_other cells (x * ceilings + k) (y * ceilings + k) (right entries i) 0 (λ z. d (place ceilings x y k k inside inside z).0) in
        record {
          least = x + 1;
          ahead = here.next;
          filled = λ y l b. elim (ℕ_discrete y x) [
            | yes z ↦ rw z (get_or-set_same cells (x * ceilings + k) (right entries i) 0 (omega (arith, f.long, cell_below n ceilings x k here.below inside)) ∙ sym here.is)
            | no z ↦ apart y z ∙ elim (dec_lt y f.least) [
              | yes w ↦ f.filled y w b
              | no w ↦ f.blank y (omega arith) b ∙ sym (here.gap y (omega arith) (omega arith))
            ]
          ];
          blank = λ y l b. apart y (λ z. omega arith) ∙ f.blank y (omega (arith, here.low)) b;
          others = λ j y l d. get_or-set_other cells (x * ceilings + k) (y * ceilings + j) (right entries i) 0 (λ z. d (place ceilings x y k j inside l z).1) ∙ f.others j y l d;
          long = length-set cells (x * ceilings + k) (right entries i) ∙ f.long;
        }

    -- the ceiling's last entry
    pub filling_end : left entries i ≡ n → (ceiling_end n entries e ≡ i + 1) × CeilingFilled n entries ceilings k e before cells
    filling_end h = (
      ahead_end n entries limit_of _ i _ f.ahead h,
      record {
        here = λ x b. elim (dec_lt x f.least) [
          | yes w ↦ f.filled x w b
          | no w ↦ f.blank x (omega arith) b ∙ sym (ahead_none n entries limit_of _ i _ f.ahead h x (omega arith) b)
        ];
        others = f.others;
      },
    )

module _ (n : ℕ) (entries : Columns) (ceilings : ℕ) where
  -- k ceilings are in the tables, and nothing stands yet for the others
  pub record Filled (k e : ℕ) (limits starts : List ℕ) : Type 0 where
    pub walked : Walks n entries ceilings k e
    pub filled : (j x : ℕ) → j < k → x < n → held limits ceilings j x ≡ limit_from n entries (entries.size - ceiling_entry n entries j) (ceiling_entry n entries j) x
    pub blank : (j : ℕ) → k ≤ j → j < ceilings → Unfilled n ceilings limits j
    pub begun : (j : ℕ) → j < k → get_or starts j 0 ≡ ceiling_entry n entries j

  pub filled_start : first_wrong_of (ceiling_step n) entries (ceilings_ahead ceilings) ≡ none → (limits starts : List ℕ) → Blank limits (n * ceilings) → Filled 0 0 limits starts
  filled_start h limits starts blank =
      record {
        walked = walked_start (ceiling_step n) entries (from_counter 0) ceilings h;
        filled = λ j x b. absurd (omega arith);
        blank = λ j l b x y. blank (x * ceilings + j) (cell_below n ceilings x j y b);
        begun = λ j b. absurd (omega arith);
      }

  -- one ceiling more
  pub filled_next : (k e : ℕ) (limits starts cells : List ℕ) → k < ceilings → k < length starts → Filled k e limits starts → CeilingFilled n entries ceilings k e limits cells → Filled (k + 1) (ceiling_end n entries e) cells (set starts k e)
  filled_next k e limits starts cells below room f b =
      let at = entry_of n entries ceilings k e f.walked in
      record {
        walked = next_one n entries ceilings k e f.walked below;
        filled = λ j x h y. elim (ℕ_discrete j k) [
          | yes z ↦ rw (z, at) (b.here x y)
          | no z ↦ b.others j x (omega arith) z ∙ f.filled j x (omega arith) y
        ];
        blank = λ j h l x y. b.others j x l (λ z. omega arith) ∙ f.blank j (omega arith) l x y;
        begun = λ j h. elim (ℕ_discrete j k) [
          | yes z ↦ rw (z, at) (get_or-set_same starts k e 0 room)
          | no z ↦ get_or-set_other starts k j e 0 z ∙ f.begun j (omega arith)
        ];
      }

  -- all of them
  module _ (k e : ℕ) (limits starts : List ℕ) (all : k ≡ ceilings) (f : Filled k e limits starts) where
    pub bounds_table : n * ceilings ≤ length limits → BoundsTable n entries ceilings limits
    bounds_table room = record { room = room; number = λ j x b. f.filled j x (omega arith) }

    pub starts_table : ceilings ≤ length starts → StartsTable n entries ceilings starts
    starts_table room = record { room = room; start = λ j b. f.begun j (omega arith) }

-- the ceilings of a message
pub limits_table : (ws : List ℕ) (s : Sizes) (n : ℕ) (limits : List ℕ) → BoundsTable n (ceiling_entries ws s) s.ceilings limits → LimitsTable (ceilings_of ws s n) limits
unfolding ceilings_of
limits_table ws s n limits b = record { room = b.room; limit = b.number }
