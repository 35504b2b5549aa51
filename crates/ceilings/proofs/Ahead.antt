-- A ceiling read entry by entry: what is to come of its limits.
use Prim.Native.Nat.{ℕ, suc, ◌+◌, ◌-◌, ◌≤◌, ◌<◌}
use native.Mathlib.Omega.{arith}
use mathlib.Core.Path.{◌≡◌, refl, sym, ◌∙◌, ap}
use Rattle.model.specs.Words.{Columns, left, right}
use Rattle.model.specs.Ceilings.{ceiling_step, limit_from}
use Rattle.model.proofs.Reader.{read_takes}
use Rattle.ceilings_form.specs.Limits.{ceiling_end, Stands}
use Rattle.ceilings_form.proofs.Reading.{in_bound_below}
use Rattle.ceilings_form.proofs.Filling.{Open, open_next, open_end, limit_end, limit_here, limit_skip, limit_below}

module _ (n : ℕ) (entries : Columns) (limit : ℕ → ℕ) (end : ℕ) where
  -- the ceiling with these limits, which ends before entry `end`, is open at entry e: its counters from `least` on are still to come
  pub record Ahead (e least : ℕ) : Type 0 where
    pub reads : Open n entries (entries.size - e) e least end
    pub limits : (x : ℕ) → least ≤ x → x < n → limit_from n entries (entries.size - e) e x ≡ limit x

  -- what stands at an entry that goes on
  pub record CounterHere (e least : ℕ) : Type 0 where
    pub low : least ≤ left entries e
    pub below : left entries e < n
    pub from_one : 1 ≤ right entries e
    pub is : limit (left entries e) ≡ right entries e
    pub gap : (x : ℕ) → least ≤ x → x < left entries e → limit x ≡ 0
    pub next : Ahead (e + 1) (left entries e + 1)

  module _ (e least : ℕ) (a : Ahead e least) where
    -- the ceiling is not yet closed, so an entry is left
    pub ahead_inside : e < entries.size
    ahead_inside = let w = read_takes (ceiling_step n) entries (entries.size - e) e _ _ _ a.reads in omega arith

    turn : entries.size - e ≡ suc (entries.size - (e + 1))
    turn = let h = ahead_inside in omega arith

    opened : Open n entries (suc (entries.size - (e + 1))) e least end
    opened = rw turn at a.reads

    by_turn : (x : ℕ) → limit_from n entries (entries.size - e) e x ≡ limit_from n entries (suc (entries.size - (e + 1))) e x
    by_turn x = ap (λ m. limit_from n entries m e x) turn

    pub ahead_counter : (left entries e ≡ n → ⊥) → CounterHere e least
    ahead_counter h =
        let (t, next) = open_next n entries _ e _ _ opened h in
        let (low, below, from_one, most) = in_bound_below n (right entries e) least _ _ t in
        record {
          low = low;
          below = below;
          from_one = from_one;
          is = sym (a.limits (left entries e) low below) ∙ (by_turn _ ∙ limit_here n entries _ e _ h refl);
          gap = λ x l b.
              sym (a.limits x l (omega arith)) ∙
              (by_turn x ∙ (limit_skip n entries _ e x h (λ z. omega arith) ∙ limit_below n entries _ (e + 1) (left entries e + 1) _ x next (omega arith)));
          next = record {
            reads = next;
            limits = λ x l b. sym (by_turn x ∙ limit_skip n entries _ e x h (λ z. omega arith)) ∙ a.limits x (omega arith) b;
          };
        }

    -- the entry that closes the ceiling is its last
    pub ahead_end : left entries e ≡ n → end ≡ e + 1
    ahead_end h = open_end n entries _ e _ _ opened h

    pub ahead_none : left entries e ≡ n → (x : ℕ) → least ≤ x → x < n → limit x ≡ 0
    ahead_none h x l b = sym (a.limits x l b) ∙ (by_turn x ∙ limit_end n entries _ e x h)

-- a ceiling that stands at entry e is all to come
pub ahead_start : (n : ℕ) (entries : Columns) (limit : ℕ → ℕ) (e : ℕ) → Stands n entries e → ((x : ℕ) → x < n → limit_from n entries (entries.size - e) e x ≡ limit x) → Ahead n entries limit (ceiling_end n entries e) e 0
ahead_start n entries limit e stands is = record { reads = stands; limits = λ x l b. is x b }
