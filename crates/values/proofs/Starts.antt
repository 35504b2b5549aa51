-- Where the entries of each name begin, name after name.
use Prim.Native.Nat.{ℕ, ◌+◌, ◌≤◌, ◌<◌}
use native.Mathlib.Decide.{ℕ_discrete}
use native.Mathlib.Omega.{arith}
use mathlib.Core.Path.{◌≡◌, sym, ◌∙◌, ap}
use mathlib.Core.List.{List}
use lib.ListN.{length, get_or, set}
use lib.Seq.{get_or-set_same, get_or-set_other}
use Rattle.model.specs.declared.Sizes.{Sizes}
use Rattle.model.specs.Index.{first}
use Rattle.model.specs.Words.{Columns, left, columns}
use Rattle.model.specs.Tables.{tables}
use Rattle.lists.specs.declared.Span.{Span}
use Rattle.lists.specs.Ready.{Ready}
use Rattle.lists.specs.Lists.{span_at, flow_span, listed, range_from, reaches, Starts}
use Rattle.lists.proofs.Facts.{flow_listed}
use Rattle.lists.proofs.Reaching.{reached}

-- before the name n: entry i is reached, and the names before have their words
pub record Begun (c : Columns) (starts : List ℕ) (i n : ℕ) : Type 0 where
  pub upto : i ≤ c.size
  pub behind : (j : ℕ) → j < i → left c j < n
  pub done : (m : ℕ) → m < n → get_or starts m 0 ≡ range_from c m

pub begun : (c : Columns) (starts : List ℕ) → Begun c starts 0 0
begun c starts = record { upto = omega arith; behind = λ j l. absurd (omega arith); done = λ m l. absurd (omega arith) }

module _ (c : Columns) (n : ℕ) where
  pub begun_next : (starts : List ℕ) (i k z : ℕ) → z ≡ c.size → Begun c starts i n → k ≡ first i z (reaches c n) → n < length starts → Begun c (set starts n k) k (n + 1)
  begun_next starts i k z same_size b e room =
      let (same, upto, behind) = reached c n i k b.upto b.behind (rw same_size at e) in
      record {
        upto = upto;
        behind = λ j l. let z = behind j l in omega arith;
        done = λ m l. elim (ℕ_discrete m n) [
          | yes z ↦ ap (λ x. get_or (set starts n k) x 0) z ∙ (get_or-set_same starts n k 0 room ∙ (same ∙ ap (range_from c) (sym z)))
          | no z ↦ get_or-set_other starts n m k 0 z ∙ b.done m (omega arith)
        ];
      }

pub begun_over : (ws : List ℕ) (s : Sizes) (l : Span) (t : List ℕ) (i n k : ℕ) → l ≡ flow_span s → s.names < k → length t ≡ k → Begun (listed ws l) t i n → s.names < n → Starts (tables ws s).flow s.names t
begun_over ws s l t i n k e room same b over = record {
  room = omega arith;
  start = λ m h. (rw (e, flow_listed ws s) at b).done m (omega arith);
}

pub reach_low : {ws : List ℕ} {s : Sizes} → Ready ws s → (l : Span) (starts : List ℕ) (i n k : ℕ) → l ≡ flow_span s → Begun (listed ws l) starts i n → k ≡ first i l.size (reaches (listed ws l) n) → k < 65536
unfolding listed columns flow_span span_at
reach_low {ws} {s} h l starts i n k e b f =
    let z = (reached (listed ws l) n i k b.upto b.behind f).1 in
    let y : l.size ≡ s.flows = rw e in
    let x = h.limits.flows in
    omega arith
