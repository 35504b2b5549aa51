-- A message is put into a mailbox (`deliver` of specs/Run.antt): where, and the counts after it.
use Prim.Native.Nat.{ℕ, zero, suc, ◌+◌}
use native.Mathlib.Omega.{arith}
use mathlib.Core.Path.{◌≡◌, refl, sym, ap}
use mathlib.Core.List.{[], ◌∷◌, ◌++◌}
use mathlib.Core.Option.{some, some-injective, none-ne-some}
use lib.ListN.{get_elem?, set}
use Rattle.model.specs.Rows.{Program}
use Rattle.model.specs.Values.{Value, Process, process, Processes}
use Rattle.model.specs.Run.{deliver}
use Rattle.model.specs.Letters.{value_letter, one_if}
use Rattle.model.specs.Counters.{Counted, letter_of}
use Rattle.model.proofs.Reader.{by_option}
use Rattle.model.proofs.Counting.Station.{station_count, same, counted_at, station_set}
use Rattle.model.proofs.Counting.Mailboxes.{letters_append, process_more}

-- where a message was delivered
pub record Delivery (qs : Processes) (j : ℕ) (v : Value) (qs' : Processes) : Type 0 where
  pub target : Process
  pub found : get_elem? qs j ≡ some target
  pub result : qs' ≡ set qs j (process target.class target.location target.held target.frames (target.mailbox ++ (v ∷ [])))

pub deliver_some : (qs : Processes) (j : ℕ) (v : Value) (qs' : Processes) → deliver qs j v ≡ some qs' → Delivery qs j v qs'
unfolding deliver
deliver_some qs j v qs' h =
    by_option (get_elem? qs j) (λ e. absurd (none-ne-some qs' (rw (e, deliver) at h)))
    (λ b e. record { target = b; found = e; result = sym (some-injective _ qs' (rw (e, deliver) at h)) })

-- the target's class holds one message more, and nothing else changes
pub record Delivered (p : Program) (qs : Processes) (j : ℕ) (v : Value) (qs' : Processes) : Type 0 where
  pub target : Process
  pub found : get_elem? qs j ≡ some target
  pub counts : (k : Counted) → station_count p qs' k ≡ station_count p qs k + one_if (same (letter_of target.class (value_letter p v)) k)

pub delivered : (p : Program) (qs : Processes) (j : ℕ) (v : Value) (qs' : Processes) → deliver qs j v ≡ some qs' → Delivered p qs j v qs'
unfolding counted_at
delivered p qs j v qs' h =
    let d = deliver_some qs j v qs' h in
    let q = d.target in
    let q' = process q.class q.location q.held q.frames (q.mailbox ++ (v ∷ [])) in
    record {
      target = q;
      found = d.found;
      counts = λ k.
          let w = ap (λ x. station_count p x k) d.result in
          omega (arith, station_set p qs j q q' k d.found, process_more p q q' (value_letter p v) k refl (letters_append p q.mailbox v));
    }

-- a process replaced by one of its class: each number keeps its class
pub class_kept : (qs : Processes) (i j : ℕ) (q q' b : Process) → get_elem? qs i ≡ some q → q'.class ≡ q.class → get_elem? (set qs i q') j ≡ some b → (a : Process) × (get_elem? qs j ≡ some a) × (a.class ≡ b.class)
class_kept [] i j q q' b h e f = absurd (none-ne-some q h)
class_kept (x ∷ qs) zero zero q q' b h e f = (x, refl, cc)
class_kept (x ∷ qs) zero (suc j) q q' b h e f = (b, f, refl)
class_kept (x ∷ qs) (suc i) zero q q' b h e f = (x, refl, cc)
class_kept (x ∷ qs) (suc i) (suc j) q q' b h e f = class_kept qs i j q q' b h e f
