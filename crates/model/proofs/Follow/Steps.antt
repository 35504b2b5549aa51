-- How each kind of step (`act` of specs/Run.antt) moves the counts of the station: process i, which is q, becomes q' of the same class.
use Prim.Native.Nat.{ℕ, ◌+◌}
use native.Mathlib.Omega.{arith}
use mathlib.Core.Path.{◌≡◌, sym, ap}
use mathlib.Core.List.{List, [], ◌∷◌, ◌++◌}
use mathlib.Core.Option.{some}
use lib.ListN.{get_elem?, set}
use Rattle.model.specs.Rows.{Program}
use Rattle.model.specs.Values.{Value, Process, Processes}
use Rattle.model.specs.Matching.{Received}
use Rattle.model.specs.Run.{deliver}
use Rattle.model.specs.Letters.{value_letter, one_if, state_in}
use Rattle.model.specs.Counters.{Counted, state_of, letter_of}
use Rattle.model.proofs.Counting.Station.{station_count, same, counted_at, station_set, station_append, process_counted}
use Rattle.model.proofs.Counting.Mailboxes.{process_more, process_same, process_new}
use Rattle.model.proofs.Counting.Deliveries.{delivered, class_kept}
use Rattle.model.proofs.Counting.Receives.{Got}
use Rattle.model.proofs.Follow.Changes.{Change, no_change, read_one, put_one, start_one, taken_by, added_by, Moves}

-- from the state of q to that of q'
abbrev pub Steps : Program → Processes → Process → Process → Processes → Change → Type 0
Steps p qs q q' qs' change = Moves p qs qs' (state_in p q) (state_in p q') change

module _ (p : Program) (qs : Processes) (i : ℕ) (q q' : Process) (h : get_elem? qs i ≡ some q) (e : q'.class ≡ q.class) where
  -- nothing but the process changes
  kept : q'.mailbox ≡ q.mailbox → (k : Counted) → station_count p (set qs i q') k + one_if (same (state_of (state_in p q)) k) ≡ station_count p qs k + one_if (same (state_of (state_in p q')) k)
  unfolding counted_at
  kept f k =
      omega (arith, station_set p qs i q q' k h, process_same p q q' k e f)

  pub moves_on : q'.mailbox ≡ q.mailbox → Steps p qs q q' (set qs i q') no_change
  unfolding counted_at taken_by added_by
  moves_on f = record { is_there = process_counted p qs i q h; balance = λ k. omega (arith, kept f k) }

  -- a message is received
  pub receives_one : (bs : List ℕ) (m : Received) (g : Got p q.held bs q.mailbox m) → q'.mailbox ≡ m.mailbox → Steps p qs q q' (set qs i q') (read_one q.class (value_letter p g.message))
  unfolding counted_at taken_by added_by
  receives_one bs m g f =
      let x = value_letter p g.message in
      record {
        is_there = process_counted p qs i q h;
        balance = λ k.
            let y = ap (λ c. one_if (same (letter_of c x) k)) e in
            omega (arith, station_set p qs i q q' k h, process_more p q' q x k (sym e) (λ l. rw f (g.counts l)));
      }

  -- a message is put into the mailbox of process j, which may be i
  pub sends_one : (j : ℕ) (v : Value) (qs' : Processes) → q'.mailbox ≡ q.mailbox → deliver (set qs i q') j v ≡ some qs' → (a : Process) × (get_elem? qs j ≡ some a) × Steps p qs q q' qs' (put_one a.class (value_letter p v))
  unfolding counted_at taken_by added_by
  sends_one j v qs' f g =
      let d = delivered p (set qs i q') j v qs' g in
      let (a, b, c) = class_kept qs i j q q' d.target h e d.found in (
        a,
        b,
        record {
          is_there = process_counted p qs i q h;
          balance = λ k.
              let z = ap (λ c. one_if (same (letter_of c (value_letter p v)) k)) c in
              omega (arith, kept f k, d.counts k);
        },
      )

  -- a new process with an empty mailbox is last
  pub starts_one : (new : Process) → q'.mailbox ≡ q.mailbox → new.mailbox ≡ [] → Steps p qs q q' (set qs i q' ++ (new ∷ [])) (start_one (state_in p new))
  unfolding counted_at taken_by added_by
  starts_one new f g =
      record {
        is_there = process_counted p qs i q h;
        balance = λ k. omega (arith, kept f k, station_append p (set qs i q') new k, process_new p new k g);
      }
