-- The counts of a station as sums over its processes.
use Prim.Native.Nat.{ℕ, zero, suc, ◌+◌, ◌≤◌}
use native.Mathlib.Omega.{arith}
use mathlib.Core.Path.{◌≡◌, refl, ap}
use mathlib.Core.Bool.{Bool, true, false, ◌&&◌}
use mathlib.Core.List.{[], ◌∷◌, ◌++◌}
use mathlib.Core.Option.{some, some-injective, none-ne-some}
use lib.ListN.{get_elem?, set}
use lib.Dec.{eqb}
use borrow.Author.Tests.{eqb-true, eq-eqb}
use Rattle.model.specs.Rows.{Program}
use Rattle.model.specs.Values.{Process, Processes}
use Rattle.model.specs.Keys.{same_key}
use Rattle.model.specs.Tables.{same_state}
use Rattle.model.specs.Letters.{one_if, state_in, processes_at, mailbox_count, messages_of}
use Rattle.model.specs.Counters.{Counted, state_of, letter_of}
use Rattle.model.proofs.Logic.{true_false, and_left, and_right, and_intro}
use Rattle.model.proofs.Keys.{same_key_iff}
use Rattle.model.proofs.Exact.Members.{same_state_iff}

-- what one process brings to a count
unfoldable pub process_count : Program → Process → Counted → ℕ
process_count p q (state_of s) = one_if (same_state (state_in p q) s)
process_count p q (letter_of c l) = mailbox_count p q c l

-- a count of the station: of processes in a state, or of messages of a letter in a class's mailboxes
unfoldable pub station_count : Program → Processes → Counted → ℕ
station_count p qs (state_of s) = processes_at p qs s
station_count p qs (letter_of c l) = messages_of p qs c l

-- what is counted, told apart
unfoldable pub same : Counted → Counted → Bool
same (state_of s) (state_of s') = same_state s s'
same (state_of s) (letter_of c l) = false
same (letter_of c l) (state_of s) = false
same (letter_of c l) (letter_of c' l') = eqb c c' && same_key l l'

pub same_refl : (k : Counted) → same k k ≡ true
unfolding same
same_refl (state_of s) = (same_state_iff s s).1 refl
same_refl (letter_of c l) = and_intro (eqb c c) (same_key l l) (eq-eqb c c refl) ((same_key_iff l l).1 refl)

pub same_path : (k k' : Counted) → same k k' ≡ true → k ≡ k'
unfolding same
same_path (state_of s) (state_of s') h = ap state_of ((same_state_iff s s').0 h)
same_path (state_of s) (letter_of c l) h = true_false h refl
same_path (letter_of c l) (state_of s) h = true_false h refl
same_path (letter_of c l) (letter_of c' l') h =
    let a = eqb-true c c' (and_left (eqb c c') (same_key l l') h) in
    let b = (same_key_iff l l').0 (and_right (eqb c c') (same_key l l') h) in
    cc

-- where a process counts
unfoldable pub counted_at : Program → Process → Counted
counted_at p q = state_of (state_in p q)

pub station_none : (p : Program) (k : Counted) → station_count p [] k ≡ 0
unfolding station_count processes_at messages_of
station_none p (state_of s) = refl
station_none p (letter_of c l) = refl

pub station_more : (p : Program) (q : Process) (qs : Processes) (k : Counted) → station_count p (q ∷ qs) k ≡ process_count p q k + station_count p qs k
unfolding station_count process_count processes_at messages_of
station_more p q qs (state_of s) = refl
station_more p q qs (letter_of c l) = refl

-- one process replaced by another
pub station_set : (p : Program) (qs : Processes) (i : ℕ) (q q' : Process) (k : Counted) → get_elem? qs i ≡ some q → station_count p (set qs i q') k + process_count p q k ≡ station_count p qs k + process_count p q' k
station_set p [] i q q' k h = absurd (none-ne-some q h)
station_set p (a ∷ qs) zero q q' k h =
    let e = ap (λ x. process_count p x k) (some-injective a q h) in
    omega (arith, station_more p a qs k, station_more p q' qs k)
station_set p (a ∷ qs) (suc i) q q' k h =
    omega (arith, station_more p a qs k, station_more p a (set qs i q') k, station_set p qs i q q' k h)

-- one process more
pub station_append : (p : Program) (qs : Processes) (q : Process) (k : Counted) → station_count p (qs ++ (q ∷ [])) k ≡ station_count p qs k + process_count p q k
station_append p [] q k = omega (arith, station_more p q [] k)
station_append p (a ∷ qs) q k =
    omega (arith, station_more p a qs k, station_more p a (qs ++ (q ∷ [])) k, station_append p qs q k)

-- each process is counted
pub station_least : (p : Program) (qs : Processes) (i : ℕ) (q : Process) (k : Counted) → get_elem? qs i ≡ some q → process_count p q k ≤ station_count p qs k
station_least p [] i q k h = absurd (none-ne-some q h)
station_least p (a ∷ qs) zero q k h =
    let e = ap (λ x. process_count p x k) (some-injective a q h) in
    omega (arith, station_more p a qs k)
station_least p (a ∷ qs) (suc i) q k h = omega (arith, station_more p a qs k, station_least p qs i q k h)

pub process_counted : (p : Program) (qs : Processes) (i : ℕ) (q : Process) → get_elem? qs i ≡ some q → 1 ≤ processes_at p qs (state_in p q)
unfolding station_count process_count one_if same
process_counted p qs i q h =
    let k = state_of (state_in p q) in
    let e : process_count p q k ≡ 1 = ap one_if (same_refl k) in
    omega (arith, station_least p qs i q k h)
