-- What a process brings to the counts, by its place and its mailbox.
use Prim.Native.Nat.{ℕ, ◌+◌, ◌≤◌}
use native.Mathlib.Omega.{arith}
use mathlib.Core.Path.{◌≡◌, refl, sym, ◌∙◌, ap}
use mathlib.Core.Bool.{◌&&◌}
use mathlib.Core.List.Memᴰ
use mathlib.Core.List.{List, [], ◌∷◌, ◌++◌, append-nil, Memᴰ}
use mathlib.Core.Logic.{⊎_elim}
use mathlib.Core.Option.{some}
use lib.ListN.{get_elem?}
use lib.Dec.{eqb}
use borrow.Author.Tests.{eq-eqb}
use Rattle.model.specs.Keys.{same_key}
use Rattle.model.specs.Rows.{Program}
use Rattle.model.specs.Values.{Value, Process, Processes}
use Rattle.model.specs.Letters.{Letter, value_letter, one_if, letters_in, mailbox_count, messages_of}
use Rattle.model.specs.Counters.{Counted, state_of, letter_of}
use Rattle.model.proofs.Logic.{test}
use Rattle.model.proofs.Keys.{same_key_iff}
use Rattle.model.proofs.Counting.Station.{process_count, station_count, same, counted_at, station_least}

-- a message among others, and one put last
pub letters_among : (p : Program) (us vs : List Value) (v : Value) (l : Letter) → letters_in p (us ++ v ∷ vs) l ≡ letters_in p (us ++ vs) l + one_if (same_key (value_letter p v) l)
unfolding letters_in
letters_among p [] vs v l = omega arith
letters_among p (a ∷ us) vs v l = omega (arith, letters_among p us vs v l)

pub letters_append : (p : Program) (vs : List Value) (v : Value) (l : Letter) → letters_in p (vs ++ (v ∷ [])) l ≡ letters_in p vs l + one_if (same_key (value_letter p v) l)
letters_append p vs v l = letters_among p vs [] v l ∙ ap (λ (us : List Value). letters_in p us l + one_if (same_key (value_letter p v) l)) (append-nil vs)

-- each message is counted
pub letters_least : (p : Program) (vs : List Value) (v : Value) → Memᴰ v vs → 1 ≤ letters_in p vs (value_letter p v)
unfolding letters_in one_if
letters_least p [] v m = absurd (Memᴰ.not-nil m)
letters_least p (a ∷ vs) v m =
    ⊎_elim
    (λ (e : v ≡ a). rw ((same_key_iff (value_letter p a) (value_letter p v)).1 (ap (value_letter p) (sym e)), one_if) (omega arith))
    (λ (n : Memᴰ v vs). omega (arith, letters_least p vs v n))
    (Memᴰ.cases_cons m)

-- a process with one message more than another of its class
mailbox_more : (p : Program) (q q' : Process) (x : Letter) (c : ℕ) (l : Letter) → q'.class ≡ q.class → letters_in p q'.mailbox l ≡ letters_in p q.mailbox l + one_if (same_key x l) → mailbox_count p q' c l ≡ mailbox_count p q c l + one_if (eqb q.class c && same_key x l)
unfolding mailbox_count one_if
mailbox_more p q q' x c l e h = test (eqb q.class c) (λ t. rw (e, t, mailbox_count) h) (λ t. rw (e, t, mailbox_count) (omega arith))

-- what such a process brings, also at another place
pub process_more : (p : Program) (q q' : Process) (x : Letter) (k : Counted) → q'.class ≡ q.class → ((l : Letter) → letters_in p q'.mailbox l ≡ letters_in p q.mailbox l + one_if (same_key x l)) → process_count p q' k + one_if (same (counted_at p q) k) ≡ process_count p q k + one_if (same (counted_at p q') k) + one_if (same (letter_of q.class x) k)
unfolding process_count same counted_at one_if
process_more p q q' x (state_of s) e h = omega arith
process_more p q q' x (letter_of c l) e h = omega (arith, mailbox_more p q q' x c l e (h l))

-- and with the same mailbox
pub process_same : (p : Program) (q q' : Process) (k : Counted) → q'.class ≡ q.class → q'.mailbox ≡ q.mailbox → process_count p q' k + one_if (same (counted_at p q) k) ≡ process_count p q k + one_if (same (counted_at p q') k)
unfolding process_count same counted_at mailbox_count
process_same p q q' (state_of s) e f = omega arith
process_same p q q' (letter_of c l) e f = rw (e, f)

-- an empty mailbox
pub process_new : (p : Program) (q : Process) (k : Counted) → q.mailbox ≡ [] → process_count p q k ≡ one_if (same (counted_at p q) k)
unfolding process_count same counted_at mailbox_count letters_in one_if
process_new p q (state_of s) h = refl
process_new p q (letter_of c l) h = test (eqb q.class c) (λ t. rw (t, mailbox_count) (rw h)) (λ t. rw (t, mailbox_count))

-- a message in a mailbox is counted
pub message_counted : (p : Program) (qs : Processes) (i : ℕ) (q : Process) (v : Value) → get_elem? qs i ≡ some q → Memᴰ v q.mailbox → 1 ≤ messages_of p qs q.class (value_letter p v)
unfolding station_count process_count mailbox_count
message_counted p qs i q v h m =
    let k = letter_of q.class (value_letter p v) in
    let e : process_count p q k ≡ letters_in p q.mailbox (value_letter p v) = rw (eq-eqb q.class q.class refl, mailbox_count) in
    omega (arith, station_least p qs i q k h, letters_least p q.mailbox v m)
