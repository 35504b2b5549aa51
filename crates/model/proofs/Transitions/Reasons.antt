-- Where the function makes no step (`act` of specs/Run.antt), a reason holds.
use Prim.Native.Nat.{ℕ, ◌≤◌, ◌<◌}
use native.Mathlib.Omega.{arith}
use mathlib.Core.Path.{◌≡◌, refl, sym, ◌∙◌}
use mathlib.Core.List.Memᴰ
use mathlib.Core.List.{List, [], ◌∷◌}
use mathlib.Core.Option.{some, none, some-injective, some-ne-none}
use lib.ListN.{length, get_elem?, set, length-set}
use Rattle.model.specs.Rows.{Program}
use Rattle.model.specs.Heads.{Call, Head, head_at}
use Rattle.model.specs.Heads.{gives, builds, makes, calls, sends, spawns, selfs, cases, receives, no_head}
use Rattle.model.specs.Values.{Value, address, Bindings, bind, value_of, values_of, Frame, Process, process, Processes, process_of}
use Rattle.model.specs.Matching.{first_branch, receive_from}
use Rattle.model.specs.Run.{◌>>=◌, give_back, moved, function_of, act, step_of}
use Rattle.model.specs.Transitions.{Acting, NoStep, with_reason, no_process, ended, no_target, not_callable, not_spawnable, no_match, waits, holds_nothing, nowhere}
use Rattle.model.proofs.Reader.{by_option}
use Rattle.model.proofs.Transitions.Exactly.{gives_none}
use Rattle.model.proofs.Transitions.Names.{value_exactly}
use Rattle.model.proofs.Transitions.Callees.{address_exactly}
use Rattle.model.proofs.Transitions.Branches.{branch_refused, messages_refused}
use Rattle.model.proofs.Transitions.Absent.{none_past, then_none, one_nothing, not_function, no_delivery}

-- an address past the end is that of no process
past_end : (qs : Processes) (v : Value) (k : ℕ) → process_of v ≡ some k → length qs ≤ k → (j : ℕ) → j < length qs → v ≡ address j → ⊥
past_end qs v k e l j b z =
    let same : k ≡ j = some-injective k j (sym e ∙ (address_exactly v).gives j z) in
    absurd (omega arith)

module _ {p : Program} {qs : Processes} {i : ℕ} where
  give_reason : (c at n : ℕ) (held : Bindings) (frames : List Frame) (mailbox : List Value) → Acting p qs i (process c at held frames mailbox) (gives n) → act p qs i (process c at held frames mailbox) ≡ none → NoStep p qs i
  unfolding act give_back ◌>>=◌
  give_reason c at n held [] mailbox a h = with_reason (ended a refl)
  give_reason c at n held (f ∷ frames) mailbox a h =
      then_none (value_of p held n) _ (rw (a.head, act) at h)
      (λ e. holds_nothing a (Memᴰ.head refl) (gives_none (value_exactly p n held) e))
      (λ v e z. absurd (some-ne-none _ z))

  module _ {q : Process} where
    build_reason : (n k : ℕ) (ns : List ℕ) (r : ℕ) → Acting p qs i q (builds n k ns r) → act p qs i q ≡ none → NoStep p qs i
    unfolding act
    build_reason n k ns r a h =
        then_none (values_of p q.held ns) _ (rw (a.head, act) at h)
        (λ e. let (m, there, empty_name) = one_nothing p q.held ns e in holds_nothing a there empty_name)
        (λ vs e z. absurd (some-ne-none _ z))

    call_reason : (call : Call) → Acting p qs i q (calls call) → act p qs i q ≡ none → NoStep p qs i
    unfolding act
    call_reason call a h =
        then_none (value_of p q.held call.callee) _ (rw (a.head, act) at h)
        (λ e. holds_nothing a (Memᴰ.head refl) (gives_none (value_exactly p call.callee q.held) e))
        (λ v e z. then_none (function_of p call.count v) _ z
        (λ f. with_reason (not_callable a ((value_exactly p call.callee q.held).has v e) (not_function p call.count v f)))
        (λ g f y. then_none (values_of p q.held call.arguments) _ y
        (λ d. let (m, there, empty_name) = one_nothing p q.held call.arguments d in holds_nothing a (Memᴰ.tail there) empty_name)
        (λ vs d x. absurd (some-ne-none _ x))))

    spawn_reason : (n g r : ℕ) → Acting p qs i q (spawns n g r) → act p qs i q ≡ none → NoStep p qs i
    unfolding act
    spawn_reason n g r a h =
        then_none (value_of p q.held g) _ (rw (a.head, act) at h)
        (λ e. holds_nothing a (Memᴰ.head refl) (gives_none (value_exactly p g q.held) e))
        (λ v e z. then_none (function_of p 0 v) _ z
        (λ f. with_reason (not_spawnable a ((value_exactly p g q.held).has v e) (not_function p 0 v f)))
        (λ g f y. absurd (some-ne-none _ y)))

    send_reason : (n t m r : ℕ) → Acting p qs i q (sends n t m r) → act p qs i q ≡ none → NoStep p qs i
    unfolding act
    send_reason n t m r a h =
        then_none (value_of p q.held t) _ (rw (a.head, act) at h)
        (λ e. holds_nothing a (Memᴰ.head refl) (gives_none (value_exactly p t q.held) e))
        (λ v e z.
        let target = (value_exactly p t q.held).has v e in
        then_none (process_of v) _ z
        (λ f. with_reason (no_target a target (λ j b. gives_none (address_exactly v) f j)))
        (λ k f y. then_none (value_of p q.held m) _ y
        (λ d. holds_nothing a (Memᴰ.tail (Memᴰ.head refl)) (gives_none (value_exactly p m q.held) d))
        (λ w d x.
        let moved_on = moved q r (bind n w q.held) in
        let l = no_delivery (set qs i moved_on) k w x in
        with_reason (no_target a target (past_end qs v k f (rw (length-set qs i moved_on) at l))))))

    case_reason : (n : ℕ) (bs : List ℕ) → Acting p qs i q (cases n bs) → act p qs i q ≡ none → NoStep p qs i
    unfolding act
    case_reason n bs a h =
        then_none (value_of p q.held n) _ (rw (a.head, act) at h)
        (λ e. holds_nothing a (Memᴰ.head refl) (gives_none (value_exactly p n q.held) e))
        (λ v e z. then_none (first_branch p q.held bs v) _ z
        (λ f. with_reason (no_match a ((value_exactly p n q.held).has v e) (branch_refused p q.held v bs f)))
        (λ t f y. absurd (some-ne-none _ y)))

    receive_reason : (bs : List ℕ) → Acting p qs i q (receives bs) → act p qs i q ≡ none → NoStep p qs i
    unfolding act
    receive_reason bs a h =
        then_none (receive_from p q.held bs q.mailbox) _ (rw (a.head, act) at h)
        (λ e. with_reason (waits a (messages_refused p q.held bs q.mailbox e)))
        (λ m e z. absurd (some-ne-none _ z))

    -- a function and the own address are always yielded
    function_reason : (n r : ℕ) → Acting p qs i q (makes n r) → act p qs i q ≡ none → NoStep p qs i
    unfolding act
    function_reason n r a h = absurd (some-ne-none _ (rw (a.head, act) at h))

    self_reason : (n r : ℕ) → Acting p qs i q (selfs n r) → act p qs i q ≡ none → NoStep p qs i
    unfolding act
    self_reason n r a h = absurd (some-ne-none _ (rw (a.head, act) at h))

    by_head : (h : Head) → Acting p qs i q h → act p qs i q ≡ none → NoStep p qs i
    by_head (gives n) = give_reason q.class q.location n q.held q.frames q.mailbox
    by_head (builds n k ns r) = build_reason n k ns r
    by_head (makes n r) = function_reason n r
    by_head (calls call) = call_reason call
    by_head (sends n t m r) = send_reason n t m r
    by_head (spawns n g r) = spawn_reason n g r
    by_head (selfs n r) = self_reason n r
    by_head (cases n bs) = case_reason n bs
    by_head (receives bs) = receive_reason bs
    by_head no_head = λ a h. nowhere a

pub reason : (p : Program) (qs : Processes) (i : ℕ) → step_of p qs i ≡ none → NoStep p qs i
unfolding step_of
reason p qs i h =
    by_option (get_elem? qs i) (λ e. with_reason (no_process (none_past qs i e)))
    (λ q e. by_head (head_at p q.location) (record { there = e; head = refl }) (rw (e, step_of) at h))
