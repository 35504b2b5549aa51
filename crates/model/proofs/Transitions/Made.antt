-- Each step that the function makes (`act` of specs/Run.antt), the relation has.
use Prim.Native.Nat.{ℕ}
use mathlib.Core.Path.{◌≡◌, refl, sym, subst}
use mathlib.Core.List.{List, [], ◌∷◌}
use mathlib.Core.Option.{some, some-injective, none-ne-some}
use lib.ListN.{get_elem?, set}
use Rattle.model.specs.Rows.{Program}
use Rattle.model.specs.Heads.{Call, Head, head_at, parameters}
use Rattle.model.specs.Heads.{gives, builds, makes, calls, sends, spawns, selfs, cases, receives, no_head}
use Rattle.model.specs.Values.{Value, Bindings, bind, value_of, values_of, Frame, Process, process, Processes, process_of}
use Rattle.model.specs.Matching.{first_branch, receive_from}
use Rattle.model.specs.Run.{◌>>=◌, moved, function_of, give_back, enter, spawned, act, step_of}
use Rattle.model.specs.Transitions.{Acting, Step, builds_value, makes_function, yields_self, calls_function, gives_back, sends_message, spawns_process, takes_branch, takes_message}
use Rattle.model.proofs.Lookups.{bind_some}
use Rattle.model.proofs.Reader.{by_option}
use Rattle.model.proofs.Counting.Deliveries.{deliver_some}
use Rattle.model.proofs.Transitions.Names.{value_exactly, values_exactly, bound_to}
use Rattle.model.proofs.Transitions.Callees.{function_exactly, address_exactly}
use Rattle.model.proofs.Transitions.Branches.{branch_has, message_has}

module _ {p : Program} {qs : Processes} {i : ℕ} (qs' : Processes) where
  -- the step that is made is this one
  made : {qs'' : Processes} → some qs'' ≡ some qs' → Step p qs i qs'' → Step p qs i qs'
  made {qs''} e s = subst (Step p qs i) (some-injective qs'' qs' e) s

  give_has : (c at n : ℕ) (held : Bindings) (frames : List Frame) (mailbox : List Value) → Acting p qs i (process c at held frames mailbox) (gives n) → act p qs i (process c at held frames mailbox) ≡ some qs' → Step p qs i qs'
  unfolding act give_back ◌>>=◌
  give_has c at n held [] mailbox a h =
      let b = bind_some (value_of p held n) _ qs' (rw (a.head, act) at h) in
      absurd (none-ne-some qs' b.then)
  give_has c at n held (f ∷ frames) mailbox a h =
      let b = bind_some (value_of p held n) _ qs' (rw (a.head, act) at h) in
      made b.then (gives_back a ((value_exactly p n held).has b.value b.given) refl)

  module _ {q : Process} where
    self_has : (n r : ℕ) → Acting p qs i q (selfs n r) → act p qs i q ≡ some qs' → Step p qs i qs'
    unfolding act moved
    self_has n r a h = made (rw (a.head, act) at h) (yields_self a)

    function_has : (n r : ℕ) → Acting p qs i q (makes n r) → act p qs i q ≡ some qs' → Step p qs i qs'
    unfolding act moved
    function_has n r a h = made (rw (a.head, act) at h) (makes_function a)

    build_has : (n k : ℕ) (ns : List ℕ) (r : ℕ) → Acting p qs i q (builds n k ns r) → act p qs i q ≡ some qs' → Step p qs i qs'
    unfolding act moved
    build_has n k ns r a h =
        let b = bind_some (values_of p q.held ns) _ qs' (rw (a.head, act) at h) in
        made b.then (builds_value a ((values_exactly p q.held ns).has b.value b.given))

    call_has : (call : Call) → Acting p qs i q (calls call) → act p qs i q ≡ some qs' → Step p qs i qs'
    unfolding act enter
    call_has call a h =
        let b = bind_some (value_of p q.held call.callee) _ qs' (rw (a.head, act) at h) in
        let d = bind_some (function_of p call.count b.value) _ qs' b.then in
        let e = bind_some (values_of p q.held call.arguments) _ qs' d.then in
        let (z, k) = (function_exactly p call.count b.value).has d.value d.given in
        made e.then
        (calls_function a (rw z at ((value_exactly p call.callee q.held).has b.value b.given)) k
        ((values_exactly p q.held call.arguments).has e.value e.given)
        (bound_to (parameters p d.value.row) e.value d.value.held))

    spawn_has : (n g r : ℕ) → Acting p qs i q (spawns n g r) → act p qs i q ≡ some qs' → Step p qs i qs'
    unfolding act moved spawned
    spawn_has n g r a h =
        let b = bind_some (value_of p q.held g) _ qs' (rw (a.head, act) at h) in
        let d = bind_some (function_of p 0 b.value) _ qs' b.then in
        let (z, k) = (function_exactly p 0 b.value).has d.value d.given in
        made d.then (spawns_process a (rw z at ((value_exactly p g q.held).has b.value b.given)) k)

    send_has : (n t m r : ℕ) → Acting p qs i q (sends n t m r) → act p qs i q ≡ some qs' → Step p qs i qs'
    unfolding act moved
    send_has n t m r a h =
        let b = bind_some (value_of p q.held t) _ qs' (rw (a.head, act) at h) in
        let d = bind_some (process_of b.value) _ qs' b.then in
        let e = bind_some (value_of p q.held m) _ qs' d.then in
        let z = (address_exactly b.value).has d.value d.given in
        let sent = set qs i (moved q r (bind n e.value q.held)) in
        let g = deliver_some sent d.value e.value qs' e.then in
        subst (Step p qs i) (sym g.result)
        (sends_message a (rw z at ((value_exactly p t q.held).has b.value b.given)) ((value_exactly p m q.held).has e.value e.given)
        refl g.found)

    case_has : (n : ℕ) (bs : List ℕ) → Acting p qs i q (cases n bs) → act p qs i q ≡ some qs' → Step p qs i qs'
    unfolding act moved
    case_has n bs a h =
        let b = bind_some (value_of p q.held n) _ qs' (rw (a.head, act) at h) in
        let d = bind_some (first_branch p q.held bs b.value) _ qs' b.then in
        let g = branch_has p q.held b.value bs d.value d.given in
        made (rw g.is at d.then) (takes_branch a ((value_exactly p n q.held).has b.value b.given) g.chosen)

    receive_has : (bs : List ℕ) → Acting p qs i q (receives bs) → act p qs i q ≡ some qs' → Step p qs i qs'
    unfolding act
    receive_has bs a h =
        let b = bind_some (receive_from p q.held bs q.mailbox) _ qs' (rw (a.head, act) at h) in
        let g = message_has p q.held bs q.mailbox b.value b.given in
        made (rw (g.others, g.by.is) at b.then) (takes_message g.before g.behind g.message a g.there g.earliest g.by.chosen)

    no_head_has : Acting p qs i q no_head → act p qs i q ≡ some qs' → Step p qs i qs'
    unfolding act
    no_head_has a h = absurd (none-ne-some qs' (rw (a.head, act) at h))

    by_head : (h : Head) → Acting p qs i q h → act p qs i q ≡ some qs' → Step p qs i qs'
    by_head (gives n) = give_has q.class q.location n q.held q.frames q.mailbox
    by_head (builds n k ns r) = build_has n k ns r
    by_head (makes n r) = function_has n r
    by_head (calls call) = call_has call
    by_head (sends n t m r) = send_has n t m r
    by_head (spawns n g r) = spawn_has n g r
    by_head (selfs n r) = self_has n r
    by_head (cases n bs) = case_has n bs
    by_head (receives bs) = receive_has bs
    by_head no_head = no_head_has

pub step_has : (p : Program) (qs : Processes) (i : ℕ) (qs' : Processes) → step_of p qs i ≡ some qs' → Step p qs i qs'
unfolding step_of
step_has p qs i qs' h =
    by_option (get_elem? qs i)
    (λ e. absurd (none-ne-some qs' (rw (e, step_of) at h)))
    (λ q e. by_head qs' (head_at p q.location) (record { there = e; head = refl }) (rw (e, step_of) at h))
