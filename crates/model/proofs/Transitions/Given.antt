-- Each step that the relation has, the function makes (`act` of specs/Run.antt).
use Prim.Native.Nat.{ℕ}
use mathlib.Core.Path.{◌≡◌, refl}
use mathlib.Core.Option.{some}
use Rattle.model.specs.Rows.{Program}
use Rattle.model.specs.Values.{closure, address, Processes}
use Rattle.model.specs.Run.{◌>>=◌, moved, deliver, give_back, enter, spawned, act, step_of}
use Rattle.model.specs.Transitions.{Step, builds_value, makes_function, yields_self, calls_function, gives_back, sends_message, spawns_process, takes_branch, takes_message}
use Rattle.model.proofs.Transitions.Names.{value_exactly, values_exactly, bound_only}
use Rattle.model.proofs.Transitions.Callees.{function_exactly, address_exactly}
use Rattle.model.proofs.Transitions.Branches.{branch_gives, message_gives}

module _ {p : Program} {qs : Processes} {i : ℕ} where
  pub step_gives : {qs' : Processes} → Step p qs i qs' → step_of p qs i ≡ some qs'
  unfolding step_of act ◌>>=◌ moved enter give_back spawned deliver
  step_gives (builds_value {q = q} {ns = ns} {vs = vs} a k) = rw (a.there, step_of, a.head, act, (values_exactly p q.held ns).gives vs k)
  step_gives (makes_function a) = rw (a.there, step_of, a.head, act)
  step_gives (yields_self a) = rw (a.there, step_of, a.head, act)
  step_gives (calls_function {q = q} {call = call} {f = f} {kept = kept} {vs = vs} a v t k b) =
      rw (
        a.there,
        step_of,
        a.head,
        act,
        (value_exactly p call.callee q.held).gives (closure f kept) v,
        (function_exactly p call.count (closure f kept)).gives (record { row = f; held = kept }) (refl, t),
        (values_exactly p q.held call.arguments).gives vs k,
        bound_only b,
      )
  step_gives (gives_back {q = q} {n = n} {v = v} a k z) = rw (a.there, step_of, a.head, act, (value_exactly p n q.held).gives v k, z)
  step_gives (sends_message {q = q} {target = t} {message = m} {j = j} {v = v} a k l z g) =
      rw (
        a.there,
        step_of,
        a.head,
        act,
        (value_exactly p t q.held).gives (address j) k,
        (address_exactly (address j)).gives j refl,
        (value_exactly p m q.held).gives v l,
        ← z,
        g,
        deliver,
        ← z,
      )
  step_gives (spawns_process {q = q} {g = g} {f = f} {kept = kept} a v t) =
      rw (
        a.there,
        step_of,
        a.head,
        act,
        (value_exactly p g q.held).gives (closure f kept) v,
        (function_exactly p 0 (closure f kept)).gives (record { row = f; held = kept }) (refl, t),
      )
  step_gives (takes_branch {q = q} {n = n} {v = v} a k b) =
      rw (a.there, step_of, a.head, act, (value_exactly p n q.held).gives v k, branch_gives p q.held v b)
  step_gives (takes_message {q = q} {branches = bs} before behind v a z h b) =
      rw (a.there, step_of, a.head, act, z, message_gives p q.held bs before behind h b)
