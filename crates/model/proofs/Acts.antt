-- A step, by the kind of its head (`act` of specs/Run.antt).
use Prim.Native.Nat.{ℕ, ◌+◌}
use mathlib.Core.Path.{◌≡◌}
use mathlib.Core.List.{[], ◌∷◌, ◌++◌}
use mathlib.Core.Option.{Option, some, none}
use lib.ListN.{length, set}
use Rattle.model.specs.Rows.{Program, tag, num, arity, kind}
use Rattle.model.specs.Rows.{give, build, function, call, send, spawn, self, case, receive, other}
use Rattle.model.specs.Scopes.{rest}
use Rattle.model.specs.Heads.{nums, call_at, branch_rows}
use Rattle.model.specs.Values.{closure, built, address, bind, value_of, values_of, Process, process, Processes, process_of}
use Rattle.model.specs.Matching.{first_branch, receive_from}
use Rattle.model.specs.Run.{◌>>=◌, moved, function_of, deliver, give_back, enter, spawned, act}
use Rattle.model.proofs.Heads.{head_give, head_build, head_function, head_call, head_send, head_spawn, head_self, head_case, head_receive, head_other}

module _ (p : Program) (qs : Processes) (i : ℕ) (q : Process) where
  abbrev r : ℕ
  r = q.location

  -- the process in its place, changed
  abbrev put : Process → Option Processes
  put q' = some (set qs i q')

  pub act_give : kind (tag p r) ≡ give → act p qs i q ≡ ◌>>=◌ (value_of p q.held (num p r)) (λ v. ◌>>=◌ (give_back p q v q.frames) put)
  unfolding act
  act_give k = rw (head_give p r k, act)

  pub act_build : kind (tag p r) ≡ build → act p qs i q ≡ ◌>>=◌ (values_of p q.held (nums p (r + 2) (arity p (num p (r + 1))))) (λ vs. put (moved q (rest p r) (bind (num p r) (built r (num p (r + 1)) vs) q.held)))
  unfolding act
  act_build k = rw (head_build p r k, act)

  pub act_function : kind (tag p r) ≡ function → act p qs i q ≡ put (moved q (rest p r) (bind (num p r) (closure r q.held) q.held))
  unfolding act
  act_function k = rw (head_function p r k, act)

  pub act_call : kind (tag p r) ≡ call → act p qs i q ≡ ◌>>=◌ (value_of p q.held (call_at p r).callee) (λ v. ◌>>=◌ (function_of p (call_at p r).count v) (λ f. ◌>>=◌ (values_of p q.held (call_at p r).arguments) (λ vs. put (enter p q f vs))))
  unfolding act
  act_call k = rw (head_call p r k, act)

  pub act_send : kind (tag p r) ≡ send → act p qs i q ≡ ◌>>=◌ (value_of p q.held (num p (r + 1))) (λ target. ◌>>=◌ (process_of target) (λ j. ◌>>=◌ (value_of p q.held (num p (r + 2))) (λ v. deliver (set qs i (moved q (rest p r) (bind (num p r) v q.held))) j v)))
  unfolding act
  act_send k = rw (head_send p r k, act)

  pub act_spawn : kind (tag p r) ≡ spawn → act p qs i q ≡ ◌>>=◌ (value_of p q.held (num p (r + 1))) (λ v. ◌>>=◌ (function_of p 0 v) (λ f. some (set qs i (moved q (rest p r) (bind (num p r) (address (length qs)) q.held)) ++ (spawned p r f ∷ []))))
  unfolding act
  act_spawn k = rw (head_spawn p r k, act)

  pub act_self : kind (tag p r) ≡ self → act p qs i q ≡ put (moved q (rest p r) (bind (num p r) (address i) q.held))
  unfolding act
  act_self k = rw (head_self p r k, act)

  pub act_case : kind (tag p r) ≡ case → act p qs i q ≡ ◌>>=◌ (value_of p q.held (num p r)) (λ v. ◌>>=◌ (first_branch p q.held (branch_rows p (num p (r + 1)) (r + 2)) v) (λ t. put (moved q t.location t.held)))
  unfolding act
  act_case k = rw (head_case p r k, act)

  pub act_receive : kind (tag p r) ≡ receive → act p qs i q ≡ ◌>>=◌ (receive_from p q.held (branch_rows p (num p r) (r + 1)) q.mailbox) (λ m. put (process q.class m.taken.location m.taken.held q.frames m.mailbox))
  unfolding act
  act_receive k = rw (head_receive p r k, act)

  pub act_other : kind (tag p r) ≡ other → act p qs i q ≡ none
  unfolding act
  act_other k = rw (head_other p r k, act)
