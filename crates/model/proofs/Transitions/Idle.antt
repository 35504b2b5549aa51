-- Where a reason holds, the function makes no step (`act` of specs/Run.antt).
use Prim.Native.Nat.{ℕ, ◌≤◌, ◌<◌}
use native.Mathlib.Decide.{dec_lt}
use native.Mathlib.Omega.{arith}
use mathlib.Core.Logic.{⊎_elim}
use mathlib.Core.Path.{◌≡◌, refl, subst}
use mathlib.Core.List.Memᴰ
use mathlib.Core.List.{Memᴰ}
use mathlib.Core.Option.{Option, some, none}
use lib.ListN.{length, set, length-set}
use Rattle.model.specs.Rows.{Program}
use Rattle.model.specs.Heads.{Head}
use Rattle.model.specs.Heads.{gives, builds, makes, calls, sends, spawns, selfs, cases, receives, no_head}
use Rattle.model.specs.Values.{Value, address, bind, value_of, values_of, Process, Processes, process_of}
use Rattle.model.specs.Run.{◌>>=◌, moved, function_of, deliver, give_back, act, step_of}
use Rattle.model.specs.Transitions.{Acting, read_at, Stays, NoStep, with_reason, no_process, ended, no_target, not_callable, not_spawnable, no_match, waits, holds_nothing, nowhere}
use Rattle.model.proofs.Transitions.Exactly.{has_none}
use Rattle.model.proofs.Transitions.Names.{value_exactly}
use Rattle.model.proofs.Transitions.Callees.{address_exactly}
use Rattle.model.proofs.Transitions.Branches.{branches_none, messages_none}
use Rattle.model.proofs.Transitions.Absent.{past_none, Nothing, nothing_none, no_function, delivery_none}

-- where nothing comes of the first thing, or of the second, nothing comes of both
nothing_then : {A B : Type 0} (m : Option A) (f : A → Option B) → m ≡ none → ◌>>=◌ m f ≡ none
unfolding ◌>>=◌
nothing_then m f e = rw e

then_nothing : {A B : Type 0} (m : Option A) (f : A → Option B) → ((a : A) → m ≡ some a → f a ≡ none) → ◌>>=◌ m f ≡ none
unfolding ◌>>=◌
then_nothing none f h = refl
then_nothing (some a) f h = h a refl

module _ (p : Program) (qs : Processes) (i : ℕ) (q : Process) where
  -- a value that is the address of no process gets no message
  unsent : (n m r : ℕ) (v : Value) → ((j : ℕ) → j < length qs → v ≡ address j → ⊥) → ◌>>=◌ (process_of v) (λ j. ◌>>=◌ (value_of p q.held m) (λ w. deliver (set qs i (moved q r (bind n w q.held))) j w)) ≡ none
  unsent n m r v h =
      then_nothing (process_of v) _
      (λ j e. then_nothing (value_of p q.held m) _
      (λ w f.
      let moved_on = moved q r (bind n w q.held) in
      let past : length qs ≤ j = elim (dec_lt j (length qs)) [ yes b ↦ absurd (h j b ((address_exactly v).has j e)) | no b ↦ omega arith ] in
      delivery_none (set qs i moved_on) j w (rw (length-set qs i moved_on) past)))

  -- a name that holds nothing, read first, and among others
  read_first : {m n : ℕ} → n ≡ m → Nothing p q.held n → value_of p q.held m ≡ none
  read_first {m} z h = has_none (value_exactly p m q.held) (subst (Nothing p q.held) z h)

  act_nothing : (h : Head) (n : ℕ) → Acting p qs i q h → Memᴰ n (read_at h) → Nothing p q.held n → act p qs i q ≡ none
  unfolding act ◌>>=◌
  act_nothing (gives m) n a there h = rw (a.head, act, read_first (Memᴰ.eq_of_singleton there) h)
  act_nothing (builds m k ns r) n a there h = rw (a.head, act, nothing_none p q.held ns n there h)
  act_nothing (makes m r) n a there h = absurd (Memᴰ.not-nil there)
  act_nothing (calls call) n a there h =
      ⊎_elim (λ z. rw (a.head, act, read_first z h))
      (λ k. rw (a.head, act)
      (then_nothing (value_of p q.held call.callee) _
      (λ v e. then_nothing (function_of p call.count v) _ (λ f g. nothing_then (values_of p q.held call.arguments) _ (nothing_none p q.held call.arguments n k h)))))
      (Memᴰ.cases_cons there)
  act_nothing (sends m t k r) n a there h =
      ⊎_elim (λ z. rw (a.head, act, read_first {m = t} z h))
      (λ l. rw (a.head, act)
      (then_nothing (value_of p q.held t) _
      (λ v e. then_nothing (process_of v) _ (λ j f. nothing_then (value_of p q.held k) _ (read_first (Memᴰ.eq_of_singleton l) h)))))
      (Memᴰ.cases_cons there)
  act_nothing (spawns m g r) n a there h = rw (a.head, act, read_first (Memᴰ.eq_of_singleton there) h)
  act_nothing (selfs m r) n a there h = absurd (Memᴰ.not-nil there)
  act_nothing (cases m bs) n a there h = rw (a.head, act, read_first (Memᴰ.eq_of_singleton there) h)
  act_nothing (receives bs) n a there h = absurd (Memᴰ.not-nil there)
  act_nothing no_head n a there h = absurd (Memᴰ.not-nil there)

module _ {p : Program} {qs : Processes} {i : ℕ} where
  -- process i is q, whose act is none
  stays : {q : Process} {h : Head} → Acting p qs i q h → act p qs i q ≡ none → step_of p qs i ≡ none
  unfolding step_of
  stays a e = rw (a.there, step_of, e)

  pub reason_idle : Stays p qs i → step_of p qs i ≡ none
  unfolding step_of act ◌>>=◌ give_back
  reason_idle (no_process h) = rw (past_none qs i h, step_of)
  reason_idle (ended {q = q} {n = n} a z) =
      stays a (rw (a.head, act) (then_nothing (value_of p q.held n) _ (λ v e. rw z)))
  reason_idle (no_target {q = q} {n = n} {t = t} {m = m} {r = r} {v = v} a k h) =
      stays a (rw (a.head, act, (value_exactly p t q.held).gives v k) (unsent p qs i q n m r v h))
  reason_idle (not_callable {q = q} {call = call} {v = v} a k h) =
      stays a (rw (a.head, act, (value_exactly p call.callee q.held).gives v k, no_function p call.count v h))
  reason_idle (not_spawnable {q = q} {g = g} {v = v} a k h) =
      stays a (rw (a.head, act, (value_exactly p g q.held).gives v k, no_function p 0 v h))
  reason_idle (no_match {q = q} {n = n} {branches = bs} {v = v} a k h) =
      stays a (rw (a.head, act, (value_exactly p n q.held).gives v k, branches_none p q.held v bs h))
  reason_idle (waits {q = q} {branches = bs} a h) = stays a (rw (a.head, act, messages_none p q.held bs q.mailbox h))

  pub idle : NoStep p qs i → step_of p qs i ≡ none
  unfolding act
  idle (with_reason s) = reason_idle s
  idle (holds_nothing {q = q} {h = h} {n = n} a there k) = stays a (act_nothing p qs i q h n a there k)
  idle (nowhere a) = stays a (rw (a.head, act))
