-- What `head_at` gives, by the tag of the row.
use Prim.Native.Nat.{ℕ, ◌+◌, ◌<◌}
use native.Mathlib.Omega.{arith}
use mathlib.Core.Path.{◌≡◌, refl, sym, ◌∙◌, ap}
use mathlib.Core.Bool.{true}
use mathlib.Core.List.{List, [], ◌∷◌, ◌++◌}
use mathlib.Core.Option.{Option, some, none, some-injective, none-ne-some}
use Rattle.model.specs.Rows.{Program, tag, num, Kind, give, build, function, call, send, spawn, self, case, receive, other, kind, expression, lead, arity}
use Rattle.model.specs.Scopes.{rest}
use Rattle.model.specs.Heads.{nums, Call, call_at, Head, gives, builds, makes, calls, sends, spawns, selfs, cases, receives, no_head, head_at, is_function, is_class_of}
use Rattle.model.proofs.Heads
use Rattle.model.proofs.Heads.{head_give, head_function, head_send, head_spawn, head_self, head_case, head_receive, head_other}
use Rattle.model.proofs.Parse.Grammar.{code, kind_tag, follows}

-- the kind of a head
abbrev pub head_kind : Head → Kind
head_kind (gives n) = give
head_kind (builds n k ns r) = build
head_kind (makes n r) = function
head_kind (calls c) = call
head_kind (sends n t m r) = send
head_kind (spawns n f r) = spawn
head_kind (selfs n r) = self
head_kind (cases n qs) = case
head_kind (receives qs) = receive
head_kind no_head = other

-- the rest, where the head has one
abbrev pub rest_of : Head → Option ℕ
rest_of (gives n) = none
rest_of (builds n k ns r) = some r
rest_of (makes n r) = some r
rest_of (calls c) = some c.rest
rest_of (sends n t m r) = some r
rest_of (spawns n f r) = some r
rest_of (selfs n r) = some r
rest_of (cases n qs) = none
rest_of (receives qs) = none
rest_of no_head = none

module _ (p : Program) (r : ℕ) where
  kind_in : (k : Kind) → kind (tag p r) ≡ k → head_kind (head_at p r) ≡ k
  kind_in give e = ap head_kind (head_give p r e)
  kind_in build e = ap head_kind (Heads.head_build p r e)
  kind_in function e = ap head_kind (head_function p r e)
  kind_in call e = ap head_kind (Heads.head_call p r e)
  kind_in send e = ap head_kind (head_send p r e)
  kind_in spawn e = ap head_kind (head_spawn p r e)
  kind_in self e = ap head_kind (head_self p r e)
  kind_in case e = ap head_kind (head_case p r e)
  kind_in receive e = ap head_kind (head_receive p r e)
  kind_in other e = ap head_kind (head_other p r e)

  -- a head has the kind of its row's tag
  pub kind_of_head : head_kind (head_at p r) ≡ kind (tag p r)
  kind_of_head = kind_in (kind (tag p r)) refl

  rest_in : (k : Kind) (r' : ℕ) → kind (tag p r) ≡ k → rest_of (head_at p r) ≡ some r' → (follows k (num p r) ≡ lead k ++ expression ∷ []) × (rest p r ≡ r')
  unfolding call_at
  rest_in give r' e h = absurd (none-ne-some r' (rw (head_give p r e) at h))
  rest_in build r' e h = (refl, some-injective (rest p r) r' (rw (Heads.head_build p r e) at h))
  rest_in function r' e h = (refl, some-injective (rest p r) r' (rw (head_function p r e) at h))
  rest_in call r' e h = (refl, some-injective (rest p r) r' (rw (Heads.head_call p r e) at h))
  rest_in send r' e h = (refl, some-injective (rest p r) r' (rw (head_send p r e) at h))
  rest_in spawn r' e h = (refl, some-injective (rest p r) r' (rw (head_spawn p r e) at h))
  rest_in self r' e h = (refl, some-injective (rest p r) r' (rw (head_self p r e) at h))
  rest_in case r' e h = absurd (none-ne-some r' (rw (head_case p r e) at h))
  rest_in receive r' e h = absurd (none-ne-some r' (rw (head_receive p r e) at h))
  rest_in other r' e h = absurd (none-ne-some r' (rw (head_other p r e) at h))

  -- a head with a rest is followed by its lead and the rest
  pub rest_of_head : (r' : ℕ) → rest_of (head_at p r) ≡ some r' → (follows (kind (tag p r)) (num p r) ≡ lead (kind (tag p r)) ++ expression ∷ []) × (rest p r ≡ r')
  rest_of_head r' h = rest_in (kind (tag p r)) r' refl h

  -- the kind of a head that is known
  pub known_kind : (x : Head) → head_at p r ≡ x → kind (tag p r) ≡ head_kind x
  known_kind x h = sym kind_of_head ∙ ap head_kind h

  -- the tag of a head that is known
  pub known_tag : (x : Head) → head_at p r ≡ x → 0 < code (head_kind x) → tag p r ≡ code (head_kind x)
  known_tag x h known = kind_tag (tag p r) (head_kind x) (known_kind x h) known

  -- what stands at a build and at a call, from the tag and back
  pub head_build : tag p r ≡ 2 → head_at p r ≡ builds (num p r) (num p (r + 1)) (nums p (r + 2) (arity p (num p (r + 1)))) (rest p r)
  unfolding kind
  head_build e = Heads.head_build p r (ap kind e)

  pub head_call : tag p r ≡ 4 → head_at p r ≡ calls (call_at p r)
  unfolding kind
  head_call e = Heads.head_call p r (ap kind e)

  pub build_tag : (n k r' : ℕ) (ns : List ℕ) → head_at p r ≡ builds n k ns r' → (tag p r ≡ 2) × (num p (r + 1) ≡ k) × (nums p (r + 2) (arity p k) ≡ ns)
  build_tag n k r' ns h =
      let t : tag p r ≡ 2 = known_tag (builds n k ns r') h (omega arith) in
      let z = sym (head_build t) ∙ h in
      (t, cc, cc)

  pub call_tag : (c : Call) → head_at p r ≡ calls c → (tag p r ≡ 4) × (call_at p r ≡ c)
  call_tag c h =
      let t : tag p r ≡ 4 = known_tag (calls c) h (omega arith) in
      let z = sym (head_call t) ∙ h in
      (t, cc)

  -- the row of a function made, and of a spawn
  pub makes_function : (n r' : ℕ) → head_at p r ≡ makes n r' → is_function p r ≡ true
  unfolding is_function
  makes_function n r' h = let t : tag p r ≡ 3 = known_tag (makes n r') h (omega arith) in rw t

  pub spawns_class : (n f r' : ℕ) → head_at p r ≡ spawns n f r' → is_class_of p r ≡ true
  unfolding is_class_of
  spawns_class n f r' h = let t : tag p r ≡ 6 = known_tag (spawns n f r') h (omega arith) in rw t
