-- What stands at a head, by its kind (specs/Heads.antt), and the tag of each kind, of a function and of a class.
use Prim.Native.Nat.{ℕ, ◌+◌, ◌≤◌, ◌<◌}
use native.Mathlib.Decide.{dec_lt}
use native.Mathlib.Omega.{arith}
use mathlib.Core.Path.{◌≡◌, refl, sym, ◌∙◌, ap}
use mathlib.Core.Bool.{true}
use mathlib.Core.Logic.{◌⊎◌, inl, inr, ⊎_elim}
use mathlib.Core.List.{[], ◌∷◌}
use lib.ListN.{get_or-eq_default}
use lib.Dec.{eqb}
use borrow.Author.Tests.{eqb-true, le-leb}
use Rattle.model.specs.Index.{all, all_between}
use Rattle.model.specs.Rows.{Program, size, tag, num, arity, kind, is_head_of}
use Rattle.model.specs.Rows.{Kind, give, build, function, call, send, spawn, self, case, receive, other}
use Rattle.model.specs.Scopes.{rest}
use Rattle.model.specs.Heads.{nums, call_at, branch_rows, head_at, gives, builds, makes, calls, sends, spawns, selfs, cases, receives, no_head, is_function, is_class_of}
use Rattle.model.proofs.Logic.{or_cases}
use Rattle.model.proofs.Index.{all_elim}

-- by the kind, with its equation
pub by_kind {ℓ} : {A : Type ℓ} (k : Kind) → (k ≡ give → A) → (k ≡ build → A) → (k ≡ function → A) → (k ≡ call → A) → (k ≡ send → A) → (k ≡ spawn → A) → (k ≡ self → A) → (k ≡ case → A) → (k ≡ receive → A) → (k ≡ other → A) → A
by_kind give a b c d e f g h i j = a refl
by_kind build a b c d e f g h i j = b refl
by_kind function a b c d e f g h i j = c refl
by_kind call a b c d e f g h i j = d refl
by_kind send a b c d e f g h i j = e refl
by_kind spawn a b c d e f g h i j = f refl
by_kind self a b c d e f g h i j = g refl
by_kind case a b c d e f g h i j = h refl
by_kind receive a b c d e f g h i j = i refl
by_kind other a b c d e f g h i j = j refl

-- the tag of a kind
abbrev pub code : Kind → ℕ
code give = 1
code build = 2
code function = 3
code call = 4
code send = 5
code spawn = 6
code self = 7
code case = 8
code receive = 9
code other = 0

-- a tag above 9 has no kind
pub kind_other : (t : ℕ) → 9 < t → kind t ≡ other
unfolding kind
kind_other t h =
    get_or-eq_default (other ∷ give ∷ build ∷ function ∷ call ∷ send ∷ spawn ∷ self ∷ case ∷ receive ∷ []) other {n = t} (omega arith)

-- the tags up to 9 are those of the kinds
kind_code : (t : ℕ) → t ≤ 9 → code (kind t) ≡ t
unfolding kind all all_between
kind_code t h = eqb-true (code (kind t)) t (all_elim 0 10 t (λ k. eqb (code (kind k)) k) refl (omega arith) (omega arith))

-- a tag whose kind is known
pub kind_tag : (t : ℕ) (k : Kind) → kind t ≡ k → 0 < code k → t ≡ code k
kind_tag t k e known = elim (dec_lt 9 t) [
  | yes h ↦ let z : code k ≡ 0 = ap code (sym e ∙ kind_other t h) in absurd (omega arith)
  | no h ↦ sym (kind_code t (omega arith)) ∙ ap code e
]

-- what the kind says of the tag
abbrev pub Tagged : ℕ → Kind → Type 0
Tagged t give = t ≡ 1
Tagged t build = t ≡ 2
Tagged t function = t ≡ 3
Tagged t call = t ≡ 4
Tagged t send = t ≡ 5
Tagged t spawn = t ≡ 6
Tagged t self = t ≡ 7
Tagged t case = t ≡ 8
Tagged t receive = t ≡ 9
Tagged t other = Unit {0}

pub tag_is : (t : ℕ) (k : Kind) → kind t ≡ k → Tagged t k
tag_is t give e = kind_tag t give e (omega arith)
tag_is t build e = kind_tag t build e (omega arith)
tag_is t function e = kind_tag t function e (omega arith)
tag_is t call e = kind_tag t call e (omega arith)
tag_is t send e = kind_tag t send e (omega arith)
tag_is t spawn e = kind_tag t spawn e (omega arith)
tag_is t self e = kind_tag t self e (omega arith)
tag_is t case e = kind_tag t case e (omega arith)
tag_is t receive e = kind_tag t receive e (omega arith)
tag_is t other e = tt

-- a function's tag is 3 or 11
pub function_tag : (p : Program) (f : ℕ) → is_function p f ≡ true → (tag p f ≡ 3) ⊎ (tag p f ≡ 11)
unfolding is_function
function_tag p f h =
    ⊎_elim (λ e. inl (eqb-true (tag p f) 3 e)) (λ e. inr (eqb-true (tag p f) 11 e))
    (or_cases (eqb (tag p f) 3) (eqb (tag p f) 11) h)

-- a class is a row with tag 6, or R
pub class_tag : (p : Program) (c : ℕ) → is_class_of p c ≡ true → (tag p c ≡ 6) ⊎ (c ≡ size p)
unfolding is_class_of
class_tag p c h =
    ⊎_elim (λ e. inl (eqb-true (tag p c) 6 e)) (λ e. inr (eqb-true c (size p) e))
    (or_cases (eqb (tag p c) 6) (eqb c (size p)) h)

module _ (p : Program) (r : ℕ) where
  pub head_give : kind (tag p r) ≡ give → head_at p r ≡ gives (num p r)
  unfolding head_at
  head_give e = rw (e, head_at)

  pub head_build : kind (tag p r) ≡ build → head_at p r ≡ builds (num p r) (num p (r + 1)) (nums p (r + 2) (arity p (num p (r + 1)))) (rest p r)
  unfolding head_at
  head_build e = rw (e, head_at)

  pub head_function : kind (tag p r) ≡ function → head_at p r ≡ makes (num p r) (rest p r)
  unfolding head_at
  head_function e = rw (e, head_at)

  pub head_call : kind (tag p r) ≡ call → head_at p r ≡ calls (call_at p r)
  unfolding head_at
  head_call e = rw (e, head_at)

  pub head_send : kind (tag p r) ≡ send → head_at p r ≡ sends (num p r) (num p (r + 1)) (num p (r + 2)) (rest p r)
  unfolding head_at
  head_send e = rw (e, head_at)

  pub head_spawn : kind (tag p r) ≡ spawn → head_at p r ≡ spawns (num p r) (num p (r + 1)) (rest p r)
  unfolding head_at
  head_spawn e = rw (e, head_at)

  pub head_self : kind (tag p r) ≡ self → head_at p r ≡ selfs (num p r) (rest p r)
  unfolding head_at
  head_self e = rw (e, head_at)

  pub head_case : kind (tag p r) ≡ case → head_at p r ≡ cases (num p r) (branch_rows p (num p (r + 1)) (r + 2))
  unfolding head_at
  head_case e = rw (e, head_at)

  pub head_receive : kind (tag p r) ≡ receive → head_at p r ≡ receives (branch_rows p (num p r) (r + 1))
  unfolding head_at
  head_receive e = rw (e, head_at)

  pub head_other : kind (tag p r) ≡ other → head_at p r ≡ no_head
  unfolding head_at
  head_other e = rw (e, head_at)

-- the tags of heads
pub head_between : (t : ℕ) → 1 ≤ t → t ≤ 9 → is_head_of t ≡ true
unfolding is_head_of
head_between t a b = rw (le-leb 1 t a, le-leb t 9 b)
