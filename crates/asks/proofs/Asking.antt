-- The codes of one value, from what the code reads.
use Prim.Native.Nat.{ℕ, ◌+◌, ◌*◌, ◌≤◌, ◌<◌}
use native.Mathlib.Omega.{arith}
use mathlib.Core.Path.{◌≡◌, refl, sym, ◌∙◌, ap}
use mathlib.Core.Bool.{Bool, true, false, not, ◌&&◌}
use mathlib.Core.List.{List}
use lib.Dec.{eqb, ltb}
use lib.ListN.{get_or}
use borrow.Author.Tests.{eq-eqb, ne_eqb, not-true, not-false}
use Rattle.model.specs.declared.Sizes.{Sizes}
use Rattle.model.specs.Index.{implies, any, all}
use Rattle.model.specs.Words.{Columns, columns}
use Rattle.model.specs.Rows.{Program, program, size, tag, num}
use Rattle.model.specs.Heads.{call_at, is_class_of, parameters, body, takes}
use Rattle.model.specs.Tables.{Tables, tables, has, each, some_of, state, state_index_of, has_state}
use Rattle.model.specs.Closed.{passes}
use Rattle.model.proofs.Index.{all_hit, all_miss, all_end}
use Rattle.model.proofs.Parse.Lengths.{nums_at}
use Rattle.bits.specs.Bits.{member}
use Rattle.values.specs.Values.{width, mail_set_of, FlowSets, MailSets, FlowReady}
use Rattle.values.proofs.Members.{each_within, some_meets}
use Rattle.values.proofs.Gathered.{width_above}
use Rattle.asks.specs.Asks.{MailReady, there_code, call_asks, does_send_ask, does_spawn_ask, asks}
use Rattle.asks.proofs.Rows.{takes_count}

-- where sends are settled, the values of names are told
pub mail_flow : {ws : List ℕ} {s : Sizes} {flow mail : List ℕ} → MailReady ws s flow mail → FlowReady ws s flow
mail_flow h = record { ready = h.ready; names = h.names }

-- inclusion of names
module _ (ws : List ℕ) (s : Sizes) {flow : List ℕ} (sets : FlowSets (program ws s) (tables ws s) flow) where
  pub included : (a b w : ℕ) (x : Bool) → w ≡ width s.rows → a < s.names → b < s.names → x ≡ all 0 (64 * w) (λ v. implies (member flow w a v) (member flow w b v)) → x ≡ each (tables ws s).flow a (has (tables ws s).flow b)
  unfolding program columns
  included a b w x e la lb h = each_within (sets.of_name a la) (sets.of_name b lb) x (rw e at h)

  pub nonempty : (a w : ℕ) (x : Bool) → w ≡ width s.rows → a < s.names → x ≡ any 0 (64 * w) (λ v. member flow w a v && member flow w a v) → x ≡ some_of (tables ws s).flow a (λ v. true)
  unfolding program columns
  nonempty a w x e l h = some_meets (sets.of_name a l) x (rw e at h)

  pub mailed : (mail : List ℕ) → MailSets (program ws s) (tables ws s) mail → (a d w k : ℕ) (x : Bool) → w ≡ width s.rows → a < s.names → is_class_of (program ws s) d ≡ true → k ≡ mail_set_of (program ws s) d → x ≡ all 0 (64 * w) (λ v. implies (member flow w a v) (member mail w k v)) → x ≡ each (tables ws s).flow a (has (tables ws s).mail d)
  unfolding program columns
  mailed mail m a d w k x e l class g h = each_within (sets.of_name a l) (m.of_class d class) x (rw (e, g) at h)

  pub held : (n r w : ℕ) (x : Bool) → w ≡ width s.rows → n < s.names → r < s.rows → x ≡ member flow w n r → x ≡ has (tables ws s).flow n r
  unfolding program columns
  held n r w x e l below h = (rw e at h) ∙ (sets.of_name n l).holds r (width_above s.rows r (omega arith))

pub takes_it : (p : Program) (r f n : ℕ) (x : Bool) → n ≡ num p (r + 2) → x ≡ takes p f n → not x ≡ false → takes p f (num p (r + 2)) ≡ true
takes_it p r f n x count called so = ap (takes p f) (sym count) ∙ (sym called ∙ not-false x so)

-- what is asked of argument i of the call at row r, where f is called
abbrev pub passing : Program → Tables → ℕ → ℕ → ℕ → Bool
passing p t r f i = each t.flow (get_or (call_at p r).arguments i 0) (λ v. has t.flow (get_or (parameters p f) i 0) v)

module _ (p : Program) (t : Tables) (r f : ℕ) where
  pub passes_begin : (n : ℕ) → n ≡ num p (r + 2) → passes t (call_at p r) (parameters p f) ≡ all 0 n (passing p t r f)
  unfolding passes call_at
  passes_begin n e = rw e

  module _ (n i a b : ℕ) (x : Bool) (count : n ≡ num p (r + 2)) (takes-n : takes p f (num p (r + 2)) ≡ true) (inside : i < n) (argument : a ≡ num p (r + 3 + i)) (parameter : b ≡ num p (f + 2 + i)) (said : x ≡ each t.flow a (has t.flow b)) where
    says : passing p t r f i ≡ x
    unfolding call_at parameters
    says =
        let k = takes_count p f (num p (r + 2)) takes-n in
        rw (nums_at p (r + 3) (num p (r + 2)) i (omega arith), nums_at p (f + 2) (num p (f + 1)) i (omega arith), ← argument, ← parameter, ← said)

    pub passes_next : passes t (call_at p r) (parameters p f) ≡ all i n (passing p t r f) → x ≡ true → passes t (call_at p r) (parameters p f) ≡ all (i + 1) n (passing p t r f)
    passes_next h z = h ∙ all_hit i n (passing p t r f) inside (says ∙ z)

    pub passes_fails : passes t (call_at p r) (parameters p f) ≡ all i n (passing p t r f) → x ≡ false → false ≡ passes t (call_at p r) (parameters p f)
    passes_fails h z = sym (h ∙ all_miss i n (passing p t r f) inside (says ∙ z))

  pub passes_over : (n i : ℕ) → n ≤ i → passes t (call_at p r) (parameters p f) ≡ all i n (passing p t r f) → true ≡ passes t (call_at p r) (parameters p f)
  passes_over n i l h = sym (h ∙ all_end i n (passing p t r f) l)

  -- a call
  pub call_none : (n : ℕ) (x : Bool) → n ≡ num p (r + 2) → x ≡ takes p f n → not x ≡ true → 0 ≡ call_asks p t r f
  unfolding call_asks
  call_none n x count called so = let z : takes p f (num p (r + 2)) ≡ false = ap (takes p f) (sym count) ∙ (sym called ∙ not-true x so) in rw (z, call_asks)

  pub call_fine : takes p f (num p (r + 2)) ≡ true → (x : Bool) → x ≡ passes t (call_at p r) (parameters p f) → x ≡ true → 0 ≡ call_asks p t r f
  unfolding call_asks
  call_fine called x e z = let y = sym e ∙ z in rw (called, call_asks) (rw y)

  pub call_lacks : takes p f (num p (r + 2)) ≡ true → (x : Bool) → x ≡ passes t (call_at p r) (parameters p f) → x ≡ false → 2 ≡ call_asks p t r f
  unfolding call_asks
  call_lacks called x e z = let y = sym e ∙ z in rw (called, call_asks) (rw y)

-- a send
pub class_told : (p : Program) (d : ℕ) (x : Bool) → x ≡ is_class_of p d → not x ≡ false → is_class_of p d ≡ true
class_told p d x e z = sym e ∙ not-false x z

module _ (p : Program) (t : Tables) (r d : ℕ) where
  pub send_none : (x : Bool) → x ≡ is_class_of p d → not x ≡ true → 0 ≡ does_send_ask p t r d
  unfolding does_send_ask
  send_none x e z = let y = sym e ∙ not-true x z in rw (y, does_send_ask)

  module _ (x : Bool) (class : x ≡ is_class_of p d) (so : not x ≡ false) (m : ℕ) (message : m ≡ num p (r + 2)) where
    a_class : is_class_of p d ≡ true
    a_class = class_told p d x class so

    pub send_empty : (y : Bool) → y ≡ some_of t.flow m (λ v. true) → not y ≡ true → 0 ≡ does_send_ask p t r d
    unfolding does_send_ask
    send_empty y e z = let w = sym (rw message at e) ∙ not-true y z in rw (a_class, does_send_ask) (rw w)

    module _ (y : Bool) (some : y ≡ some_of t.flow m (λ v. true)) (ful : not y ≡ false) (u : Bool) (in-mail : u ≡ each t.flow m (has t.mail d)) where
      pub send_lacks : not u ≡ true → 2 ≡ does_send_ask p t r d
      unfolding does_send_ask there_code
      send_lacks z = let w = sym (rw message at some) ∙ not-false y ful in let k = sym (rw message at in-mail) ∙ not-true u z in rw (a_class, does_send_ask) (rw w (rw k))

      pub send_told : not u ≡ false → (n : ℕ) → n ≡ num p r → (v : Bool) → v ≡ each t.flow m (has t.flow n) → (k : ℕ) → k ≡ there_code v → k ≡ does_send_ask p t r d
      unfolding does_send_ask
      send_told z n name v e k g =
          let w = sym (rw message at some) ∙ not-false y ful in
          let i = sym (rw message at in-mail) ∙ not-false u z in
          g ∙ rw (a_class, does_send_ask) (rw w (rw i (ap there_code (rw (message, name) at e))))

-- a spawn
module _ (p : Program) (t : Tables) (r f : ℕ) where
  pub spawn_none : (x : Bool) → x ≡ takes p f 0 → not x ≡ true → 0 ≡ does_spawn_ask p t r f
  unfolding does_spawn_ask
  spawn_none x e z = let y = sym e ∙ not-true x z in rw (y, does_spawn_ask)

  module _ (x : Bool) (called : x ≡ takes p f 0) (so : not x ≡ false) (n : ℕ) (name : n ≡ num p r) (y : Bool) (holds : y ≡ has t.flow n r) where
    pub spawn_lacks : not y ≡ true → 2 ≡ does_spawn_ask p t r f
    unfolding does_spawn_ask there_code
    spawn_lacks z = let w = sym called ∙ not-false x so in let k = sym (rw name at holds) ∙ not-true y z in rw (w, does_spawn_ask) (rw k)

    pub spawn_told : not y ≡ false → (b m i : ℕ) → b ≡ body p f → m ≡ size p → i ≡ state_index_of t (state r b m) → (k : ℕ) (v : Bool) → v ≡ ltb i t.states.size → k ≡ there_code v → k ≡ does_spawn_ask p t r f
    unfolding does_spawn_ask has_state
    spawn_told z b m i at none e k v g h = let w = sym called ∙ not-false x so in let j = sym (rw name at holds) ∙ not-false y z in h ∙ rw (w, does_spawn_ask) (rw j (ap there_code (rw (e, at, none) at g)))

pub there_yes : (b : Bool) → b ≡ true → 1 ≡ there_code b
unfolding there_code
there_yes b e = rw e

pub there_no : (b : Bool) → b ≡ false → 2 ≡ there_code b
unfolding there_code
there_no b e = rw e

pub there_most : (b : Bool) → there_code b ≤ 2
unfolding there_code
there_most true = omega arith
there_most false = omega arith

-- by the tag
module _ (p : Program) (t : Tables) (r x k : ℕ) where
  pub asks_call : (y : ℕ) → y ≡ tag p r → y ≡ 4 → k ≡ call_asks p t r x → k ≡ asks p t r x
  unfolding asks
  asks_call y e f h = rw (eq-eqb (tag p r) 4 (sym e ∙ f), asks) h

  pub asks_send : (y : ℕ) → y ≡ tag p r → y ≡ 5 → k ≡ does_send_ask p t r x → k ≡ asks p t r x
  unfolding asks
  asks_send y e f h = let z : tag p r ≡ 5 = sym e ∙ f in rw (ne_eqb (tag p r) 4 (λ w. omega arith), asks) (rw (eq-eqb (tag p r) 5 z) h)

  pub asks_spawn : (y : ℕ) → y ≡ tag p r → (y ≡ 4 → ⊥) → (y ≡ 5 → ⊥) → k ≡ does_spawn_ask p t r x → k ≡ asks p t r x
  unfolding asks
  asks_spawn y e n₄ n₅ h = rw (ne_eqb (tag p r) 4 (λ z. n₄ (e ∙ z)), asks) (rw (ne_eqb (tag p r) 5 (λ z. n₅ (e ∙ z))) h)

pub asks_most : (p : Program) (t : Tables) (r x : ℕ) → asks p t r x ≤ 2
unfolding asks call_asks does_send_ask does_spawn_ask
asks_most p t r x = by (eqb (tag p r) 4) (eqb (tag p r) 5) (takes p x (num p (r + 2))) (passes t (call_at p r) (parameters p x)) (is_class_of p x) (some_of t.flow (num p (r + 2)) (λ v. true)) (takes p x 0) _ _
  where
    by : (a b c d e f g h i : Bool) → elim a [ true ↦ elim c [ true ↦ elim d [ true ↦ 0 | false ↦ 2 ] | false ↦ 0 ] | false ↦ elim b [ true ↦ elim e [ true ↦ elim f [ true ↦ there_code h | false ↦ 0 ] | false ↦ 0 ] | false ↦ elim g [ true ↦ there_code i | false ↦ 0 ] ] ] ≤ 2
    by true b true true e f g h i = omega arith
    by true b true false e f g h i = omega arith
    by true b false d e f g h i = omega arith
    by false true c d true true g h i = there_most h
    by false true c d true false g h i = omega arith
    by false true c d false f g h i = omega arith
    by false false c d e f true h i = there_most i
    by false false c d e f false h i = omega arith

pub code_small : (p : Program) (t : Tables) (r x k : ℕ) → k ≡ asks p t r x → k ≤ 2
code_small p t r x k e = let z = asks_most p t r x in omega arith

pub asks_at : (p : Program) (t : Tables) (r x y k : ℕ) → k ≡ asks p t r x → x ≡ y → k ≡ asks p t r y
asks_at p t r x y k e f = e ∙ ap (asks p t r) f

pub name_range : (l : Columns) (n m : ℕ) (f : ℕ → Bool) (b : Bool) → n ≡ m → each l n f ≡ b → each l m f ≡ b
name_range l n m f b e h = ap (λ k. each l k f) (sym e) ∙ h
