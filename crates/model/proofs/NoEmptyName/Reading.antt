-- Every name that a process reads at its place stands in a row at which no name is in scope that is not in scope at the place.
use Prim.Native.Nat.{ℕ, suc, ◌+◌, ◌≤◌, ◌<◌}
use native.Mathlib.Decide.{dec_lt, ℕ_discrete}
use native.Mathlib.Omega.{arith}
use mathlib.Core.Path.{◌≡◌, refl, sym, ◌∙◌, ap, subst}
use mathlib.Core.Bool.{true, false}
use mathlib.Core.List.Memᴰ
use mathlib.Core.List.{List, [], ◌∷◌, ◌++◌, Memᴰ}
use mathlib.Core.Logic.{⊎_elim}
use lib.ListN.{length, get_or, replicate, length-take}
use Rattle.model.specs.Rows.{Program, size, tag, num, arity, kind, call, is_head_of, Item, expression, operand, arguments, lead, step}
use Rattle.model.specs.Scopes.{uses}
use Rattle.model.specs.Heads.{Call, Head, nums, call_at, head_at, gives, builds, makes, calls, sends, spawns, selfs, cases, receives, no_head}
use Rattle.model.specs.Transitions.{read_at}
use Rattle.model.proofs.Heads.{head_give, head_send, head_spawn, head_case}
use Rattle.model.proofs.Parse.Spans.{spans_range}
use Rattle.model.proofs.Parse.Reached.{Stands, stands_row, stands_split}
use Rattle.model.proofs.Parse.Grammar.{fits_tag}
use Rattle.model.proofs.Parse.Heads.{known_kind, known_tag, build_tag, call_tag}
use Rattle.model.proofs.Parse.Locations.{Location, location_follows}
use Rattle.model.proofs.Parse.Lengths.{nums_at}
use Rattle.model.proofs.NoEmptyName.Binders.{above_head}
use Rattle.model.proofs.NoEmptyName.Parts.{operand_rows}

-- the name n is read in a row, and from row r to it no other head stands
pub record ReadRow (p : Program) (r n : ℕ) : Type 0 where
  pub row : ℕ
  pub from : r ≤ row
  pub within : row < size p
  pub reads : uses (tag p row) ≡ true
  pub named : num p row ≡ n
  pub no_head : (x : ℕ) → r < x → x ≤ row → is_head_of (tag p x) ≡ false

-- an element of a list has an index
member_index : {n : ℕ} (xs : List ℕ) → Memᴰ n xs → (i : ℕ) × (i < length xs) × (get_or xs i 0 ≡ n)
member_index [] m = absurd (Memᴰ.not-nil m)
member_index {n} (x ∷ xs) m =
    ⊎_elim (λ (z : n ≡ x). (0, omega arith, sym z)) (λ (k : Memᴰ n xs). let i : (i : ℕ) × (i < length xs) × (get_or xs i 0 ≡ n) = member_index xs k in (suc i.0, omega arith, i.2)) (Memᴰ.cases_cons m)

-- n numbers are at most n
nums_few : (p : Program) (r n : ℕ) → length (nums p r n) ≤ n
unfolding nums
nums_few p r n = simp length-take (omega arith)

module _ {p : Program} where
  -- an operand, and what is behind it
  operand_first : {xs below : List Item} {s e : ℕ} → Stands p (operand ∷ xs) below s e → (tag p s ≡ 21) × (s < size p) × Stands p xs below (s + 1) e
  unfolding step
  operand_first {s = s} h =
      let f = stands_row h in
      let (t, same) = fits_tag (tag p s) 21 _ [] f.more f.says in
      (t, f.within, rw (← same) at f.rest)

  -- the head's own row
  own_row : {r n t : ℕ} → r < size p → tag p r ≡ t → uses t ≡ true → num p r ≡ n → ReadRow p r n
  own_row {r} within t u named =
      record { row = r; from = omega arith; within = within; reads = ap uses t ∙ u; named = named; no_head = λ x lo hi. absurd (omega arith) }

  -- a row with tag 21, behind rows that are no heads
  operand_row : {r n : ℕ} (s : ℕ) → r < s → s < size p → ((x : ℕ) → r < x → x < s → 9 < tag p x) → tag p s ≡ 21 → num p s ≡ n → ReadRow p r n
  unfolding uses
  operand_row {r} s lo hi high t named =
      record {
        row = s;
        from = omega arith;
        within = hi;
        reads = ap uses t;
        named = named;
        no_head = λ x a b. elim (ℕ_discrete x s) [
          | yes z ↦ above_head (tag p x) (let y = ap (tag p) z in omega arith)
          | no z ↦ above_head (tag p x) (high x a (omega arith))
        ];
      }

  -- one of several such rows
  listed_row : {r n : ℕ} (c s : ℕ) {e : ℕ} (xs : List Item) {below : List Item} → r < s → ((x : ℕ) → r < x → x < s → 9 < tag p x) → Stands p (replicate c operand ++ xs) below s e → Memᴰ n (nums p s c) → ReadRow p r n
  listed_row {r} {n} c s xs lo high h m =
      let (a, front, others) = stands_split (replicate c operand) h in
      let (end, tags) = operand_rows c s a front.spans in
      let v = spans_range front.spans in
      let (i, l, named) = member_index (nums p s c) m in
      let few = nums_few p s c in
      operand_row (s + i) (omega arith) (omega arith)
      (λ x u b. elim (dec_lt x s) [ yes z ↦ high x u z | no z ↦ let t = tags x (omega arith) (omega arith) in omega arith ])
      (tags (s + i) (omega arith) (omega arith)) (sym (nums_at p s c i (omega arith)) ∙ named)

  -- the names of each head
  build_reads : {r n m k r' : ℕ} {ns : List ℕ} (l : Location p r) → head_at p r ≡ builds m k ns r' → Memᴰ n ns → ReadRow p r n
  unfolding lead step
  build_reads {r} {n} {m} {k} {r'} {ns} l e there =
      let (t, made-here, names) = build_tag p r m k r' ns e in
      let s = stands_row (rw (known_kind p r (builds m k ns r') e) at (location_follows l)) in
      let (t₁, same) = fits_tag (tag p (r + 1)) 20 _ (replicate (arity p (num p (r + 1))) operand) s.more s.says in
      let two : r + 1 + 1 ≡ r + 2 = omega arith in
      listed_row (arity p k) (r + 2) (expression ∷ []) (omega arith) (λ x a b. let z : x ≡ r + 1 = omega arith in let y = ap (tag p) z in omega arith)
      (rw (← same, made-here, two) at s.rest) (rw names there)

  called_reads : {r n : ℕ} (l : Location p r) → tag p r ≡ 4 → Memᴰ n (num p (r + 1) ∷ nums p (r + 3) (num p (r + 2))) → ReadRow p r n
  unfolding lead kind step
  called_reads {r} {n} l t there =
      let k : kind (tag p r) ≡ call = rw t in
      let (t₁, in₁, others) = operand_first (rw k at (location_follows l)) in
      let s = stands_row others in
      let two : r + 1 + 1 ≡ r + 2 = omega arith in
      let three : r + 1 + 1 + 1 ≡ r + 3 = omega arith in
      let (t₂, same) = fits_tag (tag p (r + 1 + 1)) 22 _ (replicate (num p (r + 1 + 1)) operand) s.more s.says in
      ⊎_elim (λ (y : n ≡ num p (r + 1)). operand_row (r + 1) (omega arith) in₁ (λ x a b. absurd (omega arith)) t₁ (sym y))
      (λ y. listed_row (num p (r + 2)) (r + 3) (expression ∷ []) (omega arith)
      (λ x a b. elim (ℕ_discrete x (r + 1)) [
        | yes z ↦ let v = ap (tag p) z in omega arith
        | no z ↦ let u : x ≡ r + 1 + 1 = omega arith in let v = ap (tag p) u in omega arith
      ])
      (rw (← same, three, two) at s.rest) y)
      (Memᴰ.cases_cons there)

  call_reads : {r n : ℕ} {c : Call} (l : Location p r) → head_at p r ≡ calls c → Memᴰ n (c.callee ∷ c.arguments) → ReadRow p r n
  unfolding call_at
  call_reads {r} {n} {c} l e there =
      let (t, same) = call_tag p r c e in
      called_reads l t (subst (λ (x : Call). Memᴰ n (x.callee ∷ x.arguments)) (sym same) there)

  send_reads : {r n m t k r' : ℕ} (l : Location p r) → head_at p r ≡ sends m t k r' → Memᴰ n (t ∷ k ∷ []) → ReadRow p r n
  unfolding lead
  send_reads {r} {n} {m} {t} {k} {r'} l e there =
      let z = sym (head_send p r (known_kind p r (sends m t k r') e)) ∙ e in
      let (t₁, in₁, others) = operand_first (rw (known_kind p r (sends m t k r') e) at (location_follows l)) in
      let (t₂, in₂, more) = operand_first others in
      let two : r + 1 + 1 ≡ r + 2 = omega arith in
      ⊎_elim (λ (y : n ≡ t). operand_row (r + 1) (omega arith) in₁ (λ x a b. absurd (omega arith)) t₁ (cc))
      (λ y. operand_row (r + 2) (omega arith) (omega arith) (λ x a b. let u : x ≡ r + 1 = omega arith in let v = ap (tag p) u in omega arith) (rw two at t₂)
      (let v : n ≡ k = Memᴰ.eq_of_singleton y in cc))
      (Memᴰ.cases_cons there)

  spawn_reads : {r n m g r' : ℕ} (l : Location p r) → head_at p r ≡ spawns m g r' → Memᴰ n (g ∷ []) → ReadRow p r n
  unfolding lead
  spawn_reads {r} {n} {m} {g} {r'} l e there =
      let z = sym (head_spawn p r (known_kind p r (spawns m g r') e)) ∙ e in
      let (t₁, in₁, others) = operand_first (rw (known_kind p r (spawns m g r') e) at (location_follows l)) in
      let y : n ≡ g = Memᴰ.eq_of_singleton there in
      operand_row (r + 1) (omega arith) in₁ (λ x a b. absurd (omega arith)) t₁ (cc)

  give_reads : {r n m : ℕ} (l : Location p r) → head_at p r ≡ gives m → Memᴰ n (m ∷ []) → ReadRow p r n
  unfolding uses
  give_reads {r} {n} {m} l e there =
      let z = sym (head_give p r (known_kind p r (gives m) e)) ∙ e in
      let y : n ≡ m = Memᴰ.eq_of_singleton there in
      own_row (stands_row l.stands).within (known_tag p r (gives m) e (omega arith)) refl (cc)

  case_reads : {r n m : ℕ} {bs : List ℕ} (l : Location p r) → head_at p r ≡ cases m bs → Memᴰ n (m ∷ []) → ReadRow p r n
  unfolding uses
  case_reads {r} {n} {m} {bs} l e there =
      let z = sym (head_case p r (known_kind p r (cases m bs) e)) ∙ e in
      let y : n ≡ m = Memᴰ.eq_of_singleton there in
      own_row (stands_row l.stands).within (known_tag p r (cases m bs) e (omega arith)) refl (cc)

  by_head : {r n : ℕ} (h : Head) → Location p r → head_at p r ≡ h → Memᴰ n (read_at h) → ReadRow p r n
  by_head (gives m) l e there = give_reads l e there
  by_head (builds m k ns r') l e there = build_reads l e there
  by_head (makes m r') l e there = absurd (Memᴰ.not-nil there)
  by_head (calls c) l e there = call_reads l e there
  by_head (sends m t k r') l e there = send_reads l e there
  by_head (spawns m g r') l e there = spawn_reads l e there
  by_head (selfs m r') l e there = absurd (Memᴰ.not-nil there)
  by_head (cases m bs) l e there = case_reads l e there
  by_head (receives bs) l e there = absurd (Memᴰ.not-nil there)
  by_head no_head l e there = absurd (Memᴰ.not-nil there)

  pub read_row : {r n : ℕ} → Location p r → Memᴰ n (read_at (head_at p r)) → ReadRow p r n
  read_row {r} l there = by_head (head_at p r) l refl there
