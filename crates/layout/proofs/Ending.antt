-- Where items end, row by row: the laws behind the table of ends.
use Prim.Native.Nat.{ℕ, zero, suc, ◌+◌, ◌*◌, ◌-◌, ◌≤◌, ◌<◌}
use native.Mathlib.Decide.{ℕ_discrete, dec_lt}
use native.Mathlib.Omega.{arith}
use mathlib.Core.Path.{◌≡◌, refl, sym, ◌∙◌, ap}
use mathlib.Core.Bool.{Bool, true, false, ◌&&◌}
use mathlib.Core.List.{List, [], ◌∷◌, ◌++◌, append-nil}
use mathlib.Core.Option.{some, none, some-injective, none-ne-some}
use mathlib.Core.Logic.{inl, inr, ⊎_elim}
use lib.ListN.{length, get_or, set, replicate}
use lib.Seq.{get_or-set_same, get_or-set_other}
use lib.Dec.{eqb}
use Rattle.model.specs.declared.Sizes.{Sizes}
use Rattle.model.specs.Limits.{max_depth}
use Rattle.model.specs.Words.{right, columns}
use Rattle.model.specs.Reader.{past, wrong, fits}
use Rattle.model.specs.Rows.{Program, program, size, tag, num, kind, Item, header, parameter, expression, made, operand, arguments, branches, pattern, branch_items, lead, arity, is_name, step}
use Rattle.model.proofs.Reader.{past_wrong, past_row, by_option, read_end}
use Rattle.program.specs.Rows.{from}
use Rattle.program.proofs.Columns.{part_at, part_past}
use Rattle.program.proofs.Reading.{from_none, from_stop, from_go, from_range, from_takes}
use Rattle.program.proofs.Items.{give_says, bound_says, case_says, receive_says, no_head_says, branches_25, branches_other, pattern_named, pattern_31, pattern_32, pattern_other, pattern_none, lead_of, lead_none}
use Rattle.layout.specs.Tables.{AfterFrom, EndsAt, RestAt, hop, Ends}
use Rattle.layout.proofs.Visits.{parted}

some_fits : (b : Bool) (xs ys : List Item) → fits b xs ≡ some ys → ys ≡ xs
unfolding fits
some_fits true xs ys h = sym (some-injective xs ys h)
some_fits false xs ys h = absurd (none-ne-some ys h)

module _ (p : Program) where
  -- an item that is read takes its row, which is there
  pub record Opened (item : Item) (items : List Item) (r q : ℕ) : Type 0 where
    pub more : List Item
    pub there : r < size p
    pub says : step p item (tag p r) (num p r) ≡ some more
    pub reads : from p (more ++ items) (r + 1) ≡ past q

  at_end : (item : Item) (items : List Item) (r : ℕ) → size p ≤ r → from p (item ∷ items) r ≡ wrong r
  unfolding from
  at_end item items r a = let z : size p - r ≡ zero = omega arith in rw z (read_end (step p) p.rows item items r)

  pub opened : (item : Item) (items : List Item) (r q : ℕ) → from p (item ∷ items) r ≡ past q → Opened item items r q
  opened item items r q h = elim (dec_lt r (size p)) [
    | yes a ↦
        by_option (step p item (tag p r) (num p r)) (λ e. past_wrong q r (sym h ∙ from_stop p item items r e))
        (λ more e. record { more = more; there = a; says = e; reads = sym (from_go p item items more r a e) ∙ h })
    | no a ↦ past_wrong q r (sym h ∙ at_end item items r (omega arith))
  ]

  -- by what the item says, where the row fits
  pub opened_by : (item : Item) (xs : List Item) (b : Bool) (r q : ℕ) → step p item (tag p r) (num p r) ≡ fits b xs → from p (item ∷ []) r ≡ past q → (r < size p) × (from p xs (r + 1) ≡ past q)
  opened_by item xs b r q e h =
      let o = opened item [] r q h in
      let z : o.more ≡ xs = some_fits b xs o.more (sym e ∙ o.says) in
      (o.there, ap (λ l. from p l (r + 1)) (sym (append-nil xs) ∙ ap (λ l. l ++ []) (sym z)) ∙ o.reads)

  -- nothing stands there that is read
  pub unread : {A : Type 0} (item : Item) (r q : ℕ) → step p item (tag p r) (num p r) ≡ none → from p (item ∷ []) r ≡ past q → A
  unread item r q e h = past_wrong q r (sym h ∙ from_stop p item [] r e)

  -- rows of one kind, one each
  rows_end : (item : Item) (test : ℕ → ℕ → Bool) → ((t n : ℕ) → step p item t n ≡ fits (test t n) []) → (n r q : ℕ) → from p (replicate n item) r ≡ past q → q ≡ r + n
  rows_end item f e zero r q h = let z = past_row r q (sym (from_none p r) ∙ h) in omega arith
  rows_end item f e (suc n) r q h =
      let w = parted p (item ∷ []) (replicate n item) r q h in
      let (a, b) = opened_by item [] _ r w.at (e (tag p r) (num p r)) w.first in
      let z = past_row (r + 1) w.at (sym (from_none p (r + 1)) ∙ b) in
      let v = rows_end item f e n w.at q w.second in
      omega arith

  pub operands_end : (n r q : ℕ) → from p (replicate n operand) r ≡ past q → q ≡ r + n
  unfolding step
  operands_end n r q h = rows_end operand (λ t m. eqb t 21 && is_name p m) (λ t m. refl) n r q h

  parameters_end : (n r q : ℕ) → from p (replicate n parameter) r ≡ past q → q ≡ r + n
  unfolding step
  parameters_end n r q h = rows_end parameter (λ t m. eqb t 23 && is_name p m) (λ t m. refl) n r q h

  pub header_ends : (r q : ℕ) → from p (header ∷ []) r ≡ past q → q ≡ r + 1 + num p r
  unfolding step
  header_ends r q h = let w = opened_by header (replicate (num p r) parameter) _ r q refl h in parameters_end (num p r) (r + 1) q w.1

  arguments_end : (r q : ℕ) → from p (arguments ∷ []) r ≡ past q → q ≡ r + 1 + num p r
  unfolding step
  arguments_end r q h = let w = opened_by arguments (replicate (num p r) operand) _ r q refl h in operands_end (num p r) (r + 1) q w.1

  made_ends : (r q : ℕ) → from p (made ∷ []) r ≡ past q → q ≡ r + 1 + arity p (num p r)
  unfolding step
  made_ends r q h = let w = opened_by made (replicate (arity p (num p r)) operand) _ r q refl h in operands_end (arity p (num p r)) (r + 1) q w.1

  operand_ends : (r q : ℕ) → from p (operand ∷ []) r ≡ past q → q ≡ r + 1
  operand_ends r q h = operands_end 1 r q h

  -- what an expression begins with, by the tag of its head
  led : (r t q : ℕ) → t ≡ tag p r → from p (lead (kind (tag p r))) (r + 1) ≡ past q → from p (lead (kind t)) (r + 1) ≡ past q
  led r t q e h = ap (λ l. from p l (r + 1)) (lead_of e) ∙ h

  pub rest_2 : (r t k n : ℕ) → t ≡ tag p r → t ≡ 2 → k ≡ num p (r + 1) → n ≡ num p k → RestAt p r (r + 2 + n)
  unfolding lead kind arity
  rest_2 r t k n e f g h =
      record {
        rests = λ q m. let w = made_ends (r + 1) q (led r 2 q (sym f ∙ e) m) in
            let z : num p (num p (r + 1)) ≡ n = ap (num p) (sym g) ∙ sym h in
            omega arith;
      }

  pub rest_3 : (r t n v : ℕ) (table : List ℕ) → t ≡ tag p r → t ≡ 3 → n ≡ num p (r + 1) → v ≡ get_or table (r + 2 + n) 0 → AfterFrom p (r + 1) table → RestAt p r v
  unfolding lead kind
  rest_3 r t n v table e f g h a =
      record {
        rests = λ q m. let w = parted p (header ∷ []) (expression ∷ []) (r + 1) q (led r 3 q (sym f ∙ e) m) in
            let z = header_ends (r + 1) w.at w.first in
            let y : r + 2 + n ≡ w.at = omega arith in
            h ∙ (ap (λ i. get_or table i 0) y ∙ a.expressions w.at q (omega arith) w.second);
      }

  pub rest_4 : (r t n : ℕ) → t ≡ tag p r → t ≡ 4 → n ≡ num p (r + 2) → RestAt p r (r + 3 + n)
  unfolding lead kind
  rest_4 r t n e f g =
      record {
        rests = λ q m. let w = parted p (operand ∷ []) (arguments ∷ []) (r + 1) q (led r 4 q (sym f ∙ e) m) in
            let z = operand_ends (r + 1) w.at w.first in
            let y = arguments_end w.at q w.second in
            let x : w.at ≡ r + 2 = omega arith in
            let v = ap (num p) x in
            omega arith;
      }

  pub rest_5 : (r t : ℕ) → t ≡ tag p r → t ≡ 5 → RestAt p r (r + 3)
  unfolding lead kind
  rest_5 r t e f = record { rests = λ q m. let w = operands_end 2 (r + 1) q (led r 5 q (sym f ∙ e) m) in omega arith }

  pub rest_6 : (r t : ℕ) → t ≡ tag p r → t ≡ 6 → RestAt p r (r + 2)
  unfolding lead kind
  rest_6 r t e f = record { rests = λ q m. let w = operands_end 1 (r + 1) q (led r 6 q (sym f ∙ e) m) in omega arith }

  pub rest_none : (r t : ℕ) → t ≡ tag p r → (t ≡ 2 → ⊥) → (t ≡ 3 → ⊥) → (t ≡ 4 → ⊥) → (t ≡ 5 → ⊥) → (t ≡ 6 → ⊥) → RestAt p r (r + 1)
  rest_none r t e a b c d f =
      record {
        rests = λ q m. past_row (r + 1) q (sym (from_none p (r + 1)) ∙ (ap (λ l. from p l (r + 1)) (sym (lead_none t a b c d f)) ∙ led r t q e m));
      }

  -- steps by the table over patterns, and over branches
  pattern_step_by : (i d r q : ℕ) (table : List ℕ) → AfterFrom p i table → i ≤ r → from p (pattern d ∷ []) r ≡ past q → (get_or table r 0 ≡ q) × (i ≤ q)
  pattern_step_by i d r q table a b h =
      let o = opened (pattern d) [] r q h in
      let t = o.there in
      let w = from_takes p (pattern d) [] r q (omega arith) h in
      (a.patterns d r q b h, omega arith)

  expression_step_by : (i r q : ℕ) (table : List ℕ) → AfterFrom p i table → i ≤ r → from p (expression ∷ []) r ≡ past q → (get_or table r 0 ≡ q) × (i ≤ q)
  expression_step_by i r q table a b h =
      let o = opened expression [] r q h in
      let t = o.there in
      let w = from_takes p expression [] r q (omega arith) h in
      (a.expressions r q b h, omega arith)

  pub hop_patterns : (n i d r q : ℕ) (table : List ℕ) → AfterFrom p i table → i ≤ r → from p (replicate n (pattern d)) r ≡ past q → hop table n r ≡ q
  unfolding hop
  hop_patterns zero i d r q table a b h = past_row r q (sym (from_none p r) ∙ h)
  hop_patterns (suc n) i d r q table a b h =
      let w = parted p (pattern d ∷ []) (replicate n (pattern d)) r q h in
      let (e, c) = pattern_step_by i d r w.at table a b w.first in
      ap (hop table n) e ∙ hop_patterns n i d w.at q table a c w.second

  pub hop_branches : (n i r q : ℕ) (table : List ℕ) → AfterFrom p i table → i ≤ r → from p (branch_items n) r ≡ past q → hop table (2 * n) r ≡ q
  unfolding hop branch_items
  hop_branches zero i r q table a b h = past_row r q (sym (from_none p r) ∙ h)
  hop_branches (suc n) i r q table a b h =
      let z : 2 * suc n ≡ suc (suc (2 * n)) = omega arith in
      let w = parted p (pattern max_depth ∷ []) (expression ∷ branch_items n) r q h in
      let v = parted p (expression ∷ []) (branch_items n) w.at q w.second in
      let (e, c) = pattern_step_by i max_depth r w.at table a b w.first in
      let (f, d) = expression_step_by i w.at v.at table a c v.first in
      rw z (ap (λ m. hop table (2 * n) (get_or table m 0)) e ∙ (ap (hop table (2 * n)) f ∙ hop_branches n i v.at q table a d v.second))

  -- the table, from the last row to the first: none yet, one more, and a row where nothing is read
  pub after_start : (table : List ℕ) → AfterFrom p (size p) table
  after_start table =
      record {
        expressions = λ r q a h. let t = (opened expression [] r q h).there in absurd (omega arith);
        patterns = λ d r q a h. let t = (opened (pattern d) [] r q h).there in absurd (omega arith);
      }

  pub after_by : (i j : ℕ) (table : List ℕ) → i ≡ j → AfterFrom p i table → AfterFrom p j table
  after_by i j table e a = rw e at a

  pub after_later : (i j : ℕ) (table : List ℕ) → i ≤ j → AfterFrom p i table → AfterFrom p j table
  after_later i j table e a =
      record { expressions = λ r q b h. a.expressions r q (omega arith) h; patterns = λ d r q b h. a.patterns d r q (omega arith) h }

  entry_set : (i r v x q : ℕ) (table : List ℕ) → i ≡ r + 1 → r ≤ x → r < length table → (x ≡ r → v ≡ q) → (i ≤ x → get_or table x 0 ≡ q) → get_or (set table r v) x 0 ≡ q
  entry_set i r v x q table z a b here behind = elim (ℕ_discrete x r) [
    | yes e ↦ rw (e, get_or-set_same table r v 0 b) (here e)
    | no e ↦ get_or-set_other table r x v 0 e ∙ behind (omega arith)
  ]

  pub after_set : (i r v : ℕ) (table : List ℕ) → i ≡ r + 1 → r < length table → EndsAt p r v → AfterFrom p i table → AfterFrom p r (set table r v)
  after_set i r v table z b e a =
      record {
        expressions = λ x q c h. entry_set i r v x q table z c b (λ y. e.expressions q (ap (from p (expression ∷ [])) (sym y) ∙ h)) (λ y. a.expressions x q y h);
        patterns = λ d x q c h. entry_set i r v x q table z c b (λ y. e.patterns d q (ap (from p (pattern d ∷ [])) (sym y) ∙ h)) (λ y. a.patterns d x q y h);
      }

  entry_keep : {A : Type 0} (item : Item) (i r v x q : ℕ) → i ≡ r + 1 → r ≤ x → size p < v → from p (item ∷ []) x ≡ past q → (x ≡ r → v ≡ q) → (i ≤ x → A) → A
  entry_keep item i r v x q z a b h here behind = elim (ℕ_discrete x r) [
    | yes e ↦
        let t = (opened item [] x q h).there in
        let w = from_range p (item ∷ []) x q (omega arith) h in
        let y = here e in
        absurd (omega arith)
    | no e ↦ behind (omega arith)
  ]

  pub after_keep : (i r v : ℕ) (table : List ℕ) → i ≡ r + 1 → size p < v → EndsAt p r v → AfterFrom p i table → AfterFrom p r table
  after_keep i r v table z b e a =
      record {
        expressions = λ x q c h. entry_keep expression i r v x q z c b h (λ y. e.expressions q (ap (from p (expression ∷ [])) (sym y) ∙ h)) (λ y. a.expressions x q y h);
        patterns = λ d x q c h. entry_keep (pattern d) i r v x q z c b h (λ y. e.patterns d q (ap (from p (pattern d ∷ [])) (sym y) ∙ h)) (λ y. a.patterns d x q y h);
      }

-- the row after what stands at row r, by the tag there
module _ (ws : List ℕ) (s : Sizes) where
  -- a head begins no pattern
  no_pattern : (d r : ℕ) → tag (program ws s) r ≤ 9 → step (program ws s) (pattern d) (tag (program ws s) r) (num (program ws s) r) ≡ none
  no_pattern d r low = pattern_other ws s d (tag (program ws s) r) (num (program ws s) r) (⊎_elim (λ z. omega arith) (λ z. omega arith)) (λ z. omega arith) (λ z. omega arith)

  -- a head that binds a name: its lead, then the rest
  pub ends_bound : (r m v : ℕ) (table : List ℕ) → 2 ≤ tag (program ws s) r → tag (program ws s) r ≤ 7 → RestAt (program ws s) r m → v ≡ get_or table m 0 → AfterFrom (program ws s) (r + 1) table → EndsAt (program ws s) r v
  ends_bound r m v table lo hi rest e a =
      let p = program ws s in
      record {
        expressions = λ q h. let (t, k) = opened_by p expression _ _ r q (bound_says ws s (tag p r) (num p r) lo hi) h in
            let w = parted p (lead (kind (tag p r))) (expression ∷ []) (r + 1) q k in
            let z = from_range p (lead (kind (tag p r))) (r + 1) w.at (omega arith) w.first in
            e ∙ (ap (λ i. get_or table i 0) (rest.rests w.at w.first) ∙ a.expressions w.at q z.0 w.second);
        patterns = λ d q h. unread p (pattern d) r q (no_pattern d r (omega arith)) h;
      }

  -- a case, and a receive
  pub ends_case : (r n v : ℕ) (table : List ℕ) → tag (program ws s) r ≡ 8 → n ≡ num (program ws s) (r + 1) → v ≡ hop table (2 * n) (r + 2) → AfterFrom (program ws s) (r + 1) table → EndsAt (program ws s) r v
  ends_case r n v table t e f a =
      let p = program ws s in
      record {
        expressions = λ q h. let (x, k) = opened_by p expression (branches ∷ []) _ r q (case_says ws s (tag p r) (num p r) t) h in
            elim (ℕ_discrete (tag p (r + 1)) 25) [
              | yes z ↦
                  let (y, l) = opened_by p branches (branch_items (num p (r + 1))) _ (r + 1) q (branches_25 ws s (tag p (r + 1)) (num p (r + 1)) z) k in
                  let two : r + 1 + 1 ≡ r + 2 = omega arith in
                  f ∙ (ap (λ i. hop table (2 * i) (r + 2)) e ∙
                  hop_branches p (num p (r + 1)) (r + 1) (r + 2) q table a (omega arith) (ap (from p (branch_items (num p (r + 1)))) (sym two) ∙ l))
              | no z ↦ unread p branches (r + 1) q (branches_other ws s (tag p (r + 1)) (num p (r + 1)) z) k
            ];
        patterns = λ d q h. unread p (pattern d) r q (no_pattern d r (omega arith)) h;
      }

  pub ends_receive : (r n v : ℕ) (table : List ℕ) → tag (program ws s) r ≡ 9 → n ≡ num (program ws s) r → v ≡ hop table (2 * n) (r + 1) → AfterFrom (program ws s) (r + 1) table → EndsAt (program ws s) r v
  ends_receive r n v table t e f a =
      let p = program ws s in
      record {
        expressions = λ q h. let (x, k) = opened_by p expression (branch_items (num p r)) _ r q (receive_says ws s (tag p r) (num p r) t) h in
            f ∙ (ap (λ i. hop table (2 * i) (r + 1)) e ∙ hop_branches p (num p r) (r + 1) (r + 1) q table a (omega arith) k);
        patterns = λ d q h. unread p (pattern d) r q (no_pattern d r (omega arith)) h;
      }

  -- a constructor's pattern
  pub ends_pattern : (r n v : ℕ) (table : List ℕ) → tag (program ws s) r ≡ 31 → n ≡ arity (program ws s) (num (program ws s) r) → v ≡ hop table n (r + 1) → AfterFrom (program ws s) (r + 1) table → EndsAt (program ws s) r v
  ends_pattern r n v table t e f a =
      let p = program ws s in
      record {
        expressions = λ q h. unread p expression r q (no_head_says ws s (tag p r) (num p r) (λ z. omega arith)) h;
        patterns = λ d q h. elim (ℕ_discrete d 0) [
          | yes z ↦ unread p (pattern d) r q (pattern_none ws s d (tag p r) (num p r) z) h
          | no z ↦
              let (x, k) = opened_by p (pattern d) _ _ r q (pattern_31 ws s d (tag p r) (num p r) (omega arith) t) h in
              f ∙ (ap (λ i. hop table i (r + 1)) e ∙ hop_patterns p (arity p (num p r)) (r + 1) (d - 1) (r + 1) q table a (omega arith) k)
        ];
      }

  pub arity_of : (r k n : ℕ) → k ≡ num (program ws s) r → n ≡ num (program ws s) k → n ≡ arity (program ws s) (num (program ws s) r)
  unfolding arity
  arity_of r k n e f = f ∙ ap (num (program ws s)) e

  -- one row, or nothing that is read
  pub ends_row : (r : ℕ) → (tag (program ws s) r ≡ 31 → ⊥) → (2 ≤ tag (program ws s) r → 9 < tag (program ws s) r) → EndsAt (program ws s) r (r + 1)
  ends_row r no-31 no_head =
      let p = program ws s in
      let one : (q : ℕ) → from p [] (r + 1) ≡ past q → r + 1 ≡ q = λ q k. past_row (r + 1) q (sym (from_none p (r + 1)) ∙ k) in
      record {
        expressions = λ q h. elim (ℕ_discrete (tag p r) 1) [
          | yes z ↦ one q (opened_by p expression [] _ r q (give_says ws s (tag p r) (num p r) z) h).1
          | no z ↦ unread p expression r q (no_head_says ws s (tag p r) (num p r) (λ a. no_head (omega arith))) h
        ];
        patterns = λ d q h. elim (ℕ_discrete d 0) [
          | yes z ↦ unread p (pattern d) r q (pattern_none ws s d (tag p r) (num p r) z) h
          | no z ↦ elim (ℕ_discrete (tag p r) 32) [
            | yes x ↦ one q (opened_by p (pattern d) [] _ r q (pattern_32 ws s d (tag p r) (num p r) (omega arith) x) h).1
            | no x ↦ elim (ℕ_discrete (tag p r) 30) [
              | yes y ↦ one q (opened_by p (pattern d) [] _ r q (pattern_named ws s d (tag p r) (num p r) (omega arith) (inl y)) h).1
              | no y ↦ elim (ℕ_discrete (tag p r) 33) [
                | yes w ↦ one q (opened_by p (pattern d) [] _ r q (pattern_named ws s d (tag p r) (num p r) (omega arith) (inr w)) h).1
                | no w ↦ unread p (pattern d) r q (pattern_other ws s d (tag p r) (num p r) (⊎_elim y w) no-31 x) h
              ]
            ]
          ]
        ];
      }

  -- the numbers of the rows are words
  pub num_word : (r : ℕ) → ((i : ℕ) → get_or ws i 0 < 65536) → num (program ws s) r < 65536
  unfolding program num right columns
  num_word r h = elim (dec_lt r s.rows) [
    | yes a ↦ let e = part_at ws s.rows (4 + s.rows) r a in let b = h (4 + s.rows + r) in omega arith
    | no a ↦ let e = part_past ws s.rows (4 + s.rows) r (omega arith) in omega arith
  ]

-- one step by a table, and none
pub hop_turn : (n m q v : ℕ) (table : List ℕ) → n ≡ suc m → v ≡ get_or table q 0 → hop table n q ≡ hop table m v
unfolding hop
hop_turn n m q v table a e = rw (a, e) refl

pub hop_end : (table : List ℕ) (n q : ℕ) → n ≤ 0 → hop table n q ≡ q
unfolding hop
hop_end table zero q a = refl
hop_end table (suc n) q a = absurd (omega arith)

-- filled for all rows, and taken so
pub ends_of : (p : Program) (table : List ℕ) → size p ≤ length table → AfterFrom p 0 table → Ends p table
unfolding from
ends_of p table room a =
    record {
      room = room;
      after_expression = λ r e h. a.expressions r e (omega arith) h;
      after_pattern = λ q d e h. a.patterns d q e (omega arith) h;
    }

pub after_all : (p : Program) (table : List ℕ) → Ends p table → AfterFrom p 0 table
unfolding from
after_all p table e = record { expressions = λ r q l h. e.after_expression r q h; patterns = λ d r q l h. e.after_pattern r d q h }
