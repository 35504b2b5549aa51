-- What a match of the run says in the tables: the value's row may match the pattern, and what it binds is at the pattern's spots.
use Prim.Native.Nat.{ℕ, zero, suc, ◌+◌, ◌-◌, ◌≤◌, ◌<◌}
use native.Mathlib.Omega.{arith}
use mathlib.Core.Path.{◌≡◌, refl, sym, ◌∙◌, ap, subst}
use mathlib.Core.Bool.{Bool, true, false}
use mathlib.Core.Logic.{inl, inr, ⊎_elim}
use mathlib.Core.List.{List, [], ◌∷◌, ◌++◌, append-nil, Memᴰ}
use mathlib.Core.Option.{some, some-injective, none-ne-some}
use lib.ListN.{length, get_or, replicate}
use lib.Dec.{eqb}
use borrow.Author.Tests.{eqb-true, eq-eqb}
use Rattle.model.specs.Rows.{Program, size, tag, num, is_head_of, pattern, arity}
use Rattle.model.specs.Heads.{nums}
use Rattle.model.specs.Values.{Value, closure, built, address, Bindings, empty, bind, join, arguments_of}
use Rattle.model.specs.Matching.{passes_over, match_rows, match}
use Rattle.model.specs.Patterns.{Equal, one_process, one_constructor}
use Rattle.model.specs.Tables.{Tables}
use Rattle.model.specs.Limits.{max_depth}
use Rattle.model.specs.Index.{implies}
use Rattle.model.specs.Letters.{head_count, row_head_of, value_letter}
use Rattle.model.specs.Rules.{argument_fits, letters_read}
use Rattle.model.specs.Closed.{subpattern, argument, is_same_constructor, may_take}
use Rattle.model.specs.Wanted.{Member, MayEqual, MayMatch, AtSpot, Closed}
use Rattle.model.proofs.Logic.{test, and_intro}
use Rattle.model.proofs.Reader.{by_option}
use Rattle.model.proofs.Covering.{row_for, names_of, Covered, Held}
use Rattle.model.proofs.Lookups.{held_value}
use Rattle.model.proofs.Transitions.Equality.{EqualsHeld, passes_over_iff}
use Rattle.model.proofs.Exact.MayMatch.{may_match_iff}
use Rattle.model.proofs.Steps.Letters.{Classes, Fits, all_fit, ArgumentsFit, letter_there}
use Rattle.model.proofs.Parse.Reached.{RowsFit}
use Rattle.model.proofs.Parse.Grammar.{pattern_made, pattern_leaf}
use Rattle.model.proofs.Parse.Lengths.{ColumnsWhole, row_location, nums_at, build_length}
use Rattle.model.proofs.Parse.Spans.{Spans, spans_takes, spans_past, spans_unique, spans_none, spans_split, spans_join, spans_first}
use Rattle.model.proofs.Index.{turned}

-- Patterns that may be so many levels deep stand from row q up to row e, one for each value; R holds of each depth, pattern row and value.
data Each (p : Program) (R : ℕ → ℕ → Value → Type 0) : List ℕ → ℕ → Bindings → ℕ → Type 0 where
  done : (q : ℕ) → Each p R [] q empty q
  more : {d n q m e : ℕ} {v : Value} {ds : List ℕ} {vs : Bindings} → Spans p (pattern d ∷ []) q m → R d q v → Each p R ds m vs e → Each p R (d ∷ ds) q (bind n v vs) e

module _ {p : Program} {R : ℕ → ℕ → Value → Type 0} where
  -- values and then others, against patterns and then others
  each_join : {ds ds' : List ℕ} {us vs : Bindings} {q m e : ℕ} → Each p R ds q us m → Each p R ds' m vs e → Each p R (ds ++ ds') q (join us vs) e
  unfolding join
  each_join (done q) k = k
  each_join (more s r h) k = more s r (each_join h k)

  each_split : {S : ℕ → ℕ → Value → Type 0} {ds : List ℕ} (ds' : List ℕ) {us : Bindings} (vs : Bindings) {q m e : ℕ} → Each p S ds q us m → Each p R (ds ++ ds') q (join us vs) e → Each p R ds q us m × Each p R ds' m vs e
  unfolding join
  each_split ds' vs (done q) k = (done q, k)
  each_split ds' vs (more s r h) (more s' r' k) =
      let (a, b) = each_split ds' vs h (rw (spans_unique s' s) at k) in
      (more s r' a, b)

  each_first : {d n q e : ℕ} {v : Value} {ds : List ℕ} {vs : Bindings} → Each p R (d ∷ ds) q (bind n v vs) e → R d q v
  each_first (more s r h) = r

  each_rest : {d n q m e : ℕ} {v : Value} {ds : List ℕ} {vs : Bindings} → Spans p (pattern d ∷ []) q m → Each p R (d ∷ ds) q (bind n v vs) e → Each p R ds m vs e
  each_rest s (more s' r h) = rw (spans_unique s' s) at h

module _ (p : Program) (t : Tables) (classes : List ℕ) where
  -- the value is covered; its row may match the pattern; flow has what is at the pattern's spots
  abbrev Cover : ℕ → ℕ → Value → Type 0
  Cover d q v = Covered p t classes v

  abbrev May : ℕ → ℕ → Value → Type 0
  May d q v = MayMatch p t d q (row_for classes v)

  abbrev Spots : ℕ → ℕ → Value → Type 0
  Spots d q v = (n w : ℕ) → AtSpot p t d q (row_for classes v) n w → Member t.flow n w

  -- a value that has the constructor of the pattern at row q, with its arguments
  record Made (q : ℕ) (v : Value) (inner : Bindings) : Type 0 where
    builds : tag p (row_for classes v) ≡ 2
    made : num p (row_for classes v + 1) ≡ num p q
    names : names_of inner ≡ nums p (row_for classes v + 2) (arity p (num p q))
    held : Held p t classes inner

  -- it is a built value
  made_from : (q : ℕ) (v : Value) (inner : Bindings) → Covered p t classes v → arguments_of (num p q) v ≡ some inner → Made q v inner
  unfolding arguments_of row_for
  made_from q (closure f held) inner c h = absurd (none-ne-some inner h)
  made_from q (built r k vs) inner c h =
      let (builds, made, names, held) = c in
      test (eqb (num p q) k)
      (λ e.
      let z = eqb-true (num p q) k e in
      let y : vs ≡ inner = some-injective vs inner (rw (e, arguments_of) at h) in
      record { builds = builds; made = made ∙ sym z; names = rw (z, ← y) names; held = rw (← y) held })
      (λ e. absurd (none-ne-some inner (rw (e, arguments_of) at h)))
  made_from q (address i) inner c h = absurd (none-ne-some inner h)

  -- arguments against as many patterns: covered, as they are held
  each_covered : (a d : ℕ) {q e : ℕ} (us : Bindings) → Spans p (replicate a (pattern d)) q e → length (names_of us) ≡ a → Held p t classes us → Each p Cover (replicate a d) q us e
  unfolding names_of
  each_covered zero d {q} empty s l h = rw (← spans_unique (spans_none q) s) (done q)
  each_covered zero d (bind n v us) s l h = absurd (omega arith)
  each_covered (suc a) d empty s l h = absurd (omega arith)
  each_covered (suc a) d (bind n v us) s l h =
      let (m, first, others) = spans_split (pattern d ∷ []) s in
      more first h.1 (each_covered a d us others (omega arith) h.2)

  -- the argument with index i, and its pattern's row
  record Argument (R : ℕ → ℕ → Value → Type 0) (d q i : ℕ) (us : Bindings) : Type 0 where
    value : Value
    row : ℕ
    before : Spans p (replicate i (pattern d)) q row
    holds : R d row value
    member : Member t.flow (get_or (names_of us) i 0) (row_for classes value)

  -- each argument has one
  each_at : {R : ℕ → ℕ → Value → Type 0} (a d i : ℕ) {q e : ℕ} {us : Bindings} → i < a → Each p R (replicate a d) q us e → Held p t classes us → Argument R d q i us
  unfolding names_of
  each_at zero d i l k h = absurd (omega arith)
  each_at (suc a) d zero {q} l (more {v = v} s r k) h = record { value = v; row = q; before = spans_none q; holds = r; member = h.0 }
  each_at (suc a) d (suc i) l (more s r k) h =
      let g = each_at a d i (omega arith) k h.2 in
      record { value = g.value; row = g.row; before = spans_join s g.before; holds = g.holds; member = g.member }

  -- from one fact of the arguments to another
  each_map : {R S : ℕ → ℕ → Value → Type 0} (a d : ℕ) {q e : ℕ} {us : Bindings} → Each p R (replicate a d) q us e → Held p t classes us → ((i : ℕ) → i < a → (x : ℕ) (v : Value) → Spans p (replicate i (pattern d)) q x → R d x v → Member t.flow (get_or (names_of us) i 0) (row_for classes v) → S d x v) → Each p S (replicate a d) q us e
  unfolding names_of
  each_map zero d (done q) h f = done q
  each_map (suc a) d {q} (more {v = v} s r k) h f =
      more s (f zero (omega arith) q v (spans_none q) r h.0)
      (each_map a d k h.2 (λ i l x u b y m. f (suc i) (omega arith) x u (spans_join s b) y m))

  -- each argument passes, where each of which R holds does
  each_fits : {R : ℕ → ℕ → Value → Type 0} (passes : ℕ → ℕ → Bool) (a d i : ℕ) {q e : ℕ} {us : Bindings} → Each p R (replicate a d) q us e → ((j : ℕ) → j < a → (x : ℕ) (v : Value) → Spans p (replicate j (pattern d)) q x → R d x v → passes (i + j) (row_for classes v) ≡ true) → Fits classes passes i us
  each_fits passes zero d i (done q) f = tt
  each_fits passes (suc a) d i {q} (more {v = v} s r k) f =
      let z : i + 0 ≡ i = omega arith in (
        subst (λ j. passes j (row_for classes v) ≡ true) z (f zero (omega arith) q v (spans_none q) r),
        each_fits passes a d (i + 1) k (λ j l x u b y. subst (λ n. passes n (row_for classes u) ≡ true) (turned i j) (f (suc j) (omega arith) x u (spans_join s b) y)),
      )

  -- what a pattern that is no constructor's may match, and what a constructor's may
  may_leaf : (d q v : ℕ) → eqb (tag p q) 31 ≡ false → (tag p q ≡ 33 → (w : ℕ) × Member t.flow (num p q) w × MayEqual p v w) → MayMatch p t d q v
  may_leaf zero q v e equal = tt
  may_leaf (suc d) q v e equal = rw (e, MayMatch) equal

  may_made : (d q v : ℕ) → eqb (tag p q) 31 ≡ true → is_same_constructor p q v ≡ true → ((i : ℕ) → i < arity p (num p q) → (w : ℕ) × Member t.flow (argument p v i) w × MayMatch p t (d - 1) (subpattern p d q i) w) → MayMatch p t d q v
  may_made zero q v e same each = tt
  may_made (suc d) q v e same each = let z : suc d - 1 ≡ d = omega arith in rw (e, MayMatch) (same, λ i l. rw z at (each i l))

  -- what is at its spots
  spot_leaf : (d q v : ℕ) → 1 ≤ d → eqb (tag p q) 31 ≡ false → tag p q ≡ 30 → AtSpot p t d q v (num p q) v
  spot_leaf zero q v l e t = absurd (omega arith)
  spot_leaf (suc d) q v l e t = rw (e, AtSpot) (t, refl, refl)

  spot_made : (d q v i u n w : ℕ) → 1 ≤ d → eqb (tag p q) 31 ≡ true → i < arity p (num p q) → Member t.flow (argument p v i) u → MayMatch p t (d - 1) (subpattern p d q i) u → AtSpot p t (d - 1) (subpattern p d q i) u n w → AtSpot p t d q v n w
  spot_made zero q v i u n w l e b m may spot = absurd (omega arith)
  spot_made (suc d) q v i u n w l e b m may spot =
      let z : suc d - 1 ≡ d = omega arith in
      rw (e, AtSpot) (i, b, (u, m, rw z at may, rw z at spot))

-- one row of a match
module _ (p : Program) (held : Bindings) (n q m : ℕ) (v : Value) (vs found found' : Bindings) (h : match_rows p held (suc n) q (bind m v vs) found ≡ some found') where
  turn_made : eqb (tag p q) 31 ≡ true → (inner : Bindings) × (arguments_of (num p q) v ≡ some inner) × (match_rows p held n (q + 1) (join inner vs) found ≡ some found')
  unfolding match_rows
  turn_made e =
      by_option (arguments_of (num p q) v)
      (λ a. absurd (none-ne-some found' (rw (e, match_rows, a) at h)))
      (λ inner a. (inner, a, rw (e, match_rows, a) at h))

  turn_name : eqb (tag p q) 31 ≡ false → eqb (tag p q) 30 ≡ true → match_rows p held n (q + 1) vs (bind (num p q) v found) ≡ some found'
  unfolding match_rows
  turn_name e f = rw (e, match_rows, f) at h

  turn_over : eqb (tag p q) 31 ≡ false → eqb (tag p q) 30 ≡ false → (passes_over p held q v ≡ true) × (match_rows p held n (q + 1) vs found ≡ some found')
  unfolding match_rows
  turn_over e f =
      test (passes_over p held q v) (λ g. (g, rw (e, match_rows, f, g) at h))
      (λ g. absurd (none-ne-some found' (rw (e, match_rows, f, g) at h)))

module _ {p : Program} (fit : RowsFit p) (w : ColumnsWhole p) (t : Tables) (classes : List ℕ) where
  -- a match of values with patterns: each may match, and what is bound is held where flow has the spots
  record Matches (ds : List ℕ) (q : ℕ) (vs : Bindings) (e : ℕ) (held held' : Bindings) : Type 0 where
    may : Each p (May p t classes) ds q vs e
    holds : Each p (Spots p t classes) ds q vs e → Held p t classes held → Held p t classes held'

  -- no values
  match_none : (q : ℕ) (held held' : Bindings) → held ≡ held' → Matches [] q empty q held held'
  match_none q held held' z = record { may = done q; holds = λ s k. rw z at k }

  -- its arguments' names
  argument_name : {q : ℕ} (v : Value) {inner : Bindings} → Made p t classes q v inner → (i : ℕ) → i < arity p (num p q) → get_or (names_of inner) i 0 ≡ argument p (row_for classes v) i
  unfolding argument
  argument_name {q} v made i l = ap (λ ns. get_or ns i 0) made.names ∙ nums_at p (row_for classes v + 2) (arity p (num p q)) i l

  -- the arguments of a value that has the pattern's constructor, against its patterns
  made_inner : {d q m : ℕ} (v : Value) {inner : Bindings} → Spans p (pattern d ∷ []) q m → eqb (tag p q) 31 ≡ true → Made p t classes q v inner → (1 ≤ d) × Each p (Cover p t classes) (replicate (arity p (num p q)) (d - 1)) (q + 1) inner m
  unfolding is_head_of
  made_inner {d} {q} {m} v {inner} s e made =
      let f = spans_first s in
      let (l, same) = pattern_made p d (tag p q) (num p q) f.more e f.says in
      let others = rw (append-nil, ← same) at f.rest in
      let row = row_for classes v in
      let head : is_head_of (tag p row) ≡ true = rw made.builds in
      let len = rw made.made at (build_length w (row_location fit w row head) made.builds) in
      (l, each_covered p t classes (arity p (num p q)) (d - 1) inner others (ap length made.names ∙ len) made.held)

  -- a value that has the pattern's constructor: it may match, and its arguments' spots are its own
  made_may : (d : ℕ) {q m : ℕ} (v : Value) {inner : Bindings} → eqb (tag p q) 31 ≡ true → Made p t classes q v inner → Each p (May p t classes) (replicate (arity p (num p q)) (d - 1)) (q + 1) inner m → May p t classes d q v
  unfolding subpattern is_same_constructor
  made_may d {q} {m} v {inner} e made k =
      let row = row_for classes v in
      may_made p t classes d q row e
      (and_intro (eqb (tag p row) 2) (eqb (num p (row + 1)) (num p q)) (eq-eqb (tag p row) 2 made.builds) (eq-eqb (num p (row + 1)) (num p q) made.made))
      (λ i l.
      let g = each_at p t classes (arity p (num p q)) (d - 1) i l k made.held in
      (row_for classes g.value, rw (argument_name v made i l) at g.member, rw (spans_past g.before) g.holds))

  made_spots : (d : ℕ) {q m : ℕ} (v : Value) {inner : Bindings} → 1 ≤ d → eqb (tag p q) 31 ≡ true → Made p t classes q v inner → Each p (May p t classes) (replicate (arity p (num p q)) (d - 1)) (q + 1) inner m → Spots p t classes d q v → Each p (Spots p t classes) (replicate (arity p (num p q)) (d - 1)) (q + 1) inner m
  unfolding subpattern
  made_spots d {q} {m} v {inner} l e made k spots =
      each_map p t classes (arity p (num p q)) (d - 1) k made.held
      (λ i b x u before may member n z spot.
      spots n z (spot_made p t classes d q (row_for classes v) i (row_for classes u) n z l e b (rw (argument_name v made i b) at member)
      (rw (spans_past before) may) (rw (spans_past before) spot)))

  -- a pattern that is no constructor's is a row alone
  leaf_next : {d q m : ℕ} → Spans p (pattern d ∷ []) q m → eqb (tag p q) 31 ≡ false → (1 ≤ d) × (q + 1 ≡ m)
  leaf_next {d} {q} {m} s e =
      let f = spans_first s in
      let (l, leaf, same) = pattern_leaf p d (tag p q) (num p q) f.more e f.says in
      (l, spans_unique (spans_none (q + 1)) (rw (append-nil, ← same) at f.rest))

  module _ (closed : Closed p t) (classed : Classes p classes) where
    -- equal values are of one class, or of one constructor
    equal_may : {v u : Value} → Covered p t classes v → Covered p t classes u → Equal v u → MayEqual p (row_for classes v) (row_for classes u)
    unfolding row_for is_same_constructor
    equal_may c b (one_process {i = i}) = inl (classed i c, refl)
    equal_may c b (one_constructor {r = r} {s = s} x) =
        inr (b.0, and_intro (eqb (tag p r) 2) (eqb (num p (r + 1)) (num p (s + 1))) (eq-eqb (tag p r) 2 c.0) (eq-eqb _ _ (c.1 ∙ sym b.1)))

    module _ (held : Bindings) (kept : Held p t classes held) where
      -- a value equal to the one held: some value of the name may equal it
      held_may : (n : ℕ) (v : Value) → Covered p t classes v → EqualsHeld p held n v → (u : ℕ) × Member t.flow n u × MayEqual p (row_for classes v) u
      held_may n v c (u, k, x) =
          let (member, covered) = held_value p t closed classes kept k in
          (row_for classes u, member, equal_may c covered x)

      -- row by row
      match_each : (n : ℕ) {ds : List ℕ} {q e : ℕ} {vs : Bindings} (found found' : Bindings) → Each p (Cover p t classes) ds q vs e → match_rows p held n q vs found ≡ some found' → Matches ds q vs e found found'
      unfolding match_rows
      match_each zero found found' (done q) h = match_none q found found' (some-injective found found' h)
      match_each zero found found' (more s c k) h = absurd (none-ne-some found' h)
      match_each (suc n) found found' (done q) h = match_none q found found' (some-injective found found' h)
      match_each (suc n) found found' (more {d = d} {n = m} {q = q} {v = v} {ds = ds} {vs = vs} s c k) h =
          test (eqb (tag p q) 31)
          (λ e.
          let (inner, a, h') = turn_made p held n q m v vs found found' h e in
          let made = made_from p t classes q v inner c a in
          let (l, cover) = made_inner v s e made in
          let g = match_each n found found' (each_join cover k) h' in
          let (mi, mv) = each_split ds vs cover g.may in
          record {
            may = more s (made_may d v e made mi) mv;
            holds = λ sp hl. g.holds (each_join (made_spots d v l e made mi (each_first sp)) (each_rest s sp)) hl;
          })
          (λ e.
          let (l, z) = leaf_next s e in
          test (eqb (tag p q) 30)
          (λ f.
          let g = rw z at (match_each n (bind (num p q) v found) found' (rw (← z) at k) (turn_name p held n q m v vs found found' h e f)) in
          let named = eqb-true (tag p q) 30 f in
          let spot = spot_leaf p t classes d q (row_for classes v) l e named in
          record {
            may = more s (may_leaf p t classes d q (row_for classes v) e (λ z. absurd (omega arith))) g.may;
            holds = λ sp hl. g.holds (each_rest s sp) (each_first sp (num p q) (row_for classes v) spot, c, hl);
          })
          (λ f.
          let (over, h') = turn_over p held n q m v vs found found' h e f in
          let g = rw z at (match_each n found found' (rw (← z) at k) h') in
          let equals : tag p q ≡ 33 → EqualsHeld p held (num p q) v = λ y. ⊎_elim (λ x. absurd (omega arith)) (λ x. x.1) ((passes_over_iff p held q v).0 over) in
          let may = may_leaf p t classes d q (row_for classes v) e (λ y. held_may (num p q) v c (equals y)) in
          record { may = more s may g.may; holds = λ sp hl. g.holds (each_rest s sp) hl }))

      -- one value
      match_one : {d q e : ℕ} (v : Value) (held' : Bindings) → Spans p (pattern d ∷ []) q e → Covered p t classes v → match p held q v ≡ some held' → Matches (d ∷ []) q (bind 0 v empty) e held held'
      unfolding match
      match_one {d} {q} {e} v held' s c h = match_each (size p - q) held held' (more s c (done e)) h

      -- a value that matches may match
      pub match_may : {d q e : ℕ} (v : Value) (held' : Bindings) → Spans p (pattern d ∷ []) q e → Covered p t classes v → match p held q v ≡ some held' → MayMatch p t d q (row_for classes v)
      match_may v held' s c h = each_first (match_one v held' s c h).may

      -- and where flow has what is at the pattern's spots, the bindings are held
      pub match_held : {d q e : ℕ} (v : Value) (held' : Bindings) → Spans p (pattern d ∷ []) q e → Covered p t classes v → match p held q v ≡ some held' → ((n w : ℕ) → AtSpot p t d q (row_for classes v) n w → Member t.flow n w) → Held p t classes held'
      match_held {d} {q} {e} v held' s c h spots = (match_one v held' s c h).holds (more s spots (done e)) kept

      -- the arguments of a value that matches: each may match its pattern
      inner_is : (l r k : ℕ) (vs inner : Bindings) → arguments_of l (built r k vs) ≡ some inner → inner ≡ vs
      unfolding arguments_of
      inner_is l r k vs inner a =
          test (eqb l k) (λ e. sym (some-injective vs inner (rw (e, arguments_of) at a))) (λ e. absurd (none-ne-some inner (rw (e, arguments_of) at a)))

      match_inner : (n d : ℕ) {q e : ℕ} (r k : ℕ) (vs held' : Bindings) → Spans p (pattern d ∷ []) q e → Covered p t classes (built r k vs) → eqb (tag p q) 31 ≡ true → match_rows p held (suc n) q (bind 0 (built r k vs) empty) held ≡ some held' → Each p (May p t classes) (replicate (arity p (num p q)) (d - 1)) (q + 1) vs e
      unfolding join
      match_inner n d {q} {e} r k vs held' s c tagged h =
          let v : Value = built r k vs in
          let (inner, a, h') = turn_made p held n q 0 v empty held held' h tagged in
          let (l, cover) = made_inner v s tagged (made_from p t classes q v inner c a) in
          let g = match_each n held held' (each_join cover (done e)) h' in
          subst (λ us. Each p (May p t classes) (replicate (arity p (num p q)) (d - 1)) (q + 1) us e) (inner_is (num p q) r k vs inner a) (each_split [] empty cover g.may).0

      -- a value that matches is one whose letter the branch reads
      match_fits : {q e : ℕ} (v : Value) (held' : Bindings) → Spans p (pattern max_depth ∷ []) q e → Covered p t classes v → match p held q v ≡ some held' → ArgumentsFit classes (argument_fits p t q) v
      unfolding match argument_fits subpattern implies
      match_fits (closure f kept') held' s c h = tt
      match_fits {q} {e} (built r k vs) held' s c h =
          test (eqb (tag p q) 31)
          (λ tagged.
          let rows = spans_takes s in
          let n : size p - q ≡ suc (size p - q - 1) = omega arith in
          let each = match_inner (size p - q - 1) max_depth r k vs held' s c tagged (rw n at h) in
          each_fits p t classes (argument_fits p t q) (arity p (num p q)) (max_depth - 1) 0 each
          (λ j l x u before may.
          let z : 0 + j ≡ j = omega arith in
          rw (z, tagged, argument_fits, spans_past before) ((may_match_iff p t (max_depth - 1) x (row_for classes u)).1 may)))
          (λ e. all_fit classes (argument_fits p t q) (λ i u. rw (e, argument_fits)) 0 vs)
      match_fits (address i) held' s c h = tt

      pub letter_read : tag p (size p) ≡ 0 → ((v : ℕ) → row_head_of p v < head_count p) → {q e : ℕ} (v : Value) (held' : Bindings) → Spans p (pattern max_depth ∷ []) q e → Covered p t classes v → match p held q v ≡ some held' → Memᴰ (value_letter p v) (letters_read p t q (row_for classes v))
      unfolding letters_read may_take
      letter_read past_end low {q} v held' s c h =
          rw ((may_match_iff p t max_depth q (row_for classes v)).1 (match_may v held' s c h), letters_read)
          (letter_there p t fit w past_end low classes classed (argument_fits p t q) v c (match_fits v held' s c h))
