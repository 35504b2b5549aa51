-- The arguments of a constructor pattern, one after the other.
use Prim.Native.Nat.{ℕ, zero, suc, ◌+◌, ◌≤◌, ◌<◌, max}
use native.Mathlib.Omega.{arith}
use mathlib.Core.Path.{◌≡◌, sym, ◌∙◌, ap}
use mathlib.Core.Bool.{true}
use mathlib.Core.List.{List}
use lib.ListN.{length, get_or}
use lib.Dec.{eqb}
use borrow.Author.Tests.{eqb-true, eq-eqb}
use Rattle.model.specs.Limits.{max_rows}
use Rattle.model.specs.declared.Sizes.{Sizes}
use Rattle.model.specs.Index.{all}
use Rattle.model.specs.Words.{columns}
use Rattle.model.specs.Rows.{Program, program, size, tag, num, arity, kind, is_head_of}
use Rattle.model.specs.Tables.{Tables, tables}
use Rattle.model.specs.Closed.{subpattern, argument, is_same_constructor}
use Rattle.model.proofs.Logic.{and_left, and_right}
use Rattle.model.proofs.Parse.Lengths.{row_within, row_location}
use Rattle.lists.specs.Ready.{Ready}
use Rattle.lists.proofs.Facts.{rows_fit, columns_whole}
use Rattle.positions.proofs.Placed.{rows_most}
use Rattle.positions.proofs.Standing.{rest_build}
use Rattle.values.specs.Values.{width, Values, FlowReady}
use Rattle.values.proofs.Operands.{build_names}
use Rattle.matching.specs.Patterns.{code, pattern_code, Pattern, Standing, IsCode, IsValuesCode, Matched, MatchReady}
use Rattle.matching.proofs.Coding.{rest_code, rest_begin, rest_end, rest_none, rest_more, may_at, held_at, argument_code, made_code, code_most}
use Rattle.matching.proofs.Subpatterns.{pattern_deep, pattern_within, subpattern_first, subpattern_stands, subpattern_next, subpattern_behind}

-- before argument i of the n arguments of v: the row of its subpattern, and the code of those before
pub record Before (p : Program) (t : Tables) (q v n worst sub i d : ℕ) : Type 0 where
  pub row : sub ≡ subpattern p (suc d) q i
  pub least : 1 ≤ worst
  pub most : worst ≤ 2
  pub says : pattern_code p t (suc d) q v ≡ rest_code n (may_at p t d q v) (held_at p t d q v) worst i

pub record Arguments (p : Program) (t : Tables) (q v n worst sub i : ℕ) : Type 0 where
  pub made : eqb (tag p q) 31 ≡ true
  pub built : is_same_constructor p q v ≡ true
  pub stands : Standing p q
  pub count : n ≡ arity p (num p q)
  pub order : i ≤ n
  pub before : (d : ℕ) → Pattern p (suc d) q → Before p t q v n worst sub i d

-- what is known at argument i: its name's set, and its subpattern
pub record Argument (p : Program) (t : Tables) (flow may held afters : List ℕ) (name sub : ℕ) : Type 0 where
  pub values : Values t.flow name (width (size p)) name flow
  pub matched : Matched p t may held sub
  pub stands : Standing p sub
  pub inside : sub < length afters

-- where patterns are compared, the values of names are told
pub match_flow : {ws : List ℕ} {s : Sizes} {afters flow may held : List ℕ} {x : ℕ} → MatchReady ws s afters flow may held x → FlowReady ws s flow
match_flow h = record { ready = h.ready; names = h.names }

deeper : {p : Program} {q : ℕ} → Standing p q → (d : ℕ) × Pattern p (suc d) q
deeper {p} {q} h = go h.depth h.stands
  where
    go : (d : ℕ) → Pattern p d q → (e : ℕ) × Pattern p (suc e) q
    go zero k = let z = pattern_deep k in absurd (omega arith)
    go (suc d) k = (d, k)

module _ {p : Program} {t : Tables} where
  -- a code for every depth that a pattern can have
  pub deep : {q v c : ℕ} → ((d : ℕ) → Pattern p (suc d) q → c ≡ pattern_code p t (suc d) q v) → IsCode p t q v c
  deep {q} {v} {c} f = record { at_depth = go }
    where
      go : (d : ℕ) → Pattern p d q → c ≡ pattern_code p t d q v
      go zero h = let z = pattern_deep h in absurd (omega arith)
      go (suc d) h = f d h

  pub arguments_begin : {q v : ℕ} (k n : ℕ) → k ≡ num p q → n ≡ num p k → tag p q ≡ 31 → is_same_constructor p q v ≡ true → Standing p q → Arguments p t q v n 1 (q + 1) 0
  unfolding arity
  arguments_begin {q} {v} k n e f tagged same stands =
      let made = eq-eqb (tag p q) 31 tagged in
      let count : n ≡ arity p (num p q) = f ∙ ap (num p) e in
      record {
        made = made;
        built = same;
        stands = stands;
        count = count;
        order = omega arith;
        before = λ d h. record {
          row = subpattern_first p d q;
          least = omega arith;
          most = omega arith;
          says = made_code p t d q v made same ∙ (ap (λ m. code (all 0 m (may_at p t d q v)) (all 0 m (held_at p t d q v))) (sym count) ∙ rest_begin n (may_at p t d q v) (held_at p t d q v));
        };
      }

  pub arguments_end : {q v n worst sub i : ℕ} → n ≤ i → Arguments p t q v n worst sub i → IsCode p t q v worst
  arguments_end {q} {v} {n} {worst} {sub} {i} h a =
      deep (λ d k. let b = a.before d k in rest_end n (may_at p t d q v) (held_at p t d q v) worst i h b.least b.most ∙ sym b.says)

-- a row that builds
pub built_row : {ws : List ℕ} {s : Sizes} → Ready ws s → (q v : ℕ) → is_same_constructor (program ws s) q v ≡ true → (tag (program ws s) v ≡ 2) × (num (program ws s) (v + 1) ≡ num (program ws s) q) × (v < max_rows)
unfolding is_same_constructor
built_row {ws} {s} ready q v e =
    let two = eqb-true (tag (program ws s) v) 2 (and_left (eqb (tag (program ws s) v) 2) _ e) in
    let a = row_within (columns_whole ready) v (omega arith) in
    let b = rows_most ready in
    (two, eqb-true _ _ (and_right (eqb (tag (program ws s) v) 2) _ e), omega arith)

-- few arguments
pub count_low : {ws : List ℕ} {s : Sizes} → Ready ws s → {q v n worst sub i : ℕ} → Arguments (program ws s) (tables ws s) q v n worst sub i → n < max_rows
unfolding is_head_of arity kind program columns
count_low {ws} {s} ready {q} {v} {n} a =
    let (two, same, low) = built_row ready q v a.built in
    let l = row_location (rows_fit ready) (columns_whole ready) v (rw two) in
    let (z, w) = rest_build l (rw two) in
    let y = ap (num (program ws s)) same in
    let x = a.count in
    let u = rows_most ready in
    omega arith

-- one argument: its name and its subpattern, and then the code c that they have
module _ {ws : List ℕ} {s : Sizes} {afters flow may held : List ℕ} {q v n worst sub i : ℕ} (h : MatchReady ws s afters flow may held (q + 1)) (a : Arguments (program ws s) (tables ws s) q v n worst sub i) (more : i < n) (name : ℕ) (named : name ≡ num (program ws s) (v + 2 + i)) where
  abbrev p : Program
  p = program ws s

  abbrev t : Tables
  t = tables ws s

  fits : i < arity p (num p q)
  fits = let z = a.count in omega arith

  name_low : name < p.names
  unfolding is_head_of arity
  name_low =
      let (two, same, low) = built_row h.ready q v a.built in
      let l = row_location (rows_fit h.ready) (columns_whole h.ready) v (rw two) in
      let z = ap (num p) same in
      rw named (build_names p l two i (let y = fits in omega arith))

  pub argument_here : Argument p t flow may held afters name sub
  argument_here =
      let (d, k) = deeper a.stands in
      let row = (a.before d k).row in
      let stands = subpattern_stands k a.made i fits in
      let behind = subpattern_behind k a.made i fits in
      let within = pattern_within stands in
      let room = h.layout.room in
      record {
        values = h.names.of_name name name_low;
        matched = rw row (h.patterns.at (subpattern p (suc d) q i) behind within);
        stands = rw row (record { depth = d; stands = stands });
        inside = omega arith;
      }

  module _ (c : ℕ) (found : IsValuesCode p t flow name sub c) where
    code_is : (d : ℕ) → Pattern p (suc d) q → c ≡ code (may_at p t d q v i) (held_at p t d q v i)
    unfolding argument
    code_is d k =
        let row = (a.before d k).row in
        let stands = subpattern_stands k a.made i fits in
        (rw (row, named) at (found.of_list t.flow name d argument_here.values (rw row stands))) ∙ argument_code p t d q v i

    pub arguments_none : c ≡ 0 → IsCode p t q v 0
    arguments_none z =
        deep (λ d k. rest_none n (may_at p t d q v) (held_at p t d q v) worst i c more (code_is d k) z ∙ sym (a.before d k).says)

    pub arguments_next : (c ≡ 0 → ⊥) → (worst' sub' : ℕ) → worst' ≡ max worst c → sub' ≡ get_or afters sub 0 → Arguments p t q v n worst' sub' (i + 1)
    arguments_next nz worst' sub' e f = record {
      made = a.made;
      built = a.built;
      stands = a.stands;
      count = a.count;
      order = omega arith;
      before = λ d k.
          let b = a.before d k in
          let top = code_most (may_at p t d q v i) (held_at p t d q v i) in
          let is = code_is d k in
          let lo = b.least in
          let hi = b.most in
          record {
            row = f ∙ (ap (λ r. get_or afters r 0) b.row ∙ subpattern_next h.layout k a.made i fits);
            least = omega arith;
            most = omega arith;
            says = b.says ∙ (rest_more n (may_at p t d q v) (held_at p t d q v) worst i c more is nz lo ∙ ap (λ w. rest_code n (may_at p t d q v) (held_at p t d q v) w (i + 1)) (sym e));
          };
    }
