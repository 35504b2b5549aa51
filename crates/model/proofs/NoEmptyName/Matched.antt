-- A pattern that matches a full value binds each of its names, up to the row where it ends.
use Prim.Native.Nat.{ℕ, zero, suc, ◌+◌, ◌-◌, ◌≤◌, ◌<◌}
use native.Mathlib.Decide.{dec_lt}
use native.Mathlib.Omega.{arith}
use mathlib.Core.Path.{◌≡◌, refl, sym, ◌∙◌, ap, subst}
use mathlib.Core.Bool.{true, false}
use mathlib.Core.List.{[], ◌∷◌, append-nil}
use lib.ListN.{length, replicate}
use lib.Dec.{eqb}
use Rattle.model.specs.Rows.{Program, tag, num, arity, pattern}
use Rattle.model.specs.Scopes.{binds}
use Rattle.model.specs.Values.{Value, built, Bindings, empty, bind}
use Rattle.model.specs.Patterns.{RowAt, MatchesAt, by_name, by_constructor, by_any, by_held, no_values, one_value}
use Rattle.model.specs.NoEmptyName.{HoldsSomething}
use Rattle.model.proofs.Logic.{true_false}
use Rattle.model.proofs.Covering.{names_of}
use Rattle.model.proofs.Parse.Spans.{Spans, spans_unique, spans_none, spans_split, spans_first}
use Rattle.model.proofs.Parse.Grammar.{pattern_made, pattern_leaf}
use Rattle.model.proofs.NoEmptyName.Held.{bound_holds, still_holds, Extends}
use Rattle.model.proofs.NoEmptyName.Values.{Full, full_built, AllFull, one_held}

-- rows q to e bound their names
pub record BoundOn (p : Program) (q e : ℕ) (found found' : Bindings) : Type 0 where
  pub full : AllFull p found'
  pub extends : Extends p found found'
  pub own : (k : ℕ) → q ≤ k → k < e → binds (tag p k) ≡ true → HoldsSomething p found' (num p k)

-- the pattern, or one for each value, ends where the rows say, and binds its names
abbrev pub OneMatched : (p : Program) (q : ℕ) (v : Value) (found found' : Bindings) (e : ℕ) → Type 0
OneMatched p q v found found' e = (d e' : ℕ) → Full p v → AllFull p found → Spans p (pattern d ∷ []) q e' → (e ≡ e') × BoundOn p q e found found'

abbrev EachMatched : (p : Program) (q : ℕ) (vs found found' : Bindings) (e : ℕ) → Type 0
EachMatched p q vs found found' e =
    (n d e' : ℕ) → length (names_of vs) ≡ n → AllFull p vs → AllFull p found → Spans p (replicate n (pattern d)) q e' → (e ≡ e') × BoundOn p q e found found'

module _ {p : Program} where
  -- a leaf is one row
  leaf_end : {d q e t n : ℕ} → RowAt p q t n → eqb t 31 ≡ false → Spans p (pattern d ∷ []) q e → q + 1 ≡ e
  leaf_end {d} {q} {e} {t} {n} r leaf s =
      let f = spans_first s in
      let z = (pattern_leaf p d (tag p q) (num p q) f.more (ap (λ x. eqb x 31) r.tagged ∙ leaf) f.says).2 in
      spans_unique (spans_none (q + 1)) (rw (append-nil, ← z) at f.rest)

  -- one that binds no name
  passed : {q t n : ℕ} {found : Bindings} → RowAt p q t n → binds t ≡ false → AllFull p found → BoundOn p q (q + 1) found found
  passed {q} r no_name h =
      record {
        full = h;
        extends = record { holds = λ n k. k };
        own = λ k lo hi u. let z : k ≡ q = omega arith in true_false u (ap (λ x. binds (tag p x)) z ∙ ap binds r.tagged ∙ no_name);
      }

  named : {q n : ℕ} {v : Value} {found : Bindings} → RowAt p q 30 n → Full p v → AllFull p found → BoundOn p q (q + 1) found (bind n v found)
  named {q} {n} {v} {found} r f h =
      record {
        full = one_held f h;
        extends = record { holds = λ m k. still_holds k };
        own = λ k lo hi u.
            let z : k ≡ q = omega arith in
            subst (HoldsSomething p (bind n v found)) (sym r.numbered ∙ ap (num p) (sym z)) (bound_holds n v found);
      }

  -- rows and then others
  both : {q m e : ℕ} {found found' found'' : Bindings} → BoundOn p q m found found' → BoundOn p m e found' found'' → BoundOn p q e found found''
  both {m = m} a b =
      record {
        full = b.full;
        extends = record { holds = λ n h. b.extends.holds n (a.extends.holds n h) };
        own = λ k lo hi u. elim (dec_lt k m) [
          | yes l ↦ b.extends.holds (num p k) (a.own k lo l u)
          | no l ↦ b.own k (omega arith) hi u
        ];
      }

  arguments_full : {r k : ℕ} {vs : Bindings} → Full p (built r k vs) → (length (names_of vs) ≡ arity p k) × AllFull p vs
  arguments_full (full_built many fs) = (many, fs)

  held_full : {n : ℕ} {v : Value} {held : Bindings} → AllFull p (bind n v held) → Full p v × AllFull p held
  held_full (one_held f fs) = (f, fs)

  constructor_matched : {q k r e : ℕ} {vs found found' : Bindings} → RowAt p q 31 k → EachMatched p (q + 1) vs found found' e → OneMatched p q (built r k vs) found found' e
  unfolding binds
  constructor_matched {q} {k} row inner d e' f h s =
      let (many, fs) = arguments_full f in
      let g = spans_first s in
      let z = (pattern_made p d (tag p q) (num p q) g.more (ap (λ x. eqb x 31) row.tagged) g.says).1 in
      let (same, b) = inner (arity p k) (d - 1) e' many fs h (rw (append-nil, ← z, row.numbered) at g.rest) in
      (same, both (passed row refl h) b)

  none_matched : {q : ℕ} {found : Bindings} → EachMatched p q empty found found q
  unfolding names_of
  none_matched {q} zero d e' many fs h s =
      (spans_unique (spans_none q) s, record { full = h; extends = record { holds = λ m k. k }; own = λ k lo hi u. absurd (omega arith) })
  none_matched (suc n) d e' many fs h s = absurd (omega arith)

  one_more : {q m n e : ℕ} {v : Value} {vs found found' found'' : Bindings} → OneMatched p q v found found' m → EachMatched p m vs found' found'' e → EachMatched p q (bind n v vs) found found'' e
  unfolding names_of
  one_more one others zero d e' many fs h s = absurd (omega arith)
  one_more one others (suc n) d e' many fs h s =
      let (f, more) = held_full fs in
      let (at, first, behind) = spans_split (pattern d ∷ []) s in
      let (same, b) = one d at f h first in
      let (same', b') = others n d e' (omega arith) more b.full (rw (← same) at behind) in
      (same', both b b')

  pub matched : {held found found' : Bindings} {q e : ℕ} {v : Value} → MatchesAt p held q v found found' e → OneMatched p q v found found' e
  unfolding binds
  matched t =
      elim t as (λ q v found found' e y. OneMatched p q v found found' e) (λ q vs found found' e y. EachMatched p q vs found found' e) [
        | by_name r ↦ λ d e' f h s. (leaf_end r refl s, named r f h)
        | by_constructor r (k → inner) ↦ constructor_matched r inner
        | by_any r ↦ λ d e' f h s. (leaf_end r refl s, passed r refl h)
        | by_held r k x ↦ λ d e' f h s. (leaf_end r refl s, passed r refl h)
        | no_values ↦ none_matched
        | one_value (h → one) (k → others) ↦ one_more one others
      ]
