-- Laws of putting rows into the words: rows after rows, and the rows of rules one after the other.
use Prim.Native.Nat.{ℕ, suc, ◌+◌, ◌*◌, ◌≤◌, ◌<◌}
use native.Mathlib.Omega.{arith}
use mathlib.Core.Path.{◌≡◌, refl, sym, ◌∙◌, ap}
use mathlib.Core.List.{List, [], ◌∷◌, ◌++◌}
use Rattle.std.proofs.Common.{Option, Some, None}
use lib.ListN.{length, get_or, set, length-set, length-append}
use Rattle.model.specs.Index.{gather, from_all}
use Rattle.model.specs.Words.{right}
use Rattle.model.specs.Rows.{Program, tag, Kind, kind}
use Rattle.model.specs.Tables.{Tables, state_at}
use Rattle.model.specs.Rules.{Rule, state_rules_of}
use Rattle.model.specs.Listing.{Line, line}
use Rattle.model.proofs.Index.{gather_end}
use Rattle.rules.specs.Listed.{listed_rule, listed_rules, StateRules}
use Rattle.rules.proofs.Gather.{gather_split, gather_last}
use Rattle.system_totals.specs.Lines.{lines, third_tag_of, third_lines}
use Rattle.system_totals.proofs.Lined.{lines_append, rows_more, one_lines}
use Rattle.system_listing.specs.Putting.{put_line, put_lines, rows_of, Room, Put}

-- nothing is lost of the words' length
pub put_length : (ls : List Line) (out : List ℕ) (n x : ℕ) → length (put_lines out n x ls) ≡ length out
unfolding put_lines put_line
put_length [] out n x = refl
put_length (l ∷ ls) out n x = put_length ls (put_line out n x l) n (x + 1) ∙ (length-set (set out (4 + x) l.tag) (4 + n + x) l.number ∙ length-set out (4 + x) l.tag)

-- rows after rows
put_append : (xs ys : List Line) (out : List ℕ) (n x : ℕ) → put_lines out n x (xs ++ ys) ≡ put_lines (put_lines out n x xs) n (x + length xs) ys
unfolding put_lines
put_append [] ys out n x = let z : x ≡ x + 0 = omega arith in ap (λ k. put_lines out n k ys) z
put_append (a ∷ xs) ys out n x =
    let z : x + 1 + length xs ≡ x + suc (length xs) = omega arith in
    put_append xs ys (put_line out n x a) n (x + 1) ∙ ap (λ k. put_lines (put_lines (put_line out n x a) n (x + 1) xs) n k ys) z

pub put_kept : (out out' : List ℕ) (n x e : ℕ) (ls : List Line) → Put out out' n x e ls → length out' ≡ length out
put_kept out out' n x e ls h = ap length h.put ∙ put_length ls out n x

pub put_begin : (out : List ℕ) (n x a : ℕ) (f : ℕ → List Rule) → Put out out n x x (lines (gather a a f))
unfolding lines from_all put_lines
put_begin out n x a f = rw (gather_end a a f (omega arith)) (record { next = omega arith; put = refl })

put_join : (out mid end : List ℕ) (n x y z : ℕ) (xs ys : List Line) → Put out mid n x y xs → Put mid end n y z ys → Put out end n x z (xs ++ ys)
put_join out mid end n x y z xs ys h k =
    let l = length-append xs ys in
    record {
      next = omega (arith, h.next, k.next);
      put = k.put ∙ (rw (h.put, h.next) (sym (put_append xs ys out n x)));
    }

module _ (f : ℕ → List Rule) (out₀ out : List ℕ) (n x₀ x a k : ℕ) (h : Put out₀ out n x₀ x (lines (gather a k f))) (l : a ≤ k) where
  -- those of one index more
  pub put_more : (out' : List ℕ) (x' : ℕ) → Put out out' n x x' (lines (f k)) → Put out₀ out' n x₀ x' (lines (gather a (k + 1) f))
  put_more out' x' g =
      rw (gather_last a k f l, lines_append (gather a k f) (f k)) (put_join out₀ out out' n x₀ x x' (lines (gather a k f)) (lines (f k)) h g)

  -- there is room for them
  pub put_room : (e : ℕ) → k < e → Room out₀ n x₀ (lines (gather a e f)) → Room out n x (lines (f k))
  put_room e m r =
      let upto = ap (λ ρs. length (lines ρs)) (gather_split a (k + 1) e f (omega arith) (omega arith)) in
      let both = ap length (lines_append (gather a (k + 1) f) (gather (k + 1) e f)) ∙ length-append (lines (gather a (k + 1) f)) (lines (gather (k + 1) e f)) in
      let one = rows_more a f k l in
      let same = put_kept out₀ out n x₀ x (lines (gather a k f)) h in
      record { words = omega (arith, r.words); rows = omega (arith, r.rows, h.next) }

-- at the end
pub put_ends : (f : ℕ → List Rule) (out out' : List ℕ) (n x e a k k' : ℕ) → Put out out' n x e (lines (gather a k f)) → k ≡ k' → Put out out' n x e (lines (gather a k' f))
put_ends f out out' n x e a k k' h end = rw (← end) h

-- the rows of one rule, by the third tag
module _ (out : List ℕ) (n x from to z : ℕ) (third : Option ℕ) where
  pub two_room : Room out n x (rows_of from to third z) → (x + 2 ≤ n) × (4 + 2 * n ≤ length out)
  unfolding rows_of
  two_room r = (omega (arith, r.rows), r.words)

  pub two_put : (mid end : List ℕ) → third ≡ None → mid ≡ put_line out n x (line 50 from) → end ≡ put_line mid n (x + 1) (line 51 to) → Put out end n x (x + 2) (rows_of from to third z)
  unfolding rows_of third_lines put_lines
  two_put mid end none a b = rw none (record { next = refl; put = b ∙ ap (λ o. put_line o n (x + 1) (line 51 to)) a })

  pub three_room : (k : ℕ) → Room out n x (rows_of from to third z) → third ≡ Some k → x + 3 ≤ n
  unfolding rows_of third_lines
  three_room k r some = let e = ap (λ l. length (third_lines l z)) some in omega (arith, r.rows)

  pub three_put : (k : ℕ) (mid next end : List ℕ) → third ≡ Some k → mid ≡ put_line out n x (line 50 from) → next ≡ put_line mid n (x + 1) (line 51 to) → end ≡ put_line next n (x + 2) (line k z) → Put out end n x (x + 3) (rows_of from to third z)
  unfolding rows_of third_lines put_lines
  three_put k mid next end some a b c =
      let two : x + 2 ≡ x + 1 + 1 = omega arith in
      rw some (record {
        next = refl;
        put = c ∙ (ap (λ o. put_line o n (x + 2) (line k z)) (b ∙ ap (λ o. put_line o n (x + 1) (line 51 to)) a) ∙
            ap (λ j. put_line (put_line (put_line out n x (line 50 from)) n (x + 1) (line 51 to)) n j (line k z)) two);
      })

-- rule k of those in the two lists, from the numbers that the code has
module _ (h : Kind) (i : ℕ) (tos others : List ℕ) (k to z : ℕ) (third : Option ℕ) (t : third ≡ third_tag_of h) (a : to ≡ get_or tos k 0) (b : z ≡ get_or others k 0) where
  rule_rows : lines (listed_rule h i tos others k ∷ []) ≡ rows_of i to third z
  unfolding listed_rule rows_of
  rule_rows = rw (t, a, b) (one_lines h i (get_or tos k 0) (get_or others k 0))

  pub rule_room : (out : List ℕ) (n x : ℕ) → Room out n x (lines (listed_rule h i tos others k ∷ [])) → Room out n x (rows_of i to third z)
  rule_room out n x r = rw rule_rows at r

  pub rule_put : (out out' : List ℕ) (n x e : ℕ) → Put out out' n x e (rows_of i to third z) → Put out out' n x e (lines (listed_rule h i tos others k ∷ []))
  rule_put out out' n x e r = rw rule_rows r

-- the rules of state i
module _ (p : Program) (t : Tables) (i m head : ℕ) (tos others : List ℕ) (h : StateRules p t i tos others m) (e : head ≡ tag p (right t.states i)) where
  state_lines : lines (listed_rules (kind head) i tos others m) ≡ lines (state_rules_of p t i (state_at t i))
  state_lines = ap lines (ap (λ x. listed_rules (kind x) i tos others m) e ∙ h.rules)

  pub state_room : (out : List ℕ) (n x : ℕ) → Room out n x (lines (state_rules_of p t i (state_at t i))) → Room out n x (lines (listed_rules (kind head) i tos others m))
  state_room out n x r = rw state_lines r

  pub state_put : (out out' : List ℕ) (n x e' : ℕ) → Put out out' n x e' (lines (listed_rules (kind head) i tos others m)) → Put out out' n x e' (lines (state_rules_of p t i (state_at t i)))
  state_put out out' n x e' r = rw state_lines at r
