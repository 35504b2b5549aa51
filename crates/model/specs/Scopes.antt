-- Document 01, "Program rows": where names are bound and where they hold; refusals 4 (name) and 5 (scope).
use Rattle.std.specs.Prelude.{ℕ, ◌+◌, Bool, true, false, not, ◌&&◌, ◌||◌, [], ◌∷◌, leb, ltb, eqb}
use Rattle.std.proofs.Math.Option.{none}
use Rattle.model.specs.declared.Verdict.TheVariants.{Name, Scope}
use Rattle.model.specs.Tags.{tag_give, tag_build, tag_self, tag_case, tag_global, tag_operand, tag_parameter}
use Rattle.model.specs.Tags.{tag_pattern_name, tag_pattern_held}
use Rattle.model.specs.Index.{any, all, first}
use Rattle.model.specs.Verdict.{Check, ◌>>◌, unless}
use Rattle.model.specs.Rows.{Program, size, tag, num, kind, is_head_of, lead, expression, past_items}

-- "name bound": the rows with tags 2 to 7, 11, 23 and 30
unfoldable pub binds : ℕ → Bool
binds t = leb tag_build t && leb t tag_self || (eqb t tag_global || (eqb t tag_parameter || eqb t tag_pattern_name))

-- "name read": the rows with tags 1, 8 and 21; document 02, (iii): and 33. A scope is a whole expression: it has a
-- pattern's row exactly where it has "the case or receive itself", and a name of the same pattern holds behind it.
unfoldable pub uses : ℕ → Bool
uses t = eqb t tag_give || (eqb t tag_case || (eqb t tag_operand || eqb t tag_pattern_held))

-- row r binds the name n
unfoldable pub binds_name : Program → ℕ → ℕ → Bool
binds_name p n r = binds (tag p r) && eqb (num p r) n

-- the row that binds the name ("Each name is bound in one place"); R where none does
unfoldable pub binder : Program → ℕ → ℕ
binder p n = first 0 (size p) (binds_name p n)

-- row r binds a name that an earlier row binds
unfoldable pub bound_again : Program → ℕ → Bool
bound_again p r = binds (tag p r) && any 0 r (binds_name p (num p r))

-- 4: "bound again: 4 + that row; else never bound: 1"
unfoldable pub name_check_of : Program → Check
name_check_of p =
    let again : ℕ = first 0 (size p) (bound_again p) in
    unless (eqb again (size p)) (Name (4 + again)) >> unless (all 0 p.names (λ n. ltb (binder p n) (size p)))
    (Name 1)

-- the rest of the expression at r
unfoldable pub rest : Program → ℕ → ℕ
rest p r = past_items p (lead (kind (tag p r))) (r + 1)

-- the next head from row r on
unfoldable pub next_head : Program → ℕ → ℕ
next_head p r = first r (size p) (λ q. is_head_of (tag p q))

-- "a parameter in its body; a pattern's name in its branch; others in their rest": the expression in which the name
-- bound at row b holds
unfoldable pub is_held_in : Program → ℕ → ℕ
is_held_in p b = elim (is_head_of (tag p b)) [ true ↦ rest p b | false ↦ next_head p b ]

-- "Tag 11 names hold everywhere", others from the head to the end of that expression
unfoldable pub in_scope : Program → ℕ → ℕ → Bool
in_scope p b r =
    eqb (tag p b) tag_global || (leb (is_held_in p b) r && ltb r (past_items p (expression ∷ []) (is_held_in p b)))

-- row r reads a name outside its scope
unfoldable pub out_of_scope : Program → ℕ → Bool
out_of_scope p r = uses (tag p r) && not (in_scope p (binder p (num p r)) r)

-- 5: "read outside its scope: 4 + first such row"
unfoldable pub scope_check_of : Program → Check
scope_check_of p =
    let out : ℕ = first 0 (size p) (out_of_scope p) in
    unless (eqb out (size p)) (Scope (4 + out))
