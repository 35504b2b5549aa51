-- Heads that a name does not have are passed over: the subpattern leaves them.
use Prim.Native.Nat.{ℕ, ◌+◌, ◌-◌, ◌≤◌, ◌<◌}
use native.Mathlib.Omega.{arith}
use mathlib.Core.Path.{◌≡◌, refl, sym, ap}
use mathlib.Core.Bool.{Bool, not}
use mathlib.Core.List.{List}
use Rattle.bits.specs.Bits.{member}
use Rattle.model.specs.declared.Sizes.{Sizes}
use Rattle.model.specs.Index.{first}
use Rattle.model.specs.Rows.{program}
use Rattle.model.specs.Tables.{tables}
use Rattle.model.proofs.Index.{First, first_is}
use Rattle.pattern_heads.specs.Fitting.{MatchTables}
use Rattle.pattern_letters.specs.Picked.{leaves_below, Left}
use Rattle.pattern_letters.proofs.Arguments.{absent_left}
use Rattle.pattern_letters.proofs.Lessening.{heads_upto}

pub next_above : (from h end : ℕ) (f : ℕ → Bool) → from ≤ end → h ≡ first from end f → from ≤ h
next_above from h end f l is = let r : First from end f h = rw (sym is) at (first_is from end f l) in r.from

pub passed_over : {ws : List ℕ} {s : Sizes} {w : ℕ} {fitting names : List ℕ} (g : MatchTables ws s w fitting names) (i n q from h end : ℕ) (u u' : List ℕ) → n < s.names → end ≡ s.constructors + 2 → from ≤ end → h ≡ first from end (member names 2 n) → Left (program ws s) (tables ws s) (leaves_below (program ws s) (tables ws s) i n q from) u u' → Left (program ws s) (tables ws s) (leaves_below (program ws s) (tables ws s) i n q h) u u'
passed_over {names = names} g i n q from h end u u' low e l is f =
    let r : First from end (member names 2 n) h = rw (sym is) at (first_is from end (member names 2 n) l) in
    let z : from + (h - from) ≡ h = omega (arith, r.from) in
    rw z at (heads_upto _ _ i n q (h - from) from u u' (λ x a b. absent_left g n q x low (omega (arith, e, r.upto)) (member names 2 n x) refl (ap not (r.before x a (omega arith)))) f)
