-- The codes that are kept, and one more.
use Prim.Native.Nat.{ℕ, ◌+◌, ◌-◌, ◌≤◌, ◌<◌}
use native.Mathlib.Decide.{ℕ_discrete}
use native.Mathlib.Omega.{arith}
use mathlib.Core.Path.{◌≡◌, refl, ◌∙◌, ap}
use mathlib.Core.List.{List}
use lib.ListN.{length, get_or, set, length-set}
use lib.Seq.{get_or-set_same, get_or-set_other}
use Rattle.model.specs.declared.Sizes.{Sizes}
use Rattle.model.specs.Words.{columns}
use Rattle.model.specs.Rows.{Program, program, size}
use Rattle.model.specs.Tables.{Tables}
use Rattle.settled.specs.Settled.{Settled}
use Rattle.codes.specs.Codes.{Codes}

-- each row has a word
pub codes_inside : (ws : List ℕ) (s : Sizes) (t : Tables) (codes : List ℕ) (r : ℕ) → Codes (program ws s) t codes → r < s.rows → r < length codes
unfolding program columns
codes_inside ws s t codes r h l = let z : s.rows ≤ length codes = h.room in omega arith

module _ {p : Program} {t : Tables} (codes : List ℕ) where
  -- nothing is kept yet
  pub codes_none : size p ≤ length codes → ((r : ℕ) → get_or codes r 0 ≡ 0) → Codes p t codes
  codes_none room none = record { room = room; kept = λ r l. let z = none r in absurd (omega arith) }

  module _ (h : Codes p t codes) (r x : ℕ) where
    pub code_known : x ≡ get_or codes r 0 → 0 < x → Settled p t r (x - 1)
    code_known e l = rw e (h.kept r (omega arith))

    pub codes_more : (k : ℕ) → x ≡ k + 1 → r < length codes → Settled p t r k → Codes p t (set codes r x)
    codes_more k e l st =
        let long = length-set codes r x in
        let z : x - 1 ≡ k = omega arith in
        let same = get_or-set_same codes r x 0 l in
        record {
          room = let y = h.room in omega arith;
          kept = λ j m. elim (ℕ_discrete j r) [
            | yes q ↦ rw (q, same, z) st
            | no q ↦ let o = get_or-set_other codes r j x 0 q in rw o (h.kept j (omega arith))
          ];
        }
