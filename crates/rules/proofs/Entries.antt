-- Entries of the lists: those of a name and of a class as ranges, and the entry of a pair that is there.
use Prim.Native.Nat.{ℕ, ◌+◌, ◌≤◌, ◌<◌}
use native.Mathlib.Decide.{dec_lt}
use native.Mathlib.Omega.{arith}
use mathlib.Core.Path.{◌≡◌, sym, ◌∙◌}
use mathlib.Core.Bool.{true}
use mathlib.Core.List.{List, [], ◌∷◌}
use lib.ListN.{get_or}
use Rattle.model.specs.declared.Sizes.{Sizes}
use Rattle.model.specs.Words.{Columns, left, right, columns}
use Rattle.model.specs.Rows.{Program, program}
use Rattle.model.specs.Tables.{Tables, tables, entries, has, each}
use Rattle.model.specs.Wanted.{Member}
use Rattle.model.proofs.Exact.Members.{has_iff}
use Rattle.lists.specs.Lists.{Ascending, place, range_from, range_to, Starts}
use Rattle.lists.specs.Ready.{Ready}
use Rattle.lists.proofs.Facts.{flow_rises, mail_rises}
use Rattle.lists.proofs.Rising.{heads_before, heads_within, heads_behind, begins_within, begins_order, place_upto}
use Rattle.values.proofs.Names.{mail_upto}
use Rattle.values.proofs.Members.{each_at}

-- a pair that is there stands at its place
placed : (c : Columns) → Ascending c [] → (a b j : ℕ) → j ≡ place c [] (a ∷ b ∷ 0 ∷ []) → has c a b ≡ true → (j < c.size) × (left c j ≡ a) × (right c j ≡ b)
placed c rising a b j e h =
    let m = (has_iff c a b).0 h in
    elim (dec_lt m.at j) [
      | yes l ↦ absurd (heads_before c [] a b m.at (omega arith) m.first m.second)
      | no l ↦ elim (dec_lt m.at (place c [] (a ∷ (b + 1) ∷ 0 ∷ []))) [
        | yes k ↦ let (x, y) = heads_within c [] a b rising j (omega arith) (omega arith) in (omega (arith, m.below), x, y)
        | no k ↦ absurd (heads_behind c [] a b rising m.at (omega arith) m.below m.first m.second)
      ]
    ]

module _ {ws : List ℕ} {s : Sizes} (h : Ready ws s) where
  abbrev p : Program
  p = program ws s

  abbrev t : Tables
  t = tables ws s

  -- the entries of a name, by the table of where they start
  pub name_starts : (flow-at : List ℕ) (a from to : ℕ) → Starts t.flow s.names flow-at → a < s.names → from ≡ get_or flow-at a 0 → to ≡ get_or flow-at (a + 1) 0 → (from ≡ range_from t.flow a) × (to ≡ range_to t.flow a)
  unfolding range_from range_to
  name_starts flow-at a from to g l e f = (e ∙ g.start a (omega arith), f ∙ g.start (a + 1) (omega arith))

  pub flow_order : (a from to : ℕ) → from ≡ range_from t.flow a → to ≡ range_to t.flow a → (from ≤ to) × (to ≤ s.flows)
  unfolding range_from range_to tables entries columns
  flow_order a from to e f = (omega (arith, begins_order t.flow [] a (flow_rises h)), omega (arith, place_upto t.flow [] ((a + 1) ∷ 0 ∷ 0 ∷ [])))

  -- an entry of a name
  pub entry_in : (a j : ℕ) → range_from t.flow a ≤ j → j < range_to t.flow a → (left t.flow j ≡ a) × (j < t.flow.size)
  unfolding range_from range_to
  entry_in a j b c = let upto = place_upto t.flow [] ((a + 1) ∷ 0 ∷ 0 ∷ []) in (begins_within t.flow [] a (flow_rises h) j b c, omega arith)

  -- the mail entry of a value of the name m, each of which is in the mail of class d
  pub mailed_at : (m d from to i v j : ℕ) → each t.flow m (has t.mail d) ≡ true → from ≡ range_from t.flow m → to ≡ range_to t.flow m → from ≤ i → i < to → v ≡ right t.flow i → j ≡ place t.mail [] (d ∷ v ∷ 0 ∷ []) → (j < s.mails) × (left t.mail j ≡ d) × (right t.mail j ≡ v)
  unfolding tables entries columns
  mailed_at m d from to i v j all e f a b same at =
      let (x, y) = entry_in m i (omega arith) (omega arith) in
      let mem : Member t.flow m v = record { at = i; below = y; first = x; second = sym same } in
      placed t.mail (mail_rises h) d v j at (each_at t.flow m (has t.mail d) all v mem)

  -- the mail of a class
  module _ (c from to : ℕ) (e : from ≡ range_from t.mail c) (f : to ≡ range_to t.mail c) where
    pub mail_order : (from ≤ to) × (to ≤ s.mails)
    unfolding range_from range_to tables entries columns
    mail_order = (omega (arith, begins_order t.mail [] c (mail_rises h)), omega (arith, place_upto t.mail [] ((c + 1) ∷ 0 ∷ 0 ∷ [])))

    pub mail_low : (j v : ℕ) → j < to → v ≡ right t.mail j → v ≤ s.rows
    unfolding program columns tables entries
    mail_low j v l same = omega (arith, mail_upto h j (let y = mail_order in omega arith))

    pub mail_class : (j : ℕ) → from ≤ j → j < to → left t.mail j ≡ c
    unfolding range_from range_to
    mail_class j a b = begins_within t.mail [] c (mail_rises h) j (omega arith) (omega arith)
