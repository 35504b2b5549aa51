-- A list's entries put into sets one after the other.
use Prim.Native.Nat.{ℕ, ◌+◌, ◌*◌, ◌≤◌, ◌<◌}
use native.Mathlib.Decide.{ℕ_discrete}
use native.Mathlib.Omega.{arith}
use mathlib.Core.Path.{◌≡◌, refl, sym, ◌∙◌, ap, ap₂}
use mathlib.Core.Bool.{true, ◌&&◌}
use mathlib.Core.List.{List}
use mathlib.Core.Logic.{◌⊎◌, ⊎_elim}
use lib.Dec.{eqb}
use lib.ListN.{length}
use borrow.Author.Tests.{eqb-true}
use Rattle.model.specs.declared.Sizes.{Sizes}
use Rattle.model.specs.Words.{Columns, left, right, columns}
use Rattle.model.specs.Rows.{program}
use Rattle.model.specs.Tables.{tables, entries, has}
use Rattle.model.proofs.Logic.{true_false, and_left, and_right, or_cases, both}
use Rattle.model.proofs.Exact.Members.{has_iff}
use Rattle.bits.specs.Bits.{member, Row, Put}
use Rattle.bits.proofs.Rows.{put_here, put_kept}
use Rattle.lists.specs.declared.Span.{Span}
use Rattle.lists.specs.Lists.{flow_span, mail_span, listed}
use Rattle.lists.specs.Ready.{Ready}
use Rattle.lists.proofs.Facts.{mail_form, flow_listed, mail_listed}
use Rattle.values.proofs.Names.{flow_name, flow_upto, mail_upto, mail_set_below, mail_set_once}
use Rattle.values.specs.Values.{width, mail_set_of, Empty, Room, Values, FlowSets, MailSets}

-- every value has its bit
pub width_above : (r v : ℕ) → v ≤ r → v < 64 * width r
unfolding width
width_above r v h = omega arith

-- the first i entries of the list, and nothing else, are in the sets; f gives the set of a first number
pub record Gathered (c : Columns) (f : ℕ → ℕ) (w : ℕ) (t : List ℕ) (i : ℕ) : Type 0 where
  pub small : (k : ℕ) → k < i → right c k < 64 * w
  pub all_in : (k : ℕ) → k < i → member t w (f (left c k)) (right c k) ≡ true
  pub only : (n v : ℕ) → v < 64 * w → member t w n v ≡ true → (k : ℕ) × (k < i) × (f (left c k) ≡ n) × (right c k ≡ v)

module _ (c : Columns) (f : ℕ → ℕ) (w : ℕ) where
  pub gathered_start : (t : List ℕ) → Empty w t → Gathered c f w t 0
  gathered_start t e = record { small = λ k l. absurd (omega arith); all_in = λ k l. absurd (omega arith); only = λ n v h z. true_false z (e.none n v) }

  pub gathered_next : (u t : List ℕ) (i a n v : ℕ) → Gathered c f w u i → Put w n v u t → a ≡ left c i → n ≡ f a → v ≡ right c i → v < 64 * w → Gathered c f w t (i + 1)
  gathered_next u t i a n v g r ea ea' ev small = let en : n ≡ f (left c i) = ea' ∙ ap f ea in record {
    small = λ k l. elim (ℕ_discrete k i) [ yes e ↦ rw (e, ← ev) small | no e ↦ g.small k (omega arith) ];
    all_in = λ k l. elim (ℕ_discrete k i) [
      | yes e ↦ rw (e, ← ev, ← en) (put_here w n v u t r small)
      | no e ↦ put_kept w n v u t r (f (left c k)) (right c k) (g.small k (omega arith)) (g.all_in k (omega arith))
    ];
    only = λ m x h z. ⊎_elim
        (λ y. let (k, l, a, b) = g.only m x h y in (k, omega arith, a, b))
        (λ y. (i, omega arith, sym en ∙ sym (eqb-true m n (and_left (eqb m n) (eqb x v) y)), sym ev ∙ sym (eqb-true x v (and_right (eqb m n) (eqb x v) y))))
        (or_cases (member u w m x) (eqb m n && eqb x v) (sym (r.members m x h) ∙ z));
  }

  pub gathered_values : (t : List ℕ) (i a n : ℕ) → i ≡ c.size → Gathered c f w t i → Row t w n → f a ≡ n → ((k : ℕ) → k < c.size → f (left c k) ≡ n → left c k ≡ a) → Values c a w n t
  gathered_values t i a n e g row same apart = record {
    row = row;
    below = λ k l. g.small k (omega arith);
    holds = λ v h. both (member t w n v) (has c a v)
        (λ z. let (k, l, x, y) = g.only n v h z in (has_iff c a v).1 (record { at = k; below = omega arith; first = apart k (omega arith) x; second = y }))
        (λ z. let m = (has_iff c a v).0 z in
        let b = m.below in
        ap₂ (member t w) (sym (ap f m.first ∙ same)) (sym m.second) ∙ g.all_in m.at (omega arith));
  }

-- sets of the same length stand in the same room
pub room_row : (w x k n : ℕ) (u t : List ℕ) → w ≡ x → Room x k u → length t ≡ length u → n < k → Row t w n
room_row w x k n u t e r same l = let z = (r.row n l).room in rw e (record { room = omega arith })

module _ {ws : List ℕ} {s : Sizes} (h : Ready ws s) where
  -- the entry of the flow list that the loop is at
  pub flow_entry : (l : Span) (w i n v : ℕ) → l ≡ flow_span s → w ≡ width s.rows → i < s.flows → n ≡ left (listed ws l) i → v ≡ right (listed ws l) i → (v < 64 * w) × (n < s.names)
  unfolding program columns tables entries
  flow_entry l w i n v el ew less en ev =
      let a : n ≡ left (tables ws s).flow i = en ∙ rw (el, flow_listed ws s) in
      let b : v ≡ right (tables ws s).flow i = ev ∙ rw (el, flow_listed ws s) in
      let x = flow_upto h i less in
      let y = flow_name h i less in
      (rw ew (width_above s.rows v (omega arith)), omega arith)

  pub flow_over : (l : Span) (w i : ℕ) (u t : List ℕ) → l ≡ flow_span s → w ≡ width s.rows → Room (width s.rows) s.names u → length t ≡ length u → Gathered (listed ws l) (λ n. n) w t i → i ≡ s.flows → FlowSets (program ws s) (tables ws s) t
  unfolding program columns tables entries
  flow_over l w i u t el ew room same g e = record {
    of_name = λ n less. gathered_values (tables ws s).flow (λ k. k) (width s.rows) t i n n e
        (rw (← ew, ← flow_listed ws s, ← el) g) (room_row (width s.rows) (width s.rows) s.names n u t refl room same less) refl (λ k b z. z);
  }

  -- and of the mail list
  pub mail_entry : (l : Span) (w i c n v : ℕ) → l ≡ mail_span s → w ≡ width s.rows → i < s.mails → c ≡ left (listed ws l) i → n ≡ mail_set_of (program ws s) c → v ≡ right (listed ws l) i → (v < 64 * w) × (n < s.names + 1)
  unfolding program columns tables entries
  mail_entry l w i c n v el ew less ec en ev =
      let a : c ≡ left (tables ws s).mail i = ec ∙ rw (el, mail_listed ws s) in
      let b : v ≡ right (tables ws s).mail i = ev ∙ rw (el, mail_listed ws s) in
      let x = mail_upto h i less in
      let y = mail_set_below h (left (tables ws s).mail i) ((mail_form h).in_range i less).0 in
      let z : n ≡ mail_set_of (program ws s) (left (tables ws s).mail i) = en ∙ ap (mail_set_of (program ws s)) a in
      (rw ew (width_above s.rows v (omega arith)), omega arith)

  pub mail_over : (l : Span) (w i : ℕ) (u t : List ℕ) → l ≡ mail_span s → w ≡ width s.rows → Room (width s.rows) (s.names + 1) u → length t ≡ length u → Gathered (listed ws l) (mail_set_of (program ws s)) w t i → i ≡ s.mails → MailSets (program ws s) (tables ws s) t
  unfolding program columns tables entries
  mail_over l w i u t el ew room same g e = record {
    of_class = λ c class. gathered_values (tables ws s).mail (mail_set_of (program ws s)) (width s.rows) t i c (mail_set_of (program ws s) c) e
        (rw (← ew, ← mail_listed ws s, ← el) g)
        (room_row (width s.rows) (width s.rows) (s.names + 1) (mail_set_of (program ws s) c) u t refl room same (mail_set_below h c class))
        refl (λ k b z. mail_set_once h (left (tables ws s).mail k) c ((mail_form h).in_range k b).0 class z);
  }
