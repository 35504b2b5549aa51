-- What a message that is ready has: its rows fit, its lists lie in the words and ascend.
use Prim.Native.Nat.{ℕ, ◌+◌, ◌≤◌, ◌<◌}
use native.Mathlib.Omega.{arith}
use mathlib.Core.Path.{◌≡◌, refl, sym, ◌∙◌, ap}
use mathlib.Core.Bool.{Bool, true, false, ◌&&◌}
use mathlib.Core.List.{List, []}
use mathlib.Core.Logic.{inl, inr, ⊎_elim}
use lib.ListN.{length, take, drop, length-take, length-drop}
use lib.Dec.{ltb, eqb}
use borrow.Author.Tests.{lt-ltb, le-ltb, eq-eqb, ne_eqb}
use Rattle.model.specs.declared.Sizes.{Sizes}
use Rattle.model.specs.Index.{any, first}
use Rattle.model.specs.Words.{Columns, left, right, columns}
use Rattle.model.specs.Message.{tables_offset, ceilings_offset, weights_offset, end_of}
use Rattle.model.specs.Rows.{program, is_name}
use Rattle.model.specs.Heads.{is_class_of}
use Rattle.model.specs.Tables.{Tables, tables, entries, third_column, is_value_of, has, state, state_at, same_state, state_index_of}
use Rattle.model.specs.Verify.{program_check}
use Rattle.model.specs.Demands.{Below, two_columns, PairsListed, StatesListed}
use Rattle.model.proofs.Logic.{test, and_true}
use Rattle.model.proofs.Index.{any_intro, any_elim, any_none, none_any, first_below, first_unique}
use Rattle.model.proofs.Exact.Checks.{then_none}
use Rattle.model.proofs.Exact.Parts.{end_past}
use Rattle.model.proofs.Exact.Rows.{row_none}
use Rattle.model.proofs.Exact.Entries.{entry_none}
use Rattle.model.proofs.Parse.Reached.{RowsFit}
use Rattle.model.proofs.Parse.Lengths.{ColumnsWhole}
use Rattle.program.specs.Rows.{Fitted}
use Rattle.lists.specs.declared.Span.{Span}
use Rattle.lists.specs.Lists.{key_at, Ascending, span_at, flow_span, mail_span, state_span, listed, thirds, Held, is_entry_of, entry_index}
use Rattle.lists.specs.Ready.{Ready}
use Rattle.lists.proofs.Rising.{entry_found}

-- some index passes exactly where the first that does is below the end
pub any_first : (n : ℕ) (f : ℕ → Bool) → any 0 n f ≡ ltb (first 0 n f) n
any_first n f =
    test (any 0 n f)
    (λ t. let (k, w, e) = any_elim 0 n f t in
    let l = first_below 0 n k f (omega arith) w.1 e in
    t ∙ sym (lt-ltb (first 0 n f) n (omega arith)))
    (λ t. t ∙ sym (le-ltb (first 0 n f) n (omega (arith, ends t))))
  where
    ends : any 0 n f ≡ false → n ≤ first 0 n f
    ends t =
        let e = first_unique 0 n n f (omega arith) (record {
          from = omega arith;
          upto = omega arith;
          passes = λ l. absurd (omega arith);
          before = λ j x y. any_none 0 n j f t x y;
        }) in
        omega arith

any_same : (n : ℕ) (f g : ℕ → Bool) → ((i : ℕ) → f i ≡ g i) → any 0 n f ≡ any 0 n g
any_same n f g e =
    test (any 0 n g)
    (λ t. let (k, w, u) = any_elim 0 n g t in any_intro 0 n k f w.0 w.1 (e k ∙ u) ∙ sym t)
    (λ t. none_any 0 n f (λ k x y. e k ∙ any_none 0 n k g t x y) ∙ sym t)

-- a list of pairs has the pair where its index is below the size
pub has_index : (c : Columns) (a b : ℕ) → has c a b ≡ ltb (entry_index c [] a b 0) c.size
unfolding has entry_index is_entry_of
has_index c a b = any_same c.size _ _ (λ i. ap (λ x. eqb (left c i) a && x) (sym (and_true (eqb (right c i) b)))) ∙ any_first c.size (is_entry_of c [] a b 0)

-- a list of pairs that ascends does so with 0 for the third numbers
pub pairs_ascend : (c : Columns) → ((i j : ℕ) → i < j → j < c.size → Below (two_columns c i) (two_columns c j)) → Ascending c []
unfolding key_at
pairs_ascend c rising i j l h = ⊎_elim (λ x. inl x) (λ x. ⊎_elim (λ y. inr (x.0, inl y)) (λ y. absurd y.1) x.1) (rising i j l h)

-- the third numbers, by whether there is a third column
pub no_thirds : (ws : List ℕ) (l : Span) → l.thirds ≡ 0 → thirds ws l ≡ []
unfolding thirds
no_thirds ws l e = rw (eq-eqb l.thirds 0 e, thirds)

pub some_thirds : (ws : List ℕ) (l : Span) → (l.thirds ≡ 0 → ⊥) → thirds ws l ≡ take l.size (drop l.thirds ws)
unfolding thirds
some_thirds ws l e = rw (ne_eqb l.thirds 0 e, thirds)

-- a list that lies in the words and ascends
abbrev pub Usable : List ℕ → Span → Type 0
Usable ws l = Held ws l × Ascending (listed ws l) (thirds ws l)

-- the lists as the model has them
module _ (ws : List ℕ) (s : Sizes) where
  pub flow_listed : listed ws (flow_span s) ≡ (tables ws s).flow
  unfolding listed flow_span span_at tables entries
  flow_listed = refl

  pub flow_thirds : thirds ws (flow_span s) ≡ []
  unfolding thirds flow_span span_at
  flow_thirds = refl

  pub mail_listed : listed ws (mail_span s) ≡ (tables ws s).mail
  unfolding listed mail_span span_at tables entries
  mail_listed = refl

  pub mail_thirds : thirds ws (mail_span s) ≡ []
  unfolding thirds mail_span span_at
  mail_thirds = refl

  pub states_listed : listed ws (state_span s) ≡ (tables ws s).states
  unfolding listed state_span span_at tables entries
  states_listed = refl

  pub states_thirds : thirds ws (state_span s) ≡ (tables ws s).returns
  unfolding thirds state_span span_at tables third_column
  states_thirds = rw (ne_eqb (state_span s).thirds 0 (λ z. omega arith), thirds)

  -- the columns of a list lie in the words
  span_held : (n k at : ℕ) → end_of s ≤ length ws → n + k ≤ s.flows + s.mails + s.states → at + n ≤ length ws → Held ws (span_at s n k at)
  unfolding span_at weights_offset ceilings_offset tables_offset
  span_held n k at h l m = let past = end_past s in record { left_held = omega arith; right_held = omega arith; third_held = m }

  pub pair_held : (n k : ℕ) → end_of s ≤ length ws → n + k ≤ s.flows + s.mails + s.states → Held ws (span_at s n k 0)
  unfolding weights_offset ceilings_offset
  pair_held n k h l = let past = end_past s in span_held n k 0 h l (omega arith)

  pub triple_held : end_of s ≤ length ws → Held ws (state_span s)
  unfolding state_span weights_offset ceilings_offset tables_offset
  triple_held h = let past = end_past s in span_held s.states (s.flows + s.mails) _ h (omega arith) (omega arith)

-- the index of a state, by its numbers
pub state_entry : (t : Tables) (c r b : ℕ) → entry_index t.states t.returns c r b ≡ state_index_of t (state c r b)
unfolding entry_index is_entry_of state_index_of same_state state_at
state_entry t c r b = refl

module _ {ws : List ℕ} {s : Sizes} (h : Ready ws s) where
  pub rows_fit : RowsFit (program ws s)
  unfolding program_check
  rows_fit = (row_none (program ws s)).0 ((then_none _ _).0 h.well_formed).0

  -- refusal 3 has found nothing
  pub fitted : Fitted ws s
  unfolding program_check
  fitted = record { whole = h.whole; fits = ((then_none _ _).0 h.well_formed).0 }

  pub columns_whole : ColumnsWhole (program ws s)
  unfolding program columns
  columns_whole =
      let k = h.whole.held in
      record { tags = simp (length-take, length-drop) (omega arith); numbers = simp (length-take, length-drop) (omega arith) }

  pub flow_form : PairsListed (is_name (program ws s)) (is_value_of (program ws s)) (tables ws s).flow
  flow_form = ((entry_none s (program ws s) (tables ws s)).0 h.in_form).0

  pub mail_form : PairsListed (is_class_of (program ws s)) (is_value_of (program ws s)) (tables ws s).mail
  mail_form = ((entry_none s (program ws s) (tables ws s)).0 h.in_form).1.0

  pub states_form : StatesListed (program ws s) (tables ws s)
  states_form = ((entry_none s (program ws s) (tables ws s)).0 h.in_form).1.1

  pub flow_rises : Ascending (tables ws s).flow []
  flow_rises = pairs_ascend (tables ws s).flow flow_form.ascending

  pub mail_rises : Ascending (tables ws s).mail []
  mail_rises = pairs_ascend (tables ws s).mail mail_form.ascending

  pub states_rise : Ascending (tables ws s).states (tables ws s).returns
  unfolding key_at
  states_rise = states_form.ascending

  pub flow_usable : (l : Span) → l ≡ flow_span s → Usable ws l
  unfolding flow_span
  flow_usable l e = rw e (pair_held ws s s.flows 0 h.held (omega arith), rw (flow_listed ws s, flow_thirds ws s) flow_rises)

  pub mail_usable : (l : Span) → l ≡ mail_span s → Usable ws l
  unfolding mail_span
  mail_usable l e = rw e (pair_held ws s s.mails s.flows h.held (omega arith), rw (mail_listed ws s, mail_thirds ws s) mail_rises)

  pub states_usable : (l : Span) → l ≡ state_span s → Usable ws l
  states_usable l e = rw e (triple_held ws s h.held, rw (states_listed ws s, states_thirds ws s) states_rise)

-- what a search finds, from the span that it was given
pub state_found : (ws : List ℕ) (s : Sizes) (l : Span) (c r b i : ℕ) → l ≡ state_span s → i ≡ entry_index (listed ws l) (thirds ws l) c r b → i ≡ state_index_of (tables ws s) (state c r b)
state_found ws s l c r b i e f = f ∙ rw (e, states_listed ws s, states_thirds ws s) (state_entry (tables ws s) c r b)

-- a guess that is the state
pub state_guessed : {ws : List ℕ} {s : Sizes} → Ready ws s → (l : Span) (c r b i : ℕ) → l ≡ state_span s → i < s.states → is_entry_of (listed ws l) (thirds ws l) c r b i ≡ true → i ≡ state_index_of (tables ws s) (state c r b)
unfolding tables entries columns
state_guessed {ws} {s} h l c r b i e m t =
    entry_found (tables ws s).states (tables ws s).returns c r b (states_rise h) i m (rw (e, states_listed ws s, states_thirds ws s) at t) ∙ state_entry (tables ws s) c r b

pub flow_found : (ws : List ℕ) (s : Sizes) (l : Span) (n v i : ℕ) → l ≡ flow_span s → i ≡ entry_index (listed ws l) (thirds ws l) n v 0 → ltb i s.flows ≡ has (tables ws s).flow n v
unfolding tables entries columns
flow_found ws s l n v i e f = rw f (rw (e, flow_listed ws s, flow_thirds ws s) (sym (has_index (tables ws s).flow n v)))
