-- Where a step moves the counts of the station, its rule can be used and moves the counters alike.
use Prim.Native.Nat.{ℕ, ◌+◌, ◌≤◌}
use native.Mathlib.Omega.{arith}
use mathlib.Core.Path.{◌≡◌, refl, sym, ◌∙◌, ap}
use mathlib.Core.Bool.{true}
use mathlib.Core.List.{[]}
use mathlib.Core.Logic.{◌⊎◌, inl, inr, ⊎_elim}
use mathlib.Core.Option.{some, none, some-injective, some-ne-none}
use lib.Dec.{eqb, leb}
use borrow.Author.Tests.{eq-eqb, ne_eqb, le-leb}
use Rattle.model.specs.Rows.{Program, size}
use Rattle.model.specs.Heads.{start}
use Rattle.model.specs.Values.{empty, process, Processes}
use Rattle.model.specs.Run.{starting}
use Rattle.model.specs.Letters.{one_if, return_of}
use Rattle.model.specs.Tables.{Tables, State, state_index_of}
use Rattle.model.specs.Closed.{start_state}
use Rattle.model.specs.Counters.{letter_index, Counted, state_of, letter_of, counter_of}
use Rattle.model.specs.Markings.{Marking, readable, usable, fire, initial, standing, count_in}
use Rattle.model.specs.Wanted.{ListedState}
use Rattle.model.specs.Verify.{Message}
use Rattle.model.specs.Demands.{EqualCounts}
use Rattle.model.proofs.Logic.{true_false, test, and_intro}
use Rattle.model.proofs.Reader.{by_option}
use Rattle.model.proofs.Numbering.States.{listed_has}
use Rattle.model.proofs.Numbering.Counters.{state_counter, letter_counter, counter_injective}
use Rattle.model.proofs.Counting.Station.{station_count, station_none, station_more, counted_at, same, same_refl, same_path}
use Rattle.model.proofs.Counting.Mailboxes.{process_new}
use Rattle.model.proofs.Follow.Changes.{Change, no_change, read_one, put_one, start_one, taken_by, added_by, Moves, effect_of, rule_of, Known, effect_less, effect_more, fire_at}

module _ (p : Program) (t : Tables) where
  -- counters are told apart as what they count is
  one_counter : (k k' : Counted) (x x' : ℕ) → counter_of p t k ≡ some x → counter_of p t k' ≡ some x' → one_if (eqb x' x) ≡ one_if (same k k')
  one_counter k k' x x' h h' =
      ap one_if
      (test (same k k')
      (λ e. eq-eqb x' x (some-injective x' x (sym h' ∙ (ap (counter_of p t) (sym (same_path k k' e)) ∙ h))) ∙ sym e)
      (λ e. ne_eqb x' x (λ z. true_false (ap (λ y. same y k') (counter_injective p t k k' x h (h' ∙ ap some z)) ∙ same_refl k') e) ∙ sym e))

  -- what has no counter is none of what has one
  no_counter : (k k' : Counted) (x : ℕ) → counter_of p t k ≡ some x → counter_of p t k' ≡ none → one_if (same k k') ≡ 0
  unfolding one_if
  no_counter k k' x h h' =
      test (same k k') (λ e. absurd (some-ne-none x (sym h ∙ (ap (counter_of p t) (same_path k k' e) ∙ h')))) (λ e. rw (e, one_if))

  -- the counter of what changes
  listed_counter : (s : State) → ListedState t s → counter_of p t (state_of s) ≡ some (state_index_of t s)
  listed_counter s m = state_counter p t s (listed_has t s m)

  -- the effect takes and adds what the change does
  effect_takes : (change : Change) (k : Counted) (x : ℕ) → Known p t change → counter_of p t k ≡ some x → effect_less (effect_of p t change) x ≡ taken_by change k
  unfolding effect_less taken_by
  effect_takes no_change k x n h = refl
  effect_takes (read_one c l) k x n h = one_counter (letter_of c l) k (letter_index p t c l) x (letter_counter p t c l n) h
  effect_takes (put_one c l) k x n h = refl
  effect_takes (start_one s) k x n h = refl

  effect_adds : (change : Change) (k : Counted) (x : ℕ) → Known p t change → counter_of p t k ≡ some x → effect_more (effect_of p t change) x ≡ added_by change k
  unfolding effect_more added_by
  effect_adds no_change k x n h = refl
  effect_adds (read_one c l) k x n h = refl
  effect_adds (put_one c l) k x n h = one_counter (letter_of c l) k (letter_index p t c l) x (letter_counter p t c l n) h
  effect_adds (start_one s) k x n h = one_counter (state_of s) k (state_index_of t s) x (listed_counter s n) h

  -- and nothing without a counter changes
  adds_none : (change : Change) (k : Counted) → Known p t change → counter_of p t k ≡ none → added_by change k ≡ 0
  unfolding added_by
  adds_none no_change k n h = refl
  adds_none (read_one c l) k n h = refl
  adds_none (put_one c l) k n h = no_counter (letter_of c l) k (letter_index p t c l) (letter_counter p t c l n) h
  adds_none (start_one s) k n h = no_counter (state_of s) k (state_index_of t s) (listed_counter s n) h

-- a change takes messages alone, and takes or adds
takes_no_state : (change : Change) (s : State) → taken_by change (state_of s) ≡ 0
unfolding taken_by same one_if
takes_no_state no_change s = refl
takes_no_state (read_one d l) s = refl
takes_no_state (put_one d l) s = refl
takes_no_state (start_one s') s = refl

takes_or_adds : (change : Change) (k : Counted) → (taken_by change k ≡ 0) ⊎ (added_by change k ≡ 0)
unfolding taken_by added_by
takes_or_adds no_change k = inl refl
takes_or_adds (read_one d l) k = inr refl
takes_or_adds (put_one d l) k = inl refl
takes_or_adds (start_one s) k = inl refl

-- what a step takes is there
taken_least : (p : Program) (qs qs' : Processes) (from to : State) (change : Change) (k : Counted) → Moves p qs qs' from to change → one_if (same (state_of from) k) + taken_by change k ≤ station_count p qs k
unfolding station_count same one_if
taken_least p qs qs' from to change (state_of s) v =
    let z = takes_no_state change s in
    test (same (state_of from) (state_of s))
    (λ e. let w = ap (station_count p qs) (same_path (state_of from) (state_of s) e) in
    let y = ap one_if e in omega (arith, v.is_there))
    (λ e. let y = ap one_if e in omega arith)
taken_least p qs qs' from to change (letter_of c l) v =
    let b = v.balance (letter_of c l) in
    ⊎_elim (λ (z : taken_by change (letter_of c l) ≡ 0). omega arith)
    (λ (z : added_by change (letter_of c l) ≡ 0). omega arith)
    (takes_or_adds change (letter_of c l))

-- what the effect reads is there, where all that the change takes is
readable_before : (p : Program) (t : Tables) (counts : Marking) (change : Change) → Known p t change → ((k : Counted) (x : ℕ) → counter_of p t k ≡ some x → taken_by change k ≤ counts x) → readable (effect_of p t change) counts ≡ true
unfolding readable taken_by one_if
readable_before p t counts no_change n h = refl
readable_before p t counts (read_one c l) n h =
    let x = letter_index p t c l in
    let z = ap one_if (same_refl (letter_of c l)) in
    le-leb 1 (counts x) (omega (arith, h (letter_of c l) x (letter_counter p t c l n)))
readable_before p t counts (put_one c l) n h = refl
readable_before p t counts (start_one s) n h = refl

module _ (p : Program) (t : Tables) (qs qs' : Processes) (counts : Marking) (from to : State) (change : Change)
    (equal : (k : Counted) → station_count p qs k ≡ count_in p t counts k) (v : Moves p qs qs' from to change)
    (f : ListedState t from) (g : ListedState t to) (n : Known p t change) where
  -- a counter holds what the station counts
  counter_holds : (k : Counted) (x : ℕ) → counter_of p t k ≡ some x → station_count p qs k ≡ counts x
  unfolding count_in standing
  counter_holds k x h = equal k ∙ ap (standing counts) h

  equal_after : (k : Counted) → station_count p qs' k ≡ count_in p t (fire (rule_of p t from to change) counts) k
  unfolding count_in standing
  equal_after k =
      let b = v.balance k in
      let l = taken_least p qs qs' from to change k v in
      by_option (counter_of p t k)
      (λ h. rw h
      (omega (arith, equal k ∙ ap (standing counts) h, no_counter p t (state_of to) k (state_index_of t to) (listed_counter p t to g) h, adds_none p t change k n h)))
      (λ x h. rw h
      (omega (
        arith,
        fire_at (state_index_of t from) (state_index_of t to) (effect_of p t change) counts x,
        counter_holds k x h,
        one_counter p t (state_of from) k (state_index_of t from) x (listed_counter p t from f) h,
        one_counter p t (state_of to) k (state_index_of t to) x (listed_counter p t to g) h,
        effect_takes p t change k x n h,
        effect_adds p t change k x n h,
      )))

  -- the rule can be used
  usable_before : usable (rule_of p t from to change) counts ≡ true
  unfolding usable station_count
  usable_before =
      and_intro (leb 1 (counts (state_index_of t from))) (readable (effect_of p t change) counts)
      (le-leb 1 (counts (state_index_of t from)) (omega (arith, v.is_there, counter_holds (state_of from) (state_index_of t from) (listed_counter p t from f))))
      (readable_before p t counts change n
      (λ k x h. omega (arith, taken_least p qs qs' from to change k v, counter_holds k x h)))

-- the station's counts and the counters', at all that is counted
equal_at : (m : Message) (qs : Processes) (counts : Marking) → EqualCounts m qs counts → (k : Counted) → station_count m.program qs k ≡ count_in m.program m.tables counts k
unfolding station_count
equal_at m qs counts e (state_of s) = e.processes s
equal_at m qs counts e (letter_of c l) = e.messages c l

equal_counts : (m : Message) (qs : Processes) (counts : Marking) → ((k : Counted) → station_count m.program qs k ≡ count_in m.program m.tables counts k) → EqualCounts m qs counts
unfolding station_count
equal_counts m qs counts e = record { processes = λ s. e (state_of s); messages = λ c l. e (letter_of c l) }

-- A step that moves the counts is followed by its rule
pub fire_follows : (m : Message) (qs qs' : Processes) (counts : Marking) (from to : State) (change : Change) → EqualCounts m qs counts → Moves m.program qs qs' from to change → ListedState m.tables from → ListedState m.tables to → Known m.program m.tables change → (usable (rule_of m.program m.tables from to change) counts ≡ true) × EqualCounts m qs' (fire (rule_of m.program m.tables from to change) counts)
fire_follows m qs qs' counts from to change e v f g n =
    let k = equal_at m qs counts e in (
      usable_before m.program m.tables qs qs' counts from to change k v f g n,
      equal_counts m qs' (fire (rule_of m.program m.tables from to change) counts) (equal_after m.program m.tables qs qs' counts from to change k v f g n),
    )

-- the first counts
initial_one : (p : Program) (t : Tables) (x : ℕ) → initial p t x ≡ one_if (eqb x (state_index_of t (start_state p)))
unfolding initial one_if
initial_one p t x = test (eqb x (state_index_of t (start_state p))) (λ e. rw (e, initial)) (λ e. rw (e, initial))

start_at : (p : Program) (t : Tables) (k : Counted) → ListedState t (start_state p) → station_count p (starting p) k ≡ count_in p t (initial p t) k
unfolding starting counted_at count_in standing start_state return_of
start_at p t k f =
    let s = start_state p in
    let q = process (size p) (start p) empty [] [] in
    let a = station_more p q [] k in
    let b = station_none p k in
    let c = process_new p q k refl in
    by_option (counter_of p t k)
    (λ h. rw h (omega (arith, no_counter p t (state_of s) k (state_index_of t s) (listed_counter p t s f) h)))
    (λ x h. rw h (omega (arith, initial_one p t x, one_counter p t (state_of s) k (state_index_of t s) x (listed_counter p t s f) h)))

-- the starting process alone is what the counters begin with
pub equal_start : (m : Message) → ListedState m.tables (start_state m.program) → EqualCounts m (starting m.program) (initial m.program m.tables)
equal_start m f = equal_counts m (starting m.program) (initial m.program m.tables) (λ k. start_at m.program m.tables k f)
