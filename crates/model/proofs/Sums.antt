-- The counts per class and place are the sums of those per triple, those per class and constructor the sums of those per letter (specs/Sums.antt),
-- and no run of a safe message meets a bad.
use Prim.Native.Nat.{ℕ, ◌+◌, ◌≤◌, ◌<◌}
use native.Mathlib.Omega.{arith}
use mathlib.Core.Path.{◌≡◌, refl, sym, ◌∙◌, ap, subst}
use mathlib.Core.Bool.{Bool, true, false, ◌&&◌}
use mathlib.Core.Logic.{◌↔◌, ⊎_elim}
use mathlib.Core.List.{List, [], ◌∷◌}
use mathlib.Core.Option.{some}
use lib.ListN.{length, get_or}
use lib.Seq.{take-length}
use lib.Dec.{ltb, eqb}
use borrow.Author.Tests.{eqb-true, eq-eqb}
use Rattle.model.specs.Limits.{Limits}
use Rattle.model.specs.Index.{total}
use Rattle.model.specs.Words.{words}
use Rattle.model.specs.Message.{sizes}
use Rattle.model.specs.Rows.{Program, size, tag, num}
use Rattle.model.specs.Values.{Processes}
use Rattle.model.specs.Run.{run}
use Rattle.model.specs.Tables.{Tables, State, state, state_at, same_state, state_index_of}
use Rattle.model.specs.Letters.{head_count, row_head_of, Letter, one_if, return_of, state_in, processes_at, messages_of}
use Rattle.model.specs.Bads.{letter_arity_of, Subject, at_head, of_letters, of_letter}
use Rattle.model.specs.Counters.{counter_count, Counted, state_of, letter_of, counter_of, stands_in, is_counter, counts}
use Rattle.model.specs.Markings.{Marking, count_in, sum_in}
use Rattle.model.specs.Wanted.{ListedState}
use Rattle.model.specs.Met.{AllMet}
use Rattle.model.specs.Verify.{Message, message}
use Rattle.model.specs.Demands.{StatesListed, EqualCounts, Sound}
use Rattle.model.specs.Sums.{processes_in, counted_in, over_returns, over_letters, Sums, CountsAreSums, NoRunMeetsABad}
use Rattle.model.proofs.Logic.{test, true_false}
use Rattle.model.proofs.Reader.{by_option}
use Rattle.model.proofs.Index.{total_same, total_none, total_plus, total_swap, total_one}
use Rattle.model.proofs.Rows.{tag_inside}
use Rattle.model.proofs.Exact.Tests.{ltb_iff, eqb_iff, and_iff}
use Rattle.model.proofs.Exact.Members.{same_state_iff}
use Rattle.model.proofs.Numbering.States.{Ascending, index_below, state_at_index, index_state_at, listed_has}
use Rattle.model.proofs.Numbering.Counters.{state_counter, state_numbered, counter_below, row_head_low}
use Rattle.model.proofs.LetterSums.{heads_same, MailsProper, messages_sum, where_passes, standing_sum, letters_sum, good_proper}
use Rattle.model.proofs.Stepped.{classed}
use Rattle.model.proofs.Invariant.{classes_of, AllGood}
use Rattle.model.proofs.Bounded.Exact.{message_built}
use Rattle.model.proofs.Runs.{run_good, all_runs_followed}
use Rattle.model.proofs.Demands.{safe_exactly, rows_whole, past_the_end}

-- The station: each process counts under one third number

-- at another third number, and at its own
elsewhere : (c' r' b' c r b : ℕ) → (b ≡ b' → ⊥) → one_if (same_state (state c' r' b') (state c r b)) ≡ 0
unfolding one_if
elsewhere c' r' b' c r b n =
    test (same_state (state c' r' b') (state c r b))
    (λ e. absurd (n (sym (ap (λ s. s.return) ((same_state_iff (state c' r' b') (state c r b)).0 e)))))
    (λ e. rw (e, one_if))

here : (c' r' b c r : ℕ) → one_if (same_state (state c' r' b) (state c r b)) ≡ one_if (eqb c' c && eqb r' r)
unfolding same_state
here c' r' b c r = rw (eq-eqb b b refl) (ap one_if (spelled (eqb c' c) (eqb r' r)))
  where
    spelled : (x y : Bool) → (x && (y && true)) ≡ (x && y)
    spelled true true = refl
    spelled true false = refl
    spelled false y = refl

-- every process returns to a row or to R
abbrev ReturnsLow : Program → Processes → Type 0
ReturnsLow p [] = Unit {0}
ReturnsLow p (q ∷ qs) = (return_of p q.frames ≤ size p) × ReturnsLow p qs

station_sum : (p : Program) (qs : Processes) → ReturnsLow p qs → (c r : ℕ) → processes_in qs c r ≡ over_returns p (λ b. processes_at p qs (state c r b))
unfolding processes_in processes_at over_returns
station_sum p [] low c r = sym (total_none 0 (size p + 1) (λ b. 0) (λ k lo hi. refl))
station_sum p (q ∷ qs) low c r =
    let b' : ℕ = return_of p q.frames in
    let l = low.0 in
    let a = total_plus 0 (size p + 1) (λ b. one_if (same_state (state_in p q) (state c r b))) (λ b. processes_at p qs (state c r b)) in
    let d = total_one 0 (size p + 1) b' (λ b. one_if (same_state (state_in p q) (state c r b))) (omega arith) (omega arith) (λ b n. elsewhere q.class q.location b' c r b n) in
    let e = here q.class q.location b' c r in
    let f = station_sum p qs low.1 c r in
    omega arith

-- The counters: each counter of a state belongs to one third number

module _ (p : Program) (t : Tables) (ascending : Ascending t) (low : (i : ℕ) → i < t.states.size → (state_at t i).return ≤ size p) (m : Marking) where
  abbrev n : ℕ
  n = counter_count p t

  -- x is the counter of the state with number x, and of no other
  counter_state : (s : State) (x : ℕ) → (is_counter (counter_of p t (state_of s)) x ≡ true) ↔ ((x < t.states.size) × (state_at t x ≡ s))
  unfolding is_counter
  counter_state s x = (
    λ h. by_option (counter_of p t (state_of s)) (λ e. true_false (rw e at h) refl)
        (λ y e.
        let (has, is) = state_numbered p t s y e in
        let z : x ≡ y = eqb-true x y (rw e at h) in
        let w : x ≡ state_index_of t s = z ∙ sym is in
        let b = index_below t s has in
        (omega arith, ap (state_at t) w ∙ state_at_index t s has)),
    λ h.
        let listed : ListedState t s = record { at = x; below = h.0; here = h.1 } in
        let w : x ≡ state_index_of t s = sym (index_state_at t x ascending h.0) ∙ ap (state_index_of t) h.1 in
        rw (state_counter p t s (listed_has t s listed)) (eq-eqb x (state_index_of t s) w),
  )

  -- a counter gives its state's place what it gives the third number of that state
  place_sum : (c r x : ℕ) → total 0 (size p + 1) (λ b. where_passes (is_counter (counter_of p t (state_of (state c r b))) x) (m x)) ≡ where_passes (counts p t (at_head c r) x) (m x)
  unfolding counts stands_in
  place_sum c r x =
      let f : ℕ → ℕ = λ b. where_passes (is_counter (counter_of p t (state_of (state c r b))) x) (m x) in
      let stands : (b : ℕ) → is_counter (counter_of p t (state_of (state c r b))) x ≡ true → counts p t (at_head c r) x ≡ true =
      λ b e. let (l, s) = (counter_state (state c r b) x).0 e in
      stands_iff.1 (l, (ap (λ z. z.class) s, ap (λ z. z.location) s)) in
      test (counts p t (at_head c r) x)
      (λ e. let (l, (u, v)) = stands_iff.0 e in
      let b' : ℕ = (state_at t x).return in
      let own : is_counter (counter_of p t (state_of (state c r b'))) x ≡ true = (counter_state (state c r b') x).1 (l, λ i. record { class = u i; location = v i; return = b' }) in
      let small = low x l in
      rw e
      (total_one 0 (size p + 1) b' f (omega arith) (omega arith)
      (λ b z. test (is_counter (counter_of p t (state_of (state c r b))) x)
      (λ w. absurd (z (sym (ap (λ y. y.return) ((counter_state (state c r b) x).0 w).1))))
      (λ w. rw w)) ∙ rw own))
      (λ e. rw e
      (total_none 0 (size p + 1) f
      (λ b lo hi. test (is_counter (counter_of p t (state_of (state c r b))) x) (λ w. true_false (stands b w) e) (λ w. rw w))))
    where
      stands_iff : (counts p t (at_head c r) x ≡ true) ↔ ((x < t.states.size) × (((state_at t x).class ≡ c) × ((state_at t x).location ≡ r)))
      stands_iff =
          and_iff (ltb x t.states.size) _ (ltb_iff x t.states.size)
          (and_iff (eqb (state_at t x).class c) (eqb (state_at t x).location r) (eqb_iff (state_at t x).class c) (eqb_iff (state_at t x).location r))

  module _ (below : (k : Counted) (y : ℕ) → counter_of p t k ≡ some y → y < n) where
    counters_sum : (c r : ℕ) → sum_in p t m (at_head c r) ≡ over_returns p (λ b. count_in p t m (state_of (state c r b)))
    unfolding sum_in over_returns count_in
    counters_sum c r =
        total_same 0 n _ _ (λ x lo hi. sym (place_sum c r x)) ∙
        (total_swap 0 n 0 (size p + 1) (λ x b. where_passes (is_counter (counter_of p t (state_of (state c r b))) x) (m x)) ∙
        total_same 0 (size p + 1) _ _ (λ b lo hi. standing_sum n m (counter_of p t (state_of (state c r b))) (below (state_of (state c r b)))))

    letter_sum : (c : ℕ) (l : Letter) → sum_in p t m (of_letter c l) ≡ count_in p t m (letter_of c l)
    unfolding sum_in count_in counts
    letter_sum c l = standing_sum n m (counter_of p t (letter_of c l)) (below (letter_of c l))

    -- what an item counts in the counters is what it counts in the station, where the counts are equal
    items_alike : ((v : ℕ) → tag p v ≡ 2 → num p (v + 1) < p.constructors) → (qs : Processes) → ReturnsLow p qs → MailsProper p qs → ((s : State) → processes_at p qs s ≡ count_in p t m (state_of s)) → ((c : ℕ) (l : Letter) → messages_of p qs c l ≡ count_in p t m (letter_of c l)) → (k : Subject) → counted_in p qs k ≡ sum_in p t m k
    unfolding counted_in over_returns over_letters
    items_alike made qs lows proper processes messages (at_head c r) =
        station_sum p qs lows c r ∙
        (total_same 0 (size p + 1) _ _ (λ b lo hi. processes (state c r b)) ∙ sym (counters_sum c r))
    items_alike made qs lows proper processes messages (of_letters c k) =
        messages_sum p qs proper c k ∙ (heads_same p (letter_arity_of p k) _ _ (λ hs. messages c (k ∷ hs)) ∙ sym (letters_sum p t made m below c k))
    items_alike made qs lows proper processes messages (of_letter c l) = messages c l ∙ sym (letter_sum c l)

-- a state of tables in form returns to a row or to R
listed_low : (p : Program) (t : Tables) → ((r : ℕ) → tag p r ≡ 4 → r < size p) → StatesListed p t → (s : State) → ListedState t s → s.return ≤ size p
unfolding state_at
listed_low p t inside states s l =
    let b : ℕ = get_or t.returns l.at 0 in
    let e : b ≡ s.return = ap (λ x. x.return) l.here in
    ⊎_elim (λ (h : tag p b ≡ 4). let z = inside b h in omega arith) (λ (h : b ≡ size p). omega arith) (states.in_range l.at l.below).return

-- and so does every process of a run
good_low : (p : Program) (t : Tables) (classes : List ℕ) → ((s : State) → ListedState t s → s.return ≤ size p) → (qs : Processes) → AllGood p t classes qs → ReturnsLow p qs
good_low p t classes low [] g = tt
good_low p t classes low (q ∷ qs) g = (low (state_in p q) g.0.present, good_low p t classes low qs g.1)

module _ (most : Limits) (bytes : List ℕ) (lent : ℕ) (sound : Sound most bytes lent) where
  abbrev m : Message
  m = message bytes

  abbrev p : Program
  p = m.program

  abbrev t : Tables
  t = m.tables

  inside : (a r : ℕ) → 1 ≤ a → tag p r ≡ a → r < size p
  unfolding message
  inside a r one e = tag_inside (words bytes) (sizes (words bytes)) r (omega arith)

  low : (s : State) → ListedState t s → s.return ≤ size p
  low = listed_low p t (λ r e. inside 4 r (omega arith) e) sound.form.states

  made : (v : ℕ) → tag p v ≡ 2 → num p (v + 1) < p.constructors
  made = message_built bytes sound.program.rows_fit

  heads_low : (v : ℕ) → row_head_of p v < head_count p
  heads_low = row_head_low p made

  pub sums : (numbers : List ℕ) (counts : Marking) → EqualCounts m (run p numbers) counts → Sums m (run p numbers) counts
  sums numbers counts equal =
      let qs : Processes = run p numbers in
      let good = run_good m sound.program.rows_fit (rows_whole bytes sound.whole) (past_the_end bytes) heads_low sound.closed sound.evidence numbers in
      let lows = good_low p t (classes_of qs) low qs good in
      let proper = good_proper p t sound.program.rows_fit (rows_whole bytes sound.whole) (past_the_end bytes) made heads_low (classes_of qs) (classed p t (classes_of qs) qs good) qs good in
      let ascending = sound.form.states.ascending in
      let returns : (i : ℕ) → i < t.states.size → (state_at t i).return ≤ size p = λ i b. low (state_at t i) (record { at = i; below = b; here = refl }) in
      record {
        in_station = station_sum p qs lows;
        in_counters = counters_sum p t ascending returns counts (counter_below p t);
        letters_in_station = messages_sum p qs proper;
        letters_in_counters = letters_sum p t made counts (counter_below p t);
        alike = items_alike p t ascending returns counts (counter_below p t) made qs lows proper equal.processes equal.messages;
      }

  pub never_met : (numbers : List ℕ) (j : ℕ) → j < m.sizes.bads → AllMet (counted_in p (run p numbers)) m.bads j → ⊥
  never_met numbers j b met =
      let runs = all_runs_followed m sound.program.rows_fit (rows_whole bytes sound.whole) (past_the_end bytes) heads_low sound.closed sound.evidence in
      let together = (runs.followed numbers).throughout (length numbers) (omega arith) in
      let equal = subst (λ (is : List ℕ). EqualCounts m (run p is) together.counts) (take-length numbers) together.equal in
      let alike = (sums numbers together.counts equal).alike in
      together.no_bad j b (λ r l c k least i. let h = met r l c k least i in let e = alike k in omega arith)

pub counts_are_sums : CountsAreSums
counts_are_sums most bytes lent short safe = sums most bytes lent ((safe_exactly most bytes lent short).0 safe)

pub no_run_meets_a_bad : NoRunMeetsABad
no_run_meets_a_bad most bytes lent short safe = never_met most bytes lent ((safe_exactly most bytes lent short).0 safe)
