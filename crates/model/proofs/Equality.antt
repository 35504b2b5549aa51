-- The promises of specs/Equality.antt.
use Prim.Native.Nat.{ℕ, ◌<◌}
use mathlib.Core.Path.{◌≡◌, refl, sym, ◌∙◌, ap}
use mathlib.Core.Bool.{true, false}
use mathlib.Core.List.{List, ◌∷◌}
use lib.Dec.{eqb}
use borrow.Author.Tests.{eq-eqb}
use Rattle.model.specs.Rows.{Program, size, tag}
use Rattle.model.specs.Values.{Value, closure, built, address, Bindings, empty, bind, equal, equal_each, Process}
use Rattle.model.specs.Letters.{head, head_count, row_head_of, value_shape, value_head, heads_of, argument_heads, value_letter}
use Rattle.model.specs.Patterns.{Equal, one_process, one_constructor, EqualEach, no_arguments, one_argument}
use Rattle.model.specs.Run.{run}
use Rattle.model.specs.Tables.{Tables}
use Rattle.model.specs.Wanted.{Closed, by_case, by_receive}
use Rattle.model.specs.Verify.{message}
use Rattle.model.specs.Equality.{HoldsFunction, is_one, inside, SomeFunction, this_one, a_later, EqualityLaws, MatchesMay, AllMatchesMay}
use Rattle.model.proofs.Logic.{test, true_false, and_intro}
use Rattle.model.proofs.Transitions.Equality.{equal_has, equal_gives}
use Rattle.model.proofs.Transitions.Patterns.{match_exactly}
use Rattle.model.proofs.Covering.{row_for}
use Rattle.model.proofs.Lookups.{held_value}
use Rattle.model.proofs.Numbering.Counters.{row_head_low}
use Rattle.model.proofs.Bounded.Exact.{message_built}
use Rattle.model.proofs.Parse.Reached.{RowsFit}
use Rattle.model.proofs.Parse.Lengths.{ColumnsWhole}
use Rattle.model.proofs.Parse.Branches.{case_branches, receive_branches}
use Rattle.model.proofs.Invariant.{Good, classes_of, good_at}
use Rattle.model.proofs.Steps.Letters.{Classes}
use Rattle.model.proofs.Steps.Branch.{branch_may, branch_reads}
use Rattle.model.proofs.Stepped.{classed}
use Rattle.model.proofs.Runs.{run_good}
use Rattle.model.proofs.Demands.{safe_exactly, rows_whole, past_the_end}

equal_shapes : {v w : Value} → Equal v w → value_shape v ≡ value_shape w
unfolding value_shape
equal_shapes one_process = refl
equal_shapes (one_constructor x) = refl

equal_heads : (p : Program) {vs ws : Bindings} → EqualEach vs ws → heads_of p vs ≡ heads_of p ws
unfolding heads_of value_head
equal_heads p no_arguments = refl
equal_heads p (one_argument x xs) = let e = ap (head p) (equal_shapes x) in let f = equal_heads p xs in cc

equal_letters : (p : Program) {v w : Value} → Equal v w → value_letter p v ≡ value_letter p w
unfolding value_letter value_head value_shape argument_heads head
equal_letters p one_process = refl
equal_letters p (one_constructor {k = k} x) = ap (λ hs. k ∷ hs) (equal_heads p x)

mutual
  turned : {v w : Value} → Equal v w → Equal w v
  turned one_process = one_process
  turned (one_constructor x) = one_constructor (each_turned x)

  each_turned : {vs ws : Bindings} → EqualEach vs ws → EqualEach ws vs
  each_turned no_arguments = no_arguments
  each_turned (one_argument x xs) = one_argument (turned x) (each_turned xs)

symmetric : (v w : Value) → equal v w ≡ equal w v
symmetric v w =
    test (equal v w) (λ a. a ∙ sym (equal_gives (turned (equal_has v w a))))
    (λ a. test (equal w v) (λ b. true_false (equal_gives (turned (equal_has w v b))) a) (λ b. a ∙ sym b))

mutual
  never : {v w : Value} → HoldsFunction v → Equal v w → ⊥
  never {w = w} (is_one {f = f} {held = held}) e = elim e [ ]
  never (inside s) (one_constructor x) = never_each s x

  never_each : {vs ws : Bindings} → SomeFunction vs → EqualEach vs ws → ⊥
  never_each (this_one h) (one_argument x xs) = never h x
  never_each (a_later s) (one_argument x xs) = never_each s xs

functions : (v w : Value) → HoldsFunction v → equal v w ≡ false
functions v w h = test (equal v w) (λ a. absurd (never h (equal_has v w a))) (λ a. a)

mutual
  unfolding equal equal_each

  itself : (v : Value) → (HoldsFunction v → ⊥) → equal v v ≡ true
  itself (closure f held) n = absurd (n is_one)
  itself (built r k vs) n = and_intro (eqb k k) (equal_each vs vs) (eq-eqb k k refl) (each_itself vs (λ s. n (inside s)))
  itself (address i) n = eq-eqb i i refl

  each_itself : (vs : Bindings) → (SomeFunction vs → ⊥) → equal_each vs vs ≡ true
  each_itself empty n = refl
  each_itself (bind m v vs) n =
      and_intro (equal v v) (equal_each vs vs) (itself v (λ h. n (this_one h))) (each_itself vs (λ s. n (a_later s)))

pub equality_laws : EqualityLaws
equality_laws =
    record {
      letters = λ p v w h. equal_letters p (equal_has v w h);
      symmetric = symmetric;
      functions = functions;
      itself = λ v. (λ h x. true_false h (functions v v x), itself v);
    }

-- a process that the tables cover
good_matches : (p : Program) (t : Tables) → RowsFit p → ColumnsWhole p → tag p (size p) ≡ 0 → ((v : ℕ) → row_head_of p v < head_count p) → Closed p t → (classes : List ℕ) → Classes p classes → (q : Process) → Good p t classes q → MatchesMay p t q
good_matches p t fit w past_end low closed classes cs q g =
    record {
      at_case = λ n b bs v held' h listed k m.
          let (value, covered) = held_value p t closed classes g.held k in
          let may = branch_may p t fit w closed classes cs q g bs (case_branches g.location h) b listed v covered held' ((match_exactly p q.held b v).gives held' m) in
          (row_for classes v, by_case n bs b (row_for classes v) h listed value may, branch_reads p t fit w closed classes cs q g bs (case_branches g.location h) b listed v covered held' ((match_exactly p q.held b v).gives held' m) past_end low);
      at_receive = λ b bs v held' h listed there m.
          let (mailed, covered) = g.mailbox v there in
          let may = branch_may p t fit w closed classes cs q g bs (receive_branches g.location h) b listed v covered held' ((match_exactly p q.held b v).gives held' m) in
          (row_for classes v, by_receive bs b (row_for classes v) h listed mailed may, branch_reads p t fit w closed classes cs q g bs (receive_branches g.location h) b listed v covered held' ((match_exactly p q.held b v).gives held' m) past_end low);
    }

pub all_matches_may : AllMatchesMay
all_matches_may most bytes lent short safe numbers i q there =
    let m = message bytes in
    let p = m.program in
    let t = m.tables in
    let sound = (safe_exactly most bytes lent short).0 safe in
    let fit = sound.program.rows_fit in
    let w = rows_whole bytes sound.whole in
    let end = past_the_end bytes in
    let qs = run p numbers in
    let good = run_good m fit w end (row_head_low p (message_built bytes fit)) sound.closed sound.evidence numbers in
    good_matches p t fit w end (row_head_low p (message_built bytes fit)) sound.closed (classes_of qs) (classed p t (classes_of qs) qs good) q (good_at p t (classes_of qs) qs i q good there)
