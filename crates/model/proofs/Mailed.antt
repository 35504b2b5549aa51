-- The promises of specs/Mailed.antt.
use Prim.Native.Nat.{ℕ, ◌+◌, ◌<◌}
use native.Mathlib.Omega.{arith}
use mathlib.Core.Path.{◌≡◌, ap, ◌∙◌, subst}
use mathlib.Core.Bool.{true}
use mathlib.Core.List.{List, [], ◌∷◌, Memᴰ}
use mathlib.Core.Option.{none}
use lib.Dec.{leb, eqb}
use borrow.Author.Tests.{eqb-true, leb-true}
use Rattle.model.specs.Limits.{Limits}
use Rattle.model.specs.Keys.{begins}
use Rattle.model.specs.Rows.{Program, num, tag}
use Rattle.model.specs.Heads.{is_function}
use Rattle.model.specs.Letters.{head, row_shape, row_head_of}
use Rattle.model.specs.Values.{closure}
use Rattle.model.specs.Run.{run}
use Rattle.model.specs.Counters.{letters_allowed, any_argument, letter_keys, counter_count, letter_of, counter_of, is_of_number, counts}
use Rattle.model.specs.Bads.{of_letters}
use Rattle.model.specs.Markings.{Marking, standing, count_in, sum_in}
use Rattle.model.specs.Verify.{message}
use Rattle.model.specs.Refusals.{Passed, rows_passed, names_passed, scopes_passed, bads_passed, entries_passed, closed_passed, mailed_passed}
use Rattle.model.specs.Mailed.{NoFunctionMailed, LetterUncounted}
use Rattle.model.proofs.Logic.{test, and_left, and_right}
use Rattle.model.proofs.Index.{total_none}
use Rattle.model.proofs.Reader.{by_option}
use Rattle.model.proofs.Covering.{row_for}
use Rattle.model.proofs.Numbering.Letters.{key_from, has_key, key_at, key_there}
use Rattle.model.proofs.Numbering.Choices.{letter_from}
use Rattle.model.proofs.Numbering.Counters.{row_head_low, letter_numbered}
use Rattle.model.proofs.LetterSums.{begins_two}
use Rattle.model.proofs.Exact.Entries.{mails_iff}
use Rattle.model.proofs.Bounded.Exact.{message_built}
use Rattle.model.proofs.Invariant.{classes_of, good_at}
use Rattle.model.proofs.Runs.{run_good}
use Rattle.model.proofs.Demands.{safe_exactly, rows_whole, past_the_end}

-- a message of a run has its row among the mail of the class, and a function's row is a function
pub no_function_mailed : NoFunctionMailed
unfolding row_for
no_function_mailed most bytes lent short safe numbers i q there f held held_there =
    let m = message bytes in
    let p = m.program in
    let t = m.tables in
    let sound = (safe_exactly most bytes lent short).0 safe in
    let fit = sound.program.rows_fit in
    let qs = run p numbers in
    let good = run_good m fit (rows_whole bytes sound.whole) (past_the_end bytes) (row_head_low p (message_built bytes fit)) sound.closed sound.evidence numbers in
    let (listed, covered) = (good_at p t (classes_of qs) qs i q good there).mailbox (closure f held) held_there in
    sound.mailed listed.at listed.below ((mails_iff p t listed.at).0 (ap (is_function p) listed.second ∙ covered.0))

-- only functions have head C
head_functional : (p : Program) → ((v : ℕ) → tag p v ≡ 2 → num p (v + 1) < p.constructors) → (v : ℕ) → row_head_of p v ≡ p.constructors → is_function p v ≡ true
unfolding row_head_of row_shape head
head_functional p built v h =
    test (is_function p v) (λ f. f)
    (λ f. test (eqb (tag p v) 2)
    (λ e. absurd (omega (arith, built v (eqb-true (tag p v) 2 e), rw (e, row_shape) at h)))
    (λ e. absurd (omega (arith, rw (e, f, row_shape) at h))))

-- the key of letter C would be that of a function in the mail
no_key : (most : Limits) (bytes : List ℕ) → Passed most bytes 9 → (c : ℕ) (hs : List ℕ) → Memᴰ (c ∷ (message bytes).program.constructors ∷ hs) (letter_keys (message bytes).program (message bytes).tables) → ⊥
unfolding letters_allowed
no_key most bytes (mailed_passed (closed_passed (entries_passed (bads_passed (scopes_passed (names_passed (rows_passed x fit) again bound) within) bads) flow mail states) closed) mailed) c hs there =
    let m = message bytes in
    let p = m.program in
    let t = m.tables in
    let a = key_from p t (c ∷ p.constructors ∷ hs) there in
    let l = letter_from p t any_argument a.value a.letter a.allows in
    let n = a.mailed in
    let letter = l.is in
    let key = a.same in
    let head : row_head_of p a.value ≡ p.constructors = cc in
    mailed n.at n.below ((mails_iff p t n.at).0 (ap (is_function p) n.second ∙ head_functional p (message_built bytes fit) a.value head))

no_letter : (most : Limits) (bytes : List ℕ) → Passed most bytes 9 → (c : ℕ) (hs : List ℕ) → counter_of (message bytes).program (message bytes).tables (letter_of c ((message bytes).program.constructors ∷ hs)) ≡ none
no_letter most bytes passed c hs =
    let p = (message bytes).program in
    let t = (message bytes).tables in
    by_option (counter_of p t (letter_of c (p.constructors ∷ hs)))
    (λ e. e)
    (λ k e. absurd (no_key most bytes passed c hs (has_key p t c (p.constructors ∷ hs) (letter_numbered p t c (p.constructors ∷ hs) k e).0)))

no_item : (most : Limits) (bytes : List ℕ) → Passed most bytes 9 → (c : ℕ) (counts : Marking) → sum_in (message bytes).program (message bytes).tables counts (of_letters c (message bytes).program.constructors) ≡ 0
unfolding sum_in counts is_of_number
no_item most bytes passed c m =
    let p = (message bytes).program in
    let t = (message bytes).tables in
    let k : ℕ = p.constructors in
    total_none 0 (counter_count p t) _
    (λ x lo hi. test (counts p t (of_letters c k) x)
    (λ e.
    let behind = leb t.states.size x in
    let begun = begins (c ∷ k ∷ []) (key_at p t x) in
    let (hs, key) = (begins_two c k (key_at p t x)).0 (and_right behind begun e) in
    absurd (no_key most bytes passed c hs (subst (λ z. Memᴰ z (letter_keys p t)) key (key_there p t x (leb-true t.states.size x (and_left behind begun e)) hi))))
    (λ e. rw e))

pub letter_uncounted : LetterUncounted
unfolding count_in standing
letter_uncounted most bytes passed c =
    record {
      letters = λ hs. let e = no_letter most bytes passed c hs in record { no_counter = e; stands_at_0 = λ counts. rw (e, standing) };
      item = no_item most bytes passed c;
    }
