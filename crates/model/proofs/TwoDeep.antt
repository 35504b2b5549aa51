-- The promises of specs/TwoDeep.antt: the lists of letters are what document 02, (viii), says outright.
use Prim.Native.Nat.{ℕ, ◌+◌, ◌-◌, ◌≤◌, ◌<◌}
use native.Mathlib.Decide.{dec_lt}
use native.Mathlib.Omega.{arith}
use mathlib.Core.Path.{◌≡◌, refl, sym, ◌∙◌, ap, subst}
use mathlib.Core.Bool.{Bool, true, false}
use mathlib.Core.Logic.{◌↔◌}
use mathlib.Core.List.Memᴰ
use mathlib.Core.List.{List, [], ◌∷◌, map, Memᴰ}
use mathlib.Core.Option.{some}
use lib.ListN.{length, get_or}
use lib.Dec.{eqb}
use borrow.Author.Tests.{eqb-true, eq-eqb, ne_eqb}
use Rattle.model.specs.Limits.{max_depth}
use Rattle.model.specs.Index.{gather}
use Rattle.model.specs.Keys.{ascending}
use Rattle.model.specs.Rows.{Program, tag, num, arity}
use Rattle.model.specs.Heads.{head_at, sends, receives, branch_body_of, is_class_of}
use Rattle.model.specs.Letters.{head_count, row_head_of, Letter}
use Rattle.model.specs.Run.{run}
use Rattle.model.specs.Tables.{Tables, State, onward, state_index_of}
use Rattle.model.specs.Closed.{argument, subpattern, may_match, may_take}
use Rattle.model.specs.Counters.{name_heads, heads_each, choices, letters_where, letters_allowed, any_argument, letter_keys, letter_count_of, counter_count, letter_of, counter_of, letter_index}
use Rattle.model.specs.Rules.{Rule, rule, reads, puts, from_each, argument_fits, letters_read, state_rules_of}
use Rattle.model.specs.Wanted.{Member, MayMatch}
use Rattle.model.specs.Verify.{message}
use Rattle.model.specs.Demands.{Below}
use Rattle.model.specs.Refusals.{rows_passed, names_passed, scopes_passed, bads_passed, entries_passed, closed_passed, mailed_passed}
use Rattle.model.specs.TwoDeep.{LetterOf, with_heads, alone, Allows, Reads, SendRule, ReceiveRule, TwoDeep, LettersTwoDeep, MessagesAllowed}
use Rattle.model.proofs.Logic.{true_false, test}
use Rattle.model.proofs.Index.{from_all_intro, from_all_elim}
use Rattle.model.proofs.Keys.{ascending_has, ascending_from, ascends_at, below_trans, below_irrefl}
use Rattle.model.proofs.Exact.Tests.{eqb_iff, implies_iff}
use Rattle.model.proofs.Exact.MayMatch.{may_match_iff}
use Rattle.model.proofs.Numbering.Letters.{keys_ascend, key_of, key_from, key_has, has_key, key_at, index_key, letter_index_behind, letter_index_below}
use Rattle.model.proofs.Numbering.Counters.{letter_counter, letter_numbered, letter_reached, row_head_low}
use Rattle.model.proofs.Numbering.Choices.{chosen_in, chosen_gather, gather_chosen, name_has, head_of_name, built_head, letters_built, letters_plain, letters_bare, letter_from}
use Rattle.model.proofs.Numbering.Within.{within_exactly}
use Rattle.model.proofs.RuleAt.{from_each_intro}
use Rattle.model.proofs.Bounded.Shaped.{from_each_elim}
use Rattle.model.proofs.Bounded.Exact.{message_built}
use Rattle.model.proofs.Steps.Letters.{letter_allowed}
use Rattle.model.proofs.Covering.{row_for}
use Rattle.model.proofs.Invariant.{classes_of, good_at}
use Rattle.model.proofs.Stepped.{classed}
use Rattle.model.proofs.Runs.{run_good}
use Rattle.model.proofs.Demands.{safe_exactly, rows_whole, past_the_end}

module _ (p : Program) (t : Tables) (low : (v : ℕ) → row_head_of p v < head_count p) where
  -- The letters of a value, as a list and outright
  module _ (passes : ℕ → ℕ → Bool) {Passes : ℕ → ℕ → Type 0} (exactly : (i w : ℕ) → (passes i w ≡ true) ↔ Passes i w) (v : ℕ) where
    pub letter_told : (l : Letter) → Memᴰ l (letters_where p t passes v) → LetterOf p t Passes v l
    unfolding heads_each gather
    letter_told l m =
        let f = letter_from p t passes v l m in
        test (eqb (tag p v) 2)
        (λ e.
        let b = eqb-true (tag p v) 2 e in
        let (many, each) = gather_chosen (arity p (num p (v + 1)) - 0) 0 (λ i. name_heads p t (passes i) (argument p v i)) f.heads (f.built b) in
        subst (LetterOf p t Passes v) (ap (λ k. k ∷ f.heads) (sym (built_head p t v b)) ∙ f.is)
        (with_heads f.heads b (omega arith)
        (λ i l'.
        let z : 0 + i ≡ i = omega arith in
        let there = subst (λ j. Memᴰ (get_or f.heads i 0) (name_heads p t (passes j) (argument p v j))) z (each i (omega arith)) in
        let (low', (w, (member, (head, passed)))) = head_of_name p t (passes i) (argument p v i) (get_or f.heads i 0) there in
        (w, member, (head, (exactly i w).0 passed)))))
        (λ e. subst (LetterOf p t Passes v) (ap (λ hs. row_head_of p v ∷ hs) (sym (f.plain e)) ∙ f.is) (alone (λ z. true_false (eq-eqb (tag p v) 2 z) e)))

    pub letter_listed : (l : Letter) → LetterOf p t Passes v l → Memᴰ l (letters_where p t passes v)
    unfolding heads_each gather
    letter_listed l (with_heads hs b many each) =
        let n : arity p (num p (v + 1)) - 0 ≡ arity p (num p (v + 1)) = omega arith in
        rw (letters_built p t passes v b)
        (subst (λ k. Memᴰ (k ∷ hs) (map (λ gs. row_head_of p v ∷ gs) (choices (heads_each p t passes v)))) (built_head p t v b)
        (Memᴰ.map (λ gs. row_head_of p v ∷ gs) (chosen_in hs (heads_each p t passes v)
        (chosen_gather (arity p (num p (v + 1)) - 0) 0 (λ i. name_heads p t (passes i) (argument p v i)) hs (many ∙ sym n)
        (λ j l'.
        let z : 0 + j ≡ j = omega arith in
        let (w, member, (head, passed)) = each j (omega arith) in
        rw z (subst (λ h. Memᴰ h (name_heads p t (passes j) (argument p v j))) head (name_has p t (passes j) (argument p v j) w (low w) member ((exactly j w).1 passed))))))))
    letter_listed l (alone n) = rw (letters_plain p t passes v (ne_eqb (tag p v) 2 n)) (Memᴰ.head refl)

  allows_iff : (v : ℕ) (l : Letter) → Memᴰ l (letters_allowed p t v) ↔ Allows p t v l
  unfolding letters_allowed
  allows_iff v l = (
    letter_told any_argument {Passes = λ i w. Unit {0}} (λ i w. (λ h. tt, λ h. refl)) v l,
    letter_listed any_argument {Passes = λ i w. Unit {0}} (λ i w. (λ h. tt, λ h. refl)) v l,
  )

  fits_iff : (q i w : ℕ) → (argument_fits p t q i w ≡ true) ↔ (tag p q ≡ 31 → MayMatch p t (max_depth - 1) (subpattern p max_depth q i) w)
  unfolding argument_fits
  fits_iff q i w = implies_iff (eqb (tag p q) 31) _ (eqb_iff (tag p q) 31) (may_match_iff p t (max_depth - 1) (subpattern p max_depth q i) w)

  reads_iff : (q v : ℕ) (l : Letter) → Memᴰ l (letters_read p t q v) ↔ Reads p t q v l
  unfolding letters_read may_take
  reads_iff q v l = (
    λ m. test (may_match p t max_depth q v)
        (λ e. ((may_match_iff p t max_depth q v).0 e, letter_told (argument_fits p t q) (fits_iff q) v l (rw (e, letters_read) at m)))
        (λ e. absurd (Memᴰ.not-nil (rw (e, letters_read) at m))),
    λ h. rw ((may_match_iff p t max_depth q v).1 h.0, letters_read) (letter_listed (argument_fits p t q) (fits_iff q) v l h.1),
  )

  -- which letters have counters, and their order
  counted_iff : (c : ℕ) (l : Letter) → ((x : ℕ) × (counter_of p t (letter_of c l) ≡ some x)) ↔ ((v : ℕ) × (Member t.mail c v × Allows p t v l))
  counted_iff c l = (
    λ h.
        let (x, e) = h in
        let a = key_from p t (c ∷ l) (has_key p t c l (letter_numbered p t c l x e).0) in
        let same = a.same in
        let class : a.class ≡ c = cc in
        let letter : a.letter ≡ l = cc in
        (a.value, (subst (λ d. Member t.mail d a.value) class a.mailed, (allows_iff a.value l).0 (subst (λ k. Memᴰ k (letters_allowed p t a.value)) letter a.allows))),
    λ h.
        let (v, (m, a)) = h in
        (letter_index p t c l, letter_counter p t c l (key_has p t c l (key_of p t c v l m ((allows_iff v l).1 a)))),
  )

  above : (x y : ℕ) → t.states.size ≤ x → x < y → y < counter_count p t → Below (key_at p t x) (key_at p t y)
  unfolding counter_count letter_count_of
  above x y lo l hi = ascends_at (letter_keys p t) (x - t.states.size) (y - t.states.size) (keys_ascend p t) (omega arith) (omega arith)

  -- what a counter's key is
  key_of_counter : (c : ℕ) (l : Letter) (x : ℕ) → counter_of p t (letter_of c l) ≡ some x → (t.states.size ≤ x) × ((x < counter_count p t) × (key_at p t x ≡ c ∷ l))
  key_of_counter c l x e =
      let (has, is) = letter_numbered p t c l x e in
      (omega (arith, letter_index_behind p t c l), (omega (arith, letter_index_below p t c l has), ap (key_at p t) (sym is) ∙ index_key p t c l has))

  pub ordered_iff : (c : ℕ) (l : Letter) (d : ℕ) (k : Letter) (x y : ℕ) → counter_of p t (letter_of c l) ≡ some x → counter_of p t (letter_of d k) ≡ some y → Below (c ∷ l) (d ∷ k) ↔ (x < y)
  ordered_iff c l d k x y e f =
      let (lo, (hi, a)) = key_of_counter c l x e in
      let (lo', (hi', b)) = key_of_counter d k y f in (
        λ h. elim (dec_lt x y) [
          | yes z ↦ z
          | no z ↦ elim (dec_lt y x) [
            | yes w ↦ absurd (below_irrefl (c ∷ l) (below_trans (c ∷ l) (d ∷ k) (c ∷ l) h (rw (b, a) at (above y x lo' w hi))))
            | no w ↦
                let same : x ≡ y = omega arith in
                absurd (below_irrefl (c ∷ l) (subst (Below (c ∷ l)) (sym b ∙ (ap (key_at p t) (sym same) ∙ a)) h))
          ]
        ],
        λ z. rw (a, b) at (above x y lo z hi'),
      )

  -- the rules of a send and of a receive
  module _ (i : ℕ) (s : State) where
    sent_iff : (n target msg r : ℕ) → head_at p s.location ≡ sends n target msg r → (ρ : Rule) → Memᴰ ρ (state_rules_of p t i s) ↔ SendRule p t i s target msg r ρ
    unfolding state_rules_of
    sent_iff n target msg r e ρ =
        let f : ℕ → Letter → Rule = λ d l. rule i (state_index_of t (onward s r)) (puts (letter_index p t d l)) in
        let ls : List Letter = ascending (from_each t.flow msg (letters_allowed p t)) in
        let g : ℕ → List Rule = λ d. elim (is_class_of p d) [ true ↦ map (f d) ls | false ↦ [] ] in (
          λ m.
              let (d, (member, o)) = from_each_elim t.flow target g ρ (rw (e, state_rules_of) at m) in
              test (is_class_of p d)
              (λ z.
              let (l, there, same) = Memᴰ.of_map (f d) ls (rw z at o) in
              let (v, (value, allowed)) = from_each_elim t.flow msg (letters_allowed p t) l (ascending_from l (from_each t.flow msg (letters_allowed p t)) there) in
              record {
                class = d;
                value = v;
                letter = l;
                to_class = member;
                is_one = z;
                may_be = value;
                allows = (allows_iff v l).0 allowed;
                is = sym same;
              })
              (λ z. absurd (Memᴰ.not-nil (rw z at o))),
          λ h.
              let there = ascending_has h.letter _ (from_each_intro t.flow msg h.value (letters_allowed p t) h.letter h.may_be ((allows_iff h.value h.letter).1 h.allows)) in
              rw (e, state_rules_of)
              (from_each_intro t.flow target h.class g ρ h.to_class
              (rw h.is_one (subst (λ x. Memᴰ x (map (f h.class) ls)) (sym h.is) (Memᴰ.map (f h.class) there)))),
        )

    received_iff : (qs : List ℕ) → head_at p s.location ≡ receives qs → (ρ : Rule) → Memᴰ ρ (state_rules_of p t i s) ↔ ReceiveRule p t i s qs ρ
    unfolding state_rules_of
    received_iff qs e ρ =
        let c : ℕ = s.class in
        let f : ℕ → Letter → Rule = λ q l. rule i (state_index_of t (onward s (branch_body_of p q))) (reads (letter_index p t c l)) in
        let ls : ℕ → List Letter = λ q. from_each t.mail c (letters_read p t q) in
        let g : ℕ → List Rule = λ q. map (f q) (ascending (ls q)) in (
          λ m.
              let (q, listed, o) = from_all_elim qs g ρ (rw (e, state_rules_of) at m) in
              let (l, there, same) = Memᴰ.of_map (f q) (ascending (ls q)) o in
              let (v, (value, read)) = from_each_elim t.mail c (letters_read p t q) l (ascending_from l (ls q) there) in
              record {
                branch = q;
                value = v;
                letter = l;
                listed = listed;
                mailed = value;
                read = (reads_iff q v l).0 read;
                is = sym same;
              },
          λ h.
              let q = h.branch in
              let there = ascending_has h.letter (ls q) (from_each_intro t.mail c h.value (letters_read p t q) h.letter h.mailed ((reads_iff q h.value h.letter).1 h.read)) in
              rw (e, state_rules_of) (from_all_intro qs q g ρ h.listed (subst (λ x. Memᴰ x (g q)) (sym h.is) (Memᴰ.map (f q) there))),
        )

  -- a value without arguments
  one_letter : (v : ℕ) → (tag p v ≡ 2 → arity p (num p (v + 1)) ≡ 0) → letters_allowed p t v ≡ (row_head_of p v ∷ []) ∷ []
  unfolding letters_allowed
  one_letter v h = letters_bare p t any_argument v h

  pub two_deep : TwoDeep p t
  two_deep =
      record {
        counted = counted_iff;
        ordered = ordered_iff;
        numbered = λ x. (
          λ h. letter_reached p t x h.0 h.1,
          λ h. let (c, (l, e)) = h in let k = key_of_counter c l x e in (k.0, k.1.0),
        );
        sent = λ i s n target msg r e ρ. sent_iff i s n target msg r e ρ;
        received = λ i s qs e ρ. received_iff i s qs e ρ;
        within = within_exactly p t;
        without_arguments = one_letter;
      }

pub letters_two_deep : LettersTwoDeep
letters_two_deep most bytes (mailed_passed (closed_passed (entries_passed (bads_passed (scopes_passed (names_passed (rows_passed x fit) again bound) within) bads) flow mail states) closed) mailed) =
    two_deep (message bytes).program (message bytes).tables (row_head_low (message bytes).program (message_built bytes fit))

pub messages_allowed : MessagesAllowed
messages_allowed most bytes lent short safe numbers i q there v m =
    let sound = (safe_exactly most bytes lent short).0 safe in
    let p = (message bytes).program in
    let t = (message bytes).tables in
    let fit = sound.program.rows_fit in
    let w = rows_whole bytes sound.whole in
    let end = past_the_end bytes in
    let low = row_head_low p (message_built bytes fit) in
    let qs = run p numbers in
    let good = run_good (message bytes) fit w end low sound.closed sound.evidence numbers in
    let (mailed, covered) = (good_at p t (classes_of qs) qs i q good there).mailbox v m in
    (row_for (classes_of qs) v, (mailed, (allows_iff p t low (row_for (classes_of qs) v) _).0 (letter_allowed p t fit w end low (classes_of qs) (classed p t (classes_of qs) qs good) v covered)))
