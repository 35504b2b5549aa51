-- From what is found of the words to what is found of the bytes, and to the verdict.
use Prim.Native.Nat.{ℕ, ◌+◌, ◌*◌, ◌/◌, ◌≤◌}
use native.Mathlib.Omega.{arith}
use mathlib.Core.Path.{◌≡◌, refl, sym, ap, subst, ◌∙◌}
use mathlib.Core.List.{List, [], ◌∷◌, ◌++◌}
use mathlib.Core.Option.{some, none}
use Rattle.std.proofs.Common.{Result, Ok, Err}
use lib.ListN.{length, take}
use Rattle.model.specs.Limits.{present}
use Rattle.model.specs.declared.Sizes.{Sizes}
use Rattle.model.specs.declared.Verdict.{Verdict}
use Rattle.model.specs.declared.Verdict.TheVariants.{Safe}
use Rattle.model.specs.Verdict.{Check, ◌>>◌, number}
use Rattle.model.specs.Words.{words}
use Rattle.model.specs.Message.{sizes, parts_check, ceilings_offset, weights_offset, end_of}
use Rattle.model.specs.Rows.{program}
use Rattle.model.specs.Tables.{tables}
use Rattle.model.specs.Listing.{system_words, written}
use Rattle.model.specs.Verify.{message, message_check, check, answer, outcome, verdict_within, if_safe, lent_after, lent_after_within}
use Rattle.model.proofs.Logic.{test}
use Rattle.model.proofs.Outcome.{nothing_found, refusal_found}
use Rattle.model.proofs.Exact.Answer.{Refuses, check_refuses}
use Rattle.model.proofs.Exact.Parts.{end_past}
use Rattle.words.proofs.Words.{words_length}
use Rattle.message.specs.Whole.{WholeMessage}
use Rattle.evidence.specs.Whole.{PartsWhole}
use Rattle.values.specs.Values.{width}
use Rattle.closure_sized.proofs.Opening.{product_most, width_most}
use Rattle.system_space.specs.Space.{words_after}
use Rattle.answers.specs.Safe.{is_safe_of}
use Rattle.stages.specs.Order.{taken}
use Rattle.answers.proofs.Passing.{safe_only, else_is}

-- room for the sets of names of so many rows, also of fewer
pub fitting_words : (s : Sizes) (r n k : ℕ) → s.rows ≤ r → s.names ≤ n → r * width n ≤ k → s.rows * width s.names ≤ k
fitting_words s r n k a b h = let z = product_most s.rows (width s.names) r (width n) a (width_most _ n b) in omega arith

-- the words of the message, at the front of the array
front : (ws rest : List ℕ) → take (length ws) (ws ++ rest) ≡ ws
front [] rest = refl
front (w ∷ ws) rest = ap (λ r. w ∷ r) (front ws rest)

pub decoded : (bytes all : List ℕ) (rest : List ℕ) → all ≡ words bytes ++ rest → take (length bytes / 2) all ≡ words bytes
decoded bytes all rest e = subst (λ n. take n all ≡ words bytes) (words_length bytes) (ap (take (length (words bytes))) e ∙ front (words bytes) rest)

program_fits : (s : Sizes) → 4 + 2 * s.rows ≤ end_of s
unfolding weights_offset ceilings_offset
program_fits s = omega (arith, end_past s)

-- the lent words by what is found, and by the verdict
written_after : (c : Check) (ws : List ℕ) (s : Sizes) (lent : List ℕ) → Refuses c → words_after (outcome c) ws s lent ≡ if_safe (answer c) (written (system_words (program ws s) (tables ws s)) lent) lent
unfolding words_after outcome answer if_safe number
written_after none ws s lent r = refl
written_after (some v) ws s lent r =
    let no = test (is_safe_of v) (λ y. absurd (r (ap some (safe_only v y)))) (λ y. y) in
    sym (else_is v _ lent no)

after_check : (bytes lent : List ℕ) → words_after (outcome (check present bytes (length lent))) (words bytes) (sizes (words bytes)) lent ≡ lent_after bytes lent
unfolding lent_after_within verdict_within message
after_check bytes lent = written_after _ _ _ lent (check_refuses present bytes (length lent))

module _ (bytes : List ℕ) (s : Sizes) (ws : List ℕ) (w : WholeMessage bytes s) (e : ws ≡ words bytes) where
  pub parts_whole : PartsWhole ws s
  parts_whole =
      let z = ap length e in
      let l = w.limits in
      record {
        program = record {
          rows = l.rows.1;
          names = l.names.1;
          constructors = l.constructors;
          functions = l.functions;
          held = omega (arith, w.words_end, program_fits s);
        };
        limits = l;
        held = omega (arith, w.words_end);
      }

  whole_checked : (n : ℕ) → message_check present (taken (words bytes) (sizes (words bytes))) n ≡ check present bytes n
  unfolding check message taken ◌>>◌
  whole_checked n = rw w.passes

  pub whole_told : (n : ℕ) (r : Result Unit Verdict) → r ≡ outcome (message_check present (taken ws s) n) → r ≡ outcome (check present bytes n)
  whole_told n r h =
      h ∙ ap (λ x. outcome (message_check present (taken x s) n)) e ∙ ap (λ x. outcome (message_check present (taken (words bytes) x) n)) w.of_message ∙ ap outcome (whole_checked n)

  pub whole_written : (lent out : List ℕ) (r : Result Unit Verdict) → r ≡ outcome (message_check present (taken ws s) (length lent)) → out ≡ words_after r ws s lent → out ≡ lent_after bytes lent
  whole_written lent out r h g =
      g ∙ ap (λ x. words_after r x s lent) e ∙ ap (λ x. words_after r (words bytes) x lent) w.of_message ∙ ap (λ x. words_after x (words bytes) (sizes (words bytes)) lent) (whole_told (length lent) r h) ∙ after_check bytes lent

-- refusals 1 and 2
pub parts_refused : (bytes lent : List ℕ) (v : Verdict) (r : Result Unit Verdict) → parts_check present bytes ≡ some v → r ≡ Err v → (r ≡ outcome (check present bytes (length lent))) × (lent ≡ lent_after bytes lent)
unfolding check outcome ◌>>◌ words_after
parts_refused bytes lent v r h e =
    let told : check present bytes (length lent) ≡ some v = rw h in
    (e ∙ sym (ap outcome told), sym (ap (λ x. words_after (outcome x) (words bytes) (sizes (words bytes)) lent) told) ∙ after_check bytes lent)

-- the verdict by what is found: safe where that is nothing, and else the refusal
module _ (c : Check) (r : Result Unit Verdict) (e : r ≡ outcome c) where
  pub safe_told : r ≡ Ok tt → Safe ≡ answer c
  unfolding answer
  safe_told h = sym (ap answer (nothing_found c r e h))

  pub refusal_told : (v : Verdict) → r ≡ Err v → v ≡ answer c
  unfolding answer
  refusal_told v h = sym (ap answer (refusal_found c r v e h))
