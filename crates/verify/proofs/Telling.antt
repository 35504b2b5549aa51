-- What is told of a message, by the verdict.
use Prim.Native.Nat.{ℕ, ◌+◌, ◌*◌, ◌≤◌, ◌<◌}
use native.Mathlib.Nat.{zero-add}
use native.Mathlib.Omega.{arith}
use mathlib.Core.Path.{◌≡◌, refl, sym, ◌∙◌, ap}
use mathlib.Core.List.{List, [], ◌∷◌, ◌++◌, append-nil}
use lib.ListN.{length, get_or, take, replicate, length-append, length-take, length-replicate}
use lib.Seq.{length-take-le}
use lib.Dec.{eqb}
use borrow.Author.Tests.{eq-eqb, ne_eqb}
use Rattle.input.specs.Counts.{IsPrefixLen}
use Rattle.model.specs.declared.Verdict.{Verdict}
use Rattle.model.specs.declared.Verdict.TheVariants.{Safe}
use Rattle.model.specs.Verdict.{number, place}
use Rattle.model.specs.Listing.{listing, system_words, written}
use Rattle.model.specs.Limits.{present}
use Rattle.model.specs.Verify.{message, verdict, if_safe, lent_after, lent_after_within}
use Rattle.model.proofs.Logic.{chosen_false}
use Rattle.model.proofs.Exact.Answer.{verdict_safe}
use Rattle.model.proofs.Exact.Sound.{check_none}
use Rattle.model.specs.Rules.{rules}
use Rattle.model.proofs.Listed.{lines, length_written, length_system}
use Rattle.model.proofs.Demands.{safe_number}
use Rattle.answers.specs.Safe.{is_safe_of}
use Rattle.answers.proofs.Passing.{safe_only}
use Rattle.text.specs.Text.{put_at, line}
use Rattle.text.proofs.Putting.{put_length}
use Rattle.text.proofs.Digits.{line_most}
use Rattle.report.specs.System.{system_text}
use Rattle.report.proofs.Rows.{Put, put_then, system_most}
use Rattle.verify.specs.Told.{lent_words, most_text, told}

-- what another verdict gives
number_refused : {A : Type 0} (v : Verdict) (a b : A) → (number v ≡ 0 → ⊥) → if_safe v a b ≡ b
unfolding if_safe
number_refused v a b h = chosen_false (eqb (number v) 0) a b (ne_eqb (number v) 0 h)

-- after safe the lent words have a system in them, whole
module _ (bytes lent : List ℕ) (safe : verdict bytes (length lent) ≡ Safe) where
  room_for_system : length (system_words (message bytes).program (message bytes).tables) ≤ length lent
  room_for_system = ((check_none present bytes (length lent)).0 ((verdict_safe present bytes (length lent)).0 safe)).1.1

  words_written : lent_after bytes lent ≡ written (system_words (message bytes).program (message bytes).tables) lent
  unfolding lent_after_within if_safe number
  words_written = rw safe

  pub words_long : length (lent_after bytes lent) ≡ length lent
  words_long = ap length words_written ∙ length_written (system_words (message bytes).program (message bytes).tables) lent room_for_system

  pub rows_inside : 4 + 2 * get_or (lent_after bytes lent) 3 0 ≤ length lent
  unfolding written system_words listing
  rows_inside =
      let e : get_or (lent_after bytes lent) 3 0 ≡ length (lines (rules (message bytes).program (message bytes).tables)) = ap (λ ws. get_or ws 3 0) words_written in
      let z = length_system (message bytes).program (message bytes).tables in
      let y = room_for_system in
      omega arith

-- what is told, over the words that were lent
module _ (bytes lent : List ℕ) (blank : lent ≡ replicate lent_words 0) where
  pub lent_long : length lent ≡ lent_words
  lent_long = ap length blank ∙ length-replicate {A = ℕ} lent_words 0

  abbrev v : Verdict
  v = verdict bytes (length lent)

  told_over : told bytes ≡ line (number v) (place v) ++ if_safe v (system_text (lent_after bytes lent)) []
  unfolding told
  told_over = rw (lent_long, blank)

  -- what the text is, and how long
  abbrev pub Told : ℕ → List ℕ → List ℕ → Type 0
  Told r out₀ out = (out ≡ put_at 0 (told bytes) out₀) × ((r ≡ length (told bytes)) × IsPrefixLen r out)

  counted : (r : ℕ) (out₀ out : List ℕ) → out ≡ put_at 0 (told bytes) out₀ → r ≡ length (told bytes) → r ≤ length out₀ → Told r out₀ out
  counted r out₀ out e f l =
      let z : length out ≡ length out₀ = ap length e ∙ put_length 0 (told bytes) out₀ in
      (e, (f, (omega arith, sym (length-take-le r out (omega arith)))))

  module _ (answer : List ℕ) (says : answer ≡ number v ∷ place v ∷ []) where
    is_number : get_or answer 0 0 ≡ number v
    is_number = ap (λ a. get_or a 0 0) says

    is_place : get_or answer 1 0 ≡ place v
    is_place = ap (λ a. get_or a 1 0) says

    pub tell_refused : (at : ℕ) (out₀ out : List ℕ) → (get_or answer 0 0 ≡ 0 → ⊥) → Put 0 (line (get_or answer 0 0) (get_or answer 1 0)) at out₀ out → most_text ≤ length out₀ → Told at out₀ out
    tell_refused at out₀ out refused p room =
        let e : told bytes ≡ line (get_or answer 0 0) (get_or answer 1 0) =
        told_over ∙ (rw (number_refused v (system_text (lent_after bytes lent)) [] (λ z. refused (is_number ∙ z)), ← is_number, ← is_place) (append-nil (line (get_or answer 0 0) (get_or answer 1 0)))) in
        counted at out₀ out (p.0 ∙ rw e) (p.1 ∙ rw (zero-add, e)) (let z = line_most (get_or answer 0 0) (get_or answer 1 0) in let y = p.1 in omega arith)

    module _ (safe : get_or answer 0 0 ≡ 0) (ws : List ℕ) (after : ws ≡ lent_after bytes lent) where
      said_safe : v ≡ Safe
      said_safe = safe_number v (sym is_number ∙ safe)

      pub system_inside : 4 + 2 * get_or ws 3 0 ≤ length ws
      system_inside = let z = rows_inside bytes lent said_safe in let y = words_long bytes lent said_safe in rw after (omega arith)

      pub system_room : (at : ℕ) (out₀ out : List ℕ) → Put 0 (line (get_or answer 0 0) (get_or answer 1 0)) at out₀ out → most_text ≤ length out₀ → at + 84 + 42 * get_or ws 3 0 ≤ length out
      system_room at out₀ out p room =
          let z = line_most (get_or answer 0 0) (get_or answer 1 0) in
          let l : length out ≡ length out₀ = ap length p.0 ∙ put_length 0 (line (get_or answer 0 0) (get_or answer 1 0)) out₀ in
          let r : 4 + 2 * get_or ws 3 0 ≤ length lent = rw after (rows_inside bytes lent said_safe) in
          let w = lent_long in
          let y = p.1 in
          omega arith

      pub tell_safe : (at end : ℕ) (out₀ out₁ out₂ : List ℕ) → Put 0 (line (get_or answer 0 0) (get_or answer 1 0)) at out₀ out₁ → Put at (system_text ws) end out₁ out₂ → most_text ≤ length out₀ → Told end out₀ out₂
      unfolding if_safe number
      tell_safe at end out₀ out₁ out₂ p q room =
          let e : told bytes ≡ line (get_or answer 0 0) (get_or answer 1 0) ++ system_text ws =
          told_over ∙ (rw (← is_number, ← is_place, said_safe, ← after)) in
          let both = put_then 0 at end (line (get_or answer 0 0) (get_or answer 1 0)) (system_text ws) out₀ out₁ out₂ p q in
          counted end out₀ out₂ (both.0 ∙ rw e) (both.1 ∙ rw (zero-add, e))
          (let z = system_room at out₀ out₁ p room in
          let l : length out₁ ≡ length out₀ = ap length p.0 ∙ put_length 0 (line (get_or answer 0 0) (get_or answer 1 0)) out₀ in
          let y = system_most ws in
          let w = q.1 in
          omega arith)
