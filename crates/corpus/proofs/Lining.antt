-- The line of a case, by the code's values.
use Rattle.std.proofs.Common.{◌≡◌, ℕ, ◌+◌, ◌≤◌, List, [], ◌∷◌, ◌++◌, length, get_or, sym, refl, ap, ◌∙◌, zero-add, arith, length-append, length-take-le}
use Rattle.input.specs.Counts.{IsPrefixLen}
use Rattle.model.specs.declared.Verdict.{Verdict}
use Rattle.model.specs.Verdict.{number, place}
use Rattle.model.specs.Verify.{verdict, lent_after, part_handed}
use Rattle.text.specs.Text.{put_at, digits, pair, line_end}
use Rattle.text.proofs.Putting.{put_length, put_spaced, put_ended}
use Rattle.text.proofs.Digits.{length_digits, pair_most}
use Rattle.corpus.specs.Digest.{empty, digest_from, words_from}
use Rattle.corpus.specs.Lines.{marks, hex, result_line, case_line}

pub length_hex : (n : ℕ) → length (hex n) ≡ 16
unfolding hex
length_hex n = length_digits 16 16 n

-- a text is put at `at`, and `here` is behind it
abbrev pub Put : ℕ → List ℕ → ℕ → List ℕ → List ℕ → Type 0
Put at xs here out₀ out = (out ≡ put_at at xs out₀) × (here ≡ at + length xs)

-- a byte is
abbrev pub Byte : ℕ → List ℕ → ℕ → List ℕ → List ℕ → Type 0
Byte at xs here out₀ out = (out ≡ put_at at xs out₀) × (here ≡ at + 1)

-- the line of a case is short
result_most : (n p a b : ℕ) → length (result_line n p a b) ≤ 76
unfolding result_line line_end
result_most n p a b =
    let x = length-append (pair n p ++ (32 ∷ (hex a ++ (32 ∷ hex b)))) (10 ∷ []) in
    let y = length-append (pair n p) (32 ∷ (hex a ++ (32 ∷ hex b))) in
    let z = length-append (hex a) (32 ∷ hex b) in
    let u = pair_most n p in
    let v = length_hex a in
    let w = length_hex b in
    omega arith

module _ (out₀ out₁ out₂ out₃ out₄ out₅ out₆ : List ℕ) (n p a b e₁ e₂ e₃ e₄ e₅ e₆ : ℕ) where
  pub line_put : Put 0 (pair n p) e₁ out₀ out₁ → Byte e₁ (32 ∷ []) e₂ out₁ out₂ → Put e₂ (hex a) e₃ out₂ out₃ → Byte e₃ (32 ∷ []) e₄ out₃ out₄ → Put e₄ (hex b) e₅ out₄ out₅ → Byte e₅ line_end e₆ out₅ out₆ → (out₆ ≡ put_at 0 (result_line n p a b) out₀) × (e₆ ≡ length (result_line n p a b))
  unfolding result_line
  line_put h i j k l m =
      let both = put_ended 0 e₅ e₆ _ out₀ out₅ out₆ (put_spaced 0 e₁ e₂ e₅ _ _ out₀ out₁ out₂ out₅ h i (put_spaced e₂ e₃ e₄ e₅ _ _ out₂ out₃ out₄ out₅ j k l)) m in
      (both.0, both.1 ∙ rw zero-add)

-- a case
module _ (bytes lent after part answer : List ℕ) (n : ℕ) (filled : lent ≡ marks n) (long : length lent ≡ n) (says : answer ≡ number (verdict bytes (length lent)) ∷ place (verdict bytes (length lent)) ∷ []) (changed : after ≡ lent_after bytes lent) (handed : part ≡ part_handed bytes (length lent)) where
  case_told : case_line bytes n ≡ result_line (get_or answer 0 0) (get_or answer 1 0) (words_from empty after) (digest_from empty part)
  unfolding case_line
  case_told = rw (says, changed, handed, long, ← filled)

  -- what the line is, and how long
  abbrev pub Lined : ℕ → List ℕ → List ℕ → Type 0
  Lined r out₀ out = (out ≡ put_at 0 (case_line bytes n) out₀) × ((after ≡ lent_after bytes (marks n)) × ((r ≡ length (case_line bytes n)) × IsPrefixLen r out))

  pub case_put : (words handed-digest end : ℕ) (out₀ out : List ℕ) → words ≡ words_from empty after → handed-digest ≡ digest_from empty part → 76 ≤ length out₀ → (out ≡ put_at 0 (result_line (get_or answer 0 0) (get_or answer 1 0) words handed-digest) out₀) × (end ≡ length (result_line (get_or answer 0 0) (get_or answer 1 0) words handed-digest)) → Lined end out₀ out
  case_put words handed-digest end out₀ out e f room p =
      let told = case_told in
      let same : result_line (get_or answer 0 0) (get_or answer 1 0) words handed-digest ≡ case_line bytes n = rw (e, f) (sym told) in
      let l : length out ≡ length out₀ = ap length p.0 ∙ put_length 0 _ out₀ in
      let most = result_most (get_or answer 0 0) (get_or answer 1 0) words handed-digest in
      let ends = p.1 in (
        p.0 ∙ rw same,
        (changed ∙ rw filled, (p.1 ∙ rw same, (omega arith, sym (length-take-le end out (omega arith))))),
      )

pub hex_put : (at end n : ℕ) (out₀ out : List ℕ) → (out ≡ put_at at (digits 16 16 n) out₀) × (end ≡ at + 16) → Put at (hex n) end out₀ out
unfolding hex
hex_put at end n out₀ out p = (p.0, let z = length_digits 16 16 n in let y = p.1 in omega arith)
