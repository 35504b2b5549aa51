-- What is written, by what is read.
use Rattle.std.proofs.Common.{◌≡◌, ℕ, zero, suc, ◌+◌, ◌≤◌, List, [], ◌∷◌, ◌++◌, length, take, set, sym, ap, ◌∙◌, subst, arith, Option, None, Some, Result, Ok, Err, OnOk, IfSome, append_assoc, append-nil, length-set}
use Rattle.std.proofs.lemmas.List.{take_more_set}
use Rattle.text.specs.Text.{put_at}
use Rattle.verify.specs.Told.{most_read, told}

-- the text that was put, and what stood before it
take_put : (at : ℕ) (xs out : List ℕ) → at + length xs ≤ length out → take (at + length xs) (put_at at xs out) ≡ take at out ++ xs
unfolding put_at
take_put at [] out inside =
    let none : at + 0 ≡ at = omega arith in
    ap (λ n. take n out) none ∙ sym (append-nil (take at out))
take_put at (x ∷ xs) out inside =
    let more : at + suc (length xs) ≡ at + 1 + length xs = omega arith in
    let room : at + 1 + length xs ≤ length (set out at x) = rw (length-set out at x) (omega arith) in
    ap (λ n. take n (put_at (at + 1) xs (set out at x))) more ∙ take_put (at + 1) xs (set out at x) room ∙
    ap (λ front. front ++ xs) (take_more_set out at x (omega arith)) ∙ append_assoc (take at out) (x ∷ []) xs

pub text_put : (k : ℕ) (xs out₀ out : List ℕ) → out ≡ put_at 0 xs out₀ → k ≡ length xs → length xs ≤ length out₀ → take k out ≡ xs
text_put k xs out₀ out e l inside =
    let none : length xs ≡ 0 + length xs = omega arith in
    rw (e, l) (ap (λ n. take n (put_at 0 xs out₀)) none ∙ take_put 0 xs out₀ (omega arith))

-- the bytes written are what is told of the bytes read, the first of those that are there
pub written : {A E : Type 0} (r : Result A E) (known : Option (List ℕ)) (P : List ℕ → Type 0) (text read : List ℕ) (room : ℕ) → OnOk r (P text) → text ≡ told read → most_read ≡ room → IfSome known (λ xs. read ≡ take room xs) → OnOk r (IfSome known (λ xs. P (told (take most_read xs))))
written (Ok a) None P text read room p e l f = tt
written (Ok a) (Some xs) P text read room p e l f = subst P (e ∙ ap told (f ∙ ap (λ m. take m xs) (sym l))) p
written (Err x) known P text read room p e l f = tt
