-- Text put over a list: one text behind another, a byte before a text, and lengths.
use Prim.Native.Nat.{ℕ, suc, ◌+◌, ◌<◌}
use native.Mathlib.Nat.{add-zero}
use native.Mathlib.Omega.{arith}
use mathlib.Core.Path.{◌≡◌, refl, sym, ◌∙◌, ap}
use mathlib.Core.List.{List, [], ◌∷◌, ◌++◌}
use lib.ListN.{length, set, length-set, length-append}
use lib.Seq.{set_comm}
use Rattle.text.specs.Text.{put_at, line_end}

pub put_none : (at : ℕ) (list : List ℕ) → put_at at [] list ≡ list
unfolding put_at
put_none at list = refl

pub put_one : (at b : ℕ) (list : List ℕ) → set list at b ≡ put_at at (b ∷ []) list
unfolding put_at
put_one at b list = refl

pub put_length : (at : ℕ) (bytes list : List ℕ) → length (put_at at bytes list) ≡ length list
unfolding put_at
put_length at [] list = refl
put_length at (b ∷ bytes) list = put_length (at + 1) bytes (set list at b) ∙ length-set list at b

next_place : (at n : ℕ) → at + 1 + n ≡ at + suc n
next_place at n = omega arith

-- one text behind another
pub put_both : (at : ℕ) (xs ys list : List ℕ) → put_at (at + length xs) ys (put_at at xs list) ≡ put_at at (xs ++ ys) list
unfolding put_at
put_both at [] ys list = ap (λ k. put_at k ys list) (add-zero at)
put_both at (x ∷ xs) ys list =
    ap (λ k. put_at k ys (put_at (at + 1) xs (set list at x))) (sym (next_place at (length xs))) ∙ put_both (at + 1) xs ys (set list at x)

-- the same by the code's values
pub put_behind : (at next : ℕ) (xs ys out₀ out₁ out₂ : List ℕ) → out₁ ≡ put_at at xs out₀ → next ≡ at + length xs → out₂ ≡ put_at next ys out₁ → out₂ ≡ put_at at (xs ++ ys) out₀
put_behind at next xs ys out₀ out₁ out₂ e f g = g ∙ (rw (e, f) (put_both at xs ys out₀))

pub behind : (at next end : ℕ) (xs ys : List ℕ) → next ≡ at + length xs → end ≡ next + length ys → end ≡ at + length (xs ++ ys)
behind at next end xs ys e f = let z = length-append xs ys in omega arith

-- a byte before a text
set_earlier : (i at b : ℕ) (bytes list : List ℕ) → i < at → set (put_at at bytes list) i b ≡ put_at at bytes (set list i b)
unfolding put_at
set_earlier i at b [] list h = refl
set_earlier i at b (x ∷ bytes) list h =
    set_earlier i (at + 1) b bytes (set list at x) (omega arith) ∙ ap (λ l. put_at (at + 1) bytes l) (set_comm list at i x b (λ e. omega arith))

pub put_before : (at next b : ℕ) (bytes out₀ out₁ : List ℕ) → out₁ ≡ put_at next bytes out₀ → next ≡ at + 1 → set out₁ at b ≡ put_at at (b ∷ bytes) out₀
unfolding put_at
put_before at next b bytes out₀ out₁ e f = rw (e, f) (set_earlier at (at + 1) b bytes out₀ (omega arith))

-- two texts with a space between, by the code's values
pub put_spaced : (at next space end : ℕ) (xs ys out₀ out₁ out₂ out₃ : List ℕ) → (out₁ ≡ put_at at xs out₀) × (next ≡ at + length xs) → (out₂ ≡ put_at next (32 ∷ []) out₁) × (space ≡ next + 1) → (out₃ ≡ put_at space ys out₂) × (end ≡ space + length ys) → (out₃ ≡ put_at at (xs ++ (32 ∷ ys)) out₀) × (end ≡ at + length (xs ++ (32 ∷ ys)))
put_spaced at next space end xs ys out₀ out₁ out₂ out₃ f g h = (
  put_behind at next xs (32 ∷ ys) out₀ out₁ out₃ f.0 f.1 (put_behind next space (32 ∷ []) ys out₁ out₂ out₃ g.0 g.1 h.0),
  behind at next end xs (32 ∷ ys) f.1 (let z = g.1 in let y = h.1 in omega arith),
)

-- a text with the end of its line
pub put_ended : (at next end : ℕ) (xs out₀ out₁ out₂ : List ℕ) → (out₁ ≡ put_at at xs out₀) × (next ≡ at + length xs) → (out₂ ≡ put_at next line_end out₁) × (end ≡ next + 1) → (out₂ ≡ put_at at (xs ++ line_end) out₀) × (end ≡ at + length (xs ++ line_end))
unfolding line_end
put_ended at next end xs out₀ out₁ out₂ f g =
    (put_behind at next xs line_end out₀ out₁ out₂ f.0 f.1 g.0, behind at next end xs line_end f.1 g.1)
