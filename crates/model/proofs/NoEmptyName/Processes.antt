-- The invariant: every name in scope at a process's place and at its pushed calls holds something, and every value in it is full.
use Prim.Native.Nat.{ℕ, zero, suc}
use mathlib.Core.Path.{◌≡◌, subst, sym}
use mathlib.Core.List.Memᴰ
use mathlib.Core.List.{List, [], ◌∷◌, ◌++◌, Memᴰ}
use mathlib.Core.Logic.{⊎_elim}
use mathlib.Core.Option.{some, some-injective, none-ne-some}
use lib.ListN.{get_elem?, set}
use Rattle.model.specs.Rows.{Program, tag}
use Rattle.model.specs.Values.{Frame, Process}
use Rattle.model.proofs.Parse.Locations.{Location}
use Rattle.model.proofs.NoEmptyName.Held.{Covers}
use Rattle.model.proofs.NoEmptyName.Values.{Full, AllFull}

-- each element of a list
pub data Each {A : Type 0} (P : A → Type 0) : List A → Type 0 where
  no_more : Each P []
  and_then : {x : A} {xs : List A} → P x → Each P xs → Each P (x ∷ xs)

module _ {A : Type 0} {P : A → Type 0} where
  pub each_at : {xs : List A} (i : ℕ) {x : A} → Each P xs → get_elem? xs i ≡ some x → P x
  each_at i {x} no_more e = absurd (none-ne-some x e)
  each_at zero {x} (and_then {x = y} h hs) e = subst P (some-injective y x e) h
  each_at (suc i) (and_then h hs) e = each_at i hs e

  pub each_set : {xs : List A} (i : ℕ) {x : A} → Each P xs → P x → Each P (set xs i x)
  each_set i no_more k = no_more
  each_set zero (and_then h hs) k = and_then k hs
  each_set (suc i) (and_then h hs) k = and_then h (each_set i hs k)

  pub each_append : {xs ys : List A} → Each P xs → Each P ys → Each P (xs ++ ys)
  each_append no_more k = k
  each_append (and_then h hs) k = and_then h (each_append hs k)

  pub each_member : {xs : List A} {x : A} → Each P xs → Memᴰ x xs → P x
  each_member no_more m = absurd (Memᴰ.not-nil m)
  each_member {x = x} (and_then {x = y} h hs) m = ⊎_elim (λ (z : x ≡ y). subst P (sym z) h) (λ k. each_member hs k) (Memᴰ.cases_cons m)

  -- an element and the others
  pub each_without : (xs : List A) (x : A) (ys : List A) → Each P (xs ++ x ∷ ys) → P x × Each P (xs ++ ys)
  each_without [] x ys (and_then h hs) = (h, hs)
  each_without (y ∷ xs) x ys (and_then h hs) = let (a, b) = each_without xs x ys hs in (a, and_then h b)

pub record FullFrame (p : Program) (f : Frame) : Type 0 where
  pub location : Location p f.call
  pub is_call : tag p f.call ≡ 4
  pub covers : Covers p f.held f.call
  pub full : AllFull p f.held

pub record FullProcess (p : Program) (q : Process) : Type 0 where
  pub location : Location p q.location
  pub covers : Covers p q.held q.location
  pub full : AllFull p q.held
  pub frames : Each (FullFrame p) q.frames
  pub mailbox : Each (Full p) q.mailbox
