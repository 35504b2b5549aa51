-- The order of keys (specs/Keys.antt): its test is what specs/Demands.antt says, and it is strict; keys in order are
-- distinct, and each has its position.
use Prim.Native.Nat.{ℕ, zero, suc, ◌≤◌, ◌<◌}
use native.Mathlib.Decide.{dec_lt}
use native.Mathlib.Omega.{arith}
use mathlib.Core.Path.{◌≡◌, refl, sym, ◌∙◌, ap, subst}
use mathlib.Core.Bool.{true, false, ◌&&◌}
use mathlib.Core.Logic.{◌↔◌, ◌⊎◌, inl, inr, ⊎_elim}
use mathlib.Core.List.Memᴰ
use mathlib.Core.List.{List, [], ◌∷◌, Memᴰ}
use lib.ListN.{length, get_or}
use lib.Dec.{ltb, eqb}
use borrow.Author.Tests.{eqb-true, eq-eqb}
use Rattle.model.specs.Keys.{Key, begins, same_key, below, insert, ascending, position}
use Rattle.model.specs.Demands.{Below}
use Rattle.model.proofs.Logic.{true_false, test, and_left, and_right, and_intro}
use Rattle.model.proofs.Exact.Tests.{ltb_iff, eqb_iff, and_iff, or_iff}

pub below_iff : (a b : Key) → (below a b ≡ true) ↔ Below a b
unfolding below
below_iff [] [] = (λ h. true_false h refl, λ h. absurd h)
below_iff [] (y ∷ b) = (λ h. tt, λ h. refl)
below_iff (x ∷ a) [] = (λ h. true_false h refl, λ h. absurd h)
below_iff (x ∷ a) (y ∷ b) = or_iff (ltb x y) (eqb x y && below a b) (ltb_iff x y) (and_iff (eqb x y) (below a b) (eqb_iff x y) (below_iff a b))

pub below_trans : (a b c : Key) → Below a b → Below b c → Below a c
below_trans [] [] c h k = absurd h
below_trans [] (y ∷ b) [] h k = absurd k
below_trans [] (y ∷ b) (z ∷ c) h k = tt
below_trans (x ∷ a) [] c h k = absurd h
below_trans (x ∷ a) (y ∷ b) [] h k = absurd k
below_trans (x ∷ a) (y ∷ b) (z ∷ c) (inl l) (inl m) = inl (omega arith)
below_trans (x ∷ a) (y ∷ b) (z ∷ c) (inl l) (inr m) = let e = m.0 in inl (omega arith)
below_trans (x ∷ a) (y ∷ b) (z ∷ c) (inr l) (inl m) = let e = l.0 in inl (omega arith)
below_trans (x ∷ a) (y ∷ b) (z ∷ c) (inr l) (inr m) = inr (l.0 ∙ m.0, below_trans a b c l.1 m.1)

pub below_irrefl : (a : Key) → Below a a → ⊥
below_irrefl [] h = h
below_irrefl (x ∷ a) h = ⊎_elim (λ (l : x < x). omega arith) (λ l. below_irrefl a l.1) h

trichotomy : (a b : Key) → Below a b ⊎ (Below b a ⊎ (a ≡ b))
trichotomy [] [] = inr (inr refl)
trichotomy [] (y ∷ b) = inl tt
trichotomy (x ∷ a) [] = inr (inl tt)
trichotomy (x ∷ a) (y ∷ b) = elim (dec_lt x y) [
  | yes l ↦ inl (inl l)
  | no l ↦ elim (dec_lt y x) [
    | yes m ↦ inr (inl (inl m))
    | no m ↦
        let e : x ≡ y = omega arith in
        ⊎_elim (λ h. inl (inr (e, h))) (⊎_elim (λ h. inr (inl (inr (sym e, h)))) (λ h. inr (inr (ap (λ z. z ∷ a) e ∙ ap (λ z. y ∷ z) h)))) (trichotomy a b)
  ]
]

-- what stands neither below nor above is the same
unordered : (a b : Key) → below a b ≡ false → below b a ≡ false → a ≡ b
unordered a b h k =
    ⊎_elim (λ l. true_false ((below_iff a b).1 l) h) (⊎_elim (λ l. true_false ((below_iff b a).1 l) k) (λ e. e)) (trichotomy a b)

-- keys told apart

begins_refl : (a : Key) → begins a a ≡ true
unfolding begins
begins_refl [] = refl
begins_refl (x ∷ a) = and_intro (eqb x x) (begins a a) (eq-eqb x x refl) (begins_refl a)

begins_both : (a b : Key) → begins a b ≡ true → begins b a ≡ true → a ≡ b
unfolding begins
begins_both [] [] h k = refl
begins_both [] (y ∷ b) h k = true_false k refl
begins_both (x ∷ a) [] h k = true_false h refl
begins_both (x ∷ a) (y ∷ b) h k =
    let e = eqb-true x y (and_left (eqb x y) (begins a b) h) in
    let r = begins_both a b (and_right (eqb x y) (begins a b) h) (and_right (eqb y x) (begins b a) k) in
    ap (λ z. z ∷ a) e ∙ ap (λ z. y ∷ z) r

pub same_key_iff : (a b : Key) → (same_key a b ≡ true) ↔ (a ≡ b)
unfolding same_key
same_key_iff a b = (
  λ h. begins_both a b (and_left (begins a b) (begins b a) h) (and_right (begins a b) (begins b a) h),
  λ e. subst (λ z. (begins a z && begins z a) ≡ true) e (and_intro (begins a a) (begins a a) (begins_refl a) (begins_refl a)),
)

-- insertion, by where the key goes
by_insert : (P : List Key → Type 0) (k x : Key) (xs : List Key) → (Below k x → P (k ∷ x ∷ xs)) → (Below x k → P (x ∷ insert k xs)) → (k ≡ x → P (x ∷ xs)) → P (insert k (x ∷ xs))
unfolding insert
by_insert P k x xs low high equal =
    test (below k x)
    (λ e. rw (e, insert) (low ((below_iff k x).0 e)))
    (λ e. test (below x k)
    (λ f. rw (e, insert, f) (high ((below_iff x k).0 f)))
    (λ f. rw (e, insert, f) (equal (unordered k x e f))))

insert_new : (k : Key) (ks : List Key) → Memᴰ k (insert k ks)
unfolding insert
insert_new k [] = Memᴰ.head refl
insert_new k (x ∷ xs) =
    by_insert (Memᴰ k) k x xs (λ e. Memᴰ.head refl) (λ f. Memᴰ.tail (insert_new k xs)) (λ e. Memᴰ.head e)

insert_old : (k z : Key) (ks : List Key) → Memᴰ z ks → Memᴰ z (insert k ks)
insert_old k z [] h = absurd (Memᴰ.not-nil h)
insert_old k z (x ∷ xs) h =
    by_insert (Memᴰ z) k x xs (λ e. Memᴰ.tail h)
    (λ f. ⊎_elim (λ q. Memᴰ.head q) (λ q. Memᴰ.tail (insert_old k z xs q)) (Memᴰ.cases_cons h)) (λ e. h)

insert_elim : (k z : Key) (ks : List Key) → Memᴰ z (insert k ks) → (z ≡ k) ⊎ Memᴰ z ks
unfolding insert
insert_elim k z [] h = ⊎_elim (λ q. inl q) (λ q. absurd (Memᴰ.not-nil q)) (Memᴰ.cases_cons h)
insert_elim k z (x ∷ xs) h =
    by_insert (λ l. Memᴰ z l → (z ≡ k) ⊎ Memᴰ z (x ∷ xs)) k x xs (λ e m. Memᴰ.cases_cons m)
    (λ f m. ⊎_elim (λ q. inr (Memᴰ.head q)) (λ q. ⊎_elim (λ r. inl r) (λ r. inr (Memᴰ.tail r)) (insert_elim k z xs q)) (Memᴰ.cases_cons m))
    (λ e m. inr m) h

-- in order, the keys are those that were there
pub ascending_has : (k : Key) (ks : List Key) → Memᴰ k ks → Memᴰ k (ascending ks)
unfolding ascending
ascending_has k [] h = absurd (Memᴰ.not-nil h)
ascending_has k (x ∷ xs) h =
    ⊎_elim (λ q. subst (λ y. Memᴰ k (insert y (ascending xs))) q (insert_new k (ascending xs)))
    (λ q. insert_old x k (ascending xs) (ascending_has k xs q)) (Memᴰ.cases_cons h)

pub ascending_from : (k : Key) (ks : List Key) → Memᴰ k (ascending ks) → Memᴰ k ks
unfolding ascending
ascending_from k [] h = h
ascending_from k (x ∷ xs) h =
    ⊎_elim (λ q. Memᴰ.head q) (λ q. Memᴰ.tail (ascending_from k xs q)) (insert_elim x k (ascending xs) h)

-- each is below all behind it
abbrev pub BelowAll : Key → List Key → Type 0
BelowAll k xs = (z : Key) → Memᴰ z xs → Below k z

abbrev pub Ascends : List Key → Type 0
Ascends [] = Unit {0}
Ascends (x ∷ xs) = BelowAll x xs × Ascends xs

insert_ascends : (k : Key) (ks : List Key) → Ascends ks → Ascends (insert k ks)
unfolding insert
insert_ascends k [] h = (λ z m. absurd (Memᴰ.not-nil m), tt)
insert_ascends k (x ∷ xs) h =
    by_insert Ascends k x xs
    (λ e. (λ z m. ⊎_elim (λ q. subst (Below k) (sym q) e) (λ q. below_trans k x z e (h.0 z q)) (Memᴰ.cases_cons m), h))
    (λ f. (λ z m. ⊎_elim (λ q. subst (Below x) (sym q) f) (λ q. h.0 z q) (insert_elim k z xs m), insert_ascends k xs h.1))
    (λ e. h)

pub ascending_ascends : (ks : List Key) → Ascends (ascending ks)
unfolding ascending
ascending_ascends [] = tt
ascending_ascends (k ∷ ks) = insert_ascends k (ascending ks) (ascending_ascends ks)

-- keys in order that are all among others in order are no more than these
pub ascends_fewer : (xs ys : List Key) → Ascends xs → Ascends ys → ((z : Key) → Memᴰ z xs → Memᴰ z ys) → length xs ≤ length ys
ascends_fewer [] ys a b h = omega arith
ascends_fewer (x ∷ xs) [] a b h = absurd (Memᴰ.not-nil (h x (Memᴰ.head refl)))
ascends_fewer (x ∷ xs) (y ∷ ys) a b h =
    ⊎_elim
    (λ (e : x ≡ y). omega (arith, ascends_fewer xs ys a.1 b.1 (λ z m. past z (subst (λ u. Below u z) e (a.0 z m)) (h z (Memᴰ.tail m)))))
    (λ (n : Memᴰ x ys). omega (arith, ascends_fewer (x ∷ xs) ys a b.1 (λ z m. past z (above n z m) (h z m))))
    (Memᴰ.cases_cons (h x (Memᴰ.head refl)))
  where
    -- what is above y is behind it
    past : (z : Key) → Below y z → Memᴰ z (y ∷ ys) → Memᴰ z ys
    past z l m = ⊎_elim (λ e. absurd (below_irrefl y (subst (Below y) e l))) (λ n. n) (Memᴰ.cases_cons m)

    above : Memᴰ x ys → (z : Key) → Memᴰ z (x ∷ xs) → Below y z
    above n z m = ⊎_elim (λ e. subst (Below y) (sym e) (b.0 x n)) (λ k. below_trans y x z (b.0 x n) (a.0 z k)) (Memᴰ.cases_cons m)

-- the position of a key that is there leads to it
pub position_finds : (k : Key) (ks : List Key) → Memᴰ k ks → (position k ks < length ks) × (get_or ks (position k ks) [] ≡ k)
unfolding position
position_finds k [] h = absurd (Memᴰ.not-nil h)
position_finds k (x ∷ xs) h =
    test (same_key k x)
    (λ e. rw (e, position) (omega arith, sym ((same_key_iff k x).0 e)))
    (λ e.
    let m = ⊎_elim (λ q. true_false ((same_key_iff k x).1 q) e) (λ q. q) (Memᴰ.cases_cons h) in
    let r = position_finds k xs m in
    rw (e, position) (omega (arith, r.0), r.1))

-- and a position below the count is that of a key that is there
pub position_there : (k : Key) (ks : List Key) → position k ks < length ks → Memᴰ k ks
unfolding position
position_there k [] h = absurd (omega arith)
position_there k (x ∷ xs) h =
    test (same_key k x)
    (λ e. Memᴰ.head ((same_key_iff k x).0 e))
    (λ e. let l = rw (e, position) at h in Memᴰ.tail (position_there k xs (omega arith)))

pub getD_there : (ks : List Key) (i : ℕ) → i < length ks → Memᴰ (get_or ks i []) ks
getD_there [] i h = absurd (omega arith)
getD_there (k ∷ ks) zero h = Memᴰ.head refl
getD_there (k ∷ ks) (suc i) h = Memᴰ.tail (getD_there ks i (omega arith))

-- in order, what stands behind is above
pub ascends_at : (ks : List Key) (i j : ℕ) → Ascends ks → i < j → j < length ks → Below (get_or ks i []) (get_or ks j [])
ascends_at [] i j a l b = absurd (omega arith)
ascends_at (k ∷ ks) zero zero a l b = absurd (omega arith)
ascends_at (k ∷ ks) zero (suc j) a l b = a.0 (get_or ks j []) (getD_there ks j (omega arith))
ascends_at (k ∷ ks) (suc i) zero a l b = absurd (omega arith)
ascends_at (k ∷ ks) (suc i) (suc j) a l b = ascends_at ks i j a.1 (omega arith) (omega arith)

-- in order, the key at a position has that position
pub position_at : (ks : List Key) (i : ℕ) → Ascends ks → i < length ks → position (get_or ks i []) ks ≡ i
unfolding position
position_at [] i a h = absurd (omega arith)
position_at (k ∷ ks) zero a h = rw ((same_key_iff k k).1 refl, position)
position_at (k ∷ ks) (suc i) a h =
    test (same_key (get_or ks i []) k)
    (λ e. absurd (below_irrefl k (subst (Below k) ((same_key_iff (get_or ks i []) k).0 e) (a.0 (get_or ks i []) (getD_there ks i (omega arith))))))
    (λ e. rw (e, position) (ap suc (position_at ks i a.1 (omega arith))))
