-- Refusals 1 and 2: nothing is refused exactly where the message has the length that its sizes say, and these are within their limits.
use Prim.Native.Nat.{ℕ, ◌+◌, ◌*◌, ◌≤◌, ◌<◌}
use native.Mathlib.Decide.{dec_lt}
use native.Mathlib.Omega.{arith}
use mathlib.Core.Path.{◌≡◌, refl, sym, ◌∙◌, ap}
use mathlib.Core.Bool.{Bool, true, false, ◌&&◌}
use mathlib.Core.Logic.Iff
use mathlib.Core.Logic.{◌↔◌, ◌⊎◌, inl, inr, ⊎_elim}
use mathlib.Core.List.{List, [], ◌∷◌}
use mathlib.Core.Option.{some, none, some-ne-none, none-ne-some, some-injective}
use lib.ListN.{length, get_or, get_or-eq_default}
use lib.Dec.{leb, eqb}
use borrow.Author.Tests.{eqb-true, eq-eqb, ne_eqb, ltb-true, ltb-false}
use Rattle.model.specs.declared.Sizes.{Sizes}
use Rattle.model.specs.declared.Verdict.{Verdict}
use Rattle.model.specs.declared.Verdict.TheVariants.{Length, Size}
use Rattle.model.specs.Limits.{Limits, present}
use Rattle.model.specs.Words.{words}
use Rattle.model.specs.Verdict.{Check, ◌>>◌}
use Rattle.model.specs.Message.{max_words, Limited, sizes, bads_offset, tables_offset, ceilings_offset, weights_offset, end_of, fifth_size_of, sizes_check, part_check, program_part_of, bads_part_of, tables_part_of, ceilings_part_of, goes_on, weights_sizes, weights_part_of, nothing_left, parts_check}
use Rattle.model.specs.Demands.{WithinLimits}
use Rattle.model.specs.Refusals.{Behind, here, there, MessagePart, weights_parts, parts, Within, EachWithin, SizesWhole, ArraysWhole, Whole}
use Rattle.model.proofs.Logic.{true_false, test, chosen_true, chosen_false, and_right, and_false_right}
use Rattle.model.proofs.Exact.Tests.{fails_iff, leb_iff, and_iff}
use Rattle.model.proofs.Exact.Checks.{then_iff, then_some, then_some_iff, unless_iff, unless_refutes}

-- the bytes are twice the words, or one more
pub words_length : (bytes : List ℕ) → (2 * length (words bytes) ≤ length bytes) × (length bytes ≤ 2 * length (words bytes) + 1)
unfolding words
words_length [] = (omega arith, omega arith)
words_length (low ∷ []) = (omega arith, omega arith)
words_length (low ∷ high ∷ bytes) = let (a, b) = words_length bytes in (omega arith, omega arith)

-- where the test passes, what the check that follows says
choice_none : (b : Bool) (c : Check) (v : Verdict) → (◌≡◌ {A = Check} (elim b [ true ↦ c | false ↦ some v ]) none) ↔ ((b ≡ true) × (c ≡ none))
choice_none true c v = (λ h. (refl, h), λ h. h.1)
choice_none false c v = (λ h. absurd (some-ne-none v h), λ h. true_false h.0 refl)

within_iff : (l : Limited) → (leb l.least l.size && leb l.size l.most ≡ true) ↔ Within l
within_iff l = and_iff (leb l.least l.size) (leb l.size l.most) (leb_iff l.least l.size) (leb_iff l.size l.most)

sizes_none : (at : ℕ) (ls : List Limited) → (sizes_check at ls ≡ none) ↔ EachWithin ls
unfolding sizes_check
sizes_none at [] = (λ h. tt, λ h. refl)
sizes_none at (l ∷ ls) =
    Iff.trans (choice_none (leb l.least l.size && leb l.size l.most) (sizes_check (at + 1) ls) (Size at))
    (Iff.and (within_iff l) (sizes_none (at + 1) ls))

-- the first size outside its limits
abbrev pub SizeOutside : ℕ → List Limited → Verdict → Type 0
SizeOutside at ls v = (i : ℕ) × (l : Limited) × Behind Within ls i l × (Within l → ⊥) × (Size (at + i) ≡ v)

sizes_stop : (at i : ℕ) (ls : List Limited) (l : Limited) → Behind Within ls i l → (Within l → ⊥) → sizes_check at ls ≡ some (Size (at + i))
unfolding sizes_check
sizes_stop at i ls l (here x xs) n = let z : at ≡ at + 0 = omega arith in rw ((fails_iff _ (within_iff x)).1 n, sizes_check) (ap (λ k. some (Size k)) z)
sizes_stop at i ls l (there y x xs k w b) n =
    let z : at + 1 + k ≡ at + (1 + k) = omega arith in
    rw ((within_iff y).1 w, sizes_check) (sizes_stop (at + 1) k xs x b n ∙ ap (λ j. some (Size j)) z)

sizes_first : (at : ℕ) (ls : List Limited) (v : Verdict) → sizes_check at ls ≡ some v → SizeOutside at ls v
unfolding sizes_check
sizes_first at [] v h = absurd (none-ne-some v h)
sizes_first at (l ∷ ls) v h =
    test (leb l.least l.size && leb l.size l.most)
    (λ e. let (i, x, b, n, q) = sizes_first (at + 1) ls v (rw (e, sizes_check) at h) in
    let z : at + (1 + i) ≡ at + 1 + i = omega arith in
    (1 + i, x, there l x ls i ((within_iff l).0 e) b, n, ap Size z ∙ q))
    (λ e. let z : at + 0 ≡ at = omega arith in
    (0, l, here l ls, (fails_iff _ (within_iff l)).0 e, ap Size z ∙ some-injective (Size at) v (rw (e, sizes_check) at h)))

sizes_some : (at : ℕ) (ls : List Limited) (v : Verdict) → (sizes_check at ls ≡ some v) ↔ SizeOutside at ls v
sizes_some at ls v = (sizes_first at ls v, λ x. let (i, l, b, n, q) = x in sizes_stop at i ls l b n ∙ ap some q)

abbrev pub check_of : List ℕ → MessagePart → Check
check_of ws x = part_check ws x.first x.sizes x.cells

-- a part is whole and its sizes within their limits
part_none : (ws : List ℕ) (x : MessagePart) → (check_of ws x ≡ none) ↔ Whole ws x
unfolding part_check
part_none ws x =
    Iff.trans
    (then_iff _ _ (unless_iff _ _ (leb_iff _ (length ws)))
    (then_iff _ _ (sizes_none x.first x.sizes) (unless_iff _ _ (leb_iff _ (length ws)))))
    (λ h. h.1, λ h. (omega arith, h))

-- "sizes whole, sizes within limits, arrays whole"
abbrev pub PartWrong : List ℕ → MessagePart → Verdict → Type 0
PartWrong ws x v =
    ((SizesWhole ws x → ⊥) × (Length x.first ≡ v)) ⊎
    (SizesWhole ws x × (SizeOutside x.first x.sizes v ⊎ (EachWithin x.sizes × ((ArraysWhole ws x → ⊥) × (Length x.first ≡ v)))))

pub part_some : (ws : List ℕ) (x : MessagePart) (v : Verdict) → (check_of ws x ≡ some v) ↔ PartWrong ws x v
unfolding part_check
part_some ws x v =
    then_some_iff _ _ v (unless_iff _ _ (leb_iff _ (length ws))) (unless_refutes _ _ v (leb_iff _ (length ws)))
    (then_some_iff _ _ v (sizes_none x.first x.sizes) (sizes_some x.first x.sizes v) (unless_refutes _ _ v (leb_iff _ (length ws))))

-- the checks of some parts in order, and then another
abbrev checks_of : List ℕ → List MessagePart → Check → Check
checks_of ws [] last = last
checks_of ws (x ∷ xs) last = check_of ws x >> checks_of ws xs last

abbrev AllWhole : List ℕ → List MessagePart → Type 0
AllWhole ws [] = Unit {0}
AllWhole ws (x ∷ xs) = Whole ws x × AllWhole ws xs

checks_none : (ws : List ℕ) (xs : List MessagePart) (last : Check) → (checks_of ws xs last ≡ none) ↔ (AllWhole ws xs × (last ≡ none))
checks_none ws [] last = (λ h. (tt, h), λ h. h.1)
checks_none ws (x ∷ xs) last =
    Iff.trans (then_iff _ _ (part_none ws x) (checks_none ws xs last)) (λ h. ((h.0, h.1.0), h.1.1), λ h. (h.0.0, (h.0.1, h.1)))

checks_some : (ws : List ℕ) (xs : List MessagePart) (last : Check) (v : Verdict) → checks_of ws xs last ≡ some v → ((k : ℕ) × (x : MessagePart) × Behind (Whole ws) xs k x × (check_of ws x ≡ some v)) ⊎ (AllWhole ws xs × (last ≡ some v))
checks_some ws [] last v h = inr (tt, h)
checks_some ws (x ∷ xs) last v h =
    ⊎_elim (λ e. inl (0, x, here x xs, e))
    (λ y. let w = (part_none ws x).0 y.0 in
    ⊎_elim (λ z. let (k, u, b, e) = z in inl (1 + k, u, there x u xs k w b, e)) (λ z. inr ((w, z.0), z.1)) (checks_some ws xs last v y.1))
    ((then_some _ _ v).0 h)

checks_stop : (ws : List ℕ) (xs : List MessagePart) (last : Check) (v : Verdict) (k : ℕ) (x : MessagePart) → Behind (Whole ws) xs k x → check_of ws x ≡ some v → checks_of ws xs last ≡ some v
checks_stop ws xs last v k x (here y ys) h = (then_some _ _ v).1 (inl h)
checks_stop ws xs last v k x (there z y ys i w b) h = (then_some _ _ v).1 (inr ((part_none ws z).1 w, checks_stop ws ys last v i y b h))

checks_last : (ws : List ℕ) (xs : List MessagePart) (last : Check) (v : Verdict) → AllWhole ws xs → last ≡ some v → checks_of ws xs last ≡ some v
checks_last ws [] last v w h = h
checks_last ws (x ∷ xs) last v w h = (then_some _ _ v).1 (inr ((part_none ws x).1 w.0, checks_last ws xs last v w.1 h))

-- The fifth part: where the ceilings' sizes are not 0, and where no bytes are left, its sizes are 0

fifth_there : (ceilings entries size : ℕ) → eqb (ceilings + entries) 0 ≡ true → fifth_size_of ceilings entries size ≡ size
unfolding fifth_size_of
fifth_there ceilings entries size e = rw (e, fifth_size_of)

fifth_none : (ceilings entries size : ℕ) → eqb (ceilings + entries) 0 ≡ false → fifth_size_of ceilings entries size ≡ 0
unfolding fifth_size_of
fifth_none ceilings entries size e = rw (e, fifth_size_of)

lines_are : (ws : List ℕ) → (sizes ws).lines ≡ fifth_size_of (sizes ws).ceilings (sizes ws).entries (get_or ws (ceilings_offset (sizes ws) + 2) 0)
unfolding sizes ceilings_offset
lines_are ws = refl

weights_are : (ws : List ℕ) → (sizes ws).weights ≡ fifth_size_of (sizes ws).ceilings (sizes ws).entries (get_or ws (ceilings_offset (sizes ws) + 3) 0)
unfolding sizes ceilings_offset
weights_are ws = refl

-- where there are lines, there are no ceilings
pub no_ceilings : (ws : List ℕ) → 1 ≤ (sizes ws).lines → ((sizes ws).ceilings ≡ 0) × ((sizes ws).entries ≡ 0)
no_ceilings ws h =
    let k : ℕ = (sizes ws).ceilings in
    let e : ℕ = (sizes ws).entries in
    test (eqb (k + e) 0)
    (λ b. let z = eqb-true (k + e) 0 b in (omega arith, omega arith))
    (λ b. let z = fifth_none k e (get_or ws (ceilings_offset (sizes ws) + 2) 0) b in absurd (omega (arith, lines_are ws)))

pub end_none : (s : Sizes) → s.lines ≡ 0 → end_of s ≡ weights_offset s
unfolding end_of
end_none s h = chosen_true (eqb s.lines 0) _ _ (eq-eqb s.lines 0 h)

pub end_some : (s : Sizes) → 1 ≤ s.lines → end_of s ≡ weights_offset s + 2 + 2 * s.weights
unfolding end_of
end_some s h = chosen_false (eqb s.lines 0) _ _ (ne_eqb s.lines 0 (λ z. omega arith))

-- the end is past the ceilings
pub end_past : (s : Sizes) → weights_offset s ≤ end_of s
end_past s = elim (dec_lt 0 s.lines) [
  | yes h ↦ omega (arith, end_some s h)
  | no h ↦ omega (arith, end_none s (omega arith))
]

-- no message within the present limits is longer than the longest
pub end_upto : (ws : List ℕ) → WithinLimits present (sizes ws) → end_of (sizes ws) ≤ max_words
unfolding weights_offset ceilings_offset
end_upto ws w = elim (dec_lt 0 (sizes ws).lines) [
  | yes h ↦ let (k, e) = no_ceilings ws h in omega (arith, end_some (sizes ws) h, w)
  | no h ↦ omega (arith, end_none (sizes ws) (omega arith), w)
]

-- no bytes behind the ceilings: no lines and no weights
pub no_fifth : (bytes : List ℕ) → length bytes ≤ 2 * weights_offset (sizes (words bytes)) → ((sizes (words bytes)).lines ≡ 0) × ((sizes (words bytes)).weights ≡ 0)
unfolding weights_offset
no_fifth bytes h =
    let ws : List ℕ = words bytes in
    let k : ℕ = (sizes ws).ceilings in
    let e : ℕ = (sizes ws).entries in
    let at : ℕ = ceilings_offset (sizes ws) in
    test (eqb (k + e) 0)
    (λ b. let z = eqb-true (k + e) 0 b in
    let l = (words_length bytes).0 in
    let p = get_or-eq_default ws 0 {n = at + 2} (omega arith) in
    let q = get_or-eq_default ws 0 {n = at + 3} (omega arith) in
    (lines_are ws ∙ (fifth_there k e (get_or ws (at + 2) 0) b ∙ p), weights_are ws ∙ (fifth_there k e (get_or ws (at + 3) 0) b ∙ q)))
    (λ b. (lines_are ws ∙ fifth_none k e (get_or ws (at + 2) 0) b, weights_are ws ∙ fifth_none k e (get_or ws (at + 3) 0) b))

-- Refusals 1 and 2 of a message
module _ (most : Limits) (bytes : List ℕ) where
  abbrev ws : List ℕ
  ws = words bytes

  abbrev s : Sizes
  s = sizes ws

  -- a message that goes on has bytes behind the ceilings; one that does not has no lines
  on_bytes : goes_on bytes s ≡ true → 2 * weights_offset s < length bytes
  unfolding goes_on
  on_bytes h = ltb-true _ _ (and_right (eqb (s.ceilings + s.entries) 0) _ h)

  off_none : goes_on bytes s ≡ false → (s.lines ≡ 0) × (s.weights ≡ 0)
  unfolding goes_on
  off_none h =
      let k : ℕ = s.ceilings in
      let e : ℕ = s.entries in
      test (eqb (k + e) 0)
      (λ b. no_fifth bytes (ltb-false _ _ (and_false_right (eqb (k + e) 0) _ h b)))
      (λ b. (
        lines_are ws ∙ fifth_none k e (get_or ws (ceilings_offset s + 2) 0) b,
        weights_are ws ∙ fifth_none k e (get_or ws (ceilings_offset s + 3) 0) b,
      ))

  abbrev On : Type 0
  On = goes_on bytes s ≡ true → 1 ≤ s.lines

  -- all parts whole and within their limits
  all_within : AllWhole ws (parts most bytes s) → WithinLimits most s × ((end_of s ≤ length ws) × On)
  unfolding weights_offset ceilings_offset tables_offset bads_offset
  all_within h =
      test (goes_on bytes s)
      (λ b. let w : AllWhole ws (weights_parts true s) = rw b at h.1.1.1.1 in
      let e = end_some s w.0.0.0.0 in
      (omega (arith, h, w), (omega (arith, w, e), λ z. w.0.0.0.0)))
      (λ b. let z = off_none b in
      let e = end_none s z.0 in
      (omega (arith, h, z), (omega (arith, h, e), λ y. true_false y b)))

  within_all : WithinLimits most s → On → 2 * end_of s ≤ length bytes → AllWhole ws (parts most bytes s)
  unfolding weights_offset ceilings_offset tables_offset bads_offset
  within_all w on l =
      let (a, b) = words_length bytes in
      let e = end_past s in
      let fifth : AllWhole ws (weights_parts (goes_on bytes s) s) =
      test (goes_on bytes s)
      (λ g. let z = on g in
      let f = end_some s z in
      rw g (omega (arith, w)))
      (λ g. rw g tt) in
      (omega (arith, w), (omega (arith, w), (omega (arith, w), (omega (arith, w), fifth))))

  parts_are : parts_check most bytes ≡ checks_of ws (parts most bytes s) (nothing_left bytes s)
  unfolding parts_check program_part_of bads_part_of tables_part_of ceilings_part_of weights_part_of ◌>>◌
  parts_are =
      ap (λ c. program_part_of most ws s >> (bads_part_of ws s >> (tables_part_of most ws s >> (ceilings_part_of ws s >> c))))
      (fifth_check (goes_on bytes s) (nothing_left bytes s))
    where
      fifth_check : (on : Bool) (last : Check) → (elim on [ true ↦ part_check ws (weights_offset s) (weights_sizes s) (2 * s.weights) | false ↦ none ] >> last) ≡ checks_of ws (weights_parts on s) last
      fifth_check true last = refl
      fifth_check false last = refl

  pub parts_none : (parts_check most bytes ≡ none) ↔ ((length bytes ≡ 2 * end_of s) × WithinLimits most s)
  unfolding nothing_left
  parts_none =
      Iff.trans (λ h. sym parts_are ∙ h, λ h. parts_are ∙ h)
      (Iff.trans
      (Iff.trans (checks_none ws (parts most bytes s) (nothing_left bytes s))
      (Iff.and Iff.rfl (unless_iff _ _ (leb_iff (length bytes) (2 * end_of s))))) (
        λ h. let (w, (l, on)) = all_within h.0 in let (a, b) = words_length bytes in (omega (arith, h.1), w),
        λ h. let on : On = λ g. elim (dec_lt 0 s.lines) [ yes z ↦ z | no z ↦ absurd (omega (arith, on_bytes g, end_none s (omega arith), h.0)) ] in
            (within_all h.1 on (omega (arith, h.0)), omega (arith, h.0)),
      ))

  pub parts_some : (v : Verdict) → (parts_check most bytes ≡ some v) ↔ (((k : ℕ) × (x : MessagePart) × Behind (Whole ws) (parts most bytes s) k x × PartWrong ws x v) ⊎ (WithinLimits most s × (On × ((2 * end_of s < length bytes) × (Length (end_of s) ≡ v)))))
  unfolding nothing_left
  parts_some v =
      Iff.trans (λ h. sym parts_are ∙ h, λ h. parts_are ∙ h) (
        λ h. ⊎_elim (λ x. let (k, y, b, e) = x in inl (k, y, b, (part_some ws y v).0 e))
            (λ x. let (w, (l, on)) = all_within x.0 in let (n, q) = remain.0 x.1 in inr (w, (on, (omega arith, q))))
            (checks_some ws (parts most bytes s) (nothing_left bytes s) v h),
        ⊎_elim (λ x. let (k, y, b, e) = x in checks_stop ws (parts most bytes s) (nothing_left bytes s) v k y b ((part_some ws y v).1 e))
            (λ x. let (w, (on, (l, q))) = x in checks_last ws (parts most bytes s) (nothing_left bytes s) v (within_all w on (omega arith)) (remain.1 (λ z. omega arith, q))),
      )
    where
      remain : (nothing_left bytes s ≡ some v) ↔ ((length bytes ≤ 2 * end_of s → ⊥) × (Length (end_of s) ≡ v))
      remain = unless_refutes _ (Length (end_of s)) v (leb_iff (length bytes) (2 * end_of s))
