-- Refusal 12 is exact: a ceiling allows counts that meet a bad exactly where its highest counts do.
use Prim.Native.Nat.{ℕ, zero, suc, ◌+◌, ◌≤◌, ◌<◌}
use native.Mathlib.Omega.{arith}
use mathlib.Core.Path.{◌≡◌, refl}
use mathlib.Core.Bool.{Bool, true}
use mathlib.Core.Logic.Iff
use mathlib.Core.Logic.{◌⊎◌, inl, inr, ⊎_elim, ◌↔◌}
use mathlib.Core.Option.{some, none}
use lib.ListN.{replicate}
use lib.Dec.{leb, eqb}
use borrow.Author.Tests.{leb-true, le-leb}
use Rattle.model.specs.declared.Sizes.{Sizes}
use Rattle.model.specs.declared.Verdict.{Verdict}
use Rattle.model.specs.declared.Verdict.TheVariants.{Met}
use Rattle.model.specs.Limits.{omega_limit}
use Rattle.model.specs.Words.{Columns, left, right}
use Rattle.model.specs.Message.{bads_offset}
use Rattle.model.specs.Reader.{first_wrong_of}
use Rattle.model.specs.Rows.{Program}
use Rattle.model.specs.Tables.{Tables}
use Rattle.model.specs.Bads.{Subject, past_heads_of, subject_at, item_at, items_from, items, met, bad, bad_step, bad_row_of}
use Rattle.model.specs.Counters.{counter_count, counts}
use Rattle.model.specs.Markings.{Marking, sum_in}
use Rattle.model.specs.Ceilings.{Ceilings, highest, bad_allowed, met_check_of}
use Rattle.model.specs.Met.{AllMet}
use Rattle.model.specs.Demands.{Under, UnderOne}
use Rattle.model.specs.Refusals.{FirstSuch}
use Rattle.model.proofs.Logic.{test, and_left, and_right, and_intro}
use Rattle.model.proofs.Index.{any_intro, any_elim, total_higher}
use Rattle.model.proofs.Bounded.Under.{below_highest, highest_under_one}
use Rattle.model.proofs.Exact.Tests.{fails_iff}
use Rattle.model.proofs.Exact.Checks.{first_none, first_some}
use Rattle.model.proofs.Exact.Met.{met_exactly}

-- counts that are as high, or past every minimum, meet what the lower ones meet
met_higher : (low high : Subject → ℕ) (rows : Columns) (n r : ℕ) → ((k : Subject) → (low k ≤ high k) ⊎ (omega_limit ≤ high k)) → ((i : ℕ) → right rows i ≤ omega_limit) → met low (items_from rows n r) ≡ true → met high (items_from rows n r) ≡ true
unfolding items_from item_at met
met_higher low high rows zero r higher short h = refl
met_higher low high rows (suc n) r higher short h =
    test (eqb (left rows r) 40)
    (λ e. let both = rw (e, items_from) at h in
    let m : ℕ = past_heads_of rows (r + 2) in
    let reached = leb-true (right rows m) (low (subject_at rows r m)) (and_left _ (met low (items_from rows n (m + 1))) both) in
    let minimum = short m in
    let reaches : right rows m ≤ high (subject_at rows r m) = ⊎_elim (λ z. omega arith) (λ z. omega arith) (higher (subject_at rows r m)) in
    rw (e, items_from)
    (and_intro _ _ (le-leb _ _ reaches) (met_higher low high rows n (m + 1) higher short (and_right (leb (right rows m) (low (subject_at rows r m))) _ both))))
    (λ e. rw (e, items_from))

-- the sums over the counters of an item
sum_higher : (p : Program) (t : Tables) (low high : Marking) (k : Subject) → ((x : ℕ) → x < counter_count p t → (low x ≤ high x) ⊎ (omega_limit ≤ high x)) → (sum_in p t low k ≤ sum_in p t high k) ⊎ (omega_limit ≤ sum_in p t high k)
unfolding sum_in
sum_higher p t low high k higher =
    total_higher 0 (counter_count p t) omega_limit _ _
    (λ x lo hi. test (counts p t k x) (λ e. rw e (higher x hi)) (λ e. rw e (inl (omega arith))))

module _ (p : Program) (t : Tables) (bs : Ceilings) (rows : Columns) where
  -- the counts meet bad number j
  abbrev Meets : Marking → ℕ → Type 0
  Meets m j = met (sum_in p t m) (items p rows j) ≡ true

  abbrev allows : ℕ → Bool
  allows j = bad_allowed p t bs (items p rows j)

  abbrev refusal : Sizes → ℕ → Verdict
  refusal s j = Met (bads_offset s + 2 + bad_row_of p rows j)

  -- counts under a ceiling meet it
  abbrev MetBelow : ℕ → Type 0
  MetBelow j = (m : Marking) × UnderOne bs m × Meets m j

  -- some ceiling allows a bad: its highest counts meet it
  pub bad_allowed_elim : (j : ℕ) → allows j ≡ true → (k : ℕ) × (k < bs.size) × Meets (highest (bs.limit k)) j
  unfolding bad_allowed
  bad_allowed_elim j h = let (k, w, e) = any_elim 0 bs.size _ h in (k, w.1, e)

  module _ (counters : bs.counters ≡ counter_count p t) (short : (i : ℕ) → right rows i ≤ omega_limit) where
    -- what counts under a ceiling meet, its highest counts meet
    pub highest_meet : (k : ℕ) (m : Marking) (j : ℕ) → Under bs k m → Meets m j → Meets (highest (bs.limit k)) j
    unfolding items
    highest_meet k m j u h =
        met_higher (sum_in p t m) (sum_in p t (highest (bs.limit k))) rows _ _
        (λ c. sum_higher p t m (highest (bs.limit k)) c
        (λ y below. ⊎_elim (λ z. inl z) (λ z. inr (omega arith)) (below_highest (bs.limit k) y (m y) (u y (rw counters below)))))
        short h

    -- some ceiling allows a bad exactly where some counts under a ceiling meet it
    pub bad_allowed_iff : (j : ℕ) → (allows j ≡ true) ↔ MetBelow j
    unfolding bad_allowed
    bad_allowed_iff j = (
      λ h. let (k, below, meets) = bad_allowed_elim j h in (highest (bs.limit k), highest_under_one bs k below, meets),
      λ h. let (m, u, meets) = h in any_intro 0 bs.size u.0 _ (omega arith) u.1 (highest_meet u.0 m j u.2 meets),
    )

    -- in bads that are in form, which is what the ceilings say of the bad with this number
    module _ (s : Sizes) (form : first_wrong_of (bad_step p) rows (replicate s.bads bad) ≡ none) where
      abbrev MetUnder : ℕ → Type 0
      MetUnder j = (m : Marking) × UnderOne bs m × AllMet (sum_in p t m) rows j

      allows_iff : (j : ℕ) → j < s.bads → (allows j ≡ true) ↔ MetUnder j
      allows_iff j below =
          Iff.trans (bad_allowed_iff j) (
            λ h. let (m, u, meets) = h in (m, u, (exactly m).0 meets),
            λ h. let (m, u, meets) = h in (m, u, (exactly m).1 meets),
          )
        where
          exactly : (m : Marking) → Meets m j ↔ AllMet (sum_in p t m) rows j
          exactly m = met_exactly p rows s.bads form (sum_in p t m) j below

      pub met_check_exact : (met_check_of s p t bs rows ≡ none) ↔ ((j : ℕ) → j < s.bads → MetUnder j → ⊥)
      unfolding met_check_of
      met_check_exact = first_none s.bads allows _ (λ j below. fails_iff (allows j) (allows_iff j below))

      pub met_check_refuses : (v : Verdict) → (met_check_of s p t bs rows ≡ some v) ↔ ((j : ℕ) × FirstSuch s.bads MetUnder j × (refusal s j ≡ v))
      unfolding met_check_of
      met_check_refuses = first_some s.bads allows allows_iff (refusal s)
