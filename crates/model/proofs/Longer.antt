-- The promises of specs/Longer.antt: raised limits change nothing but refusals 2 and 9, and what they let through the former gate turns away.
use Prim.Native.Nat.{ℕ, ◌+◌, ◌≤◌, ◌<◌}
use native.Mathlib.Omega.{arith}
use mathlib.Core.Path.{◌≡◌, refl, sym, ◌∙◌, ap}
use mathlib.Core.Bool.{false}
use mathlib.Core.Logic.{◌⊎◌, inl, inr, ⊎_elim}
use mathlib.Core.List.{List, ◌∷◌}
use mathlib.Core.Option.{some, none, none-ne-some}
use lib.ListN.{length}
use lib.Dec.{leb}
use Rattle.model.specs.declared.Sizes.{Sizes}
use Rattle.model.specs.declared.Verdict.{Verdict}
use Rattle.model.specs.declared.Verdict.TheVariants.{Safe, Size, Counters}
use Rattle.model.specs.Limits.{Limits, former, present}
use Rattle.model.specs.Words.{words}
use Rattle.model.specs.Verdict.{Check, ◌>>◌, number}
use Rattle.model.specs.Message.{Limited, limited, tables_offset, sizes, sizes_check, part_check, program_part_of, tables_part_of, parts_check}
use Rattle.model.specs.Rows.{Program}
use Rattle.model.specs.Tables.{Tables}
use Rattle.model.specs.Counters.{counter_count, counter_check_of, counters_within}
use Rattle.model.proofs.Numbering.Within.{within_iff}
use Rattle.model.specs.Verify.{Message, message, evidence_check, message_check, check, answer, verdict_within, lent_after_within, part_handed_within}
use Rattle.model.specs.Longer.{ByLimit, Wider, Kept, Passes, TurnedAway, MessagesKept, LongerTurnedAway}
use Rattle.model.proofs.Logic.{test}
use Rattle.model.proofs.Exact.Tests.{leb_iff, fails_iff}
use Rattle.model.proofs.Exact.Checks.{unless_none, unless_some}
use Rattle.model.proofs.Exact.Answer.{verdict_safe}
use Rattle.model.proofs.Exact.Sound.{Formed, check_none}

-- of two checks the second says what the first says, or the first refuses by a limit
abbrev Raised : Check → Check → Type 0
Raised a b = ((v : Verdict) × (a ≡ some v) × ByLimit v) ⊎ (b ≡ a)

then_raised : (a : Check) {b a' b' : Check} → Raised a a' → Raised b b' → Raised (a >> b) (a' >> b')
unfolding ◌>>◌
then_raised (some w) (inl x) r = inl x
then_raised (some w) (inr e) r = inr (rw e)
then_raised none (inl (v, e, l)) r = absurd (none-ne-some v e)
then_raised none (inr e) (inl x) = inl x
then_raised none (inr e) (inr f) = inr (rw e f)

same : (a : Check) → Raised a a
same a = inr refl

-- one size within its limits
size_raised : (at size least few many : ℕ) (ls ls' : List Limited) → few ≤ many → Raised (sizes_check (at + 1) ls) (sizes_check (at + 1) ls') → Raised (sizes_check at (limited size least few ∷ ls)) (sizes_check at (limited size least many ∷ ls'))
unfolding sizes_check number
size_raised at size least few many ls ls' w r =
    test (leb least size)
    (λ a. test (leb size few)
    (λ b. let c = (leb_iff size many).1 (omega (arith, (leb_iff size few).0 b)) in rw (a, b, c, sizes_check) r)
    (λ b. inl (Size at, rw (a, b, sizes_check), inl refl)))
    (λ a. inl (Size at, rw (a, sizes_check), inl refl))

-- a test that fails
past : (a b : ℕ) → leb a b ≡ false → b < a
past a b h = omega (arith, (fails_iff (leb a b) (leb_iff a b)).0 h)

-- safe is no refusal by a limit
safe_by_none : (v : Verdict) → v ≡ Safe → ByLimit v → ⊥
unfolding number
safe_by_none v e (inl h) = omega (arith, sym (ap number e) ∙ h)
safe_by_none v e (inr h) = omega (arith, sym (ap number e) ∙ h)

module _ (few many : Limits) (wider : Wider few many) where
  program_raised : (ws : List ℕ) (s : Sizes) → Raised (program_part_of few ws s) (program_part_of many ws s)
  unfolding program_part_of part_check
  program_raised ws s = then_raised _ (same _) (then_raised _ (size_raised _ _ _ _ _ _ _ wider.rows (same _)) (same _))

  tables_raised : (ws : List ℕ) (s : Sizes) → Raised (tables_part_of few ws s) (tables_part_of many ws s)
  unfolding tables_part_of part_check
  tables_raised ws s =
      then_raised _ (same _)
      (then_raised _ (size_raised _ _ _ _ _ _ _ (omega arith) (size_raised _ _ _ _ _ _ _ (omega arith) (size_raised _ _ _ _ _ _ _ wider.states (same _)))) (same _))

  parts_raised : (bytes : List ℕ) → Raised (parts_check few bytes) (parts_check many bytes)
  unfolding parts_check
  parts_raised bytes =
      let ws : List ℕ = words bytes in
      let s : Sizes = sizes ws in
      then_raised _ (program_raised ws s) (then_raised _ (same _) (then_raised _ (tables_raised ws s) (same _)))

  counter_raised : (s : Sizes) (p : Program) (t : Tables) → Raised (counter_check_of few s p t) (counter_check_of many s p t)
  unfolding counter_check_of number
  counter_raised s p t =
      test (counters_within few.counters p t)
      (λ a. let c = (within_iff p t many.counters).1 (omega (arith, (within_iff p t few.counters).0 a, wider.counters)) in
      inr ((unless_none _ _).1 c ∙ sym ((unless_none _ _).1 a)))
      (λ a. inl (Counters (tables_offset s + 2), (unless_some _ _ _).1 (a, refl), inr refl))

  check_raised : (bytes : List ℕ) (lent : ℕ) → Raised (check few bytes lent) (check many bytes lent)
  unfolding check message_check evidence_check
  check_raised bytes lent =
      then_raised _ (parts_raised bytes)
      (then_raised _ (same _)
      (then_raised _ (then_raised _ (same _) (then_raised _ (same _) (then_raised _ (same _) (then_raised _ (same _) (counter_raised _ _ _))))) (same _)))

  -- two gates agree, or the one of fewer refuses by a limit
  verdict_raised : (bytes : List ℕ) (lent : ℕ) → ByLimit (verdict_within few bytes lent) ⊎ (verdict_within many bytes lent ≡ verdict_within few bytes lent)
  unfolding verdict_within answer
  verdict_raised bytes lent =
      ⊎_elim (λ x. let (v, e, l) = x in inl (rw (e, answer) l)) (λ e. inr (ap answer e)) (check_raised bytes lent)

  pub kept : Kept few many
  unfolding lent_after_within part_handed_within
  kept bytes lent other =
      ⊎_elim (λ l. absurd (other l))
      (λ e. record { number = ap number e; place = rw e; part = rw e; lent_words = rw e })
      (verdict_raised bytes (length lent))

  -- a message that the gate of fewer finds safe passes none of its limits
  none_passed : (bytes : List ℕ) → Formed few bytes → Passes few (message bytes) → ⊥
  none_passed bytes f (inl h) = omega (arith, f.limits.rows)
  none_passed bytes f (inr (inl h)) = omega (arith, f.limits.states)
  none_passed bytes f (inr (inr h)) = omega (arith, f.counters)

  -- what is formed within the greater limits is so within the fewer, or passes one of them
  formed_or_passed : (bytes : List ℕ) → Formed many bytes → Formed few bytes ⊎ Passes few (message bytes)
  formed_or_passed bytes f =
      let m : Message = message bytes in
      test (leb m.sizes.rows few.rows)
      (λ a. test (leb m.sizes.states few.states)
      (λ b. test (leb (counter_count m.program m.tables) few.counters)
      (λ c. let l = f.limits in
      inl (record {
        whole = f.whole;
        limits = record {
          rows = (l.rows.0, (leb_iff _ _).0 a);
          names = l.names;
          constructors = l.constructors;
          functions = l.functions;
          bads = l.bads;
          badrows = l.badrows;
          flows = l.flows;
          mails = l.mails;
          states = (leb_iff _ _).0 b;
          ceilings = l.ceilings;
          entries = l.entries;
          lines = l.lines;
          weights = l.weights;
        };
        program = f.program;
        form = f.form;
        closed = f.closed;
        mailed = f.mailed;
        counters = (leb_iff _ _).0 c;
      }))
      (λ c. inr (inr (inr (past _ _ c)))))
      (λ b. inr (inr (inl (past _ _ b)))))
      (λ a. inr (inl (past _ _ a)))

  pub turned_away : TurnedAway few many
  unfolding number
  turned_away bytes lent safe =
      let (f, rest) = (check_none many bytes lent).0 ((verdict_safe many bytes lent).0 safe) in (
        λ h. ⊎_elim (λ l. l)
            (λ e. absurd (none_passed bytes ((check_none few bytes lent).0 ((verdict_safe few bytes lent).0 (sym e ∙ safe))).0 h))
            (verdict_raised bytes lent),
        λ h. ⊎_elim (λ g. absurd (safe_by_none (verdict_within few bytes lent) ((verdict_safe few bytes lent).1 ((check_none few bytes lent).1 (g, rest))) h))
            (λ x. x)
            (formed_or_passed bytes f),
      )

wider : Wider former present
wider = record { rows = omega arith; states = omega arith; counters = omega arith }

-- Document 02, (vi)
pub messages_kept : MessagesKept
messages_kept = kept former present wider

pub longer_turned_away : LongerTurnedAway
longer_turned_away = turned_away former present wider
