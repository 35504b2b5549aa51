-- No refusal is the verdict safe, so a message is safe exactly where nothing is refused.
use Prim.Native.Nat.{ℕ, ◌+◌}
use mathlib.Core.Path.{◌≡◌, refl, ap, subst}
use mathlib.Core.Bool.{Bool, true, false, ◌&&◌}
use mathlib.Core.Logic.{◌↔◌, ⊎_elim}
use mathlib.Core.List.{List, [], ◌∷◌}
use mathlib.Core.Option.{Option, some, none, map, some-injective, none-ne-some, some-ne-none, map-eq-some_iff}
use lib.ListN.{replicate}
use lib.Dec.{T, leb, ltb, eqb}
use Rattle.model.specs.declared.Sizes.{Sizes}
use Rattle.model.specs.declared.Verdict.{Verdict}
use Rattle.model.specs.declared.Verdict.TheVariants.{Safe, Length, Size, Row, Name, Scope, Bad, Entry, Open, Counters, Ceiling, Start, Met, Leak, Space, FunctionMailed, Weights, Rise, Light}
use Rattle.model.specs.Limits.{Limits}
use Rattle.model.specs.Words.{Columns}
use Rattle.model.specs.Keys.{Key}
use Rattle.model.specs.Verdict.{Check, ◌>>◌, unless, number}
use Rattle.model.specs.Message.{Limited, sizes_check, part_check, program_part_of, bads_part_of, tables_part_of, ceilings_part_of, goes_on, weights_part_of, nothing_left, parts_check, bads_offset, ceilings_offset, weights_offset}
use Rattle.model.specs.Reader.{first_wrong_of}
use Rattle.model.specs.Rows.{Program, step, whole, row_check_of}
use Rattle.model.specs.Scopes.{name_check_of, scope_check_of}
use Rattle.model.specs.Bads.{bad, bad_step, bad_rows, bad_check_of}
use Rattle.model.specs.Tables.{Tables, list_check, entry_check_of, mailed_check_of}
use Rattle.model.specs.Closed.{open_check}
use Rattle.model.specs.Counters.{counter_check_of}
use Rattle.model.specs.Rules.{Rule}
use Rattle.model.specs.Listing.{space_check}
use Rattle.model.specs.Ceilings.{Ceilings, ceiling_entries, ceiling_step, ceilings_ahead, ceiling_check_of, start_check_of, met_check_of, leak_check_of}
use Rattle.model.specs.Weights.{Lines, weight_entries, weight_step, lines_ahead, weight_check_of, rise_check_of, light_check_of}
use Rattle.model.specs.Verify.{Message, program_check, evidence_check, ceilings_check, weights_check, bounds_check, message_check, check, answer, verdict_within}
use Rattle.model.proofs.Logic.{test}
use Rattle.model.proofs.Exact.Checks.{then_some, unless_some}

-- the check never answers safe
abbrev pub Refuses : Check → Type 0
Refuses c = c ≡ some Safe → ⊥

pub then_refuses : (a b : Check) → Refuses a → Refuses b → Refuses (a >> b)
then_refuses a b ha hb h = ⊎_elim ha (λ x. hb x.1) ((then_some a b Safe).0 h)

-- a verdict with a number from 1 on is no safe one
not_safe : (v : Verdict) → T (ltb 0 (number v)) → v ≡ Safe → ⊥
unfolding number
not_safe v h e = subst (λ n. T (ltb 0 n)) (ap number e) h

unless_refuses : (b : Bool) (v : Verdict) → T (ltb 0 (number v)) → Refuses (unless b v)
unless_refuses b v n h = not_safe v n ((unless_some b v Safe).0 h).1

map_refuses : (f : ℕ → Verdict) (o : Option ℕ) → ((r : ℕ) → T (ltb 0 (number (f r)))) → Refuses (map f o)
map_refuses f o n h = let (r, e, q) = (map-eq-some_iff f o).0 h in not_safe (f r) (n r) q

sizes_refuses : (at : ℕ) (ls : List Limited) → Refuses (sizes_check at ls)
unfolding sizes_check number
sizes_refuses at [] h = none-ne-some Safe h
sizes_refuses at (l ∷ ls) h =
    test (leb l.least l.size && leb l.size l.most) (λ e. sizes_refuses (at + 1) ls (rw (e, sizes_check) at h))
    (λ e. not_safe (Size at) tt (some-injective (Size at) Safe (rw (e, sizes_check) at h)))

part_refuses : (ws : List ℕ) (at : ℕ) (ls : List Limited) (n : ℕ) → Refuses (part_check ws at ls n)
unfolding part_check number
part_refuses ws at ls n =
    then_refuses _ _ (unless_refuses _ (Length at) tt)
    (then_refuses _ _ (sizes_refuses at ls) (unless_refuses _ (Length at) tt))

-- of two checks, whichever it is
either_refuses : (b : Bool) (c d : Check) → Refuses c → Refuses d → Refuses (elim b [ true ↦ c | false ↦ d ])
either_refuses true c d hc hd = hc
either_refuses false c d hc hd = hd

weights_refuse : (bytes ws : List ℕ) (s : Sizes) → Refuses (weights_part_of bytes ws s)
unfolding weights_part_of
weights_refuse bytes ws s = either_refuses (goes_on bytes s) _ none (part_refuses _ _ _ _) (none-ne-some Safe)

parts_refuse : (most : Limits) (bytes : List ℕ) → Refuses (parts_check most bytes)
unfolding parts_check program_part_of bads_part_of tables_part_of ceilings_part_of nothing_left number
parts_refuse most bytes =
    then_refuses _ _ (part_refuses _ _ _ _) (then_refuses _ _ (part_refuses _ _ _ _) (then_refuses _ _ (part_refuses _ _ _ _)
    (then_refuses _ _ (part_refuses _ _ _ _) (then_refuses _ _ (weights_refuse _ _ _) (unless_refuses _ (Length _) tt)))))

pub row_refuses : (p : Program) → Refuses (row_check_of p)
unfolding row_check_of number
row_refuses p = map_refuses (λ r. Row (4 + r)) (first_wrong_of (step p) p.rows (whole p)) (λ r. tt)

pub name_refuses : (p : Program) → Refuses (name_check_of p)
unfolding name_check_of number
name_refuses p = then_refuses _ _ (unless_refuses _ (Name _) tt) (unless_refuses _ (Name 1) tt)

scope_refuses : (p : Program) → Refuses (scope_check_of p)
unfolding scope_check_of number
scope_refuses p = unless_refuses _ (Scope _) tt

pub program_refuses : (p : Program) → Refuses (program_check p)
unfolding program_check
program_refuses p = then_refuses _ _ (row_refuses p) (then_refuses _ _ (name_refuses p) (scope_refuses p))

pub bad_refuses : (ws : List ℕ) (s : Sizes) (p : Program) → Refuses (bad_check_of ws s p)
unfolding bad_check_of number
bad_refuses ws s p =
    map_refuses (λ r. Bad (bads_offset s + 2 + r)) (first_wrong_of (bad_step p) (bad_rows ws s) (replicate s.bads bad)) (λ r. tt)

list_refuses : (at n : ℕ) (in_range : ℕ → Bool) (key : ℕ → Key) → Refuses (list_check at n in_range key)
unfolding list_check number
list_refuses at n in_range key = unless_refuses _ (Entry _) tt

pub entry_refuses : (s : Sizes) (p : Program) (t : Tables) → Refuses (entry_check_of s p t)
unfolding entry_check_of
entry_refuses s p t = then_refuses _ _ (list_refuses _ _ _ _) (then_refuses _ _ (list_refuses _ _ _ _) (list_refuses _ _ _ _))

pub open_refuses : (s : Sizes) (p : Program) (t : Tables) → Refuses (open_check s p t)
unfolding open_check number
open_refuses s p t = then_refuses _ _ (unless_refuses _ (Open _) tt) (unless_refuses _ (Open _) tt)

pub mailed_refuses : (s : Sizes) (p : Program) (t : Tables) → Refuses (mailed_check_of s p t)
unfolding mailed_check_of number
mailed_refuses s p t = unless_refuses _ (FunctionMailed _) tt

pub counter_refuses : (most : Limits) (s : Sizes) (p : Program) (t : Tables) → Refuses (counter_check_of most s p t)
unfolding counter_check_of number
counter_refuses most s p t = unless_refuses _ (Counters _) tt

evidence_refuses : (most : Limits) (m : Message) → Refuses (evidence_check most m)
unfolding evidence_check
evidence_refuses most m =
    then_refuses _ _ (bad_refuses _ _ _)
    (then_refuses _ _ (entry_refuses _ _ _)
    (then_refuses _ _ (open_refuses _ _ _) (then_refuses _ _ (mailed_refuses _ _ _) (counter_refuses _ _ _ _))))

pub ceiling_refuses : (ws : List ℕ) (s : Sizes) (counters : ℕ) → Refuses (ceiling_check_of ws s counters)
unfolding ceiling_check_of number
ceiling_refuses ws s counters =
    map_refuses (λ e. Ceiling (ceilings_offset s + 2 + e)) (first_wrong_of (ceiling_step counters) (ceiling_entries ws s) (ceilings_ahead s.ceilings)) (λ r. tt)

pub start_refuses : (s : Sizes) (p : Program) (t : Tables) (bs : Ceilings) → Refuses (start_check_of s p t bs)
unfolding start_check_of number
start_refuses s p t bs = unless_refuses _ (Start _) tt

pub met_refuses : (s : Sizes) (p : Program) (t : Tables) (bs : Ceilings) (rows : Columns) → Refuses (met_check_of s p t bs rows)
unfolding met_check_of number
met_refuses s p t bs rows = unless_refuses _ (Met _) tt

pub ceilings_refuse : (m : Message) → Refuses (ceilings_check m)
unfolding ceilings_check leak_check_of number
ceilings_refuse m =
    then_refuses _ _ (ceiling_refuses _ _ _)
    (then_refuses _ _ (start_refuses _ _ _ _) (then_refuses _ _ (met_refuses _ _ _ _ _) (unless_refuses _ (Leak _) tt)))

pub weight_refuses : (ws : List ℕ) (s : Sizes) (counters : ℕ) → Refuses (weight_check_of ws s counters)
unfolding weight_check_of number
weight_refuses ws s counters =
    map_refuses (λ e. Weights (weights_offset s + 2 + e)) (first_wrong_of (weight_step counters) (weight_entries ws s) (lines_ahead s.lines)) (λ r. tt)

pub rise_refuses : (ws : List ℕ) (s : Sizes) (ls : Lines) (ρs : List Rule) → Refuses (rise_check_of ws s ls ρs)
unfolding rise_check_of number
rise_refuses ws s ls ρs = unless_refuses _ (Rise _) tt

pub light_refuses : (s : Sizes) (p : Program) (t : Tables) (ls : Lines) (rows : Columns) → Refuses (light_check_of s p t ls rows)
unfolding light_check_of number
light_refuses s p t ls rows = unless_refuses _ (Light _) tt

pub weights_check_refuses : (m : Message) → Refuses (weights_check m)
unfolding weights_check
weights_check_refuses m =
    then_refuses _ _ (weight_refuses _ _ _) (then_refuses _ _ (rise_refuses _ _ _ _) (light_refuses _ _ _ _ _))

pub bounds_refuse : (m : Message) → Refuses (bounds_check m)
unfolding bounds_check
bounds_refuse m = either_refuses (eqb m.sizes.lines 0) _ _ (ceilings_refuse m) (weights_check_refuses m)

pub check_refuses : (most : Limits) (bytes : List ℕ) (lent : ℕ) → Refuses (check most bytes lent)
unfolding check message_check space_check number
check_refuses most bytes lent =
    then_refuses _ _ (parts_refuse most bytes)
    (then_refuses _ _ (program_refuses _)
    (then_refuses _ _ (evidence_refuses _ _) (then_refuses _ _ (bounds_refuse _) (unless_refuses _ (Space _) tt))))

pub answer_safe : (c : Check) → Refuses c → (answer c ≡ Safe) ↔ (c ≡ none)
unfolding answer
answer_safe none r = (λ h. refl, λ h. refl)
answer_safe (some v) r = (λ h. absurd (r (ap some h)), λ h. absurd (some-ne-none v h))

pub verdict_safe : (most : Limits) (bytes : List ℕ) (lent : ℕ) → (verdict_within most bytes lent ≡ Safe) ↔ (check most bytes lent ≡ none)
unfolding verdict_within
verdict_safe most bytes lent = answer_safe (check most bytes lent) (check_refuses most bytes lent)
